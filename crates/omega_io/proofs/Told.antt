-- What is told of an answer.
use Rattle.std.proofs.Common.{◌≡◌, ℕ, List, subst}
use Rattle.omega_io.specs.Answer.{IsReply}
use Rattle.omega_io.specs.declared.answer.Answer.{Answer}
use Rattle.omega_io.specs.declared.exit.Exit.{Exit}

-- the same is told of the same answer
pub told : (made answer : Answer) (exit : Exit) (output : List ℕ) → made ≡ answer → IsReply made exit output → IsReply answer exit output
told made answer exit output same reply = subst (λ (a : Answer). IsReply a exit output) same reply
