-- What a question states of the propositions that its item lists.
use Rattle.std.proofs.Common.{◌≡◌, ℕ, List, subst, sym}
use Rattle.omega_synth_controllers.specs.Controllable.{IsStated}
use Rattle.omega_answers_synth.specs.declared.question.Question.{Question}
use Rattle.omega_answers_synth.specs.private.Question.{IsQuestion}

-- the same numbers are stated, however they are handed on
pub stated_as : (text : List ℕ) (question : Question) (listed : List ℕ) → IsQuestion text question → listed ≡ question.controlled
    → IsStated question.automaton listed
stated_as text question listed asked same = subst (λ (numbers : List ℕ). IsStated question.automaton numbers) (sym same) asked.stated
