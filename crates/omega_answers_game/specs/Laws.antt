-- Laws of the answers of `solve` and `verify` together, whatever the code does.
use Rattle.std.specs.Prelude.{◌≡◌, ◌≤◌, Bool, List, Option, ℕ, codes, length}
use Rattle.omega_text.specs.Limits.{most_text}
use Rattle.omega_text.specs.declared.refusal.Refusal.{Refusal}
use Rattle.omega_game_values.specs.declared.player.Player.{Player}
use Rattle.omega_io.specs.declared.exit.Exit.{Exit}
use Rattle.omega_io.specs.declared.exit.Exit.TheVariants.{Done}
use Rattle.omega_answers_game.specs.Verify.{IsVerifyAnswer, IsVerifyRefusal}
use Rattle.omega_answers_game.specs.declared.solve.asked.Asked.{Asked}
use Rattle.omega_answers_game.specs.solve.Refusing.{IsSolvedFor}
use Rattle.omega_answers_game.specs.solve.Solving.{IsSolveAnswer}

-- the output is what `solve` writes for both players, of a game or of the part that a node reaches, and is short enough
-- for `verify` to read
pub record IsSolved (text : List ℕ) (from : Option ℕ) (output : List ℕ) : Type 0 where
  pub asked : Asked
  pub both : (player : Player) → IsSolvedFor asked player
  pub budget : ℕ
  pub answer : IsSolveAnswer text asked from budget output
  pub short : length output ≤ most_text

-- `verify` judges what `solve` writes for both players to be right, for the same game or the part that the same node
-- reaches
abbrev pub SolvedIsVerified : Type 0
SolvedIsVerified = (text : List ℕ) (from : Option ℕ) (solved : List ℕ) (explain : Bool)
    (exit : Exit) (output : List ℕ)
    → IsSolved text from solved → IsVerifyAnswer text from solved explain exit output
    → (exit ≡ Done) × (output ≡ codes "yes\n")

-- `verify` does not refuse it
abbrev pub SolvedIsNotRefused : Type 0
SolvedIsNotRefused =
    (text : List ℕ) (from : Option ℕ) (solved : List ℕ) (refusal : Refusal)
    → IsSolved text from solved → IsVerifyRefusal text from solved refusal → ⊥
