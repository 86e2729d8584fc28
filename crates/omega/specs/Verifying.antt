-- What `omega_verify` leaves.
use Rattle.std.specs.Prelude.{◌≡◌, ◌⊎◌, ℕ, List, None}
use Rattle.omega_game_values.specs.Solution.{IsSolution}
use Rattle.omega_arrays.specs.declared.fault.ArrayFault.{ArrayFault}
use Rattle.omega_arrays.specs.declared.judging.Verdict.{Verdict}
use Rattle.omega_arrays.specs.Answer.{solution_in, wrong_answer}
use Rattle.omega_arrays.specs.Arrays.{GameArrays, nodes_in}
use Rattle.omega_arrays.specs.Judging.{IsJudgement, IsArraysJudgingRefusal}
use Rattle.omega_arrays.specs.Shape.{IsSized}
use Rattle.omega_arrays.specs.Solving.{or_shape}
use Rattle.omega.specs.declared.outcome.Outcome.{Outcome}
use Rattle.omega.specs.Outcome.{given, outcome_of}

-- the arrays hold a solution of the game, and it was judged
pub record IsVerified (a : GameArrays) (winners choices : List ℕ) (verdict : Verdict)
    (stem stem' cycle cycle' : List ℕ) : Type 0 where
  pub shape : wrong_answer a winners choices ≡ None
  pub sized : IsSized a
  pub solution : IsSolution (nodes_in a) (solution_in winners choices)
  pub judged : IsJudgement (nodes_in a) (solution_in winners choices) verdict stem stem' cycle cycle'

-- it was refused, and nothing was written
pub record IsVerifyRefused (a : GameArrays) (winners choices : List ℕ) (outcome : Outcome)
    (verdict verdict' : Verdict) (stem stem' cycle cycle' : List ℕ) : Type 0 where
  pub fault : ArrayFault
  pub outcome_is : outcome ≡ outcome_of fault
  pub refused : or_shape (wrong_answer a winners choices)
      (IsArraysJudgingRefusal a winners choices) fault
  pub verdict_kept : verdict' ≡ verdict
  pub stem_kept : stem' ≡ stem
  pub cycle_kept : cycle' ≡ cycle

-- what `omega_verify` leaves
abbrev pub IsVerifyOutcome : GameArrays → (winners choices : List ℕ) → Outcome
    → (verdict verdict' : Verdict) → (stem stem' cycle cycle' : List ℕ) → Type 0
IsVerifyOutcome a winners choices outcome verdict verdict' stem stem' cycle cycle' =
    ((outcome ≡ given) × IsVerified a winners choices verdict' stem stem' cycle cycle')
    ⊎ IsVerifyRefused a winners choices outcome verdict verdict' stem stem' cycle cycle'
