-- What the places of steps have, by what each step has.
use Rattle.std.specs.Prelude.{ℕ, ◌==◌, if◌then◌else◌, List, [], ◌∷◌, length}
use Rattle.omega_hoa_satisfiable.specs.declared.steps.Step.{Step}

-- what a place has, by the steps in reverse order: `of_step` says what a step has by what earlier places have, and a
-- place without a step has `nothing`
abbrev pub among : {X : Type 0} → X → ((ℕ → X) → Step → X) → List Step → ℕ → X
among nothing of_step [] place = nothing
among nothing of_step (step ∷ earlier) place =
    if place == length earlier then of_step (among nothing of_step earlier) step
    else among nothing of_step earlier place
