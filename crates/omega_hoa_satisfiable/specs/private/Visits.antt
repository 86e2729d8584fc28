-- The most steps that a search visits from each place, if no assumption rules out a branch.
use Rattle.std.specs.Prelude.{◌≡◌, ℕ, ◌+◌, List, reverse, sum_by}
use Rattle.omega_hoa_satisfiable.specs.declared.branches.Later.{Later}
use Rattle.omega_hoa_satisfiable.specs.declared.steps.Step.{Step}
use Rattle.omega_hoa_satisfiable.specs.declared.steps.Step.TheVariants.{Done, Either, Stuck, Try}
use Rattle.omega_hoa_satisfiable.specs.private.Among.{among}

-- the most steps that are visited from a step on, if `onward` says how many are from each place
abbrev pub visits_by : (ℕ → ℕ) → Step → ℕ
visits_by onward Done = 1
visits_by onward Stuck = 1
visits_by onward (Either one other) = 1 + onward one + onward other
visits_by onward (Try literal) = 1 + onward literal.next + onward literal.otherwise

-- the most steps that are visited from a place on
abbrev pub visits : List Step → ℕ → ℕ
visits steps place = among 1 visits_by (reverse steps) place

-- from a place of the new steps as many are visited as by a step that goes on at the old ones
abbrev pub VisitsBy : List Step → List Step → ℕ → Step → Type 0
VisitsBy old new place step = visits new place ≡ visits_by (visits old) step

-- the most steps that are visited in pending branches
abbrev pub pending_visits : (ℕ → ℕ) → List Later → ℕ
pending_visits onward later = sum_by (λ next. onward next.place) later
