-- Steps of a search, and which valuations lead from a place among them to the end.
use Rattle.std.specs.Prelude.{◌≡◌, ℕ, ◌<◌, ◌≤◌, Bool, true, false, not}
use Rattle.std.specs.Prelude.{◌&&◌, ◌||◌, List, [], ◌∷◌, length, reverse}
use Rattle.omega_hoa_satisfiable.specs.declared.steps.Literal.{Literal}
use Rattle.omega_hoa_satisfiable.specs.declared.steps.Step.{Step}
use Rattle.omega_hoa_satisfiable.specs.declared.steps.Step.TheVariants.{Done, Either, Stuck, Try}
use Rattle.omega_hoa_satisfiable.specs.private.Among.{among}
use Rattle.omega_hoa_satisfiable.specs.private.Visits.{visits}

-- whether a truth value is the wanted one
abbrev pub is_as : Bool → Bool → Bool
is_as true value = value
is_as false value = not value

-- whether a valuation leads to the end by a step, if `onward` says from which places it does
abbrev pub leads_by : (ℕ → Bool) → (ℕ → Bool) → Step → Bool
leads_by held onward Done = true
leads_by held onward Stuck = false
leads_by held onward (Either one other) = onward one || onward other
leads_by held onward (Try literal) =
    (is_as literal.sign (held literal.proposition) && onward literal.next) || onward literal.otherwise

-- whether a valuation leads from a place to the end, by the steps in reverse order
abbrev pub leads_among : (ℕ → Bool) → List Step → ℕ → Bool
leads_among held = among false (leads_by held)

-- whether a valuation leads from a place to the end
abbrev pub leads : (ℕ → Bool) → List Step → ℕ → Bool
leads held steps place = leads_among held (reverse steps) place

-- some valuation leads from a place to the end
abbrev pub ReachesEnd : List Step → ℕ → Type 0
ReachesEnd steps place = (held : ℕ → Bool) × (leads held steps place ≡ true)

-- each valuation leads from a place to the end
abbrev pub IsEnd : List Step → ℕ → Type 0
IsEnd steps place = (held : ℕ → Bool) → leads held steps place ≡ true

-- from a place of the new steps a valuation leads to the end exactly if it does by a step that goes on at the old ones
abbrev pub LeadsBy : List Step → List Step → ℕ → Step → Type 0
LeadsBy old new place step =
    (held : ℕ → Bool) → leads held new place ≡ leads_by held (leads held old) step

-- the places of a literal are before it, and it is whole only if each valuation that leads to the end from its other
-- place also does from its next one
pub record IsLiteral (count : ℕ) (leading : (ℕ → Bool) → ℕ → Bool) (literal : Literal) : Type 0 where
  pub next_before : literal.next < count
  pub otherwise_before : literal.otherwise < count
  pub whole_is :
      literal.whole ≡ true → (held : ℕ → Bool)
      → leading held literal.otherwise ≡ true → leading held literal.next ≡ true

-- a step may come after `count` others, from which valuations lead to the end as `leading` says
abbrev pub IsStep : ℕ → ((ℕ → Bool) → ℕ → Bool) → Step → Type 0
IsStep count leading Done = Unit {0}
IsStep count leading Stuck = Unit {0}
IsStep count leading (Either one other) = (one < count) × (other < count)
IsStep count leading (Try literal) = IsLiteral count leading literal

-- a step may come after these
abbrev pub MayFollow : List Step → Step → Type 0
MayFollow steps step = IsStep (length steps) (λ held. leads held steps) step

-- each step may come after those before it, in reverse order
abbrev pub AreSteps : List Step → Type 0
AreSteps [] = Unit {0}
AreSteps (step ∷ earlier) =
    IsStep (length earlier) (λ held. leads_among held earlier) step × AreSteps earlier

-- each step goes on at earlier ones; from the first one no valuation leads to the end, and no other step is visited
pub record ArePlanned (steps : List Step) : Type 0 where
  pub are : AreSteps (reverse steps)
  pub stuck : (held : ℕ → Bool) → leads held steps 0 ≡ false
  pub stuck_visited : visits steps 0 ≡ 1
  pub some : 0 < length steps

-- from each place of the old steps the same valuations lead to the end by the new ones, and as many steps are visited
pub record IsKept (old new : List Step) : Type 0 where
  pub longer : length old ≤ length new
  pub same : (held : ℕ → Bool) (place : ℕ) → place < length old
      → leads held new place ≡ leads held old place
  pub visited : (place : ℕ) → place < length old → visits new place ≡ visits old place
