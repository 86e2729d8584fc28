-- Which propositions the system controls in a controller for a specification: those that the controller's item
-- `controllable-AP:` lists. If the specification has the item too, it has to say the same of the names that both have:
-- else the controller would control what the specification leaves to the environment.
use Rattle.std.specs.Prelude.{◌≡◌, ◌↔◌, ◌⊎◌, ℕ, true, List, [], ◌++◌, Contains, Some, map, slice_get, slice_index_or}
use Rattle.omega_text.specs.declared.refusal.Refusal.TheVariants.{Memory, Task}
use Rattle.omega_text.specs.declared.refusal.task.TaskFault.TheVariants.{Controllable}
use Rattle.omega_hoa_automaton.specs.Automaton.{Description}
use Rattle.omega_io.specs.Refused.{about, about_none}
use Rattle.omega_io.specs.declared.refused.Refused.{Refused}
use Rattle.omega_io.specs.declared.refused.Which.{Which}
use Rattle.omega_io.specs.declared.refused.Which.TheVariants.{File, Input}
use Rattle.omega_synth_controllers.specs.Controllable.{HasControlled, IsControlled, has_item}

-- the system controls propositions of the two that have one name both in the one and in the other, or in neither
abbrev pub AreAlike : (ones others : List (List ℕ)) → (controlled also_controlled : List ℕ) → Type 0
AreAlike ones others controlled also_controlled =
    (p q : ℕ) (name : List ℕ) → slice_get ones p ≡ Some name → slice_get others q ≡ Some name
    → Contains controlled p ↔ Contains also_controlled q

-- the system controls these propositions of the controller, as its item says. The specification misstates none, and if
-- it has the item, both say the same of the names that both have
pub record AreControlledAlike (specification controller : Description) (controlled : List ℕ) : Type 0 where
  pub own : IsControlled controller controlled
  pub stated : List ℕ
  pub other : IsControlled specification stated
  pub alike : has_item specification ≡ true
      → AreAlike specification.propositions controller.propositions stated controlled

-- why the two do not say which propositions the system controls, by the text that is at fault: the item of the
-- specification, or else that of the other, or else the two say different things of one name
pub data IsUnparted (specification other : Description) : Which → Type 0 where
  misstated : ¬ HasControlled specification → IsUnparted specification other File
  other_misstated : HasControlled specification → ¬ HasControlled other
      → IsUnparted specification other Input
  unlike : (stated controlled : List ℕ) → IsControlled specification stated
      → IsControlled other controlled → has_item specification ≡ true
      → ¬ AreAlike specification.propositions other.propositions stated controlled
      → IsUnparted specification other Input

-- that is refused, or memory is wanting
abbrev pub IsPartingRefused : Description → Description → Refused → Type 0
IsPartingRefused specification other refused = (refused ≡ about_none Memory)
    ⊎ ((text : Which) × IsUnparted specification other text × (refused ≡ about text (Task Controllable)))

-- the names of the propositions with these numbers
abbrev pub names_at : List (List ℕ) → List ℕ → List (List ℕ)
names_at names numbers = map (λ number. slice_index_or names number []) numbers

-- the system controls the propositions of these names: those that the item of the specification lists, and those that
-- the item of the other lists. If the specification has the item, both say the same of the names that both have
pub record AreSystemNames (specification other : Description) (names : List (List ℕ)) : Type 0 where
  pub stated : List ℕ
  pub specified : IsControlled specification stated
  pub controlled : List ℕ
  pub own : IsControlled other controlled
  pub alike : has_item specification ≡ true
      → AreAlike specification.propositions other.propositions stated controlled
  pub are : names ≡ names_at specification.propositions stated ++ names_at other.propositions controlled
