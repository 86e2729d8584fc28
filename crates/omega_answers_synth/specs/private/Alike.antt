-- What two items say of one name.
use Rattle.std.specs.Prelude.{◌≡◌, ◌↔◌, ℕ, ◌<◌, ◌&&◌, Bool, true, not, if◌then◌else◌}
use Rattle.std.specs.Prelude.{List, Contains, IsTrue, Some, slice_get}
use Rattle.std.specs.Str.{bytes_eq}
use Rattle.omega_graph.specs.Graph.{listed}
use Rattle.omega_hoa_automaton.specs.Automaton.{Description}
use Rattle.omega_synth_controllers.specs.Controllable.{IsControlled, has_item}
use Rattle.omega_answers_synth.specs.Parting.{AreAlike}
use Rattle.omega_answers_synth.specs.declared.parting.PartedNumbers.{PartedNumbers}

-- the system controls the propositions of a name below the end exactly if it is `controlled`
abbrev pub IsAlikeBelow : (end : ℕ) → (name : List ℕ) → (others : List (List ℕ))
    → (controlled : Bool) → (also_controlled : List ℕ) → Type 0
IsAlikeBelow end name others controlled also_controlled = (q : ℕ) → q < end
    → slice_get others q ≡ Some name → IsTrue controlled ↔ Contains also_controlled q

-- the system controls all propositions of a name exactly if it is `controlled`
abbrev pub IsAlike : (name : List ℕ) → (others : List (List ℕ)) → (controlled : Bool)
    → (also_controlled : List ℕ) → Type 0
IsAlike name others controlled also_controlled =
    (q : ℕ) → slice_get others q ≡ Some name → IsTrue controlled ↔ Contains also_controlled q

-- of propositions of the ones below the end, the system controls those of one name in both or in neither
abbrev pub AreAlikeBelow : (end : ℕ) → (ones others : List (List ℕ))
    → (controlled also_controlled : List ℕ) → Type 0
AreAlikeBelow end ones others controlled also_controlled =
    (p : ℕ) (name : List ℕ) → p < end → slice_get ones p ≡ Some name
    → IsAlike name others (listed controlled p) also_controlled

-- whether a name is the other, and the one is controlled where the other is not
abbrev pub is_unlike : (other name : List ℕ) → (other_controlled controlled : Bool) → Bool
is_unlike other name other_controlled controlled =
    if controlled then bytes_eq other name && not other_controlled
    else bytes_eq other name && other_controlled

-- the system controls the propositions with these numbers in a specification and in another automaton, and both say the
-- same of the names that both have, if the specification has the item
pub record ArePartedAlike (specification other : Description) (parted : PartedNumbers) : Type 0 where
  pub own : IsControlled other parted.controlled
  pub specified : IsControlled specification parted.stated
  pub alike : has_item specification ≡ true
      → AreAlike specification.propositions other.propositions parted.stated parted.controlled
