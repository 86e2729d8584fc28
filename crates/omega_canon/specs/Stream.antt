-- The canonical text of a stream: the canonical texts of its automata one after the other;
-- segments that are aborted are left out.
use Rattle.std.specs.Prelude.{ℕ, List, [], ◌∷◌}
use Rattle.std.specs.List.{flat_map}
use Rattle.omega_hoa.specs.declared.item.Item.{Item}
use Rattle.omega_hoa.specs.declared.item.Item.TheVariants.{Aborted, Automaton}
use Rattle.omega_canon.specs.Canonical.{canonical_automaton}

-- the canonical text of an automaton, and nothing of a segment that is aborted
abbrev pub canonical_item : Item → List ℕ
canonical_item (Automaton a) = canonical_automaton a
canonical_item Aborted = []

-- those of all items
abbrev pub canonical_stream : List Item → List ℕ
canonical_stream items = flat_map canonical_item items

-- the items that are automata, in their order
abbrev pub automata_in : List Item → List Item
automata_in [] = []
automata_in (Automaton a ∷ items) = Automaton a ∷ automata_in items
automata_in (Aborted ∷ items) = automata_in items
