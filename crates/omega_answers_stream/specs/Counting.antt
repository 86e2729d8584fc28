-- The number of automata of a stream.
use Rattle.std.specs.Prelude.{◌≡◌, ℕ, Bool, true, false, List}
use Rattle.std.specs.List.{count_by}
use Rattle.omega_hoa.specs.Stream.{IsStreamText}
use Rattle.omega_hoa.specs.declared.item.Item.{Item}
use Rattle.omega_hoa.specs.declared.item.Item.TheVariants.{Aborted, Automaton}

-- an aborted segment is no automaton
abbrev pub is_automaton : Item → Bool
is_automaton (Automaton automaton) = true
is_automaton Aborted = false

-- the number of automata among the items of a stream
abbrev pub automata_in : List Item → ℕ
automata_in items = count_by is_automaton items

-- the text is that of a stream of so many automata
pub record HasAutomata (text : List ℕ) (count : ℕ) : Type 0 where
  pub items : List Item
  pub read : IsStreamText text items
  pub counted : count ≡ automata_in items
