-- The answer of `show --json` for a stream of automata: a JSON object on a line for each item.
use Rattle.std.specs.Prelude.{ℕ, List, ◌++◌, codes, decimal, length}
use Rattle.omega_hoa_acceptance.specs.Acceptance.{AccTree}
use Rattle.omega_hoa_acceptance.specs.Writing.{acc_text}
use Rattle.omega_hoa_automaton.specs.Automaton.{Description, edge_count}
use Rattle.omega_hoa.specs.declared.item.Item.{Item}
use Rattle.omega_hoa.specs.declared.item.Item.TheVariants.{Aborted, Automaton}
use Rattle.omega_answers_stream.specs.Telling.{IsTelling}
use Rattle.omega_answers_stream.specs.Show.{count_text}

-- the member `acceptance`: the formula between quotes, which no byte of it ends
abbrev pub acceptance_member : AccTree → List ℕ
acceptance_member formula = codes ",\"acceptance\":\"" ++ ((acc_text formula).bytes ++ codes "\"")

-- the members of an automaton: its numbers of states, edges, propositions and sets, and its acceptance formula
abbrev pub size_members : Description → List ℕ
size_members a =
    count_text (codes ",\"states\":") a.states ++ (count_text (codes ",\"edges\":") (edge_count a)
    ++ (count_text (codes ",\"propositions\":") (length a.propositions)
    ++ (count_text (codes ",\"sets\":") a.sets ++ acceptance_member a.acceptance)))

-- the members of an item after its number
abbrev pub item_members : Item → List ℕ
item_members (Automaton automaton) = size_members automaton
item_members Aborted = codes ",\"aborted\":true"

-- the line of an item: an object of its number and its other members
abbrev pub object_line : ℕ → Item → List ℕ
object_line number item =
    codes "{\"automaton\":" ++ decimal number ++ item_members item ++ codes "}\n"

-- the answer of `show --json`: the text is that of a stream, and the objects of its items are written
abbrev pub IsStreamShowJsonAnswer : List ℕ → List ℕ → Type 0
IsStreamShowJsonAnswer = IsTelling object_line
