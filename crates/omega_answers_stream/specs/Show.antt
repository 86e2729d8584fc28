-- The answer of `show` for a stream of automata: a line for each item.
use Rattle.std.specs.Prelude.{ℕ, List, ◌++◌, codes, decimal, length}
use Rattle.omega_hoa_acceptance.specs.Acceptance.{AccTree}
use Rattle.omega_hoa_acceptance.specs.Writing.{acc_text}
use Rattle.omega_hoa_automaton.specs.Automaton.{Description, edge_count}
use Rattle.omega_hoa.specs.declared.item.Item.{Item}
use Rattle.omega_hoa.specs.declared.item.Item.TheVariants.{Aborted, Automaton}
use Rattle.omega_answers_stream.specs.Telling.{IsTelling}

-- a count, and before it the name of what is counted
abbrev pub count_text : List ℕ → ℕ → List ℕ
count_text what count = what ++ decimal count

-- the acceptance formula, and before it what it is
abbrev pub acceptance_text : AccTree → List ℕ
acceptance_text formula = codes " acceptance " ++ (acc_text formula).bytes

-- the sizes of an automaton: its numbers of states, edges, propositions and sets, and its acceptance formula
abbrev pub sizes_text : Description → List ℕ
sizes_text a =
    count_text (codes "automaton states ") a.states ++ (count_text (codes " edges ") (edge_count a)
    ++ (count_text (codes " propositions ") (length a.propositions)
    ++ (count_text (codes " sets ") a.sets ++ acceptance_text a.acceptance)))

-- the text for an item
abbrev pub item_text : Item → List ℕ
item_text (Automaton automaton) = sizes_text automaton
item_text Aborted = codes "aborted"

-- the line of an item: its number, and its text
abbrev pub item_line : ℕ → Item → List ℕ
item_line number item = decimal number ++ codes " " ++ item_text item ++ codes "\n"

-- the answer of `show`: the text is that of a stream, and the lines of its items are written
abbrev pub IsStreamShowAnswer : List ℕ → List ℕ → Type 0
IsStreamShowAnswer = IsTelling item_line
