-- The run of a lasso as text, in the form of a word: the states that the edges of the stem leave, and in braces those
-- that the edges of the cycle leave.
use Rattle.std.specs.Prelude.{ℕ, Option, None, Some, List, [], ◌++◌, codes, decimal}
use Rattle.omega_hoa_automaton.specs.Automaton.{BodyEdge, Description, edge_at}
use Rattle.omega_hoa_automaton.specs.declared.state.State.{State}
use Rattle.omega_lang_lasso_word.specs.Form.{word_form}

-- a name between double quotes, after a space, if there is one; its bytes are as in the text of the automaton
abbrev pub name_after : Option (List ℕ) → List ℕ
name_after None = []
name_after (Some name) = codes " \"" ++ (name ++ codes "\"")

-- a state by its number, and its name if it has one
abbrev pub state_text : State → List ℕ
state_text state = decimal state.number ++ name_after state.name

-- the state that this edge leaves; nothing without an edge
abbrev pub source_text : Option BodyEdge → List ℕ
source_text None = []
source_text (Some edge) = state_text edge.source

-- the state that the edge with this number leaves
abbrev pub visit_text : Description → ℕ → List ℕ
visit_text a number = source_text (edge_at a number)

-- the run of a lasso
abbrev pub run_text : Description → List ℕ → List ℕ → List ℕ
run_text a stem cycle = word_form (visit_text a) stem cycle
