-- Letters of words as text: what a label demands of the propositions, by their names, as Spot writes formulas.
use Rattle.std.specs.Prelude.{ℕ, ◌+◌, Bool, if◌then◌else◌, nat_lt, List, []}
use Rattle.std.specs.Prelude.{◌∷◌, ◌++◌, get_or, Option, None, Some, codes}
use Rattle.omega_hoa_label.specs.Label.{LabelTree, conjunction, constant, disjunction, negation, proposition}
use Rattle.omega_hoa_automaton.specs.Automaton.{BodyEdge, Description, edge_at}
use Rattle.omega_lang_runs.specs.Lasso.{label_of}
use Rattle.omega_lang_runs.specs.Words.{has_bit, index_in}
use Rattle.omega_hoa_edges.specs.Conjuncts.{all_of, conjuncts, each_once}
use Rattle.omega_lang_lasso_word.specs.Names.{name_text}

-- a text, in parentheses if it needs them
abbrev pub enclosed : Bool → List ℕ → List ℕ
enclosed needed text = if needed then codes "(" ++ (text ++ codes ")") else text

-- a label with the names of its propositions; `tightness` is 1 below `&`, 2 below `!`, and else 0
abbrev pub label_words : ℕ → List (List ℕ) → LabelTree → List ℕ
label_words tightness names (constant value) = if value then codes "1" else codes "0"
label_words tightness names (proposition number) = name_text (get_or names number [])
label_words tightness names (negation part) = codes "!" ++ label_words 2 names part
label_words tightness names (conjunction left right) = enclosed (nat_lt 1 tightness)
    (label_words 1 names left ++ (codes " & " ++ label_words 1 names right))
label_words tightness names (disjunction left right) = enclosed (nat_lt 0 tightness)
    (label_words 0 names left ++ (codes " | " ++ label_words 0 names right))

-- the proposition `p` with this name, or its negation if it does not hold in the valuation of the index
abbrev pub literal_text : ℕ → ℕ → List ℕ → List ℕ
literal_text index p name = if has_bit index p then name_text name else codes "!" ++ name_text name

-- the literals of the propositions from `p` on, each after `&`
abbrev pub literals_after : ℕ → ℕ → List (List ℕ) → List ℕ
literals_after index p [] = []
literals_after index p (name ∷ names) =
    (codes " & " ++ literal_text index p name) ++ literals_after index (p + 1) names

-- the valuation of an index; `1` if there are no propositions
abbrev pub valuation_text : ℕ → List (List ℕ) → List ℕ
valuation_text index [] = codes "1"
valuation_text index (name ∷ names) = literal_text index 0 name ++ literals_after index 1 names

-- the text of labels joined by `&`, `1` if there is none; one alone needs no parentheses
abbrev pub conjunction_words : List (List ℕ) → List LabelTree → List ℕ
conjunction_words names labels = label_words 0 names (all_of labels)

-- the letter of an edge: the conjuncts of its label, each once, or without one the valuation of its index within its
-- state
abbrev pub text_of_letter : List (List ℕ) → ℕ → Option LabelTree → List ℕ
text_of_letter names index None = valuation_text index names
text_of_letter names index (Some label) = conjunction_words names (each_once (conjuncts label))

-- the letter of this edge with its number; nothing without an edge
abbrev pub letter_at : Description → ℕ → Option BodyEdge → List ℕ
letter_at a number None = []
letter_at a number (Some edge) =
    text_of_letter a.propositions (index_in a.defined number) (label_of edge)

-- the letter of the edge with this number
abbrev pub letter_text : Description → ℕ → List ℕ
letter_text a number = letter_at a number (edge_at a number)
