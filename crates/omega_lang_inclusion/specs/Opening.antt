-- Letters that are not judged together with a proposition, by the labels of the automaton of a word.
use Rattle.std.specs.Prelude.{ℕ, Bool, true, false, List, Contains}
use Rattle.std.specs.List.{position_or_len}
use Rattle.std.specs.Str.{bytes_eq}
use Rattle.omega_hoa_automaton.specs.Automaton.{Description}
use Rattle.omega_hoa_edges.specs.Fitting.{IsUnjudged}
use Rattle.omega_hoa_label.specs.Label.{LabelTree, conjunction, negation, proposition}
use Rattle.omega_lang_runs.specs.Judging.{IsLabelIn}
use Rattle.omega_text.specs.declared.refusal.Refusal.{Refusal}

-- the place of a name among names, or their count if it is not among them
abbrev pub place_among : List (List ℕ) → List ℕ → ℕ
place_among names name = position_or_len (bytes_eq name) names

-- that a proposition holds, or that it does not
abbrev pub literal_of : ℕ → Bool → LabelTree
literal_of number true = proposition number
literal_of number false = negation (proposition number)

-- it is not judged whether a label of an automaton can be true with the proposition of one of some names, or without it
pub record HasUnjudgedName (one : Description) (names : List (List ℕ)) (refusal : Refusal) : Type 0 where
  pub label : LabelTree
  pub of_automaton : IsLabelIn one label
  pub name : List ℕ
  pub listed : Contains names name
  pub value : Bool
  pub unjudged :
      IsUnjudged (conjunction label (literal_of (place_among one.propositions name) value)) refusal
