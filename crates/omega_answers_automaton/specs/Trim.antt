-- The answer of `trim` for the text of one automaton: the canonical text of the automaton without its useless states;
-- and its refusals.
use Rattle.std.specs.Prelude.{◌≡◌, List, ℕ}
use Rattle.omega_text.specs.declared.refusal.Refusal.{Refusal}
use Rattle.omega_hoa_automaton.specs.Automaton.{Description, IsAutomaton}
use Rattle.omega_hoa_automaton.specs.Meaning.{Means}
use Rattle.omega_canon.specs.Canonical.{canonical_automaton}
use Rattle.omega_lang_lasso_search.specs.Searching.{IsSearchable}
use Rattle.omega_lang_trim.specs.Refusing.{IsTrimRefusal}
use Rattle.omega_lang_trim.specs.Trimmed.{IsTrimmed}
use Rattle.omega_lang_trim.specs.Written.{written as written_form}
use Rattle.omega_answers.specs.OneAutomaton.{IsRefusalOfText, OfAutomaton}

-- the canonical text of an automaton, which has no universal branching, without its useless states
pub record IsTrimText (a : Description) (output : List ℕ) : Type 0 where
  pub given : IsSearchable a
  pub trim : Description
  pub right : IsTrimmed a trim
  pub trim_written : Means (written_form trim) trim
  pub is_automaton : IsAutomaton trim
  pub written : output ≡ canonical_automaton trim

-- the answer of `trim`: the text is that of an automaton without universal branching, and the canonical text of the
-- automaton without its useless states is written
abbrev pub IsTrimAnswer : (text output : List ℕ) → Type 0
IsTrimAnswer text output = OfAutomaton (λ a. IsTrimText a output) text

-- the refusal of `trim`: that of the text, or else that of its automaton
abbrev pub IsTrimAnswerRefusal : List ℕ → Refusal → Type 0
IsTrimAnswerRefusal = IsRefusalOfText IsTrimRefusal
