-- The answer of `complement` for the text of one automaton: the canonical text of its complement; and its refusals.
use Rattle.std.specs.Prelude.{◌≡◌, List, ℕ}
use Rattle.omega_text.specs.declared.refusal.Refusal.{Refusal}
use Rattle.omega_hoa_automaton.specs.Automaton.{Description}
use Rattle.omega_canon.specs.Canonical.{canonical_automaton}
use Rattle.omega_lang_complement.specs.Complement.{HasComplement, IsComplement}
use Rattle.omega_lang_complement.specs.Refusing.{IsUncomplemented}
use Rattle.omega_answers.specs.OneAutomaton.{IsRefusalOfText, OfAutomaton}

-- the canonical text of the complement of a deterministic automaton
pub record IsComplementText (a : Description) (output : List ℕ) : Type 0 where
  pub given : HasComplement a
  pub complement : Description
  pub right : IsComplement a complement
  pub written : output ≡ canonical_automaton complement

-- the answer of `complement`: the text is that of a deterministic automaton, and the canonical text of its complement
-- is written
abbrev pub IsComplementAnswer : (text output : List ℕ) → Type 0
IsComplementAnswer text output = OfAutomaton (λ a. IsComplementText a output) text

-- the refusal of `complement`: that of the text, or else that of its automaton
abbrev pub IsComplementRefusal : List ℕ → Refusal → Type 0
IsComplementRefusal = IsRefusalOfText IsUncomplemented
