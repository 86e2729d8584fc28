-- The law of canonical texts by what is written of automata.
use Rattle.std.specs.Prelude.{◌≤◌, length, IfSome}
use Rattle.std.specs.List.{AllByRecursion}
use Rattle.omega_text.specs.Limits.{most_number, most_text}
use Rattle.omega_text.specs.hoa.Forms.{IsQuotable}
use Rattle.omega_hoa_automaton.specs.Automaton.{Description}
use Rattle.omega_hoa_automaton.specs.Meaning.{Means}
use Rattle.omega_canon.specs.Canonical.{canonical_automaton}
use Rattle.omega_hoa.specs.Alone.{IsAutomatonText}
use Rattle.omega_hoa_round_trips.specs.Writable.{IsWritableName}
use Rattle.omega_lang_trim.specs.Written.{written}

-- a text can have the names of an automaton, of its propositions, its states and its acceptance, and its counts of
-- states and of sets
pub record FitsTexts (a : Description) : Type 0 where
  pub name : IfSome a.name IsQuotable
  pub propositions : AllByRecursion IsQuotable a.propositions
  pub named : AllByRecursion (λ state. IfSome state.name IsQuotable) a.defined
  pub acc_name : IfSome a.acc_name IsWritableName
  pub states : a.states ≤ most_number
  pub sets : a.sets ≤ most_number

-- such an automaton, if it is what it means as it is written, is read back from its canonical text, which is to be
-- within the limit of texts
abbrev pub WrittenAutomataAreReadBack : Type 0
WrittenAutomataAreReadBack = (a : Description) → FitsTexts a → Means (written a) a
    → length (canonical_automaton a) ≤ most_text → IsAutomatonText (canonical_automaton a) a
