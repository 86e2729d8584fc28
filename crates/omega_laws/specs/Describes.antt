-- Which automaton a text describes, whatever faults either has.
use Rattle.std.specs.Prelude.{◌≡◌, ℕ, List, Some, option_and_then}
use Rattle.std.specs.List.{AllZip, filter_map}
use Rattle.omega_hoa_acceptance.specs.Meaning.{acc_meant}
use Rattle.omega_hoa_syntax.specs.declared.raw_automaton.RawAutomaton.{RawAutomaton}
use Rattle.omega_hoa_automaton.specs.Automaton.{Description}
use Rattle.omega_hoa_automaton.specs.Faults.{definitions_of, names_of}
use Rattle.omega_hoa_automaton.specs.Items.{acceptance_in, first_said, start_in, unknown_in}
use Rattle.omega_hoa_automaton.specs.Meaning.{IsStateOf}
use Rattle.omega_hoa.specs.Alone.{IsAutomatonText}
use Rattle.omega_hoa_round_trips.specs.Laws.{IsRawText}
use Rattle.omega_text.specs.NamedWords.{NamedWord}
use Rattle.omega_lang_word_laws.specs.NamedWords.{AcceptsNamed}

-- the text can be cut into tokens that spell an automaton as it is written, and this one has its starts, propositions,
-- acceptance formula, states with their edges, and the headers that the format leaves open. Which words it accepts
-- depends on these alone
pub record Describes (text : List ℕ) (automaton : Description) : Type 0 where
  pub raw : RawAutomaton
  pub written : IsRawText text raw
  pub starts : automaton.starts ≡ filter_map start_in raw.items
  pub propositions : automaton.propositions ≡ names_of raw
  pub acceptance : option_and_then (λ accepted. acc_meant accepted.formula)
      (first_said acceptance_in raw.items) ≡ Some automaton.acceptance
  pub unknown : automaton.unknown ≡ filter_map unknown_in raw.items
  pub defined : AllZip (IsStateOf (definitions_of raw)) raw.states automaton.defined

-- the text describes an automaton
abbrev pub DescribesSome : List ℕ → Type 0
DescribesSome text = (automaton : Description) × Describes text automaton

-- the text of an automaton describes it
abbrev pub AutomataAreDescribed : Type 0
AutomataAreDescribed = (text : List ℕ) (automaton : Description)
    → IsAutomatonText text automaton → Describes text automaton

-- automata that one text describes have the same propositions, and accept the same words over names
abbrev pub DescribedAreAlike : Type 0
DescribedAreAlike = (text : List ℕ) (one other : Description) → Describes text one → Describes text other
    → (one.propositions ≡ other.propositions)
    × ((word : NamedWord) → AcceptsNamed one word → AcceptsNamed other word)
