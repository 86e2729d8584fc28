-- The text of a controller of an automaton that was read is read back.
use Rattle.std.proofs.Common.{◌≡◌, ℕ, ◌≤◌, inl, Bool, false, nat_lt, List, length, arith}
use Rattle.std.specs.List.{AllByRecursion, list_any}
use Rattle.std.proofs.lemmas.Bool.{or_parts}
use Rattle.std.proofs.lemmas.List.Elements.{recursion_from_All}
use Rattle.omega_text.specs.Limits.{most_text}
use Rattle.omega_hoa_automaton.specs.Automaton.{AreBelow, AreTargets, Description, IsAutomaton, IsState}
use Rattle.omega_hoa_automaton.specs.Branching.{has_universal_branching, state_branches}
use Rattle.omega_hoa_automaton.specs.Laws.{MeaningsAreAutomata}
use Rattle.omega_canon.specs.Canonical.{canonical_automaton}
use Rattle.omega_hoa.specs.Alone.{IsAutomatonText}
use Rattle.omega_hoa.specs.Laws.{AutomataFillSegments}
use Rattle.omega_hoa_round_trips.specs.Writable.{IsWritableAutomaton}
use Rattle.omega_hoa_round_trips.proofs.meanings.Form.{HasForm}
use Rattle.omega_hoa_round_trips.proofs.meanings.Meant.{Meanings}
use Rattle.omega_hoa_round_trips.proofs.meanings.ReadBack.{IsOfTokens, read-fine, read-form, read-writable}
use Rattle.omega_hoa_round_trips.proofs.streams.ReadBack.{read-tokens}
use Rattle.omega_hoa_round_trips.proofs.texts.Spelled.{Known}
use Rattle.omega_synth_text.specs.Reaching.{TellsReached}
use Rattle.omega_answers_synth.specs.Laws.{controller_of}
use Rattle.omega_laws.proofs.Counted.{edges_few}
use Rattle.omega_laws.proofs.Given.{IsGivenState, given_states, starts_one}
use Rattle.omega_laws.proofs.Kept.{defined_made, defined_once, few_numbers, starts_made}
use Rattle.omega_laws.proofs.Made.{IsMade, made_read}

module _ (known : Known) (meanings : Meanings) (automata : MeaningsAreAutomata) (source : List ℕ) (a : Description) (is : IsAutomatonText source a)
    (plain : has_universal_branching a ≡ false) where
  automaton : IsAutomaton a
  automaton = automata is.value.raw a is.value.means

  of_tokens : IsOfTokens a
  of_tokens = read-tokens a (inl (source, is))

  writable : IsWritableAutomaton a
  writable = read-writable automata a of_tokens

  branches : (list_any (λ start. nat_lt 1 (length start)) a.starts ≡ false) × (list_any state_branches a.defined ≡ false)
  branches = or_parts (list_any (λ (start : List ℕ). nat_lt 1 (length start)) a.starts) (list_any state_branches a.defined) plain

  given : AllByRecursion (IsGivenState a) a.defined
  given =
      let form : HasForm a = read-form meanings a of_tokens in
      given_states a a.defined (read-fine meanings automata a of_tokens) form.unmixed form.counted (edges_few source a is) writable.defined
      (recursion_from_All (IsState a) a.defined automaton.states) branches.1

  module _ (controlled kept : List ℕ) (reached : ℕ → Bool) (tells : TellsReached a kept reached) (below : AreBelow (length a.propositions) controlled) where
    abbrev controller : Description
    controller = controller_of a controlled kept reached

    controller_made : IsMade controller.states controller.starts controller.propositions controlled controller.defined
    controller_made = record {
      few_states = omega (arith, few_numbers a kept reached tells, writable.states);
      starts_are = starts_made a kept reached tells a.starts (starts_one a a.starts (recursion_from_All (AreTargets a) a.starts automaton.starts) branches.0)
          (λ start has. has);
      quotable = writable.propositions;
      few = automaton.few_propositions;
      unlike = automaton.unlike;
      controls = below;
      states_are = defined_made a kept reached tells given;
      once = defined_once a kept reached tells given automaton.once;
    }

    pub controller_read : AutomataFillSegments → length (canonical_automaton controller) ≤ most_text → IsAutomatonText (canonical_automaton controller) controller
    controller_read fill short = made_read controller.states controller.starts controller.propositions controlled controller.defined controller_made known meanings fill short
