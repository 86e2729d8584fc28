-- What a search of the complement for a state without a letter shows of the strategy.
use Rattle.std.proofs.Common.{◌≡◌, ℕ, ◌+◌, ◌<◌, Bool, false, List, [], ◌∷◌, ◌++◌, map, Option, None, Some, sym, ap, subst, ◌∙◌, arith}
use Rattle.std.specs.Prelude.{option_map}
use Rattle.std.specs.List.{range_with_len}
use Rattle.std.proofs.lemmas.List.{get_or-map}
use Rattle.std.proofs.lemmas.List.FromFn.{get_or-range_with_len, length-range_with_len, map-range_with_len_more}
use Rattle.std.proofs.lemmas.Option.{slice_get_within}
use Rattle.omega_text.specs.declared.refusal.Refusal.{Refusal}
use Rattle.omega_hoa_automaton.specs.Automaton.{BodyEdge, Description, edge_at, edge_count, edges_of}
use Rattle.omega_hoa_automaton.specs.Branching.{has_universal_branching}
use Rattle.omega_hoa_edges.specs.Determinism.{IsDeterministic}
use Rattle.omega_synth_check.specs.CounterRefusing.{system_numbers}
use Rattle.omega_synth_check.specs.Judging.{IsReached}
use Rattle.omega_synth_check.specs.WaysOut.{HasLetterIn, IsStateFound, IsWayRefusal, flag, is_way_out}
use Rattle.omega_synth_check.specs.declared.without_letter.StateWithoutLetter.{StateWithoutLetter}
use Rattle.omega_synth_formula.specs.Following.{FollowsEach, IsLetterlessFound, IsLetterlessState}
use Rattle.omega_synth_formula.specs.declared.counter.LetterlessState.{LetterlessState}
use Rattle.omega_synth_formula.specs.private.Beside.{IsComplementOf, letterless_of}
use Rattle.omega_synth_formula.proofs.Coming.{reached_within}
use Rattle.omega_synth_formula.proofs.StateLetters.{has_letter, no_letter}
use Rattle.omega_synth_formula.proofs.Unbranched.{complement_plain}

-- one flag more
pub flags_more : (test : ℕ → Bool) (flags after : List Bool) (number : ℕ) (flag : Bool) → flags ≡ map test (range_with_len 0 number) → flag ≡ test number
    → after ≡ flags ++ flag ∷ [] → after ≡ map test (range_with_len 0 (number + 1))
flags_more test flags after number flag so_far is pushed =
    pushed
    ∙ ap (λ (f : Bool). flags ++ f ∷ []) is
    ∙ ap (λ (list : List Bool). list ++ test number ∷ []) so_far
    ∙ sym (map-range_with_len_more test 0 number number (omega arith))

module _ (own rest : Description) (is : IsComplementOf own rest) where
  deterministic : IsDeterministic own
  deterministic = is.given.deterministic

  pub plain : has_universal_branching rest ≡ false
  plain = complement_plain own rest deterministic is.complemented is.is_complement

  module _ (controlled : List (List ℕ)) (flags : List Bool) (are : flags ≡ map (is_way_out rest own.states) (range_with_len 0 (edge_count rest))) where
    abbrev system : List ℕ
    system = system_numbers rest.propositions controlled

    abbrev out : ℕ → Bool
    out = flag flags

    out_is : (number : ℕ) (edge : BodyEdge) → edge_at rest number ≡ Some edge → out number ≡ is_way_out rest own.states number
    out_is number edge at =
        let low : number < edge_count rest = slice_get_within (edges_of rest) number edge at in
        let numbers : List ℕ = range_with_len 0 (edge_count rest) in
        let none : 0 + number ≡ number = omega arith in
        ap (λ (fs : List Bool). flag fs number) are
        ∙ get_or-map (is_way_out rest own.states) numbers number 0 false (omega (arith, low, length-range_with_len 0 (edge_count rest)))
        ∙ ap (is_way_out rest own.states) (get_or-range_with_len 0 (edge_count rest) number 0 low ∙ none)

    -- a letter in each state that is reached
    pub follows_each : ((t : ℕ) → IsReached own t → HasLetterIn rest system out t) → FollowsEach own controlled
    follows_each each t reached =
        has_letter own rest is.is_strategy deterministic is.complemented is.is_complement plain controlled out out_is t (reached_within own is.is_strategy t reached) (each t reached)

    -- or a state without one
    pub letterless_is : (found : StateWithoutLetter) → IsStateFound own rest system out (Some found) → IsLetterlessState own controlled (letterless_of found)
    letterless_is found shows = record {
      start = shows.1.0;
      begins = shows.1.1;
      leads = shows.1.2;
      none = no_letter own rest is.is_strategy deterministic is.complemented is.is_complement plain controlled out out_is found.state
          (reached_within own is.is_strategy found.state (record { start = shows.1.0; begins = shows.1.1; numbers = found.stem; leads = shows.1.2 })) shows.0.each;
    }

    both_shown : (found : Option StateWithoutLetter) → IsStateFound own rest system out found → IsLetterlessFound own controlled (option_map letterless_of found)
    both_shown None shows = follows_each shows
    both_shown (Some found) shows = letterless_is found shows

  -- for the same propositions
  pub ways_refused : (numbers also : List ℕ) → numbers ≡ also → (refusal : Refusal) → IsWayRefusal own rest numbers refusal → IsWayRefusal own rest also refusal
  ways_refused numbers also same refusal refused = subst (λ (ns : List ℕ). IsWayRefusal own rest ns refusal) same refused

  -- so a search of the two shows, whatever stands for its numbers of propositions and its flags
  pub shown : (controlled : List (List ℕ)) (flags : List Bool) → flags ≡ map (is_way_out rest own.states) (range_with_len 0 (edge_count rest)) → (numbers : List ℕ) (marked : List Bool)
      → numbers ≡ system_numbers rest.propositions controlled → marked ≡ flags → (found : Option StateWithoutLetter) → IsStateFound own rest numbers (flag marked) found
      → (letterless : Option LetterlessState) → letterless ≡ option_map letterless_of found → IsLetterlessFound own controlled letterless
  shown controlled flags are numbers marked numbers_are marked_are found is_found letterless is_letterless =
      subst (IsLetterlessFound own controlled) (sym is_letterless)
      (both_shown controlled flags are found
      (subst (λ (fs : List Bool). IsStateFound own rest (system_numbers rest.propositions controlled) (flag fs) found) marked_are
      (subst (λ (ns : List ℕ). IsStateFound own rest ns (flag marked) found) numbers_are is_found)))
