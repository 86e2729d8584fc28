-- the parts fit, and make the automaton
use Rattle.std.proofs.Common.{◌≡◌, ◌&&◌, ltb, ℕ, Bool, not, List, length, map, ap, subst, sym, ◌∙◌, get_or, arith}
use Rattle.std.specs.List.{filter, range_with_len}
use Rattle.std.proofs.lemmas.List.FromFn.{get_or-map-range_with_len}
use Rattle.std.proofs.lemmas.Result.{IfOk-weaker}
use Rattle.omega_hoa_automaton.specs.Automaton.{Description}
use Rattle.omega_canon.specs.Canonical.{canonical_automaton}
use Rattle.omega_graph.specs.Graph.{listed}
use Rattle.omega_synth_text.specs.Reaching.{TellsReached}
use Rattle.omega_synth_text.specs.Winner.{inputs_of, number_of, winner}
use Rattle.omega_synth_text.specs.private.Parts.{flag, letters_for}
use Rattle.omega_synth_text.proofs.Plain.{starts_are_one, states_are_plain}
use Rattle.omega_synth_text.proofs.Whole.{whole_text}
use Rattle.omega_synth_text.proofs.winner.winner_text.Goals as goal

pub canonical_winner-requires : goal.canonical_winner-requires
canonical_winner-requires c =
    let a : Description = c.args.automaton.now in
    let test : ℕ → Bool = flag c.as_slice-reached.result.now in
    record {
      states = states_are_plain a c.keeps_limits.ensures c.requires;
      starts = starts_are_one a c.keeps_limits.ensures c.requires;
      few = omega (arith, c.edge_count.ensures);
      numbers = λ state below.
          ap (λ (xs : List ℕ). get_or xs state 0)
          (c.as_slice-numbers.ensures.value ∙ c.in_ok-numbering.ensures.numbers
          ∙ ap (λ (n : ℕ). map (number_of test) (range_with_len 0 n)) c.state_count.ensures)
          ∙ get_or-map-range_with_len (number_of test) 0 a.states state state 0 below (omega arith);
      count = c.in_ok-numbering.ensures.count ∙ ap (number_of test) c.state_count.ensures;
    }

pub returns-clause-text : goal.returns-clause-text
returns-clause-text c =
    let a : Description = c.args.automaton.now in
    let controlled : List ℕ = c.args.controlled.now in
    let test : ℕ → Bool = flag c.as_slice-reached.result.now in
    let tells : TellsReached a c.args.kept.now test =
    subst (λ (flags : List Bool). TellsReached a c.args.kept.now (flag flags)) (sym c.as_slice-reached.ensures.value) c.in_ok-states.ensures.reached in
    let inputs : c.as_slice-inputs.result.now ≡ inputs_of a controlled =
    c.as_slice-inputs.ensures.value ∙ c.in_ok-uncontrolled.ensures.inputs
    ∙ ap (λ (n : ℕ). filter (λ p. not (listed controlled p)) (range_with_len 0 n)) (ap length c.propositions.ensures) in
    IfOk-weaker c.canonical_winner.result _ _
    (λ text is. (
      test,
      tells,
      is
          ∙ whole_text a controlled c.args.kept.now test (flag c.as_slice-flags.result.now)
          (letters_for c.args.lettered c.as_slice-inputs.result.now c.args.letters.now)
          (λ number. ap (λ (flags : List Bool). flag flags number) c.as_slice-flags.ensures.value ∙ c.in_ok-edges.ensures.flags number
          ∙ ap (λ (n : ℕ). ltb number n && listed c.args.kept.now number) c.edge_count.ensures)
          ∙ ap (λ (free : List ℕ). canonical_automaton (winner a controlled c.args.kept.now test (letters_for c.args.lettered free c.args.letters.now))) inputs,
    ))
    c.canonical_winner.ensures.text
