-- what the search shows, or why there is none
use Rattle.std.proofs.Common.{◌≡◌, ◌∙◌, ℕ, List, ap, subst}
use Rattle.std.specs.List.{range_with_len}
use Rattle.std.specs.Prelude.{map}
use Rattle.omega_hoa_automaton.specs.Automaton.{edge_count}
use Rattle.omega_hoa_edges.proofs.Refusals.{passed_on}
use Rattle.omega_synth_check.specs.CounterRefusing.{system_numbers}
use Rattle.omega_synth_check.specs.WaysOut.{is_way_out}
use Rattle.omega_synth_formula.proofs.LetterlessStates.{plain, shown, ways_refused}
use Rattle.omega_synth_formula.proofs.letterless.letterless_in.Goals as goal

pub state_without_letter-requires-clause-plain : goal.state_without_letter-requires-clause-plain
state_without_letter-requires-clause-plain c = c.requires.given.deterministic.plain

pub state_without_letter-requires-clause-other : goal.state_without_letter-requires-clause-other
state_without_letter-requires-clause-other c = plain c.args.strategy.now c.args.rest.now c.requires

pub returns-in_err-found-clause-refused : goal.returns-in_err-found-clause-refused
returns-in_err-found-clause-refused c =
    passed_on c.from_residual-in_err-found.result _ _ c.from_residual-in_err-found.ensures.1
    (ways_refused c.args.strategy.now c.args.rest.now c.requires _ _
    (c.as_slice.ensures.value ∙ c.in_ok-system.ensures.numbers ∙ ap (λ (names : List (List ℕ)). system_numbers names c.args.controlled.now) c.propositions.ensures)
    _ c.in_err-found.ensures.refused)

pub returns-clause-found : goal.returns-clause-found
returns-clause-found c =
    shown c.args.strategy.now c.args.rest.now c.requires c.args.controlled.now c.in_ok-flags.flags.items
    (subst (λ (sink : ℕ). c.in_ok-flags.flags.items ≡ map (is_way_out c.args.rest.now sink) (range_with_len 0 (edge_count c.args.rest.now))) c.state_count.ensures
    c.in_ok-flags.ensures.flags)
    c.as_slice.result.now c.as_slice-2.result.now
    (c.as_slice.ensures.value ∙ c.in_ok-system.ensures.numbers ∙ ap (λ (names : List (List ℕ)). system_numbers names c.args.controlled.now) c.propositions.ensures)
    c.as_slice-2.ensures.value c.in_ok-found.found c.in_ok-found.ensures.found c.letterless_of.result c.letterless_of.ensures
