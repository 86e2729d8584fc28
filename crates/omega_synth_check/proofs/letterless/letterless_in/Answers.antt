-- what the search of the product shows, or why there is no search
use Rattle.std.proofs.Common.{ℕ, List, ap, subst, ◌∙◌}
use Rattle.omega_hoa_edges.proofs.Refusals.{passed_on}
use Rattle.omega_synth_check.specs.CounterRefusing.{not_searched, system_numbers}
use Rattle.omega_synth_check.specs.private.Letterless.{AreWaysOut}
use Rattle.omega_synth_check.proofs.Lacking.{none_shown, pair_shown, plain_both}
use Rattle.omega_synth_check.proofs.Refusals.{letters_refused}
use Rattle.omega_synth_check.proofs.WayRefusals.{way_letter_refused}
use Rattle.omega_synth_check.proofs.letterless.letterless_in.Goals as goal

pub state_without_letter-requires-clause-plain : goal.state_without_letter-requires-clause-plain
state_without_letter-requires-clause-plain c =
    plain_both c.args.specification.now c.args.strategy.now c.args.rest.now c.args.joint.now c.args.graph.now c.requires.beside c.requires.unbranched
    c.requires.product c.keeps_limits.ensures c.requires.graph

pub state_without_letter-requires-clause-other : goal.state_without_letter-requires-clause-other
state_without_letter-requires-clause-other c =
    plain_both c.args.specification.now c.args.strategy.now c.args.rest.now c.args.joint.now c.args.graph.now c.requires.beside c.requires.unbranched
    c.requires.product c.keeps_limits.ensures c.requires.graph

pub returns-in_err-found-clause-refused : goal.returns-in_err-found-clause-refused
returns-in_err-found-clause-refused c =
    passed_on c.from_residual-in_err-found.result _ _ c.from_residual-in_err-found.ensures.1
    (not_searched c.args.joint.now c.requires.product
    (letters_refused c.args.joint.now _ _
    (c.as_slice.ensures.value ∙ c.in_ok-system.ensures.numbers ∙ ap (λ (names : List (List ℕ)). system_numbers names c.args.controlled.now) c.propositions.ensures)
    _ (way_letter_refused c.args.joint.now _ _ c.in_err-found.ensures.refused)))

pub returns-in-None-clause-found : goal.returns-in-None-clause-found
returns-in-None-clause-found c =
    none_shown c.args.specification.now c.args.strategy.now c.args.rest.now c.args.joint.now c.args.graph.now c.requires.beside c.requires.unbranched
    c.requires.product c.keeps_limits.ensures c.requires.graph c.args.controlled.now c.in_ok-flags.flags.items
    (subst (λ (sink : ℕ). AreWaysOut c.args.rest.now sink c.args.graph.now c.in_ok-flags.flags.items) c.state_count.ensures c.in_ok-flags.ensures.flags)
    c.as_slice.result.now c.as_slice-2.result.now
    (c.as_slice.ensures.value ∙ c.in_ok-system.ensures.numbers ∙ ap (λ (names : List (List ℕ)). system_numbers names c.args.controlled.now) c.propositions.ensures)
    c.as_slice-2.ensures.value c.in_ok-found.found c.in_ok-found.ensures.found c.in-None.is

pub returns-clause-found : goal.returns-clause-found
returns-clause-found c =
    pair_shown c.args.specification.now c.args.strategy.now c.args.rest.now c.args.joint.now c.args.graph.now c.requires.beside c.requires.unbranched
    c.requires.product c.keeps_limits.ensures c.requires.graph c.args.controlled.now c.in_ok-flags.flags.items
    (subst (λ (sink : ℕ). AreWaysOut c.args.rest.now sink c.args.graph.now c.in_ok-flags.flags.items) c.state_count.ensures c.in_ok-flags.ensures.flags)
    c.as_slice.result.now c.as_slice-2.result.now
    (c.as_slice.ensures.value ∙ c.in_ok-system.ensures.numbers ∙ ap (λ (names : List (List ℕ)). system_numbers names c.args.controlled.now) c.propositions.ensures)
    c.as_slice-2.ensures.value c.in_ok-found.found c.in_ok-found.ensures.found c.in-Some.found c.in-Some.is c.in_ok-pair-in-Some.pair c.in_ok-pair-in-Some.ensures.pair
