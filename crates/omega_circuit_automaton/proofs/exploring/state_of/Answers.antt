-- the lane is that of the state's valuation
use Rattle.std.proofs.Common.{◌≡◌, Bool, List, [], get_or, subst, sym, ap, ◌∙◌}
use Rattle.std.proofs.lemmas.List.{get_or_default}
use Rattle.omega_circuit_automaton.specs.private.Cuts.{valuation_at}
use Rattle.omega_circuit_automaton.specs.private.Lanes.{IsLaneOf}
use Rattle.omega_circuit_automaton.proofs.exploring.state_of.Goals as goal

pub edges_of-requires-clause-lane : goal.edges_of-requires-clause-lane
edges_of-requires-clause-lane c =
    let all : List (List Bool) = c.args.exploration.now.valuations.all.items in
    let own : List Bool = c.index-known-number.result in
    let here : c.as_slice.result.now ≡ valuation_at all c.args.number =
    c.as_slice.ensures.value ∙ c.in_ok-latches.ensures.items ∙ c.as_slice-valuation.ensures ∙ c.index-known-number.is
    ∙ ap (λ (xs : List (List Bool)). get_or xs c.args.number own) c.as_slice-known.ensures.value ∙ get_or_default all c.args.number own [] c.requires.low in
    subst (λ (latches : List Bool). IsLaneOf c.args.circuit.now latches c.args.lane.bit c.args.lane.known.now) (sym here) c.requires.lane
