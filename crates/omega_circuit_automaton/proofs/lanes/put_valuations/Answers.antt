-- the latches of one state more
use Rattle.std.proofs.Common.{◌≡◌, ◌^◌, [], subst, sym, ap, ◌∙◌, arith}
use Rattle.std.proofs.lemmas.List.{get_or_default}
use Rattle.omega_circuit_automaton.specs.Valuations.{valuation_at}
use Rattle.omega_circuit_automaton.specs.private.Lanes.{IsAmong}
use Rattle.omega_circuit_automaton.proofs.LaneBits.{same_lane}
use Rattle.omega_circuit_automaton.proofs.lanes.put_valuations.Goals as goal

pub loop-lane-preserved : goal.loop-lane-preserved
loop-lane-preserved c = λ lane within round latched sound.
    let here : c.as_slice.result.now ≡ valuation_at c.args.valuations.now c.loop-lane.lane =
    c.as_slice.ensures ∙ c.index-valuations-lane.is ∙ get_or_default c.args.valuations.now c.loop-lane.lane c.index-valuations-lane.result [] (omega arith) in
    c.put_latches.ensures (2 ^ lane) round
    (λ among. latched ∙ ap (valuation_at c.args.valuations.now) (same_lane lane c.loop-lane.lane (subst (IsAmong (2 ^ lane)) c.bit_of.ensures among)) ∙ sym here)
    (c.loop-lane.invariant lane within round latched sound)
