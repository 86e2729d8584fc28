-- one state more
use Rattle.std.proofs.Common.{◌≡◌, ◌<◌, ◌≤◌, ◌+◌, ◌-◌, ◌^◌, ℕ, Bool, List, length, subst, sym, ap, ◌∙◌, arith}
use Rattle.std.proofs.lemmas.List.{length_push}
use Rattle.omega_hoa_syntax.specs.declared.raw_state.RawState.{RawState}
use Rattle.omega_circuit_automaton.specs.private.Cuts.{valuation_at}
use Rattle.omega_circuit_automaton.specs.private.Lanes.{IsSoundIn}
use Rattle.omega_circuit_automaton.specs.private.Written.{IsExploring, IsWrittenState}
use Rattle.omega_circuit_automaton.proofs.Growing.{adds_both, adds_none, longer, same_valuation}
use Rattle.omega_circuit_automaton.proofs.States.{exploring_more}
use Rattle.omega_circuit_automaton.proofs.exploring.push_states.Goals as goal

pub loop-number-init : goal.loop-number-init
loop-number-init c = record {
  exploring = c.requires.exploring;
  long = omega arith;
  small = omega (arith, c.requires.small);
  adds = adds_none (length c.args.circuit.now.latches) c.args.exploration.now.valuations.all.items;
}

pub state_of-requires-clause-lane : goal.state_of-requires-clause-lane
state_of-requires-clause-lane c = λ round is latched.
    let begun : List (List Bool) = c.args.exploration.now.valuations.all.items in
    let number : ℕ = c.loop-number.number in
    let lane : ℕ = number - c.len-first.result in
    let first : ℕ = length c.args.states.now.items in
    let begins : c.len-first.result ≡ first = omega arith in
    let from : c.len-first.result ≤ number = omega arith in
    let below : number < c.args.last = omega arith in
    let within : first + lane < c.args.last = omega (arith, begins, from, below) in
    let place : number ≡ first + lane = omega (arith, begins, from) in
    let low : number < length begun = omega (arith, below, c.requires.last) in
    let same : valuation_at c.loop-number.exploration.valuations.all.items number ≡ valuation_at begun number =
    same_valuation (length c.args.circuit.now.latches) begun c.loop-number.exploration.valuations.all.items c.loop-number.invariant.adds number low in
    subst (λ bit. IsSoundIn bit round c.lane-lane.result.known.now) (sym c.lane-lane.ensures.bit)
    (subst (IsSoundIn (2 ^ lane) round) (sym c.lane-lane.ensures.known) (c.requires.lanes lane within round is (latched ∙ same ∙ ap (valuation_at begun) place)))

pub loop-number-preserved : goal.loop-number-preserved
loop-number-preserved c =
    let circuit = c.args.circuit.now in
    let count : ℕ = length circuit.latches in
    let begun : List (List Bool) = c.args.exploration.now.valuations.all.items in
    let states : List RawState = c.loop-number.states.items in
    let old : List (List Bool) = c.loop-number.exploration.valuations.all.items in
    let new : List (List Bool) = c.state_of.new.exploration.valuations.all.items in
    let state : RawState = c.in_ok-state.state in
    let before = c.loop-number.invariant in
    let longer_now = longer count begun old before.adds in
    let low : length states < length old = omega (arith, before.long, c.requires.last, longer_now) in
    let pushed : length c.push.new.self.items ≡ length states + 1 = ap length c.in_ok-push.ensures.items ∙ length_push states state in
    record {
      exploring = subst (λ (sts : List RawState). IsExploring circuit new sts) (sym c.in_ok-push.ensures.items)
          (exploring_more circuit old new c.in_ok-state.ensures.adds states state before.exploring low
          (subst (λ (n : ℕ). IsWrittenState circuit new n state) (sym before.long) c.in_ok-state.ensures.state));
      long = omega (arith, pushed, before.long);
      small = omega arith;
      adds = adds_both count begun old new before.adds c.in_ok-state.ensures.adds;
    }
