-- some states more
use Rattle.std.proofs.Common.{◌≡◌, ◌≤◌, ◌-◌, ◌^◌, ℕ, Bool, List, [], take, drop, length, subst, sym, ap, arith}
use Rattle.omega_hoa_syntax.specs.declared.raw_state.RawState.{RawState}
use Rattle.omega_circuit_automaton.specs.declared.known.Known.{Known}
use Rattle.omega_circuit_automaton.specs.private.Lanes.{AreLanesOf, IsLaneOf}
use Rattle.omega_circuit_automaton.specs.private.Written.{IsExploring}
use Rattle.omega_circuit_automaton.proofs.States.{exploring_none, lane_valuation, lane_within}
use Rattle.omega_circuit_automaton.proofs.exploring.explore.Goals as goal

pub loop-alloc-init : goal.loop-alloc-init
loop-alloc-init c =
    let circuit = c.args.circuit.now in
    let valuations : List (List Bool) = c.in_ok-valuations.valuations.all.items in
    let none : length c.new-states.result.items ≡ 0 = ap length c.new-states.ensures.items in
    record {
      exploring = subst (λ (states : List RawState). IsExploring circuit valuations states) (sym c.new-states.ensures.items)
          (subst (λ (vs : List (List Bool)). IsExploring circuit vs []) (sym c.in_ok-valuations.ensures) (exploring_none circuit c.in_ok-first.first.items c.in_ok-first.ensures));
      within = omega (arith, none);
      few = omega (arith, none);
    }

pub loop-alloc-preserved : goal.loop-alloc-preserved
loop-alloc-preserved c =
    let after = c.in_ok-push_states.ensures in
    record {
      exploring = after.exploring;
      within = omega (arith, after.long, after.within);
      few = omega (arith, after.long, after.small);
    }

pub push_states-requires-clause-lanes : goal.push_states-requires-clause-lanes
push_states-requires-clause-lanes c =
    let all : List (List Bool) = c.loop-alloc.exploration.valuations.all.items in
    let found : List (List Bool) = c.as_slice-found.result.now in
    let known : List Known = c.evaluate.new.self.known.items in
    let first : ℕ = length c.loop-alloc.states.items in
    let last : ℕ = c.min-last.result in
    let same : found ≡ all = c.as_slice-found.ensures.value in
    let lanes : AreLanesOf c.args.circuit.now (take (last - first) (drop first all)) known =
    subst (λ (n : ℕ). AreLanesOf c.args.circuit.now (take (last - n) (drop n all)) known) (let e : c.len-first.result ≡ first = omega arith in e)
    (subst (λ (xs : List (List Bool)). AreLanesOf c.args.circuit.now (take (last - c.len-first.result) (drop c.len-first.result xs)) known) same c.in_ok-evaluate.ensures) in
    let inside : last ≤ length all = omega (arith, ap length same) in
    λ lane low. subst (λ (latches : List Bool). IsLaneOf c.args.circuit.now latches (2 ^ lane) known)
    (lane_valuation all first last lane inside low) (lanes lane (lane_within all first last lane inside low))

pub returns-clause-states : goal.returns-clause-states
returns-clause-states c = record {
  valuations = c.loop-alloc.exploration.valuations.all.items;
  exploring = c.loop-alloc.invariant.exploring;
  all = omega arith;
}
