-- one latch more
use Rattle.std.proofs.Common.{false, subst, sym, ◌∙◌, arith}
use Rattle.omega_circuit_automaton.specs.private.Lanes.{IsSoundIn}
use Rattle.omega_circuit_automaton.proofs.LaneBits.{latch_value}
use Rattle.omega_circuit_automaton.proofs.lanes.put_latches.Goals as goal
use Rattle.omega_circuit_automaton.proofs.lanes.put_latches.Goals.{in-Some, in_default}

pub loop-k-preserved : goal.loop-k-preserved
loop-k-preserved c = λ other round among sound. elim c.match-get.branch [
  | in-Some w ↦ subst (IsSoundIn other round) (sym w.known-is)
      (w.put_latch.ensures other round
      (λ is. latch_value c.args.latches.now round c.args.values.now c.loop-k.k _ (omega arith) (among is) ∙ sym (w.in-Some.ensures.lookup.3.1 false))
      (c.loop-k.invariant other round among sound))
  | in_default w ↦ subst (IsSoundIn other round) (sym w.known-is) (c.loop-k.invariant other round among sound)
]
