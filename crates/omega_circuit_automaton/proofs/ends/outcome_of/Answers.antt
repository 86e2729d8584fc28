-- the ends that are known
use Rattle.std.proofs.Common.{ℕ, Bool}
use Rattle.omega_circuit_automaton.specs.private.Lanes.{IsSound}
use Rattle.omega_circuit_automaton.specs.private.Ternary.{IsRoundOf}
use Rattle.omega_circuit_automaton.proofs.ends.outcome_of.Goals as goal

pub returns-in-Some : goal.returns-in-Some
returns-in-Some c =
    let sound : (round : ℕ → Bool) → IsRoundOf c.args.circuit.now c.args.latches.now c.args.cube.now round
    → IsSound c.args.lane.bit round c.args.lane.known.now c.evaluate.new.self.table.entries.items = λ round of.
    let lane = c.requires.lane round of.is of.latched in
    record { lane = lane; kept = c.in_ok-evaluate.ensures round of.is.gates of.fits lane } in
    record {
      outputs_are = λ round of. (rw c.in-Some.is at c.in_ok-ends.ensures.outputs) round (sound round of);
      nexts_are = λ round of. (rw c.in-Some.is at c.in_ok-ends.ensures.nexts) round (sound round of);
      outputs_long = rw c.in-Some.is at c.in_ok-ends.ensures.outputs_long;
      nexts_long = rw c.in-Some.is at c.in_ok-ends.ensures.nexts_long;
    }
