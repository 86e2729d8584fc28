-- one input more
use Rattle.std.proofs.Common.{get_or, ◌/◌, subst, sym}
use Rattle.omega_circuit_automaton.specs.declared.ternary.Ternary.{Ternary}
use Rattle.omega_circuit_automaton.specs.private.Lanes.{AreHeld}
use Rattle.omega_circuit_automaton.specs.private.Ternary.{Matches}
use Rattle.omega_circuit_automaton.proofs.table.Table.put_inputs.Goals as goal

pub loop-k-preserved : goal.loop-k-preserved
loop-k-preserved c = λ round are held.
    c.in_ok-put.ensures round
    (subst (λ (value : Ternary). Matches value (round (get_or c.args.inputs.now c.loop-k.k 0 / 2))) (sym c.input_value-value.ensures) (are c.loop-k.k))
    (subst (AreHeld round) (sym c.put_origin.ensures) (c.loop-k.invariant round are held))
