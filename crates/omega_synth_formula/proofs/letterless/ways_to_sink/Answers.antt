-- one edge more
use Rattle.omega_synth_check.specs.WaysOut.{is_way_out}
use Rattle.omega_synth_formula.proofs.LetterlessStates.{flags_more}
use Rattle.omega_synth_formula.proofs.letterless.ways_to_sink.Goals as goal

pub loop-number-preserved : goal.loop-number-preserved
loop-number-preserved c =
    flags_more (is_way_out c.args.rest.now c.args.sink) c.loop-number.flags.items c.push.new.self.items c.loop-number.number c.is_way_out.result c.loop-number.invariant
    c.is_way_out.ensures c.in_ok-push.ensures.items
