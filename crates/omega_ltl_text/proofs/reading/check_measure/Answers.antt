-- A formula past a limit is refused as it was measured.
use Rattle.omega_ltl_text.proofs.Measuring.{measured_at_first}
use Rattle.omega_ltl_text.proofs.Texts.{measure_refused_if}
use Rattle.omega_ltl_text.proofs.reading.check_measure.Goals as goal

pub read_text-requires : goal.read_text-requires
read_text-requires c = measured_at_first c.new.result c.new.ensures.depths c.new.ensures.size

pub returns : goal.returns
returns c =
    measure_refused_if c.args.bytes.now c.new.result c.in_ok-measurer.measurer c.check_limits.result c.in_ok-measurer.ensures.read c.check_limits.ensures
