-- What was scanned, judged.
use Rattle.std.proofs.Common.{refl, sym}
use Rattle.omega_text.proofs.hoa_texts.Units.{first_none, first_plain}
use Rattle.omega_text.proofs.hoa.unit.other_unit.Goals as goal

pub returns-in-Some-clause-unit : goal.returns-in-Some-clause-unit
returns-in-Some-clause-unit c =
    first_plain c.args.bytes.now c.scan-count.result.0 c.scan-count.result.1 c.scan-count.ensures c.in-Some.kind (sym c.in-Some.ensures) c.requires.no_digit

pub returns-in-None-clause-fault : goal.returns-in-None-clause-fault
returns-in-None-clause-fault c =
    (refl, first_none c.args.bytes.now c.scan-count.result.0 c.scan-count.result.1 c.scan-count.ensures c.requires.some (sym c.in-None.ensures))
