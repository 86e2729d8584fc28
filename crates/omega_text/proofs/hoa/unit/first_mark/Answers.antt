-- The mark as a unit.
use Rattle.omega_text.proofs.hoa_texts.Plain.{first_mark}
use Rattle.omega_text.proofs.hoa_texts.Units.{unit_as}
use Rattle.omega_text.proofs.hoa.unit.first_mark.Goals as goal

pub returns : goal.returns
returns c =
    unit_as c.args.bytes.now _ _ _ _ 0 _ c.mark.ensures.kind c.mark.ensures.value c.mark.ensures.count (first_mark c.args.bytes.now c.in_ok-kind.kind c.in_ok-kind.ensures.mark c.in_ok-kind.ensures.begins)
