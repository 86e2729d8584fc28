-- A white byte.
use Rattle.std.proofs.Common.{sym, ◌∙◌}
use Rattle.omega_text.proofs.hoa_texts.Units.{unit_as, white_unit}
use Rattle.omega_text.proofs.hoa.unit.first_unit.Goals as goal

pub returns-then-is_white-clause-unit : goal.returns-then-is_white-clause-unit
returns-then-is_white-clause-unit c =
    unit_as c.args.bytes.now _ _ _ _ 0 1 c.whole_byte.ensures.kind c.whole_byte.ensures.value c.whole_byte.ensures.count
    (white_unit c.args.bytes.now c.requires.some (sym c.is_white.ensures ∙ c.if-is_white.true))
