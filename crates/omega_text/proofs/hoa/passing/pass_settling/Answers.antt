-- What the byte settles is neither a mark nor a fault, or one is settled by it.
use Rattle.omega_text.specs.hoa.Pieces.{IsPlain}
use Rattle.omega_text.proofs.hoa_texts.Passing.{plain_passed, settling_stops, untold}
use Rattle.omega_text.proofs.hoa.passing.pass_settling.Goals as goal

pub returns-then-is_plain-clause-passes : goal.returns-then-is_plain-clause-passes
returns-then-is_plain-clause-passes c = λ seen lexemes place at.
    plain_passed seen lexemes c.args.byte c.read_byte-after.result.0 c.read_byte-after.result.1 (c.is_plain.ensures.0 c.if-is_plain.true) (c.read_byte-after.ensures seen lexemes place at)

pub returns-else-is_plain-clause-stops : goal.returns-else-is_plain-clause-stops
returns-else-is_plain-clause-stops c = λ seen lexemes place at.
    settling_stops seen lexemes c.args.byte c.read_byte-after.result.0 c.read_byte-after.result.1
    (untold {P = IsPlain c.read_byte-after.result.1} c.is_plain.result c.is_plain.ensures c.if-is_plain.false) (c.read_byte-after.ensures seen lexemes place at)
