-- `append_string`: a byte more is appended.
use Rattle.std.proofs.Common.{arith}
use Rattle.omega_text.proofs.Rows.{text_more}
use Rattle.omega_answers_formula.specs.Title.{string_byte}
use Rattle.omega_answers_formula.proofs.title.append_string.Goals as goal

pub loop-byte-preserved : goal.loop-byte-preserved
loop-byte-preserved c =
    text_more string_byte c.args.bytes.now c.loop-byte.byte-index 0 c.args.out.now.items c.loop-byte.out.items _
    (omega arith) c.loop-byte.invariant c.in_ok-append_byte.ensures.string
