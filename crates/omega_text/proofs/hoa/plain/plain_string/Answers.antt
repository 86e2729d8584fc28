-- The bytes that were counted, and the quote after them.
use Rattle.std.proofs.Common.{length, ap, arith, length-drop}
use Rattle.std.proofs.lemmas.List.Sums.{prefix_len-le-length}
use Rattle.omega_text.specs.private.hoa.scanning.Passing.{is_quoted}
use Rattle.omega_text.proofs.hoa_texts.Plain.{first_string}
use Rattle.omega_text.proofs.hoa.plain.plain_string.Goals as goal

pub overflow_add-close : goal.overflow_add-close
overflow_add-close c =
    let size = length-drop 1 c.args.bytes.now in
    omega (arith, c.quoted_count-close.ensures, prefix_len-le-length is_quoted c.tail.result.now, ap length c.tail.ensures, c.requires.some)

pub returns-then-bytes-close-eq34 : goal.returns-then-bytes-close-eq34
returns-then-bytes-close-eq34 c =
    first_string c.args.bytes.now c.tail.result.now c.quoted_count-close.result c.requires.quote c.tail.ensures c.quoted_count-close.ensures c.if-close-bytes.true c.if-bytes-close-eq34.true
