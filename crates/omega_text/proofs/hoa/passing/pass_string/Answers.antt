-- The bytes that were counted, and the quote after them.
use Rattle.std.proofs.Common.{◌+◌, length, refl, ap, arith, length-drop}
use Rattle.std.proofs.lemmas.List.Sums.{prefix_len-le-length}
use Rattle.omega_text.specs.private.hoa.scanning.Passing.{is_quoted}
use Rattle.omega_text.proofs.hoa_texts.Passing.{string_passes, string_simple}
use Rattle.omega_text.proofs.hoa.passing.pass_string.Goals as goal

pub overflow_add-end : goal.overflow_add-end
overflow_add-end c =
    let size = length-drop (c.args.place + 1) c.args.bytes.now in
    omega (arith, c.quoted_count.ensures, prefix_len-le-length is_quoted c.tail.result.now, ap length c.tail.ensures, c.requires.within)

pub returns-then-bytes-end-eq34 : goal.returns-then-bytes-end-eq34
returns-then-bytes-end-eq34 c =
    string_simple c.args.start c.args.bytes.now c.tail.result.now c.args.place c.quoted_count.result c.requires.within c.tail.ensures c.requires.quote c.quoted_count.ensures
    c.if-end-bytes.true c.if-bytes-end-eq34.true

pub returns : goal.returns
returns c =
    string_passes c.args.start c.args.bytes.now c.tail.result.now c.args.place c.quoted_count.result (record { mode = c.new.result; start = c.args.start; value = 0 }) c.requires.within c.tail.ensures
    c.requires.quote c.quoted_count.ensures c.new.ensures refl
