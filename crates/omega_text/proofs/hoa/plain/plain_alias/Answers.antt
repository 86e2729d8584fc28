-- The bytes of a word that were counted after the `@`.
use Rattle.std.proofs.Common.{length, ap, arith, length-drop}
use Rattle.std.proofs.lemmas.List.Sums.{prefix_len-le-length}
use Rattle.omega_text.specs.Bytes.{is_word_byte}
use Rattle.omega_text.proofs.hoa_texts.Plain.{first_alias}
use Rattle.omega_text.proofs.hoa.plain.plain_alias.Goals as goal

pub overflow_add-result : goal.overflow_add-result
overflow_add-result c =
    let size = length-drop 1 c.args.bytes.now in
    omega (arith, c.word_count-size.ensures, prefix_len-le-length is_word_byte c.tail.result.now, ap length c.tail.ensures, c.requires.some)

pub returns : goal.returns
returns c =
    first_alias c.args.bytes.now c.tail.result.now c.word_count-size.result c.requires.some c.requires.at c.tail.ensures c.word_count-size.ensures (omega (arith, c.if-size-eq0.false))
