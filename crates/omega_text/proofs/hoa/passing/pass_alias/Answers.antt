-- The word bytes that were counted after the sign, and the byte after them.
use Rattle.std.proofs.Common.{◌+◌, length, sym, ap, subst, arith, length-drop}
use Rattle.std.proofs.lemmas.List.Sums.{prefix_len-le-length}
use Rattle.omega_text.specs.Bytes.{is_word_byte}
use Rattle.omega_text.specs.private.hoa.scanning.Passing.{IsSimple}
use Rattle.omega_text.specs.private.hoa.scanning.Unfinished.{fresh}
use Rattle.omega_text.proofs.hoa_texts.AtOnce.{alias_simple}
use Rattle.omega_text.proofs.hoa_texts.Passing.{passes_none}
use Rattle.omega_text.proofs.hoa.passing.pass_alias.Goals as goal

pub overflow_add-end : goal.overflow_add-end
overflow_add-end c =
    omega (arith, c.word_count-count.ensures, prefix_len-le-length is_word_byte c.tail.result.now, ap length c.tail.ensures, length-drop (c.args.place + 1) c.args.bytes.now, c.requires.within)

pub returns-then-is_single : goal.returns-then-is_single
returns-then-is_single c =
    alias_simple c.args.start c.args.bytes.now c.tail.result.now c.args.place c.word_count-count.result c.requires.within c.tail.ensures c.requires.at c.word_count-count.ensures (omega arith) (omega arith)
    (c.is_single.ensures c.if-is_single.true)

pub returns : goal.returns
returns c =
    subst (IsSimple c.args.start c.args.bytes.now c.args.place) (sym c.not_begun.ensures)
    (passes_none c.args.start c.args.bytes.now c.args.place (fresh c.args.start) (omega (arith, c.requires.within)))
