-- The digits that were counted, and the byte after them.
use Rattle.std.proofs.Common.{sym, subst, arith}
use Rattle.omega_text.specs.private.hoa.scanning.Passing.{IsSimple}
use Rattle.omega_text.specs.private.hoa.scanning.Unfinished.{fresh}
use Rattle.omega_text.proofs.hoa_texts.Passing.{digit_simple, passes_none}
use Rattle.omega_text.proofs.hoa_texts.Plain.{few_digits_simple}
use Rattle.omega_text.proofs.hoa.passing.pass_digits.Goals as goal

pub returns-then-is_single : goal.returns-then-is_single
returns-then-is_single c = digit_simple c.args.start c.args.bytes.now c.args.place c.requires.digit c.if-next-bytes.true (c.is_single.ensures c.if-is_single.true)

pub returns-then-is_single-2 : goal.returns-then-is_single-2
returns-then-is_single-2 c =
    few_digits_simple c.args.start c.args.bytes.now c.tail-rest.result.now c.args.place c.in-Some.count c.in-Some.field-0-1 c.requires.within c.tail-rest.ensures c.requires.digit
    c.in-Some.ensures.count c.in-Some.ensures.value c.in-Some.ensures.small c.if-not-has_needless_zero.ensures c.in-Some.ensures.ended
    (c.is_single-then-not-has_needless_zero.ensures c.if-is_single-2.true)

pub returns : goal.returns
returns c =
    subst (IsSimple c.args.start c.args.bytes.now c.args.place) (sym c.not_begun.ensures)
    (passes_none c.args.start c.args.bytes.now c.args.place (fresh c.args.start) (omega (arith, c.requires.within)))
