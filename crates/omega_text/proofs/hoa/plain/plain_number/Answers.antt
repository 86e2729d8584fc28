-- One digit, or what the digits are.
use Rattle.std.proofs.Common.{sym, ◌∙◌}
use Rattle.omega_text.proofs.hoa_texts.Plain.{few_digits_unit, first_digit_unit}
use Rattle.omega_text.proofs.hoa.plain.plain_number.Goals as goal

pub returns-then-not-is_ascii_digit : goal.returns-then-not-is_ascii_digit
returns-then-not-is_ascii_digit c =
    first_digit_unit c.args.bytes.now c.from.result c.if-bytes-gt1.true c.requires.digit (sym c.is_ascii_digit.ensures.value ∙ c.if-not-is_ascii_digit.true) c.from.ensures

pub returns : goal.returns
returns c =
    few_digits_unit c.args.bytes.now c.in_ok-count.count c.in_ok-count.value c.requires.some c.requires.digit c.in_ok-count.ensures.count c.in_ok-count.ensures.value c.in_ok-count.ensures.small
    c.if-has_needless_zero.ensures
