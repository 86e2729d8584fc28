-- Digits that another byte ends are a number if no zero leads and they are not too great; one digit always is.
use Rattle.std.proofs.Common.{◌≡◌, ◌<◌, true, get_or, length, sym, ◌∙◌, arith}
use Rattle.omega_text.specs.Bytes.{is_digit}
use Rattle.omega_text.proofs.pg_texts.Numbers.{one_counted, one_value, worth_small}
use Rattle.omega_text.proofs.pg_texts.Tokens.{number_first}
use Rattle.omega_text.proofs.pg.token.plain_number.Goals as goal

pub returns-then-not-is_ascii_digit-2-clause-form : goal.returns-then-not-is_ascii_digit-2-clause-form
returns-then-not-is_ascii_digit-2-clause-form c =
    let bytes = c.args.bytes.now in
    let long : 1 < length bytes = omega arith in
    let digit : is_digit (get_or bytes 0 0) ≡ true = sym c.is_ascii_digit.ensures.value ∙ c.if-not-is_ascii_digit.false in
    let other = sym c.is_ascii_digit-2.ensures.value ∙ c.if-not-is_ascii_digit-2.true in
    number_first bytes 1 c.from.result (omega arith) digit (sym (one_counted bytes digit long other))
    (one_value bytes c.from.result (omega arith) digit c.from.ensures) (λ _. omega arith)
    (omega (arith, c.from.ensures, worth_small (get_or bytes 0 0) digit))

pub returns-clause-form : goal.returns-clause-form
returns-clause-form c =
    let bytes = c.args.bytes.now in
    let found = c.ended_digits-count in
    let some : 0 < found.result.0 = omega (arith, c.if-count-eq0.false) in
    let digit : is_digit (get_or bytes 0 0) ≡ true = sym c.is_ascii_digit.ensures.value ∙ c.if-not-is_ascii_digit.false in
    number_first bytes found.result.0 found.result.1 (omega arith) digit (found.ensures.count some) (found.ensures.value some)
    c.if-has_needless_zero.ensures (omega (arith, c.if-value.false))
