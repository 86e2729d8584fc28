-- One digit more, and the first byte that is no digit.
use Rattle.std.proofs.Common.{◌≡◌, true, get_or, inl, inr, refl, subst, sym, ◌∙◌, arith}
use Rattle.std.proofs.lemmas.Bool.{cases_order}
use Rattle.std.proofs.lemmas.List.Sums.{prefix_len_is}
use Rattle.omega_text.specs.Bytes.{is_digit}
use Rattle.omega_text.proofs.pg_texts.Numbers.{power_more, value_more, worth_small}
use Rattle.omega_text.proofs.digits.few_digits.Goals as goal

pub loop-count-init : goal.loop-count-init
loop-count-init c =
    let bytes = c.args.bytes.now in
    let more = value_more bytes 0 0 c.from-value.result c.requires.some c.requires.digit refl c.from-value.ensures in
    record {
      digits = λ k l. let zeroth : 0 ≡ k = omega (arith, l) in subst (λ at. is_digit (get_or bytes at 0) ≡ true) zeroth c.requires.digit;
      exact = omega (arith, more);
      small = omega (arith, worth_small (get_or bytes 0 0) c.requires.digit, c.from-value.ensures);
    }

pub returns-then-not-is_ascii_digit-clause-count : goal.returns-then-not-is_ascii_digit-clause-count
returns-then-not-is_ascii_digit-clause-count c =
    sym (prefix_len_is is_digit c.args.bytes.now c.loop-count.count 0 (omega arith) c.loop-count.invariant.digits (λ inside. sym c.is_ascii_digit.ensures.value ∙ c.if-not-is_ascii_digit.true))

pub loop-count-preserved : goal.loop-count-preserved
loop-count-preserved c =
    let bytes = c.args.bytes.now in
    let i = c.loop-count.count in
    let digit : is_digit (get_or bytes i 0) ≡ true = sym c.is_ascii_digit.ensures.value ∙ c.if-not-is_ascii_digit.false in
    record {
      digits = λ k l. elim (cases_order k i) [
        | inl same ↦ subst (λ at. is_digit (get_or bytes at 0) ≡ true) (sym same) digit
        | inr apart ↦ c.loop-count.invariant.digits k (omega (arith, l, apart))
      ];
      exact = value_more bytes i c.loop-count.value c.from.result (omega arith) digit c.loop-count.invariant.exact c.from.ensures;
      small = omega (arith, power_more i, c.loop-count.invariant.small, worth_small (get_or bytes i 0) digit, c.from.ensures);
    }
