-- One digit more, and the first byte that is no digit.
use Rattle.std.proofs.Common.{◌≡◌, ◌+◌, ◌<◌, ℕ, true, get_or, inl, inr, subst, sym, ◌∙◌, arith}
use Rattle.std.proofs.lemmas.Bool.{cases_order}
use Rattle.std.proofs.lemmas.List.Sums.{prefix_len_is}
use Rattle.omega_text.specs.Bytes.{is_digit}
use Rattle.omega_text.proofs.pg_texts.Numbers.{one_counted, one_value, value_more, value_no_less, worth_small}
use Rattle.omega_text.proofs.digits.front_digits.Goals as goal
use Rattle.omega_text.proofs.digits.front_digits.Goals.{then-value, else-value}

pub returns-then-not-is_ascii_digit-clause-count : goal.returns-then-not-is_ascii_digit-clause-count
returns-then-not-is_ascii_digit-clause-count c =
    sym (one_counted c.args.bytes.now (sym c.is_ascii_digit.ensures.value ∙ c.if-is_ascii_digit.true) (omega (arith, c.if-bytes-gt1.true)) (sym c.is_ascii_digit-then-is_ascii_digit.ensures.value ∙ c.if-not-is_ascii_digit.true))

pub returns-then-not-is_ascii_digit-clause-value : goal.returns-then-not-is_ascii_digit-clause-value
returns-then-not-is_ascii_digit-clause-value c =
    λ _. one_value c.args.bytes.now c.from.result (omega (arith, c.if-bytes-gt1.true)) (sym c.is_ascii_digit.ensures.value ∙ c.if-is_ascii_digit.true) c.from.ensures

pub returns-then-not-is_ascii_digit-clause-great : goal.returns-then-not-is_ascii_digit-clause-great
returns-then-not-is_ascii_digit-clause-great c =
    λ great. absurd (omega (arith, great, c.from.ensures, worth_small (get_or c.args.bytes.now 0 0) (sym c.is_ascii_digit.ensures.value ∙ c.if-is_ascii_digit.true)))

pub returns-then-not-is_ascii_digit-2-clause-count : goal.returns-then-not-is_ascii_digit-2-clause-count
returns-then-not-is_ascii_digit-2-clause-count c =
    sym (prefix_len_is is_digit c.args.bytes.now c.loop-count.count 0 (omega arith) c.loop-count.invariant.digits (λ inside. sym c.is_ascii_digit-in-loop-count.ensures.value ∙ c.if-not-is_ascii_digit-2.true))

pub loop-count-preserved : goal.loop-count-preserved
loop-count-preserved c =
    let bytes = c.args.bytes.now in
    let i = c.loop-count.count in
    let digit : is_digit (get_or bytes i 0) ≡ true = sym c.is_ascii_digit-in-loop-count.ensures.value ∙ c.if-not-is_ascii_digit-2.false in
    let digits : (k : ℕ) → k < i + 1 → is_digit (get_or bytes k 0) ≡ true = λ k l. elim (cases_order k i) [
      | inl same ↦ subst (λ at. is_digit (get_or bytes at 0) ≡ true) (sym same) digit
      | inr apart ↦ c.loop-count.invariant.digits k (omega (arith, l, apart))
    ] in
    elim c.if-value.branch [
      | then-value w ↦
          let more = value_more bytes i c.loop-count.value w.from-then-value.result (omega arith) digit (c.loop-count.invariant.exact (omega (arith, w.if-value.true))) w.from-then-value.ensures in
          record {
            digits = digits;
            exact = λ small. w.value-is ∙ more;
            great = λ great. omega (arith, more, w.value-is);
            small = omega (arith, w.value-is, w.if-value.true, worth_small (get_or bytes i 0) digit, w.from-then-value.ensures);
          }
      | else-value w ↦
          let less = value_no_less bytes i (omega arith) in
          record {
            digits = digits;
            exact = λ small. absurd (omega (arith, w.value-is, w.if-value.false));
            great = λ great. omega (arith, less, c.loop-count.invariant.great (omega (arith, w.if-value.false)));
            small = omega (arith, w.value-is, c.loop-count.invariant.small);
          }
    ]

pub returns-clause-count : goal.returns-clause-count
returns-clause-count c = sym (prefix_len_is is_digit c.args.bytes.now _ 0 (omega arith) (λ k l. c.loop-count.invariant.digits k (omega arith)) (λ inside. absurd (omega arith)))
