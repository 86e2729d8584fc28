-- One digit more, or a value that is above the greatest number already.
use Rattle.std.proofs.Common.{arith, ◌∙◌}
use Rattle.omega_aiger.proofs.Digits.{digit_more, value_grows}
use Rattle.omega_aiger.proofs.number.digits_value.Goals as goal
use Rattle.omega_aiger.proofs.number.digits_value.Goals.{then-value, else-value}

pub loop-digit-preserved : goal.loop-digit-preserved
loop-digit-preserved c =
    let digits = c.args.digits.now in
    let i = c.loop-digit.digit-index in
    elim c.if-value.branch [
      | then-value w ↦
          let more = digit_more digits i c.loop-digit.value w.from.result c.loop-digit-test.true c.requires c.loop-digit.invariant.exact w.if-value.true w.from.ensures in
          record {
            exact = λ small. w.value-is ∙ more.0;
            great = λ great. omega (arith, more.0, w.value-is, great);
            small = omega (arith, w.value-is, w.if-value.true, more.1);
          }
      | else-value w ↦
          let less = value_grows digits i c.loop-digit-test.true in
          record {
            exact = λ small. absurd (omega (arith, w.value-is, w.if-value.false, small));
            great = λ great. omega (arith, less, c.loop-digit.invariant.great (omega (arith, w.if-value.false)));
            small = omega (arith, w.value-is, c.loop-digit.invariant.small);
          }
    ]
