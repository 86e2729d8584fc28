use Rattle.std.proofs.lemmas.Bool.{both_ways}
use Rattle.omega_ltl_shapes.proofs.CubeLemmas.{bits_literals, literals_negative, literals_positive}
use Rattle.omega_ltl_shapes.proofs.cube.Cube.is_within.Goals as goal

pub returns-then-has_bits_of : goal.returns-then-has_bits_of
returns-then-has_bits_of c = (
  λ h. bits_literals c.args.self c.args.other (c.has_bits_of.ensures.0 c.if-has_bits_of.true) (c.has_bits_of-then-has_bits_of.ensures.0 h),
  λ l. c.has_bits_of-then-has_bits_of.ensures.1 (literals_negative c.args.self c.args.other l),
)

pub returns-else-has_bits_of : goal.returns-else-has_bits_of
returns-else-has_bits_of c = (
  λ h. absurd (both_ways c.has_bits_of.result c.if-has_bits_of.false h),
  λ l. c.has_bits_of.ensures.1 (literals_positive c.args.self c.args.other l),
)
