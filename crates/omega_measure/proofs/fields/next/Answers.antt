-- The field follows the other, in its word or the next.
use Rattle.std.proofs.Common.{arith, refl}
use Rattle.std.specs.Int.Count.{count_leading_zeros}
use Rattle.omega_measure.proofs.Packing.{bits_of}
use Rattle.omega_measure.proofs.fields.next.Goals as goal

pub returns-then-bits-before-clause-follows : goal.returns-then-bits-before-clause-follows
returns-then-bits-before-clause-follows c =
    let bits = bits_of c.args.limit (count_leading_zeros 32 c.args.limit) c.ranges.limit.fits refl in
    record {
      greatest = refl;
      wide = bits.1;
      narrow = bits.2;
      few = omega arith;
      within = omega arith;
      room = omega arith;
      following = omega arith;
    }

pub returns-else-bits-before-clause-follows : goal.returns-else-bits-before-clause-follows
returns-else-bits-before-clause-follows c =
    let bits = bits_of c.args.limit (count_leading_zeros 32 c.args.limit) c.ranges.limit.fits refl in
    record {
      greatest = refl;
      wide = bits.1;
      narrow = bits.2;
      few = omega arith;
      within = omega (arith, bits.0);
      room = omega (arith, bits.0);
      following = omega (arith, bits.0);
    }
