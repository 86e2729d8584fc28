-- The row raised or cleared at a field holds the allowance.
use Rattle.std.proofs.Common.{length, arith}
use Rattle.omega_measure.specs.declared.field.Field.{Field}
use Rattle.omega_measure.proofs.PackedCalls.{cleared_allowance, cleared_packed, inside_by, raised_allowance, raised_fits, raised_packed}
use Rattle.omega_measure.proofs.words.allow_words.Goals as goal

abbrev none : Field
none = record { word = 0; shift = 0; bits = 0; limit = 0 }

pub raise_front-requires-clause-field : goal.raise_front-requires-clause-field
raise_front-requires-clause-field c = inside_by (length c.args.row.now) c.args.fields.now none c.last_below-at.result c.requires.fields (omega (arith, c.last_below-at.ensures.within, c.requires.within))

pub raise_front-requires-clause-fits : goal.raise_front-requires-clause-fits
raise_front-requires-clause-fits c =
    raised_fits c.args.fields.now c.args.row.now c.requires.fields c.requires.packed c.args.kept c.requires.within c.requires.below c.last_below-at.result none c.last_below-at.ensures

pub raise_front-requires-else-strict-clause-field : goal.raise_front-requires-else-strict-clause-field
raise_front-requires-else-strict-clause-field c = inside_by (length c.args.row.now) c.args.fields.now none c.args.kept c.requires.fields c.requires.within

pub returns-then-strict : goal.returns-then-strict
returns-then-strict c = record {
  packed =
      raised_packed c.args.fields.now c.args.row.now c.requires.fields c.requires.packed c.args.kept c.requires.within c.requires.below c.last_below-at.result none c.last_below-at.ensures c.raise_front.new.row c.raise_front.ensures;
  allowance =
      rw c.if-strict.true
      (raised_allowance c.args.fields.now c.args.row.now c.requires.fields c.requires.packed c.args.kept c.requires.within c.requires.below c.last_below-at.result none c.last_below-at.ensures c.raise_front.new.row c.raise_front.ensures);
}

pub returns-else-strict : goal.returns-else-strict
returns-else-strict c = record {
  packed =
      cleared_packed c.args.fields.now c.args.row.now c.requires.fields c.requires.packed c.args.kept c.requires.within c.requires.below none c.raise_front-else-strict.new.row c.raise_front-else-strict.ensures;
  allowance =
      rw c.if-strict.false
      (cleared_allowance c.args.fields.now c.args.row.now c.requires.fields c.requires.packed c.args.kept c.requires.within c.requires.below none c.raise_front-else-strict.new.row c.raise_front-else-strict.ensures);
}
