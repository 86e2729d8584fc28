-- The word raised or cleared at a field holds the allowance.
use Rattle.std.proofs.Common.{length, get_or, ap, ◌∙◌, ◌∷◌, [], arith}
use Rattle.omega_measure.specs.declared.field.Field.{Field}
use Rattle.omega_measure.proofs.OneWord.{new_word}
use Rattle.omega_measure.proofs.PackedCalls.{cleared_allowance, cleared_packed, inside_by, raised_allowance, raised_fits, raised_packed}
use Rattle.omega_measure.proofs.words.allowed_word.Goals as goal

abbrev none : Field
none = record { word = 0; shift = 0; bits = 0; limit = 0 }

pub front-requires-clause-field : goal.front-requires-clause-field
front-requires-clause-field c = inside_by (length c.args.row.now) c.args.fields.now none c.last_below-at.result c.requires.fields (omega (arith, c.last_below-at.ensures.within, c.requires.within))

pub front-requires-clause-fits : goal.front-requires-clause-fits
front-requires-clause-fits c =
    raised_fits c.args.fields.now c.args.row.now c.requires.fields c.requires.packed c.args.kept c.requires.within c.requires.below c.last_below-at.result none c.last_below-at.ensures

pub front-requires-else-strict-clause-field : goal.front-requires-else-strict-clause-field
front-requires-else-strict-clause-field c = inside_by (length c.args.row.now) c.args.fields.now none c.args.kept c.requires.fields c.requires.within

pub returns-then-strict : goal.returns-then-strict
returns-then-strict c =
    let field = get_or c.args.fields.now c.last_below-at.result none in
    let inside = inside_by (length c.args.row.now) c.args.fields.now none c.last_below-at.result c.requires.fields (omega (arith, c.last_below-at.ensures.within, c.requires.within)) in
    let new = ap (λ x. x ∷ []) c.front.ensures ∙ new_word c.args.row.now field.word _ c.requires.one inside.word in
    record {
      packed =
          raised_packed c.args.fields.now c.args.row.now c.requires.fields c.requires.packed c.args.kept c.requires.within c.requires.below c.last_below-at.result none c.last_below-at.ensures (c.front.result ∷ []) new;
      allowance =
          rw c.if-strict.true
          (raised_allowance c.args.fields.now c.args.row.now c.requires.fields c.requires.packed c.args.kept c.requires.within c.requires.below c.last_below-at.result none c.last_below-at.ensures (c.front.result ∷ []) new);
    }

pub returns-else-strict : goal.returns-else-strict
returns-else-strict c =
    let field = get_or c.args.fields.now c.args.kept none in
    let inside = inside_by (length c.args.row.now) c.args.fields.now none c.args.kept c.requires.fields c.requires.within in
    let new = ap (λ x. x ∷ []) c.front-else-strict.ensures ∙ new_word c.args.row.now field.word _ c.requires.one inside.word in
    record {
      packed =
          cleared_packed c.args.fields.now c.args.row.now c.requires.fields c.requires.packed c.args.kept c.requires.within c.requires.below none (c.front-else-strict.result ∷ []) new;
      allowance =
          rw c.if-strict.false
          (cleared_allowance c.args.fields.now c.args.row.now c.requires.fields c.requires.packed c.args.kept c.requires.within c.requires.below none (c.front-else-strict.result ∷ []) new);
    }
