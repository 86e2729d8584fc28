-- One field more.
use Rattle.std.proofs.Common.{[], ◌∷◌, ◌++◌, sym, ap, ◌∙◌, subst, arith}
use Rattle.omega_measure.specs.private.layout.Field.{ArePacked, last_field}
use Rattle.omega_measure.proofs.Packing.{last_field-push, packed_more}
use Rattle.omega_measure.proofs.fields.fields_of.Goals as goal

pub loop-limit-init : goal.loop-limit-init
loop-limit-init c =
    let only = c.in_ok-push.ensures.items ∙ ap (λ fields. fields ++ c.top-last.result ∷ []) c.in_ok-fields.ensures.items in
    let word = ap (λ field. field.word) c.top-last.ensures in
    let shift = ap (λ field. field.shift) c.top-last.ensures in
    record {
      packed = subst (ArePacked []) (sym only) (c.top-last.ensures, tt);
      last = sym (ap last_field only);
      word = omega (arith, word);
      room = omega (arith, shift);
    }

pub loop-limit-preserved : goal.loop-limit-preserved
loop-limit-preserved c =
    let fields = c.in_ok-push-2.ensures.items in
    let follows = c.next-last.ensures.follows in
    record {
      packed = subst (ArePacked _) (sym fields) (packed_more c.args.limits.now c.loop-limit.limit-index c.loop-limit.fields.items c.loop-limit.last c.next-last.result (omega arith) c.loop-limit.invariant.packed c.loop-limit.invariant.last follows);
      last = sym (ap last_field fields ∙ last_field-push c.loop-limit.fields.items c.next-last.result);
      word = omega (arith, c.next-last.ensures.word, c.loop-limit.invariant.word);
      room = follows.room;
    }
