-- one value more
use Rattle.std.proofs.Common.{◌↔◌, Bool, List, sym, subst}
use Rattle.std.specs.Prelude.{IsTrue, slice_index_or}
use Rattle.std.proofs.Common.{false, ◌+◌}
use Rattle.omega_ltl_shapes.specs.Covers.{Step}
use Rattle.omega_ltl_shapes.specs.declared.shape.Shape.{Shape}
use Rattle.omega_ltl_terms.specs.Tables.{AreCovered}
use Rattle.omega_ltl_terms.proofs.CoveringLemmas.{covered_more}
use Rattle.omega_ltl_terms.proofs.covering.cover.Goals as goal

pub loop-d-preserved : goal.loop-d-preserved
loop-d-preserved c =
    subst (λ (xs : List Bool). AreCovered c.args.shapes.now c.args.cube c.args.next.now (c.loop-d.d + 1) xs) (sym c.in_ok-push.ensures.items)
    (covered_more c.args.shapes.now c.args.cube c.args.next.now c.requires.grounded c.loop-d.d c.loop-d.covered.items c.is_covered-value.result c.loop-d.invariant
    (subst (λ (s : Shape). IsTrue c.is_covered-value.result ↔ Step c.args.cube c.args.next.now (λ e. IsTrue (slice_index_or c.loop-d.covered.items e false)) c.loop-d.d s)
    c.shape_at-shape.ensures
    (subst (λ (xs : List Bool). IsTrue c.is_covered-value.result ↔ Step c.args.cube c.args.next.now (λ e. IsTrue (slice_index_or xs e false)) c.loop-d.d c.shape_at-shape.result)
    c.as_slice.ensures.value c.is_covered-value.ensures)))
