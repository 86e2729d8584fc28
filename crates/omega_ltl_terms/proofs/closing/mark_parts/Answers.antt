-- a false demand, or its parts
use Rattle.std.proofs.Common.{◌≡◌, ◌+◌, ◌-◌, ℕ, false, sym, subst, ◌∙◌, arith}
use Rattle.omega_ltl_shapes.specs.Shapes.{shape_at}
use Rattle.omega_ltl_shapes.specs.declared.shape.Shape.{Shape}
use Rattle.omega_ltl_terms.specs.Closing.{is_false, parts_of}
use Rattle.omega_ltl_terms.specs.private.Marking.{AreParted, MarksMore}
use Rattle.omega_ltl_terms.proofs.ClosingLemmas.{marks_parts, parted_marked}
use Rattle.omega_ltl_terms.proofs.closing.mark_parts.Goals as goal

pub loop-d-preserved-then-value_at : goal.loop-d-preserved-then-value_at
loop-d-preserved-then-value_at c =
    let d : ℕ = c.loop-d.d - 1 in
    let here = sym c.value_at.ensures ∙ c.if-value_at.true in
    let more : MarksMore (parts_of (shape_at c.args.shapes.now (c.loop-d.d - 1))) c.loop-d.marked c.mark_parts_of.new.marked =
    subst (λ (s : Shape). MarksMore (parts_of s) c.loop-d.marked c.mark_parts_of.new.marked) c.shape_at-shape.ensures c.mark_parts_of.ensures in
    let sound : is_false (shape_at c.args.shapes.now (c.loop-d.d - 1)) ≡ false =
    subst (λ (s : Shape). is_false s ≡ false) c.shape_at-shape.ensures (sym c.is_false.ensures ∙ c.if-is_false.false) in
    let before : AreParted c.args.shapes.now (d + 1) c.loop-d.marked =
    subst (λ (n : ℕ). AreParted c.args.shapes.now n c.loop-d.marked) (let e : c.loop-d.d ≡ d + 1 = omega arith in e) c.loop-d.invariant.parted in
    record {
      low = omega (arith, c.loop-d.invariant.low);
      marks = marks_parts c.args.shapes.now c.requires.grounded d c.args.marked.now c.loop-d.marked c.mark_parts_of.new.marked c.loop-d.invariant.marks here more;
      parted = parted_marked c.args.shapes.now c.requires.grounded d c.args.marked.now c.loop-d.marked c.mark_parts_of.new.marked c.loop-d.invariant.marks here more sound before;
    }
