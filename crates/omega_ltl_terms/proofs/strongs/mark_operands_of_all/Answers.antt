use Rattle.std.proofs.Common.{◌≡◌, ◌<◌, ◌+◌, ◌-◌, ℕ, false, length, sym, subst, ◌∙◌, arith}
use Rattle.std.specs.Prelude.{Contains}
use Rattle.std.proofs.lemmas.Bool.{both_ways}
use Rattle.omega_ltl_shapes.specs.Shapes.{shape_at}
use Rattle.omega_ltl_shapes.specs.declared.shape.Shape.{Shape}
use Rattle.omega_ltl_terms.specs.Needed.{operands}
use Rattle.omega_ltl_terms.specs.private.Marking.{MarksMore}
use Rattle.omega_ltl_terms.specs.private.Strongs.{AreSpoken}
use Rattle.omega_ltl_terms.proofs.ClosingLemmas.{marked_below}
use Rattle.omega_ltl_terms.proofs.StrongLemmas.{needed_more, needed_none, operands_below, spoken_more, spoken_same}
use Rattle.omega_ltl_terms.proofs.strongs.mark_operands_of_all.Goals as goal

pub loop-d-init : goal.loop-d-init
loop-d-init c = record {
  low = omega (arith, c.requires.few);
  marks = needed_none c.args.shapes.now c.args.marked.now;
  spoken = λ e above h. absurd (let low : e < length c.args.marked.now = marked_below c.args.marked.now e h in omega (arith, above, low, c.requires.long, c.requires.few));
}

pub loop-d-preserved-then-value_at : goal.loop-d-preserved-then-value_at
loop-d-preserved-then-value_at c =
    let d : ℕ = c.loop-d.d - 1 in
    let here = sym c.value_at.ensures ∙ c.if-value_at.true in
    let more : MarksMore (operands (shape_at c.args.shapes.now (c.loop-d.d - 1))) c.loop-d.marked c.mark_operands.new.marked =
    subst (λ (s : Shape). MarksMore (operands s) c.loop-d.marked c.mark_operands.new.marked) c.shape_at.ensures c.mark_operands.ensures in
    let before : AreSpoken c.args.shapes.now (d + 1) c.loop-d.marked =
    subst (λ (n : ℕ). AreSpoken c.args.shapes.now n c.loop-d.marked) (let e : c.loop-d.d ≡ d + 1 = omega arith in e) c.loop-d.invariant.spoken in
    record {
      low = omega (arith, c.loop-d.invariant.low);
      marks = needed_more c.args.shapes.now c.requires.grounded d c.args.marked.now c.loop-d.marked c.mark_operands.new.marked c.loop-d.invariant.marks here more;
      spoken = spoken_more c.args.shapes.now c.requires.grounded d c.args.marked.now c.loop-d.marked c.mark_operands.new.marked c.loop-d.invariant.marks here more before;
    }

pub loop-d-preserved : goal.loop-d-preserved
loop-d-preserved c =
    let d : ℕ = c.loop-d.d - 1 in
    let absent : c.value_at.result ≡ false = cc in
    record {
      low = omega (arith, c.loop-d.invariant.low);
      marks = c.loop-d.invariant.marks;
      spoken = spoken_same c.args.shapes.now d c.loop-d.marked (λ here. both_ways c.value_at.result absent (c.value_at.ensures ∙ here))
          (subst (λ (n : ℕ). AreSpoken c.args.shapes.now n c.loop-d.marked) (let e : c.loop-d.d ≡ d + 1 = omega arith in e) c.loop-d.invariant.spoken);
    }

pub mark_operands-requires : goal.mark_operands-requires
mark_operands-requires c e h =
    let d : ℕ = c.loop-d.d - 1 in
    let low : e < d = operands_below d (shape_at c.args.shapes.now d) (c.requires.grounded d) e (subst (λ (s : Shape). Contains (operands s) e) c.shape_at.ensures h) in
    omega (arith, low, c.loop-d.invariant.low, c.loop-d.invariant.marks.long, c.requires.long)

pub returns-clause-spoken : goal.returns-clause-spoken
returns-clause-spoken c = subst (λ (n : ℕ). AreSpoken c.args.shapes.now n c.loop-d.marked) (let e : c.loop-d.d ≡ 0 = omega arith in e) c.loop-d.invariant.spoken
