-- A formula past a limit was measured so.
use Rattle.std.proofs.Common.{inl, refl}
use Rattle.omega_ltl_text.proofs.Measuring.{deep_measured, large_measured, shallow_measured}
use Rattle.omega_ltl_text.proofs.measurer.FormulaMeasurer.check_limits.Goals as goal

pub returns-then-depth-gt-MOST_FORMULA_DEPTH : goal.returns-then-depth-gt-MOST_FORMULA_DEPTH
returns-then-depth-gt-MOST_FORMULA_DEPTH c = λ state tree names measures ends. (
  refl,
  deep_measured c.args.self tree c.in-Some.operand c.reduce_depth-depth.result c.reduce_depth-depth.new.waiting.items c.in-Some.is
      c.reduce_depth-depth.ensures c.if-depth-gt-MOST_FORMULA_DEPTH.true state measures ends,
)

pub returns-then-self-gt-MOST_FORMULA_NODES : goal.returns-then-self-gt-MOST_FORMULA_NODES
returns-then-self-gt-MOST_FORMULA_NODES c = λ state tree names measures ends. (
  refl,
  shallow_measured c.args.self tree c.in-Some.operand c.reduce_depth-depth.result c.reduce_depth-depth.new.waiting.items c.in-Some.is
      c.reduce_depth-depth.ensures c.if-depth-gt-MOST_FORMULA_DEPTH.false state measures ends,
  inl
      (large_measured c.args.self tree c.in-Some.operand c.reduce_depth-depth.result c.reduce_depth-depth.new.waiting.items c.in-Some.is
      c.reduce_depth-depth.ensures c.if-self-gt-MOST_FORMULA_NODES.true state measures ends),
)
