-- A node leaves what it says of the nodes before it.
use Rattle.std.proofs.Common.{true, refl}
use Rattle.omega_hoa_satisfiable.proofs.Remaining.{after-node, left-first, left-last, left-same}
use Rattle.omega_hoa_satisfiable.proofs.encoding.append_label.Goals as goal

pub loop-node-init : goal.loop-node-init
loop-node-init c = (
  c.requires.planned,
  left-same _ _ _ _ _ _ _ _ refl c.new-waiting.ensures
      (left-first c.args.steps.now.items (record { wanted = true; exits = c.args.exits }) c.args.exits.otherwise c.args.label.now _ c.requires.exits c.nodes-left.ensures.nodes),
)

pub append_constant-requires-clause-exits : goal.append_constant-requires-clause-exits
append_constant-requires-clause-exits c =
    (after-node _ _ _ _ _ _ _ _ _ c.loop-node.invariant.0 c.loop-node.invariant.1 c.in-Some.ensures.cases c.in-Constant.is).0

pub loop-node-preserved-in-Constant : goal.loop-node-preserved-in-Constant
loop-node-preserved-in-Constant c =
    let made = c.in_ok-place-in-Constant.ensures in (
      made.planned,
      left-same _ _ _ _ _ _ _ _ c.take-part.ensures.part c.take-part.ensures.rest
          ((after-node _ _ _ _ _ _ _ _ _ c.loop-node.invariant.0 c.loop-node.invariant.1 c.in-Some.ensures.cases c.in-Constant.is).1
          c.append_constant.new.steps.items c.in_ok-place-in-Constant.place made.planned made.kept made.ok),
    )

pub append_literal-requires-clause-exits : goal.append_literal-requires-clause-exits
append_literal-requires-clause-exits c =
    (after-node _ _ _ _ _ _ _ _ _ c.loop-node.invariant.0 c.loop-node.invariant.1 c.in-Some.ensures.cases c.in-Proposition.is).0

pub loop-node-preserved-in-Proposition : goal.loop-node-preserved-in-Proposition
loop-node-preserved-in-Proposition c =
    let made = c.in_ok-place-in-Proposition.ensures in (
      made.planned,
      left-same _ _ _ _ _ _ _ _ c.take-part-in-Proposition.ensures.part c.take-part-in-Proposition.ensures.rest
          ((after-node _ _ _ _ _ _ _ _ _ c.loop-node.invariant.0 c.loop-node.invariant.1 c.in-Some.ensures.cases c.in-Proposition.is).1
          c.append_literal.new.steps.items c.in_ok-place-in-Proposition.place made.planned made.kept made.ok),
    )

pub loop-node-preserved-in-Not : goal.loop-node-preserved-in-Not
loop-node-preserved-in-Not c = (
  c.loop-node.invariant.0,
  left-same _ _ _ _ _ _ _ _ c.negation-part.ensures refl
      (after-node _ _ _ _ _ _ _ _ _ c.loop-node.invariant.0 c.loop-node.invariant.1 c.in-Some.ensures.cases c.in-Not.is),
)

pub loop-node-preserved-in-And : goal.loop-node-preserved-in-And
loop-node-preserved-in-And c = (
  c.loop-node.invariant.0,
  left-same _ _ _ _ _ _ _ _ c.in_ok-part-in-And.ensures.right c.in_ok-part-in-And.ensures.waiting
      (after-node _ _ _ _ _ _ _ _ _ c.loop-node.invariant.0 c.loop-node.invariant.1 c.in-Some.ensures.cases c.in-And.is),
)

pub loop-node-preserved-in-Or : goal.loop-node-preserved-in-Or
loop-node-preserved-in-Or c = (
  c.loop-node.invariant.0,
  left-same _ _ _ _ _ _ _ _ c.in_ok-part-in-Or.ensures.right c.in_ok-part-in-Or.ensures.waiting
      (after-node _ _ _ _ _ _ _ _ _ c.loop-node.invariant.0 c.loop-node.invariant.1 c.in-Some.ensures.cases c.in-Or.is),
)

pub loop-node-preserved-in-Alias : goal.loop-node-preserved-in-Alias
loop-node-preserved-in-Alias c =
    absurd (after-node _ _ _ _ _ _ _ _ _ c.loop-node.invariant.0 c.loop-node.invariant.1 c.in-Some.ensures.cases c.in-Alias.is)

pub loop-node-preserved : goal.loop-node-preserved
loop-node-preserved c =
    absurd (after-node _ _ _ _ _ _ _ _ _ c.loop-node.invariant.0 c.loop-node.invariant.1 c.in-Some.ensures.cases c.in-Group.is)

pub returns-clause-ok : goal.returns-clause-ok
returns-clause-ok c = left-last _ _ _ _ _ _ c.loop-node.invariant.1 c.in_default.ensures.cases
