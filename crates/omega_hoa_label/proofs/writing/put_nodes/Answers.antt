-- A node makes its text of those before it.
use Rattle.std.proofs.Common.{[], ap, ◌∙◌}
use Rattle.omega_hoa_expression.specs.Texts.{whole_text}
use Rattle.omega_hoa_label.specs.private.layout.Texts.{texts_after}
use Rattle.omega_hoa_label.proofs.TextLemmas.{texts-last}
use Rattle.omega_hoa_label.proofs.writing.put_nodes.Goals as goal

pub loop-node-preserved-in-Continue-1 : goal.loop-node-preserved-in-Continue-1
loop-node-preserved-in-Continue-1 c =
    c.in_ok-truth-in-Constant.ensures.ok (texts_after [] c.in-Some.before.now)
    ∙ (ap (whole_text c.loop-node.text) (texts-last c.loop-node.left.now c.in-Some.before.now c.in-Some.node.now _ c.in-Some.ensures.cases c.in-Constant.is) ∙ c.loop-node.invariant)

pub loop-node-preserved-in-Continue-branch-2 : goal.loop-node-preserved-in-Continue-branch-2
loop-node-preserved-in-Continue-branch-2 c =
    c.in_ok-number-in-Proposition.ensures.ok (texts_after [] c.in-Some.before.now)
    ∙ (ap (whole_text c.loop-node.text) (texts-last c.loop-node.left.now c.in-Some.before.now c.in-Some.node.now _ c.in-Some.ensures.cases c.in-Proposition.is) ∙ c.loop-node.invariant)

pub loop-node-preserved-in-Continue-branch-3 : goal.loop-node-preserved-in-Continue-branch-3
loop-node-preserved-in-Continue-branch-3 c =
    c.in_ok-negate-in-Not.ensures.ok (texts_after [] c.in-Some.before.now)
    ∙ (ap (whole_text c.loop-node.text) (texts-last c.loop-node.left.now c.in-Some.before.now c.in-Some.node.now _ c.in-Some.ensures.cases c.in-Not.is) ∙ c.loop-node.invariant)

pub loop-node-preserved-in-Continue-branch-4 : goal.loop-node-preserved-in-Continue-branch-4
loop-node-preserved-in-Continue-branch-4 c =
    c.in_ok-and-in-And.ensures.ok (texts_after [] c.in-Some.before.now)
    ∙ (ap (whole_text c.loop-node.text) (texts-last c.loop-node.left.now c.in-Some.before.now c.in-Some.node.now _ c.in-Some.ensures.cases c.in-And.is) ∙ c.loop-node.invariant)

pub loop-node-preserved-in-Continue-branch-5 : goal.loop-node-preserved-in-Continue-branch-5
loop-node-preserved-in-Continue-branch-5 c =
    c.in_ok-or-in-Or.ensures.ok (texts_after [] c.in-Some.before.now)
    ∙ (ap (whole_text c.loop-node.text) (texts-last c.loop-node.left.now c.in-Some.before.now c.in-Some.node.now _ c.in-Some.ensures.cases c.in-Or.is) ∙ c.loop-node.invariant)

pub loop-node-preserved-in-Alias : goal.loop-node-preserved-in-Alias
loop-node-preserved-in-Alias c =
    ap (whole_text c.loop-node.text) (texts-last c.loop-node.left.now c.in-Some.before.now c.in-Some.node.now _ c.in-Some.ensures.cases c.in-Alias.is) ∙ c.loop-node.invariant

pub loop-node-preserved : goal.loop-node-preserved
loop-node-preserved c =
    ap (whole_text c.loop-node.text) (texts-last c.loop-node.left.now c.in-Some.before.now c.in-Some.node.now _ c.in-Some.ensures.cases c.in-Group.is) ∙ c.loop-node.invariant
