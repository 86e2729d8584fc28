-- A node makes its text of those before it.
use Rattle.std.proofs.Common.{[], ◌∷◌, ◌++◌, ap, ◌∙◌}
use Rattle.omega_hoa_expression.specs.Writing.{atom_text, set_text}
use Rattle.omega_hoa_expression.specs.Texts.{whole_text}
use Rattle.omega_hoa_acceptance.specs.private.layout.Texts.{acc_texts_after}
use Rattle.omega_hoa_acceptance.proofs.TextLemmas.{acc_texts-last}
use Rattle.omega_hoa_acceptance.proofs.writing.put_formula.Goals as goal

pub loop-node-preserved-in-Continue-1 : goal.loop-node-preserved-in-Continue-1
loop-node-preserved-in-Continue-1 c =
    c.in_ok-truth-in-Constant.ensures.ok (acc_texts_after [] c.in-Some.before.now)
    ∙ (ap (whole_text c.loop-node.text) (acc_texts-last c.loop-node.left.now c.in-Some.before.now c.in-Some.node.now _ c.in-Some.ensures.cases c.in-Constant.is) ∙ c.loop-node.invariant)

pub loop-node-preserved-in-Continue-branch-2 : goal.loop-node-preserved-in-Continue-branch-2
loop-node-preserved-in-Continue-branch-2 c =
    c.in_ok-set-in-Inf.ensures.ok (acc_texts_after [] c.in-Some.before.now)
    ∙ (ap (λ word. whole_text c.loop-node.text (atom_text (word ++ set_text c.in-Inf.negated c.in-Inf.set) ∷ acc_texts_after [] c.in-Some.before.now)) c.as_slice.ensures
    ∙ (ap (whole_text c.loop-node.text) (acc_texts-last c.loop-node.left.now c.in-Some.before.now c.in-Some.node.now _ c.in-Some.ensures.cases c.in-Inf.is) ∙ c.loop-node.invariant))

pub loop-node-preserved-in-Continue-branch-3 : goal.loop-node-preserved-in-Continue-branch-3
loop-node-preserved-in-Continue-branch-3 c =
    c.in_ok-set-in-Fin.ensures.ok (acc_texts_after [] c.in-Some.before.now)
    ∙ (ap (λ word. whole_text c.loop-node.text (atom_text (word ++ set_text c.in-Fin.negated c.in-Fin.set) ∷ acc_texts_after [] c.in-Some.before.now)) c.as_slice-in-Fin.ensures
    ∙ (ap (whole_text c.loop-node.text) (acc_texts-last c.loop-node.left.now c.in-Some.before.now c.in-Some.node.now _ c.in-Some.ensures.cases c.in-Fin.is) ∙ c.loop-node.invariant))

pub loop-node-preserved-in-Continue-branch-4 : goal.loop-node-preserved-in-Continue-branch-4
loop-node-preserved-in-Continue-branch-4 c =
    c.in_ok-and-in-And.ensures.ok (acc_texts_after [] c.in-Some.before.now)
    ∙ (ap (whole_text c.loop-node.text) (acc_texts-last c.loop-node.left.now c.in-Some.before.now c.in-Some.node.now _ c.in-Some.ensures.cases c.in-And.is) ∙ c.loop-node.invariant)

pub loop-node-preserved : goal.loop-node-preserved
loop-node-preserved c =
    c.in_ok-or-in-Or.ensures.ok (acc_texts_after [] c.in-Some.before.now)
    ∙ (ap (whole_text c.loop-node.text) (acc_texts-last c.loop-node.left.now c.in-Some.before.now c.in-Some.node.now _ c.in-Some.ensures.cases c.in-Or.is) ∙ c.loop-node.invariant)
