-- The nodes of both labels and the operator are those of the conjunction.
use Rattle.std.proofs.Common.{◌≡◌, [], ◌∷◌, ◌++◌, List, append_assoc, ap, ◌∙◌}
use Rattle.std.proofs.lemmas.Result.{IfErr-weaker, on_ok_weaker}
use Rattle.omega_hoa_label.specs.Label.{LabelTree, conjunction}
use Rattle.omega_hoa_label.specs.Postfix.{postfix}
use Rattle.omega_hoa_label.specs.declared.label.LabelNode.{LabelNode}
use Rattle.omega_hoa_label.specs.declared.label.LabelNode.TheVariants.{And}
use Rattle.omega_hoa_label.proofs.ShapeLemmas.{value_then}
use Rattle.omega_hoa_label.proofs.label.Label.conjunction.Goals as goal

-- nodes that are put after others
put-joined : (one other : LabelTree) (start first second all : List LabelNode) → start ≡ [] → first ≡ start ++ postfix one
    → second ≡ first ++ postfix other → all ≡ second ++ And ∷ [] → all ≡ postfix (conjunction one other)
put-joined one other start first second all none left right last =
    last
    ∙ (ap (λ nodes. nodes ++ And ∷ []) (right ∙ ap (λ nodes. nodes ++ postfix other) (left ∙ ap (λ nodes. nodes ++ postfix one) none))
    ∙ append_assoc (postfix one) (postfix other) (And ∷ []))

pub of_postfix-requires : goal.of_postfix-requires
of_postfix-requires c = (
  conjunction c.args.one.now c.args.other.now,
  put-joined c.args.one.now c.args.other.now _ _ _ _ c.new-nodes.ensures c.in_ok-append.ensures.ok c.in_ok-append-2.ensures.ok c.in_ok-push.ensures.ok,
)

pub returns-clause-ok : goal.returns-clause-ok
returns-clause-ok c =
    value_then c.of_postfix.result _ _ c.of_postfix.ensures.ok
    (λ label is. is (conjunction c.args.one.now c.args.other.now)
    (put-joined c.args.one.now c.args.other.now _ _ _ _ c.new-nodes.ensures c.in_ok-append.ensures.ok c.in_ok-append-2.ensures.ok c.in_ok-push.ensures.ok))

pub returns-clause-shallow : goal.returns-clause-shallow
returns-clause-shallow c =
    on_ok_weaker c.of_postfix.result
    (λ is. is (conjunction c.args.one.now c.args.other.now)
    (put-joined c.args.one.now c.args.other.now _ _ _ _ c.new-nodes.ensures c.in_ok-append.ensures.ok c.in_ok-append-2.ensures.ok c.in_ok-push.ensures.ok))
    c.of_postfix.ensures.shallow

pub returns-clause-err : goal.returns-clause-err
returns-clause-err c =
    IfErr-weaker c.of_postfix.result _ _
    (λ refusal is. is (conjunction c.args.one.now c.args.other.now)
    (put-joined c.args.one.now c.args.other.now _ _ _ _ c.new-nodes.ensures c.in_ok-append.ensures.ok c.in_ok-append-2.ensures.ok c.in_ok-push.ensures.ok))
    c.of_postfix.ensures.err
