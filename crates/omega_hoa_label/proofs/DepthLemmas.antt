-- The nodes of a label leave its depth, which is at most their number.
use Rattle.std.proofs.Common.{◌≡◌, ℕ, ◌+◌, ◌≤◌, max, min, List, [], ◌∷◌, ◌++◌, length, append-nil, append_assoc, ap, arith, refl, sym, ◌∙◌}
use Rattle.omega_hoa_expression.specs.Depth.{counted}
use Rattle.omega_hoa_expression.specs.Depths.{top_depth}
use Rattle.omega_hoa_expression.specs.Joins.{regrouped}
use Rattle.omega_hoa_expression.specs.Limits.{most_depth, past_depth}
use Rattle.omega_hoa_label.specs.Label.{LabelTree, label_depth, label_size}
use Rattle.omega_hoa_label.specs.Label as label
use Rattle.omega_hoa_label.specs.Postfix.{postfix, raw_postfix}
use Rattle.omega_hoa_label.specs.Raw.{RawLabelTree, alias, conjunction, constant, disjunction, group, negation, proposition, raw_depth}
use Rattle.omega_hoa_label.specs.private.layout.Depths.{depths_after}
use Rattle.omega_hoa_label.proofs.LabelLemmas.{length-postfix}
use Rattle.omega_hoa_label.specs.declared.label.LabelNode.{LabelNode}
use Rattle.omega_hoa_label.specs.declared.label.LabelNode.TheVariants.{And, Group, Not, Or}

-- one more than a depth as it is counted
one-deeper : (deep : ℕ) → min (counted deep + 1) past_depth ≡ counted (deep + 1)
one-deeper deep = omega arith

-- one more than the deeper of two depths as they are counted
both-deeper : (one other : ℕ) → min (max (counted one) (counted other) + 1) past_depth ≡ counted (max one other + 1)
both-deeper one other = omega arith

-- a label's nodes leave its depth as it is counted
depths-postfix : (tree : LabelTree) (depths : List ℕ) (rest : List LabelNode)
    → depths_after depths (postfix tree ++ rest) ≡ depths_after (counted (label_depth tree) ∷ depths) rest
depths-postfix (label.constant value) depths rest = refl
depths-postfix (label.proposition number) depths rest = refl
depths-postfix (label.negation part) depths rest =
    ap (depths_after depths) (append_assoc (postfix part) (Not ∷ []) rest)
    ∙ (depths-postfix part depths (Not ∷ rest)
    ∙ ap (λ deep. depths_after (deep ∷ depths) rest) (one-deeper (label_depth part)))
depths-postfix (label.conjunction left right) depths rest =
    ap (depths_after depths) (regrouped (postfix left) (postfix right) And rest)
    ∙ (depths-postfix left depths (postfix right ++ And ∷ rest)
    ∙ (depths-postfix right (counted (label_depth left) ∷ depths) (And ∷ rest)
    ∙ ap (λ deep. depths_after (deep ∷ depths) rest) (both-deeper (label_depth left) (label_depth right))))
depths-postfix (label.disjunction left right) depths rest =
    ap (depths_after depths) (regrouped (postfix left) (postfix right) Or rest)
    ∙ (depths-postfix left depths (postfix right ++ Or ∷ rest)
    ∙ (depths-postfix right (counted (label_depth left) ∷ depths) (Or ∷ rest)
    ∙ ap (λ deep. depths_after (deep ∷ depths) rest) (both-deeper (label_depth left) (label_depth right))))

-- so do those of a label as it is written
raw_depths-postfix : (tree : RawLabelTree) (depths : List ℕ) (rest : List LabelNode)
    → depths_after depths (raw_postfix tree ++ rest) ≡ depths_after (counted (raw_depth tree) ∷ depths) rest
raw_depths-postfix (constant value) depths rest = refl
raw_depths-postfix (proposition number) depths rest = refl
raw_depths-postfix (alias name) depths rest = refl
raw_depths-postfix (negation part) depths rest =
    ap (depths_after depths) (append_assoc (raw_postfix part) (Not ∷ []) rest)
    ∙ (raw_depths-postfix part depths (Not ∷ rest)
    ∙ ap (λ deep. depths_after (deep ∷ depths) rest) (one-deeper (raw_depth part)))
raw_depths-postfix (group part) depths rest =
    ap (depths_after depths) (append_assoc (raw_postfix part) (Group ∷ []) rest)
    ∙ (raw_depths-postfix part depths (Group ∷ rest)
    ∙ ap (λ deep. depths_after (deep ∷ depths) rest) (one-deeper (raw_depth part)))
raw_depths-postfix (conjunction left right) depths rest =
    ap (depths_after depths) (regrouped (raw_postfix left) (raw_postfix right) And rest)
    ∙ (raw_depths-postfix left depths (raw_postfix right ++ And ∷ rest)
    ∙ (raw_depths-postfix right (counted (raw_depth left) ∷ depths) (And ∷ rest)
    ∙ ap (λ deep. depths_after (deep ∷ depths) rest) (both-deeper (raw_depth left) (raw_depth right))))
raw_depths-postfix (disjunction left right) depths rest =
    ap (depths_after depths) (regrouped (raw_postfix left) (raw_postfix right) Or rest)
    ∙ (raw_depths-postfix left depths (raw_postfix right ++ Or ∷ rest)
    ∙ (raw_depths-postfix right (counted (raw_depth left) ∷ depths) (Or ∷ rest)
    ∙ ap (λ deep. depths_after (deep ∷ depths) rest) (both-deeper (raw_depth left) (raw_depth right))))

-- the depth that a label's nodes leave alone
pub depth-label : (tree : LabelTree) (nodes : List LabelNode) → nodes ≡ postfix tree
    → top_depth (depths_after [] nodes) ≡ counted (label_depth tree)
depth-label tree nodes flat =
    ap (λ all. top_depth (depths_after [] all)) (flat ∙ sym (append-nil (postfix tree))) ∙ ap top_depth (depths-postfix tree [] [])

-- and that of one as it is written
pub depth-raw : (tree : RawLabelTree) (nodes : List LabelNode) → nodes ≡ raw_postfix tree
    → top_depth (depths_after [] nodes) ≡ counted (raw_depth tree)
depth-raw tree nodes flat =
    ap (λ all. top_depth (depths_after [] all)) (flat ∙ sym (append-nil (raw_postfix tree))) ∙ ap top_depth (raw_depths-postfix tree [] [])

-- no label is deeper than it has atoms and operators
depth-size : (tree : LabelTree) → label_depth tree ≤ label_size tree
depth-size (label.constant value) = omega arith
depth-size (label.proposition number) = omega arith
depth-size (label.negation part) = omega (arith, depth-size part)
depth-size (label.conjunction left right) = omega (arith, depth-size left, depth-size right)
depth-size (label.disjunction left right) = omega (arith, depth-size left, depth-size right)

-- a label of few nodes is not too deep
pub shallow-few : (tree : LabelTree) (nodes : List LabelNode) → nodes ≡ postfix tree → length nodes ≤ most_depth
    → label_depth tree ≤ most_depth
shallow-few tree nodes flat few = omega (arith, depth-size tree, length-postfix tree, ap length flat, few)
