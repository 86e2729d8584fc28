-- The nodes of a label over other propositions are those of that label, which is as deep.
use Rattle.std.proofs.Common.{◌≡◌, ℕ, ◌+◌, max, List, [], ◌∷◌, ◌++◌, map, ap, refl, ◌∙◌}
use Rattle.std.proofs.lemmas.List.{map-append}
use Rattle.omega_hoa_label.specs.Label.{LabelTree, conjunction, constant, disjunction, label_depth, negation, proposition}
use Rattle.omega_hoa_label.specs.Postfix.{postfix}
use Rattle.omega_hoa_label.specs.Renumbering.{relabelled}
use Rattle.omega_hoa_label.specs.private.layout.Moving.{moved_node}
use Rattle.omega_hoa_label.specs.declared.label.LabelNode.{LabelNode}
use Rattle.omega_hoa_label.specs.declared.label.LabelNode.TheVariants.{And, Not, Or}

-- two parts and their operator
moved-joined : (places : List ℕ) (left right : List LabelNode) (operator : LabelNode) → moved_node places operator ≡ operator
    → map (moved_node places) (left ++ (right ++ operator ∷ []))
    ≡ map (moved_node places) left ++ (map (moved_node places) right ++ operator ∷ [])
moved-joined places left right operator stays =
    map-append (moved_node places) left (right ++ operator ∷ [])
    ∙ ap (λ back. map (moved_node places) left ++ back)
    (map-append (moved_node places) right (operator ∷ []) ∙ ap (λ last. map (moved_node places) right ++ last ∷ []) stays)

-- the nodes of a label over other propositions
pub moved-postfix : (places : List ℕ) (tree : LabelTree) → map (moved_node places) (postfix tree) ≡ postfix (relabelled places tree)
moved-postfix places (constant value) = refl
moved-postfix places (proposition number) = refl
moved-postfix places (negation part) =
    map-append (moved_node places) (postfix part) (Not ∷ []) ∙ ap (λ front. front ++ Not ∷ []) (moved-postfix places part)
moved-postfix places (conjunction left right) =
    moved-joined places (postfix left) (postfix right) And refl
    ∙ (ap (λ front. front ++ (map (moved_node places) (postfix right) ++ And ∷ [])) (moved-postfix places left)
    ∙ ap (λ back. postfix (relabelled places left) ++ (back ++ And ∷ [])) (moved-postfix places right))
moved-postfix places (disjunction left right) =
    moved-joined places (postfix left) (postfix right) Or refl
    ∙ (ap (λ front. front ++ (map (moved_node places) (postfix right) ++ Or ∷ [])) (moved-postfix places left)
    ∙ ap (λ back. postfix (relabelled places left) ++ (back ++ Or ∷ [])) (moved-postfix places right))

-- it is as deep
pub depth-moved : (places : List ℕ) (tree : LabelTree) → label_depth (relabelled places tree) ≡ label_depth tree
depth-moved places (constant value) = refl
depth-moved places (proposition number) = refl
depth-moved places (negation part) = ap (λ deep. deep + 1) (depth-moved places part)
depth-moved places (conjunction left right) =
    ap (λ deep. max deep (label_depth (relabelled places right)) + 1) (depth-moved places left)
    ∙ ap (λ deep. max (label_depth left) deep + 1) (depth-moved places right)
depth-moved places (disjunction left right) =
    ap (λ deep. max deep (label_depth (relabelled places right)) + 1) (depth-moved places left)
    ∙ ap (λ deep. max (label_depth left) deep + 1) (depth-moved places right)

-- nodes that are moved
pub moved-flat : (places : List ℕ) (tree : LabelTree) (all moved lent : List LabelNode) → all ≡ postfix tree
    → moved ≡ map (moved_node places) all → lent ≡ moved → lent ≡ postfix (relabelled places tree)
moved-flat places tree all moved lent flat are is = is ∙ (are ∙ (ap (map (moved_node places)) flat ∙ moved-postfix places tree))
