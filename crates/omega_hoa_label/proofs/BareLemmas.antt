-- A label without aliases, and itself without its parentheses: their nodes and depths.
use Rattle.std.proofs.Common.{◌≡◌, ℕ, ◌+◌, ◌≤◌, Bool, true, false, ◌||◌, cond, length, List, [], ◌∷◌, ◌++◌, ap, refl, sym, ◌∙◌, arith, append-nil, count_by, filter}
use Rattle.std.specs.List.{list_any}
use Rattle.std.proofs.lemmas.Bool.{false≢true}
use Rattle.std.proofs.lemmas.List.Elements.{filter-append}
use Rattle.std.proofs.lemmas.List.Folds.{list_any-append}
use Rattle.std.proofs.lemmas.List.Sums.{count_by-le-length, sum_by-append}
use Rattle.omega_hoa_label.specs.Label.{label_depth, label_size}
use Rattle.omega_hoa_label.specs.Postfix.{postfix, raw_postfix}
use Rattle.omega_hoa_label.specs.private.layout.Label.{IsLabelInPostfix, tree_of, tree_of-postfix}
use Rattle.omega_hoa_label.specs.Raw.{RawLabelTree, alias, conjunction, constant, disjunction, group, negation, proposition, raw_depth}
use Rattle.omega_hoa_label.specs.Bare.{bare, is_alias, is_bare}
use Rattle.omega_hoa_expression.specs.Limits.{most_depth}
use Rattle.omega_hoa_label.specs.declared.label.LabelNode.{LabelNode}
use Rattle.omega_hoa_label.specs.declared.label.LabelNode.TheVariants.{And, Group, Not, Or}

or-left : (a b : Bool) → (a || b) ≡ false → a ≡ false
or-left true b e = e
or-left false b e = refl

or-right : (a b : Bool) → (a || b) ≡ false → b ≡ false
or-right true b e = absurd (false≢true (sym e))
or-right false b e = e

-- a front without aliases
pub none-before : (nodes rest : List LabelNode) → list_any is_alias (nodes ++ rest) ≡ false → list_any is_alias nodes ≡ false
none-before nodes rest none = or-left (list_any is_alias nodes) (list_any is_alias rest) (sym (list_any-append is_alias nodes rest) ∙ none)

-- a back without aliases
pub none-following : (nodes rest : List LabelNode) → list_any is_alias (nodes ++ rest) ≡ false → list_any is_alias rest ≡ false
none-following nodes rest none = or-right (list_any is_alias nodes) (list_any is_alias rest) (sym (list_any-append is_alias nodes rest) ∙ none)

-- nodes and others are counted together
count-append : (nodes rest : List LabelNode) → count_by is_bare (nodes ++ rest) ≡ count_by is_bare nodes + count_by is_bare rest
count-append nodes rest = sum_by-append (λ node. cond (is_bare node) 1 0) nodes rest

-- the tree nodes of a label without its parentheses are those that are no parentheses
pub size-bare : (tree : RawLabelTree) → label_size (bare tree) ≡ count_by is_bare (raw_postfix tree)
size-bare (constant value) = refl
size-bare (proposition number) = refl
size-bare (alias name) = refl
size-bare (negation part) = omega (arith, size-bare part, count-append (raw_postfix part) (Not ∷ []))
size-bare (group part) = omega (arith, size-bare part, count-append (raw_postfix part) (Group ∷ []))
size-bare (conjunction left right) =
    omega (arith, size-bare left, size-bare right, count-append (raw_postfix left) (raw_postfix right ++ And ∷ []), count-append (raw_postfix right) (And ∷ []))
size-bare (disjunction left right) =
    omega (arith, size-bare left, size-bare right, count-append (raw_postfix left) (raw_postfix right ++ Or ∷ []), count-append (raw_postfix right) (Or ∷ []))

-- nodes and others are sifted apart
filter-join : (left right : List LabelNode) (operator : LabelNode) → is_bare operator ≡ true
    → filter is_bare (left ++ (right ++ operator ∷ [])) ≡ filter is_bare left ++ (filter is_bare right ++ operator ∷ [])
filter-join left right operator stays =
    filter-append is_bare left (right ++ operator ∷ [])
    ∙ ap (λ back. filter is_bare left ++ back)
    (filter-append is_bare right (operator ∷ []) ∙ ap (λ (b : Bool). filter is_bare right ++ cond b (operator ∷ []) []) stays)

-- the nodes that are no parentheses are those of the label without them
filter-bare : (tree : RawLabelTree) → list_any is_alias (raw_postfix tree) ≡ false → filter is_bare (raw_postfix tree) ≡ postfix (bare tree)
filter-bare (constant value) none = refl
filter-bare (proposition number) none = refl
filter-bare (alias name) none = absurd (false≢true (sym none))
filter-bare (negation part) none =
    filter-append is_bare (raw_postfix part) (Not ∷ [])
    ∙ ap (λ front. front ++ Not ∷ []) (filter-bare part (none-before (raw_postfix part) (Not ∷ []) none))
filter-bare (group part) none =
    filter-append is_bare (raw_postfix part) (Group ∷ [])
    ∙ (append-nil (filter is_bare (raw_postfix part)) ∙ filter-bare part (none-before (raw_postfix part) (Group ∷ []) none))
filter-bare (conjunction left right) none =
    filter-join (raw_postfix left) (raw_postfix right) And refl
    ∙ (ap (λ front. front ++ (filter is_bare (raw_postfix right) ++ And ∷ [])) (filter-bare left (none-before (raw_postfix left) (raw_postfix right ++ And ∷ []) none))
    ∙ ap (λ back. postfix (bare left) ++ (back ++ And ∷ []))
    (filter-bare right (none-before (raw_postfix right) (And ∷ []) (none-following (raw_postfix left) (raw_postfix right ++ And ∷ []) none))))
filter-bare (disjunction left right) none =
    filter-join (raw_postfix left) (raw_postfix right) Or refl
    ∙ (ap (λ front. front ++ (filter is_bare (raw_postfix right) ++ Or ∷ [])) (filter-bare left (none-before (raw_postfix left) (raw_postfix right ++ Or ∷ []) none))
    ∙ ap (λ back. postfix (bare left) ++ (back ++ Or ∷ []))
    (filter-bare right (none-before (raw_postfix right) (Or ∷ []) (none-following (raw_postfix left) (raw_postfix right ++ Or ∷ []) none))))

-- without its parentheses it is no deeper
depth-bare : (tree : RawLabelTree) → label_depth (bare tree) ≤ raw_depth tree
depth-bare (constant value) = omega arith
depth-bare (proposition number) = omega arith
depth-bare (alias name) = omega arith
depth-bare (negation part) = omega (arith, depth-bare part)
depth-bare (group part) = omega (arith, depth-bare part)
depth-bare (conjunction left right) = omega (arith, depth-bare left, depth-bare right)
depth-bare (disjunction left right) = omega (arith, depth-bare left, depth-bare right)

-- the nodes that are left are those of the label without parentheses
pub nodes-bare : (tree : RawLabelTree) (all left : List LabelNode) → list_any is_alias (raw_postfix tree) ≡ false
    → all ≡ raw_postfix tree → left ≡ filter is_bare all → left ≡ postfix (bare tree)
nodes-bare tree all left none is sifted = sifted ∙ (ap (filter is_bare) is ∙ filter-bare tree none)

-- and are a label, if it was not too deep
pub IsLabel-bare : (tree : RawLabelTree) (nodes : List LabelNode) → nodes ≡ postfix (bare tree) → raw_depth tree ≤ most_depth → IsLabelInPostfix nodes
IsLabel-bare tree nodes is shallow =
    let made : tree_of nodes ≡ bare tree = ap tree_of is ∙ tree_of-postfix (bare tree) in
    record { flat = ap postfix made ∙ sym is; shallow = omega (arith, ap label_depth made, depth-bare tree, shallow) }

-- one node more, where as many are kept as there are
kept_more : (test : Bool) (node : LabelNode) (nodes kept : List LabelNode) (count : ℕ) → count ≤ length nodes → cond test 1 0 + count ≡ length nodes + 1
    → (count ≡ length nodes → kept ≡ nodes) → cond test (node ∷ kept) kept ≡ node ∷ nodes
kept_more true node nodes kept count within all same = ap (λ others. node ∷ others) (same (omega (arith, all)))
kept_more false node nodes kept count within all same = absurd (omega (arith, within, all))

-- nodes of which as many are no parentheses as there are stay as they are
pub all_bare : (nodes : List LabelNode) → count_by is_bare nodes ≡ length nodes → filter is_bare nodes ≡ nodes
all_bare [] all = refl
all_bare (node ∷ nodes) all =
    let counted : count_by is_bare (node ∷ nodes) ≡ (0 + cond (is_bare node) 1 0) + count_by is_bare nodes = count-append (node ∷ []) nodes in
    kept_more (is_bare node) node nodes (filter is_bare nodes) (count_by is_bare nodes) (count_by-le-length is_bare nodes) (omega (arith, counted, all)) (all_bare nodes)
