-- A formula's nodes leave its tree.
use Rattle.std.proofs.Common.{◌≡◌, ℕ, ◌+◌, ◌<◌, List, [], ◌∷◌, ◌++◌, drop, get_or, length, All, refl, sym, ap, ap₂, subst, ◌∙◌, arith, append-nil}
use Rattle.std.proofs.lemmas.List.Elements.{All-cons, All-head, All-tail, All-weaker}
use Rattle.std.proofs.lemmas.List.{drop_more, length_push}
use Rattle.omega_hoa_expression.specs.Joins.{regrouped}
use Rattle.omega_hoa_acceptance.specs.Acceptance.{AccTree}
use Rattle.omega_hoa_acceptance.specs.Acceptance as acc
use Rattle.omega_hoa_acceptance.specs.Postfix.{acc_postfix}
use Rattle.omega_hoa_acceptance.specs.declared.formula.AccNode.{AccNode}
use Rattle.omega_hoa_acceptance.specs.declared.formula.AccNode.TheVariants as plain
use Rattle.omega_graph_accepting_walk.specs.declared.node.Node.{Node}
use Rattle.omega_graph_accepting_walk.specs.private.Formulas.{HaveParts, node_tree, tree_at, trees_at, trees_left, trees_with}
use Rattle.omega_graph_accepting_walk.proofs.Placing.{tree_at-append, tree_pushed}

trees-postfix : (tree : AccTree) (trees : List AccTree) (rest : List AccNode) → trees_left trees (acc_postfix tree ++ rest) ≡ trees_left (tree ∷ trees) rest
trees-postfix (acc.constant value) trees rest = refl
trees-postfix (acc.inf negated set) trees rest = refl
trees-postfix (acc.fin negated set) trees rest = refl
trees-postfix (acc.conjunction left right) trees rest =
    ap (trees_left trees) (regrouped (acc_postfix left) (acc_postfix right) plain.And rest)
    ∙ (trees-postfix left trees (acc_postfix right ++ plain.And ∷ rest) ∙ trees-postfix right (left ∷ trees) (plain.And ∷ rest))
trees-postfix (acc.disjunction left right) trees rest =
    ap (trees_left trees) (regrouped (acc_postfix left) (acc_postfix right) plain.Or rest)
    ∙ (trees-postfix left trees (acc_postfix right ++ plain.Or ∷ rest) ∙ trees-postfix right (left ∷ trees) (plain.Or ∷ rest))

-- each of a formula's nodes finds its parts
have-postfix : (tree : AccTree) (trees : List AccTree) (rest : List AccNode) → HaveParts (tree ∷ trees) rest → HaveParts trees (acc_postfix tree ++ rest)
have-postfix (acc.constant value) trees rest enough = (tt, enough)
have-postfix (acc.inf negated set) trees rest enough = (tt, enough)
have-postfix (acc.fin negated set) trees rest enough = (tt, enough)
have-postfix (acc.conjunction left right) trees rest enough =
    subst (HaveParts trees) (sym (regrouped (acc_postfix left) (acc_postfix right) plain.And rest))
    (have-postfix left trees (acc_postfix right ++ plain.And ∷ rest) (have-postfix right (left ∷ trees) (plain.And ∷ rest) (omega arith, enough)))
have-postfix (acc.disjunction left right) trees rest enough =
    subst (HaveParts trees) (sym (regrouped (acc_postfix left) (acc_postfix right) plain.Or rest))
    (have-postfix left trees (acc_postfix right ++ plain.Or ∷ rest) (have-postfix right (left ∷ trees) (plain.Or ∷ rest) (omega arith, enough)))

pub have_parts : (tree : AccTree) (nodes : List AccNode) → nodes ≡ acc_postfix tree → HaveParts [] nodes
have_parts tree nodes is = subst (HaveParts []) (sym (is ∙ sym (append-nil (acc_postfix tree)))) (have-postfix tree [] [] tt)

-- the next node finds its parts, and so do the nodes after it
pub parts_next : (trees : List AccTree) (nodes : List AccNode) (index : ℕ) (node : AccNode) → index < length nodes
    → HaveParts trees (drop index nodes) → HaveParts trees (get_or nodes index node ∷ drop (index + 1) nodes)
parts_next trees nodes index node within enough = subst (HaveParts trees) (drop_more nodes index node within) enough

-- a formula's nodes alone leave its tree alone
pub trees_formula : (tree : AccTree) (nodes : List AccNode) → nodes ≡ acc_postfix tree → trees_left [] nodes ≡ tree ∷ []
trees_formula tree nodes is = ap (trees_left []) (is ∙ sym (append-nil (acc_postfix tree))) ∙ trees-postfix tree [] []

-- the formulas at places are kept
kept : (nodes : List Node) (node : Node) (places : List ℕ) → All (λ place. place < length nodes) places → trees_at (nodes ++ node ∷ []) places ≡ trees_at nodes places
kept nodes node [] within = refl
kept nodes node (place ∷ places) within =
    ap₂ (λ tree trees. tree ∷ trees) (tree_at-append nodes (node ∷ []) place (All-head (λ place. place < length nodes) place places within))
    (kept nodes node places (All-tail (λ place. place < length nodes) place places within))

-- one more node, and its place
pub trees_pushed : (nodes after : List Node) (node : Node) (place : ℕ) (places : List ℕ) → after ≡ nodes ++ node ∷ [] → place ≡ length nodes
    → All (λ place. place < length nodes) places → trees_at after (place ∷ places) ≡ node_tree (tree_at nodes) node ∷ trees_at nodes places
trees_pushed nodes after node place places is last within =
    ap₂ (λ tree trees. tree ∷ trees) (tree_pushed nodes after node place is last) (ap (λ nodes. trees_at nodes places) is ∙ kept nodes node places within)

-- the places are still those of nodes
pub within_pushed : (nodes after : List Node) (node : Node) (place : ℕ) (places : List ℕ) → after ≡ nodes ++ node ∷ [] → place ≡ length nodes
    → All (λ place. place < length nodes) places → All (λ place. place < length after) (place ∷ places)
within_pushed nodes after node place places is last within =
    let count : length after ≡ length nodes + 1 = ap length is ∙ length_push nodes node in
    All-cons (λ place. place < length after) place places (omega (arith, count, last))
    (All-weaker (λ place. place < length nodes) (λ place. place < length after) (λ place below. omega (arith, count, below)) places within)

-- the formula of `&` at two places
pub and_tree : (nodes : List Node) (old new : List ℕ) (first second : ℕ) (node : AccNode) → node ≡ plain.And → old ≡ second ∷ first ∷ new
    → acc.conjunction (tree_at nodes first) (tree_at nodes second) ∷ trees_at nodes new ≡ trees_with (trees_at nodes old) node
and_tree nodes old new first second node is parts =
    ap (λ places. trees_with (trees_at nodes places) plain.And) (sym parts) ∙ ap (trees_with (trees_at nodes old)) (sym is)

-- the formula of `|` at two places
pub or_tree : (nodes : List Node) (old new : List ℕ) (first second : ℕ) (node : AccNode) → node ≡ plain.Or → old ≡ second ∷ first ∷ new
    → acc.disjunction (tree_at nodes first) (tree_at nodes second) ∷ trees_at nodes new ≡ trees_with (trees_at nodes old) node
or_tree nodes old new first second node is parts =
    ap (λ places. trees_with (trees_at nodes places) plain.Or) (sym parts) ∙ ap (trees_with (trees_at nodes old)) (sym is)

-- two places are those of nodes
pub parts_within : (count : ℕ) (old new : List ℕ) (first second : ℕ) → old ≡ second ∷ first ∷ new → All (λ place. place < count) old
    → (first < count) × (second < count)
parts_within count old new first second is within =
    let all = subst (All (λ place. place < count)) is within in (
      All-head (λ place. place < count) first new (All-tail (λ place. place < count) second (first ∷ new) all),
      All-head (λ place. place < count) second (first ∷ new) all,
    )

-- and so are the others
pub others_within : (count : ℕ) (old new : List ℕ) (first second : ℕ) → old ≡ second ∷ first ∷ new → All (λ place. place < count) old
    → All (λ place. place < count) new
others_within count old new first second is within =
    let all = subst (All (λ place. place < count)) is within in
    All-tail (λ place. place < count) first new (All-tail (λ place. place < count) second (first ∷ new) all)

-- the formula at the last place, where no node is left
pub top_tree : (nodes : List Node) (places rest : List ℕ) (place : ℕ) (tree : AccTree) (all : List AccNode) → places ≡ place ∷ rest
    → trees_at nodes places ≡ trees_left [] all → all ≡ acc_postfix tree → tree_at nodes place ≡ tree
top_tree nodes places rest place tree all is made flat =
    let same : tree_at nodes place ∷ trees_at nodes rest ≡ tree ∷ [] =
    ap (trees_at nodes) (sym is) ∙ (made ∙ trees_formula tree all flat) in
    cc

-- the last place is that of a node
pub top_within : (count : ℕ) (places rest : List ℕ) (place : ℕ) → places ≡ place ∷ rest → All (λ place. place < count) places → place < count
top_within count places rest place is within =
    All-head (λ place. place < count) place rest (subst (All (λ place. place < count)) is within)
