-- Nodes after others: they keep their places and formulas.
use Rattle.std.proofs.Common.{◌≡◌, ℕ, ◌+◌, ◌<◌, ◌≤◌, false, inl, inr, Result, Ok, Err, IfOk, List, [], ◌∷◌, ◌++◌, length, get_or, refl, sym, ap, subst, ◌∙◌, arith, append_assoc, length-append}
use Rattle.std.proofs.lemmas.Bool.{cases_lt}
use Rattle.std.proofs.lemmas.List.{get_or_append_left, get_or_push, length_push}
use Rattle.omega_hoa_acceptance.specs.Acceptance.{AccTree, conjunction, constant, disjunction}
use Rattle.omega_graph_accepting_walk.specs.declared.node.Node.{Node}
use Rattle.omega_graph_accepting_walk.specs.declared.node.Node.TheVariants.{And, Constant, Fin, Inf, Or}
use Rattle.omega_graph_accepting_walk.specs.private.Formulas.{IsFormula, IsMade, IsNode, node_tree, tree_among, tree_at, trees_after}
use Rattle.omega_graph_accepting_walk.specs.private.Lists.{Extends}

trees_after-append : (trees : List AccTree) (nodes more : List Node) → trees_after trees (nodes ++ more) ≡ trees_after (trees_after trees nodes) more
trees_after-append trees [] more = refl
trees_after-append trees (node ∷ nodes) more = trees_after-append (trees ++ node_tree (tree_among trees) node ∷ []) nodes more

length-trees_after : (trees : List AccTree) (nodes : List Node) → length (trees_after trees nodes) ≡ length trees + length nodes
length-trees_after trees [] = omega arith
length-trees_after trees (node ∷ nodes) =
    let one = length_push trees (node_tree (tree_among trees) node) in
    let rest = length-trees_after (trees ++ node_tree (tree_among trees) node ∷ []) nodes in
    omega arith

kept_after : (trees : List AccTree) (nodes : List Node) (place : ℕ) → place < length trees
    → tree_among (trees_after trees nodes) place ≡ tree_among trees place
kept_after trees [] place below = refl
kept_after trees (node ∷ nodes) place below =
    let one = length_push trees (node_tree (tree_among trees) node) in
    kept_after (trees ++ node_tree (tree_among trees) node ∷ []) nodes place (omega arith)
    ∙ get_or_append_left trees (node_tree (tree_among trees) node ∷ []) (constant false) place below

-- a node keeps its formula
pub tree_at-append : (nodes more : List Node) (place : ℕ) → place < length nodes → tree_at (nodes ++ more) place ≡ tree_at nodes place
unfolding tree_at
tree_at-append nodes more place below =
    let count = length-trees_after [] nodes in
    ap (λ trees. tree_among trees place) (trees_after-append [] nodes more)
    ∙ kept_after (trees_after [] nodes) more place (omega arith)

-- the last node's formula is made of those before it
pub tree_at-push : (nodes : List Node) (node : Node) → tree_at (nodes ++ node ∷ []) (length nodes) ≡ node_tree (tree_at nodes) node
unfolding tree_at
tree_at-push nodes node =
    let count = length-trees_after [] nodes in
    ap (λ trees. tree_among trees (length nodes)) (trees_after-append [] nodes (node ∷ []))
    ∙ get_or_push (trees_after [] nodes) (node_tree (tree_among (trees_after [] nodes)) node) (constant false) (length nodes) (omega arith)

-- two parts joined
joined : (f : AccTree → AccTree → AccTree) (a b c d : AccTree) → a ≡ b → c ≡ d → f a c ≡ f b d
joined f a b c d p q = ap (λ x. f x c) p ∙ ap (f b) q

IsNode-kept : (nodes more : List Node) (place : ℕ) (node : Node) → place < length nodes → IsNode (tree_at nodes) place node
    → IsNode (tree_at (nodes ++ more)) place node
IsNode-kept nodes more place (Constant value) below is = tree_at-append nodes more place below ∙ is
IsNode-kept nodes more place (Inf negated set) below is = tree_at-append nodes more place below ∙ is
IsNode-kept nodes more place (Fin negated set) below is = tree_at-append nodes more place below ∙ is
IsNode-kept nodes more place (And left right) below is =
    let l : left < place = is.0 in
    let r : right < place = is.1 in (
      l,
      r,
      tree_at-append nodes more place below ∙ is.2
          ∙ sym (joined conjunction _ _ _ _ (tree_at-append nodes more left (omega arith)) (tree_at-append nodes more right (omega arith))),
    )
IsNode-kept nodes more place (Or left right) below is =
    let l : left < place = is.0 in
    let r : right < place = is.1 in (
      l,
      r,
      tree_at-append nodes more place below ∙ is.2
          ∙ sym (joined disjunction _ _ _ _ (tree_at-append nodes more left (omega arith)) (tree_at-append nodes more right (omega arith))),
    )

IsNode-push : (nodes : List Node) (node : Node) → IsMade (length nodes) node → IsNode (tree_at (nodes ++ node ∷ [])) (length nodes) node
IsNode-push nodes (Constant value) made = tree_at-push nodes (Constant value)
IsNode-push nodes (Inf negated set) made = tree_at-push nodes (Inf negated set)
IsNode-push nodes (Fin negated set) made = tree_at-push nodes (Fin negated set)
IsNode-push nodes (And left right) made = (
  made.0,
  made.1,
  tree_at-push nodes (And left right)
      ∙ sym (joined conjunction _ _ _ _ (tree_at-append nodes (And left right ∷ []) left made.0) (tree_at-append nodes (And left right ∷ []) right made.1)),
)
IsNode-push nodes (Or left right) made = (
  made.0,
  made.1,
  tree_at-push nodes (Or left right)
      ∙ sym (joined disjunction _ _ _ _ (tree_at-append nodes (Or left right ∷ []) left made.0) (tree_at-append nodes (Or left right ∷ []) right made.1)),
)

-- one more node makes a formula
pub IsFormula-push : (nodes : List Node) (node : Node) → IsFormula nodes → IsMade (length nodes) node → IsFormula (nodes ++ node ∷ [])
IsFormula-push nodes node formula made place other below = elim (cases_lt place (length nodes)) [
  | inl old ↦
      subst (IsNode (tree_at (nodes ++ node ∷ [])) place) (sym (get_or_append_left nodes (node ∷ []) other place old))
      (IsNode-kept nodes (node ∷ []) place (get_or nodes place other) old (formula place other old))
  | inr new ↦
      let count = length_push nodes node in
      let last : length nodes ≡ place = omega arith in
      let P : ℕ → Type 0 = λ at. IsNode (tree_at (nodes ++ node ∷ [])) at (get_or (nodes ++ node ∷ []) at other) in
      subst P last
      (subst (IsNode (tree_at (nodes ++ node ∷ [])) (length nodes)) (sym (get_or_push nodes node other (length nodes) refl)) (IsNode-push nodes node made))
]

-- no node is a formula
pub IsFormula-none : IsFormula []
IsFormula-none place other below = absurd (omega arith)

-- nodes after nodes after others
pub Extends-on : (first second third : List Node) → Extends first second → Extends second third → Extends first third
Extends-on first second third one two =
    (one.0 ++ two.0, two.1 ∙ ap (λ nodes. nodes ++ two.0) one.1 ∙ append_assoc first one.0 two.0)

pub Extends-push : (first second third : List Node) (node : Node) → Extends first second → third ≡ second ++ node ∷ [] → Extends first third
Extends-push first second third node one is = Extends-on first second third one (node ∷ [], is)

-- there are no fewer
pub length-Extends : (first second : List Node) → Extends first second → length first ≤ length second
length-Extends first second goes = omega (arith, ap length goes.1, length-append first goes.0)

-- and formulas are kept
pub tree_at-Extends : (first second : List Node) (place : ℕ) → Extends first second → place < length first → tree_at second place ≡ tree_at first place
tree_at-Extends first second place goes below = ap (λ nodes. tree_at nodes place) goes.1 ∙ tree_at-append first goes.0 place below

-- the formula of the last node, by its place
pub tree_pushed : (nodes after : List Node) (node : Node) (place : ℕ) → after ≡ nodes ++ node ∷ [] → place ≡ length nodes
    → tree_at after place ≡ node_tree (tree_at nodes) node
tree_pushed nodes after node place is last =
    ap (λ xs. tree_at xs place) is ∙ ap (tree_at (nodes ++ node ∷ [])) last ∙ tree_at-push nodes node

-- what is said of a value is said of it with an equation used
pub IfOk-after : {E : Type 0} (r : Result ℕ E) (P Q : ℕ → Type 0) → ((n : ℕ) → P n → Q n) → IfOk r P → IfOk r Q
IfOk-after (Ok n) P Q step is = step n is
IfOk-after (Err e) P Q step is = tt

-- an operator on two formulas that are kept
pub made_of : (f : AccTree → AccTree → AccTree) (nodes after : List Node) (left right : ℕ) (a b : AccTree) → Extends nodes after → left < length nodes
    → tree_at nodes left ≡ a → tree_at after right ≡ b → f (tree_at after left) (tree_at after right) ≡ f a b
made_of f nodes after left right a b goes below is_left is_right =
    joined f (tree_at after left) a (tree_at after right) b (tree_at-Extends nodes after left goes below ∙ is_left) is_right
