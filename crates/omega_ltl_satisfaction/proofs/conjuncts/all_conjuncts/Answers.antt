-- one conjunct more is found or taken apart
use Rattle.std.proofs.Common.{◌≡◌, ℕ, List, [], ◌++◌, length, sym, ap, subst, ◌∙◌, arith}
use Rattle.std.specs.Prelude.{sum_by}
use Rattle.omega_ltl_formula.specs.Formula.{FormulaTree, formula_size}
use Rattle.omega_ltl_formula.specs.Table.{FormulaTable, node_at, tree_at, tree_of}
use Rattle.omega_ltl_formula.specs.declared.node.FormulaNode.{FormulaNode}
use Rattle.omega_ltl_translation.specs.Translation.{asked_tree}
use Rattle.omega_ltl_satisfaction.specs.declared.conjunct.Conjunct.{Conjunct}
use Rattle.omega_ltl_satisfaction.specs.private.Conjuncts.{IsTakenApart, parts_of, whole_among}
use Rattle.omega_ltl_satisfaction.proofs.Splitting.{last_within, one_taken, smaller, whole_alone}
use Rattle.omega_ltl_satisfaction.proofs.conjuncts.all_conjuncts.Goals as goal

pub loop-conjunct-init : goal.loop-conjunct-init
loop-conjunct-init c =
    let formula = c.args.formula.now in
    let whole : FormulaTree = asked_tree c.args.negated (tree_of formula) in
    subst (λ (l : List Conjunct). IsTakenApart formula.table whole l c.in_ok-pending.pending.items) (sym c.new-found.ensures.items)
    (subst (IsTakenApart formula.table whole []) (sym c.in_ok-pending.ensures.conjunct) (whole_alone formula c.args.negated c.keeps_limits.ensures))

pub bounds-nodes-conjunct : goal.bounds-nodes-conjunct
bounds-nodes-conjunct c =
    let formula = c.args.formula.now in
    let whole : FormulaTree = asked_tree c.args.negated (tree_of formula) in
    let taken = subst (IsTakenApart formula.table whole c.loop-conjunct.found.items) c.in-Some.ensures.items c.loop-conjunct.invariant in
    let low = last_within formula.table c.keeps_limits.ensures.table whole c.loop-conjunct.found.items c.pop.new.self.items c.in-Some.conjunct taken in
    omega (arith, low, ap length c.nodes-nodes.ensures)

pub offset_bounds-nodes-conjunct : goal.offset_bounds-nodes-conjunct
offset_bounds-nodes-conjunct c =
    let formula = c.args.formula.now in
    let whole : FormulaTree = asked_tree c.args.negated (tree_of formula) in
    let taken = subst (IsTakenApart formula.table whole c.loop-conjunct.found.items) c.in-Some.ensures.items c.loop-conjunct.invariant in
    let low = last_within formula.table c.keeps_limits.ensures.table whole c.loop-conjunct.found.items c.pop.new.self.items c.in-Some.conjunct taken in
    omega (arith, low, c.keeps_limits.ensures.few_nodes)

pub loop-conjunct-preserved : goal.loop-conjunct-preserved
loop-conjunct-preserved c =
    let formula = c.args.formula.now in
    let table : FormulaTable = formula.table in
    let whole : FormulaTree = asked_tree c.args.negated (tree_of formula) in
    let found : List Conjunct = c.loop-conjunct.found.items in
    let rest : List Conjunct = c.pop.new.self.items in
    let conjunct : Conjunct = c.in-Some.conjunct in
    let taken = subst (IsTakenApart table whole found) c.in-Some.ensures.items c.loop-conjunct.invariant in
    let parts : List Conjunct = parts_of conjunct.negated (node_at c.nodes-nodes.result.now conjunct.node) in
    let same : parts_of conjunct.negated (node_at table.nodes conjunct.node) ≡ parts =
    ap (λ (nodes : List FormulaNode). parts_of conjunct.negated (node_at nodes conjunct.node)) (sym c.nodes-nodes.ensures) in
    subst (λ (l : List Conjunct). IsTakenApart table whole l c.take_apart.new.pending.items) (sym c.in_ok-take_apart.ensures.found)
    (subst (λ (l : List Conjunct). IsTakenApart table whole (found ++ whole_among conjunct parts) l) (sym c.in_ok-take_apart.ensures.pending)
    (subst (λ (l : List Conjunct). IsTakenApart table whole (found ++ whole_among conjunct l) (rest ++ l)) same
    (one_taken table c.keeps_limits.ensures.table whole found rest conjunct taken)))

pub loop-conjunct-smaller : goal.loop-conjunct-smaller
loop-conjunct-smaller c =
    let formula = c.args.formula.now in
    let table : FormulaTable = formula.table in
    let whole : FormulaTree = asked_tree c.args.negated (tree_of formula) in
    let found : List Conjunct = c.loop-conjunct.found.items in
    let rest : List Conjunct = c.pop.new.self.items in
    let conjunct : Conjunct = c.in-Some.conjunct in
    let size : Conjunct → ℕ = λ part. formula_size (tree_at table part.node) in
    let taken = subst (IsTakenApart table whole found) c.in-Some.ensures.items c.loop-conjunct.invariant in
    let low = last_within table c.keeps_limits.ensures.table whole found rest conjunct taken in
    let less = smaller table c.keeps_limits.ensures.table whole found rest conjunct low in
    let before = ap (sum_by size) c.in-Some.ensures.items in
    let after = ap (sum_by size) c.in_ok-take_apart.ensures.pending
    ∙ ap (λ (nodes : List FormulaNode). sum_by size (rest ++ parts_of conjunct.negated (node_at nodes conjunct.node))) c.nodes-nodes.ensures in
    omega (arith, less, before, after)
