-- `BreadthSearch::walk_to`: the edges on the walk along which a state was met.
use Rattle.std.proofs.Common.{◌≡◌, inl, inr, ℕ, ◌-◌, ◌<◌, List, [], ◌∷◌, ◌++◌, length, get_or, reverse, sym, ◌∙◌, ap, subst, arith}
use Rattle.std.proofs.lemmas.List.{get_or_default}
use Rattle.omega_graph.specs.Walks.{IsEdgeWalk}
use Rattle.omega_graph.specs.declared.met.MetState.{MetState}
use Rattle.omega_graph.specs.Graph.{listed}
use Rattle.omega_graph.specs.Reaching.{IsWalkFrom}
use Rattle.omega_graph.specs.private.Searching.{LeadBack, Trace, met_at}
use Rattle.omega_graph.proofs.Walks.{walk_back, walk_begins}
use Rattle.omega_graph.proofs.searching.BreadthSearch.walk_to.Goals as goal

-- what was read is what was met at the index
read : (kept met : List MetState) (at : ℕ) (x : MetState) → kept ≡ met → at < length met → x ≡ get_or kept at x → x ≡ met_at met at
read kept met at x same below is =
    is ∙ ap (λ (ms : List MetState). get_or ms at x) same ∙ get_or_default met at x (record { state = 0; edge = 0; origin = 0 }) below

-- the state that it was met from comes before it
stands_before : (edges : ℕ) (met : List MetState) (at : ℕ) → LeadBack edges met → at < length met → 0 < (met_at met at).edge → (met_at met at).origin < length met
stands_before edges met at back below some = elim (back at below) [ inl none ↦ absurd (omega arith) | inr before ↦ let earlier = before.1 in omega arith ]

pub loop-self-preserved : goal.loop-self-preserved
loop-self-preserved c =
    let same : c.self.inside.met.items ≡ c.args.self.now.met = ap (λ (t : Trace). t.met) c.self.view_is in
    let below : c.loop-self.at < length c.args.self.now.met = c.loop-self.invariant.0 in
    let tested : c.index.result.now ≡ met_at c.args.self.now.met c.loop-self.at = read c.self.inside.met.items c.args.self.now.met c.loop-self.at c.index.result.now same below c.index.ensures in
    let is : c.index-met.result.now ≡ met_at c.args.self.now.met c.loop-self.at = read c.self.inside.met.items c.args.self.now.met c.loop-self.at c.index-met.result.now same below c.index-met.ensures in
    let some : 0 < (met_at c.args.self.now.met c.loop-self.at).edge = subst (λ (m : MetState). 0 < m.edge) tested c.loop-self-test.true in
    let before : (met_at c.args.self.now.met c.loop-self.at).origin < length c.args.self.now.met = stands_before (length c.args.edges.now) c.args.self.now.met c.loop-self.at c.requires.back below some in (
      subst (λ (m : MetState). m.origin < length c.args.self.now.met) (sym is) before,
      λ graph leaves enters sources ends tree.
          subst (λ (m : MetState). IsEdgeWalk graph (listed c.args.edges.now) (met_at c.args.self.now.met m.origin).state (reverse c.push.new.self.items) (met_at c.args.self.now.met c.args.index).state) (sym is)
          (walk_back graph c.args.edges.now leaves enters ends sources c.args.self.now.met tree c.loop-self.at c.loop-self.walk.items c.push.new.self.items (met_at c.args.self.now.met c.args.index).state below some
          (c.in_ok-push.ensures.items ∙ ap (λ (m : MetState). c.loop-self.walk.items ++ get_or c.args.edges.now (m.edge - 1) 0 ∷ []) is)
          (c.loop-self.invariant.1 graph leaves enters sources ends tree)),
    )

pub returns : goal.returns
returns c =
    let same : c.self.inside.met.items ≡ c.args.self.now.met = ap (λ (t : Trace). t.met) c.self.view_is in
    let below : c.loop-self.at < length c.args.self.now.met = c.loop-self.invariant.0 in
    let tested : c.index.result.now ≡ met_at c.args.self.now.met c.loop-self.at = read c.self.inside.met.items c.args.self.now.met c.loop-self.at c.index.result.now same below c.index.ensures in
    let none : (met_at c.args.self.now.met c.loop-self.at).edge ≡ 0 = subst (λ (m : MetState). m.edge ≡ 0) tested (omega arith) in
    λ graph leaves enters sources ends tree.
    subst (λ (ws : List ℕ). IsWalkFrom graph (listed c.args.edges.now) sources ws (met_at c.args.self.now.met c.args.index).state) (sym c.reverse.ensures.items)
    (walk_begins graph c.args.edges.now leaves enters ends sources c.args.self.now.met tree c.loop-self.at c.loop-self.walk.items (met_at c.args.self.now.met c.args.index).state below none
    (c.loop-self.invariant.1 graph leaves enters sources ends tree))
