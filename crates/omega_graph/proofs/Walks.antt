-- Walks of the edges of a list: joined, turned round, and those on which a search met states.
use Rattle.std.proofs.Common.{◌≡◌, ℕ, zero, suc, ◌+◌, ◌-◌, ◌<◌, ◌⊎◌, inl, inr, eqb, IsTrue, List, [], ◌∷◌, ◌++◌, length, get_or, reverse, Contains, refl, sym, ◌∙◌, ap, subst, arith, eq-eqb}
use Rattle.std.proofs.lemmas.Bool.{false≢true, or_cases, or_left, or_right, eqb-true}
use Rattle.std.proofs.lemmas.List.{get_or-map, length-map, reverse-append, get_or_default}
use Rattle.std.proofs.lemmas.List.Elements.{Contains-append_left, Contains-append_right, Contains-append_cases, Contains-get_or, Contains-push, Contains-push_cases}
use Rattle.omega_graph.specs.Walks.{EdgeSet, IsEdgeWalk, MarkedGraph}
use Rattle.omega_graph.specs.declared.met.MetState.{MetState}
use Rattle.omega_graph.specs.Graph.{listed}
use Rattle.omega_graph.specs.Reaching.{IsReachedAlong, IsWalkFrom}
use Rattle.omega_graph.specs.private.Ends.{AreEnds}
use Rattle.omega_graph.specs.private.Searching.{IsMet, IsSearched, Trace, mark_at, met_at}

-- a list has its first item
pub has_first : (x : ℕ) (xs : List ℕ) → Contains (x ∷ xs) x
has_first x xs = Contains-append_left (x ∷ []) xs x (Contains-push [] x)

-- and those after it
pub has_later : (x : ℕ) (xs : List ℕ) (y : ℕ) → Contains xs y → Contains (x ∷ xs) y
has_later x xs y later = Contains-append_right (x ∷ []) xs y later

-- nothing is in the empty list
pub has_none : (y : ℕ) → Contains [] y → ⊥
has_none y has = let below : has.0 < 0 = has.1 in absurd (omega arith)

-- and no other
pub first_or_later : (x : ℕ) (xs : List ℕ) (y : ℕ) → Contains (x ∷ xs) y → (x ≡ y) ⊎ Contains xs y
first_or_later x xs y has = cases (Contains-append_cases (x ∷ []) xs y has)
  where
    alone : Contains [] y ⊎ (x ≡ y) → x ≡ y
    alone (inl none) = absurd (has_none y none)
    alone (inr same) = same

    cases : Contains (x ∷ []) y ⊎ Contains xs y → (x ≡ y) ⊎ Contains xs y
    cases (inl first) = inl (alone (Contains-push_cases [] x y first))
    cases (inr later) = inr later

-- what a list has is in its set
pub listed_from : (numbers : List ℕ) (number : ℕ) → Contains numbers number → IsTrue (listed numbers number)
listed_from [] number has = absurd (has_none number has)
listed_from (x ∷ numbers) number has =
    elim (first_or_later x numbers number has) [
      | inl same ↦ or_left (eqb x number) (listed numbers number) (eq-eqb x number same)
      | inr later ↦ or_right (eqb x number) (listed numbers number) (listed_from numbers number later)
    ]

-- and nothing else
pub listed_has : (numbers : List ℕ) (number : ℕ) → IsTrue (listed numbers number) → Contains numbers number
listed_has [] number is = absurd (false≢true is)
listed_has (x ∷ numbers) number is =
    elim (or_cases (eqb x number) (listed numbers number) is) [
      | inl same ↦ subst (λ (n : ℕ). Contains (x ∷ numbers) n) (eqb-true x number same) (has_first x numbers)
      | inr later ↦ has_later x numbers number (listed_has numbers number later)
    ]

-- the index of an edge in a list
pub record IsAt (edges : List ℕ) (number : ℕ) : Type 0 where
  pub index : ℕ
  pub within : index < length edges
  pub is : get_or edges index 0 ≡ number

pub index_of : (edges : List ℕ) (number : ℕ) → Contains edges number → IsAt edges number
index_of edges number has = record { index = has.0; within = has.1; is = get_or_default edges has.0 0 number has.1 ∙ has.2 }

module _ (graph : MarkedGraph) where
  -- the edges of a walk are in its set
  pub on_edges : (edges : EdgeSet) (from : ℕ) (walk : List ℕ) (to : ℕ) → IsEdgeWalk graph edges from walk to
      → (number : ℕ) → Contains walk number → IsTrue (edges number)
  on_edges edges from [] to leads number has = absurd (has_none number has)
  on_edges edges from (first ∷ walk) to leads number has =
      elim (first_or_later first walk number has) [
        | inl same ↦ subst (λ n. IsTrue (edges n)) same leads.0
        | inr later ↦ on_edges edges (graph first).to walk to leads.2 number later
      ]

  -- a walk is one in each set that has its edges
  pub walk_in : (edges other : EdgeSet) (from : ℕ) (walk : List ℕ) (to : ℕ)
      → ((number : ℕ) → Contains walk number → IsTrue (other number)) → IsEdgeWalk graph edges from walk to → IsEdgeWalk graph other from walk to
  walk_in edges other from [] to within leads = leads
  walk_in edges other from (first ∷ walk) to within leads = (
    within first (has_first first walk),
    leads.1,
    walk_in edges other (graph first).to walk to (λ number has. within number (has_later first walk number has)) leads.2,
  )

  -- one walk and then another
  pub joined : (edges : EdgeSet) (from : ℕ) (xs : List ℕ) (mid : ℕ) (ys : List ℕ) (to : ℕ)
      → IsEdgeWalk graph edges from xs mid → IsEdgeWalk graph edges mid ys to → IsEdgeWalk graph edges from (xs ++ ys) to
  joined edges from [] mid ys to first second = subst (λ state. IsEdgeWalk graph edges state ys to) (sym first) second
  joined edges from (x ∷ xs) mid ys to first second = (first.0, first.1, joined edges (graph x).to xs mid ys to first.2 second)

-- the graph with each edge turned round
abbrev pub turned : MarkedGraph → MarkedGraph
turned graph number = record { from = (graph number).to; to = (graph number).from; marks = (graph number).marks }

-- a walk turned round
pub turned_walk : (graph : MarkedGraph) (edges : EdgeSet) (from : ℕ) (walk : List ℕ) (to : ℕ)
    → IsEdgeWalk (turned graph) edges from walk to → (back : List ℕ) × IsEdgeWalk graph edges to back from
turned_walk graph edges from [] to leads = ([], sym leads)
turned_walk graph edges from (first ∷ walk) to leads =
    let rest = turned_walk graph edges (graph first).from walk to leads.2 in (
      rest.0 ++ first ∷ [],
      joined graph edges to rest.0 (graph first).from (first ∷ []) from rest.1 (leads.0, refl, leads.1),
    )

module _ (graph : MarkedGraph) (edges leaves enters : List ℕ) (ends : AreEnds graph edges leaves enters) where
  -- as many as edges
  pub leaves_count : length leaves ≡ length edges
  leaves_count = ap length ends.leave ∙ length-map edges (λ number. (graph number).from)

  pub enters_count : length enters ≡ length edges
  enters_count = ap length ends.enter ∙ length-map edges (λ number. (graph number).to)

  -- the ends of the edge at an index
  pub leave_at : (i : ℕ) → i < length edges → get_or leaves i 0 ≡ (graph (get_or edges i 0)).from
  leave_at i within = ap (λ (xs : List ℕ). get_or xs i 0) ends.leave ∙ get_or-map (λ number. (graph number).from) edges i 0 0 within

  pub enter_at : (i : ℕ) → i < length edges → get_or enters i 0 ≡ (graph (get_or edges i 0)).to
  enter_at i within = ap (λ (xs : List ℕ). get_or xs i 0) ends.enter ∙ get_or-map (λ number. (graph number).to) edges i 0 0 within

  -- turned round
  pub turned_ends : AreEnds (turned graph) edges enters leaves
  turned_ends = record { leave = ends.enter; enter = ends.leave }

  -- the edge at an index is one of the set
  pub listed_at : (i : ℕ) → i < length edges → IsTrue (listed edges (get_or edges i 0))
  listed_at i within = listed_from edges (get_or edges i 0) (Contains-get_or edges i 0 within)

  module _ (sources : List ℕ) (met : List MetState) (tree : (i : ℕ) → i < length met → IsMet leaves enters sources met i) where
    -- what was met is reached
    pub met_reached : (most i : ℕ) → i < most → i < length met → IsReachedAlong graph (listed edges) sources (met_at met i).state
    met_reached zero i below within = absurd (omega arith)
    met_reached (suc most) i below within = go (λ o earlier. met_reached most o (omega arith) (omega arith)) (tree i within)
      where
        go : ((o : ℕ) → o < i → IsReachedAlong graph (listed edges) sources (met_at met o).state) → IsMet leaves enters sources met i → IsReachedAlong graph (listed edges) sources (met_at met i).state
        go earlier (inl start) = ([], record { source = (met_at met i).state; begins = start.1; leads = refl })
        go earlier (inr step) =
            let there = earlier step.0 step.1 in
            let edge : ℕ = get_or edges step.2.index 0 in
            let within' : step.2.index < length edges = omega (arith, step.2.within, leaves_count) in
            let leaves_it : (graph edge).from ≡ (met_at met step.0).state = sym (leave_at step.2.index within') ∙ step.2.leave in
            let enters_it : (graph edge).to ≡ (met_at met i).state = sym (enter_at step.2.index within') ∙ step.2.enter in (
              there.0 ++ edge ∷ [],
              record {
                source = there.1.source;
                begins = there.1.begins;
                leads = joined graph (listed edges) there.1.source there.0 (met_at met step.0).state (edge ∷ []) (met_at met i).state there.1.leads (listed_at step.2.index within', leaves_it, enters_it);
              },
            )

    -- going back along the edge by which a state was met
    pub walk_back : (at : ℕ) (walk walk' : List ℕ) (to : ℕ) → at < length met → 0 < (met_at met at).edge
        → walk' ≡ walk ++ get_or edges ((met_at met at).edge - 1) 0 ∷ []
        → IsEdgeWalk graph (listed edges) (met_at met at).state (reverse walk) to
        → IsEdgeWalk graph (listed edges) (met_at met (met_at met at).origin).state (reverse walk') to
    walk_back at walk walk' to within some pushed so_far = go (tree at within)
      where
        go : IsMet leaves enters sources met at → IsEdgeWalk graph (listed edges) (met_at met (met_at met at).origin).state (reverse walk') to
        go (inl start) = absurd (let none = start.0 in omega arith)
        go (inr step) =
            let number : (met_at met at).edge - 1 ≡ step.2.index = omega (arith, step.2.edge) in
            let edge : ℕ = get_or edges step.2.index 0 in
            let within' : step.2.index < length edges = omega (arith, step.2.within, leaves_count) in
            let leaves_it : (graph edge).from ≡ (met_at met (met_at met at).origin).state =
            sym (leave_at step.2.index within') ∙ step.2.leave ∙ ap (λ (o : ℕ). (met_at met o).state) (sym step.2.from) in
            let enters_it : (met_at met at).state ≡ (graph edge).to = sym (sym (enter_at step.2.index within') ∙ step.2.enter) in
            let turned_is : edge ∷ reverse walk ≡ reverse walk' =
            sym (reverse-append walk (edge ∷ [])) ∙ ap reverse (ap (λ (n : ℕ). walk ++ get_or edges n 0 ∷ []) (sym number) ∙ sym pushed) in
            subst (λ (ws : List ℕ). IsEdgeWalk graph (listed edges) (met_at met (met_at met at).origin).state ws to) turned_is
            (listed_at step.2.index within', leaves_it, subst (λ (s : ℕ). IsEdgeWalk graph (listed edges) s (reverse walk) to) enters_it so_far)

    -- back at a source
    pub walk_begins : (at : ℕ) (walk : List ℕ) (to : ℕ) → at < length met → (met_at met at).edge ≡ 0
        → IsEdgeWalk graph (listed edges) (met_at met at).state (reverse walk) to → IsWalkFrom graph (listed edges) sources (reverse walk) to
    walk_begins at walk to within none so_far = go (tree at within)
      where
        go : IsMet leaves enters sources met at → IsWalkFrom graph (listed edges) sources (reverse walk) to
        go (inl start) = record { source = (met_at met at).state; begins = start.1; leads = so_far }
        go (inr step) = absurd (omega (arith, step.2.edge))

  module _ (sources : List ℕ) (count : ℕ) (trace : Trace) (searched : IsSearched leaves enters sources count trace) where
    -- what is marked is reached
    pub marked_reached : (v : ℕ) → IsTrue (mark_at trace.marks v) → IsReachedAlong graph (listed edges) sources v
    marked_reached v mark =
        let at = searched.found v mark in
        subst (λ (s : ℕ). IsReachedAlong graph (listed edges) sources s) at.2 (met_reached sources trace.met searched.tree (at.0 + 1) at.0 (omega arith) at.1)

    -- a walk from a state that is marked leads to one
    marked_along : (u : ℕ) (walk : List ℕ) (v : ℕ) → IsTrue (mark_at trace.marks u) → IsEdgeWalk graph (listed edges) u walk v → IsTrue (mark_at trace.marks v)
    marked_along u [] v mark leads = subst (λ (s : ℕ). IsTrue (mark_at trace.marks s)) leads mark
    marked_along u (number ∷ walk) v mark leads =
        let at = index_of edges number (listed_has edges number leads.0) in
        let leaves_it : u ≡ get_or leaves at.index 0 = sym (leave_at at.index at.within ∙ ap (λ (n : ℕ). (graph n).from) at.is ∙ leads.1) in
        let enters_it : get_or enters at.index 0 ≡ (graph number).to = enter_at at.index at.within ∙ ap (λ (n : ℕ). (graph n).to) at.is in
        marked_along (graph number).to walk v
        (subst (λ (s : ℕ). IsTrue (mark_at trace.marks s)) enters_it
        (searched.closed at.index (let within = at.within in omega (arith, leaves_count)) (subst (λ (s : ℕ). IsTrue (mark_at trace.marks s)) leaves_it mark)))
        leads.2

    -- what is reached is marked
    pub reached_marked : (v : ℕ) → IsReachedAlong graph (listed edges) sources v → IsTrue (mark_at trace.marks v)
    reached_marked v reached = marked_along reached.1.source reached.0 v (searched.begun reached.1.source reached.1.begins) reached.1.leads
