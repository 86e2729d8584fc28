-- The graph of kept edges: its walks from starts are the ways to the states that are reached.
use Rattle.std.proofs.Common.{◌≡◌, ◌↔◌, ℕ, zero, suc, ◌+◌, ◌<◌, nat_eq, Bool, true, false, IsTrue, ◌⊎◌, inl, inr, List, [], ◌∷◌, ◌++◌, Contains, Some, None, length, get_or, map, take, refl, ap, sym, ◌∙◌, subst, arith, eq-eqb}
use Rattle.std.specs.List.{range_with_len}
use Rattle.std.proofs.lemmas.Bool.{eqb-true}
use Rattle.std.proofs.lemmas.List.{get_or-map, length-map, take_more}
use Rattle.std.proofs.lemmas.List.Elements.{Contains-append_left, Contains-push, Contains-push_cases}
use Rattle.std.proofs.lemmas.List.FromFn.{get_or-range_with_len, length-range_with_len}
use Rattle.omega_hoa_automaton.specs.Automaton.{BodyEdge, Description, edge_at}
use Rattle.omega_graph.specs.Graph.{Shape, edge_of, ends_at, listed, marked}
use Rattle.omega_graph.specs.Reaching.{IsReachedAlong, TellReached}
use Rattle.omega_graph.specs.declared.edge.Edge.{Edge}
use Rattle.omega_lang_runs.specs.Lasso.{IsStart}
use Rattle.omega_graph.specs.Walks.{IsEdgeWalk}
use Rattle.omega_graph.proofs.ClosedWalking.{joined}
use Rattle.omega_synth_text.specs.Reaching.{KeptEdgeLeads, IsReached, begins, goes_on, TellsReached}
use Rattle.omega_synth_text.specs.private.Parts.{flag}
use Rattle.omega_synth_text.specs.private.Reached.{AreStarts, HasNoEnds, IsEndsOf, IsKeptGraph}

-- the edges of a graph are the kept ones
abbrev pub HasKept : Description → List ℕ → List Edge → Type 0
HasKept a kept edges = (from to : ℕ) → Contains edges (edge_of from to) ↔ KeptEdgeLeads a kept from to

-- no edges at first
pub none_kept : (a : Description) → HasKept a [] []
none_kept a from to = (
  λ has. absurd (none has.0 has.1),
  λ kept. absurd (none kept.is_kept.0 kept.is_kept.1),
)
  where
    none : (k : ℕ) → k < 0 → ⊥
    none k below = omega arith

module _ (a : Description) (kept : List ℕ) (index number : ℕ) (below : index < length kept) (here : number ≡ get_or kept index 0) where
  more : take (index + 1) kept ≡ take index kept ++ number ∷ []
  more = take_more kept index 0 below ∙ ap (λ (x : ℕ). take index kept ++ x ∷ []) (sym here)

  weaker : (from to : ℕ) → KeptEdgeLeads a (take index kept) from to → KeptEdgeLeads a (take (index + 1) kept) from to
  weaker from to is = record {
    number = is.number;
    edge = is.edge;
    is_kept = subst (λ (xs : List ℕ). Contains xs is.number) (sym more) (Contains-append_left (take index kept) (number ∷ []) is.number is.is_kept);
    numbered = is.numbered;
    leaves = is.leaves;
    enters = is.enters;
  }

  earlier : (from to : ℕ) → (is : KeptEdgeLeads a (take (index + 1) kept) from to) → Contains (take index kept) is.number ⊎ (number ≡ is.number)
  earlier from to is = Contains-push_cases (take index kept) number is.number (subst (λ (xs : List ℕ). Contains xs is.number) more is.is_kept)

  before : (from to : ℕ) → (is : KeptEdgeLeads a (take (index + 1) kept) from to) → Contains (take index kept) is.number → KeptEdgeLeads a (take index kept) from to
  before from to is has = record {
    number = is.number;
    edge = is.edge;
    is_kept = has;
    numbered = is.numbered;
    leaves = is.leaves;
    enters = is.enters;
  }

  -- a number without an edge adds none
  pub kept_none : (edges : List Edge) → HasNoEnds a number → HasKept a (take index kept) edges → HasKept a (take (index + 1) kept) edges
  kept_none edges none so_far from to = (
    λ has. weaker from to ((so_far from to).0 has),
    λ is. elim (earlier from to is) [
      | inl has ↦ (so_far from to).1 (before from to is has)
      | inr same ↦ absurd (absent is same)
    ],
  )
    where
      absent : (is : KeptEdgeLeads a (take (index + 1) kept) from to) → number ≡ is.number → ⊥
      absent is same =
          let e : None ≡ Some is.edge = sym none ∙ (ap (edge_at a) same ∙ is.numbered) in cc

  -- an edge is added
  pub kept_more : (edges : List Edge) (one two : ℕ) → IsEndsOf a number one two → HasKept a (take index kept) edges
      → HasKept a (take (index + 1) kept) (edges ++ edge_of one two ∷ [])
  kept_more edges one two ends so_far from to = (
    λ has. elim (Contains-push_cases edges (edge_of one two) (edge_of from to) has) [
      | inl old ↦ weaker from to ((so_far from to).0 old)
      | inr new ↦ added (ap (λ (e : Edge). e.from) new) (ap (λ (e : Edge). e.to) new)
    ],
    λ is. elim (earlier from to is) [
      | inl has ↦ Contains-append_left edges (edge_of one two ∷ []) (edge_of from to) ((so_far from to).1 (before from to is has))
      | inr same ↦ last is same
    ],
  )
    where
      added : one ≡ from → two ≡ to → KeptEdgeLeads a (take (index + 1) kept) from to
      added left right = record {
        number = number;
        edge = ends.edge;
        is_kept = subst (λ (xs : List ℕ). Contains xs number) (sym more) (Contains-push (take index kept) number);
        numbered = ends.numbered;
        leaves = ends.leaves ∙ left;
        enters = ends.enters ∙ ap (λ (x : ℕ). x ∷ []) right;
      }

      last : (is : KeptEdgeLeads a (take (index + 1) kept) from to) → number ≡ is.number → Contains (edges ++ edge_of one two ∷ []) (edge_of from to)
      last is same =
          let e : Some ends.edge ≡ Some is.edge = sym ends.numbered ∙ (ap (edge_at a) same ∙ is.numbered) in
          let edge : ends.edge ≡ is.edge = cc in
          let left : one ≡ from = sym ends.leaves ∙ (ap (λ (b : BodyEdge). b.source.number) edge ∙ is.leaves) in
          let lists : two ∷ [] ≡ to ∷ [] = sym ends.enters ∙ (ap (λ (b : BodyEdge). b.edge.targets) edge ∙ is.enters) in
          let right : two ≡ to = cc in
          subst (λ (x : ℕ). Contains (edges ++ edge_of one two ∷ []) (edge_of x to)) left
          (subst (λ (x : ℕ). Contains (edges ++ edge_of one two ∷ []) (edge_of one x)) right (Contains-push edges (edge_of one two)))

-- a number below the length of a range is listed in it
in_range : (n k : ℕ) → k < n → Contains (range_with_len 0 n) k
in_range n k below = (k, omega (arith, length-range_with_len 0 n), let at = get_or-range_with_len 0 n k k below in omega (arith, at))

-- and no other is
of_range : (n k : ℕ) → Contains (range_with_len 0 n) k → k < n
of_range n k has =
    let inside : has.0 < n = omega (arith, has.1, length-range_with_len 0 n) in
    let at = get_or-range_with_len 0 n has.0 k inside in omega (arith, at, has.2)

-- a listed number is one of the list
pub has_listed : (numbers : List ℕ) (k : ℕ) → listed numbers k ≡ true → Contains numbers k
has_listed [] k found = cc
has_listed (x ∷ xs) k found = elim (nat_eq x k) as (λ b. nat_eq x k ≡ b → Contains (x ∷ xs) k) [
  | true ↦ λ same. (0, omega arith, eqb-true x k same)
  | false ↦ λ apart. let rest = has_listed xs k (rw apart at found) in (suc rest.0, omega (arith, rest.1), rest.2)
] refl

-- one of the list is listed
pub is_listed : (numbers : List ℕ) (k : ℕ) → Contains numbers k → listed numbers k ≡ true
is_listed [] k has = absurd (omega (arith, has.1))
is_listed (x ∷ xs) k has = elim (nat_eq x k) as (λ b. nat_eq x k ≡ b → listed (x ∷ xs) k ≡ true) [
  | true ↦ λ same. rw same refl
  | false ↦ λ apart. rw apart (is_listed xs k (later has.0 has.1 has.2 apart))
] refl
  where
    later : (i : ℕ) → i < length (x ∷ xs) → get_or (x ∷ xs) i k ≡ k → nat_eq x k ≡ false → Contains xs k
    later zero below here apart = let same : nat_eq x k ≡ true = eq-eqb x k here in cc
    later (suc i) below here apart = (i, omega arith, here)

-- an item past no end is the same whatever stands for none
default_free : (edges : List Edge) (k : ℕ) (d e : Edge) → k < length edges → get_or edges k d ≡ get_or edges k e
default_free [] k d e below = absurd (omega arith)
default_free (x ∷ xs) zero d e below = refl
default_free (x ∷ xs) (suc k) d e below = default_free xs k d e (omega arith)

module _ (a : Description) (kept : List ℕ) (graph : Shape) (starts : List ℕ) (is_graph : IsKeptGraph a kept graph) (are_starts : AreStarts a starts) (marks : ℕ → List ℕ) where
  abbrev numbers : List ℕ
  numbers = range_with_len 0 (length graph.edges)

  -- a start is one of the states
  source_of : (state : ℕ) → IsStart a state → Contains starts state
  source_of state has = from (subst (λ (xs : List (List ℕ)). Contains xs (state ∷ [])) are_starts.alone has)
    where
      from : Contains (map (λ (s : ℕ). s ∷ []) starts) (state ∷ []) → Contains starts state
      from has =
          let below : has.0 < length starts = omega (arith, has.1, length-map starts (λ (s : ℕ). s ∷ [])) in
          let e : get_or starts has.0 state ∷ [] ≡ state ∷ [] = sym (get_or-map (λ (s : ℕ). s ∷ []) starts has.0 state (state ∷ []) below) ∙ has.2 in
          let same : get_or starts has.0 state ≡ state = cc in
          (has.0, below, same)

  -- and the other way round
  start_of : (state : ℕ) → Contains starts state → IsStart a state
  start_of state has =
      let within : has.0 < length (map (λ (s : ℕ). s ∷ []) starts) = omega (arith, has.1, length-map starts (λ (s : ℕ). s ∷ [])) in
      let e : get_or (map (λ (s : ℕ). s ∷ []) starts) has.0 (state ∷ []) ≡ state ∷ [] =
      get_or-map (λ (s : ℕ). s ∷ []) starts has.0 state (state ∷ []) has.1 ∙ ap (λ (x : ℕ). x ∷ []) has.2 in
      subst (λ (xs : List (List ℕ)). Contains xs (state ∷ [])) (sym are_starts.alone) (has.0, within, e)

  -- a kept edge is an edge of the graph
  step_of : (from to : ℕ) → KeptEdgeLeads a kept from to → (k : ℕ) × IsEdgeWalk (marked graph marks) (listed numbers) from (k ∷ []) to
  step_of from to edge =
      let has : Contains graph.edges (edge_of from to) = (is_graph.edges_are from to).1 edge in
      let e : ends_at graph has.0 ≡ edge_of from to = default_free graph.edges has.0 (edge_of 0 0) (edge_of from to) has.1 ∙ has.2 in (
        has.0,
        (is_listed numbers has.0 (in_range (length graph.edges) has.0 has.1), ap (λ (x : Edge). x.from) e, ap (λ (x : Edge). x.to) e),
      )

  -- an edge of the graph is a kept edge
  edge_in : (from k : ℕ) → IsTrue (listed numbers k) → (ends_at graph k).from ≡ from → KeptEdgeLeads a kept from (ends_at graph k).to
  edge_in from k is leaves =
      let below : k < length graph.edges = of_range (length graph.edges) k (has_listed numbers k is) in
      let at : Contains graph.edges (ends_at graph k) = (k, below, default_free graph.edges k (ends_at graph k) (edge_of 0 0) below) in
      subst (λ (x : ℕ). KeptEdgeLeads a kept x (ends_at graph k).to) leaves ((is_graph.edges_are (ends_at graph k).from (ends_at graph k).to).0 at)

  -- a state that is reached is at the end of a walk
  pub walk_to : (state : ℕ) → IsReached a kept state → IsReachedAlong (marked graph marks) (listed (range_with_len 0 (length graph.edges))) starts state
  walk_to state (begins _ start) = ([], record { source = state; begins = source_of state start; leads = refl })
  walk_to state (goes_on from _ met edge) =
      let prior = walk_to from met in
      let step = step_of from state edge in (
        prior.0 ++ step.0 ∷ [],
        record {
          source = prior.1.source;
          begins = prior.1.begins;
          leads = joined (marked graph marks) (listed numbers) prior.1.source prior.0 from (step.0 ∷ []) state prior.1.leads step.1;
        },
      )

  -- and the end of a walk is reached
  end_reached : (walk : List ℕ) (from to : ℕ) → IsReached a kept from → IsEdgeWalk (marked graph marks) (listed numbers) from walk to → IsReached a kept to
  end_reached [] from to met leads = subst (IsReached a kept) leads met
  end_reached (k ∷ walk) from to met leads =
      end_reached walk (ends_at graph k).to to (goes_on from (ends_at graph k).to met (edge_in from k leads.0 leads.1)) leads.2

  pub along_reached : (state : ℕ) → IsReachedAlong (marked graph marks) (listed (range_with_len 0 (length graph.edges))) starts state → IsReached a kept state
  along_reached state along =
      end_reached along.0 along.1.source state (begins along.1.source (start_of along.1.source along.1.begins)) along.1.leads

-- flags of the states that the graph's edges reach tell which are reached
pub tells_reached : (a : Description) (kept : List ℕ) (graph : Shape) (starts edges : List ℕ) (flags : List Bool)
    → IsKeptGraph a kept graph → AreStarts a starts → edges ≡ range_with_len 0 (length graph.edges)
    → TellReached graph edges starts flags → TellsReached a kept (flag flags)
tells_reached a kept graph starts edges flags is_graph are_starts all tells state =
    let marks : ℕ → List ℕ = λ (k : ℕ). [] in
    let told = (subst (λ (numbers : List ℕ). TellReached graph numbers starts flags) all tells) marks state in (
      λ set. along_reached a kept graph starts is_graph are_starts marks state (told.0 set),
      λ reached. told.1 (walk_to a kept graph starts is_graph are_starts marks state reached),
    )
