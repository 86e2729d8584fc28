-- The pairs, and the edges that leave those that were expanded.
use Rattle.std.proofs.Common.{◌≡◌, ℕ, ◌+◌, ◌<◌, ◌≤◌, ◌⊎◌, inl, inr, List, [], ◌∷◌, ◌++◌, length, take, get_or, sym, ap, subst, ◌∙◌, arith, append_assoc}
use Rattle.std.specs.Prelude.{sum_by}
use Rattle.std.specs.List.{flat_map}
use Rattle.std.proofs.lemmas.Grind.{flat_map-append}
use Rattle.std.proofs.lemmas.List.{get_or-append-add, get_or_append_left, get_or_default, length-append, length-map, take_all}
use Rattle.std.proofs.lemmas.List.Sums.{sum_by-take-le}
use Rattle.indexmap.specs.IndexSet.{insert_all}
use Rattle.omega_graph.specs.Graph.{edge_of}
use Rattle.omega_hoa_automaton.specs.Automaton.{Description}
use Rattle.omega_hoa_edges.specs.Limits.{most_edges, most_states}
use Rattle.omega_lang_product.specs.JointEdges.{AreJoints, Joint}
use Rattle.omega_lang_product.specs.PairGraph.{joints_at, joints_of}
use Rattle.omega_lang_product.specs.Pairs.{Pair, same_pair, start_pairs, targets_of}
use Rattle.omega_lang_product.specs.Refusing.{HasManyEdges}
use Rattle.omega_lang_product.specs.private.Adding.{AddsAmong}
use Rattle.omega_lang_product.specs.private.Explored.{HaveRowsOf}
use Rattle.omega_lang_product.specs.private.Operands.{HaveRows, Reaches}
use Rattle.omega_lang_product.specs.declared.joint_edges.JointEdges.{JointEdges}
use Rattle.omega_lang_product.specs.declared.tables.Tables.{Tables}
use Rattle.omega_lang_product.proofs.Crossing.{all_edges}
use Rattle.omega_lang_product.proofs.Reaching.{Extended, IsUnderWay, append_nil, begun, extends_by, gone_on, taken_before, taken_more}

module _ (one other : Description) where
  -- how many edges leave a pair
  abbrev leaving : Pair → ℕ
  leaving pair = length (targets_of one other pair)

  -- the table has the edges that leave the pairs so far, whatever pairs are found later
  pub record AreEdgesOf (pairs : List Pair) (at : ℕ) (edges : JointEdges) : Type 0 where
    pub joints : (later : List Pair) → AreJoints (flat_map (joints_at one other (pairs ++ later)) (take at pairs)) edges

  pub edges_counted : (pairs : List Pair) (at : ℕ) (edges : JointEdges) → AreEdgesOf pairs at edges → length edges.ends.items ≡ sum_by leaving (take at pairs)
  edges_counted pairs at edges are =
      ap length (are.joints []).ends
      ∙ length-map (flat_map (joints_at one other (pairs ++ [])) (take at pairs)) (λ (j : Joint). edge_of j.from j.to)
      ∙ all_edges one other (pairs ++ []) (take at pairs)

  -- how many edges leave each of the pairs so far and those before it
  pub record AreCounted (pairs : List Pair) (at : ℕ) (past : List ℕ) : Type 0 where
    pub long : length past ≡ at
    pub each : (k : ℕ) → k < at → get_or past k 0 ≡ sum_by leaving (take (k + 1) pairs)

  -- the search after `at` pairs were expanded
  pub record IsFoundSoFar (pairs : List Pair) (edges : JointEdges) (past : List ℕ) (at : ℕ) : Type 0 where
    pub way : IsUnderWay one other pairs at
    pub edges_are : AreEdgesOf pairs at edges
    pub light : length edges.ends.items ≤ most_edges
    pub counted : AreCounted pairs at past

  pub found_none : (pairs : List Pair) (edges : JointEdges) (past : List ℕ) → pairs ≡ insert_all same_pair [] (start_pairs one other) → AreJoints [] edges → past ≡ []
      → IsFoundSoFar pairs edges past 0
  found_none pairs edges past is none empty = record {
    way = begun one other pairs is;
    edges_are = record { joints = λ later. none };
    light = omega (arith, ap length none.ends);
    counted = record { long = ap length empty; each = λ k below. absurd (omega (arith, below)) };
  }

  -- a pair more is expanded
  module _ (pairs more : List Pair) (edges next : JointEdges) (past : List ℕ) (at : ℕ) (pair : Pair) (so_far : IsFoundSoFar pairs edges past at)
      (below : at < length pairs) (here : pair ≡ get_or pairs at pair) (few : length pairs ≤ most_states) (is : more ≡ insert_all same_pair pairs (targets_of one other pair))
      (added : AddsAmong more (λ all. joints_at one other all pair) edges next) where
    extended : Extended pairs more
    extended = extends_by pairs more (targets_of one other pair) is

    done : take (at + 1) more ≡ take at pairs ++ pair ∷ []
    done = taken_more pairs more at pair extended below here

    pub way_more : IsUnderWay one other more (at + 1)
    way_more = gone_on one other pairs more at pair so_far.way below here few is

    joints_now : (later : List Pair) → AreJoints (flat_map (joints_at one other (more ++ later)) (take (at + 1) more)) next
    joints_now later =
        let f : Pair → List Joint = joints_at one other (more ++ later) in
        let same : pairs ++ (extended.extra ++ later) ≡ more ++ later = sym (append_assoc pairs extended.extra later) ∙ ap (λ (s : List Pair). s ++ later) (sym extended.is) in
        let before : AreJoints (flat_map f (take at pairs)) edges =
        subst (λ (all : List Pair). AreJoints (flat_map (joints_at one other all) (take at pairs)) edges) same (so_far.edges_are.joints (extended.extra ++ later)) in
        let whole : flat_map f (take at pairs) ++ f pair ≡ flat_map f (take (at + 1) more) =
        ap (λ (s : List Joint). flat_map f (take at pairs) ++ s) (sym (append_nil (f pair)))
        ∙ sym (flat_map-append f (take at pairs) (pair ∷ [])) ∙ ap (flat_map f) (sym done) in
        subst (λ (js : List Joint). AreJoints js next) whole (added later (flat_map f (take at pairs)) before)

    edges_now : AreEdgesOf more (at + 1) next
    edges_now = record { joints = joints_now }

    pub many_now : most_edges < length next.ends.items → HasManyEdges one other
    many_now many = record {
      pairs = more;
      reachable = way_more.reachable;
      many = omega (arith, many, edges_counted more (at + 1) next edges_now, sum_by-take-le leaving more (at + 1));
    }

    counted_now : (n : ℕ) → n ≡ length next.ends.items → AreCounted more (at + 1) (past ++ n ∷ [])
    counted_now n counts = record {
      long = length-append past (n ∷ []) ∙ ap (λ k. k + 1) so_far.counted.long;
      each = λ k least. go k (last k least);
    }
      where
        last : (k : ℕ) → k < at + 1 → (k < at) ⊎ (k ≡ at)
        last k least = grind arith

        go : (k : ℕ) → (k < at) ⊎ (k ≡ at) → get_or (past ++ n ∷ []) k 0 ≡ sum_by leaving (take (k + 1) more)
        go k (inl before) =
            get_or_append_left past (n ∷ []) 0 k (omega (arith, before, so_far.counted.long))
            ∙ so_far.counted.each k before
            ∙ ap (sum_by leaving) (sym (taken_before pairs more (k + 1) extended (omega (arith, before, below))))
        go k (inr now) =
            let place : k ≡ length past + 0 = omega (arith, now, so_far.counted.long) in
            ap (λ i. get_or (past ++ n ∷ []) i 0) place ∙ get_or-append-add past (n ∷ []) 0 0
            ∙ counts ∙ edges_counted more (at + 1) next edges_now
            ∙ ap (λ i. sum_by leaving (take (i + 1) more)) (sym now)

    pub found_more : (n : ℕ) (counts : List ℕ) → n ≡ length next.ends.items → length next.ends.items ≤ most_edges → counts ≡ past ++ n ∷ []
        → IsFoundSoFar more next counts (at + 1)
    found_more n counts is_count light pushed = record {
      way = way_more;
      edges_are = edges_now;
      light = light;
      counted = subst (AreCounted more (at + 1)) (sym pushed) (counted_now n is_count);
    }

  -- all pairs are expanded
  module _ (pairs : List Pair) (edges : JointEdges) (past : List ℕ) (at : ℕ) (so_far : IsFoundSoFar pairs edges past at) (past_all : length pairs ≤ at) where
    pub edges_all : AreJoints (joints_of one other pairs) edges
    edges_all =
        subst (λ (all : List Pair). AreJoints (flat_map (joints_at one other all) pairs) edges) (append_nil pairs)
        (subst (λ (ps : List Pair). AreJoints (flat_map (joints_at one other (pairs ++ [])) ps) edges) (take_all at pairs past_all) (so_far.edges_are.joints []))

    pub long_all : length past ≡ length pairs
    long_all = omega (arith, so_far.counted.long, so_far.way.within, past_all)

    pub counted_all : (k : ℕ) → k < length pairs → get_or past k 0 ≡ sum_by leaving (take (k + 1) pairs)
    counted_all k below = so_far.counted.each k (omega (arith, below, past_all))

-- the edges of the pairs so far are made, those of a pair more too
pub reached_more : (one other : Description) (pairs more : List Pair) (before after : Tables) (at : ℕ) (pair : Pair) → Extended pairs more → at < length pairs → pair ≡ get_or pairs at pair
    → HaveRowsOf before pairs at → Reaches one other pair before after → HaveRowsOf after more (at + 1)
reached_more one other pairs more before after at pair extended below here so_far reaches k least = go (last k least)
  where
    last : (k : ℕ) → k < at + 1 → (k < at) ⊎ (k ≡ at)
    last k least = grind arith

    same : (k : ℕ) → k < length pairs → get_or more k (0, 0) ≡ get_or pairs k (0, 0)
    same k inside = ap (λ (ps : List Pair). get_or ps k (0, 0)) extended.is ∙ get_or_append_left pairs extended.extra (0, 0) k inside

    go : (k < at) ⊎ (k ≡ at) → HaveRows after (get_or more k (0, 0))
    go (inl earlier) =
        subst (HaveRows after) (sym (same k (omega (arith, earlier, below)))) (reaches.kept (get_or pairs k (0, 0)) (so_far k earlier))
    go (inr now) =
        let inside : k < length pairs = omega (arith, now, below) in
        let is : pair ≡ get_or pairs k (0, 0) = here ∙ ap (λ i. get_or pairs i pair) (sym now) ∙ get_or_default pairs k pair (0, 0) inside in
        subst (HaveRows after) (is ∙ sym (same k inside)) reaches.made

pub reached_all : (pairs : List Pair) (tables : Tables) (at : ℕ) → length pairs ≤ at → HaveRowsOf tables pairs at → HaveRowsOf tables pairs (length pairs)
reached_all pairs tables at past so_far k below = so_far k (omega (arith, below, past))
