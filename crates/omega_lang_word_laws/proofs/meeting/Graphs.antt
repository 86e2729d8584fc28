-- The product of two automata, made of its reachable pairs, has the graph of these pairs.
use Rattle.std.proofs.Common.{◌≡◌, ℕ, suc, ◌+◌, ◌<◌, inl, inr, Bool, true, false, cond, List, [], ◌∷◌, ◌++◌, length, map, filter, Contains, Option, Some, None, refl, sym, ap, subst, ◌∙◌, arith}
use Rattle.std.specs.List.{AllZip, flat_map, range_with_len}
use Rattle.std.specs.List.Sorted.{IsStrictlyIncreasing}
use Rattle.std.proofs.lemmas.List.FromFn.{get_or-range_with_len, length-range_with_len}
use Rattle.std.proofs.lemmas.List.Kept.{IsStrictlyIncreasing-filter}
use Rattle.omega_hoa_acceptance.specs.Acceptance.{AccTree, holds}
use Rattle.omega_hoa_acceptance.specs.declared.name.AccName.{AccName}
use Rattle.omega_hoa_automaton.specs.Automaton.{BodyEdge, Description, edges_from}
use Rattle.omega_hoa_automaton.specs.Meaning.{AreMarksOf}
use Rattle.omega_hoa_automaton.specs.declared.edge.Edge.{Edge}
use Rattle.omega_hoa_automaton.specs.declared.state.State.{State}
use Rattle.omega_lang_product.specs.Acceptance.{IsJointAcceptance}
use Rattle.omega_lang_product.specs.Joining.{joined_names}
use Rattle.omega_lang_product.specs.JointEdges.{Numbered, joint_of, joints_between, joints_with, numbered_from, numbered_partners}
use Rattle.omega_lang_product.specs.PairGraph.{first_numbered, joints_at, second_numbered}
use Rattle.omega_hoa_automaton.specs.Automaton.{edges_before}
use Rattle.omega_lang_product.specs.Pairs.{AreReached, Pair, can_meet, first_leaving, pair_name, pair_number, partners, second_leaving, start_pairs}
use Rattle.omega_lang_product.specs.Product.{IsJointEdge, IsPairState, IsProduct, joint_edges_of, joint_plain_edges, joint_with, taken_together}
use Rattle.omega_lang_product.specs.declared.plain_edge.PlainEdge.{PlainEdge}
use Rattle.omega_lang_product.proofs.Membership.{Contains-cases, Contains-here, Contains-nothing, Contains-there}
use Rattle.omega_lang_word_laws.specs.Graphs.{GraphsAreOfProducts, TakesTogether}
use Rattle.omega_lang_word_laws.proofs.meeting.Lists.{contains_filter, filter_contains}
use Rattle.omega_lang_word_laws.proofs.meeting.Marks.{contains_holds, holds_contains}

-- marks in ascending order, each once
abbrev bound_of : List ℕ → ℕ
bound_of [] = 0
bound_of (m ∷ ms) = suc m + bound_of ms

abbrev in_order : List ℕ → List ℕ
in_order ms = filter (λ set. holds set ms) (range_with_len 0 (bound_of ms))

below_bound : (ms : List ℕ) (m : ℕ) → Contains ms m → m < bound_of ms
below_bound [] m within = absurd (Contains-nothing m within)
below_bound (x ∷ ms) m within = elim (Contains-cases x m ms within) [
  | inl here ↦ omega (arith, here)
  | inr later ↦ let rest = below_bound ms m later in omega (arith, rest)
]

rising_range : (n : ℕ) → IsStrictlyIncreasing (range_with_len 0 n)
rising_range n k below =
    let long = length-range_with_len 0 n in
    let here = get_or-range_with_len 0 n k 0 (omega (arith, below, long)) in
    let next = get_or-range_with_len 0 n (k + 1) 0 (omega (arith, below, long)) in
    omega (arith, here, next)

in_range : (n m : ℕ) → m < n → Contains (range_with_len 0 n) m
in_range n m below =
    let none : 0 + m ≡ m = omega arith in
    (m, omega (arith, below, length-range_with_len 0 n), get_or-range_with_len 0 n m m below ∙ none)

marks_in_order : (ms : List ℕ) → AreMarksOf ms (in_order ms)
marks_in_order ms = record {
  rising = IsStrictlyIncreasing-filter (λ set. holds set ms) (range_with_len 0 (bound_of ms)) (rising_range (bound_of ms));
  same = λ mark. (
    λ within. holds_contains mark ms (filter_contains (λ set. holds set ms) (range_with_len 0 (bound_of ms)) mark within).1,
    λ within. contains_filter (λ set. holds set ms) (range_with_len 0 (bound_of ms)) mark (in_range (bound_of ms) mark (below_bound ms mark within)) (contains_holds mark ms within),
  );
}

-- two lists beside two others
zip_on : {X Y : Type 0} (R : X → Y → Type 0) (xs xs' : List X) (ys ys' : List Y) → AllZip R xs ys → AllZip R xs' ys' → AllZip R (xs ++ xs') (ys ++ ys')
zip_on R [] xs' [] ys' all all' = all'
zip_on R [] xs' (y ∷ ys) ys' all all' = absurd all
zip_on R (x ∷ xs) xs' [] ys' all all' = absurd all
zip_on R (x ∷ xs) xs' (y ∷ ys) ys' all all' = (all.0, zip_on R xs xs' ys ys' all.1 all')

map_on : {X Y : Type 0} (f : X → Y) (xs ys : List X) → map f (xs ++ ys) ≡ map f xs ++ map f ys
map_on f [] ys = refl
map_on {Y = Y} f (x ∷ xs) ys = ap (λ (rest : List Y). f x ∷ rest) (map_on f xs ys)

-- an edge of the product
abbrev edge_of : PlainEdge → Edge
edge_of t = record { label = Some t.label; targets = t.target ∷ []; marks = in_order t.marks }

edge_is : (t : PlainEdge) → IsJointEdge t (edge_of t)
edge_is t = record { label = refl; targets = refl; marks = marks_in_order t.marks }

edges_are : (ts : List PlainEdge) → AllZip IsJointEdge ts (map edge_of ts)
edges_are [] = tt
edges_are (t ∷ ts) = (edge_is t, edges_are ts)

module _ (one other : Description) (pairs : List Pair) where
  abbrev state_of : Pair → State
  state_of pair = record {
    label = None;
    number = pair_number pairs pair;
    name = Some (pair_name one other pair);
    marks = [];
    edges = map edge_of (joint_edges_of one other pairs pair);
  }

  states_are : (ps : List Pair) → AllZip (IsPairState one other pairs) ps (map state_of ps)
  states_are [] = tt
  states_are (p ∷ ps) = (
    record { label = refl; number = refl; name = refl; marks = refl; edges = edges_are (joint_edges_of one other pairs p) },
    states_are ps,
  )

  -- the edges of a pair, one by one
  module _ (pair : Pair) (within : Contains pairs pair) where
    abbrev body : PlainEdge → BodyEdge
    body t = record { source = state_of pair; edge = edge_of t }

    with_one : (first : Numbered) → Contains (first_numbered one other pair) first → (n : ℕ) (us : List PlainEdge)
        → ((x : Numbered) → Contains (numbered_from n us) x → Contains (second_numbered one other pair) x)
        → AllZip (TakesTogether one other pairs) (joints_with pairs (pair_number pairs pair) first (numbered_from n us)) (map body (joint_with pairs first.plain_edge us))
    with_one first first_in n [] among = tt
    with_one first first_in n (u ∷ us) among =
        go (can_meet first.plain_edge u) refl (with_one first first_in (n + 1) us (λ x h. among x (Contains-there second x (numbered_from (n + 1) us) h)))
      where
        second : Numbered
        second = record { number = n; plain_edge = u }

        go : (b : Bool) → can_meet first.plain_edge u ≡ b
            → AllZip (TakesTogether one other pairs) (joints_with pairs (pair_number pairs pair) first (numbered_from (n + 1) us)) (map body (joint_with pairs first.plain_edge us))
            → AllZip (TakesTogether one other pairs)
            (map (joint_of pairs (pair_number pairs pair) first) (cond b (second ∷ numbered_partners first (numbered_from (n + 1) us)) (numbered_partners first (numbered_from (n + 1) us))))
            (map body (map (taken_together pairs first.plain_edge) (cond b (u ∷ partners first.plain_edge us) (partners first.plain_edge us))))
        go true meets rest = (
          record {
            pair = pair;
            within = within;
            first_in = first_in;
            second_in = among second (Contains-here second (numbered_from (n + 1) us));
            meets = meets;
            is = refl;
            number = refl;
            no_label = refl;
            no_marks = refl;
            edge_is = edge_is (taken_together pairs first.plain_edge u);
          },
          rest,
        )
        go false meets rest = rest

    between : (m n : ℕ) (ts us : List PlainEdge)
        → ((x : Numbered) → Contains (numbered_from m ts) x → Contains (first_numbered one other pair) x)
        → ((x : Numbered) → Contains (numbered_from n us) x → Contains (second_numbered one other pair) x)
        → AllZip (TakesTogether one other pairs) (joints_between pairs (pair_number pairs pair) (numbered_from m ts) (numbered_from n us)) (map body (joint_plain_edges pairs ts us))
    between m n [] us firsts seconds = tt
    between m n (t ∷ ts) us firsts seconds =
        let first : Numbered = record { number = m; plain_edge = t } in
        let here = with_one first (firsts first (Contains-here first (numbered_from (m + 1) ts))) n us seconds in
        let later = between (m + 1) n ts us (λ x h. firsts x (Contains-there first x (numbered_from (m + 1) ts) h)) seconds in
        subst (AllZip (TakesTogether one other pairs) (joints_between pairs (pair_number pairs pair) (numbered_from m (t ∷ ts)) (numbered_from n us)))
        (sym (map_on body (joint_with pairs t us) (joint_plain_edges pairs ts us)))
        (zip_on (TakesTogether one other pairs) (joints_with pairs (pair_number pairs pair) first (numbered_from n us))
        (joints_between pairs (pair_number pairs pair) (numbered_from (m + 1) ts) (numbered_from n us))
        (map body (joint_with pairs t us)) (map body (joint_plain_edges pairs ts us)) here later)

    at_pair : AllZip (TakesTogether one other pairs) (joints_at one other pairs pair) (edges_from (state_of pair))
    at_pair =
        subst (AllZip (TakesTogether one other pairs) (joints_at one other pairs pair)) (twice (joint_edges_of one other pairs pair))
        (between (edges_before one.defined pair.0) (edges_before other.defined pair.1) (first_leaving one other pair) (second_leaving one other pair) (λ x h. h) (λ x h. h))
      where
        twice : (ts : List PlainEdge) → map body ts ≡ map {B = BodyEdge} (λ (e : Edge). record { source = state_of pair; edge = e }) (map edge_of ts)
        twice [] = refl
        twice (t ∷ ts) = ap (λ (rest : List BodyEdge). body t ∷ rest) (twice ts)

  at_pairs : (ps : List Pair) → ((p : Pair) → Contains ps p → Contains pairs p)
      → AllZip (TakesTogether one other pairs) (flat_map (joints_at one other pairs) ps) (flat_map edges_from (map state_of ps))
  at_pairs [] among = tt
  at_pairs (p ∷ ps) among =
      zip_on (TakesTogether one other pairs) (joints_at one other pairs p) (flat_map (joints_at one other pairs) ps) (edges_from (state_of p)) (flat_map edges_from (map state_of ps))
      (at_pair p (among p (Contains-here p ps))) (at_pairs ps (λ q h. among q (Contains-there p q ps h)))

  -- the product
  abbrev product_of : Option AccName → AccTree → Description
  product_of name formula = record {
    tool = None;
    name = None;
    states = length pairs;
    starts = map (λ pair. pair_number pairs pair ∷ []) (start_pairs one other);
    propositions = joined_names one.propositions other.propositions;
    acc_name = name;
    sets = one.sets + other.sets;
    acceptance = formula;
    properties = [];
    unknown = [];
    defined = map state_of pairs;
  }

  abbrev product_is : (name : Option AccName) (formula : AccTree) → AreReached one other pairs → IsJointAcceptance one other name formula → IsProduct one other (product_of name formula)
  product_is name formula reached joint = record {
    pairs = pairs;
    reached = reached;
    tool = refl;
    name = refl;
    states = refl;
    starts = refl;
    propositions = refl;
    sets = refl;
    accepted = joint;
    properties = refl;
    unknown = refl;
    defined = states_are pairs;
  }

pub graphs_of_products : GraphsAreOfProducts
graphs_of_products one other graph is = (
  product_of one other is.pairs is.acceptance.0 graph.acceptance,
  record {
    product = product_is one other is.pairs is.acceptance.0 graph.acceptance is.reached is.acceptance.1;
    pairs_are = refl;
    formula_is = refl;
    edges = at_pairs one other is.pairs is.pairs (λ p h. h);
  },
)
