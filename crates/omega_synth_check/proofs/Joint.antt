-- The product of a specification with the complement of a strategy: where it goes at a letter, its two sides go, and
-- its ways out enter the sink.
use Rattle.std.proofs.Common.{◌≡◌, ◌==◌, ◌&&◌, ℕ, ◌+◌, Bool, true, false, not, List, [], ◌∷◌, get_or, map, Contains, Option, Some, slice_get, refl, sym, ap, ap₂, subst, ◌∙◌, arith}
use Rattle.std.specs.Prelude.{IfSome}
use Rattle.std.specs.Option.{option_or}
use Rattle.omega_hoa_label.specs.Label.{LabelTree, conjunction, truth}
use Rattle.omega_hoa_edges.specs.Conjuncts.{joined}
use Rattle.omega_hoa_edges.proofs.Meaning.{joined_means}
use Rattle.omega_hoa_satisfiable.specs.Satisfiable.{IsSatisfiable}
use Rattle.omega_hoa_automaton.specs.Automaton.{BodyEdge, Description, IsAutomaton, edge_at, edges_of}
use Rattle.omega_hoa_automaton.specs.Branching.{has_universal_branching}
use Rattle.omega_hoa_automaton.specs.declared.edge.Edge.{Edge}
use Rattle.omega_hoa_automaton.specs.declared.state.State.{State}
use Rattle.omega_lang_runs.specs.Lasso.{IsStart, label_of}
use Rattle.omega_lang_runs.specs.Words.{Allows}
use Rattle.omega_lang_runs.proofs.Flat.{contains_flat}
use Rattle.omega_lang_product.specs.JointEdges.{numbered_from}
use Rattle.omega_lang_product.specs.Joining.{joined_names}
use Rattle.omega_lang_product.specs.PairGraph.{IsPairGraph}
use Rattle.omega_hoa_automaton.specs.Automaton.{edges_before}
use Rattle.omega_lang_product.specs.Pairs.{Pair, can_meet, first_view, pair_number, partners, second_view, start_pairs, start_state}
use Rattle.omega_lang_product.specs.Product.{IsJointEdge, IsPairState, IsProduct, joint_plain_edges, taken_together}
use Rattle.omega_lang_product.specs.PlainEdges.{plain_edges_at}
use Rattle.omega_lang_product.specs.declared.graph.PairGraph.{PairGraph}
use Rattle.omega_lang_product.specs.declared.plain_edge.PlainEdge.{PlainEdge}
use Rattle.omega_lang_product.proofs.Holding.{and_both, both_and, can_hold_iff}
use Rattle.omega_lang_word_laws.specs.Graphs.{IsGraphOf}
use Rattle.omega_lang_word_laws.proofs.meeting.Found.{number_below, number_tells, starts_found}
use Rattle.omega_lang_word_laws.proofs.meeting.Lists.{beside_left, contains_filter, contains_flat_map, contains_map, flat_map_contains, index_of, map_contains, same_some}
use Rattle.omega_lang_word_laws.proofs.meeting.Meeting.{leads_to, one_start}
use Rattle.omega_lang_word_laws.proofs.meeting.PlainEdges.{IsListedAt, numbered_found}
use Rattle.omega_lang_intersection.proofs.Formulas.{named_first}
use Rattle.omega_lang_intersection.proofs.Made.{IsMade, made}
use Rattle.omega_lang_intersection.proofs.Made.{numbered_within}
use Rattle.omega_lang_intersection.proofs.Standing.{Row, label_is, product_named, row, second_is}
use Rattle.omega_synth_check.specs.CounterJudging.{GoesAt, NamedLetter}
use Rattle.omega_synth_check.specs.WaysOut.{enters_sink, is_way_out}
use Rattle.omega_synth_check.specs.private.Letterless.{source_in, source_of}
use Rattle.omega_synth_check.proofs.Sides.{AreNamedAmong, IsSeenEdge, named_second, seen, seen_edge, side_goes}

single : (x y : ℕ) → x ∷ [] ≡ y ∷ [] → x ≡ y
single x y e = cc

-- `both` is the product of two automata without branches, and `graph` its graph
module _ (one other both : Description) (graph : PairGraph) (automaton : IsAutomaton one) (automaton' : IsAutomaton other)
    (plain : has_universal_branching one ≡ false) (plain' : has_universal_branching other ≡ false)
    (is : IsPairGraph one other graph) (of : IsGraphOf one other graph is both) where
  abbrev product : IsProduct one other both
  product = of.product

  abbrev pub pairs : List Pair
  pairs = of.product.pairs

  abbrev names : List (List ℕ)
  names = joined_names one.propositions other.propositions

  abbrev firsts : ℕ → List PlainEdge
  firsts s = plain_edges_at (first_view one other) one.defined s

  abbrev seconds : ℕ → List PlainEdge
  seconds s = plain_edges_at (second_view one other) other.defined s

  first_names : AreNamedAmong one (first_view one other) names
  first_names p below = named_first one.propositions other.propositions p below

  second_names : AreNamedAmong other (second_view one other) names
  second_names p below = named_second one.propositions other.propositions p below

  -- an edge of the product takes two edges together, from a pair to a pair
  pub record IsSplit (number : ℕ) (edge : BodyEdge) : Type 0 where
    pub pair : Pair
    pub within : Contains pairs pair
    pub here : edge.source.number ≡ pair_number pairs pair
    pub first : PlainEdge
    pub first_in : Contains (firsts pair.0) first
    pub second : PlainEdge
    pub second_in : Contains (seconds pair.1) second
    pub meets : can_meet first second ≡ true
    pub enters : edge.edge.targets ≡ pair_number pairs (first.target, second.target) ∷ []
    pub label : label_of edge ≡ Some (joined first.label second.label)
    pub way : (sink : ℕ) → is_way_out other sink (get_or graph.edges.seconds.items number 0) ≡ ((second.target == sink) && not (pair.1 == sink))
    pub first_left : source_of one (get_or graph.edges.firsts.items number 0) ≡ pair.0
    pub second_left : source_of other (get_or graph.edges.seconds.items number 0) ≡ pair.1

  pub split : (number : ℕ) (edge : BodyEdge) → edge_at both number ≡ Some edge → IsSplit number edge
  split number edge at = record {
    pair = r.takes.pair;
    within = subst (λ (ps : List Pair). Contains ps r.takes.pair) (sym of.pairs_are) r.takes.within;
    here = r.takes.number ∙ ap (λ (ps : List Pair). pair_number ps r.takes.pair) (sym of.pairs_are);
    first = r.joint.first.plain_edge;
    first_in = numbered_within (edges_before one.defined r.takes.pair.0) (firsts r.takes.pair.0) r.joint.first r.takes.first_in;
    second = r.joint.second.plain_edge;
    second_in = numbered_within (edges_before other.defined r.takes.pair.1) (seconds r.takes.pair.1) r.joint.second r.takes.second_in;
    meets = r.takes.meets;
    enters = r.takes.edge_is.targets
        ∙ ap (λ (ps : List Pair). pair_number ps (r.joint.first.plain_edge.target, r.joint.second.plain_edge.target) ∷ []) (sym of.pairs_are);
    label = label_is one other graph is both of r.joint edge r.takes;
    way = way;
    first_left = ap source_in m.listed.at ∙ m.leaves;
    second_left = ap (source_of other) number_is ∙ ap source_in found.2.at ∙ found.3;
  }
    where
      r : Row one other graph is both of number edge
      r = row one other graph is both of number edge at

      m : IsMade one other automaton automaton' plain plain' graph is both of (product_named one other graph is both of automaton automaton') number edge r
      m = made one other automaton automaton' plain plain' graph is both of (product_named one other graph is both of automaton automaton') number edge r

      none : 0 + edges_before other.defined r.takes.pair.1 ≡ edges_before other.defined r.takes.pair.1
      none = omega arith

      found : (k : ℕ) × (found_edge : BodyEdge) × IsListedAt (second_view one other) other.defined k found_edge r.joint.second.plain_edge
          × (found_edge.source.number ≡ r.takes.pair.1) × (r.joint.second.number ≡ 0 + k)
      found =
          let P : ℕ → Type 0 = λ n. Contains (numbered_from n (seconds r.takes.pair.1)) r.joint.second in
          numbered_found (second_view one other) other.defined r.takes.pair.1 0 r.joint.second (subst P (sym none) r.takes.second_in)

      zero_more : 0 + found.0 ≡ found.0
      zero_more = omega arith

      number_is : get_or graph.edges.seconds.items number 0 ≡ found.0
      number_is = second_is one other graph is both of number edge r ∙ found.4 ∙ zero_more

      way : (sink : ℕ) → is_way_out other sink (get_or graph.edges.seconds.items number 0) ≡ ((r.joint.second.plain_edge.target == sink) && not (r.takes.pair.1 == sink))
      way sink =
          ap (is_way_out other sink) number_is
          ∙ ap (enters_sink sink) found.2.at
          ∙ ap₂ (λ (x y : ℕ). (x == sink) && not (y == sink)) (sym (ap (λ (t : PlainEdge). t.target) found.2.is)) found.3

  module _ (letter : NamedLetter) where
    abbrev held : ℕ → Bool
    held = seen names letter

    -- where the product goes, its sides go
    pub record IsApart (p q : ℕ) : Type 0 where
      pub pair : Pair
      pub within : Contains pairs pair
      pub here : p ≡ pair_number pairs pair
      pub target : Pair
      pub within_target : Contains pairs target
      pub there : q ≡ pair_number pairs target
      pub first : GoesAt one letter pair.0 target.0
      pub second : GoesAt other letter pair.1 target.1

    pub sides_go : (number : ℕ) (edge : BodyEdge) (s : IsSplit number edge) → Allows both number (label_of edge) (seen both.propositions letter)
        → GoesAt one letter s.pair.0 s.first.target × GoesAt other letter s.pair.1 s.second.target
    sides_go number edge s allowed = (
      side_goes one (first_view one other) refl automaton plain names first_names letter s.pair.0 s.first s.first_in true_there.0,
      side_goes other (second_view one other) refl automaton' plain' names second_names letter s.pair.1 s.second s.second_in true_there.1,
    )
      where
        true_there : (truth held s.first.label ≡ true) × (truth held s.second.label ≡ true)
        true_there =
            let P : Option LabelTree → Type 0 = λ l. Allows both number l (seen both.propositions letter) in
            let Q : List (List ℕ) → Type 0 = λ ns. truth (seen ns letter) (joined s.first.label s.second.label) ≡ true in
            and_both (truth held s.first.label) (truth held s.second.label)
            (sym (joined_means held s.first.label s.second.label) ∙ subst Q product.propositions (subst P s.label allowed))

    apart_by : (p q : ℕ) (goes : GoesAt both letter p q) (s : IsSplit goes.number goes.step.edge) → IsApart p q
    apart_by p q goes s = record {
      pair = s.pair;
      within = s.within;
      here = sym goes.step.leaves ∙ s.here;
      target = (s.first.target, s.second.target);
      within_target = leads_to one other both automaton automaton' plain plain' product s.pair s.within s.first s.second s.first_in s.second_in s.meets;
      there = single q (pair_number pairs (s.first.target, s.second.target)) (sym goes.step.enters ∙ s.enters);
      first = sides.0;
      second = sides.1;
    }
      where
        same : goes.taken.edge ≡ goes.step.edge
        same = same_some goes.taken.edge goes.step.edge (sym goes.taken.numbered ∙ goes.step.numbered)

        allowed : Allows both goes.number (label_of goes.step.edge) (seen both.propositions letter)
        allowed = subst (λ (edge : BodyEdge). Allows both goes.number (label_of edge) (seen both.propositions letter)) same goes.taken.allowed

        sides : GoesAt one letter s.pair.0 s.first.target × GoesAt other letter s.pair.1 s.second.target
        sides = sides_go goes.number goes.step.edge s allowed

    pub apart : (p q : ℕ) → GoesAt both letter p q → IsApart p q
    apart p q goes = apart_by p q goes (split goes.number goes.step.edge goes.step.numbered)

    -- and where both sides go, the product goes
    pub record IsTogether (pair target : Pair) : Type 0 where
      pub within : Contains pairs target
      pub goes : GoesAt both letter (pair_number pairs pair) (pair_number pairs target)

    pub together : (pair target : Pair) → Contains pairs pair → GoesAt one letter pair.0 target.0 → GoesAt other letter pair.1 target.1 → IsTogether pair target
    together pair target inside first second = record {
      within = subst (Contains pairs) target_is (leads_to one other both automaton automaton' plain plain' product pair inside t u t_in u_in meets);
      goes = record {
        number = at.0;
        step = record {
          edge = body;
          numbered = at.1;
          usable = (let P : Option LabelTree → Type 0 = λ l. IfSome l IsSatisfiable in subst P (sym label) (held, joined_true));
          leaves = state.2.number;
          enters = edge.2.targets ∙ ap (λ (p : Pair). pair_number pairs p ∷ []) target_is;
        };
        taken = record {
          edge = body;
          numbered = at.1;
          allowed = (let P : Option LabelTree → Type 0 = λ l. Allows both at.0 l (seen both.propositions letter) in
              let Q : List (List ℕ) → Type 0 = λ ns. truth (seen ns letter) (joined t.label u.label) ≡ true in
              subst P (sym label) (subst Q (sym product.propositions) joined_true));
        };
      };
    }
      where
        e : IsSeenEdge one (first_view one other) refl automaton plain names first_names letter pair.0 target.0
        e = seen_edge one (first_view one other) refl automaton plain names first_names letter pair.0 target.0 first

        f : IsSeenEdge other (second_view one other) refl automaton' plain' names second_names letter pair.1 target.1
        f = seen_edge other (second_view one other) refl automaton' plain' names second_names letter pair.1 target.1 second

        t : PlainEdge
        t = e.plain_edge

        u : PlainEdge
        u = f.plain_edge

        t_in : Contains (firsts pair.0) t
        t_in = e.within

        u_in : Contains (seconds pair.1) u
        u_in = f.within

        both_true : (truth held t.label && truth held u.label) ≡ true
        both_true = both_and (truth held t.label) (truth held u.label) e.holds f.holds

        joined_true : truth held (joined t.label u.label) ≡ true
        joined_true = joined_means held t.label u.label ∙ both_true

        meets : can_meet t u ≡ true
        meets = (can_hold_iff (conjunction t.label u.label)).1 (held, both_true)

        target_is : (t.target, u.target) ≡ target
        target_is = ap₂ (λ (x y : ℕ). (x, y)) e.target f.target

        state : (y : State) × Contains both.defined y × IsPairState one other pairs pair y
        state = beside_left (IsPairState one other pairs) pairs both.defined product.defined pair inside

        joint : Contains (joint_plain_edges pairs (firsts pair.0) (seconds pair.1)) (taken_together pairs t u)
        joint =
            contains_flat_map (λ (t : PlainEdge). map (taken_together pairs t) (partners t (seconds pair.1))) (firsts pair.0) t (taken_together pairs t u) t_in
            (contains_map (taken_together pairs t) (partners t (seconds pair.1)) u (contains_filter (can_meet t) (seconds pair.1) u u_in meets))

        edge : (y : Edge) × Contains state.0.edges y × IsJointEdge (taken_together pairs t u) y
        edge = beside_left IsJointEdge (joint_plain_edges pairs (firsts pair.0) (seconds pair.1)) state.0.edges state.2.edges (taken_together pairs t u) joint

        body : BodyEdge
        body = record { source = state.0; edge = edge.0 }

        at : (k : ℕ) × (slice_get (edges_of both) k ≡ Some body)
        at = index_of (edges_of both) body (contains_flat both.defined state.1.0 state.0 edge.0 state.1.1 (sym state.1.2) edge.1)

        label : label_of body ≡ Some (joined t.label u.label)
        label = ap₂ option_or state.2.label edge.2.label

  -- starts of the product are pairs of starts
  pub record AreBegun (p : ℕ) : Type 0 where
    pub pair : Pair
    pub within : Contains pairs pair
    pub here : p ≡ pair_number pairs pair
    pub first : IsStart one pair.0
    pub second : IsStart other pair.1

  pub begun : (p : ℕ) → IsStart both p → AreBegun p
  begun p begins =
      let P : List (List ℕ) → Type 0 = λ starts. Contains starts (p ∷ []) in
      let start = map_contains (λ (pair : Pair). pair_number pairs pair ∷ []) (start_pairs one other) (p ∷ []) (subst P product.starts begins) in
      let s = flat_map_contains (λ (start : List ℕ). map (λ (start' : List ℕ). (start_state start, start_state start')) other.starts) one.starts start.0 start.1 in
      let s' = map_contains (λ (start' : List ℕ). (start_state s.0, start_state start')) other.starts start.0 s.2 in
      record {
        pair = start.0;
        within = starts_found one other pairs product.reached start.0 start.1;
        here = single p (pair_number pairs start.0) (sym start.2);
        first = subst (Contains one.starts) (one_start one automaton plain s.0 s.1 ∙ ap (λ (q : Pair). q.0 ∷ []) s'.2) s.1;
        second = subst (Contains other.starts) (one_start other automaton' plain' s'.0 s'.1 ∙ ap (λ (q : Pair). q.1 ∷ []) s'.2) s'.1;
      }

  pub begins_with : (s t : ℕ) → IsStart one s → IsStart other t → Contains pairs (s, t) × IsStart both (pair_number pairs (s, t))
  begins_with s t first second =
      let there : Contains (start_pairs one other) (s, t) =
      contains_flat_map (λ (start : List ℕ). map (λ (start' : List ℕ). (start_state start, start_state start')) other.starts) one.starts (s ∷ []) (s, t) first
      (contains_map (λ (start' : List ℕ). (start_state (s ∷ []), start_state start')) other.starts (t ∷ []) second) in
      let P : List (List ℕ) → Type 0 = λ starts. Contains starts (pair_number pairs (s, t) ∷ []) in (
        starts_found one other pairs product.reached (s, t) there,
        subst P (sym product.starts) (contains_map (λ (pair : Pair). pair_number pairs pair ∷ []) (start_pairs one other) (s, t) there),
      )

  -- pairs are told by their numbers
  pub tells : (pair target : Pair) → Contains pairs pair → pair_number pairs pair ≡ pair_number pairs target → pair ≡ target
  tells pair target within same = number_tells pairs pair target (number_below pairs pair within) same
