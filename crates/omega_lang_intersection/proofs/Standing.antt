-- A product that is not made: what its graph says of it.
use Rattle.std.proofs.Common.{◌≡◌, ℕ, zero, suc, ◌<◌, false, ◌||◌, nat_lt, List, [], ◌∷◌, ◌++◌, length, map, get_or, slice_get, Contains, ◌+◌, Option, Some, refl, sym, ap, ap₂, subst, ◌∙◌, arith}
use Rattle.std.specs.Prelude.{IfSome, option_map, slice_index_or}
use Rattle.std.specs.List.{AllZip}
use Rattle.std.specs.Option.{option_or, unwrap_or}
use Rattle.omega_graph.specs.Graph.{edge_of}
use Rattle.omega_hoa_acceptance.specs.Acceptance.{holds}
use Rattle.std.specs.Str.{bytes_eq}
use Rattle.omega_hoa_label.specs.Label.{LabelTree, conjunction, propositions}
use Rattle.omega_hoa_edges.specs.Conjuncts.{joined}
use Rattle.omega_hoa_edges.proofs.Meaning.{joined_means}
use Rattle.omega_hoa_satisfiable.specs.Satisfiable.{IsSatisfiable}
use Rattle.omega_hoa_automaton.specs.Automaton.{BodyEdge, Description, IsAutomaton, edge_at, edges_of, has_repeat}
use Rattle.omega_hoa_automaton.specs.Branching.{has_universal_branching, state_branches}
use Rattle.omega_hoa_automaton.specs.declared.edge.Edge.{Edge}
use Rattle.omega_lang_runs.specs.Lasso.{label_of, marks_of}
use Rattle.omega_hoa_edges.specs.Labels.{label_at}
use Rattle.omega_lang_runs.specs.Words.{index_in}
use Rattle.omega_lang_runs.proofs.Flat.{contains_flat}
use Rattle.omega_lang_runs.proofs.Kept.{edge_kept}
use Rattle.omega_lang_lasso_search.specs.Tabled.{AllAreUsable, IsTabled, ListsOne, ends_of, first_of}
use Rattle.omega_lang_product.specs.JointEdges.{Joint, marks_of_both, numbered_from}
use Rattle.omega_lang_product.specs.Joining.{joined_names}
use Rattle.omega_lang_product.specs.PairGraph.{IsPairGraph, joints_of}
use Rattle.omega_hoa_automaton.specs.Automaton.{edges_before}
use Rattle.omega_lang_product.specs.Pairs.{Pair, first_view, pair_number, second_view, start_pairs}
use Rattle.omega_lang_product.specs.PlainEdges.{plain_edges_at}
use Rattle.omega_lang_product.specs.declared.plain_edge.PlainEdge.{PlainEdge}
use Rattle.omega_lang_product.specs.declared.graph.PairGraph.{PairGraph}
use Rattle.omega_lang_word_laws.specs.Graphs.{IsGraphOf, TakesTogether}
use Rattle.omega_lang_product.proofs.Holding.{can_hold_iff}
use Rattle.omega_lang_word_laws.proofs.meeting.Lists.{index_of, map_contains, same_some}
use Rattle.omega_lang_word_laws.proofs.meeting.Marks.{contains_holds, holds_contains, same_truth}
use Rattle.omega_lang_word_laws.proofs.meeting.PlainEdges.{numbered_found}
use Rattle.omega_lang_intersection.specs.private.Named.{IsNamed}
use Rattle.omega_lang_intersection.proofs.Formulas.{label_below}
use Rattle.omega_lang_intersection.proofs.Conjuncts.{joined_below}
use Rattle.omega_lang_intersection.proofs.Naming.{fails_everywhere, first_below, joined_apart, second_below}

-- what stands beside an element of a list
module _ {X Y : Type 0} (R : X → Y → Type 0) where
  beside : (xs : List X) (ys : List Y) → AllZip R xs ys → (k : ℕ) (y : Y) → slice_get ys k ≡ Some y → (x : X) × (slice_get xs k ≡ Some x) × R x y
  beside [] [] all zero y at = absurd (none at)
    where
      none : slice_get {X = Y} [] zero ≡ Some y → ⊥
      none e = cc
  beside [] [] all (suc k) y at = absurd (none at)
    where
      none : slice_get {X = Y} [] (suc k) ≡ Some y → ⊥
      none e = cc
  beside [] (z ∷ ys) all k y at = absurd all
  beside (x ∷ xs) [] all k y at = absurd all
  beside (x ∷ xs) (z ∷ ys) all zero y at = (x, refl, subst (R x) (same_some z y at) all.0)
  beside (x ∷ xs) (z ∷ ys) all (suc k) y at = beside xs ys all.1 k y at

  maps_alike : {Z : Type 0} (f : X → Z) (g : Y → Z) → ((x : X) (y : Y) → R x y → f x ≡ g y) → (xs : List X) (ys : List Y) → AllZip R xs ys → map g ys ≡ map f xs
  maps_alike f g same [] [] all = refl
  maps_alike f g same [] (y ∷ ys) all = absurd all
  maps_alike f g same (x ∷ xs) [] all = absurd all
  maps_alike {Z = Z} f g same (x ∷ xs) (y ∷ ys) all =
      ap₂ (λ (z : Z) (zs : List Z). z ∷ zs) (sym (same x y all.0)) (maps_alike f g same xs ys all.1)

-- an element of a column
mapped_at : {X : Type 0} (f : X → ℕ) (xs : List X) (k : ℕ) (x : X) (d : ℕ) → slice_get xs k ≡ Some x → get_or (map f xs) k d ≡ f x
mapped_at {X = X} f [] zero x d at = absurd (none at)
  where
    none : slice_get {X = X} [] zero ≡ Some x → ⊥
    none e = cc
mapped_at {X = X} f [] (suc k) x d at = absurd (none at)
  where
    none : slice_get {X = X} [] (suc k) ≡ Some x → ⊥
    none e = cc
mapped_at f (y ∷ xs) zero x d at = ap f (same_some y x at)
mapped_at f (y ∷ xs) (suc k) x d at = mapped_at f xs k x d at

firsts_of_singles : (n : Pair → ℕ) (ps : List Pair) → map first_of (map (λ pair. n pair ∷ []) ps) ≡ map n ps
firsts_of_singles n [] = refl
firsts_of_singles n (p ∷ ps) = ap (λ (rest : List ℕ). n p ∷ rest) (firsts_of_singles n ps)

not_over_one : (n : ℕ) → n ≡ 1 → nat_lt 1 n ≡ false
not_over_one n e = grind (arith, e)

single : (states : List ℕ) (state : ℕ) → states ≡ state ∷ [] → nat_lt 1 (length states) ≡ false
single states state e = let long : length states ≡ 1 = ap length e in not_over_one (length states) long

module _ (one other : Description) (graph : PairGraph) (is : IsPairGraph one other graph) (a : Description) (of : IsGraphOf one other graph is a) where
  abbrev Takes : Joint → BodyEdge → Type 0
  Takes joint edge = TakesTogether one other is.pairs joint edge

  abbrev joints : List Joint
  joints = joints_of one other is.pairs

  -- each edge has a row of the graph
  pub record Row (number : ℕ) (edge : BodyEdge) : Type 0 where
    pub joint : Joint
    pub at : slice_get joints number ≡ Some joint
    pub takes : TakesTogether one other is.pairs joint edge

  pub row : (number : ℕ) (edge : BodyEdge) → edge_at a number ≡ Some edge → Row number edge
  row number edge at =
      let found = beside Takes joints (edges_of a) of.edges number edge at in
      record { joint = found.0; at = found.1; takes = found.2 }

  -- which names the two edges that it takes together
  pub first_is : (number : ℕ) (edge : BodyEdge) (r : Row number edge) → get_or graph.edges.firsts.items number 0 ≡ r.joint.first.number
  first_is number edge r =
      ap (λ (ns : List ℕ). get_or ns number 0) is.edges.firsts ∙ mapped_at (λ (j : Joint). j.first.number) joints number r.joint 0 r.at

  pub second_is : (number : ℕ) (edge : BodyEdge) (r : Row number edge) → get_or graph.edges.seconds.items number 0 ≡ r.joint.second.number
  second_is number edge r =
      ap (λ (ns : List ℕ). get_or ns number 0) is.edges.seconds ∙ mapped_at (λ (j : Joint). j.second.number) joints number r.joint 0 r.at

  -- each edge leads to one state
  targets_are : (joint : Joint) (edge : BodyEdge) → Takes joint edge → edge.edge.targets ≡ joint.to ∷ []
  targets_are joint edge takes = takes.edge_is.targets ∙ ap (λ (j : Joint). j.to ∷ []) (sym takes.is)

  lists_one : ListsOne a
  lists_one = record {
    starts = λ start within.
        let P : List (List ℕ) → Type 0 = λ starts. Contains starts start in
        let found = map_contains (λ (pair : Pair). pair_number of.product.pairs pair ∷ []) (start_pairs one other) start (subst P of.product.starts within) in
        sym found.2 ∙ ap (λ (n : ℕ). n ∷ []) (ap first_of found.2);
    edges = λ number edge at.
        let r = row number edge at in
        let targets = targets_are r.joint edge r.takes in
        targets ∙ ap (λ (n : ℕ). n ∷ []) (sym (ap first_of targets));
  }

  pub searchable : has_universal_branching a ≡ false
  searchable =
      ap₂ ◌||◌
      (fails_everywhere (λ (start : List ℕ). nat_lt 1 (length start)) a.starts (λ start h. single start (first_of start) (lists_one.starts start h)))
      (fails_everywhere state_branches a.defined (λ state h.
      fails_everywhere (λ (e : Edge). nat_lt 1 (length e.targets)) state.edges (λ e h'.
      (let body : BodyEdge = record { source = state; edge = e } in
      let at = index_of (edges_of a) body (contains_flat a.defined h.0 state e h.1 (sym h.2) h') in
      single e.targets (first_of e.targets) (lists_one.edges at.0 body at.1)))))

  -- the edges and the marks are those of the columns
  ends_alike : (joint : Joint) (edge : BodyEdge) → Takes joint edge → edge_of joint.from joint.to ≡ ends_of edge
  ends_alike joint edge takes =
      ap₂ edge_of (ap (λ (j : Joint). j.from) takes.is ∙ sym takes.number) (sym (ap first_of (targets_are joint edge takes)))

  marks_alike : (joint : Joint) (edge : BodyEdge) → Takes joint edge → (set : ℕ) → holds set (marks_of_both joint) ≡ holds set (marks_of edge)
  marks_alike joint edge takes set =
      same_truth (holds set (marks_of_both joint)) (holds set edge.edge.marks)
      (λ h. contains_holds set edge.edge.marks ((takes.edge_is.marks.same set).1 (holds_contains set (marks_of_both joint) h)))
      (λ h. contains_holds set (marks_of_both joint) ((takes.edge_is.marks.same set).0 (holds_contains set edge.edge.marks h)))
      ∙ ap (λ (own : List ℕ). holds set (own ++ edge.edge.marks)) (sym takes.no_marks)

  rows_hold : (js : List Joint) (edges : List BodyEdge) → AllZip Takes js edges → (number set : ℕ)
      → holds set (slice_index_or (map marks_of_both js) number []) ≡ holds set (unwrap_or (option_map marks_of (slice_get edges number)) [])
  rows_hold [] [] all zero set = refl
  rows_hold [] [] all (suc number) set = refl
  rows_hold [] (edge ∷ edges) all number set = absurd all
  rows_hold (j ∷ js) [] all number set = absurd all
  rows_hold (j ∷ js) (edge ∷ edges) all zero set = marks_alike j edge all.0 set
  rows_hold (j ∷ js) (edge ∷ edges) all (suc number) set = rows_hold js edges all.1 number set

  pub tabled : IsTabled graph.starts.items graph.edges.ends.items graph.edges.marks.items graph.acceptance a
  tabled = record {
    single = lists_one;
    starts_are = ap (map first_of) (of.product.starts ∙ ap (λ (pairs : List Pair). map (λ pair. pair_number pairs pair ∷ []) (start_pairs one other)) of.pairs_are)
        ∙ firsts_of_singles (pair_number is.pairs) (start_pairs one other) ∙ sym is.starts;
    ends_are = maps_alike Takes (λ (j : Joint). edge_of j.from j.to) ends_of ends_alike joints (edges_of a) of.edges ∙ sym is.edges.ends;
    marks_are = λ number set.
        ap (λ (rows : List (List ℕ)). holds set (slice_index_or rows number [])) is.edges.marks ∙ rows_hold joints (edges_of a) of.edges number set;
    formula_is = of.formula_is;
  }

  -- each edge is usable
  pub label_is : (joint : Joint) (edge : BodyEdge) → Takes joint edge → label_of edge ≡ Some (joined joint.first.plain_edge.label joint.second.plain_edge.label)
  label_is joint edge takes = ap (λ (own : Option LabelTree). option_or own edge.edge.label) takes.no_label ∙ takes.edge_is.label

  pub all_usable : AllAreUsable a
  all_usable number edge at =
      let r = row number edge at in
      let first : LabelTree = r.joint.first.plain_edge.label in
      let second : LabelTree = r.joint.second.plain_edge.label in
      let can = (can_hold_iff (conjunction first second)).0 r.takes.meets in
      subst (λ (label : Option LabelTree). IfSome label IsSatisfiable) (sym (label_is r.joint edge r.takes))
      (can.0, joined_means can.0 first second ∙ can.1)

  -- its names are apart, and its labels have propositions with names
  module _ (automaton : IsAutomaton one) (automaton' : IsAutomaton other) where
    first_low : (number : ℕ) (edge : BodyEdge) (r : Row number edge) (p : ℕ) → Contains (propositions r.joint.first.plain_edge.label) p
        → p < length (joined_names one.propositions other.propositions)
    first_low number edge r p within =
        let none : 0 + edges_before one.defined r.takes.pair.0 ≡ edges_before one.defined r.takes.pair.0 = omega arith in
        let P : ℕ → Type 0 = λ n. Contains (numbered_from n (plain_edges_at (first_view one other) one.defined r.takes.pair.0)) r.joint.first in
        let found = numbered_found (first_view one other) one.defined r.takes.pair.0 0 r.joint.first (subst P (sym none) r.takes.first_in) in
        let kept = edge_kept one automaton found.0 found.1 found.2.at in
        let index : ℕ = index_in one.defined found.0 in
        let Q : LabelTree → Type 0 = λ label. Contains (propositions label) p in
        first_below one.propositions other.propositions (label_at (length one.propositions) found.1.source index found.1.edge)
        (λ q h. label_below one index found.1.source.label found.1.edge.label kept.0.label kept.1.label q h) p
        (subst Q (ap (λ (t : PlainEdge). t.label) found.2.is) within)

    second_low : (number : ℕ) (edge : BodyEdge) (r : Row number edge) (p : ℕ) → Contains (propositions r.joint.second.plain_edge.label) p
        → p < length (joined_names one.propositions other.propositions)
    second_low number edge r p within =
        let none : 0 + edges_before other.defined r.takes.pair.1 ≡ edges_before other.defined r.takes.pair.1 = omega arith in
        let P : ℕ → Type 0 = λ n. Contains (numbered_from n (plain_edges_at (second_view one other) other.defined r.takes.pair.1)) r.joint.second in
        let found = numbered_found (second_view one other) other.defined r.takes.pair.1 0 r.joint.second (subst P (sym none) r.takes.second_in) in
        let kept = edge_kept other automaton' found.0 found.1 found.2.at in
        let index : ℕ = index_in other.defined found.0 in
        let Q : LabelTree → Type 0 = λ label. Contains (propositions label) p in
        second_below one.propositions other.propositions (label_at (length other.propositions) found.1.source index found.1.edge)
        (λ q h. label_below other index found.1.source.label found.1.edge.label kept.0.label kept.1.label q h) p
        (subst Q (ap (λ (t : PlainEdge). t.label) found.2.is) within)

    pub product_named : IsNamed a
    product_named = record {
      apart = (let P : List (List ℕ) → Type 0 = λ names. has_repeat bytes_eq names ≡ false in
          subst P (sym of.product.propositions) (joined_apart one.propositions other.propositions automaton.unlike automaton'.unlike));
      below = λ number edge label at is_label p within.
          let r = row number edge at in
          let first : LabelTree = r.joint.first.plain_edge.label in
          let second : LabelTree = r.joint.second.plain_edge.label in
          let same : label ≡ joined first second = same_some label (joined first second) (sym is_label ∙ label_is r.joint edge r.takes) in
          let P : LabelTree → Type 0 = λ l. Contains (propositions l) p in
          let Q : List (List ℕ) → Type 0 = λ names. p < length names in
          subst Q (sym of.product.propositions) (joined_below first second _ (first_low number edge r) (second_low number edge r) p (subst P same within));
    }
