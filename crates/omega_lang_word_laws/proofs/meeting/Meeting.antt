-- The product of two automata accepts what both accept: a run of it is a run of each, and runs of both are one of it.
use Rattle.std.proofs.Common.{◌≡◌, ℕ, zero, suc, ◌+◌, ◌<◌, inl, inr, Bool, true, false, ◌&&◌, ◌||◌, nat_lt, List, [], ◌∷◌, ◌++◌, length, map, Contains, Option, Some, None, refl, sym, ap, ap₂, subst, ◌∙◌, arith, add-one, true≢false}
use Rattle.std.specs.List.{list_any}
use Rattle.std.specs.Option.{IfSome, option_or}
use Rattle.std.proofs.lemmas.Bool.{lt-ltb}
use Rattle.std.proofs.lemmas.List.Elements.{All-append, All-contains}
use Rattle.omega_hoa_acceptance.specs.Acceptance.{AccTree, holds}
use Rattle.omega_hoa_label.specs.Label.{LabelTree, conjunction, truth}
use Rattle.omega_hoa_edges.specs.Conjuncts.{joined}
use Rattle.omega_hoa_edges.proofs.Meaning.{joined_means}
use Rattle.omega_hoa_satisfiable.specs.Satisfiable.{IsSatisfiable}
use Rattle.omega_hoa_automaton.specs.Automaton.{AreTargets, BodyEdge, Description, IsAutomaton, edge_at, edges_of, sets_of}
use Rattle.omega_hoa_automaton.specs.Meaning.{AreMarksOf}
use Rattle.omega_hoa_automaton.specs.Branching.{has_universal_branching, state_branches}
use Rattle.omega_lang_runs.specs.Lasso.{IsStart, IsStep, label_of, marks_at, marks_of}
use Rattle.omega_lang_runs.specs.Runs.{Satisfies}
use Rattle.omega_lang_runs.specs.Words.{Allows, IsAccepted}
use Rattle.omega_lang_runs.proofs.Flat.{IsListed, contains_flat, listed_flat}
use Rattle.omega_lang_runs.proofs.Kept.{edge_kept, marks_are}
use Rattle.omega_lang_product.specs.Acceptance.{IsJointAcceptance, moved_after}
use Rattle.omega_lang_product.specs.Joining.{number_among, part_of_word}
use Rattle.omega_lang_product.specs.Pairs.{Pair, can_meet, first_view, pair_name, pair_number, partners, second_view, start_pairs, start_state}
use Rattle.omega_lang_product.specs.Product.{IsJointEdge, IsPairState, IsProduct, joint_plain_edges, taken_together}
use Rattle.omega_lang_product.specs.PlainEdges.{View, plain_edges_at}
use Rattle.omega_lang_product.specs.declared.plain_edge.PlainEdge.{PlainEdge}
use Rattle.omega_lang_word_laws.specs.Products.{ProductsMeet}
use Rattle.omega_lang_word_laws.proofs.meeting.Buchi.{both_buchi, buchi_both}
use Rattle.omega_lang_word_laws.proofs.meeting.Conjoined.{both_satisfied, satisfied_both}
use Rattle.omega_lang_word_laws.proofs.meeting.Found.{number_below, number_tells, starts_found, targets_found}
use Rattle.omega_lang_product.proofs.Holding.{and_both, both_and, can_hold_iff}
use Rattle.omega_lang_word_laws.proofs.meeting.Lists.{beside_left, beside_right, contains_at, contains_filter, contains_flat_map, contains_map, filter_contains, flat_map_contains, index_of, map_contains, passes_nowhere, same_some}
use Rattle.omega_lang_word_laws.proofs.meeting.Marks.{first_holds, moved_nowhere, moved_satisfies, satisfies_moved, second_holds}
use Rattle.omega_lang_word_laws.proofs.meeting.PlainEdges.{IsPlainEdge, found_plain_edge, listed_plain_edge}

-- a start of an automaton without branches is one state
one_alone : (start : List ℕ) → 0 < length start → nat_lt 1 (length start) ≡ false → start ≡ start_state start ∷ []
one_alone [] some single = absurd (omega arith)
one_alone (s ∷ []) some single = refl
one_alone (s ∷ t ∷ ts) some single =
    let more : 1 < length (s ∷ t ∷ ts) = omega arith in
    absurd (true≢false (sym (lt-ltb 1 (length (s ∷ t ∷ ts)) more) ∙ single))

or_none : (a b : Bool) → (a || b) ≡ false → a ≡ false
or_none true b e = absurd (true≢false e)
or_none false b e = refl

pub one_start : (a : Description) → IsAutomaton a → has_universal_branching a ≡ false → (start : List ℕ) → Contains a.starts start → start ≡ start_state start ∷ []
one_start a automaton plain start within =
    let listed : 0 < length start = (All-contains (AreTargets a) a.starts start automaton.starts within).listed in
    one_alone start listed
    (passes_nowhere (λ (s : List ℕ). nat_lt 1 (length s)) a.starts start
    (or_none (list_any (λ (s : List ℕ). nat_lt 1 (length s)) a.starts) (list_any state_branches a.defined) plain) within)

-- what is allowed can be
pub usable_of : (a : Description) (number : ℕ) (label : Option LabelTree) (held : ℕ → Bool) → Allows a number label held → IfSome label IsSatisfiable
usable_of a number None held allowed = tt
usable_of a number (Some label) held allowed = (held, allowed)

-- marks that are those of an edge, moved, hold the same
abbrev pub HoldsMoved : ℕ → ℕ → List ℕ → List ℕ → Type 0
HoldsMoved sets before marks all = (set : ℕ) → set < sets → holds set marks ≡ holds (before + set) all

-- an automaton accepts its part of a word by plain edges that lead from a start
module _ (x : Description) (view : View) (counted : length x.propositions ≡ view.count)
    (automaton : IsAutomaton x) (plain : has_universal_branching x ≡ false) (word : ℕ → ℕ → Bool)
    (states : ℕ → ℕ) (t : ℕ → PlainEdge) (all : ℕ → List ℕ)
    (moves : (i : ℕ) → Contains (plain_edges_at view x.defined (states i)) (t i))
    (leads : (i : ℕ) → (t i).target ≡ states (i + 1))
    (true_there : (i : ℕ) → truth (word i) (t i).label ≡ true) where
  found : (i : ℕ) → (number : ℕ) × (edge : BodyEdge) × IsPlainEdge x view number edge (t i) × (edge.source.number ≡ states i)
  found i = found_plain_edge x view counted automaton plain (states i) (t i) (moves i)

  step : (i : ℕ) → IsStep x (states i) (found i).0 (states (i + 1))
  step i =
      let f = found i in
      record {
        edge = f.1;
        numbered = f.2.numbered;
        usable = usable_of x f.0 (label_of f.1) (λ p. word i (number_among view.places p)) ((f.2.label (word i)).0 (true_there i));
        leaves = f.3;
        enters = f.2.target ∙ ap (λ n. n ∷ []) (leads i);
      }

  accepted_by : IsStart x (states 0) → ((i : ℕ) (marks : List ℕ) → (t i).marks ≡ map (λ s. view.before + s) marks → HoldsMoved x.sets view.before marks (all i))
      → Satisfies all (moved_after view.before x.acceptance) → IsAccepted x (part_of_word view.places word)
  accepted_by begins same h = record {
    states = states;
    edges = λ i. (found i).0;
    accepting = record {
      run = record { begins = begins; steps = step };
      accepted = moved_satisfies view.before (λ i. marks_at x (found i).0) all x.acceptance
          (λ set within i.
          (let f = found i in
          ap (holds set) (marks_are x f.0 f.1 f.2.numbered)
          ∙ same i (marks_of f.1) f.2.marks set (All-contains (λ s. s < x.sets) (sets_of x.acceptance) set automaton.sets within)))
          h;
    };
    taken = λ i. (let f = found i in record { edge = f.1; numbered = f.2.numbered; allowed = (f.2.label (word i)).0 (true_there i) });
  }

module _ (one other a : Description) (automaton : IsAutomaton one) (automaton' : IsAutomaton other)
    (plain : has_universal_branching one ≡ false) (plain' : has_universal_branching other ≡ false) (is : IsProduct one other a) where
  abbrev pub firsts : ℕ → List PlainEdge
  firsts s = plain_edges_at (first_view one other) one.defined s

  abbrev pub seconds : ℕ → List PlainEdge
  seconds s = plain_edges_at (second_view one other) other.defined s

  -- an edge of the product, taken apart
  pub record IsJoint (edge : BodyEdge) : Type 0 where
    pub pair : Pair
    pub within : Contains is.pairs pair
    pub here : edge.source.number ≡ pair_number is.pairs pair
    pub first : PlainEdge
    pub first_in : Contains (firsts pair.0) first
    pub second : PlainEdge
    pub second_in : Contains (seconds pair.1) second
    pub meets : can_meet first second ≡ true
    pub edge_is : IsJointEdge (taken_together is.pairs first second) edge.edge
    pub name : edge.source.name ≡ Some (pair_name one other pair)
    pub no_label : edge.source.label ≡ None
    pub no_marks : edge.source.marks ≡ []

  pub joint_of : (number : ℕ) (edge : BodyEdge) → edge_at a number ≡ Some edge → IsJoint edge
  joint_of number edge at =
      let from : IsListed a.defined edge = listed_flat a.defined edge (contains_at (edges_of a) number edge at) in
      let state = beside_right (IsPairState one other is.pairs) is.pairs a.defined is.defined edge.source (from.place, from.below, sym from.here) in
      let joint = beside_right IsJointEdge (joint_plain_edges is.pairs (firsts state.0.0) (seconds state.0.1)) edge.source.edges state.2.edges edge.edge from.contained in
      let first = flat_map_contains (λ (t : PlainEdge). map (taken_together is.pairs t) (partners t (seconds state.0.1))) (firsts state.0.0) joint.0 joint.1 in
      let second = map_contains (taken_together is.pairs first.0) (partners first.0 (seconds state.0.1)) joint.0 first.2 in
      let meet = filter_contains (can_meet first.0) (seconds state.0.1) second.0 second.1 in
      let P : PlainEdge → Type 0 = λ t. IsJointEdge t edge.edge in
      record {
        pair = state.0;
        within = state.1;
        here = state.2.number;
        first = first.0;
        first_in = first.1;
        second = second.0;
        second_in = meet.0;
        meets = meet.1;
        edge_is = subst P (sym second.2) joint.2;
        name = state.2.name;
        no_label = state.2.label;
        no_marks = state.2.marks;
      }

  -- and edges of both put together
  put_together : (pair : Pair) → Contains is.pairs pair → (t u : PlainEdge) → Contains (firsts pair.0) t → Contains (seconds pair.1) u → can_meet t u ≡ true
      → (number : ℕ) × (edge : BodyEdge) × (edge_at a number ≡ Some edge) × (edge.source.number ≡ pair_number is.pairs pair)
      × IsJointEdge (taken_together is.pairs t u) edge.edge × (edge.source.label ≡ None) × (edge.source.marks ≡ [])
  put_together pair within t u t_in u_in meets =
      let state = beside_left (IsPairState one other is.pairs) is.pairs a.defined is.defined pair within in
      let partner : Contains (partners t (seconds pair.1)) u = contains_filter (can_meet t) (seconds pair.1) u u_in meets in
      let joint : Contains (joint_plain_edges is.pairs (firsts pair.0) (seconds pair.1)) (taken_together is.pairs t u) =
      contains_flat_map (λ (t : PlainEdge). map (taken_together is.pairs t) (partners t (seconds pair.1))) (firsts pair.0) t (taken_together is.pairs t u) t_in
      (contains_map (taken_together is.pairs t) (partners t (seconds pair.1)) u partner) in
      let edge = beside_left IsJointEdge (joint_plain_edges is.pairs (firsts pair.0) (seconds pair.1)) state.0.edges state.2.edges (taken_together is.pairs t u) joint in
      let body : BodyEdge = record { source = state.0; edge = edge.0 } in
      let at = index_of (edges_of a) body (contains_flat a.defined state.1.0 state.0 edge.0 state.1.1 (sym state.1.2) edge.1) in
      (at.0, body, at.1, state.2.number, edge.2, state.2.label, state.2.marks)

  -- the pair that both lead to is among the pairs
  pub leads_to : (pair : Pair) → Contains is.pairs pair → (t u : PlainEdge) → Contains (firsts pair.0) t → Contains (seconds pair.1) u → can_meet t u ≡ true
      → Contains is.pairs (t.target, u.target)
  leads_to pair within t u t_in u_in meets =
      targets_found one other is.pairs is.reached pair (t.target, u.target) within
      (contains_flat_map (λ (t : PlainEdge). map (λ (u : PlainEdge). (t.target, u.target)) (partners t (seconds pair.1))) (firsts pair.0) t (t.target, u.target) t_in
      (contains_map (λ (u : PlainEdge). (t.target, u.target)) (partners t (seconds pair.1)) u (contains_filter (can_meet t) (seconds pair.1) u u_in meets)))

  -- marks of edges of the first are below its count of sets
  pub first_low : (s : ℕ) (t : PlainEdge) → Contains (firsts s) t → (marks : List ℕ) × (t.marks ≡ map (λ m. 0 + m) marks) × ((m : ℕ) → Contains marks m → m < one.sets)
  first_low s t within =
      let f = found_plain_edge one (first_view one other) refl automaton plain s t within in
      let kept = edge_kept one automaton f.0 f.1 f.2.numbered in (
        marks_of f.1,
        f.2.marks,
        λ m h. All-contains (λ s. s < one.sets) (marks_of f.1) m
            (All-append (λ s. s < one.sets) f.1.source.marks f.1.edge.marks kept.0.marks.below kept.1.marks.below) h,
      )

  -- the marks of both hold what each does
  pub first_moved : (s s' : ℕ) (t u : PlainEdge) (all : List ℕ) → Contains (firsts s) t → Contains (seconds s') u → AreMarksOf (t.marks ++ u.marks) all
      → (marks : List ℕ) → t.marks ≡ map (λ m. 0 + m) marks → HoldsMoved one.sets 0 marks all
  first_moved s s' t u all t_in u_in are marks e set below =
      let g = found_plain_edge other (second_view one other) refl automaton' plain' s' u u_in in
      first_holds set one.sets marks (marks_of g.1) all below (subst (λ ms. AreMarksOf ms all) (ap₂ ◌++◌ e g.2.marks) are)

  second_moved : (s s' : ℕ) (t u : PlainEdge) (all : List ℕ) → Contains (firsts s) t → Contains (seconds s') u → AreMarksOf (t.marks ++ u.marks) all
      → (marks : List ℕ) → u.marks ≡ map (λ m. one.sets + m) marks → HoldsMoved other.sets one.sets marks all
  second_moved s s' t u all t_in u_in are marks e set below =
      let f = first_low s t t_in in
      second_holds set one.sets f.0 marks all f.2 (subst (λ ms. AreMarksOf ms all) (ap₂ ◌++◌ f.1 e) are)

  head_same : (x y : ℕ) → x ∷ [] ≡ y ∷ [] → x ≡ y
  head_same x y e = cc

  -- the product's own acceptance
  abbrev pub both_accept : (ℕ → List ℕ) → Type 0
  both_accept all = Satisfies all one.acceptance × Satisfies all (moved_after one.sets other.acceptance)

  joint_accepts : (all : ℕ → List ℕ) → both_accept all → IsJointAcceptance one other a.acc_name a.acceptance → Satisfies all a.acceptance
  joint_accepts all both (inl buchi) =
      let P : AccTree → Type 0 = λ f. Satisfies all f in
      subst P (sym buchi.formula_is)
      (both_buchi all one.sets other.sets (subst P buchi.both.first both.0)
      (subst (λ f. Satisfies all (moved_after one.sets f)) buchi.both.second both.1))
  joint_accepts all both (inr conjoined) =
      let P : AccTree → Type 0 = λ f. Satisfies all f in
      subst P (sym conjoined.formula_is) (both_satisfied all one.acceptance (moved_after one.sets other.acceptance) both)

  pub accepts_joint : (all : ℕ → List ℕ) → Satisfies all a.acceptance → IsJointAcceptance one other a.acc_name a.acceptance → both_accept all
  accepts_joint all h (inl buchi) =
      let P : AccTree → Type 0 = λ f. Satisfies all f in
      let both = buchi_both all one.sets other.sets (subst P buchi.formula_is h) in (
        subst P (sym buchi.both.first) both.0,
        subst (λ f. Satisfies all (moved_after one.sets f)) (sym buchi.both.second) both.1,
      )
  accepts_joint all h (inr conjoined) =
      let P : AccTree → Type 0 = λ f. Satisfies all f in
      satisfied_both all one.acceptance (moved_after one.sets other.acceptance) (subst P conjoined.formula_is h)

  module _ (word : ℕ → ℕ → Bool) where
    -- a run of the product, taken apart
    module _ (accepted : IsAccepted a word) where
      apart : (i : ℕ) → IsJoint (accepted.accepting.run.steps i).edge
      apart i = joint_of (accepted.edges i) (accepted.accepting.run.steps i).edge (accepted.accepting.run.steps i).numbered

      number_is : (i : ℕ) → accepted.states i ≡ pair_number is.pairs (apart i).pair
      number_is i = sym (accepted.accepting.run.steps i).leaves ∙ (apart i).here

      next_is : (i : ℕ) → (apart (i + 1)).pair ≡ ((apart i).first.target, (apart i).second.target)
      next_is i =
          let j = apart i in
          let k = apart (i + 1) in
          let enters : pair_number is.pairs (j.first.target, j.second.target) ≡ accepted.states (i + 1) =
          head_same _ _ (sym j.edge_is.targets ∙ (accepted.accepting.run.steps i).enters) in
          number_tells is.pairs k.pair (j.first.target, j.second.target) (number_below is.pairs k.pair k.within) (sym (number_is (i + 1)) ∙ sym enters)

      label_is : (i : ℕ) → label_of (accepted.taken i).edge ≡ Some (joined (apart i).first.label (apart i).second.label)
      label_is i =
          let j = apart i in
          let same : (accepted.taken i).edge ≡ (accepted.accepting.run.steps i).edge =
          same_some _ _ (sym (accepted.taken i).numbered ∙ (accepted.accepting.run.steps i).numbered) in
          ap label_of same ∙ ap₂ option_or j.no_label j.edge_is.label

      labels_true : (i : ℕ) → (truth (word i) (apart i).first.label && truth (word i) (apart i).second.label) ≡ true
      labels_true i =
          let P : Option LabelTree → Type 0 = λ l. Allows a (accepted.edges i) l (word i) in
          sym (joined_means (word i) (apart i).first.label (apart i).second.label) ∙ subst P (label_is i) (accepted.taken i).allowed

      marks_both : (i : ℕ) → marks_at a (accepted.edges i) ≡ (accepted.accepting.run.steps i).edge.edge.marks
      marks_both i =
          marks_are a (accepted.edges i) (accepted.accepting.run.steps i).edge (accepted.accepting.run.steps i).numbered
          ∙ ap (λ ms. ms ++ (accepted.accepting.run.steps i).edge.edge.marks) (apart i).no_marks

      are_both : (i : ℕ) → AreMarksOf ((apart i).first.marks ++ (apart i).second.marks) (marks_at a (accepted.edges i))
      are_both i = subst (AreMarksOf ((apart i).first.marks ++ (apart i).second.marks)) (sym (marks_both i)) (apart i).edge_is.marks

      satisfied : both_accept (λ i. marks_at a (accepted.edges i))
      satisfied = accepts_joint (λ i. marks_at a (accepted.edges i)) accepted.accepting.accepted is.accepted

      -- the pair of the first edge is one of starts
      began : (pair : Pair) × Contains (start_pairs one other) pair × (pair ≡ (apart 0).pair)
      began =
          let P : List (List ℕ) → Type 0 = λ starts. Contains starts (accepted.states 0 ∷ []) in
          let start = map_contains (λ (pair : Pair). pair_number is.pairs pair ∷ []) (start_pairs one other) (accepted.states 0 ∷ [])
          (subst P is.starts accepted.accepting.run.begins) in
          let same : pair_number is.pairs (apart 0).pair ≡ pair_number is.pairs start.0 = sym (number_is 0) ∙ sym (head_same _ _ start.2) in
          (start.0, start.1, sym (number_tells is.pairs (apart 0).pair start.0 (number_below is.pairs (apart 0).pair (apart 0).within) same))

      starts_apart : IsStart one (apart 0).pair.0 × IsStart other (apart 0).pair.1
      starts_apart =
          let b = began in
          let s = flat_map_contains (λ (start : List ℕ). map (λ (start' : List ℕ). (start_state start, start_state start')) other.starts) one.starts b.0 b.1 in
          let s' = map_contains (λ (start' : List ℕ). (start_state s.0, start_state start')) other.starts b.0 s.2 in
          let e : (start_state s.0, start_state s'.0) ≡ (apart 0).pair = s'.2 ∙ b.2 in (
            subst (Contains one.starts) (one_start one automaton plain s.0 s.1 ∙ ap (λ (p : Pair). p.0 ∷ []) e) s.1,
            subst (Contains other.starts) (one_start other automaton' plain' s'.0 s'.1 ∙ ap (λ (p : Pair). p.1 ∷ []) e) s'.1,
          )

      first_accepts : IsAccepted one (part_of_word (first_view one other).places word)
      first_accepts =
          accepted_by one (first_view one other) refl automaton plain word (λ i. (apart i).pair.0) (λ i. (apart i).first) (λ i. marks_at a (accepted.edges i))
          (λ i. (apart i).first_in) (λ i. ap (λ (p : Pair). p.0) (sym (next_is i)))
          (λ i. (and_both _ _ (labels_true i)).0) starts_apart.0
          (λ i. first_moved (apart i).pair.0 (apart i).pair.1 (apart i).first (apart i).second (marks_at a (accepted.edges i)) (apart i).first_in (apart i).second_in (are_both i))
          (let P : AccTree → Type 0 = λ f. Satisfies (λ i. marks_at a (accepted.edges i)) f in subst P (sym (moved_nowhere one.acceptance)) satisfied.0)

      second_accepts : IsAccepted other (part_of_word (second_view one other).places word)
      second_accepts =
          accepted_by other (second_view one other) refl automaton' plain' word (λ i. (apart i).pair.1) (λ i. (apart i).second) (λ i. marks_at a (accepted.edges i))
          (λ i. (apart i).second_in) (λ i. ap (λ (p : Pair). p.1) (sym (next_is i)))
          (λ i. (and_both _ _ (labels_true i)).1) starts_apart.1
          (λ i. second_moved (apart i).pair.0 (apart i).pair.1 (apart i).first (apart i).second (marks_at a (accepted.edges i)) (apart i).first_in (apart i).second_in (are_both i))
          satisfied.1

    -- runs of both, put together
    module _ (accepted : IsAccepted one (part_of_word (first_view one other).places word))
        (accepted' : IsAccepted other (part_of_word (second_view one other).places word)) where
      abbrev first_edge : ℕ → BodyEdge
      first_edge i = (accepted.taken i).edge

      abbrev second_edge : ℕ → BodyEdge
      second_edge i = (accepted'.taken i).edge

      first_at : (i : ℕ) → (t : PlainEdge) × Contains (firsts (first_edge i).source.number) t × IsPlainEdge one (first_view one other) (accepted.edges i) (first_edge i) t
      first_at i = listed_plain_edge one (first_view one other) refl automaton plain (accepted.edges i) (first_edge i) (accepted.taken i).numbered

      second_at : (i : ℕ) → (t : PlainEdge) × Contains (seconds (second_edge i).source.number) t × IsPlainEdge other (second_view one other) (accepted'.edges i) (second_edge i) t
      second_at i = listed_plain_edge other (second_view one other) refl automaton' plain' (accepted'.edges i) (second_edge i) (accepted'.taken i).numbered

      first_same : (i : ℕ) → (accepted.accepting.run.steps i).edge ≡ first_edge i
      first_same i = same_some _ _ (sym (accepted.accepting.run.steps i).numbered ∙ (accepted.taken i).numbered)

      second_same : (i : ℕ) → (accepted'.accepting.run.steps i).edge ≡ second_edge i
      second_same i = same_some _ _ (sym (accepted'.accepting.run.steps i).numbered ∙ (accepted'.taken i).numbered)

      abbrev pair_at : ℕ → Pair
      pair_at i = (accepted.states i, accepted'.states i)

      first_leaves : (i : ℕ) → (first_edge i).source.number ≡ accepted.states i
      first_leaves i = ap (λ (e : BodyEdge). e.source.number) (sym (first_same i)) ∙ (accepted.accepting.run.steps i).leaves

      second_leaves : (i : ℕ) → (second_edge i).source.number ≡ accepted'.states i
      second_leaves i = ap (λ (e : BodyEdge). e.source.number) (sym (second_same i)) ∙ (accepted'.accepting.run.steps i).leaves

      first_in : (i : ℕ) → Contains (firsts (accepted.states i)) (first_at i).0
      first_in i = subst (λ s. Contains (firsts s) (first_at i).0) (first_leaves i) (first_at i).1

      second_in : (i : ℕ) → Contains (seconds (accepted'.states i)) (second_at i).0
      second_in i = subst (λ s. Contains (seconds s) (second_at i).0) (second_leaves i) (second_at i).1

      first_target : (i : ℕ) → (first_at i).0.target ≡ accepted.states (i + 1)
      first_target i =
          head_same _ _ (sym (first_at i).2.target ∙ ap (λ (e : BodyEdge). e.edge.targets) (sym (first_same i)) ∙ (accepted.accepting.run.steps i).enters)

      second_target : (i : ℕ) → (second_at i).0.target ≡ accepted'.states (i + 1)
      second_target i =
          head_same _ _ (sym (second_at i).2.target ∙ ap (λ (e : BodyEdge). e.edge.targets) (sym (second_same i)) ∙ (accepted'.accepting.run.steps i).enters)

      both_true : (i : ℕ) → (truth (word i) (first_at i).0.label && truth (word i) (second_at i).0.label) ≡ true
      both_true i =
          both_and _ _ (((first_at i).2.label (word i)).1 (accepted.taken i).allowed) (((second_at i).2.label (word i)).1 (accepted'.taken i).allowed)

      joined_true : (i : ℕ) → truth (word i) (joined (first_at i).0.label (second_at i).0.label) ≡ true
      joined_true i = joined_means (word i) (first_at i).0.label (second_at i).0.label ∙ both_true i

      meet_at : (i : ℕ) → can_meet (first_at i).0 (second_at i).0 ≡ true
      meet_at i = (can_hold_iff (conjunction (first_at i).0.label (second_at i).0.label)).1 (word i, both_true i)

      target_is : (i : ℕ) → ((first_at i).0.target, (second_at i).0.target) ≡ pair_at (i + 1)
      target_is i = ap₂ (λ (x y : ℕ). (x, y)) (first_target i) (second_target i)

      begins_first : Contains (start_pairs one other) (pair_at 0)
      begins_first =
          contains_flat_map (λ (start : List ℕ). map (λ (start' : List ℕ). (start_state start, start_state start')) other.starts) one.starts (accepted.states 0 ∷ []) (pair_at 0)
          accepted.accepting.run.begins
          (contains_map (λ (start' : List ℕ). (start_state (accepted.states 0 ∷ []), start_state start')) other.starts (accepted'.states 0 ∷ []) accepted'.accepting.run.begins)

      within_at : (i : ℕ) → Contains is.pairs (pair_at i)
      within_at zero = starts_found one other is.pairs is.reached (pair_at 0) begins_first
      within_at (suc i) =
          let P : Pair → Type 0 = λ p. Contains is.pairs p in
          let e : pair_at (i + 1) ≡ pair_at (suc i) = ap pair_at (add-one i) in
          subst P (target_is i ∙ e)
          (leads_to (pair_at i) (within_at i) (first_at i).0 (second_at i).0 (first_in i) (second_in i) (meet_at i))

      put : (i : ℕ) → (number : ℕ) × (edge : BodyEdge) × (edge_at a number ≡ Some edge) × (edge.source.number ≡ pair_number is.pairs (pair_at i))
          × IsJointEdge (taken_together is.pairs (first_at i).0 (second_at i).0) edge.edge × (edge.source.label ≡ None) × (edge.source.marks ≡ [])
      put i = put_together (pair_at i) (within_at i) (first_at i).0 (second_at i).0 (first_in i) (second_in i) (meet_at i)

      put_label : (i : ℕ) → label_of (put i).1 ≡ Some (joined (first_at i).0.label (second_at i).0.label)
      put_label i = ap₂ option_or (put i).5 (put i).4.label

      put_marks : (i : ℕ) → AreMarksOf ((first_at i).0.marks ++ (second_at i).0.marks) (marks_at a (put i).0)
      put_marks i =
          let e : marks_at a (put i).0 ≡ (put i).1.edge.marks =
          marks_are a (put i).0 (put i).1 (put i).2 ∙ ap (λ ms. ms ++ (put i).1.edge.marks) (put i).6 in
          subst (AreMarksOf ((first_at i).0.marks ++ (second_at i).0.marks)) (sym e) (put i).4.marks

      put_step : (i : ℕ) → IsStep a (pair_number is.pairs (pair_at i)) (put i).0 (pair_number is.pairs (pair_at (i + 1)))
      put_step i = record {
        edge = (put i).1;
        numbered = (put i).2;
        usable = (let P : Option LabelTree → Type 0 = λ l. IfSome l IsSatisfiable in subst P (sym (put_label i)) (word i, joined_true i));
        leaves = (put i).3;
        enters = (put i).4.targets ∙ ap (λ p. pair_number is.pairs p ∷ []) (target_is i);
      }

      put_accepted : both_accept (λ i. marks_at a (put i).0)
      put_accepted =
          let first = satisfies_moved 0 (λ i. marks_at one (accepted.edges i)) (λ i. marks_at a (put i).0) one.acceptance
          (λ set within i.
          ap (holds set) (marks_are one (accepted.edges i) (first_edge i) (accepted.taken i).numbered)
          ∙ first_moved (accepted.states i) (accepted'.states i) (first_at i).0 (second_at i).0 (marks_at a (put i).0) (first_in i) (second_in i) (put_marks i)
          (marks_of (first_edge i)) (first_at i).2.marks set (All-contains (λ s. s < one.sets) (sets_of one.acceptance) set automaton.sets within))
          accepted.accepting.accepted in
          let P : AccTree → Type 0 = λ f. Satisfies (λ i. marks_at a (put i).0) f in (
            subst P (moved_nowhere one.acceptance) first,
            satisfies_moved one.sets (λ i. marks_at other (accepted'.edges i)) (λ i. marks_at a (put i).0) other.acceptance
                (λ set within i.
                ap (holds set) (marks_are other (accepted'.edges i) (second_edge i) (accepted'.taken i).numbered)
                ∙ second_moved (accepted.states i) (accepted'.states i) (first_at i).0 (second_at i).0 (marks_at a (put i).0) (first_in i) (second_in i) (put_marks i)
                (marks_of (second_edge i)) (second_at i).2.marks set (All-contains (λ s. s < other.sets) (sets_of other.acceptance) set automaton'.sets within))
                accepted'.accepting.accepted,
          )

      both_accepted : IsAccepted a word
      both_accepted = record {
        states = λ i. pair_number is.pairs (pair_at i);
        edges = λ i. (put i).0;
        accepting = record {
          run = record {
            begins = (let P : List (List ℕ) → Type 0 = λ starts. Contains starts (pair_number is.pairs (pair_at 0) ∷ []) in
                subst P (sym is.starts) (contains_map (λ (pair : Pair). pair_number is.pairs pair ∷ []) (start_pairs one other) (pair_at 0) begins_first));
            steps = put_step;
          };
          accepted = joint_accepts (λ i. marks_at a (put i).0) put_accepted is.accepted;
        };
        taken = λ i. (record {
          edge = (put i).1;
          numbered = (put i).2;
          allowed = (let P : Option LabelTree → Type 0 = λ l. Allows a (put i).0 l (word i) in subst P (sym (put_label i)) (joined_true i));
        });
      }

pub products_meet : ProductsMeet
products_meet one other a word automaton automaton' plain plain' is = (
  λ accepted. (
    first_accepts one other a automaton automaton' plain plain' is word accepted,
    second_accepts one other a automaton automaton' plain plain' is word accepted,
  ),
  λ both. both_accepted one other a automaton automaton' plain plain' is word both.0 both.1,
)
