-- The edges of the first automaton that the edges of a product take: where they lead, and what they allow.
use Rattle.std.proofs.Common.{◌≡◌, inl, inr, ℕ, ◌+◌, ◌<◌, Bool, true, false, List, [], ◌∷◌, ◌++◌, length, map, get_or, slice_index_or, Contains, Option, Some, None, sym, ap, subst, ◌∙◌, arith}
use Rattle.omega_hoa_acceptance.specs.Acceptance.{holds}
use Rattle.omega_hoa_label.specs.Label.{LabelTree, conjunction, truth}
use Rattle.omega_hoa_edges.specs.Conjuncts.{joined}
use Rattle.omega_hoa_edges.proofs.Meaning.{joined_means}
use Rattle.omega_hoa_automaton.specs.Automaton.{BodyEdge, Description, IsAutomaton, IsEdge, IsState, edge_at}
use Rattle.omega_hoa_automaton.specs.Branching.{has_universal_branching}
use Rattle.omega_hoa_edges.specs.Labels.{label_at, valuation_label}
use Rattle.omega_lang_runs.specs.Lasso.{IsStart, IsStep, label_of, marks_at}
use Rattle.omega_lang_runs.specs.Words.{Allows, CanBeTaken, index_in}
use Rattle.omega_lang_runs.proofs.Kept.{edge_kept, marks_are}
use Rattle.omega_lang_runs.proofs.SingleTargets.{EntersOne, enters_one}
use Rattle.omega_lang_runs.proofs.Taken.{allows_where_true}
use Rattle.omega_lang_runs.proofs.runs.Words.{held_by}
use Rattle.omega_lang_product.specs.JointEdges.{Numbered, numbered_from}
use Rattle.omega_lang_product.specs.Joining.{joined_names, number_among, places_among}
use Rattle.omega_lang_product.specs.PairGraph.{IsPairGraph}
use Rattle.omega_hoa_automaton.specs.Automaton.{edges_before}
use Rattle.omega_lang_product.specs.Pairs.{Pair, first_view, pair_number, start_pairs, start_state}
use Rattle.omega_lang_product.specs.PlainEdges.{plain_edges_at}
use Rattle.omega_lang_product.specs.declared.graph.PairGraph.{PairGraph}
use Rattle.omega_lang_product.specs.declared.plain_edge.PlainEdge.{PlainEdge}
use Rattle.omega_lang_product.proofs.Membership.{Contains-cases, Contains-here, Contains-nothing, Contains-there}
use Rattle.omega_lang_word_laws.specs.Graphs.{IsGraphOf}
use Rattle.omega_text.specs.NamedWords.{NamedWord}
use Rattle.omega_lang_word_laws.specs.NamedWords.{part_of}
use Rattle.omega_lang_word_laws.proofs.naming.Named.{named_by, part_named}
use Rattle.omega_lang_word_laws.proofs.meeting.Found.{number_below, number_tells}
use Rattle.omega_lang_product.proofs.Holding.{and_both, truth_same}
use Rattle.omega_lang_product.proofs.Valuations.{truth_relabelled}
use Rattle.omega_lang_word_laws.proofs.meeting.Labels.{valuation_true}
use Rattle.omega_lang_word_laws.proofs.meeting.Lists.{flat_map_contains, map_contains}
use Rattle.omega_lang_word_laws.proofs.meeting.Meeting.{first_moved, one_start, usable_of}
use Rattle.omega_lang_word_laws.proofs.meeting.PlainEdges.{IsListedAt, numbered_found}
use Rattle.omega_lang_intersection.specs.private.Named.{IsNamed}
use Rattle.omega_lang_intersection.proofs.Along.{allowed_alike}
use Rattle.omega_lang_intersection.proofs.Formulas.{label_below, named_first}
use Rattle.omega_lang_intersection.proofs.Standing.{Row, first_is, label_is, row}

-- a numbered edge of a row is one of the automaton, by its number
pub numbered_within : (first : ℕ) (ts : List PlainEdge) (x : Numbered) → Contains (numbered_from first ts) x → Contains ts x.plain_edge
numbered_within first [] x within = absurd (Contains-nothing x within)
numbered_within first (t ∷ ts) x within = elim (Contains-cases (record { number = first; plain_edge = t }) x (numbered_from (first + 1) ts) within) [
  | inl here ↦ let P : PlainEdge → Type 0 = λ u. Contains (t ∷ ts) u in subst P (ap (λ (y : Numbered). y.plain_edge) here) (Contains-here t ts)
  | inr later ↦ Contains-there t x.plain_edge ts (numbered_within (first + 1) ts x later)
]

module _ (one other : Description) (automaton : IsAutomaton one) (automaton' : IsAutomaton other)
    (plain : has_universal_branching one ≡ false) (plain' : has_universal_branching other ≡ false)
    (graph : PairGraph) (is : IsPairGraph one other graph) (both : Description) (of : IsGraphOf one other graph is both) (named : IsNamed both) where
  abbrev R : ℕ → BodyEdge → Type 0
  R number edge = Row one other graph is both of number edge

  -- the edge of the first that an edge of the product takes, by number, and the state that it leaves
  abbrev pub first_at : ℕ → ℕ
  first_at number = get_or graph.edges.firsts.items number 0

  abbrev pub left_by : Option BodyEdge → ℕ
  left_by None = 0
  left_by (Some edge) = edge.source.number

  abbrev pub state_at : ℕ → ℕ
  state_at number = left_by (edge_at one (first_at number))

  pub record IsMade (number : ℕ) (joint : BodyEdge) (r : R number joint) : Type 0 where
    pub edge : BodyEdge
    pub listed : IsListedAt (first_view one other) one.defined (first_at number) edge r.joint.first.plain_edge
    pub leaves : edge.source.number ≡ r.takes.pair.0

  pub made : (number : ℕ) (joint : BodyEdge) (r : R number joint) → IsMade number joint r
  made number joint r =
      let none : 0 + edges_before one.defined r.takes.pair.0 ≡ edges_before one.defined r.takes.pair.0 = omega arith in
      let P : ℕ → Type 0 = λ n. Contains (numbered_from n (plain_edges_at (first_view one other) one.defined r.takes.pair.0)) r.joint.first in
      let found = numbered_found (first_view one other) one.defined r.takes.pair.0 0 r.joint.first (subst P (sym none) r.takes.first_in) in
      let zero_more : 0 + found.0 ≡ found.0 = omega arith in
      let here : found.0 ≡ first_at number = sym (first_is one other graph is both of number joint r ∙ found.4 ∙ zero_more) in
      let Q : ℕ → Type 0 = λ n. IsListedAt (first_view one other) one.defined n found.1 r.joint.first.plain_edge in
      record { edge = found.1; listed = subst Q here found.2; leaves = found.3 }

  state_is : (number : ℕ) (joint : BodyEdge) (r : R number joint) → state_at number ≡ r.takes.pair.0
  state_is number joint r = let m = made number joint r in ap left_by m.listed.at ∙ m.leaves

  -- the pair of the edge that follows is the one that both edges lead to
  next_is : (q number q' next q'' : ℕ) (step : IsStep both q number q') (step' : IsStep both q' next q'')
      → (row one other graph is both of next step'.edge step'.numbered).takes.pair
      ≡ ((row one other graph is both of number step.edge step.numbered).joint.first.plain_edge.target, (row one other graph is both of number step.edge step.numbered).joint.second.plain_edge.target)
  next_is q number q' next q'' step step' =
      let j = row one other graph is both of number step.edge step.numbered in
      let k = row one other graph is both of next step'.edge step'.numbered in
      let enters : pair_number is.pairs (j.joint.first.plain_edge.target, j.joint.second.plain_edge.target) ≡ q' =
      head_same _ _ (sym j.takes.edge_is.targets ∙ step.enters) in
      let here : q' ≡ pair_number is.pairs k.takes.pair = sym step'.leaves ∙ k.takes.number in
      number_tells is.pairs k.takes.pair (j.joint.first.plain_edge.target, j.joint.second.plain_edge.target) (number_below is.pairs k.takes.pair k.takes.within) (sym here ∙ sym enters)
    where
      head_same : (x y : ℕ) → x ∷ [] ≡ y ∷ [] → x ≡ y
      head_same x y e = cc

  -- what makes the label of an edge of the product true makes that of the edge that it takes true
  first_true : (number : ℕ) (joint : BodyEdge) (r : R number joint) (held : List ℕ → Bool)
      → Allows both number (label_of joint) (λ p. held (get_or both.propositions p []))
      → Allows one (first_at number) (label_of (made number joint r).edge) (λ p. held (get_or one.propositions p []))
  first_true number joint r held allowed =
      (allows_where_true one (first_at number) (valuation_label index count) (λ values. valuation_true index count values) (label_of m.edge) (λ p. held (get_or one.propositions p []))).1
      (sym (truth_same (λ p. held (get_or names (number_among places p) [])) (λ p. held (get_or one.propositions p [])) label (λ p within.
      ap held (named_first one.propositions other.propositions p (label_below one index m.edge.source.label m.edge.edge.label kept.0.label kept.1.label p within))))
      ∙ sym (truth_relabelled places (λ p. held (get_or names p [])) label)
      ∙ ap (truth (λ p. held (get_or names p []))) (sym (ap (λ (t : PlainEdge). t.label) m.listed.is))
      ∙ (and_both (truth (λ p. held (get_or names p [])) r.joint.first.plain_edge.label) (truth (λ p. held (get_or names p [])) r.joint.second.plain_edge.label) holds).0)
    where
      m : IsMade number joint r
      m = made number joint r

      index : ℕ
      index = index_in one.defined (first_at number)

      count : ℕ
      count = length one.propositions

      names : List (List ℕ)
      names = joined_names one.propositions other.propositions

      places : List ℕ
      places = places_among names one.propositions

      label : LabelTree
      label = label_at count m.edge.source index m.edge.edge

      kept : IsState one m.edge.source × IsEdge one m.edge.edge
      kept = edge_kept one automaton (first_at number) m.edge m.listed.at

      holds : truth (λ p. held (get_or names p [])) (conjunction r.joint.first.plain_edge.label r.joint.second.plain_edge.label) ≡ true
      holds =
          let P : Option LabelTree → Type 0 = λ l. Allows both number l (λ p. held (get_or both.propositions p [])) in
          let Q : List (List ℕ) → Type 0 = λ ns. truth (λ p. held (get_or ns p [])) (joined r.joint.first.plain_edge.label r.joint.second.plain_edge.label) ≡ true in
          sym (joined_means (λ p. held (get_or names p [])) r.joint.first.plain_edge.label r.joint.second.plain_edge.label)
          ∙ subst Q of.product.propositions (subst P (label_is one other graph is both of r.joint joint r.takes) allowed)

  -- so where the one can be taken, the other can
  pub first_taken : (number : ℕ) (word : NamedWord) (i : ℕ) → CanBeTaken both number (part_of both.propositions word i)
      → CanBeTaken one (first_at number) (part_of one.propositions word i)
  first_taken number word i taken =
      let r = row one other graph is both of number taken.edge taken.numbered in
      let m = made number taken.edge r in
      record { edge = m.edge; numbered = m.listed.at; allowed = first_true number taken.edge r (word i) taken.allowed }

  -- the edge that is taken leads from the first state of the one pair to that of the other
  pub first_step : (q number q' next q'' : ℕ) → IsStep both q number q' → IsStep both q' next q'' → IsStep one (state_at number) (first_at number) (state_at next)
  first_step q number q' next q'' step step' = record {
    edge = m.edge;
    numbered = m.listed.at;
    usable = usable_of one (first_at number) (label_of m.edge) (λ p. held (get_or one.propositions p [])) (first_true number step.edge r held allowed);
    leaves = m.leaves ∙ sym (state_is number step.edge r);
    enters = target.enters ∙ ap (λ n. n ∷ []) (ap (λ (targets : List ℕ). slice_index_or targets 0 0) (sym target.enters) ∙ sym (ap (λ (t : PlainEdge). t.target) m.listed.is)
        ∙ sym (ap (λ (p : Pair). p.0) (next_is q number q' next q'' step step')) ∙ sym (state_is next step'.edge r'));
  }
    where
      r : R number step.edge
      r = row one other graph is both of number step.edge step.numbered

      r' : R next step'.edge
      r' = row one other graph is both of next step'.edge step'.numbered

      m : IsMade number step.edge r
      m = made number step.edge r

      target : EntersOne one.states m.edge
      target = enters_one one automaton plain (first_at number) m.edge m.listed.at

      by_number : (held : ℕ → Bool) × Allows both number (label_of step.edge) held
      by_number = held_by both number (label_of step.edge) step.usable

      letters : ℕ → ℕ → Bool
      letters i = by_number.0

      held : List ℕ → Bool
      held = named_by both.propositions letters 0

      allowed : Allows both number (label_of step.edge) (λ p. held (get_or both.propositions p []))
      allowed =
          allowed_alike both named letters (part_of both.propositions (named_by both.propositions letters)) (part_named both.propositions named.apart letters)
          number 0 step.edge step.numbered by_number.1

  -- an edge from a start of the product takes one from a start
  pub first_start : (q number q' : ℕ) → IsStart both q → IsStep both q number q' → IsStart one (state_at number)
  first_start q number q' begins step =
      let r = row one other graph is both of number step.edge step.numbered in
      let P : List (List ℕ) → Type 0 = λ starts. Contains starts (q ∷ []) in
      let starts_are = of.product.starts ∙ ap (λ (pairs : List Pair). map (λ (pair : Pair). pair_number pairs pair ∷ []) (start_pairs one other)) of.pairs_are in
      let start = map_contains (λ (pair : Pair). pair_number is.pairs pair ∷ []) (start_pairs one other) (q ∷ []) (subst P starts_are begins) in
      let here : q ≡ pair_number is.pairs r.takes.pair = sym step.leaves ∙ r.takes.number in
      let same : r.takes.pair ≡ start.0 =
      number_tells is.pairs r.takes.pair start.0 (number_below is.pairs r.takes.pair r.takes.within) (sym here ∙ sym (head_same _ _ start.2)) in
      let s = flat_map_contains (λ (start : List ℕ). map (λ (start' : List ℕ). (start_state start, start_state start')) other.starts) one.starts start.0 start.1 in
      let s' = map_contains (λ (start' : List ℕ). (start_state s.0, start_state start')) other.starts start.0 s.2 in
      let e : (start_state s.0, start_state s'.0) ≡ r.takes.pair = s'.2 ∙ sym same in
      subst (Contains one.starts) (one_start one automaton plain s.0 s.1 ∙ ap (λ (p : Pair). p.0 ∷ []) e ∙ ap (λ n. n ∷ []) (sym (state_is number step.edge r))) s.1
    where
      head_same : (x y : ℕ) → x ∷ [] ≡ y ∷ [] → x ≡ y
      head_same x y e = cc

  -- the marks of an edge that is taken, below the count of sets
  pub first_marks : (q number q' : ℕ) → IsStep both q number q' → (set : ℕ) → set < one.sets
      → holds set (marks_at one (first_at number)) ≡ holds set (marks_at both number)
  first_marks q number q' step set below =
      let r = row one other graph is both of number step.edge step.numbered in
      let m = made number step.edge r in
      let none : 0 + set ≡ set = omega arith in
      ap (holds set) (marks_are one (first_at number) m.edge m.listed.at)
      ∙ first_moved one other both automaton automaton' plain plain' of.product r.takes.pair.0 r.takes.pair.1 r.joint.first.plain_edge r.joint.second.plain_edge step.edge.edge.marks
      (numbered_within (edges_before one.defined r.takes.pair.0) (plain_edges_at (first_view one other) one.defined r.takes.pair.0) r.joint.first r.takes.first_in)
      (numbered_within (edges_before other.defined r.takes.pair.1) _ r.joint.second r.takes.second_in)
      r.takes.edge_is.marks (m.edge.source.marks ++ m.edge.edge.marks) (ap (λ (t : PlainEdge). t.marks) m.listed.is) set below
      ∙ ap (λ n. holds n step.edge.edge.marks) none
      ∙ ap (λ (own : List ℕ). holds set (own ++ step.edge.edge.marks)) (sym r.takes.no_marks)
      ∙ ap (holds set) (sym (marks_are both number step.edge step.numbered))
