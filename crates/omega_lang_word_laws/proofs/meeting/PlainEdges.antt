-- The plain edges of an automaton within a product are its edges.
use Rattle.std.proofs.Common.{◌≡◌, ◌==◌, ◌↔◌, ℕ, zero, suc, ◌+◌, ◌-◌, ◌<◌, ◌≤◌, ◌⊎◌, inl, inr, Bool, true, false, ◌||◌, if◌then◌else◌, nat_eq, nat_lt, List, [], ◌∷◌, ◌++◌, length, map, slice_get, Contains, Option, Some, refl, sym, ap, ap₂, subst, ◌∙◌, arith, eqb-true, eq-eqb, true≢false}
use Rattle.std.specs.Prelude.{option_map, slice_index_or}
use Rattle.std.specs.List.{flat_map}
use Rattle.std.specs.Option.{unwrap_or}
use Rattle.std.proofs.lemmas.Bool.{cases_lt, lt-ltb}
use Rattle.std.proofs.lemmas.List.{length-map}
use Rattle.std.proofs.lemmas.Option.{slice_get-map, slice_get_within}
use Rattle.omega_hoa_label.specs.Label.{LabelTree, truth}
use Rattle.omega_hoa_automaton.specs.Automaton.{BodyEdge, Description, IsAutomaton, edge_at, edges_from, has_repeat}
use Rattle.omega_hoa_automaton.specs.declared.edge.Edge.{Edge}
use Rattle.omega_hoa_automaton.specs.declared.state.State.{State}
use Rattle.omega_lang_product.proofs.Membership.{Contains-cases, Contains-here, Contains-nothing, Contains-there}
use Rattle.omega_hoa_automaton.specs.Branching.{has_universal_branching}
use Rattle.omega_lang_runs.specs.Lasso.{label_of, marks_of}
use Rattle.omega_lang_runs.specs.Laws.{IsIndexLabel}
use Rattle.omega_lang_runs.specs.Words.{Allows, IsValuation, index_in}
use Rattle.omega_lang_runs.proofs.Taken.{allows_where_true}
use Rattle.omega_lang_runs.proofs.Flat.{IsListed, listed_flat}
use Rattle.omega_lang_runs.proofs.SingleTargets.{EntersOne, enters_one}
use Rattle.omega_lang_product.specs.Joining.{number_among, relabelled}
use Rattle.omega_lang_product.specs.JointEdges.{Numbered, numbered_from}
use Rattle.omega_hoa_automaton.specs.Automaton.{edges_before}
use Rattle.omega_lang_product.specs.PlainEdges.{View, plain_edge_of, plain_edges_at, plain_edges_from}
use Rattle.omega_hoa_edges.specs.Labels.{valuation_label}
use Rattle.omega_lang_product.specs.declared.plain_edge.PlainEdge.{PlainEdge}
use Rattle.omega_lang_product.proofs.Valuations.{truth_relabelled}
use Rattle.omega_lang_word_laws.proofs.meeting.Labels.{valuation_true}
use Rattle.omega_lang_word_laws.proofs.meeting.Lists.{at_left, at_right, contains_at, contains_map, passes_nowhere, same_some}

module _ (view : View) where
  -- edges of a state at their indices
  from_contains : (state : State) (first : ℕ) (edges : List Edge) (t : PlainEdge) → Contains (plain_edges_from view state first edges) t
      → (k : ℕ) × (edge : Edge) × (slice_get edges k ≡ Some edge) × (t ≡ plain_edge_of view state (first + k) edge)
  from_contains state first [] t within = absurd (Contains-nothing t within)
  from_contains state first (edge ∷ edges) t within =
      elim (Contains-cases (plain_edge_of view state first edge) t (plain_edges_from view state (first + 1) edges) within) [
        | inl here ↦
            let e : first ≡ first + 0 = omega arith in
            (0, edge, refl, sym here ∙ ap (λ i. plain_edge_of view state i edge) e)
        | inr later ↦
            let rest = from_contains state (first + 1) edges t later in
            let e : (first + 1) + rest.0 ≡ first + suc rest.0 = omega arith in
            (suc rest.0, rest.1, rest.2, rest.3 ∙ ap (λ i. plain_edge_of view state i rest.1) e)
      ]

  contains_from : (state : State) (first k : ℕ) (edges : List Edge) (edge : Edge) → slice_get edges k ≡ Some edge
      → Contains (plain_edges_from view state first edges) (plain_edge_of view state (first + k) edge)
  contains_from state first zero [] edge at = absurd (none at)
    where
      none : slice_get {X = Edge} [] zero ≡ Some edge → ⊥
      none e = cc
  contains_from state first (suc k) [] edge at = absurd (none at)
    where
      none : slice_get {X = Edge} [] (suc k) ≡ Some edge → ⊥
      none e = cc
  contains_from state first zero (x ∷ edges) edge at =
      let e : first ≡ first + 0 = omega arith in
      let P : PlainEdge → Type 0 = λ t. Contains (plain_edges_from view state first (x ∷ edges)) t in
      subst P (ap (plain_edge_of view state first) (same_some x edge at) ∙ ap (λ i. plain_edge_of view state i edge) e)
      (Contains-here (plain_edge_of view state first x) (plain_edges_from view state (first + 1) edges))
  contains_from state first (suc k) (x ∷ edges) edge at =
      let e : (first + 1) + k ≡ first + suc k = omega arith in
      let P : PlainEdge → Type 0 = λ t. Contains (plain_edges_from view state first (x ∷ edges)) t in
      subst P (ap (λ i. plain_edge_of view state i edge) e)
      (Contains-there (plain_edge_of view state first x) (plain_edge_of view state ((first + 1) + k) edge) (plain_edges_from view state (first + 1) edges)
      (contains_from state (first + 1) k edges edge at))

  -- an edge of the body at a number, and its plain edge
  pub record IsListedAt (states : List State) (number : ℕ) (edge : BodyEdge) (t : PlainEdge) : Type 0 where
    pub at : slice_get (flat_map edges_from states) number ≡ Some edge
    pub is : t ≡ plain_edge_of view edge.source (index_in states number) edge.edge

  -- the index of an edge within the first state, and after it
  index_first : (state : State) (states : List State) (k : ℕ) → k < length state.edges → index_in (state ∷ states) k ≡ k
  index_first state states k below = ap (λ b. if b then k else index_in states (k - length state.edges)) (lt-ltb k (length state.edges) below)

  not_below : (n k : ℕ) → nat_lt (n + k) n ≡ false
  not_below n k = grind arith

  index_later : (state : State) (states : List State) (k : ℕ) → index_in (state ∷ states) (length state.edges + k) ≡ index_in states k
  index_later state states k =
      let e : (length state.edges + k) - length state.edges ≡ k = omega arith in
      ap (λ b. if b then length state.edges + k else index_in states ((length state.edges + k) - length state.edges)) (not_below (length state.edges) k)
      ∙ ap (index_in states) e

  -- each plain edge is that of an edge
  pub found_at : (states : List State) (s : ℕ) (t : PlainEdge) → Contains (plain_edges_at view states s) t
      → (number : ℕ) × (edge : BodyEdge) × IsListedAt states number edge t × (edge.source.number ≡ s)
  found_at [] s t within = absurd (Contains-nothing t within)
  found_at (state ∷ states) s t within = go (state.number == s) refl within (λ h. found_at states s t h)
    where
      first : state.number ≡ s → (k : ℕ) × (edge : Edge) × (slice_get state.edges k ≡ Some edge) × (t ≡ plain_edge_of view state (0 + k) edge)
          → (number : ℕ) × (edge : BodyEdge) × IsListedAt (state ∷ states) number edge t × (edge.source.number ≡ s)
      first same (k, edge, at, is) =
          let body : BodyEdge = record { source = state; edge = edge } in
          let mapped : slice_get (edges_from state) k ≡ Some body =
          slice_get-map (λ (e : Edge). record { source = state; edge = e }) state.edges k ∙ ap (option_map (λ (e : Edge). record { source = state; edge = e })) at in
          let e : 0 + k ≡ k = omega arith in
          let index : 0 + k ≡ index_in (state ∷ states) k = e ∙ sym (index_first state states k (slice_get_within state.edges k edge at)) in (
            k,
            body,
            record { at = at_left (edges_from state) (flat_map edges_from states) k body mapped; is = is ∙ ap (λ i. plain_edge_of view state i edge) index },
            same,
          )

      later : (number : ℕ) × (edge : BodyEdge) × IsListedAt states number edge t × (edge.source.number ≡ s)
          → (number : ℕ) × (edge : BodyEdge) × IsListedAt (state ∷ states) number edge t × (edge.source.number ≡ s)
      later (number, edge, listed, same) =
          let long : length (edges_from state) ≡ length state.edges = length-map state.edges (λ (e : Edge). record { source = state; edge = e }) in
          let e : length state.edges + number ≡ length (edges_from state) + number = omega (arith, long) in (
            length state.edges + number,
            edge,
            record {
              at = ap (slice_get (edges_from state ++ flat_map edges_from states)) e
                  ∙ at_right (edges_from state) (flat_map edges_from states) number ∙ listed.at;
              is = listed.is ∙ ap (λ i. plain_edge_of view edge.source i edge.edge) (sym (index_later state states number));
            },
            same,
          )

      go : (b : Bool) → (state.number == s) ≡ b
          → Contains (if b then plain_edges_from view state 0 state.edges else plain_edges_at view states s) t
          → (Contains (plain_edges_at view states s) t → (number : ℕ) × (edge : BodyEdge) × IsListedAt states number edge t × (edge.source.number ≡ s))
          → (number : ℕ) × (edge : BodyEdge) × IsListedAt (state ∷ states) number edge t × (edge.source.number ≡ s)
      go true e h rest = first (eqb-true state.number s e) (from_contains state 0 state.edges t h)
      go false e h rest = later (rest h)

  -- so is each numbered one, and its number is that of the edge
  numbered_contains : (state : State) (first n : ℕ) (edges : List Edge) (x : Numbered) → Contains (numbered_from n (plain_edges_from view state first edges)) x
      → (k : ℕ) × (edge : Edge) × (slice_get edges k ≡ Some edge) × (x ≡ record { number = n + k; plain_edge = plain_edge_of view state (first + k) edge })
  numbered_contains state first n [] x within = absurd (Contains-nothing x within)
  numbered_contains state first n (edge ∷ edges) x within =
      elim (Contains-cases (record { number = n; plain_edge = plain_edge_of view state first edge }) x (numbered_from (n + 1) (plain_edges_from view state (first + 1) edges)) within) [
        | inl here ↦
            let e : first ≡ first + 0 = omega arith in
            let e' : n ≡ n + 0 = omega arith in
            (0, edge, refl, sym here ∙ ap₂ {C = Numbered} (λ (m i : ℕ). record { number = m; plain_edge = plain_edge_of view state i edge }) e' e)
        | inr later ↦
            let rest = numbered_contains state (first + 1) (n + 1) edges x later in
            let e : (first + 1) + rest.0 ≡ first + suc rest.0 = omega arith in
            let e' : (n + 1) + rest.0 ≡ n + suc rest.0 = omega arith in
            (suc rest.0, rest.1, rest.2, rest.3 ∙ ap₂ {C = Numbered} (λ (m i : ℕ). record { number = m; plain_edge = plain_edge_of view state i rest.1 }) e' e)
      ]

  pub numbered_found : (states : List State) (s before : ℕ) (x : Numbered) → Contains (numbered_from (before + edges_before states s) (plain_edges_at view states s)) x
      → (k : ℕ) × (edge : BodyEdge) × IsListedAt states k edge x.plain_edge × (edge.source.number ≡ s) × (x.number ≡ before + k)
  numbered_found [] s before x within = absurd (Contains-nothing x within)
  numbered_found (state ∷ states) s before x within =
      go (state.number == s) refl within (λ h. numbered_found states s (before + length state.edges) x h)
    where
      Found : List State → ℕ → Type 0
      Found among from = (k : ℕ) × (edge : BodyEdge) × IsListedAt among k edge x.plain_edge × (edge.source.number ≡ s) × (x.number ≡ from + k)

      first : state.number ≡ s
          → (k : ℕ) × (edge : Edge) × (slice_get state.edges k ≡ Some edge) × (x ≡ record { number = (before + 0) + k; plain_edge = plain_edge_of view state (0 + k) edge })
          → Found (state ∷ states) before
      first same (k, edge, at, is) =
          let body : BodyEdge = record { source = state; edge = edge } in
          let mapped : slice_get (edges_from state) k ≡ Some body =
          slice_get-map (λ (e : Edge). record { source = state; edge = e }) state.edges k ∙ ap (option_map (λ (e : Edge). record { source = state; edge = e })) at in
          let e : 0 + k ≡ k = omega arith in
          let n : (before + 0) + k ≡ before + k = omega arith in
          let index : 0 + k ≡ index_in (state ∷ states) k = e ∙ sym (index_first state states k (slice_get_within state.edges k edge at)) in (
            k,
            body,
            record {
              at = at_left (edges_from state) (flat_map edges_from states) k body mapped;
              is = ap (λ (y : Numbered). y.plain_edge) is ∙ ap (λ i. plain_edge_of view state i edge) index;
            },
            same,
            ap (λ (y : Numbered). y.number) is ∙ n,
          )

      later : Found states (before + length state.edges) → Found (state ∷ states) before
      later (number, edge, listed, same, is) =
          let long : length (edges_from state) ≡ length state.edges = length-map state.edges (λ (e : Edge). record { source = state; edge = e }) in
          let e : length state.edges + number ≡ length (edges_from state) + number = omega (arith, long) in
          let n : (before + length state.edges) + number ≡ before + (length state.edges + number) = omega arith in (
            length state.edges + number,
            edge,
            record {
              at = ap (slice_get (edges_from state ++ flat_map edges_from states)) e
                  ∙ at_right (edges_from state) (flat_map edges_from states) number ∙ listed.at;
              is = listed.is ∙ ap (λ i. plain_edge_of view edge.source i edge.edge) (sym (index_later state states number));
            },
            same,
            is ∙ n,
          )

      go : (b : Bool) → (state.number == s) ≡ b
          → Contains (numbered_from (before + (if b then 0 else length state.edges + edges_before states s))
          (if b then plain_edges_from view state 0 state.edges else plain_edges_at view states s)) x
          → (Contains (numbered_from ((before + length state.edges) + edges_before states s) (plain_edges_at view states s)) x → Found states (before + length state.edges))
          → Found (state ∷ states) before
      go true e h rest = first (eqb-true state.number s e) (numbered_contains state 0 (before + 0) state.edges x h)
      go false e h rest =
          let sum : before + (length state.edges + edges_before states s) ≡ (before + length state.edges) + edges_before states s = omega arith in
          let P : ℕ → Type 0 = λ n. Contains (numbered_from n (plain_edges_at view states s)) x in
          later (rest (subst P sum h))

  -- an edge that is mapped
  mapped_from : (state : State) (edges : List Edge) (k : ℕ) (edge : BodyEdge)
      → slice_get (map {B = BodyEdge} (λ (e : Edge). record { source = state; edge = e }) edges) k ≡ Some edge
      → (slice_get edges k ≡ Some edge.edge) × (state ≡ edge.source)
  mapped_from state [] zero edge at = absurd (none at)
    where
      none : slice_get {X = BodyEdge} [] zero ≡ Some edge → ⊥
      none e = cc
  mapped_from state [] (suc k) edge at = absurd (none at)
    where
      none : slice_get {X = BodyEdge} [] (suc k) ≡ Some edge → ⊥
      none e = cc
  mapped_from state (x ∷ edges) zero edge at =
      let same : record { source = state; edge = x } ≡ edge = same_some (record { source = state; edge = x }) edge at in
      (ap (λ (e : BodyEdge). Some e.edge) same, ap (λ (e : BodyEdge). e.source) same)
  mapped_from state (x ∷ edges) (suc k) edge at = mapped_from state edges k edge at

  left_part : {X : Type 0} (xs ys : List X) (k : ℕ) → k < length xs → slice_get (xs ++ ys) k ≡ slice_get xs k
  left_part [] ys k below = absurd (omega arith)
  left_part (x ∷ xs) ys zero below = refl
  left_part (x ∷ xs) ys (suc k) below = left_part xs ys k (omega arith)

  or_none : (a b : Bool) → (a || b) ≡ false → (a ≡ false) × (b ≡ false)
  or_none true b e = absurd (true≢false e)
  or_none false b e = (refl, e)

  apart : (m n : ℕ) → nat_eq n m ≡ false → (m == n) ≡ false
  apart m n e = go (m == n) refl
    where
      go : (b : Bool) → (m == n) ≡ b → b ≡ false
      go true same = absurd (true≢false (sym (eq-eqb n m (sym (eqb-true m n same))) ∙ e))
      go false same = refl

  -- and each edge has one
  listed_at : (states : List State) → has_repeat nat_eq (map (λ (state : State). state.number) states) ≡ false → (number : ℕ) (edge : BodyEdge)
      → slice_get (flat_map edges_from states) number ≡ Some edge
      → Contains (plain_edges_at view states edge.source.number) (plain_edge_of view edge.source (index_in states number) edge.edge)
  listed_at [] once zero edge at = absurd (none at)
    where
      none : slice_get {X = BodyEdge} [] zero ≡ Some edge → ⊥
      none e = cc
  listed_at [] once (suc k) edge at = absurd (none at)
    where
      none : slice_get {X = BodyEdge} [] (suc k) ≡ Some edge → ⊥
      none e = cc
  listed_at (state ∷ states) once number edge at =
      go (cases_lt number (length state.edges)) (λ k h. listed_at states (or_none _ _ once).1 k edge h)
    where
      long : length (edges_from state) ≡ length state.edges
      long = length-map state.edges (λ (e : Edge). record { source = state; edge = e })

      target : Type 0
      target = Contains (plain_edges_at view (state ∷ states) edge.source.number) (plain_edge_of view edge.source (index_in (state ∷ states) number) edge.edge)

      here : number < length state.edges → (slice_get state.edges number ≡ Some edge.edge) × (state ≡ edge.source)
          → Contains (plain_edges_at view (state ∷ states) edge.source.number) (plain_edge_of view edge.source (index_in (state ∷ states) number) edge.edge)
      here below (inside, same) =
          let b : (state.number == edge.source.number) ≡ true = eq-eqb state.number edge.source.number (ap (λ (s : State). s.number) same) in
          let e : 0 + number ≡ index_in (state ∷ states) number = (let z : 0 + number ≡ number = omega arith in z ∙ sym (index_first state states number below)) in
          let P : Bool → Type 0 = λ c. Contains (if c then plain_edges_from view state 0 state.edges else plain_edges_at view states edge.source.number)
          (plain_edge_of view edge.source (index_in (state ∷ states) number) edge.edge) in
          let Q : PlainEdge → Type 0 = λ t. Contains (plain_edges_from view state 0 state.edges) t in
          subst P (sym b)
          (subst Q (ap (λ i. plain_edge_of view state i edge.edge) e ∙ ap (λ s. plain_edge_of view s (index_in (state ∷ states) number) edge.edge) same)
          (contains_from state 0 number state.edges edge.edge inside))

      there : (k : ℕ) → length state.edges + k ≡ number
          → (slice_get (flat_map edges_from states) k ≡ Some edge)
          → Contains (plain_edges_at view states edge.source.number) (plain_edge_of view edge.source (index_in states k) edge.edge)
          → Contains (plain_edges_at view (state ∷ states) edge.source.number) (plain_edge_of view edge.source (index_in (state ∷ states) number) edge.edge)
      there k sum inside rest =
          let from : IsListed states edge = listed_flat states edge (contains_at (flat_map edges_from states) k edge inside) in
          let among : Contains states edge.source = (from.place, from.below, sym from.here) in
          let differs : nat_eq edge.source.number state.number ≡ false =
          passes_nowhere (λ later. nat_eq later state.number) (map (λ (s : State). s.number) states) edge.source.number (or_none _ _ once).0
          (contains_map (λ (s : State). s.number) states edge.source among) in
          let b : (state.number == edge.source.number) ≡ false = apart state.number edge.source.number differs in
          let e : index_in states k ≡ index_in (state ∷ states) number = sym (index_later state states k) ∙ ap (index_in (state ∷ states)) sum in
          let P : Bool → Type 0 = λ c. Contains (if c then plain_edges_from view state 0 state.edges else plain_edges_at view states edge.source.number)
          (plain_edge_of view edge.source (index_in (state ∷ states) number) edge.edge) in
          let Q : ℕ → Type 0 = λ i. Contains (plain_edges_at view states edge.source.number) (plain_edge_of view edge.source i edge.edge) in
          subst P (sym b) (subst Q e rest)

      go : (number < length state.edges) ⊎ (length state.edges ≤ number)
          → ((k : ℕ) → slice_get (flat_map edges_from states) k ≡ Some edge
          → Contains (plain_edges_at view states edge.source.number) (plain_edge_of view edge.source (index_in states k) edge.edge))
          → Contains (plain_edges_at view (state ∷ states) edge.source.number) (plain_edge_of view edge.source (index_in (state ∷ states) number) edge.edge)
      go (inl below) rest =
          here below (mapped_from state state.edges number edge (sym (left_part (edges_from state) (flat_map edges_from states) number (omega (arith, long))) ∙ at))
      go (inr past) rest =
          let k : ℕ = number - length state.edges in
          let sum : length state.edges + k ≡ number = omega arith in
          let sum' : length (edges_from state) + k ≡ number = omega (arith, long) in
          let inside : slice_get (flat_map edges_from states) k ≡ Some edge =
          sym (at_right (edges_from state) (flat_map edges_from states) k) ∙ ap (slice_get (edges_from state ++ flat_map edges_from states)) sum' ∙ at in
          there k sum inside (rest k inside)

-- a plain edge of an automaton within a product is that of an edge
pub record IsPlainEdge (a : Description) (view : View) (number : ℕ) (edge : BodyEdge) (t : PlainEdge) : Type 0 where
  pub numbered : edge_at a number ≡ Some edge
  pub target : edge.edge.targets ≡ t.target ∷ []
  pub marks : t.marks ≡ map (λ set. view.before + set) (marks_of edge)
  pub label : (held : ℕ → Bool) → (truth held t.label ≡ true) ↔ Allows a number (label_of edge) (λ p. held (number_among view.places p))

module _ (a : Description) (view : View) (counted : length a.propositions ≡ view.count) where
  -- the label of a valuation is one of its index
  is_index_label : (number : ℕ) → IsIndexLabel a number (valuation_label (index_in a.defined number) view.count)
  is_index_label number held =
      let index : ℕ = index_in a.defined number in
      subst (λ (count : ℕ). (truth held (valuation_label index view.count) ≡ true) ↔ IsValuation count index held) (sym counted)
      (valuation_true index view.count held)

  -- its label is true where the edge allows it
  label_allows : (number : ℕ) (held : ℕ → Bool) (label : Option LabelTree)
      → (truth held (relabelled view.places (unwrap_or label (valuation_label (index_in a.defined number) view.count))) ≡ true)
      ↔ Allows a number label (λ p. held (number_among view.places p))
  label_allows number held label =
      let index_label : LabelTree = valuation_label (index_in a.defined number) view.count in
      let e = truth_relabelled view.places held (unwrap_or label index_label) in
      let allowed = allows_where_true a number index_label (is_index_label number) label (λ p. held (number_among view.places p)) in
      (λ t. allowed.1 (sym e ∙ t), λ t. e ∙ allowed.0 t)

  module _ (automaton : IsAutomaton a) (plain : has_universal_branching a ≡ false) where
    plain_edge_is : (number : ℕ) (edge : BodyEdge) → edge_at a number ≡ Some edge
        → IsPlainEdge a view number edge (plain_edge_of view edge.source (index_in a.defined number) edge.edge)
    plain_edge_is number edge at =
        let enters : EntersOne a.states edge = enters_one a automaton plain number edge at in
        record {
          numbered = at;
          target = enters.enters ∙ ap (λ targets. slice_index_or targets 0 0 ∷ []) (sym enters.enters);
          marks = refl;
          label = λ held. label_allows number held (label_of edge);
        }

    -- each plain edge is that of an edge
    pub found_plain_edge : (s : ℕ) (t : PlainEdge) → Contains (plain_edges_at view a.defined s) t
        → (number : ℕ) × (edge : BodyEdge) × IsPlainEdge a view number edge t × (edge.source.number ≡ s)
    found_plain_edge s t within =
        let found = found_at view a.defined s t within in
        let P : PlainEdge → Type 0 = λ u. IsPlainEdge a view found.0 found.1 u in
        (found.0, found.1, subst P (sym found.2.is) (plain_edge_is found.0 found.1 found.2.at), found.3)

    -- and each edge has one
    pub listed_plain_edge : (number : ℕ) (edge : BodyEdge) → edge_at a number ≡ Some edge
        → (t : PlainEdge) × Contains (plain_edges_at view a.defined edge.source.number) t × IsPlainEdge a view number edge t
    listed_plain_edge number edge at = (
      plain_edge_of view edge.source (index_in a.defined number) edge.edge,
      listed_at view a.defined automaton.once number edge at,
      plain_edge_is number edge at,
    )
