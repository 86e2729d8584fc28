-- The range of the edges of each state, state by state.
use Rattle.std.proofs.Common.{◌≡◌, ◌≢◌, ℕ, zero, suc, ◌+◌, ◌-◌, ◌<◌, ◌≤◌, ◌⊎◌, inl, inr, ◌&&◌, Bool, true, false, cond, eqb, List, [], ◌∷◌, ◌++◌, length, map, take, get_or, set, sym, ap, refl, ◌∙◌, subst, arith, add-zero, length-append, replicate, nat_eq}
use Rattle.std.specs.Prelude.{filter}
use Rattle.std.specs.List.{flat_map, list_any, range_with_len}
use Rattle.std.proofs.lemmas.Bool.{cases_eq, eq-eqb, eqb-false, ne_eqb, or_parts}
use Rattle.std.proofs.lemmas.List.{append-nil, get_or-replicate, get_or-set_other, get_or-set_same, length-map}
use Rattle.omega_hoa_automaton.specs.Automaton.{BodyEdge, edges_from, has_repeat}
use Rattle.omega_hoa_automaton.specs.declared.edge.Edge.{Edge}
use Rattle.omega_hoa_automaton.specs.declared.state.State.{State}
use Rattle.omega_lang_runs.proofs.Edges.{flat_more}
use Rattle.omega_empty.specs.EmptinessGame.{is_usable, leaving}
use Rattle.omega_empty.specs.declared.edge_ranges.EdgeRange.{EdgeRange}
use Rattle.omega_empty.specs.private.layout.Ranges.{IsRangeOf, no_range, range_of}

module _ (usable : List Bool) (s : ℕ) where
  -- those that leave a state, of some edges and then of others
  leaving_on : (number : ℕ) (xs ys : List BodyEdge) → leaving usable s number (xs ++ ys) ≡ leaving usable s number xs ++ leaving usable s (number + length xs) ys
  leaving_on number [] ys = ap (λ n. leaving usable s n ys) (sym (add-zero number))
  leaving_on number (x ∷ xs) ys =
      let e : (number + 1) + length xs ≡ number + suc (length xs) = omega arith in
      go (eqb x.source.number s && is_usable usable number)
      (leaving_on (number + 1) xs ys ∙ ap (λ n. leaving usable s (number + 1) xs ++ leaving usable s n ys) e)
    where
      go : (b : Bool) → leaving usable s (number + 1) (xs ++ ys) ≡ leaving usable s (number + 1) xs ++ leaving usable s (number + suc (length xs)) ys
          → cond b (number ∷ leaving usable s (number + 1) (xs ++ ys)) (leaving usable s (number + 1) (xs ++ ys))
          ≡ cond b (number ∷ leaving usable s (number + 1) xs) (leaving usable s (number + 1) xs) ++ leaving usable s (number + suc (length xs)) ys
      go true rest = ap (λ list. number ∷ list) rest
      go false rest = rest

  -- none of another state's edges
  leaving_other : (number : ℕ) (state : State) (edges : List Edge) → eqb state.number s ≡ false
      → leaving usable s number (map (λ edge. record { source = state; edge = edge }) edges) ≡ []
  leaving_other number state [] other = refl
  leaving_other number state (edge ∷ edges) other = rw other (leaving_other (number + 1) state edges other)

  -- all usable ones of its own
  leaving_own : (number : ℕ) (state : State) (edges : List Edge) → eqb state.number s ≡ true
      → leaving usable s number (map (λ edge. record { source = state; edge = edge }) edges) ≡ filter (is_usable usable) (range_with_len number (length edges))
  leaving_own number state [] own = refl
  leaving_own number state (edge ∷ edges) own = rw own (go (is_usable usable number) (leaving_own (number + 1) state edges own))
    where
      go : (b : Bool) → leaving usable s (number + 1) (map (λ edge. record { source = state; edge = edge }) edges) ≡ filter (is_usable usable) (range_with_len (number + 1) (length edges))
          → cond b (number ∷ leaving usable s (number + 1) (map (λ edge. record { source = state; edge = edge }) edges)) (leaving usable s (number + 1) (map (λ edge. record { source = state; edge = edge }) edges))
          ≡ cond b (number ∷ filter (is_usable usable) (range_with_len (number + 1) (length edges))) (filter (is_usable usable) (range_with_len (number + 1) (length edges)))
      go true rest = ap (λ list. number ∷ list) rest
      go false rest = rest

  -- all of them have other numbers
  abbrev Others : List State → Type 0
  Others [] = Unit {0}
  Others (x ∷ xs) = (eqb x.number s ≡ false) × Others xs

  -- states with other numbers leave none
  leaving_none : (number : ℕ) (states : List State) → Others states → leaving usable s number (flat_map edges_from states) ≡ []
  leaving_none number [] others = refl
  leaving_none number (x ∷ xs) others =
      leaving_on number (edges_from x) (flat_map edges_from xs)
      ∙ ap (λ list. list ++ leaving usable s (number + length (edges_from x)) (flat_map edges_from xs)) (leaving_other number x x.edges others.0)
      ∙ leaving_none (number + length (edges_from x)) xs others.1

-- a test that passes nowhere fails at each place
none_passes : (test : ℕ → Bool) (xs : List ℕ) (i : ℕ) → list_any test xs ≡ false → i < length xs → test (get_or xs i 0) ≡ false
none_passes test [] i none below = absurd (omega arith)
none_passes test (x ∷ xs) zero none below = (or_parts (test x) (list_any test xs) none).0
none_passes test (x ∷ xs) (suc i) none below = none_passes test xs i (or_parts (test x) (list_any test xs) none).1 (omega arith)

numbers_at : (states : List State) (i : ℕ) (d : State) → i < length states → get_or (map (λ state. state.number) states) i 0 ≡ (get_or states i d).number
numbers_at [] i d below = absurd (omega arith)
numbers_at (x ∷ xs) zero d below = refl
numbers_at (x ∷ xs) (suc i) d below = numbers_at xs i d (omega arith)

-- the states before one have other numbers, if none repeats
before_others : (usable : List Bool) (states : List State) (index : ℕ) (state : State) → has_repeat nat_eq (map (λ state. state.number) states) ≡ false
    → index < length states → state ≡ get_or states index state → Others usable state.number (take index states)
before_others usable [] index state once below here = absurd (omega arith)
before_others usable (x ∷ xs) zero state once below here = tt
before_others usable (x ∷ xs) (suc index) state once below here =
    let parts = or_parts (list_any (λ later. nat_eq later x.number) (map (λ state. state.number) xs)) (has_repeat nat_eq (map (λ state. state.number) xs)) once in
    let shorter : index < length xs = omega arith in
    let apart : eqb state.number x.number ≡ false =
    ap (λ n. eqb n x.number) (ap (λ st. st.number) here ∙ sym (numbers_at xs index state shorter))
    ∙ none_passes (λ later. nat_eq later x.number) (map (λ state. state.number) xs) index parts.0 (rw length-map shorter) in
    (ne_eqb x.number state.number (λ same. eqb-false state.number x.number apart (sym same)), before_others usable xs index state parts.1 shorter here)

-- as many more as the state has edges
pub length_more : (states : List State) (index : ℕ) (state : State) → index < length states → state ≡ get_or states index state
    → length (flat_map edges_from (take (index + 1) states)) ≡ length (flat_map edges_from (take index states)) + length state.edges
length_more states index state below here =
    ap length (flat_more states index state below here) ∙ length-append (flat_map edges_from (take index states)) (edges_from state)
    ∙ ap (λ n. length (flat_map edges_from (take index states)) + n) (length-map {B = BodyEdge} state.edges (λ (edge : Edge). record { source = state; edge = edge }))

-- no more than there are in all
pub length_within : (states : List State) (index : ℕ) → length (flat_map edges_from (take index states)) ≤ length (flat_map edges_from states)
length_within [] index = take_none index
  where
    take_none : (index : ℕ) → length (flat_map edges_from (take index [])) ≤ 0
    take_none zero = omega arith
    take_none (suc index) = omega arith
length_within (x ∷ xs) zero = omega arith
length_within (x ∷ xs) (suc index) =
    omega (arith, length_within xs index, length-append (edges_from x) (flat_map edges_from (take index xs)), length-append (edges_from x) (flat_map edges_from xs))

-- the ranges of the states so far
abbrev pub AreSoFar : List State → ℕ → List EdgeRange → Type 0
AreSoFar states count ranges = (s : ℕ) → s < count → IsRangeOf (flat_map edges_from states) s (range_of ranges s)

module _ (states : List State) (index : ℕ) (state : State) (ranges : List EdgeRange) (count next : ℕ)
    (below : index < length states) (here : state ≡ get_or states index state)
    (once : has_repeat nat_eq (map (λ state. state.number) states) ≡ false)
    (next_is : next ≡ length (flat_map edges_from (take index states)))
    (entries : length ranges ≡ count) (number : state.number < count)
    (so_far : AreSoFar (take index states) count ranges) where
  abbrev own : EdgeRange
  own = record { first = next; end = next + length state.edges }

  own_range : IsRangeOf (flat_map edges_from (take index states) ++ edges_from state) state.number own
  own_range = record {
    ordered = omega arith;
    within = omega (arith, length-append (flat_map edges_from (take index states)) (edges_from state), length-map {B = BodyEdge} state.edges (λ (edge : Edge). record { source = state; edge = edge }));
    exact = λ usable.
        let start : 0 + length (flat_map edges_from (take index states)) ≡ next = omega arith in
        let long : (next + length state.edges) - next ≡ length state.edges = omega arith in
        leaving_on usable state.number 0 (flat_map edges_from (take index states)) (edges_from state)
        ∙ ap (λ list. list ++ leaving usable state.number (0 + length (flat_map edges_from (take index states))) (edges_from state))
        (leaving_none usable state.number 0 (take index states) (before_others usable states index state once below here))
        ∙ ap (λ n. leaving usable state.number n (edges_from state)) start
        ∙ leaving_own usable state.number next state state.edges (eq-eqb state.number state.number refl)
        ∙ ap (λ n. filter (is_usable usable) (range_with_len next n)) (sym long);
  }

  other_range : (s : ℕ) → s < count → state.number ≢ s → IsRangeOf (flat_map edges_from (take index states) ++ edges_from state) s (range_of ranges s)
  other_range s s_below apart = let old = so_far s s_below in record {
    ordered = old.ordered;
    within = omega (arith, old.within, length-append (flat_map edges_from (take index states)) (edges_from state));
    exact = λ usable.
        leaving_on usable s 0 (flat_map edges_from (take index states)) (edges_from state)
        ∙ ap (λ list. leaving usable s 0 (flat_map edges_from (take index states)) ++ list)
        (leaving_other usable s (0 + length (flat_map edges_from (take index states))) state state.edges (ne_eqb state.number s apart))
        ∙ append-nil (leaving usable s 0 (flat_map edges_from (take index states)))
        ∙ old.exact usable;
  }

  -- one state more
  pub ranges_more : AreSoFar (take (index + 1) states) count (set ranges state.number own)
  ranges_more s s_below =
      let P : List BodyEdge → Type 0 = λ edges. IsRangeOf edges s (range_of (set ranges state.number own) s) in
      subst P (sym (flat_more states index state below here)) (go (cases_eq state.number s))
    where
      go : (state.number ≡ s) ⊎ (state.number ≡ s → ⊥) → IsRangeOf (flat_map edges_from (take index states) ++ edges_from state) s (range_of (set ranges state.number own) s)
      go (inl same) =
          let within : state.number < length ranges = omega arith in
          let Q : ℕ → Type 0 = λ n. IsRangeOf (flat_map edges_from (take index states) ++ edges_from state) n (range_of (set ranges state.number own) n) in
          let R : EdgeRange → Type 0 = λ range. IsRangeOf (flat_map edges_from (take index states) ++ edges_from state) state.number range in
          subst Q same (subst R (sym (get_or-set_same ranges state.number own no_range within)) own_range)
      go (inr apart) =
          let R : EdgeRange → Type 0 = λ range. IsRangeOf (flat_map edges_from (take index states) ++ edges_from state) s range in
          subst R (sym (get_or-set_other ranges state.number s own no_range (λ e. apart (sym e)))) (other_range s s_below apart)

-- no state yet: no edge leaves any
pub ranges_none : (count : ℕ) → AreSoFar [] count (replicate count no_range)
ranges_none count s below =
    let R : EdgeRange → Type 0 = λ range. IsRangeOf [] s range in
    subst R (sym (get_or-replicate count s no_range no_range below)) (record { ordered = omega arith; within = omega arith; exact = λ usable. refl })
