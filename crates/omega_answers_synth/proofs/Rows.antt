-- The edges of states as rows, each with its state, its index there and the number of the state's first edge. The edges
-- of a winner's states are those of the rows that are kept.
use Rattle.std.proofs.Common.{◌≡◌, ℕ, zero, suc, ◌+◌, ◌-◌, ◌<◌, ◌≤◌, ◌⊎◌, inl, inr, Bool, true, false, ◌&&◌, if◌then◌else◌, nat_lt, List, [], ◌∷◌, ◌++◌, length, map, slice_get, Option, Some, None, refl, sym, ap, ap₂, subst, ◌∙◌, arith}
use Rattle.std.specs.List.{filter, flat_map}
use Rattle.std.proofs.lemmas.Bool.{cases_lt, lt-ltb}
use Rattle.std.proofs.lemmas.List.{map-append}
use Rattle.std.proofs.lemmas.List.Elements.{filter-append}
use Rattle.omega_hoa_label.specs.Label.{LabelTree}
use Rattle.omega_hoa_automaton.specs.Automaton.{BodyEdge, edges_from}
use Rattle.omega_hoa_automaton.specs.declared.edge.Edge.{Edge}
use Rattle.omega_hoa_automaton.specs.declared.state.State.{State}
use Rattle.omega_lang_runs.specs.Words.{index_in}
use Rattle.omega_synth_text.specs.Winner.{kept_edge, kept_edges, kept_state, kept_states}

pub record Row : Type 0 where
  pub first : ℕ
  pub index : ℕ
  pub source : State
  pub edge : Edge

-- the number of the edge
abbrev pub number_of_row : Row → ℕ
number_of_row row = row.first + row.index

-- the edge with its state
abbrev pub body_of : Row → BodyEdge
body_of row = record { source = row.source; edge = row.edge }

-- the rows of a state, of edges from an index on
abbrev pub rows_of : ℕ → State → ℕ → List Edge → List Row
rows_of first state index [] = []
rows_of first state index (edge ∷ edges) = record { first = first; index = index; source = state; edge = edge } ∷ rows_of first state (suc index) edges

-- the rows of states, from the number of an edge on
abbrev pub rows_from : ℕ → List State → List Row
rows_from first [] = []
rows_from first (state ∷ states) = rows_of first state 0 state.edges ++ rows_from (first + length state.edges) states

-- ---- the edges of rows

bodies_of : (first : ℕ) (state : State) (index : ℕ) (edges : List Edge) → map body_of (rows_of first state index edges) ≡ map (λ (edge : Edge). record { source = state; edge = edge }) edges
bodies_of first state index [] = refl
bodies_of first state index (edge ∷ edges) = ap (λ (xs : List BodyEdge). record { source = state; edge = edge } ∷ xs) (bodies_of first state (suc index) edges)

pub bodies : (first : ℕ) (states : List State) → map body_of (rows_from first states) ≡ flat_map edges_from states
bodies first [] = refl
bodies first (state ∷ states) =
    map-append body_of (rows_of first state 0 state.edges) (rows_from (first + length state.edges) states)
    ∙ ap₂ (λ (xs ys : List BodyEdge). xs ++ ys) (bodies_of first state 0 state.edges) (bodies (first + length state.edges) states)

-- ---- their numbers

same_some : {X : Type 0} (x y : X) → Some x ≡ Some y → x ≡ y
same_some x y e = cc

never_some : {X : Type 0} (x : X) → None ≡ Some x → ⊥
never_some x e = cc

get_left : {X : Type 0} (xs ys : List X) (n : ℕ) → n < length xs → slice_get (xs ++ ys) n ≡ slice_get xs n
get_left [] ys n below = absurd (omega arith)
get_left (x ∷ xs) ys zero below = refl
get_left (x ∷ xs) ys (suc n) below = get_left xs ys n (omega arith)

get_right : {X : Type 0} (xs ys : List X) (n : ℕ) → length xs ≤ n → slice_get (xs ++ ys) n ≡ slice_get ys (n - length xs)
get_right [] ys n past = let e : n ≡ n - 0 = omega arith in ap (slice_get ys) e
get_right (x ∷ xs) ys zero past = absurd (omega arith)
get_right (x ∷ xs) ys (suc n) past = let e : n - length xs ≡ suc n - suc (length xs) = omega arith in get_right xs ys n (omega arith) ∙ ap (slice_get ys) e

lt_false : (m n : ℕ) → n ≤ m → nat_lt m n ≡ false
lt_false m n past = grind arith

rows_long : (first : ℕ) (state : State) (index : ℕ) (edges : List Edge) → length (rows_of first state index edges) ≡ length edges
rows_long first state index [] = refl
rows_long first state index (edge ∷ edges) = ap suc (rows_long first state (suc index) edges)

row_at : (first : ℕ) (state : State) (index : ℕ) (edges : List Edge) (k : ℕ) (row : Row) → slice_get (rows_of first state index edges) k ≡ Some row
    → (row.first ≡ first) × (row.index ≡ index + k)
row_at first state index [] k row e = absurd (never_some row e)
row_at first state index (edge ∷ edges) zero row e =
    let same : record { first = first; index = index; source = state; edge = edge } ≡ row = same_some _ row e in
    (sym (ap (λ (r : Row). r.first) same), sym (ap (λ (r : Row). r.index) same) ∙ omega arith)
row_at first state index (edge ∷ edges) (suc k) row e =
    let rest = row_at first state (suc index) edges k row e in (rest.0, omega (arith, rest.1))

-- the row at a place has its number and the index of the edge with this number
pub numbered : (first : ℕ) (states : List State) (k : ℕ) (row : Row) → slice_get (rows_from first states) k ≡ Some row
    → (number_of_row row ≡ first + k) × (row.index ≡ index_in states k)
numbered first [] k row e = absurd (never_some row e)
numbered first (state ∷ states) k row e = go (cases_lt k (length state.edges)) (numbered (first + length state.edges) states (k - length state.edges) row)
  where
    own : List Row
    own = rows_of first state 0 state.edges

    others : List Row
    others = rows_from (first + length state.edges) states

    long : length own ≡ length state.edges
    long = rows_long first state 0 state.edges

    go : (k < length state.edges) ⊎ (length state.edges ≤ k)
        → (slice_get others (k - length state.edges) ≡ Some row
        → (number_of_row row ≡ first + length state.edges + (k - length state.edges)) × (row.index ≡ index_in states (k - length state.edges)))
        → (number_of_row row ≡ first + k) × (row.index ≡ index_in (state ∷ states) k)
    go (inl below) rest =
        let at = row_at first state 0 state.edges k row (sym (get_left own others k (omega (arith, below, long))) ∙ e) in (
          omega (arith, at.0, at.1),
          at.1 ∙ (let z : 0 + k ≡ k = omega arith in z) ∙ sym (ap (λ b. if b then k else index_in states (k - length state.edges)) (lt-ltb k (length state.edges) below)),
        )
    go (inr past) rest =
        let there : slice_get others (k - length state.edges) ≡ Some row =
        ap (λ (n : ℕ). slice_get others (k - n)) (sym long) ∙ sym (get_right own others k (omega (arith, past, long))) ∙ e in
        let at = rest there in (
          omega (arith, at.0, past),
          at.1 ∙ sym (ap (λ b. if b then k else index_in states (k - length state.edges)) (lt_false k (length state.edges) past)),
        )

-- ---- what passes a test

-- an element that passes a test, and its place
abbrev pub PassesAt : {X : Type 0} → (X → Bool) → List X → X → Type 0
PassesAt p xs x = (p x ≡ true) × ((k : ℕ) × (slice_get xs k ≡ Some x))

pub filter_at : {X : Type 0} (p : X → Bool) (xs : List X) (i : ℕ) (x : X) → slice_get (filter p xs) i ≡ Some x → PassesAt p xs x
filter_at p [] i x e = absurd (never_some x e)
filter_at {X} p (y ∷ ys) i x e = go (p y) refl (λ j at. filter_at p ys j x at)
  where
    later : PassesAt p ys x → PassesAt p (y ∷ ys) x
    later rest = (rest.0, (suc rest.1.0, rest.1.1))

    first : (j : ℕ) → p y ≡ true → slice_get (y ∷ filter p ys) j ≡ Some x → ((j : ℕ) → slice_get (filter p ys) j ≡ Some x → PassesAt p ys x) → PassesAt p (y ∷ ys) x
    first zero passes at rest = (subst (λ (z : X). p z ≡ true) (same_some y x at) passes, (0, at))
    first (suc j) passes at rest = later (rest j at)

    go : (b : Bool) → p y ≡ b → ((j : ℕ) → slice_get (filter p ys) j ≡ Some x → PassesAt p ys x) → PassesAt p (y ∷ ys) x
    go true is rest = first i is (sym (ap (λ (b : Bool). slice_get (if b then y ∷ filter p ys else filter p ys) i) is) ∙ e) rest
    go false is rest = later (rest i (sym (ap (λ (b : Bool). slice_get (if b then y ∷ filter p ys else filter p ys) i) is) ∙ e))

pub at_filter : {X : Type 0} (p : X → Bool) (xs : List X) (k : ℕ) (x : X) → slice_get xs k ≡ Some x → p x ≡ true → (i : ℕ) × (slice_get (filter p xs) i ≡ Some x)
at_filter p [] k x e passes = absurd (never_some x e)
at_filter p (y ∷ ys) zero x e passes =
    let is : p y ≡ true = ap p (same_some y x e) ∙ passes in
    (0, ap (λ (b : Bool). slice_get (if b then y ∷ filter p ys else filter p ys) 0) is ∙ e)
at_filter {X} p (y ∷ ys) (suc k) x e passes = go (p y) refl (at_filter p ys k x e passes)
  where
    go : (b : Bool) → p y ≡ b → (i : ℕ) × (slice_get (filter p ys) i ≡ Some x) → (i : ℕ) × (slice_get (filter p (y ∷ ys)) i ≡ Some x)
    go true is rest = (suc rest.0, ap (λ (b : Bool). slice_get (if b then y ∷ filter p ys else filter p ys) (suc rest.0)) is ∙ rest.1)
    go false is rest = (rest.0, ap (λ (b : Bool). slice_get (if b then y ∷ filter p ys else filter p ys) rest.0) is ∙ rest.1)

-- ---- the edges of a winner

module _ (count : ℕ) (kept reached : ℕ → Bool) where
  -- no letters
  abbrev none : ℕ → Option LabelTree
  none state = None

  -- a row is kept: its edge is, and its state is reached
  abbrev pub keeps : Row → Bool
  keeps row = kept (number_of_row row) && reached row.source.number

  -- its edge in the winner
  abbrev pub version : Row → BodyEdge
  version row = record { source = kept_state count kept reached none row.first row.source; edge = kept_edge count reached None row.source row.index row.edge }

  -- edges of a state that is not reached are not kept
  none_kept : (first : ℕ) (state : State) (index : ℕ) (edges : List Edge) → reached state.number ≡ false → filter keeps (rows_of first state index edges) ≡ []
  none_kept first state index [] away = refl
  none_kept first state index (edge ∷ edges) away =
      let row : Row = record { first = first; index = index; source = state; edge = edge } in
      let not : keeps row ≡ false = and_false (kept (first + index)) (reached state.number) away in
      ap (λ (b : Bool). if b then row ∷ filter keeps (rows_of first state (suc index) edges) else filter keeps (rows_of first state (suc index) edges)) not
      ∙ none_kept first state (suc index) edges away
    where
      and_false : (a b : Bool) → b ≡ false → (a && b) ≡ false
      and_false true b e = e
      and_false false b e = refl

  -- edges of a state that is reached
  state_kept : (first : ℕ) (state : State) (index number : ℕ) (edges : List Edge) → reached state.number ≡ true → first + index ≡ number
      → map (λ (edge : Edge). record { source = kept_state count kept reached none first state; edge = edge }) (kept_edges kept (kept_edge count reached None state) index number edges)
      ≡ map version (filter keeps (rows_of first state index edges))
  state_kept first state index number [] there at = refl
  state_kept first state index number (edge ∷ edges) there at =
      go (kept number) refl (state_kept first state (suc index) (suc number) edges there (omega (arith, at)))
    where
      row : Row
      row = record { first = first; index = index; source = state; edge = edge }

      own : List Edge
      own = kept_edges kept (kept_edge count reached None state) (suc index) (suc number) edges

      and_true : (a b : Bool) → b ≡ true → (a && b) ≡ a
      and_true true b e = e
      and_true false b e = refl

      passes : (b : Bool) → kept number ≡ b → keeps row ≡ b
      passes b is = and_true (kept (first + index)) (reached state.number) there ∙ ap kept at ∙ is

      go : (b : Bool) → kept number ≡ b
          → map (λ (edge : Edge). record { source = kept_state count kept reached none first state; edge = edge }) own
          ≡ map version (filter keeps (rows_of first state (suc index) edges))
          → map (λ (edge : Edge). record { source = kept_state count kept reached none first state; edge = edge })
          (kept_edges kept (kept_edge count reached None state) index number (edge ∷ edges))
          ≡ map version (filter keeps (rows_of first state index (edge ∷ edges)))
      go true is rest =
          ap (λ (b : Bool). map (λ (edge : Edge). record { source = kept_state count kept reached none first state; edge = edge })
          (if b then kept_edge count reached None state index edge ∷ own else own)) is
          ∙ ap (λ (xs : List BodyEdge). version row ∷ xs) rest
          ∙ sym (ap (λ (b : Bool). map version (if b then row ∷ filter keeps (rows_of first state (suc index) edges) else filter keeps (rows_of first state (suc index) edges))) (passes true is))
      go false is rest =
          ap (λ (b : Bool). map (λ (edge : Edge). record { source = kept_state count kept reached none first state; edge = edge })
          (if b then kept_edge count reached None state index edge ∷ own else own)) is
          ∙ rest
          ∙ sym (ap (λ (b : Bool). map version (if b then row ∷ filter keeps (rows_of first state (suc index) edges) else filter keeps (rows_of first state (suc index) edges))) (passes false is))

  -- the edges of the winner's states are those of the rows that are kept
  pub winner_edges : (first : ℕ) (states : List State)
      → flat_map edges_from (kept_states (kept_state count kept reached none) reached first states) ≡ map version (filter keeps (rows_from first states))
  winner_edges first [] = refl
  winner_edges first (state ∷ states) = go (reached state.number) refl (winner_edges (first + length state.edges) states)
    where
      own : List Row
      own = rows_of first state 0 state.edges

      others : List Row
      others = rows_from (first + length state.edges) states

      after : List State
      after = kept_states (kept_state count kept reached none) reached (first + length state.edges) states

      split : map version (filter keeps (own ++ others)) ≡ map version (filter keeps own) ++ map version (filter keeps others)
      split = ap (map version) (filter-append keeps own others) ∙ map-append version (filter keeps own) (filter keeps others)

      go : (b : Bool) → reached state.number ≡ b → flat_map edges_from after ≡ map version (filter keeps others)
          → flat_map edges_from (kept_states (kept_state count kept reached none) reached first (state ∷ states)) ≡ map version (filter keeps (own ++ others))
      go true is rest =
          ap (λ (b : Bool). flat_map edges_from (if b then kept_state count kept reached none first state ∷ after else after)) is
          ∙ ap₂ (λ (xs ys : List BodyEdge). xs ++ ys) (state_kept first state 0 first state.edges is (omega arith)) rest
          ∙ sym split
      go false is rest =
          ap (λ (b : Bool). flat_map edges_from (if b then kept_state count kept reached none first state ∷ after else after)) is
          ∙ rest
          ∙ sym (split ∙ ap (λ (xs : List Row). map version xs ++ map version (filter keeps others)) (none_kept first state 0 state.edges is))
