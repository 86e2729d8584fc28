-- Edges by their numbers, state by state.
use Rattle.std.proofs.Common.{◌≡◌, ℕ, zero, suc, ◌+◌, ◌-◌, ◌<◌, ◌≤◌, nat_lt, if◌then◌else◌, List, [], ◌∷◌, ◌++◌, length, map, drop, get_or, slice_get, Some, refl, sym, ap, ◌∙◌, arith, false}
use Rattle.std.specs.List.{flat_map}
use Rattle.std.proofs.lemmas.Bool.{lt-ltb}
use Rattle.std.proofs.lemmas.List.{length-map}
use Rattle.omega_hoa_automaton.specs.Automaton.{BodyEdge, edges_from}
use Rattle.omega_hoa_automaton.specs.declared.edge.Edge.{Edge}
use Rattle.omega_hoa_automaton.specs.declared.state.State.{State}
use Rattle.omega_lang_runs.specs.Words.{index_in}

-- the edge with this number among `states` is that with the number `following` among `left`
pub record StandsFrom (states : List State) (number : ℕ) (left : List State) (following : ℕ) : Type 0 where
  pub same : slice_get (flat_map edges_from states) number ≡ slice_get (flat_map edges_from left) following
  pub index : index_in states number ≡ index_in left following

-- an element of the first of two lists, and of the second
pub left_part : {X : Type 0} (xs ys : List X) (k : ℕ) → k < length xs → slice_get (xs ++ ys) k ≡ slice_get xs k
left_part [] ys k below = absurd (omega arith)
left_part (x ∷ xs) ys zero below = refl
left_part (x ∷ xs) ys (suc k) below = left_part xs ys k (omega arith)

pub right_part : {X : Type 0} (xs ys : List X) (k : ℕ) → length xs ≤ k → slice_get (xs ++ ys) k ≡ slice_get ys (k - length xs)
right_part [] ys k past = let e : k ≡ k - 0 = omega arith in ap (slice_get ys) e
right_part (x ∷ xs) ys zero past = absurd (omega arith)
right_part (x ∷ xs) ys (suc k) past =
    let e : k - length xs ≡ suc k - length (x ∷ xs) = omega arith in right_part xs ys k (omega arith) ∙ ap (slice_get ys) e

body_at : (state : State) (edges : List Edge) (k : ℕ) (d : Edge) → k < length edges
    → slice_get (map {B = BodyEdge} (λ (e : Edge). record { source = state; edge = e }) edges) k ≡ Some (record { source = state; edge = get_or edges k d })
body_at state [] k d below = absurd (omega arith)
body_at state (x ∷ xs) zero d below = refl
body_at state (x ∷ xs) (suc k) d below = body_at state xs k d (omega arith)

long : (state : State) → length (edges_from state) ≡ length state.edges
long state = length-map state.edges (λ (e : Edge). record { source = state; edge = e })

not_below : (k n : ℕ) → n ≤ k → nat_lt k n ≡ false
not_below k n least = grind arith

-- within the first of the states
pub found_here : (state : State) (left : List State) (states : List State) (number k : ℕ) (d : Edge) → k < length state.edges → StandsFrom states number (state ∷ left) k
    → slice_get (flat_map edges_from states) number ≡ Some (record { source = state; edge = get_or state.edges k d })
found_here state left states number k d below stands =
    stands.same ∙ left_part (edges_from state) (flat_map edges_from left) k (omega (arith, long state, below)) ∙ body_at state state.edges k d below

pub index_here : (state : State) (left : List State) (states : List State) (number k : ℕ) → k < length state.edges → StandsFrom states number (state ∷ left) k → k ≡ index_in states number
index_here state left states number k below stands =
    sym (stands.index ∙ ap (λ b. if b then k else index_in left (k - length state.edges)) (lt-ltb k (length state.edges) below))

-- or after it
pub stands_later : (state : State) (left : List State) (states : List State) (number k : ℕ) → length state.edges ≤ k → StandsFrom states number (state ∷ left) k
    → StandsFrom states number left (k - length state.edges)
stands_later state left states number k past stands =
    let e : k - length (edges_from state) ≡ k - length state.edges = ap (λ n. k - n) (long state) in
    record {
      same = stands.same ∙ right_part (edges_from state) (flat_map edges_from left) k (omega (arith, long state, past)) ∙ ap (slice_get (flat_map edges_from left)) e;
      index = stands.index ∙ ap (λ b. if b then k else index_in left (k - length state.edges)) (not_below k (length state.edges) past);
    }

-- a list from an index on
pub drop_here : {X : Type 0} (xs : List X) (i : ℕ) (x : X) → i < length xs → x ≡ get_or xs i x → drop i xs ≡ x ∷ drop (i + 1) xs
drop_here [] i x below here = absurd (omega arith)
drop_here {X = X} (y ∷ ys) zero x below here = ap (λ (z : X). z ∷ ys) (sym here)
drop_here {X = X} (y ∷ ys) (suc i) x below here =
    let e : suc (i + 1) ≡ suc i + 1 = omega arith in drop_here ys i x (omega arith) here ∙ ap (λ (n : ℕ). x ∷ drop n (y ∷ ys)) e

-- at the state of an index
pub split_at : (states : List State) (i : ℕ) (state : State) (number k : ℕ) → i < length states → state ≡ get_or states i state
    → StandsFrom states number (drop i states) k → StandsFrom states number (state ∷ drop (i + 1) states) k
split_at states i state number k below here stands =
    let e = drop_here states i state below here in
    record {
      same = stands.same ∙ ap (λ (left : List State). slice_get (flat_map edges_from left) k) e;
      index = stands.index ∙ ap (λ (left : List State). index_in left k) e;
    }

-- nothing is left after the last
pub none_left : {X : Type 0} (xs : List X) (i : ℕ) → length xs ≤ i → drop i xs ≡ []
none_left [] zero past = refl
none_left [] (suc i) past = refl
none_left (x ∷ xs) zero past = absurd (omega arith)
none_left (x ∷ xs) (suc i) past = none_left xs i (omega arith)
