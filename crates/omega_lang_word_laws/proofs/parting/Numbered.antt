-- The edges of states by their numbers, and the states by theirs.
use Rattle.std.proofs.Common.{◌≡◌, ◌==◌, ℕ, zero, suc, ◌+◌, ◌-◌, ◌<◌, ◌≤◌, ◌⊎◌, inl, inr, Bool, true, false, ◌||◌, nat_eq, nat_lt, if◌then◌else◌, List, [], ◌∷◌, ◌++◌, length, map, slice_get, Option, Some, None, option_map, refl, sym, ap, subst, ◌∙◌, arith, eqb-true, eq-eqb, true≢false}
use Rattle.std.specs.List.{AllZip, flat_map, list_any}
use Rattle.std.proofs.lemmas.Bool.{cases_lt}
use Rattle.std.proofs.lemmas.List.{length-map}
use Rattle.std.proofs.lemmas.Option.{slice_get-map, slice_get_within}
use Rattle.omega_hoa_automaton.specs.Automaton.{BodyEdge, edges_from, has_repeat}
use Rattle.omega_hoa_automaton.specs.declared.edge.Edge.{Edge}
use Rattle.omega_hoa_automaton.specs.declared.state.State.{State}
use Rattle.omega_lang_runs.specs.Words.{index_in}
use Rattle.omega_hoa_edges.specs.AutomatonLabels.{state_among}
use Rattle.omega_hoa_edges.proofs.Full.{any_at}

pub same_some : {X : Type 0} (x y : X) → Some x ≡ Some y → x ≡ y
same_some x y e = cc

pub never_some : {X : Type 0} (x : X) → None ≡ Some x → ⊥
never_some x e = cc

pub get_left : {X : Type 0} (xs ys : List X) (n : ℕ) → n < length xs → slice_get (xs ++ ys) n ≡ slice_get xs n
get_left [] ys n below = absurd (omega arith)
get_left (x ∷ xs) ys zero below = refl
get_left (x ∷ xs) ys (suc n) below = get_left xs ys n (omega arith)

pub get_right : {X : Type 0} (xs ys : List X) (n : ℕ) → length xs ≤ n → slice_get (xs ++ ys) n ≡ slice_get ys (n - length xs)
get_right [] ys n past = let e : n ≡ n - 0 = omega arith in ap (slice_get ys) e
get_right (x ∷ xs) ys zero past = absurd (omega arith)
get_right (x ∷ xs) ys (suc n) past = let e : n - length xs ≡ suc n - suc (length xs) = omega arith in get_right xs ys n (omega arith) ∙ ap (slice_get ys) e

pub zip_left : {A B : Type 0} (R : A → B → Type 0) (xs : List A) (ys : List B) (i : ℕ) (x : A) → AllZip R xs ys → slice_get xs i ≡ Some x
    → (y : B) × ((slice_get ys i ≡ Some y) × R x y)
zip_left R [] ys i x all e = absurd (never_some x e)
zip_left R (a ∷ xs) [] i x all e = absurd all
zip_left R (a ∷ xs) (b ∷ ys) zero x all e = (b, (refl, subst (λ z. R z b) (same_some a x e) all.0))
zip_left R (a ∷ xs) (b ∷ ys) (suc i) x all e = zip_left R xs ys i x all.1 e

pub zip_right : {A B : Type 0} (R : A → B → Type 0) (xs : List A) (ys : List B) (i : ℕ) (y : B) → AllZip R xs ys → slice_get ys i ≡ Some y
    → (x : A) × ((slice_get xs i ≡ Some x) × R x y)
zip_right R [] [] i y all e = absurd (never_some y e)
zip_right R [] (b ∷ ys) i y all e = absurd all
zip_right R (a ∷ xs) [] i y all e = absurd all
zip_right R (a ∷ xs) (b ∷ ys) zero y all e = (a, (refl, subst (λ z. R a z) (same_some b y e) all.0))
zip_right R (a ∷ xs) (b ∷ ys) (suc i) y all e = zip_right R xs ys i y all.1 e

lt_true : (m n : ℕ) → m < n → nat_lt m n ≡ true
lt_true m n less = grind arith

lt_false : (m n : ℕ) → n ≤ m → nat_lt m n ≡ false
lt_false m n past = grind arith

-- the edge of a number is one of a state, at its index
pub record IsFound (states : List State) (number : ℕ) (be : BodyEdge) : Type 0 where
  pub place : ℕ
  pub source_is : slice_get states place ≡ Some be.source
  pub edge_is : slice_get be.source.edges (index_in states number) ≡ Some be.edge

pub edge_found : (states : List State) (number : ℕ) (be : BodyEdge) → slice_get (flat_map edges_from states) number ≡ Some be → IsFound states number be
edge_found [] number be e = absurd (never_some be e)
edge_found (state ∷ states) number be e = go (cases_lt number (length state.edges)) (edge_found states (number - length state.edges) be)
  where
    long : length (edges_from state) ≡ length state.edges
    long = length-map state.edges (λ (edge : Edge). record { source = state; edge = edge })

    here : number < length state.edges → (o : Option Edge) → slice_get state.edges number ≡ o → option_map (λ (edge : Edge). record { source = state; edge = edge }) o ≡ Some be
        → IsFound (state ∷ states) number be
    here below None at some = absurd (never_some be some)
    here below (Some edge) at some =
        subst (IsFound (state ∷ states) number) (same_some (record { source = state; edge = edge }) be some)
        (record {
          place = 0;
          source_is = refl;
          edge_is = ap (λ b. slice_get state.edges (if b then number else index_in states (number - length state.edges))) (lt_true number (length state.edges) below) ∙ at;
        })

    go : (number < length state.edges) ⊎ (length state.edges ≤ number)
        → (slice_get (flat_map edges_from states) (number - length state.edges) ≡ Some be → IsFound states (number - length state.edges) be)
        → IsFound (state ∷ states) number be
    go (inl below) rest =
        here below (slice_get state.edges number) refl
        (sym (slice_get-map (λ (edge : Edge). record { source = state; edge = edge }) state.edges number)
        ∙ sym (get_left (edges_from state) (flat_map edges_from states) number (omega (arith, below, long))) ∙ e)
    go (inr past) rest =
        let found : IsFound states (number - length state.edges) be =
        rest (ap (λ n. slice_get (flat_map edges_from states) (number - n)) (sym long)
        ∙ sym (get_right (edges_from state) (flat_map edges_from states) number (omega (arith, past, long))) ∙ e) in
        record {
          place = suc found.place;
          source_is = found.source_is;
          edge_is = ap (λ b. slice_get be.source.edges (if b then number else index_in states (number - length state.edges))) (lt_false number (length state.edges) past) ∙ found.edge_is;
        }

-- an edge of a state has a number, which determines its index
pub record IsNumbered (states : List State) (state : State) (index : ℕ) (edge : Edge) : Type 0 where
  pub number : ℕ
  pub is : slice_get (flat_map edges_from states) number ≡ Some (record { source = state; edge = edge })
  pub index_is : index_in states number ≡ index

pub edge_numbered : (states : List State) (place : ℕ) (state : State) (index : ℕ) (edge : Edge) → slice_get states place ≡ Some state → slice_get state.edges index ≡ Some edge
    → IsNumbered states state index edge
edge_numbered [] place state index edge e at = absurd (never_some state e)
edge_numbered (first ∷ states) zero state index edge e at =
    let same : first ≡ state = same_some first state e in
    let there : slice_get first.edges index ≡ Some edge = ap (λ (s : State). slice_get s.edges index) same ∙ at in
    let below : index < length first.edges = slice_get_within first.edges index edge there in
    let long : length (edges_from first) ≡ length first.edges = length-map first.edges (λ (edge : Edge). record { source = first; edge = edge }) in
    record {
      number = index;
      is = get_left (edges_from first) (flat_map edges_from states) index (omega (arith, below, long))
          ∙ slice_get-map (λ (edge : Edge). record { source = first; edge = edge }) first.edges index
          ∙ ap (option_map (λ (edge : Edge). record { source = first; edge = edge })) there
          ∙ ap (λ (s : State). Some (record { source = s; edge = edge })) same;
      index_is = ap (λ b. if b then index else index_in states (index - length first.edges)) (lt_true index (length first.edges) below);
    }
edge_numbered (first ∷ states) (suc place) state index edge e at =
    let rest : IsNumbered states state index edge = edge_numbered states place state index edge e at in
    let long : length (edges_from first) ≡ length first.edges = length-map first.edges (λ (edge : Edge). record { source = first; edge = edge }) in
    let less : (length first.edges + rest.number) - length (edges_from first) ≡ rest.number = omega (arith, long) in
    let left : (length first.edges + rest.number) - length first.edges ≡ rest.number = omega arith in
    record {
      number = length first.edges + rest.number;
      is = get_right (edges_from first) (flat_map edges_from states) (length first.edges + rest.number) (omega (arith, long))
          ∙ ap (slice_get (flat_map edges_from states)) less ∙ rest.is;
      index_is = ap (λ b. if b then length first.edges + rest.number else index_in states ((length first.edges + rest.number) - length first.edges))
          (lt_false (length first.edges + rest.number) (length first.edges) (omega arith))
          ∙ ap (index_in states) left ∙ rest.index_is;
    }

or_parts : (a b : Bool) → (a || b) ≡ false → (a ≡ false) × (b ≡ false)
or_parts true b e = absurd (true≢false e)
or_parts false b e = (refl, e)

-- a state is the one of its number, where no two have one
pub state_is : (states : List State) (place : ℕ) (state : State) → has_repeat nat_eq (map (λ (s : State). s.number) states) ≡ false → slice_get states place ≡ Some state
    → state_among states state.number ≡ state
state_is [] place state once e = absurd (never_some state e)
state_is (first ∷ states) zero state once e =
    let same : first ≡ state = same_some first state e in
    ap (λ b. if b then first else state_among states state.number) (eq-eqb first.number state.number (ap (λ (s : State). s.number) same)) ∙ same
state_is (first ∷ states) (suc place) state once e = go (first.number == state.number) refl (state_is states place state parts.1 e)
  where
    parts : (list_any (λ later. nat_eq later first.number) (map (λ (s : State). s.number) states) ≡ false) × (has_repeat nat_eq (map (λ (s : State). s.number) states) ≡ false)
    parts = or_parts (list_any (λ later. nat_eq later first.number) (map (λ (s : State). s.number) states)) (has_repeat nat_eq (map (λ (s : State). s.number) states)) once

    among : slice_get (map (λ (s : State). s.number) states) place ≡ Some state.number
    among = slice_get-map (λ (s : State). s.number) states place ∙ ap (option_map (λ (s : State). s.number)) e

    go : (b : Bool) → (first.number == state.number) ≡ b → state_among states state.number ≡ state
        → (if first.number == state.number then first else state_among states state.number) ≡ state
    go true is rest =
        absurd (true≢false (sym (any_at (λ later. nat_eq later first.number) (map (λ (s : State). s.number) states) place state.number among
        (eq-eqb state.number first.number (sym (eqb-true first.number state.number is)))) ∙ parts.0))
    go false is rest = ap (λ b. if b then first else state_among states state.number) is ∙ rest

-- a state with an edge is one of the states
pub state_there : (states : List State) (number index : ℕ) (edge : Edge) → slice_get (state_among states number).edges index ≡ Some edge
    → (place : ℕ) × (slice_get states place ≡ Some (state_among states number))
state_there [] number index edge e = absurd (never_some edge e)
state_there (first ∷ states) number index edge e = go (first.number == number) refl (state_there states number index edge) e
  where
    go : (b : Bool) → (first.number == number) ≡ b
        → (slice_get (state_among states number).edges index ≡ Some edge → (place : ℕ) × (slice_get states place ≡ Some (state_among states number)))
        → slice_get (if first.number == number then first else state_among states number).edges index ≡ Some edge
        → (place : ℕ) × (slice_get (first ∷ states) place ≡ Some (if first.number == number then first else state_among states number))
    go true is rest at = (0, ap (λ b. Some (if b then first else state_among states number)) (sym is))
    go false is rest at =
        let found = rest (ap (λ b. slice_get (if b then first else state_among states number).edges index) (sym is) ∙ at) in
        (suc found.0, found.1 ∙ ap (λ b. Some (if b then first else state_among states number)) (sym is))
