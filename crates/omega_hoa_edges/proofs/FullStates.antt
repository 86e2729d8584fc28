-- States that have an edge for each valuation and no labels, and whether a state is one.
use Rattle.std.proofs.Common.{◌≡◌, ◌==◌, ℕ, zero, suc, ◌<◌, ◌≤◌, ◌^◌, Bool, true, false, ◌&&◌, List, [], ◌∷◌, length, slice_get, Option, Some, None, is_none, is_some, refl, sym, ap, ap₂, ◌∙◌, arith, eqb-true, true≢false}
use Rattle.std.proofs.Math.Pow.{pow_mono}
use Rattle.std.specs.List.{list_all}
use Rattle.std.specs.Option.{option_or, unwrap_or}
use Rattle.omega_hoa_label.specs.Label.{LabelTree}
use Rattle.omega_hoa_automaton.specs.declared.edge.Edge.{Edge}
use Rattle.omega_hoa_automaton.specs.declared.state.State.{State}
use Rattle.omega_hoa_edges.specs.Labels.{is_full, label_at, valuation_label}
use Rattle.omega_hoa_edges.proofs.Bits.{and_parts}

all_at : {X : Type 0} (p : X → Bool) (xs : List X) (k : ℕ) (x : X) → list_all p xs ≡ true → slice_get xs k ≡ Some x → p x ≡ true
all_at p [] k x all e = absurd (never e)
  where
    never : None ≡ Some x → ⊥
    never f = cc
all_at p (y ∷ ys) zero x all e = ap p (sym (same e)) ∙ (and_parts (p y) (list_all p ys) all).0
  where
    same : Some y ≡ Some x → y ≡ x
    same f = cc
all_at p (y ∷ ys) (suc k) x all e = all_at p ys k x (and_parts (p y) (list_all p ys) all).1 e

none_is : {X : Type 0} (o : Option X) → is_none o ≡ true → o ≡ None
none_is None e = refl
none_is (Some x) e = absurd (true≢false (sym e))

pub record IsFull (count : ℕ) (state : State) : Type 0 where
  pub plain : state.label ≡ None
  pub bare : list_all (λ (edge : Edge). is_none edge.label) state.edges ≡ true
  pub many : length state.edges ≡ 2 ^ count

pub full_parts : (count : ℕ) (state : State) → is_full count state ≡ true → IsFull count state
full_parts count state full =
    let outer = and_parts (is_none state.label && list_all (λ (edge : Edge). is_none edge.label) state.edges) (length state.edges == 2 ^ count) full in
    let inner = and_parts (is_none state.label) (list_all (λ (edge : Edge). is_none edge.label) state.edges) outer.0 in
    record { plain = none_is state.label inner.0; bare = inner.1; many = eqb-true (length state.edges) (2 ^ count) outer.1 }

-- the label at an index is that of its valuation
pub edge_label : (count : ℕ) (state : State) (k : ℕ) (edge : Edge) → IsFull count state → slice_get state.edges k ≡ Some edge → label_at count state k edge ≡ valuation_label k count
edge_label count state k edge full e =
    ap₂ (λ (a b : Option LabelTree). unwrap_or (option_or a b) (valuation_label k count)) full.plain
    (none_is edge.label (all_at (λ (x : Edge). is_none x.label) state.edges k edge full.bare e))

-- a state that is not full, test by test
and_first : (a b c : Bool) → a ≡ false → false ≡ (a && b && c)
and_first a b c e = ap (λ x. x && b && c) (sym e)

and_second : (a b c : Bool) → b ≡ false → false ≡ (a && b && c)
and_second true b c e = ap (λ x. x && c) (sym e)
and_second false b c e = refl

and_third : (a b c : Bool) → c ≡ false → false ≡ (a && b && c)
and_third true true c e = sym e
and_third true false c e = refl
and_third false b c e = refl

and_last : (a b c : Bool) → a ≡ true → b ≡ true → c ≡ (a && b && c)
and_last true true c e f = refl
and_last true false c e f = absurd (true≢false (sym f))
and_last false b c e f = absurd (true≢false (sym e))

some_is : {X : Type 0} (o : Option X) → is_some o ≡ true → is_none o ≡ false
some_is None e = absurd (true≢false (sym e))
some_is (Some x) e = refl

not_some : {X : Type 0} (o : Option X) → is_some o ≡ false → is_none o ≡ true
not_some None e = refl
not_some (Some x) e = absurd (true≢false e)

other_number : (m n : ℕ) → m < n → (m == n) ≡ false
other_number m n less = grind arith

module _ (count : ℕ) (state : State) where
  pub full_labelled : is_some state.label ≡ true → false ≡ is_full count state
  full_labelled e =
      and_first (is_none state.label) (list_all (λ (edge : Edge). is_none edge.label) state.edges) (length state.edges == 2 ^ count) (some_is state.label e)

  pub full_wide : 64 ≤ count → length state.edges < 2 ^ 64 → false ≡ is_full count state
  full_wide wide few =
      and_third (is_none state.label) (list_all (λ (edge : Edge). is_none edge.label) state.edges) (length state.edges == 2 ^ count)
      (other_number (length state.edges) (2 ^ count) (omega (arith, few, pow_mono wide)))

  pub full_edge : list_all (λ (edge : Edge). is_none edge.label) state.edges ≡ false → false ≡ is_full count state
  full_edge e = and_second (is_none state.label) (list_all (λ (edge : Edge). is_none edge.label) state.edges) (length state.edges == 2 ^ count) e

  pub full_counted : is_some state.label ≡ false → list_all (λ (edge : Edge). is_none edge.label) state.edges ≡ true → (length state.edges == 2 ^ count) ≡ is_full count state
  full_counted e f =
      and_last (is_none state.label) (list_all (λ (edge : Edge). is_none edge.label) state.edges) (length state.edges == 2 ^ count) (not_some state.label e) f
