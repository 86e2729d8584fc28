-- Which states and edges stay, by their numbers and indices.
use Rattle.std.proofs.Common.{◌≡◌, ◌==◌, ℕ, zero, suc, ◌+◌, ◌<◌, Bool, true, false, cond, ◌&&◌, ◌||◌, nat_eq, inl, inr, List, [], ◌∷◌, filter, map, slice_get, Option, Some, None, Contains, refl, sym, ap, subst, ◌∙◌, arith, eqb-true, eq-eqb, true≢false}
use Rattle.std.specs.Prelude.{if◌then◌else◌, is_some}
use Rattle.std.specs.Option.{option_or, unwrap_or}
use Rattle.std.specs.List.{list_all, list_any}
use Rattle.omega_hoa_label.specs.Label.{LabelTree}
use Rattle.omega_hoa_automaton.specs.declared.edge.Edge.{Edge}
use Rattle.omega_hoa_automaton.specs.declared.state.State.{State}
use Rattle.omega_graph.proofs.ClosedWalking.{first_or_later, has_first, has_later}
use Rattle.omega_hoa_edges.specs.AutomatonLabels.{state_among}
use Rattle.omega_hoa_edges.specs.Labels.{label_at, valuation_label}
use Rattle.omega_lang_trim.specs.Trimmed.{edge_kept, edge_stays, edges_kept, keeps_labels, new_number, state_kept, states_kept, stays}
use Rattle.omega_lang_trim.proofs.Among.{place_one}
use Rattle.omega_lang_word_laws.proofs.parting.Numbered.{never_some, same_some}

-- a state stays exactly if its number is among those that do
pub stays_from : (kept : List ℕ) (number : ℕ) → Contains kept number → stays kept number ≡ true
stays_from [] number has = let below : has.0 < 0 = has.1 in absurd (omega arith)
stays_from (x ∷ xs) number has = elim (first_or_later x xs number has) [
  | inl same ↦ or_left (nat_eq number x) (list_any (nat_eq number) xs) (eq-eqb number x (sym same))
  | inr later ↦ or_right (nat_eq number x) (list_any (nat_eq number) xs) (stays_from xs number later)
]
  where
    or_left : (a b : Bool) → a ≡ true → (a || b) ≡ true
    or_left a b is = ap (λ c. c || b) is

    or_right : (a b : Bool) → b ≡ true → (a || b) ≡ true
    or_right true b is = refl
    or_right false b is = is

pub stays_has : (kept : List ℕ) (number : ℕ) → stays kept number ≡ true → Contains kept number
stays_has [] number is = absurd (true≢false (sym is))
stays_has (x ∷ xs) number is = go (nat_eq number x) refl is (λ rest. stays_has xs number rest)
  where
    go : (b : Bool) → nat_eq number x ≡ b → (b || list_any (nat_eq number) xs) ≡ true → (list_any (nat_eq number) xs ≡ true → Contains xs number)
        → Contains (x ∷ xs) number
    go true same rest later = subst (Contains (x ∷ xs)) (sym (eqb-true number x same)) (has_first x xs)
    go false same rest later = has_later x xs number (later rest)

-- the edge with an index among those that stay
pub record IsKeptAt (kept : List ℕ) (as_written : Bool) (count : ℕ) (state : State) (first : ℕ) (edges : List Edge) (index : ℕ) (edge : Edge) : Type 0 where
  pub place : ℕ
  pub there : slice_get (edges_kept kept as_written count state first edges) place ≡ Some (edge_kept kept as_written count state (first + index) edge)
  pub same : list_all (edge_stays kept) edges ≡ true → place ≡ index

module _ (kept : List ℕ) (as_written : Bool) (count : ℕ) (state : State) where
  abbrev rest_kept : ℕ → List Edge → List Edge
  rest_kept first edges = edges_kept kept as_written count state first edges

  abbrev made : ℕ → Edge → Edge
  made index edge = edge_kept kept as_written count state index edge

  and_first : (a b : Bool) → (a && b) ≡ true → a ≡ true
  and_first true b is = refl
  and_first false b is = absurd (true≢false (sym is))

  and_second : (a b : Bool) → (a && b) ≡ true → b ≡ true
  and_second true b is = is
  and_second false b is = absurd (true≢false (sym is))

  -- an edge that stays has a place among them
  pub kept_at : (first : ℕ) (edges : List Edge) (index : ℕ) (edge : Edge) → slice_get edges index ≡ Some edge → edge_stays kept edge ≡ true
      → IsKeptAt kept as_written count state first edges index edge
  kept_at first [] index edge at is = absurd (never_some edge at)
  kept_at first (x ∷ xs) zero edge at is =
      let same : x ≡ edge = same_some x edge at in
      let here : edge_stays kept x ≡ true = ap (edge_stays kept) same ∙ is in
      let e : first ≡ first + 0 = omega arith in
      record {
        place = 0;
        there = ap (λ (b : Bool). slice_get (cond b (made first x ∷ rest_kept (first + 1) xs) (rest_kept (first + 1) xs)) 0) here
            ∙ ap (λ (y : Edge). Some (made first y)) same ∙ ap (λ (i : ℕ). Some (made i edge)) e;
        same = λ all. refl;
      }
  kept_at first (x ∷ xs) (suc index) edge at is =
      let later : IsKeptAt kept as_written count state (first + 1) xs index edge = kept_at (first + 1) xs index edge at is in
      let e : (first + 1) + index ≡ first + suc index = omega arith in
      go (edge_stays kept x) refl later.place (later.there ∙ ap (λ (i : ℕ). Some (made i edge)) e) (λ all. later.same (and_second (edge_stays kept x) (list_all (edge_stays kept) xs) all))
    where
      go : (b : Bool) → edge_stays kept x ≡ b → (place : ℕ) → slice_get (rest_kept (first + 1) xs) place ≡ Some (made (first + suc index) edge)
          → (list_all (edge_stays kept) (x ∷ xs) ≡ true → place ≡ index) → IsKeptAt kept as_written count state first (x ∷ xs) (suc index) edge
      go true b_is place there same = record {
        place = suc place;
        there = ap (λ (b : Bool). slice_get (cond b (made first x ∷ rest_kept (first + 1) xs) (rest_kept (first + 1) xs)) (suc place)) b_is ∙ there;
        same = λ all. ap suc (same all);
      }
      go false b_is place there same = record {
        place = place;
        there = ap (λ (b : Bool). slice_get (cond b (made first x ∷ rest_kept (first + 1) xs) (rest_kept (first + 1) xs)) place) b_is ∙ there;
        same = λ all. absurd (true≢false (sym (and_first (edge_stays kept x) (list_all (edge_stays kept) xs) all) ∙ b_is));
      }

  -- and each of them is an edge that stays
  pub record IsOf (first : ℕ) (edges : List Edge) (place : ℕ) (edge : Edge) : Type 0 where
    pub index : ℕ
    pub old : Edge
    pub at : slice_get edges index ≡ Some old
    pub stays_there : edge_stays kept old ≡ true
    pub is : edge ≡ made (first + index) old
    pub same : list_all (edge_stays kept) edges ≡ true → place ≡ index

  pub kept_of : (first : ℕ) (edges : List Edge) (place : ℕ) (edge : Edge) → slice_get (rest_kept first edges) place ≡ Some edge → IsOf first edges place edge
  kept_of first [] place edge there = absurd (never_some edge there)
  kept_of first (x ∷ xs) place edge there = go (edge_stays kept x) refl place there (λ p at. kept_of (first + 1) xs p edge at)
    where
      later : (b : Bool) → edge_stays kept x ≡ b → (place : ℕ) → IsOf (first + 1) xs place edge → (up : ℕ) → (b ≡ true → up ≡ suc place) → IsOf first (x ∷ xs) up edge
      later b b_is place of up moved =
          let e : (first + 1) + of.index ≡ first + suc of.index = omega arith in
          record {
            index = suc of.index;
            old = of.old;
            at = of.at;
            stays_there = of.stays_there;
            is = of.is ∙ ap (λ (i : ℕ). made i of.old) e;
            same = λ all. moved (sym b_is ∙ and_first (edge_stays kept x) (list_all (edge_stays kept) xs) all)
                ∙ ap suc (of.same (and_second (edge_stays kept x) (list_all (edge_stays kept) xs) all));
          }

      go : (b : Bool) → edge_stays kept x ≡ b → (place : ℕ) → slice_get (cond b (made first x ∷ rest_kept (first + 1) xs) (rest_kept (first + 1) xs)) place ≡ Some edge
          → ((p : ℕ) → slice_get (rest_kept (first + 1) xs) p ≡ Some edge → IsOf (first + 1) xs p edge) → IsOf first (x ∷ xs) place edge
      go true b_is zero at others =
          let e : first ≡ first + 0 = omega arith in
          record {
            index = 0;
            old = x;
            at = refl;
            stays_there = b_is;
            is = sym (same_some (made first x) edge at) ∙ ap (λ (i : ℕ). made i x) e;
            same = λ all. refl;
          }
      go true b_is (suc place) at others = later true b_is place (others place at) (suc place) (λ is. refl)
      go false b_is place at others = later false b_is place (others place at) place (λ is. absurd (true≢false (sym is)))

-- the label of an edge that stays is the one that it had
pub label_same : (kept : List ℕ) (count : ℕ) (state : State) (index place : ℕ) (edge : Edge) → (list_all (edge_stays kept) state.edges ≡ true → place ≡ index)
    → label_at count (state_kept kept count state) place (edge_kept kept (keeps_labels kept state) count state index edge) ≡ label_at count state index edge
label_same kept count state index place edge same = go state.label (list_all (edge_stays kept) state.edges) same
  where
    -- the label as written
    own : (all : Bool) → (all ≡ true → place ≡ index) → (label : Option LabelTree)
        → unwrap_or (option_or None (if all then label else Some (unwrap_or (option_or None label) (valuation_label index count)))) (valuation_label place count)
        ≡ unwrap_or (option_or None label) (valuation_label index count)
    own true same None = ap (λ (i : ℕ). valuation_label i count) (same refl)
    own true same (Some label) = refl
    own false same label = refl

    go : (own_label : Option LabelTree) (all : Bool) → (all ≡ true → place ≡ index)
        → unwrap_or (option_or own_label (if is_some own_label || all then edge.label else Some (unwrap_or (option_or own_label edge.label) (valuation_label index count)))) (valuation_label place count)
        ≡ unwrap_or (option_or own_label edge.label) (valuation_label index count)
    go (Some label) all same = refl
    go None all same = own all same edge.label

-- the states of a list that stay
abbrev others_of : List ℕ → List State → List State
others_of kept xs = filter (λ (s : State). stays kept s.number) xs

-- the state with the new number of a number among a state, if it stays, and others
abbrev found_of : List ℕ → ℕ → State → List State → ℕ → Bool → State
found_of kept count x xs number b =
    state_among (map (state_kept kept count) (cond b (x ∷ others_of kept xs) (others_of kept xs))) (new_number kept number)

-- the state with a new number is the one with the old number
pub state_moved : (kept : List ℕ) (count : ℕ) (states : List State) (number : ℕ) → Contains kept number
    → state_among (states_kept kept count states) (new_number kept number) ≡ state_kept kept count (state_among states number)
state_moved kept count [] number has = refl
state_moved kept count (x ∷ xs) number has = go (x.number == number) refl (stays kept x.number) refl (state_moved kept count xs number has)
  where
    is_here : (b : Bool) → (new_number kept x.number == new_number kept number) ≡ b
        → (if new_number kept x.number == new_number kept number then state_kept kept count x else state_among (map (state_kept kept count) (others_of kept xs)) (new_number kept number))
        ≡ (if b then state_kept kept count x else state_among (map (state_kept kept count) (others_of kept xs)) (new_number kept number))
    is_here b is = ap (λ (c : Bool). if c then state_kept kept count x else state_among (map (state_kept kept count) (others_of kept xs)) (new_number kept number)) is

    not_same : (x.number == number) ≡ false → (new_number kept x.number == new_number kept number) ≡ false
    not_same other = tell (new_number kept x.number == new_number kept number) refl
      where
        tell : (b : Bool) → (new_number kept x.number == new_number kept number) ≡ b → b ≡ false
        tell false is = refl
        tell true is =
            let same : x.number ≡ number = place_one kept number x.number has (eqb-true (new_number kept x.number) (new_number kept number) is) in
            absurd (true≢false (sym (eq-eqb x.number number same) ∙ other))

    go : (b : Bool) → (x.number == number) ≡ b → (s : Bool) → stays kept x.number ≡ s
        → state_among (map (state_kept kept count) (others_of kept xs)) (new_number kept number) ≡ state_kept kept count (state_among xs number)
        → found_of kept count x xs number (stays kept x.number) ≡ state_kept kept count (if x.number == number then x else state_among xs number)
    go true same s s_is rest =
        let is : x.number ≡ number = eqb-true x.number number same in
        ap (found_of kept count x xs number) (stays_from kept x.number (subst (Contains kept) (sym is) has))
        ∙ is_here true (eq-eqb (new_number kept x.number) (new_number kept number) (ap (new_number kept) is))
        ∙ ap (λ (c : Bool). state_kept kept count (if c then x else state_among xs number)) (sym same)
    go false other true s_is rest =
        ap (found_of kept count x xs number) s_is ∙ is_here false (not_same other) ∙ rest ∙ ap (λ (c : Bool). state_kept kept count (if c then x else state_among xs number)) (sym other)
    go false other false s_is rest =
        ap (found_of kept count x xs number) s_is ∙ rest ∙ ap (λ (c : Bool). state_kept kept count (if c then x else state_among xs number)) (sym other)

-- a state with an edge has a new number
pub record HasOld (kept : List ℕ) (number : ℕ) : Type 0 where
  pub old : ℕ
  pub has : Contains kept old
  pub is : new_number kept old ≡ number

pub old_of : (kept : List ℕ) (count : ℕ) (states : List State) (number index : ℕ) (edge : Edge) → slice_get (state_among (states_kept kept count states) number).edges index ≡ Some edge
    → HasOld kept number
old_of kept count [] number index edge at = absurd (never_some edge at)
old_of kept count (x ∷ xs) number index edge at = go (stays kept x.number) refl at (λ there. old_of kept count xs number index edge there)
  where
    here : (b : Bool) → (new_number kept x.number == number) ≡ b → stays kept x.number ≡ true
        → slice_get (if b then state_kept kept count x else state_among (map (state_kept kept count) (others_of kept xs)) number).edges index ≡ Some edge
        → (slice_get (state_among (map (state_kept kept count) (others_of kept xs)) number).edges index ≡ Some edge → HasOld kept number) → HasOld kept number
    here true same is at others = record { old = x.number; has = stays_has kept x.number is; is = eqb-true (new_number kept x.number) number same }
    here false other is at others = others at

    at_first : slice_get (state_among (state_kept kept count x ∷ map (state_kept kept count) (others_of kept xs)) number).edges index ≡ Some edge → (b : Bool)
        → (new_number kept x.number == number) ≡ b
        → slice_get (if b then state_kept kept count x else state_among (map (state_kept kept count) (others_of kept xs)) number).edges index ≡ Some edge
    at_first at b is =
        ap (λ (c : Bool). slice_get (if c then state_kept kept count x else state_among (map (state_kept kept count) (others_of kept xs)) number).edges index) (sym is) ∙ at

    go : (b : Bool) → stays kept x.number ≡ b
        → slice_get (state_among (map (state_kept kept count) (cond b (x ∷ others_of kept xs) (others_of kept xs))) number).edges index ≡ Some edge
        → (slice_get (state_among (map (state_kept kept count) (others_of kept xs)) number).edges index ≡ Some edge → HasOld kept number) → HasOld kept number
    go true is at others = here (new_number kept x.number == number) refl is (at_first at (new_number kept x.number == number) refl) others
    go false is at others = others at
