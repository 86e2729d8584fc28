-- Edges and states that stay, one more at a time.
use Rattle.std.proofs.Common.{◌≡◌, ℕ, zero, suc, ◌+◌, ◌<◌, Bool, true, false, cond, List, [], ◌∷◌, ◌++◌, length, get_or, filter, take, Contains, refl, sym, ap, subst, ◌∙◌, arith}
use Rattle.std.proofs.lemmas.List.{length-take, take_more}
use Rattle.omega_hoa_automaton.specs.declared.edge.Edge.{Edge}
use Rattle.omega_hoa_automaton.specs.declared.state.State.{State}
use Rattle.omega_lang_trim.specs.Trimmed.{edge_kept, edge_stays, edges_kept, state_kept, states_kept, stays}
use Rattle.omega_lang_trim.proofs.Among.{contains_map}

-- what follows a list that may have a first item more
cond_on : {X : Type 0} (b : Bool) (x : X) (xs ys : List X) → cond b (x ∷ (xs ++ ys)) (xs ++ ys) ≡ cond b (x ∷ xs) xs ++ ys
cond_on true x xs ys = refl
cond_on false x xs ys = refl

module _ (kept : List ℕ) (as_written : Bool) (count : ℕ) (state : State) where
  -- an edge more
  abbrev pub own : ℕ → Edge → List Edge
  own index edge = cond (edge_stays kept edge) (edge_kept kept as_written count state index edge ∷ []) []

  edges_on : (index : ℕ) (edges : List Edge) (edge : Edge)
      → edges_kept kept as_written count state index (edges ++ edge ∷ []) ≡ edges_kept kept as_written count state index edges ++ own (index + length edges) edge
  edges_on index [] edge = let e : index ≡ index + 0 = omega arith in ap (λ (i : ℕ). own i edge) e
  edges_on index (x ∷ xs) edge =
      let e : (index + 1) + length xs ≡ index + length (x ∷ xs) = omega arith in
      let rest = edges_on (index + 1) xs edge ∙ ap (λ (i : ℕ). edges_kept kept as_written count state (index + 1) xs ++ own i edge) e in
      ap (λ (list : List Edge). cond (edge_stays kept x) (edge_kept kept as_written count state index x ∷ list) list) rest
      ∙ cond_on (edge_stays kept x) (edge_kept kept as_written count state index x) (edges_kept kept as_written count state (index + 1) xs) (own (index + length (x ∷ xs)) edge)

  pub edges_next : (edges : List Edge) (at : ℕ) (edge : Edge) → at < length edges → edge ≡ get_or edges at edge
      → edges_kept kept as_written count state 0 (take (at + 1) edges) ≡ edges_kept kept as_written count state 0 (take at edges) ++ own at edge
  edges_next edges at edge below here =
      let long : 0 + length (take at edges) ≡ at = omega (arith, length-take at edges, below) in
      ap (edges_kept kept as_written count state 0) (take_more edges at edge below)
      ∙ ap (λ (e : Edge). edges_kept kept as_written count state 0 (take at edges ++ e ∷ [])) (sym here)
      ∙ edges_on 0 (take at edges) edge
      ∙ ap (λ (i : ℕ). edges_kept kept as_written count state 0 (take at edges) ++ own i edge) long

  -- an edge that stays is among those that do
  has_edge : (index : ℕ) (edges : List Edge) (at : ℕ) (edge : Edge) → at < length edges → edge ≡ get_or edges at edge → edge_stays kept edge ≡ true
      → Contains (edges_kept kept as_written count state index edges) (edge_kept kept as_written count state (index + at) edge)
  has_edge index [] at edge below here is = absurd (omega arith)
  has_edge index (x ∷ xs) zero edge below here is =
      let e : index ≡ index + 0 = omega arith in
      let rest : List Edge = edges_kept kept as_written count state (index + 1) xs in
      let stays_here : edge_stays kept x ≡ true = ap (edge_stays kept) (sym here) ∙ is in
      let first : edge_kept kept as_written count state index x ≡ edge_kept kept as_written count state (index + 0) edge =
      ap (λ (y : Edge). edge_kept kept as_written count state index y) (sym here) ∙ ap (λ (i : ℕ). edge_kept kept as_written count state i edge) e in
      subst (λ (b : Bool). Contains (cond b (edge_kept kept as_written count state index x ∷ rest) rest) (edge_kept kept as_written count state (index + 0) edge)) (sym stays_here)
      (0, omega arith, first)
  has_edge index (x ∷ xs) (suc at) edge below here is =
      let e : (index + 1) + at ≡ index + suc at = omega arith in
      let rest = subst (λ (i : ℕ). Contains (edges_kept kept as_written count state (index + 1) xs) (edge_kept kept as_written count state i edge)) e
      (has_edge (index + 1) xs at edge (omega arith) here is) in
      later (edge_stays kept x) (edge_kept kept as_written count state index x) (edges_kept kept as_written count state (index + 1) xs)
      (edge_kept kept as_written count state (index + suc at) edge) rest
    where
      later : {X : Type 0} (b : Bool) (y : X) (ys : List X) (z : X) → Contains ys z → Contains (cond b (y ∷ ys) ys) z
      later true y ys z has = (suc has.0, omega (arith, has.1), has.2)
      later false y ys z has = has

  pub edge_among : (edges : List Edge) (at : ℕ) (edge : Edge) → at < length edges → edge ≡ get_or edges at edge → edge_stays kept edge ≡ true
      → Contains (edges_kept kept as_written count state 0 edges) (edge_kept kept as_written count state at edge)
  edge_among edges at edge below here is =
      let e : 0 + at ≡ at = omega arith in
      subst (λ (i : ℕ). Contains (edges_kept kept as_written count state 0 edges) (edge_kept kept as_written count state i edge)) e (has_edge 0 edges at edge below here is)

  -- what is kept of it alone is kept of all
  pub alone_among : (edges : List Edge) (at : ℕ) (edge : Edge) → at < length edges → edge ≡ get_or edges at edge → (one : Edge) → Contains (own at edge) one
      → Contains (edges_kept kept as_written count state 0 edges) one
  alone_among edges at edge below here one has = go (edge_stays kept edge) refl has
    where
      go : (b : Bool) → edge_stays kept edge ≡ b → Contains (cond b (edge_kept kept as_written count state at edge ∷ []) []) one
          → Contains (edges_kept kept as_written count state 0 edges) one
      go true is (zero, within, same) = subst (Contains (edges_kept kept as_written count state 0 edges)) same (edge_among edges at edge below here is)
      go true is (suc k, within, same) = absurd (omega (arith, within))
      go false is (k, within, same) = absurd (omega (arith, within))

-- what passes a test stays in a list
pub filter_has : {X : Type 0} (p : X → Bool) (xs : List X) (k : ℕ) (x : X) → k < length xs → x ≡ get_or xs k x → p x ≡ true → Contains (filter p xs) x
filter_has p [] k x below here is = absurd (omega arith)
filter_has p (y ∷ ys) zero x below here is =
    subst (λ (b : Bool). Contains (cond b (y ∷ filter p ys) (filter p ys)) x) (sym (ap p (sym here) ∙ is)) (0, omega arith, sym here)
filter_has p (y ∷ ys) (suc k) x below here is = later (p y) (filter_has p ys k x (omega arith) here is)
  where
    later : (b : Bool) → Contains (filter p ys) x → Contains (cond b (y ∷ filter p ys) (filter p ys)) x
    later true has = (suc has.0, omega (arith, has.1), has.2)
    later false has = has

-- a state that stays is among those that do
pub state_among : (kept : List ℕ) (count : ℕ) (states : List State) (k : ℕ) (state : State) → k < length states → state ≡ get_or states k state → stays kept state.number ≡ true
    → Contains (states_kept kept count states) (state_kept kept count state)
state_among kept count states k state below here is =
    contains_map (state_kept kept count) (filter (λ (s : State). stays kept s.number) states) state (filter_has (λ (s : State). stays kept s.number) states k state below here is)
