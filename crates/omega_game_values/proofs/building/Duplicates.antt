-- Identifiers that are specified twice or never, and faults of rearranged specifications.
use Rattle.std.proofs.Common.{◌≡◌, ℕ, zero, suc, ◌+◌, ◌<◌, ◌≤◌, ◌==◌, ◌&&◌, ◌||◌, Bool, true, false, not, cond, inl, inr, Some, None, List, [], ◌∷◌, length, map, get_or, refl, sym, ◌∙◌, ap, subst, arith}
use Rattle.std.proofs.Math.Path.{fun_ext}
use Rattle.std.specs.Prelude.{count_by, nat_lt, is_some}
use Rattle.std.specs.List.{list_all, list_any, position, position_or_len}
use Rattle.std.specs.List.Sorted.{IsNonDecreasing, IsPermutation, IsStrictlyIncreasing}
use Rattle.std.proofs.lemmas.Bool.{cases_lt, eqb-true, ne_eqb, eq-eqb, lt-ltb, le-ltb}
use Rattle.std.proofs.lemmas.List.{get_or-map, length-map}
use Rattle.std.proofs.lemmas.List.Folds.{list_any_none, list_any_at}
use Rattle.std.proofs.lemmas.List.Sums.{sum_by-cons}
use Rattle.std.proofs.lemmas.List.Sorted.{length_permutation, sum_by-IsPermutation, list_any-IsPermutation}
use Rattle.omega_game_values.specs.declared.node_spec.NodeSpec.{NodeSpec}
use Rattle.omega_game_values.specs.Building.{game_fault_of, has_duplicate, has_undefined, listed_successors, specified_times}
use Rattle.omega_game_values.specs.private.layout.Collected.{ids_of}
use Rattle.omega_game_values.specs.private.layout.Resolving.{is_defined}
use Rattle.omega_game_values.proofs.building.Resolutions.{rises_by}

-- rearranged specifications specify each identifier as often
specified_times-permutation : (specs others : List NodeSpec) → IsPermutation specs others → (id : ℕ) → specified_times others id ≡ specified_times specs id
specified_times-permutation specs others moved id = sum_by-IsPermutation (λ (spec : NodeSpec). cond (spec.id == id) 1 0) specs others moved

-- rearranged specifications have the same fault
pub fault_of-permutation : (specs others : List NodeSpec) → IsPermutation specs others → game_fault_of others ≡ game_fault_of specs
fault_of-permutation specs others moved =
    let times : specified_times others ≡ specified_times specs = fun_ext (specified_times-permutation specs others moved) in
    let twice : has_duplicate others ≡ has_duplicate specs =
    ap (λ (count : ℕ → ℕ). list_any (λ (spec : NodeSpec). nat_lt 1 (count spec.id)) others) times
    ∙ sym (list_any-IsPermutation (λ (spec : NodeSpec). nat_lt 1 (specified_times specs spec.id)) specs others moved) in
    let missing : has_undefined others ≡ has_undefined specs =
    ap (λ (count : ℕ → ℕ). list_any (λ (spec : NodeSpec). list_any (λ successor. count successor == 0) spec.successors) others) times
    ∙ sym (list_any-IsPermutation (λ (spec : NodeSpec). list_any (λ successor. specified_times specs successor == 0) spec.successors) specs others moved) in
    let size : length others ≡ length specs = length_permutation specs others moved in
    let edges : listed_successors others ≡ listed_successors specs = sum_by-IsPermutation (λ (spec : NodeSpec). length spec.successors) specs others moved in
    rw (twice, missing, size, edges) refl

-- how often an identifier is specified is how often it stands among the identifiers
pub specified_times-ids : (specs : List NodeSpec) (id : ℕ) → specified_times specs id ≡ count_by (λ x. x == id) (ids_of specs)
specified_times-ids [] id = refl
specified_times-ids (spec ∷ specs) id =
    sum_by-cons (λ (s : NodeSpec). cond (s.id == id) 1 0) spec specs
    ∙ ap (λ n. cond (spec.id == id) 1 0 + n) (specified_times-ids specs id)
    ∙ sym (sum_by-cons (λ x. cond (x == id) 1 0) spec.id (ids_of specs))

-- 1 for a test that passes
abbrev indicator : Bool → ℕ
indicator b = cond b 1 0

-- what none equals is counted never
pub count_none : (id : ℕ) (ids : List ℕ) → ((k : ℕ) → k < length ids → get_or ids k 0 ≡ id → ⊥) → count_by (λ x. x == id) ids ≡ 0
count_none id [] none = refl
count_none id (x ∷ ids) none =
    sum_by-cons (λ y. cond (y == id) 1 0) x ids
    ∙ ap (λ b. indicator b + count_by (λ y. y == id) ids) (ne_eqb x id (none 0 (omega arith)))
    ∙ omega (arith, count_none id ids (λ k h e. none (suc k) (omega arith) e))

-- rising identifiers are each there once
count_rising : (ids : List ℕ) → IsStrictlyIncreasing ids → (id : ℕ) → count_by (λ x. x == id) ids ≤ 1
count_rising [] rises id = omega arith
count_rising (x ∷ ids) rises id = go (count_rising ids rest id) (x == id) refl
  where
    rest : IsStrictlyIncreasing ids
    rest k h = let e : suc k + 1 ≡ suc (k + 1) = omega arith in subst (λ (m : ℕ). get_or ids k 0 < get_or (x ∷ ids) m 0) e (rises (suc k) (omega arith))

    split : count_by (λ y. y == id) (x ∷ ids) ≡ cond (x == id) 1 0 + count_by (λ y. y == id) ids
    split = sum_by-cons (λ y. cond (y == id) 1 0) x ids

    greater : (k : ℕ) → k < length ids → x < get_or ids k 0
    greater k h =
        let up : get_or (x ∷ ids) 0 0 + suc k ≤ get_or (x ∷ ids) (0 + suc k) 0 = rises_by (x ∷ ids) rises 0 (suc k) (omega arith) in
        let at : 0 + suc k ≡ suc k = omega arith in
        let there : x + suc k ≤ get_or ids k 0 = subst (λ (m : ℕ). x + suc k ≤ get_or (x ∷ ids) m 0) at up in
        omega arith

    go : count_by (λ y. y == id) ids ≤ 1 → (b : Bool) → (x == id) ≡ b → count_by (λ y. y == id) (x ∷ ids) ≤ 1
    go below true e = omega (arith, split, ap indicator e, count_none id ids (λ k h same. absurd (omega (arith, greater k h, eqb-true x id e, same))))
    go below false e = omega (arith, split, ap indicator e, below)

-- an identifier that stands twice in a row is counted twice
count_twice : (ids : List ℕ) (k : ℕ) → k + 1 < length ids → get_or ids (k + 1) 0 ≡ get_or ids k 0 → 1 < count_by (λ x. x == get_or ids k 0) ids
count_twice [] k h same = absurd (omega arith)
count_twice (x ∷ []) k h same = absurd (omega arith)
count_twice (x ∷ y ∷ ids) zero h same =
    let next : y ≡ x = same in
    omega (arith, sum_by-cons (λ z. cond (z == x) 1 0) x (y ∷ ids), sum_by-cons (λ z. cond (z == x) 1 0) y ids, ap indicator (eq-eqb x x refl), ap indicator (eq-eqb y x next))
count_twice (x ∷ y ∷ ids) (suc k) h same =
    let e : suc k + 1 ≡ suc (k + 1) = omega arith in
    let inner : get_or (y ∷ ids) (k + 1) 0 ≡ get_or (y ∷ ids) k 0 = subst (λ (m : ℕ). get_or (x ∷ y ∷ ids) m 0 ≡ get_or (y ∷ ids) k 0) e same in
    let twice : 1 < count_by (λ z. z == get_or (y ∷ ids) k 0) (y ∷ ids) = count_twice (y ∷ ids) k (omega arith) inner in
    omega (arith, sum_by-cons (λ z. cond (z == get_or (y ∷ ids) k 0) 1 0) x (y ∷ ids), twice)

-- rising identifiers have no duplicate
pub no_duplicate : (specs : List NodeSpec) → IsStrictlyIncreasing (ids_of specs) → has_duplicate specs ≡ false
no_duplicate specs rises = list_any_none (λ (spec : NodeSpec). nat_lt 1 (specified_times specs spec.id)) specs
    (λ k d h. le-ltb 1 (specified_times specs (get_or specs k d).id) (omega (arith, specified_times-ids specs (get_or specs k d).id, count_rising (ids_of specs) rises (get_or specs k d).id)))

-- identifiers in order, of which one is not greater than the one before, have a duplicate
pub some_duplicate : (specs : List NodeSpec) (none : NodeSpec) (k : ℕ) → IsNonDecreasing (ids_of specs) → k + 1 < length (ids_of specs) → get_or (ids_of specs) (k + 1) 0 ≤ get_or (ids_of specs) k 0 → has_duplicate specs ≡ true
some_duplicate specs none k sorted h down =
    let up : get_or (ids_of specs) k 0 ≤ get_or (ids_of specs) (k + 1) 0 = sorted k (k + 1) 0 (omega arith) h in
    let twice : 1 < count_by (λ x. x == get_or (ids_of specs) k 0) (ids_of specs) = count_twice (ids_of specs) k h (omega arith) in
    let there : get_or (ids_of specs) k 0 ≡ (get_or specs k none).id = get_or-map (λ (spec : NodeSpec). spec.id) specs k none 0 (omega (arith, length-map specs (λ (spec : NodeSpec). spec.id))) in
    let times : 1 < specified_times specs (get_or specs k none).id = subst (λ (id : ℕ). 1 < specified_times specs id) there (omega (arith, specified_times-ids specs (get_or (ids_of specs) k 0), twice)) in
    list_any_at (λ (spec : NodeSpec). nat_lt 1 (specified_times specs spec.id)) specs k none (omega (arith, length-map specs (λ (spec : NodeSpec). spec.id)))
    (lt-ltb 1 (specified_times specs (get_or specs k none).id) times)

-- nothing is counted exactly if nothing passes
count_any : {X : Type 0} (p : X → Bool) (xs : List X) → (count_by p xs == 0) ≡ not (list_any p xs)
count_any p [] = refl
count_any p (x ∷ xs) = go (count_any p xs) (p x) refl
  where
    split : count_by p (x ∷ xs) ≡ indicator (p x) + count_by p xs
    split = sum_by-cons (λ y. cond (p y) 1 0) x xs

    go : (count_by p xs == 0) ≡ not (list_any p xs) → (b : Bool) → p x ≡ b → (count_by p (x ∷ xs) == 0) ≡ not (p x || list_any p xs)
    go before true e = ne_eqb (count_by p (x ∷ xs)) 0 (λ none. absurd (omega (arith, split, ap indicator e, none))) ∙ ap (λ b. not (b || list_any p xs)) (sym e)
    go before false e =
        let same : count_by p (x ∷ xs) ≡ count_by p xs = omega (arith, split, ap indicator e) in
        ap (λ n. n == 0) same ∙ before ∙ ap (λ b. not (b || list_any p xs)) (sym e)

-- one more on both sides
shift : (a b : ℕ) → nat_lt (1 + a) (suc b) ≡ nat_lt a b
shift a b = elim (cases_lt a b) [ inl l ↦ lt-ltb (1 + a) (suc b) (omega arith) ∙ sym (lt-ltb a b l) | inr l ↦ le-ltb (1 + a) (suc b) (omega arith) ∙ sym (le-ltb a b l) ]

-- something has a place exactly if something passes
position_any : {X : Type 0} (p : X → Bool) (xs : List X) → is_some (position p xs) ≡ list_any p xs
position_any {X} p xs = some (nat_lt (position_or_len p xs) (length xs)) (position_or_len p xs) ∙ within xs
  where
    some : (b : Bool) (n : ℕ) → is_some (cond b (Some n) None) ≡ b
    some true n = refl
    some false n = refl

    within : (ys : List X) → nat_lt (position_or_len p ys) (length ys) ≡ list_any p ys
    within [] = refl
    within (y ∷ ys) = go (within ys) (p y) refl
      where
        go : nat_lt (position_or_len p ys) (length ys) ≡ list_any p ys → (b : Bool) → p y ≡ b → nat_lt (position_or_len p (y ∷ ys)) (length (y ∷ ys)) ≡ (p y || list_any p ys)
        go before true e = rw e (lt-ltb 0 (length (y ∷ ys)) (omega arith))
        go before false e = rw e (shift (position_or_len p ys) (length ys) ∙ before)

-- a test of a function of each element
list_any-map : {X Y : Type 0} (p : Y → Bool) (f : X → Y) (xs : List X) → list_any p (map f xs) ≡ list_any (λ x. p (f x)) xs
list_any-map p f [] = refl
list_any-map p f (x ∷ xs) = ap (λ b. p (f x) || b) (list_any-map p f xs)

-- an identifier that is counted never has no place
count_position : (id : ℕ) (ids : List ℕ) → (count_by (λ x. x == id) ids == 0) ≡ not (is_some (position (λ x. x == id) ids))
count_position id ids = count_any (λ x. x == id) ids ∙ ap not (sym (position_any (λ x. x == id) ids))

-- a test that fails somewhere
list_any-not : {X : Type 0} (p : X → Bool) (xs : List X) → list_any (λ x. not (p x)) xs ≡ not (list_all p xs)
list_any-not p [] = refl
list_any-not p (x ∷ xs) = ap (λ b. not (p x) || b) (list_any-not p xs) ∙ step (p x) (list_all p xs)
  where
    step : (a b : Bool) → (not a || not b) ≡ not (a && b)
    step true b = refl
    step false b = refl

-- a successor is undefined exactly if not all have a place
pub has_undefined-not : (specs : List NodeSpec) (ids : List ℕ) (lists : List (List ℕ)) → ids_of specs ≡ ids → map (λ (spec : NodeSpec). spec.successors) specs ≡ lists
    → has_undefined specs ≡ not (list_all (λ list. list_all (is_defined ids) list) lists)
unfolding is_defined
has_undefined-not specs ids lists same_ids same_lists =
    let each : (λ successor. specified_times specs successor == 0) ≡ (λ successor. not (is_defined ids successor)) =
    fun_ext (λ successor. ap (λ n. n == 0) (specified_times-ids specs successor ∙ ap (count_by (λ x. x == successor)) same_ids) ∙ count_position successor ids) in
    let list : (λ (xs : List ℕ). list_any (λ successor. specified_times specs successor == 0) xs) ≡ (λ (xs : List ℕ). not (list_all (is_defined ids) xs)) =
    fun_ext (λ xs. ap (λ (p : ℕ → Bool). list_any p xs) each ∙ list_any-not (is_defined ids) xs) in
    ap (λ (p : List ℕ → Bool). list_any (λ (spec : NodeSpec). p spec.successors) specs) list
    ∙ sym (list_any-map (λ (xs : List ℕ). not (list_all (is_defined ids) xs)) (λ (spec : NodeSpec). spec.successors) specs)
    ∙ ap (list_any (λ (xs : List ℕ). not (list_all (is_defined ids) xs))) same_lists
    ∙ list_any-not (λ (xs : List ℕ). list_all (is_defined ids) xs) lists
