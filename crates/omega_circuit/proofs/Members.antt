-- Numbers that are tested for and added one after the other.
use Rattle.std.proofs.Common.{◌≡◌, ℕ, zero, suc, ◌<◌, ◌==◌, Bool, true, false, not, ◌||◌, List, [], ◌∷◌, ◌++◌, length, map, get_or, take, refl, sym, ap, ◌∙◌, arith, if◌then◌else◌}
use Rattle.std.specs.Prelude.{nat_eq}
use Rattle.std.specs.List.{Contains, list_any}
use Rattle.std.proofs.lemmas.Bool.{false≢true}
use Rattle.std.proofs.lemmas.Bool.Decides.{Decides-eqb}
use Rattle.std.proofs.lemmas.List.{get_or-map, get_or-take, length-map, length-take}
use Rattle.std.proofs.lemmas.Map.Keys.{apart_from_distinct}
use Rattle.indexmap.specs.IndexSet.{insert_key}
use Rattle.omega_circuit.specs.Circuit.{AreDefinitions, variable_of}
use Rattle.omega_circuit.proofs.Places.{contained_at, same_number}

-- a test for equal numbers finds a number that is there
pub any_there : (test : ℕ → Bool) (x : ℕ) → ((y : ℕ) → test y ≡ true → y ≡ x) → (xs : List ℕ) → list_any test xs ≡ true → Contains xs x
any_there test x same [] found = absurd (false≢true found)
any_there test x same (y ∷ ys) found = go (test y) refl (any_there test x same ys)
  where
    go : (b : Bool) → test y ≡ b → (list_any test ys ≡ true → Contains ys x) → Contains (y ∷ ys) x
    go true is later = (0, omega arith, same y is)
    go false is later =
        let rest = later (ap (λ b. b || list_any test ys) (sym is) ∙ found) in
        (suc rest.0, (let low = rest.1 in omega (arith, low)), rest.2)

pub there_any : (test : ℕ → Bool) (x : ℕ) → test x ≡ true → (xs : List ℕ) → Contains xs x → list_any test xs ≡ true
there_any test x passes xs there = go xs there.0 there.1 there.2
  where
    go : (ys : List ℕ) (k : ℕ) → k < length ys → get_or ys k x ≡ x → list_any test ys ≡ true
    go [] k within is = absurd (omega (arith, within))
    go (y ∷ ys) zero within is = ap (λ b. b || list_any test ys) (ap test is ∙ passes)
    go (y ∷ ys) (suc k) within is = ap (λ b. test y || b) (go ys k (omega (arith, within)) is) ∙ or_true (test y)
      where
        or_true : (b : Bool) → (b || true) ≡ true
        or_true true = refl
        or_true false = refl

-- the tests of a set
pub found_by : (xs : List ℕ) (x : ℕ) → list_any (λ y. y == x) xs ≡ true → Contains xs x
found_by xs x = any_there (λ y. y == x) x (λ y is. (Decides-eqb y x).0 is) xs

pub found_with : (xs : List ℕ) (x : ℕ) → list_any (nat_eq x) xs ≡ true → Contains xs x
found_with xs x = any_there (nat_eq x) x (λ y is. sym ((Decides-eqb x y).0 is)) xs

pub not_found_by : (xs : List ℕ) (x : ℕ) → list_any (λ y. y == x) xs ≡ false → Contains xs x → ⊥
not_found_by xs x none there = false≢true (sym none ∙ there_any (λ y. y == x) x (same_number x x refl) xs there)

-- a new number is added behind the others
pub added : (xs : List ℕ) (x : ℕ) → not (list_any (nat_eq x) xs) ≡ true → insert_key nat_eq xs x ≡ xs ++ x ∷ []
added xs x new = go (list_any (nat_eq x) xs) new
  where
    go : (b : Bool) → not b ≡ true → (if b then xs else xs ++ x ∷ []) ≡ xs ++ x ∷ []
    go true is = absurd (false≢true is)
    go false is = refl

-- and one that is not new is there
pub there_already : (xs : List ℕ) (x : ℕ) → not (list_any (nat_eq x) xs) ≡ false → Contains xs x
there_already xs x old = found_with xs x (go (list_any (nat_eq x) xs) old)
  where
    go : (b : Bool) → not b ≡ false → b ≡ true
    go true is = refl
    go false is = absurd (false≢true (sym is))

-- the variable of a literal is that of one before it
pub twice_refutes : (literals : List ℕ) (i : ℕ) → i < length literals → Contains (map variable_of (take i literals)) (variable_of (get_or literals i 0))
    → AreDefinitions literals → ⊥
twice_refutes literals i within there are =
    let at = contained_at (map variable_of (take i literals)) (variable_of (get_or literals i 0)) there in
    let short = length-take i literals in
    let front : at.0 < length (take i literals) = let e = length-map (take i literals) variable_of in omega (arith, e, at.1) in
    let before : at.0 < i = omega (arith, front, short) in
    let one : get_or (map variable_of literals) at.0 0 ≡ variable_of (get_or literals i 0) =
    get_or-map variable_of literals at.0 0 0 (omega (arith, before, within))
    ∙ ap variable_of (sym (get_or-take i literals at.0 0 before))
    ∙ sym (get_or-map variable_of (take i literals) at.0 0 0 front) ∙ at.2 in
    let other : get_or (map variable_of literals) i 0 ≡ variable_of (get_or literals i 0) = get_or-map variable_of literals i 0 0 within in
    let long = length-map literals variable_of in
    false≢true (sym (apart_from_distinct nat_eq (map variable_of literals) at.0 i 0 are.apart before (omega (arith, within, long)))
    ∙ same_number (get_or (map variable_of literals) at.0 0) (get_or (map variable_of literals) i 0) (one ∙ sym other))
