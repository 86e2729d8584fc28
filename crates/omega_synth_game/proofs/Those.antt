-- Those of a list that have a property: their members, that they are one list, and that they rise if the list does.
use Rattle.std.proofs.Common.{◌≡◌, ◌↔◌, ℕ, zero, suc, ◌+◌, ◌<◌, inl, inr, List, [], ◌∷◌, length, Contains, sym, ap, refl, ◌∙◌, subst, arith}
use Rattle.std.specs.Prelude.{slice_index}
use Rattle.std.specs.List.Sorted.{IsStrictlyIncreasing}
use Rattle.std.proofs.lemmas.List.Kept.{AllPairs-from_increasing}
use Rattle.omega_synth_game.specs.Those.{AreThoseWith}

-- what a longer list contains
behind : (x n : ℕ) (xs : List ℕ) → Contains xs n → Contains (x ∷ xs) n
behind x n xs has = (suc has.0, omega (arith, has.1), has.2)

in_front : (x : ℕ) (xs : List ℕ) → Contains (x ∷ xs) x
in_front x xs = (0, omega arith, refl)

none : (n : ℕ) (xs : List ℕ) → xs ≡ [] → Contains xs n → ⊥
none n xs is has = omega (arith, has.1, ap length is)

first_or : (n x : ℕ) (xs ys : List ℕ) (Q : Type 0) → xs ≡ x ∷ ys → (x ≡ n → Q) → (Contains ys n → Q) → Contains xs n → Q
first_or n x xs ys Q is here later has = go (subst (λ (list : List ℕ). Contains list n) is has)
  where
    go : Contains (x ∷ ys) n → Q
    go (zero, below, same) = here same
    go (suc k, below, same) = later (k, omega arith, same)

-- their members
pub those_members : (P : ℕ → Type 0) (xs ys : List ℕ) → AreThoseWith P xs ys → (n : ℕ) → Contains ys n ↔ (Contains xs n × P n)
those_members P [] ys are n = (λ has. absurd (none n ys are has), λ found. absurd (none n [] refl found.0))
those_members P (x ∷ xs) ys are n = elim are [
  | inl here ↦
      let rest = those_members P xs here.0 here.3 n in (
        first_or n x ys here.0 (Contains (x ∷ xs) n × P n) here.2
            (λ same. (subst (λ (m : ℕ). Contains (x ∷ xs) m) same (in_front x xs), subst P same here.1))
            (λ has. (let found = rest.0 has in (behind x n xs found.0, found.1))),
        λ found. subst (λ (list : List ℕ). Contains list n) (sym here.2)
            (first_or n x (x ∷ xs) xs (Contains (x ∷ here.0) n) refl
            (λ same. subst (λ (m : ℕ). Contains (x ∷ here.0) m) same (in_front x here.0))
            (λ has. behind x n here.0 (rest.1 (has, found.1))) found.0),
      )
  | inr there ↦
      let rest = those_members P xs ys there.1 n in (
        λ has. (let found = rest.0 has in (behind x n xs found.0, found.1)),
        λ found. first_or n x (x ∷ xs) xs (Contains ys n) refl
            (λ same. absurd (there.0 (subst P (sym same) found.1)))
            (λ has. rest.1 (has, found.1)) found.0,
      )
]

-- with a property that the numbers have alike they are the same list
pub those_one : (P Q : ℕ → Type 0) (xs ys zs : List ℕ) → ((n : ℕ) → Contains xs n → P n ↔ Q n) → AreThoseWith P xs ys → AreThoseWith Q xs zs
    → ys ≡ zs
those_one P Q [] ys zs alike one other = one ∙ sym other
those_one P Q (x ∷ xs) ys zs alike one other =
    let both = alike x (in_front x xs) in
    let rest : (n : ℕ) → Contains xs n → P n ↔ Q n = λ n has. alike n (behind x n xs has) in
    elim one [
      | inl here ↦ elim other [
        | inl its ↦ here.2 ∙ ap (λ list. x ∷ list) (those_one P Q xs here.0 its.0 rest here.3 its.3) ∙ sym its.2
        | inr lacks ↦ absurd (lacks.0 (both.0 here.1))
      ]
      | inr there ↦ elim other [
        | inl its ↦ absurd (there.0 (both.1 its.1))
        | inr lacks ↦ those_one P Q xs ys zs rest there.1 lacks.1
      ]
    ]

-- the first number of a rising list is below the others, which rise
head_below : (x : ℕ) (xs : List ℕ) (n : ℕ) → IsStrictlyIncreasing (x ∷ xs) → Contains xs n → x < n
head_below x xs n rising has =
    let later : suc has.0 < length (x ∷ xs) = omega (arith, has.1) in
    subst (λ (m : ℕ). x < m) has.2 (AllPairs-from_increasing (x ∷ xs) rising 0 (suc has.0) n (omega arith) later)

tail_rising : (x : ℕ) (xs : List ℕ) → IsStrictlyIncreasing (x ∷ xs) → IsStrictlyIncreasing xs
tail_rising x xs rising k within =
    let later : suc (k + 1) < length (x ∷ xs) = omega arith in
    AllPairs-from_increasing (x ∷ xs) rising (suc k) (suc (k + 1)) 0 (omega arith) later

-- a number below those of a rising list
rising_before : (x : ℕ) (xs : List ℕ) → ((n : ℕ) → Contains xs n → x < n) → IsStrictlyIncreasing xs → IsStrictlyIncreasing (x ∷ xs)
rising_before x [] below rising k within = absurd (omega arith)
rising_before x (y ∷ ys) below rising zero within = below y (in_front y ys)
rising_before x (y ∷ ys) below rising (suc k) within =
    let same : suc k + 1 ≡ suc (k + 1) = omega arith in
    subst (λ (n : ℕ). slice_index (y ∷ ys) k < slice_index (x ∷ y ∷ ys) n) (sym same) (rising k (omega arith))

nothing_rises : IsStrictlyIncreasing []
nothing_rises k within = absurd (omega arith)

pub those_rising : (P : ℕ → Type 0) (xs ys : List ℕ) → IsStrictlyIncreasing xs → AreThoseWith P xs ys → IsStrictlyIncreasing ys
those_rising P [] ys rising are = subst IsStrictlyIncreasing (sym are) nothing_rises
those_rising P (x ∷ xs) ys rising are = elim are [
  | inl here ↦
      subst IsStrictlyIncreasing (sym here.2)
      (rising_before x here.0 (λ n has. head_below x xs n rising ((those_members P xs here.0 here.3 n).0 has).0)
      (those_rising P xs here.0 (tail_rising x xs rising) here.3))
  | inr there ↦ those_rising P xs ys (tail_rising x xs rising) there.1
]

-- rising lists with the same members are one
first_same : (x y : ℕ) (xs ys : List ℕ) → IsStrictlyIncreasing (x ∷ xs) → IsStrictlyIncreasing (y ∷ ys) → Contains (y ∷ ys) x → Contains (x ∷ xs) y → x ≡ y
first_same x y xs ys rising other there back =
    first_or x y (y ∷ ys) ys (x ≡ y) refl sym
    (λ later. first_or y x (x ∷ xs) xs (x ≡ y) refl (λ same. same)
    (λ its. absurd (omega (arith, head_below y ys x other later, head_below x xs y rising its))) back)
    there

rest_within : (x : ℕ) (xs ys : List ℕ) (n : ℕ) → IsStrictlyIncreasing (x ∷ xs) → Contains xs n → Contains (x ∷ ys) n → Contains ys n
rest_within x xs ys n rising has there =
    first_or n x (x ∷ ys) ys (Contains ys n) refl (λ same. absurd (omega (arith, head_below x xs n rising has, same))) (λ later. later) there

pub rising_one : (xs ys : List ℕ) → IsStrictlyIncreasing xs → IsStrictlyIncreasing ys → ((n : ℕ) → Contains xs n ↔ Contains ys n) → xs ≡ ys
rising_one [] [] rising other same = refl
rising_one [] (y ∷ ys) rising other same = absurd (none y [] refl ((same y).1 (in_front y ys)))
rising_one (x ∷ xs) [] rising other same = absurd (none x [] refl ((same x).0 (in_front x xs)))
rising_one (x ∷ xs) (y ∷ ys) rising other same =
    let first : x ≡ y = first_same x y xs ys rising other ((same x).0 (in_front x xs)) ((same y).1 (in_front y ys)) in
    let rest : xs ≡ ys = rising_one xs ys (tail_rising x xs rising) (tail_rising y ys other) (λ n. (
      λ has. rest_within x xs ys n rising has (subst (λ (m : ℕ). Contains (m ∷ ys) n) (sym first) ((same n).0 (behind x n xs has))),
      λ has. rest_within y ys xs n other has (subst (λ (m : ℕ). Contains (m ∷ xs) n) first ((same n).1 (behind y n ys has))),
    )) in
    cc
