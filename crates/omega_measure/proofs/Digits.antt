-- Digits of a number at places, and numbers compared by them.
use Rattle.std.proofs.Common.{◌≡◌, ℕ, zero, suc, ◌+◌, ◌-◌, ◌*◌, ◌/◌, ◌%◌, ◌^◌, ◌<◌, ◌≤◌, cond, eqb, List, [], ◌∷◌, ◌++◌, Ordering, length, get_or, take, replicate, sym, refl, ap, ◌∙◌, arith, inl, inr}
use Rattle.std.specs.Ordering.{nat_cmp, ordering_then}
use Rattle.std.specs.declared.cmp.Ordering.TheVariants.{Less, Equal, Greater}
use Rattle.std.specs.Cmp.Lexicographic.{slice_cmp}
use Rattle.std.proofs.lemmas.Bool.{cases_order, lt-ltb, le-ltb, eq-eqb, ne_eqb}
use Rattle.std.proofs.lemmas.Nat.{pow_pos, pow-add, shr_high, shr_split, shr-shr, mod_below, mul-le, div_below}
use Rattle.std.proofs.Math.Nat.{mul_assoc}
use Rattle.omega_measure.specs.private.layout.Field.{front_order, value}

-- ---- numbers

-- a number put in front of another, without the last places
pub shifted : (d g s p t : ℕ) → t ≡ g + s → (d * 2 ^ t + p) / 2 ^ s ≡ d * 2 ^ g + p / 2 ^ s
shifted d g s p t e =
    let power = ap (λ n. 2 ^ n) e ∙ pow-add 2 g s in
    let front = ap (λ n. d * n) power ∙ sym (mul_assoc d (2 ^ g) (2 ^ s)) in
    let whole : d * 2 ^ t + p ≡ (d * 2 ^ g + p / 2 ^ s) * 2 ^ s + p % 2 ^ s = omega (arith, front, shr_split p s) in
    ap (λ n. n / 2 ^ s) whole ∙ shr_high (d * 2 ^ g + p / 2 ^ s) s (p % 2 ^ s) (mod_below p (2 ^ s) (pow_pos s))

pub nat_cmp-less : (x y : ℕ) → x < y → nat_cmp x y ≡ Less
nat_cmp-less x y l = ap (λ b. cond b Less (cond (eqb x y) Equal Greater)) (lt-ltb x y l)

nat_cmp-equal : (x y : ℕ) → x ≡ y → nat_cmp x y ≡ Equal
nat_cmp-equal x y e = ap (λ b. cond b Less (cond (eqb x y) Equal Greater)) (le-ltb x y (omega arith)) ∙ ap (λ b. cond b Equal Greater) (eq-eqb x y e)

pub nat_cmp-greater : (x y : ℕ) → y < x → nat_cmp x y ≡ Greater
nat_cmp-greater x y l = ap (λ b. cond b Less (cond (eqb x y) Equal Greater)) (le-ltb x y (omega arith)) ∙ ap (λ b. cond b Equal Greater) (ne_eqb x y (λ e. omega arith))

-- numbers with a front and a back compare by the front, and then by the back
pub ordered_by_front : (d e m p q : ℕ) → p < m → q < m → ordering_then (nat_cmp d e) (nat_cmp p q) ≡ nat_cmp (d * m + p) (e * m + q)
ordered_by_front d e m p q pm qm =
    elim (cases_order d e) [
      | inl same ↦
          ap (λ o. ordering_then o (nat_cmp p q)) (nat_cmp-equal d e same) ∙ by_back same
      | inr apart ↦ elim apart [
        | inl below ↦
            let room = mul-le (d + 1) m e m (omega arith) (omega arith) in
            ap (λ o. ordering_then o (nat_cmp p q)) (nat_cmp-less d e below) ∙ sym (nat_cmp-less (d * m + p) (e * m + q) (omega (arith, room)))
        | inr above ↦
            let room = mul-le (e + 1) m d m (omega arith) (omega arith) in
            ap (λ o. ordering_then o (nat_cmp p q)) (nat_cmp-greater d e above) ∙ sym (nat_cmp-greater (d * m + p) (e * m + q) (omega (arith, room)))
      ]
    ]
  where
    by_back : d ≡ e → nat_cmp p q ≡ nat_cmp (d * m + p) (e * m + q)
    by_back same =
        let front = ap (λ n. n * m) same in
        elim (cases_order p q) [
          | inl equal ↦ nat_cmp-equal p q equal ∙ sym (nat_cmp-equal (d * m + p) (e * m + q) (omega (arith, front)))
          | inr apart ↦ elim apart [
            | inl below ↦ nat_cmp-less p q below ∙ sym (nat_cmp-less (d * m + p) (e * m + q) (omega (arith, front)))
            | inr above ↦ nat_cmp-greater p q above ∙ sym (nat_cmp-greater (d * m + p) (e * m + q) (omega (arith, front)))
          ]
        ]

-- ---- digits at places that fall

-- digits that have room at their places, the first below a place
abbrev pub AreWithin : ℕ → List ℕ → List ℕ → Type 0
AreWithin bound [] [] = Unit {0}
AreWithin bound [] (d ∷ ds) = ⊥
AreWithin bound (t ∷ ts) [] = ⊥
AreWithin bound (t ∷ ts) (d ∷ ds) = (t ≤ bound) × ((d + 1) * 2 ^ t ≤ 2 ^ bound) × AreWithin t ts ds

pub length-within : (bound : ℕ) (ts ds : List ℕ) → AreWithin bound ts ds → length ds ≡ length ts
length-within bound [] [] w = refl
length-within bound [] (d ∷ ds) w = absurd w
length-within bound (t ∷ ts) [] w = absurd w
length-within bound (t ∷ ts) (d ∷ ds) w = let rest = length-within t ts ds w.2 in omega (arith, rest)

pub value-lt : (bound : ℕ) (ts ds : List ℕ) → AreWithin bound ts ds → value ts ds < 2 ^ bound
value-lt bound [] [] w = pow_pos bound
value-lt bound [] (d ∷ ds) w = absurd w
value-lt bound (t ∷ ts) [] w = absurd w
value-lt bound (t ∷ ts) (d ∷ ds) w = let rest = value-lt t ts ds w.2 in omega (arith, rest, w.1)

pub place_within : (bound : ℕ) (ts ds : List ℕ) (k : ℕ) → AreWithin bound ts ds → k < length ts → get_or ts k 0 ≤ bound
place_within bound [] ds k w l = absurd (omega arith)
place_within bound (t ∷ ts) [] k w l = absurd w
place_within bound (t ∷ ts) (d ∷ ds) zero w l = w.0
place_within bound (t ∷ ts) (d ∷ ds) (suc k) w l = let rest = place_within t ts ds k w.2 (omega arith) in omega (arith, rest, w.0)

pub value-zeros : (ts : List ℕ) (n : ℕ) → value ts (replicate n 0) ≡ 0
value-zeros [] n = refl
value-zeros (t ∷ ts) zero = refl
value-zeros (t ∷ ts) (suc n) = let rest = value-zeros ts n in omega (arith, rest)

-- the front of a number ends in a digit, with g places free before it
pub front_ends :
    (bound : ℕ) (ts ds : List ℕ) (k g : ℕ) → AreWithin bound ts ds → k < length ts → ((i : ℕ) → i < k → get_or ts k 0 + g ≤ get_or ts i 0)
    → (h : ℕ) × (value ts ds / 2 ^ get_or ts k 0 ≡ h * 2 ^ g + get_or ds k 0)
front_ends bound [] ds k g w l gap = absurd (omega arith)
front_ends bound (t ∷ ts) [] k g w l gap = absurd w
front_ends bound (t ∷ ts) (d ∷ ds) zero g w l gap = (0, shr_high d t (value ts ds) (value-lt t ts ds w.2) ∙ omega arith)
front_ends bound (t ∷ ts) (d ∷ ds) (suc k) g w l gap =
    let rest = front_ends t ts ds k g w.2 (omega arith) (λ i m. gap (suc i) (omega arith)) in
    let s = get_or ts k 0 in
    let free = gap 0 (omega arith) in
    let r = t - s - g in
    let place : t ≡ r + g + s = omega (arith, free) in
    let power = ap (λ n. d * n) (pow-add 2 r g) ∙ sym (mul_assoc d (2 ^ r) (2 ^ g)) in
    (d * 2 ^ r + rest.0, shifted d (r + g) s (value ts ds) t place ∙ omega (arith, rest.1, power))

-- one digit replaced, and those after it cleared
pub value-replaced :
    (bound : ℕ) (ts ds : List ℕ) (k n x : ℕ) → AreWithin bound ts ds → n + suc k ≡ length ts
    → value ts (take k ds ++ x ∷ replicate n 0) + get_or ds k 0 * 2 ^ get_or ts k 0 ≡ (value ts ds / 2 ^ get_or ts k 0 + x) * 2 ^ get_or ts k 0
value-replaced bound [] ds k n x w size = absurd (omega arith)
value-replaced bound (t ∷ ts) [] k n x w size = absurd w
value-replaced bound (t ∷ ts) (d ∷ ds) zero n x w size =
    let zeros = value-zeros ts n in
    let front = shr_high d t (value ts ds) (value-lt t ts ds w.2) in
    let product = ap (λ m. (m + x) * 2 ^ t) front in
    omega (arith, zeros, product)
value-replaced bound (t ∷ ts) (d ∷ ds) (suc k) n x w size =
    let s = get_or ts k 0 in
    let rest = value-replaced t ts ds k n x w.2 (omega arith) in
    let below = place_within t ts ds k w.2 (omega arith) in
    let place : t ≡ (t - s) + s = omega (arith, below) in
    let front = shifted d (t - s) s (value ts ds) t place in
    let power = ap (λ m. d * 2 ^ m) place ∙ ap (λ m. d * m) (pow-add 2 (t - s) s) ∙ sym (mul_assoc d (2 ^ (t - s)) (2 ^ s)) in
    let product = ap (λ m. (m + x) * 2 ^ s) front in
    omega (arith, rest, power, product)

pub then_assoc : (o p q : Ordering) → ordering_then (ordering_then o p) q ≡ ordering_then o (ordering_then p q)
then_assoc Less p q = refl
then_assoc Equal p q = refl
then_assoc Greater p q = refl

-- two numbers compare on a front as their digits do
pub front_order-value :
    (bound : ℕ) (ts ds es : List ℕ) (k s : ℕ) → AreWithin bound ts ds → AreWithin bound ts es → k < length ts → ((i : ℕ) → i < k → get_or ts k 0 + s ≤ get_or ts i 0)
    → front_order k s ds es ≡ nat_cmp (value ts ds / 2 ^ (get_or ts k 0 + s)) (value ts es / 2 ^ (get_or ts k 0 + s))
front_order-value bound [] ds es k s w v l gap = absurd (omega arith)
front_order-value bound (t ∷ ts) [] es k s w v l gap = absurd w
front_order-value bound (t ∷ ts) (d ∷ ds) [] k s w v l gap = absurd v
front_order-value bound (t ∷ ts) (d ∷ ds) (e ∷ es) zero s w v l gap =
    let left = ap (λ n. n / 2 ^ s) (shr_high d t (value ts ds) (value-lt t ts ds w.2)) in
    let right = ap (λ n. n / 2 ^ s) (shr_high e t (value ts es) (value-lt t ts es v.2)) in
    ap (λ n. nat_cmp n (e / 2 ^ s)) (sym left ∙ shr-shr (d * 2 ^ t + value ts ds) t s)
    ∙ ap (λ n. nat_cmp ((d * 2 ^ t + value ts ds) / 2 ^ (t + s)) n) (sym right ∙ shr-shr (e * 2 ^ t + value ts es) t s)
front_order-value bound (t ∷ ts) (d ∷ ds) (e ∷ es) (suc k) s w v l gap =
    let rest = front_order-value t ts ds es k s w.2 v.2 (omega arith) (λ i m. gap (suc i) (omega arith)) in
    let u = get_or ts k 0 + s in
    let free = gap 0 (omega arith) in
    let g = t - u in
    let place : t ≡ g + u = omega (arith, free) in
    let power = ap (λ n. 2 ^ n) place ∙ pow-add 2 g u in
    let left = shifted d g u (value ts ds) t place in
    let right = shifted e g u (value ts es) t place in
    let p_low = div_below (value ts ds) (2 ^ u) (2 ^ g) (pow_pos u) (omega (arith, value-lt t ts ds w.2, power)) in
    let q_low = div_below (value ts es) (2 ^ u) (2 ^ g) (pow_pos u) (omega (arith, value-lt t ts es v.2, power)) in
    then_assoc (nat_cmp d e) (slice_cmp nat_cmp (take k ds) (take k es)) (nat_cmp (get_or ds k 0 / 2 ^ s) (get_or es k 0 / 2 ^ s))
    ∙ ap (ordering_then (nat_cmp d e)) rest
    ∙ ordered_by_front d e (2 ^ g) (value ts ds / 2 ^ u) (value ts es / 2 ^ u) p_low q_low
    ∙ ap (λ n. nat_cmp n (e * 2 ^ g + value ts es / 2 ^ u)) (sym left)
    ∙ ap (λ n. nat_cmp ((d * 2 ^ t + value ts ds) / 2 ^ u) n) (sym right)
