-- Cubes: what fits them, and their halves.
use Rattle.std.proofs.Common.{◌≡◌, ℕ, zero, suc, ◌+◌, ◌*◌, ◌<◌, ◌≤◌, ◌&&◌, Bool, true, false, not, List, [], ◌∷◌, ◌++◌, length, refl, sym, ap, ap₂, ◌∙◌, subst, arith}
use Rattle.std.specs.Prelude.{slice_set}
use Rattle.omega_circuit_automaton.specs.declared.ternary.Ternary.{Ternary}
use Rattle.omega_circuit_automaton.specs.declared.ternary.Ternary.TheVariants.{False, True, Unknown}
use Rattle.omega_circuit_automaton.specs.private.Cuts.{agrees, fits, one_if, weight}
use Rattle.omega_circuit_automaton.specs.private.Ternary.{Matches, known, ternary_at}

pub and_true : (a b : Bool) → (a && b) ≡ true → (a ≡ true) × (b ≡ true)
and_true true b h = (refl, h)
and_true false b h = absurd (cc)

agrees_matches : (value : Ternary) (b : Bool) → agrees value b ≡ true → Matches value b
agrees_matches False true h = cc
agrees_matches False false h = refl
agrees_matches True b h = h
agrees_matches Unknown b h = tt

matches_agrees : (value : Ternary) (b : Bool) → Matches value b → agrees value b ≡ true
matches_agrees False b h = ap not h
matches_agrees True b h = h
matches_agrees Unknown b h = refl

-- a letter that fits has the values of the cube
pub fits_at : (cube : List Ternary) (letter : ℕ → Bool) → fits cube letter ≡ true → (k : ℕ) → Matches (ternary_at cube k) (letter k)
fits_at [] letter h k = tt
fits_at (value ∷ cube) letter h zero = agrees_matches value (letter 0) (and_true (agrees value (letter 0)) (fits cube (λ k. letter (suc k))) h).0
fits_at (value ∷ cube) letter h (suc k) = fits_at cube (λ j. letter (suc j)) (and_true (agrees value (letter 0)) (fits cube (λ j. letter (suc j))) h).1 k

pub at_fits : (cube : List Ternary) (letter : ℕ → Bool) → ((k : ℕ) → k < length cube → Matches (ternary_at cube k) (letter k)) → fits cube letter ≡ true
at_fits [] letter each = refl
at_fits (value ∷ cube) letter each =
    ap₂ (λ a b. a && b) (matches_agrees value (letter 0) (each 0 (omega arith))) (at_fits cube (λ k. letter (suc k)) (λ k low. each (suc k) (omega (arith, low))))

-- what fits depends on the letters of the cube's inputs alone
pub fits_alike : (cube : List Ternary) (one other : ℕ → Bool) → ((k : ℕ) → k < length cube → one k ≡ other k) → fits cube one ≡ fits cube other
fits_alike [] one other same = refl
fits_alike (value ∷ cube) one other same =
    ap₂ (λ a b. agrees value a && b) (same 0 (omega arith)) (fits_alike cube (λ k. one (suc k)) (λ k. other (suc k)) (λ k low. same (suc k) (omega (arith, low))))

and_grouped : (a b d : Bool) → (a && (b && d)) ≡ ((a && b) && d)
and_grouped true b d = refl
and_grouped false b d = refl

-- a cube in two parts
pub fits_both : (cube more : List Ternary) (letter : ℕ → Bool) → fits (cube ++ more) letter ≡ (fits cube letter && fits more (λ k. letter (length cube + k)))
fits_both [] more letter = fits_alike more letter (λ k. letter (0 + k)) (λ k low. ap letter (let e : k ≡ 0 + k = omega arith in e))
fits_both (value ∷ cube) more letter =
    ap (λ b. agrees value (letter 0) && b) (fits_both cube more (λ k. letter (suc k)))
    ∙ and_grouped (agrees value (letter 0)) (fits cube (λ k. letter (suc k))) (fits more (λ k. letter (suc (length cube + k))))
    ∙ ap (λ b. (agrees value (letter 0) && fits cube (λ k. letter (suc k))) && b)
    (fits_alike more (λ k. letter (suc (length cube + k))) (λ k. letter (suc (length cube) + k))
    (λ k low. ap letter (let e : suc (length cube + k) ≡ suc (length cube) + k = omega arith in e)))

pub and_last : (a : Bool) → (a && true) ≡ a
and_last true = refl
and_last false = refl

-- one value more
pub fits_push : (cube : List Ternary) (value : Ternary) (letter : ℕ → Bool) → fits (cube ++ value ∷ []) letter ≡ (fits cube letter && agrees value (letter (length cube)))
fits_push cube value letter =
    fits_both cube (value ∷ []) letter
    ∙ ap (λ b. fits cube letter && b) (and_last (agrees value (letter (length cube + 0))) ∙ ap (λ n. agrees value (letter n)) (let e : length cube + 0 ≡ length cube = omega arith in e))

-- a letter fits one half of a cube that it fits
pub halves_counted : (cube : List Ternary) (k : ℕ) (letter : ℕ → Bool) → k < length cube → ternary_at cube k ≡ Unknown
    → one_if (fits (slice_set cube k True) letter) + one_if (fits (slice_set cube k False) letter) ≡ one_if (fits cube letter)
halves_counted [] k letter low is = absurd (omega (arith, low))
halves_counted (value ∷ cube) zero letter low is = subst (λ v. one_if (letter 0 && fits cube (λ k. letter (suc k))) + one_if (not (letter 0) && fits cube (λ k. letter (suc k)))
    ≡ one_if (agrees v (letter 0) && fits cube (λ k. letter (suc k)))) (sym is) (go (letter 0) (fits cube (λ k. letter (suc k))))
  where
    go : (b rest : Bool) → one_if (b && rest) + one_if (not b && rest) ≡ one_if rest
    go true true = refl
    go true false = refl
    go false true = refl
    go false false = refl
halves_counted (value ∷ cube) (suc k) letter low is = go (agrees value (letter 0)) (halves_counted cube k (λ j. letter (suc j)) (omega (arith, low)) is)
  where
    upper : Bool
    upper = fits (slice_set cube k True) (λ j. letter (suc j))

    lower : Bool
    lower = fits (slice_set cube k False) (λ j. letter (suc j))

    go : (b : Bool) → one_if upper + one_if lower ≡ one_if (fits cube (λ j. letter (suc j)))
        → one_if (b && upper) + one_if (b && lower) ≡ one_if (b && fits cube (λ j. letter (suc j)))
    go true e = e
    go false e = refl

pub weight_some : (cube : List Ternary) → 1 ≤ weight cube
weight_some [] = omega arith
weight_some (Unknown ∷ cube) = omega (arith, weight_some cube)
weight_some (True ∷ cube) = weight_some cube
weight_some (False ∷ cube) = weight_some cube

-- a half of a cube weighs a third of it
pub half_weight : (cube : List Ternary) (k : ℕ) (b : Bool) → k < length cube → ternary_at cube k ≡ Unknown → 3 * weight (slice_set cube k (known b)) ≡ weight cube
half_weight [] k b low is = absurd (omega (arith, low))
half_weight (value ∷ cube) zero true low is = subst (λ v. 3 * weight cube ≡ weight (v ∷ cube)) (sym is) refl
half_weight (value ∷ cube) zero false low is = subst (λ v. 3 * weight cube ≡ weight (v ∷ cube)) (sym is) refl
half_weight (False ∷ cube) (suc k) b low is = half_weight cube k b (omega (arith, low)) is
half_weight (True ∷ cube) (suc k) b low is = half_weight cube k b (omega (arith, low)) is
half_weight (Unknown ∷ cube) (suc k) b low is = let e = half_weight cube k b (omega (arith, low)) is in omega (arith, e)
