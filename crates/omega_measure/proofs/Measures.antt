-- Lists of measures, a function of the place.
use Rattle.std.proofs.Common.{◌≡◌, ◌≢◌, ℕ, ◌<◌, List, length, get_or, set, replicate, sym, ◌∙◌, arith, inl, inr, subst}
use Rattle.std.specs.Prelude.{map, None}
use Rattle.std.specs.List.{range_with_len}
use Rattle.std.proofs.lemmas.Bool.{cases_eq}
use Rattle.std.proofs.lemmas.List.{ext_get_or, length-set, get_or-set_same, get_or-set_other, length-replicate, get_or-replicate}
use Rattle.std.proofs.lemmas.List.FromFn.{length-map-range_with_len, get_or-map-range_with_len}
use Rattle.omega_lift_laws.specs.Allowance.{measure_at}
use Rattle.omega_lift_laws.specs.Measure.{Measure}

-- the measures of the first n places, given place by place
abbrev pub listed : (ℕ → Measure) → ℕ → List Measure
listed f n = map f (range_with_len 0 n)

pub length-listed : (f : ℕ → Measure) (n : ℕ) → length (listed f n) ≡ n
length-listed f n = length-map-range_with_len f 0 n

pub measure_at-listed : (f : ℕ → Measure) (n v : ℕ) → v < n → measure_at (listed f n) v ≡ f v
measure_at-listed f n v l = get_or-map-range_with_len f 0 n v v None l (omega arith)

-- one place has a new measure, and all others theirs
pub listed-written : (f g : ℕ → Measure) (n v : ℕ) (x : Measure) → v < n → g v ≡ x → ((u : ℕ) → u ≢ v → u < n → g u ≡ f u) → listed g n ≡ set (listed f n) v x
listed-written f g n v x l here others =
    ext_get_or None (listed g n) (set (listed f n) v x)
    (length-listed g n ∙ sym (length-set (listed f n) v x ∙ length-listed f n))
    (λ u m.
    let m' : u < n = omega (arith, m, length-listed g n) in
    measure_at-listed g n u m'
    ∙ elim (cases_eq u v) [
      | inl same ↦
          let at = get_or-set_same (listed f n) v x None (omega (arith, l, length-listed f n)) in
          subst (λ k. g k ≡ get_or (set (listed f n) v x) k None) (sym same) (here ∙ sym at)
      | inr ne ↦ others u ne m' ∙ sym (get_or-set_other (listed f n) v u x None ne ∙ measure_at-listed f n u m')
    ])

-- the same measure at each place
pub listed-same : (f : ℕ → Measure) (n : ℕ) (x : Measure) → ((v : ℕ) → v < n → f v ≡ x) → listed f n ≡ replicate n x
listed-same f n x same =
    ext_get_or None (listed f n) (replicate n x) (length-listed f n ∙ sym (length-replicate n x))
    (λ u m. let m' : u < n = omega (arith, m, length-listed f n) in measure_at-listed f n u m' ∙ same u m' ∙ sym (get_or-replicate n u x None m'))
