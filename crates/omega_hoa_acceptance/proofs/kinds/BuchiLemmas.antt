-- Generalized Büchi formulas hold where every set occurs.
use Rattle.std.proofs.Common.{◌≡◌, ℕ, ◌<◌, zero, suc, true, false, List, ap, refl, ◌∙◌, arith, inl, inr}
use Rattle.std.proofs.lemmas.Bool.{and_from, and_parts, cases_eq}
use Rattle.omega_hoa_acceptance.specs.Acceptance.{accepts, occurs}
use Rattle.omega_hoa_acceptance.specs.Kind.{buchi_formula}

-- where the formula holds, every set occurs
pub every-occurs : (count : ℕ) (forever : List (List ℕ)) → accepts forever (buchi_formula count) ≡ true
    → (set : ℕ) → set < count → occurs forever false set ≡ true
every-occurs zero forever is set lt = absurd (omega arith)
every-occurs (suc zero) forever is set lt = let e : set ≡ 0 = omega arith in ap (occurs forever false) e ∙ is
every-occurs (suc (suc count)) forever is set lt =
    let parts = and_parts (accepts forever (buchi_formula (suc count))) (occurs forever false (suc count)) is in
    elim (cases_eq set (suc count)) [
      | inl same ↦ ap (occurs forever false) same ∙ parts.1
      | inr other ↦ every-occurs (suc count) forever parts.0 set (omega arith)
    ]

-- where every set occurs, the formula holds
pub holds-every : (count : ℕ) (forever : List (List ℕ)) → ((set : ℕ) → set < count → occurs forever false set ≡ true)
    → accepts forever (buchi_formula count) ≡ true
holds-every zero forever every = refl
holds-every (suc zero) forever every = every 0 (omega arith)
holds-every (suc (suc count)) forever every =
    and_from (accepts forever (buchi_formula (suc count))) (occurs forever false (suc count))
    (holds-every (suc count) forever (λ set lt. every set (omega arith))) (every (suc count) (omega arith))
