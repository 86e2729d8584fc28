-- Acceptances in which each set has to recur: their names, and how deep their formulas are.
use Rattle.std.proofs.Common.{◌≡◌, ℕ, zero, suc, ◌≤◌, [], ◌∷◌, codes, refl, arith}
use Rattle.omega_hoa_acceptance.specs.Writing.{acc_written}
use Rattle.omega_hoa_acceptance.specs.Acceptance.{acc_depth}
use Rattle.omega_hoa_acceptance.specs.Kind.{buchi_formula}
use Rattle.omega_hoa_acceptance.specs.Raw.{raw_acc_depth}
use Rattle.omega_hoa_acceptance.specs.declared.name.Parameter.TheVariants.{Number}
use Rattle.omega_lang_product.specs.Acceptance.{buchi_name}

-- the name of two sets and more has their number
pub named_many : (sets : ℕ) → 2 ≤ sets → buchi_name sets ≡ record { name = codes "generalized-Buchi"; parameters = Number sets ∷ [] }
named_many zero many = absurd (omega (arith, many))
named_many (suc zero) many = absurd (omega (arith, many))
named_many (suc (suc more)) many = refl

-- the formula is no deeper than it has sets
pub buchi_depth : (n : ℕ) → raw_acc_depth (acc_written (buchi_formula (suc n))) ≤ suc n
buchi_depth zero = omega arith
buchi_depth (suc zero) = omega arith
buchi_depth (suc (suc k)) = let less = buchi_depth (suc k) in omega (arith, less)

pub formula_depth : (n : ℕ) → acc_depth (buchi_formula (suc n)) ≤ suc n
formula_depth zero = omega arith
formula_depth (suc zero) = omega arith
formula_depth (suc (suc k)) = let less = formula_depth (suc k) in omega (arith, less)
