-- The letter of a round, joined of the system's letter and of the environment's.
use Rattle.std.proofs.Common.{◌≡◌, ◌==◌, ℕ, zero, suc, Bool, true, false, inl, inr, if◌then◌else◌, List, [], ◌∷◌, Contains, refl, sym, ap, ◌∙◌, arith, eqb-true, eq-eqb, true≢false}
use Rattle.std.proofs.Math.Path.{fun_ext}
use Rattle.std.proofs.lemmas.Bool.{false_from_ne_true, or_cases, or_left, or_right}
use Rattle.omega_synth_controllers.specs.Controllers.{AgreeOnInputs}
use Rattle.omega_synth_controllers.specs.Strategies.{is_controlled, joined}

-- a proposition is listed exactly if it is found
pub found_listed : (controlled : List ℕ) (p : ℕ) → is_controlled controlled p ≡ true → Contains controlled p
found_listed [] p found = absurd (true≢false (sym found))
found_listed (other ∷ controlled) p found = elim (or_cases (other == p) (is_controlled controlled p) found) [
  | inl here ↦ (0, omega arith, eqb-true other p here)
  | inr later ↦ let rest = found_listed controlled p later in (suc rest.0, omega (arith, rest.1), rest.2)
]

pub listed_found : (controlled : List ℕ) (p : ℕ) → Contains controlled p → is_controlled controlled p ≡ true
listed_found [] p (k, below, is) = absurd (omega arith)
listed_found (other ∷ controlled) p (zero, below, is) = or_left (other == p) (is_controlled controlled p) (eq-eqb other p is)
listed_found (other ∷ controlled) p (suc k, below, is) =
    or_right (other == p) (is_controlled controlled p) (listed_found controlled p (k, omega arith, is))

-- the joined letter agrees with the environment's on the inputs
pub agrees_joined : (controlled : List ℕ) (own given : ℕ → Bool) → AgreeOnInputs controlled given (joined controlled own given)
agrees_joined controlled own given p input =
    let free : is_controlled controlled p ≡ false = false_from_ne_true (is_controlled controlled p) (λ found. input (found_listed controlled p found)) in
    sym (ap (λ b. if b then own p else given p) free)

-- a letter that agrees with the environment's on the inputs is joined of the two
pub joined_is : (controlled : List ℕ) (own given : ℕ → Bool) → AgreeOnInputs controlled given own → own ≡ joined controlled own given
joined_is controlled own given agrees = fun_ext (λ p. at p (is_controlled controlled p) refl)
  where
    at : (p : ℕ) (b : Bool) → is_controlled controlled p ≡ b → own p ≡ joined controlled own given p
    at p true is = sym (ap (λ b. if b then own p else given p) is)
    at p false is =
        sym (agrees p (λ listed. true≢false (sym (listed_found controlled p listed) ∙ is))) ∙ sym (ap (λ b. if b then own p else given p) is)
