-- Numbers each greater than those before it: no two are alike.
use Rattle.std.proofs.Common.{◌≡◌, ℕ, ◌+◌, ◌<◌, ◌≤◌, false, ◌||◌, List, [], ◌∷◌, length, get_or, nat_eq, take, refl, ap, ◌∙◌, arith}
use Rattle.std.specs.List.{list_any}
use Rattle.std.proofs.lemmas.Bool.Decides.{nat_tests}
use Rattle.omega_hoa_automaton.specs.Automaton.{has_repeat}
use Rattle.omega_hoa_automaton.specs.Faults.{count_above}
use Rattle.omega_hoa_automaton.proofs.Greatest.{greatest_more}
use Rattle.omega_hoa_automaton.proofs.Repeats.{has_repeat_past}

-- a number is not the same as a lesser one
unlike_lesser : (number other : ℕ) → other < number → nat_eq number other ≡ false
unlike_lesser number other below = grind (arith, nat_tests, below)

-- nor as one of those that are all lesser
unlike_all : (number : ℕ) (xs : List ℕ) → count_above xs ≤ number → list_any (nat_eq number) xs ≡ false
unlike_all number [] within = refl
unlike_all number (x ∷ xs) within =
    let here : nat_eq number x ≡ false = unlike_lesser number x (omega (arith, within)) in
    let later : list_any (nat_eq number) xs ≡ false = unlike_all number xs (omega (arith, within)) in
    ap (λ b. b || list_any (nat_eq number) xs) here ∙ later

-- one more number, not below the bound of those before it
pub rising_step : (xs : List ℕ) (i number bound : ℕ) → i < length xs → number ≡ get_or xs i 0 → bound ≤ number
    → count_above (take i xs) ≡ bound → has_repeat nat_eq (take i xs) ≡ false
    → (count_above (take (i + 1) xs) ≡ number + 1) × (has_repeat nat_eq (take (i + 1) xs) ≡ false)
rising_step xs i number bound within is above before unlike =
    let more = greatest_more (λ n. n + 1) xs i 0 within in
    let here : count_above (take i xs) ≤ get_or xs i 0 = omega (arith, before, is, above) in (
      omega (arith, more, before, is, above),
      has_repeat_past nat_eq xs i 0 within (unlike_all (get_or xs i 0) (take i xs) here) unlike,
    )
