-- Literals and gates that are numbered one after the other.
use Rattle.std.proofs.Common.{◌≡◌, ◌⊎◌, inl, inr, ℕ, ◌+◌, ◌*◌, ◌/◌, ◌%◌, ◌<◌, ◌≤◌, List, All, [], ◌∷◌, ◌++◌, length, get_or, take, Some, refl, sym, ap, ◌∙◌, subst, arith}
use Rattle.std.specs.Prelude.{nat_eq, position}
use Rattle.std.specs.List.{Contains}
use Rattle.std.proofs.lemmas.Bool.{cases_lt}
use Rattle.std.proofs.lemmas.Bool.Decides.{Decides-eqb}
use Rattle.std.proofs.lemmas.List.{get_or-take, get_or_append_left, get_or_default, get_or_push, length-take, length_push}
use Rattle.std.proofs.lemmas.List.Quantifiers.{position-Some}
use Rattle.omega_circuit.specs.private.Numbers.{AreNets, AreNumbered, IsNet, IsNumbered, gate_at}
use Rattle.omega_circuit.specs.declared.gate.Gate.{Gate}

-- the literal at the place where the variable is found
pub numbered_at : (variables : List ℕ) (literal place : ℕ) → position (nat_eq (literal / 2)) variables ≡ Some place → IsNumbered variables literal (2 * place + literal % 2)
numbered_at variables literal place found =
    let at = position-Some (nat_eq (literal / 2)) variables place 0 found in
    let half : (2 * place + literal % 2) / 2 ≡ place = omega arith in
    record {
      within = omega (arith, half, at.0);
      variable = ap (λ n. get_or variables n 0) half ∙ sym ((Decides-eqb (literal / 2) (get_or variables place 0)).0 at.1);
      sign = omega arith;
    }

-- its variable is there
pub numbered_there : (variables : List ℕ) (literal number : ℕ) → IsNumbered variables literal number → Contains variables (literal / 2)
numbered_there variables literal number is = (number / 2, is.within, get_or_default variables (number / 2) (literal / 2) 0 is.within ∙ is.variable)

-- the gate at a place of the first gates and one more
pub nets_more : (variables : List ℕ) (first : ℕ) (gates nets : List Gate) (k : ℕ) (net : Gate) → k < length gates → AreNets variables first (take k gates) nets
    → IsNet variables (first + k) (gate_at gates k) net → AreNets variables first (take (k + 1) gates) (nets ++ net ∷ [])
nets_more variables first gates nets k net small are one = record {
  long = omega (arith, count, before, are.long, length_push nets net);
  each = λ j within. each j (omega (arith, within, count)) (cases_lt j k);
}
  where
    count : length (take (k + 1) gates) ≡ k + 1
    count = let e = length-take (k + 1) gates in omega (arith, e, small)

    before : length (take k gates) ≡ k
    before = let e = length-take k gates in omega (arith, e, small)

    each : (j : ℕ) → j < k + 1 → (j < k) ⊎ (k ≤ j) → IsNet variables (first + j) (gate_at (take (k + 1) gates) j) (gate_at (nets ++ net ∷ []) j)
    each j within (inl earlier) =
        let none : Gate = record { literal = 0; left = 0; right = 0 } in
        let old : IsNet variables (first + j) (gate_at (take k gates) j) (gate_at nets j) = are.each j (omega (arith, earlier, before)) in
        let same : gate_at (take k gates) j ≡ gate_at (take (k + 1) gates) j = get_or-take k gates j none earlier ∙ sym (get_or-take (k + 1) gates j none within) in
        let kept : gate_at nets j ≡ gate_at (nets ++ net ∷ []) j = sym (get_or_append_left nets (net ∷ []) none j (omega (arith, earlier, before, are.long))) in
        subst (λ (g : Gate). IsNet variables (first + j) g (gate_at (nets ++ net ∷ []) j)) same (subst (λ (g : Gate). IsNet variables (first + j) (gate_at (take k gates) j) g) kept old)
    each j within (inr past) =
        let none : Gate = record { literal = 0; left = 0; right = 0 } in
        let here : k ≡ j = omega (arith, within, past) in
        let same : gate_at gates k ≡ gate_at (take (k + 1) gates) j = ap (gate_at gates) here ∙ sym (get_or-take (k + 1) gates j none within) in
        let last : net ≡ gate_at (nets ++ net ∷ []) j = sym (get_or_push nets net none j (omega (arith, here, before, are.long))) in
        subst (λ m. IsNet variables (first + m) (gate_at (take (k + 1) gates) j) (gate_at (nets ++ net ∷ []) j)) here
        (subst (λ (g : Gate). IsNet variables (first + k) g (gate_at (nets ++ net ∷ []) j)) same (subst (λ (g : Gate). IsNet variables (first + k) (gate_at gates k) g) last one))

-- no gates are numbered at first
pub nets_none : (variables : List ℕ) (first : ℕ) (gates : List Gate) → AreNets variables first (take 0 gates) []
nets_none variables first gates = record { long = refl; each = λ k within. absurd (omega (arith, within)) }

-- the literal at a place of the first literals and one more
pub numbered_more : (variables literals numbers : List ℕ) (k number : ℕ) → k < length literals → AreNumbered variables (take k literals) numbers
    → IsNumbered variables (get_or literals k 0) number → AreNumbered variables (take (k + 1) literals) (numbers ++ number ∷ [])
numbered_more variables literals numbers k number small are one = record {
  long = omega (arith, count, before, are.long, length_push numbers number);
  each = λ j within. each j (omega (arith, within, count)) (cases_lt j k);
}
  where
    count : length (take (k + 1) literals) ≡ k + 1
    count = let e = length-take (k + 1) literals in omega (arith, e, small)

    before : length (take k literals) ≡ k
    before = let e = length-take k literals in omega (arith, e, small)

    each : (j : ℕ) → j < k + 1 → (j < k) ⊎ (k ≤ j) → IsNumbered variables (get_or (take (k + 1) literals) j 0) (get_or (numbers ++ number ∷ []) j 0)
    each j within (inl earlier) =
        let old : IsNumbered variables (get_or (take k literals) j 0) (get_or numbers j 0) = are.each j (omega (arith, earlier, before)) in
        let same : get_or (take k literals) j 0 ≡ get_or (take (k + 1) literals) j 0 = get_or-take k literals j 0 earlier ∙ sym (get_or-take (k + 1) literals j 0 within) in
        let kept : get_or numbers j 0 ≡ get_or (numbers ++ number ∷ []) j 0 = sym (get_or_append_left numbers (number ∷ []) 0 j (omega (arith, earlier, before, are.long))) in
        subst (λ n. IsNumbered variables n (get_or (numbers ++ number ∷ []) j 0)) same (subst (λ n. IsNumbered variables (get_or (take k literals) j 0) n) kept old)
    each j within (inr past) =
        let here : k ≡ j = omega (arith, within, past) in
        let same : get_or literals k 0 ≡ get_or (take (k + 1) literals) j 0 = ap (λ n. get_or literals n 0) here ∙ sym (get_or-take (k + 1) literals j 0 within) in
        let last : number ≡ get_or (numbers ++ number ∷ []) j 0 = sym (get_or_push numbers number 0 j (omega (arith, here, before, are.long))) in
        subst (λ n. IsNumbered variables n (get_or (numbers ++ number ∷ []) j 0)) same (subst (λ n. IsNumbered variables (get_or literals k 0) n) last one)

-- numbered literals have their variables there
pub all_there : (variables literals numbers : List ℕ) → AreNumbered variables literals numbers → All (λ literal. Contains variables (literal / 2)) literals
all_there variables literals numbers are k d within =
    subst (λ n. Contains variables (n / 2)) (get_or_default literals k 0 d within)
    (numbered_there variables (get_or literals k 0) (get_or numbers k 0) (are.each k within))

-- numbers are below the count of variables
pub numbers_within : (variables literals numbers : List ℕ) (count : ℕ) → count ≡ length variables → AreNumbered variables literals numbers → All (λ number. number / 2 < count) numbers
numbers_within variables literals numbers count is are k d within =
    subst (λ n. n / 2 < count) (get_or_default numbers k 0 d within)
    (let e = are.each k (omega (arith, within, are.long)) in omega (arith, e.within, is))
