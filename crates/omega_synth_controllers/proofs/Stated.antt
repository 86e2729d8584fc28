-- Numbers in values: those of the values so far, and why a value is refused.
use Rattle.std.proofs.Common.{◌≡◌, ℕ, zero, suc, ◌+◌, ◌<◌, ◌≤◌, true, false, List, [], ◌∷◌, ◌++◌, length, get_or, take, map, nat_eq, ap, sym, ◌∙◌, arith}
use Rattle.std.specs.List.{list_any}
use Rattle.std.proofs.lemmas.Bool.{false≢true}
use Rattle.std.proofs.lemmas.List.{get_or-map, length-map, map-append, take_more, take-map}
use Rattle.std.proofs.lemmas.List.Elements.{All-append}
use Rattle.omega_hoa_syntax.specs.declared.header_value.HeaderValue.{HeaderValue}
use Rattle.omega_hoa_syntax.specs.declared.header_value.HeaderValue.TheVariants as value
use Rattle.omega_hoa_automaton.specs.Automaton.{AreBelow}
use Rattle.omega_hoa_automaton.proofs.Repeats.{has_repeat-push, has_repeat_here}
use Rattle.omega_synth_controllers.specs.Controllable.{AreNumbersOf}
use Rattle.omega_synth_controllers.proofs.ControlledNumbers.{any_exchanged, number_at, numbers_same}

-- numbers make different values
same_number : (m n : ℕ) → value.Number m ≡ value.Number n → m ≡ n
same_number m n e = cc

module _ (count : ℕ) (values : List HeaderValue) (index : ℕ) (d : HeaderValue) (below : index < length values) where
  -- one number more
  pub stated_more : (numbers : List ℕ) (n : ℕ) → get_or values index d ≡ value.Number n → n < count
      → list_any (λ y. nat_eq y n) numbers ≡ false
      → AreNumbersOf count (take index values) numbers → AreNumbersOf count (take (index + 1) values) (numbers ++ n ∷ [])
  stated_more numbers n here low new so_far = record {
    listed = take_more values index d below ∙ ap (λ (x : HeaderValue). take index values ++ x ∷ []) here
        ∙ ap (λ (xs : List HeaderValue). xs ++ value.Number n ∷ []) so_far.listed ∙ sym (map-append value.Number numbers (n ∷ []));
    below = All-append (λ number. number < count) numbers (n ∷ []) so_far.below (one n low);
    unlike = has_repeat-push nat_eq numbers n ∙ rw so_far.unlike (sym (any_exchanged n numbers) ∙ new);
  }
    where
      one : (n : ℕ) → n < count → AreBelow count (n ∷ [])
      one n low k e within = elim k as (λ k. k < 1 → get_or (n ∷ []) k e < count) [ zero ↦ λ first. low | suc k ↦ λ later. absurd (omega arith) ] within

  -- a value that is no number
  pub none_stated : ((n : ℕ) → get_or values index d ≡ value.Number n → ⊥) → (all : List ℕ) → AreNumbersOf count values all → ⊥
  none_stated other all are =
      let within : index < length all = omega (arith, ap length are.listed, length-map all value.Number) in
      other (get_or all index 0) (number_there all within are.listed)
    where
      number_there : (all : List ℕ) → index < length all → values ≡ map value.Number all → get_or values index d ≡ value.Number (get_or all index 0)
      number_there all within listed = ap (λ (vs : List HeaderValue). get_or vs index d) listed ∙ get_or-map value.Number all index 0 d within

  -- a number that no proposition has
  pub none_beyond : (n : ℕ) → get_or values index d ≡ value.Number n → count ≤ n → (all : List ℕ) → AreNumbersOf count values all → ⊥
  none_beyond n here high all are =
      let within : index < length all = omega (arith, ap length are.listed, length-map all value.Number) in
      let is : get_or all index 0 ≡ n = number_at value.Number same_number values all index n d are.listed below here in
      let low : get_or all index 0 < count = are.below index 0 within in
      omega arith

  -- a number that stands before
  pub none_again : (numbers : List ℕ) (n : ℕ) → get_or values index d ≡ value.Number n
      → list_any (λ y. nat_eq y n) numbers ≡ true → AreNumbersOf count (take index values) numbers
      → (all : List ℕ) → AreNumbersOf count values all → ⊥
  none_again numbers n here found so_far all are =
      let within : index < length all = omega (arith, ap length are.listed, length-map all value.Number) in
      let is : get_or all index 0 ≡ n = number_at value.Number same_number values all index n d are.listed below here in
      let front : numbers ≡ take index all =
      numbers_same value.Number same_number numbers (take index all)
      (sym so_far.listed ∙ (ap (take index) are.listed ∙ take-map value.Number index all)) in
      let there : list_any (nat_eq n) (take index all) ≡ true = ap (list_any (nat_eq n)) (sym front) ∙ sym (any_exchanged n numbers) ∙ found in
      let again : list_any (nat_eq (get_or all index 0)) (take index all) ≡ true = ap (λ (k : ℕ). list_any (nat_eq k) (take index all)) is ∙ there in
      false≢true (sym are.unlike ∙ has_repeat_here nat_eq all index 0 within again)
