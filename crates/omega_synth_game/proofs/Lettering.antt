-- Letters over inputs by number.
use Rattle.std.proofs.Common.{◌≡◌, ℕ, ◌+◌, ◌*◌, ◌/◌, ◌%◌, ◌^◌, ◌<◌, Bool, true, false, cond, eqb, List, [], ◌∷◌, ◌++◌, length, drop, get_or, suc, sym, ap, refl, ◌∙◌, add-one, arith, append_assoc, drop-cons, pow-suc}
use Rattle.std.specs.Prelude.{filter}
use Rattle.std.proofs.lemmas.Bool.{cond-false, cond-true}
use Rattle.omega_synth_game.specs.Letters.{letter_numbered}

digit : Bool → ℕ
digit value = cond value 1 0

digit_low : (value : Bool) → digit value < 2
unfolding digit
digit_low true = omega arith
digit_low false = omega arith

-- each choice of the inputs has a number
pub numbered : (given : ℕ → Bool) (inputs : List ℕ) → (number : ℕ) × (number < 2 ^ length inputs) × (letter_numbered inputs number ≡ filter given inputs)
unfolding digit
numbered given [] = (0, omega arith, refl)
numbered given (input ∷ inputs) =
    let rest = numbered given inputs in
    go (given input) refl rest.0 rest.1 rest.2
  where
    go : (holds : Bool) → given input ≡ holds → (more : ℕ) → more < 2 ^ length inputs → letter_numbered inputs more ≡ filter given inputs
        → (number : ℕ) × (number < 2 ^ length (input ∷ inputs)) × (letter_numbered (input ∷ inputs) number ≡ filter given (input ∷ inputs))
    go true holds more low is =
        let odd : (2 * more + 1) % 2 ≡ 1 = omega arith in
        let half : (2 * more + 1) / 2 ≡ more = omega arith in (
          2 * more + 1,
          omega (arith, low, pow-suc 2 (length inputs)),
          ap (λ n. cond (eqb n 1) (input ∷ letter_numbered inputs ((2 * more + 1) / 2)) (letter_numbered inputs ((2 * more + 1) / 2))) odd
              ∙ ap (λ n. input ∷ letter_numbered inputs n) half ∙ ap (λ list. input ∷ list) is
              ∙ sym (cond-true (given input) (input ∷ filter given inputs) (filter given inputs) holds),
        )
    go false holds more low is =
        let even : (2 * more) % 2 ≡ 0 = omega arith in
        let half : (2 * more) / 2 ≡ more = omega arith in (
          2 * more,
          omega (arith, low, pow-suc 2 (length inputs)),
          ap (λ n. cond (eqb n 1) (input ∷ letter_numbered inputs ((2 * more) / 2)) (letter_numbered inputs ((2 * more) / 2))) even
              ∙ ap (letter_numbered inputs) half ∙ is
              ∙ sym (cond-false (given input) (input ∷ filter given inputs) (filter given inputs) holds),
        )

-- one input more of a letter
module _ (letter inputs : List ℕ) (index input digits : ℕ) (d : ℕ) (below : index < length inputs) (here : input ≡ get_or inputs index d) where
  abbrev after : List ℕ
  after = letter_numbered (drop (index + 1) inputs) (digits / 2)

  opened : letter_numbered (drop index inputs) digits ≡ cond (eqb (digits % 2) 1) (input ∷ after) after
  opened =
      ap (λ list. letter_numbered list digits) (drop-cons inputs index d below)
      ∙ ap (λ n. cond (eqb (digits % 2) 1) (n ∷ letter_numbered (drop (suc index) inputs) (digits / 2)) (letter_numbered (drop (suc index) inputs) (digits / 2))) (sym here)
      ∙ ap (λ k. cond (eqb (digits % 2) 1) (input ∷ letter_numbered (drop k inputs) (digits / 2)) (letter_numbered (drop k inputs) (digits / 2))) (sym (add-one index))

  pub input_holds : digits % 2 ≡ 1 → (letter ++ input ∷ []) ++ after ≡ letter ++ letter_numbered (drop index inputs) digits
  input_holds odd =
      append_assoc letter (input ∷ []) after
      ∙ ap (λ list. letter ++ list) (sym (opened ∙ ap (λ n. cond (eqb n 1) (input ∷ after) after) odd))

  pub input_fails : (digits % 2 ≡ 1 → ⊥) → letter ++ after ≡ letter ++ letter_numbered (drop index inputs) digits
  input_fails even =
      let zero_is : digits % 2 ≡ 0 = omega (arith, even) in
      ap (λ list. letter ++ list) (sym (opened ∙ ap (λ n. cond (eqb n 1) (input ∷ after) after) zero_is))
