-- The states of letters, one after another.
use Rattle.std.proofs.Common.{◌≡◌, ℕ, suc, ◌+◌, ◌<◌, ◌≤◌, List, [], ◌∷◌, ◌++◌, length, refl, sym, ap, ◌∙◌, arith, append_assoc, length-append, add-zero}
use Rattle.omega_hoa_edges.specs.Limits.{most_states}
use Rattle.omega_hoa_label.specs.Raw.{RawLabelTree}
use Rattle.omega_hoa_syntax.specs.declared.raw_state.RawState.{RawState}
use Rattle.omega_lang_inclusion.specs.Written.{letter_state, letter_states, next_state}

module _ (count back : ℕ) where
  -- as many states as letters
  pub states_counted : (number : ℕ) (letters : List RawLabelTree) → length (letter_states count back number letters) ≡ length letters
  states_counted number [] = refl
  states_counted number (letter ∷ letters) = ap suc (states_counted (number + 1) letters)

  -- letters after others
  pub states_after : (number : ℕ) (front rest : List RawLabelTree)
      → letter_states count back number (front ++ rest) ≡ letter_states count back number front ++ letter_states count back (number + length front) rest
  states_after number [] rest = ap (λ n. letter_states count back n rest) (sym (add-zero number))
  states_after number (letter ∷ front) rest =
      let same : (number + 1) + length front ≡ number + suc (length front) = omega arith in
      ap (λ (s : List RawState). letter_state number (next_state count back number) letter ∷ s)
      (states_after (number + 1) front rest ∙ ap (λ n. letter_states count back (number + 1) front ++ letter_states count back n rest) same)

  module _ (old now : List RawState) (yielded : List RawLabelTree) (is : now ≡ old ++ letter_states count back (length old) yielded) where
    -- how many states there are so far
    pub states_so_far : length now ≡ length old + length yielded
    states_so_far = omega (arith, ap length is, length-append old (letter_states count back (length old) yielded), states_counted (length old) yielded)

    -- there is room for one more
    pub state_fits : (letters : List RawLabelTree) → length yielded < length letters → length old + length letters ≤ most_states → length now < most_states
    state_fits letters below few = let size = states_so_far in omega arith

    -- letters more
    pub states_more : (after : List RawState) (rest : List RawLabelTree) → after ≡ now ++ letter_states count back (length now) rest
        → after ≡ old ++ letter_states count back (length old) (yielded ++ rest)
    states_more after rest after_is =
        after_is
        ∙ (ap (λ n. now ++ letter_states count back n rest) states_so_far
        ∙ (ap (λ (s : List RawState). s ++ letter_states count back (length old + length yielded) rest) is
        ∙ (append_assoc old (letter_states count back (length old) yielded) (letter_states count back (length old + length yielded) rest)
        ∙ ap (λ (s : List RawState). old ++ s) (sym (states_after (length old) yielded rest)))))

  -- all states where there were none, with the row's numbers as they were counted
  pub states_done : (stem others letters : List RawLabelTree) (begun all : List RawState)
      → count ≡ length stem + length others + 1 → back ≡ length stem → begun ≡ []
      → all ≡ begun ++ letter_states count back (length begun) letters
      → all ≡ letter_states (length stem + length others + 1) (length stem) 0 letters
  states_done stem others letters begun all count_is back_is begun_is all_is =
      all_is
      ∙ (ap (λ (b : List RawState). b ++ letter_states count back (length b) letters) begun_is
      ∙ (λ i. letter_states (count_is i) (back_is i) 0 letters))
