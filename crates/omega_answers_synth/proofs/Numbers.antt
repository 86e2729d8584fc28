-- The numbers of states that are reached, and the states of numbers.
use Rattle.std.proofs.Common.{◌≡◌, ℕ, zero, suc, ◌+◌, ◌<◌, ◌⊎◌, inl, inr, Bool, true, cond, List, [], ◌∷◌, ◌++◌, length, get_or, sym, ap, ◌∙◌, arith, add-one}
use Rattle.std.specs.List.{filter, range_with_len}
use Rattle.std.proofs.lemmas.Bool.{cases_lt}
use Rattle.std.proofs.lemmas.List.{get_or_append_left, get_or-append-add, length-append}
use Rattle.std.proofs.lemmas.List.Sums.{length-filter}
use Rattle.omega_synth_text.specs.Winner.{number_of}
use Rattle.omega_answers_synth.proofs.Ranges.{filter_range_more}

module _ (reached : ℕ → Bool) where
  -- the state with a number, of this many
  abbrev pub state_of : ℕ → ℕ → ℕ
  state_of states number = get_or (filter reached (range_with_len 0 states)) number 0

  pub record IsFoundAt (states state : ℕ) : Type 0 where
    pub below : number_of reached state < length (filter reached (range_with_len 0 states))
    pub is : state_of states (number_of reached state) ≡ state

  -- a state that is reached is that of its number
  pub found_at : (states state : ℕ) → state < states → reached state ≡ true → IsFoundAt states state
  found_at zero state below there = absurd (omega (arith, below))
  found_at (suc states) state below there = go (last_or (omega (arith, below))) (λ small. found_at states state small there)
    where
      before : List ℕ
      before = filter reached (range_with_len 0 states)

      more : filter reached (range_with_len 0 (suc states)) ≡ before ++ cond (reached states) (states ∷ []) []
      more = ap (λ (n : ℕ). filter reached (range_with_len 0 n)) (sym (add-one states)) ∙ filter_range_more reached states

      last_or : state < states + 1 → (state < states) ⊎ (state ≡ states)
      last_or less = elim (cases_lt state states) [
        | inl small ↦ inl small
        | inr large ↦ inr (omega (arith, large, less))
      ]

      go : (state < states) ⊎ (state ≡ states) → (state < states → IsFoundAt states state) → IsFoundAt (suc states) state
      go (inl small) before_it =
          let rest : IsFoundAt states state = before_it small in
          let long : length (filter reached (range_with_len 0 (suc states))) ≡ length before + length (cond (reached states) (states ∷ []) []) =
          ap length more ∙ length-append before (cond (reached states) (states ∷ []) []) in
          record {
            below = omega (arith, rest.below, long);
            is = ap (λ (xs : List ℕ). get_or xs (number_of reached state) 0) more
                ∙ get_or_append_left before (cond (reached states) (states ∷ []) []) 0 (number_of reached state) rest.below ∙ rest.is;
          }
      go (inr same) before_it =
          let here : reached states ≡ true = ap reached (sym same) ∙ there in
          let ends : filter reached (range_with_len 0 (suc states)) ≡ before ++ states ∷ [] =
          more ∙ ap (λ (b : Bool). before ++ cond b (states ∷ []) []) here in
          let counted : number_of reached state ≡ length before =
          ap (number_of reached) same ∙ sym (length-filter reached (range_with_len 0 states)) in
          let long : length (filter reached (range_with_len 0 (suc states))) ≡ length before + 1 = ap length ends ∙ length-append before (states ∷ []) in
          let at : number_of reached state ≡ length before + 0 = omega (arith, counted) in
          record {
            below = omega (arith, counted, long);
            is = ap (λ (n : ℕ). get_or (filter reached (range_with_len 0 (suc states))) n 0) at
                ∙ ap (λ (xs : List ℕ). get_or xs (length before + 0) 0) ends
                ∙ get_or-append-add before (states ∷ []) 0 0 ∙ sym same;
          }
