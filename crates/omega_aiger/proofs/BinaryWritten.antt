-- What is written of a delta, byte by byte.
use Rattle.std.proofs.Common.{◌≡◌, ℕ, suc, ◌+◌, ◌-◌, ◌/◌, ◌%◌, ◌<◌, ◌≤◌, List, [], ◌∷◌, ◌++◌, sym, ap, ◌∙◌, arith, append_assoc}
use Rattle.std.specs.Prelude.{nat_lt}
use Rattle.std.proofs.lemmas.Bool.{le-ltb, lt-ltb}
use Rattle.omega_aiger.specs.BinaryText.{delta_bytes}
use Rattle.omega_aiger.proofs.Greatest.{append_on}
use Rattle.omega_aiger.proofs.Splits.{no, yes}

-- so many bytes were written, of four before the last, and the text is written after the rest
abbrev pub IsWritten : (written : ℕ) → (out : List ℕ) → (rest : ℕ) → List ℕ → Type 0
IsWritten written out rest all = out ++ delta_bytes (4 - written) rest ≡ all

module _ (written rest : ℕ) (out new all : List ℕ) (so_far : IsWritten written out rest all) where
  -- one byte with the high bit
  pub goes_on : written < 4 → 128 ≤ rest → new ≡ out ++ (rest % 128 + 128) ∷ [] → IsWritten (written + 1) new (rest / 128) all
  goes_on before great is =
      ap (λ (l : List ℕ). l ++ delta_bytes (4 - (written + 1)) (rest / 128)) is
      ∙ append_assoc out ((rest % 128 + 128) ∷ []) (delta_bytes (4 - (written + 1)) (rest / 128))
      ∙ ap (λ (l : List ℕ). out ++ l)
      (sym (ap (λ most. delta_bytes most rest) (let e : 4 - written ≡ suc (4 - (written + 1)) = omega (arith, before) in e)
      ∙ no (nat_lt rest 128) (rest ∷ []) ((rest % 128 + 128) ∷ delta_bytes (4 - (written + 1)) (rest / 128)) (le-ltb rest 128 great)))
      ∙ so_far

  -- the last byte, early
  pub ends_low : written < 4 → rest < 128 → new ≡ out ++ rest ∷ [] → new ≡ all
  ends_low before low is =
      is
      ∙ ap (λ (l : List ℕ). out ++ l)
      (sym (ap (λ most. delta_bytes most rest) (let e : 4 - written ≡ suc (4 - (written + 1)) = omega (arith, before) in e)
      ∙ yes (nat_lt rest 128) (rest ∷ []) ((rest % 128 + 128) ∷ delta_bytes (4 - (written + 1)) (rest / 128)) (lt-ltb rest 128 low)))
      ∙ so_far

  -- or after four others
  pub ends_last : 4 ≤ written → new ≡ out ++ rest % 128 ∷ [] → new ≡ all
  ends_last past is =
      is ∙ ap (λ (l : List ℕ). out ++ l) (sym (ap (λ most. delta_bytes most rest) (let e : 4 - written ≡ 0 = omega (arith, past) in e))) ∙ so_far

-- five pieces, one after the other
pub five_pieces : (start a b c d new p q r s t : List ℕ) → a ≡ start ++ p → b ≡ a ++ q → c ≡ b ++ r → d ≡ c ++ s → new ≡ d ++ t → new ≡ start ++ (p ++ (q ++ (r ++ (s ++ t))))
five_pieces start a b c d new p q r s t one two three four five =
    five ∙ append_on c d s t four ∙ append_on b c r (s ++ t) three ∙ append_on a b q (r ++ (s ++ t)) two ∙ append_on start a p (q ++ (r ++ (s ++ t))) one
