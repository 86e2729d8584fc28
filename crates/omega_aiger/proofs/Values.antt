-- The value of few bytes is small.
use Rattle.std.proofs.Common.{◌≡◌, ℕ, zero, suc, ◌+◌, ◌*◌, ◌%◌, ◌^◌, ◌<◌, ◌≤◌, List, [], ◌∷◌, length, get_or, drop, sym, ap, ◌∙◌, arith, length-drop}
use Rattle.std.proofs.Math.Nat.{pow-suc}
use Rattle.std.proofs.lemmas.List.{drop_more}
use Rattle.omega_aiger.specs.Deltas.{delta_value}

value_below : (bytes : List ℕ) → delta_value bytes < 128 ^ length bytes
value_below [] = omega arith
value_below (b ∷ bytes) = let e = value_below bytes in let p = pow-suc 128 (length bytes) in omega (arith, e, p)

five : (value count : ℕ) → value < 128 ^ count → count ≤ 5 → value < 2 ^ 35
five value zero low few = omega (arith, low)
five value (suc zero) low few = omega (arith, low)
five value (suc (suc zero)) low few = omega (arith, low)
five value (suc (suc (suc zero))) low few = omega (arith, low)
five value (suc (suc (suc (suc zero)))) low few = omega (arith, low)
five value (suc (suc (suc (suc (suc zero))))) low few = omega (arith, low)
five value (suc (suc (suc (suc (suc (suc n)))))) low few = absurd (omega (arith, few))

pub value_small : (bytes : List ℕ) (left : ℕ) → length bytes ≤ 5 → delta_value (drop left bytes) < 2 ^ 35
value_small bytes left few = five (delta_value (drop left bytes)) (length (drop left bytes)) (value_below (drop left bytes)) (let e = length-drop left bytes in omega (arith, e, few))

-- one byte more in front
pub value_more : (bytes : List ℕ) (left now value : ℕ) → left ≡ now + 1 → left ≤ length bytes → value ≡ delta_value (drop left bytes) → get_or bytes now 0 % 128 + 128 * value ≡ delta_value (drop now bytes)
value_more bytes left now value is within of_rest =
    ap (λ v. get_or bytes now 0 % 128 + 128 * v) (of_rest ∙ ap (λ n. delta_value (drop n bytes)) is)
    ∙ sym (ap delta_value (drop_more bytes now 0 (omega (arith, is, within))))
