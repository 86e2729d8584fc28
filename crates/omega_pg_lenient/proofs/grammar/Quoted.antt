-- The name between quotes.
use Rattle.std.proofs.Common.{◌≡◌, ℕ, suc, ◌-◌, true, List, [], ◌∷◌, ◌++◌, length, take, ap, ◌∙◌, arith, length-append}
use Rattle.std.specs.Prelude.{not, ◌==◌, nat_le}
use Rattle.std.specs.Int.{is_in_range}
use Rattle.std.proofs.lemmas.List.{take-append-le, take_all}
use Rattle.std.proofs.lemmas.Bool.{and_parts, eqb-false, leb-true, not-true}
use Rattle.omega_text.specs.Forms.{between_quotes}
use Rattle.omega_text.specs.pg.Forms.{is_name_byte, quoted}
use Rattle.omega_game_values.specs.Game.{IsNameByte}

pub between-quoted : (bytes : List ℕ) → between_quotes (quoted bytes) ≡ bytes
between-quoted bytes =
    let count : suc (length (bytes ++ 34 ∷ [])) - 2 ≡ length bytes = omega (arith, length-append bytes (34 ∷ [])) in
    ap (λ n. take n (bytes ++ 34 ∷ [])) count
    ∙ take-append-le (length bytes) bytes (34 ∷ []) (omega arith)
    ∙ take_all (length bytes) bytes (omega arith)

-- the test of a byte of a name says what such a byte is
pub name_byte : (b : ℕ) → is_name_byte b ≡ true → IsNameByte b
name_byte b e =
    let parts = and_parts (is_in_range 32 126 b) (not (b == 34)) e in
    let range = and_parts (nat_le 32 b) (nat_le b 126) parts.0 in
    (leb-true 32 b range.0, leb-true b 126 range.1, eqb-false b 34 (not-true (b == 34) parts.1))
