-- Plain texts are as long as the texts.
use Rattle.std.proofs.Common.{◌≡◌, ℕ, suc, true, false, List, [], ◌∷◌, length, drop, refl, ap}
use Rattle.std.specs.Prelude.{◌==◌, ◌&&◌}
use Rattle.std.proofs.lemmas.Bool.{and_parts, cond_both}
use Rattle.omega_pg_lenient.specs.Laws.{PlainTextsKeepPlaces}
use Rattle.omega_pg_lenient.specs.Plain.{after, begins_with_mark, plain_from}
use Rattle.omega_pg_lenient.specs.declared.context.Context.{Context}
use Rattle.omega_pg_lenient.specs.declared.context.Context.TheVariants.{Outside}

-- each byte has one that stands for it
plain_from-length : (context : Context) (bytes : List ℕ) → length (plain_from context bytes) ≡ length bytes
plain_from-length context [] = refl
plain_from-length context (byte ∷ rest) = ap suc (plain_from-length (after context byte rest) rest)

-- a byte order mark is three bytes
marked : (source : List ℕ) → begins_with_mark source ≡ true → length (32 ∷ 32 ∷ 32 ∷ plain_from Outside (drop 3 source)) ≡ length source
marked [] mark = (let clash : false ≡ true = mark in cc)
marked (a ∷ []) mark = (let clash : false ≡ true = (and_parts (a == 239 && 0 == 187) (0 == 191) mark).1 in cc)
marked (a ∷ b ∷ []) mark = (let clash : false ≡ true = (and_parts (a == 239 && b == 187) (0 == 191) mark).1 in cc)
marked (a ∷ b ∷ c ∷ rest) mark = ap (λ n. suc (suc (suc n))) (plain_from-length Outside rest)

pub places_kept : PlainTextsKeepPlaces
places_kept source =
    cond_both (begins_with_mark source) (32 ∷ 32 ∷ 32 ∷ plain_from Outside (drop 3 source)) (plain_from Outside source)
    (λ text. length text ≡ length source) (marked source) (λ _. plain_from-length Outside source)
