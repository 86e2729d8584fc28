-- A whole text as one piece of a stream.
use Rattle.std.proofs.Common.{◌≡◌, ℕ, ◌+◌, ◌≤◌, ◌<◌, List, [], length, sym, ap, subst, inl, inr, append-nil, arith}
use Rattle.std.proofs.lemmas.Bool.{cases_lt}
use Rattle.std.specs.Prelude.{Result, Err}
use Rattle.omega_text.specs.Cases.{or_memory}
use Rattle.omega_text.specs.Limits.{most_text}
use Rattle.omega_text.specs.declared.refusal.Refusal.{Refusal}
use Rattle.omega_text.specs.declared.refusal.Refusal.TheVariants.{Text}
use Rattle.omega_text.specs.declared.refusal.text.TextFault.TheVariants.{TooLong}
use Rattle.omega_hoa.specs.Kept.{Kept}
use Rattle.omega_hoa.specs.Feeding.{IsRefusedThen}
use Rattle.omega_hoa.specs.Stream.{IsStreamFault, IsStreamRefusal}
use Rattle.omega_hoa.specs.declared.item.Item.{Item}
use Rattle.omega_hoa.proofs.Ones.{of_memory}

-- equal answers have equal errors
pub errors_are_one : {A : Type 0} (one other : Refusal) → ◌≡◌ {A = Result A Refusal} (Err one) (Err other) → one ≡ other
errors_are_one one other is = cc

-- a refusal of the piece is one of the text
pub piece_refused : (bytes : List ℕ) (start : Kept) (old new : List Item) (refusal : Refusal) → start.begins ≡ 0 → start.bytes ≡ []
    → (most_text < start.begins + length start.bytes + length bytes → refusal ≡ Text TooLong)
    → (start.begins + length start.bytes + length bytes ≤ most_text → IsRefusedThen bytes old new [] refusal)
    → or_memory (IsStreamRefusal bytes) refusal
piece_refused bytes start old new refusal begins empty long fits =
    let none = ap length empty in
    elim (cases_lt most_text (start.begins + length start.bytes + length bytes)) [
      | inl more ↦ of_memory (IsStreamRefusal bytes) refusal (inl (long more, omega (arith, more, begins, none)))
      | inr most ↦ elim (fits most) [
        | inl memory ↦ subst (or_memory (IsStreamRefusal bytes)) (sym memory) tt
        | inr refused ↦ of_memory (IsStreamRefusal bytes) refusal
            (inr (omega (arith, most, begins, none), (refused.added, subst (λ source. IsStreamFault source refused.added refusal) (append-nil bytes) (refused.holds []))))
      ]
    ]
