-- Tables of roles: of one number more, and of two lists of numbers.
use Rattle.std.proofs.Common.{◌≡◌, ℕ, ◌+◌, ◌<◌, Bool, true, false, cond, ◌||◌, List, [], ◌∷◌, length, get_or, take, sym, ap, refl, ◌∙◌, arith}
use Rattle.std.specs.Prelude.{◌==◌}
use Rattle.std.proofs.lemmas.List.{take_more}
use Rattle.std.proofs.lemmas.List.Folds.{list_any-append}
use Rattle.omega_hoa_dot.specs.Roles.{is_member}
use Rattle.omega_hoa_dot.specs.declared.role.Role.{Role}
use Rattle.omega_hoa_dot.specs.private.layout.Marking.{AreMarked, role_at}

either_marks : (role other : Role) (one another : Bool) → cond another role (cond one role other) ≡ cond (one || another) role other
either_marks role other true true = refl
either_marks role other true false = refl
either_marks role other false true = refl
either_marks role other false false = refl

-- some numbers, and then one more
pub one_marked : (numbers : List ℕ) (i : ℕ) (role : Role) (before between after : List Role) → i < length numbers → length between ≡ length before
    → AreMarked (take i numbers) role before between → AreMarked (get_or numbers i 0 ∷ []) role between after
    → AreMarked (take (i + 1) numbers) role before after
one_marked numbers i role before between after below same first then number within =
    let one : is_member number (take (i + 1) numbers) ≡ (is_member number (take i numbers) || is_member number (get_or numbers i 0 ∷ [])) =
    ap (is_member number) (take_more numbers i 0 below) ∙ list_any-append (λ other. other == number) (take i numbers) (get_or numbers i 0 ∷ []) in
    then number (omega (arith, within, same))
    ∙ ap (λ other. cond (is_member number (get_or numbers i 0 ∷ [])) role other) (first number within)
    ∙ either_marks role (role_at before number) (is_member number (take i numbers)) (is_member number (get_or numbers i 0 ∷ []))
    ∙ ap (λ b. cond b role (role_at before number)) (sym one)
