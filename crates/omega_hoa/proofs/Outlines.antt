-- The outline of a text, token by token.
use Rattle.std.proofs.Common.{◌≡◌, ℕ, List, [], ◌∷◌, ◌++◌, refl, ap, ◌∙◌, append_assoc}
use Rattle.omega_text.specs.Lexeme.{Lexeme}
use Rattle.omega_text.specs.declared.hoa.kind.HoaKind.{HoaKind}
use Rattle.omega_text.specs.declared.hoa.kind.HoaKind.TheVariants.{End, Abort}
use Rattle.omega_hoa.specs.Stream.{IsOpen}
use Rattle.omega_hoa.specs.private.outlines.Outline.{BeginsAborted, BeginsStray, IsFollowed, IsOutline, IsWhole}
use Rattle.omega_hoa.specs.declared.outline.TextOutline.{TextOutline}
use Rattle.omega_hoa.specs.declared.outline.TextOutline.TheVariants.{Empty, Stray, Open, Aborted, Whole, Followed}

-- a stray token stays the first
stray_push : (lexemes : List (Lexeme HoaKind)) (last : Lexeme HoaKind) (at : ℕ) → BeginsStray lexemes at → BeginsStray (lexemes ++ last ∷ []) at
stray_push lexemes last at stray = record {
  first = stray.first;
  rest = stray.rest ++ last ∷ [];
  split = ap (λ all. all ++ last ∷ []) stray.split;
  other = stray.other;
  there = stray.there;
}

-- an aborted segment stays the first
aborted_push : (lexemes : List (Lexeme HoaKind)) (last : Lexeme HoaKind) (at : ℕ) → BeginsAborted lexemes at → BeginsAborted (lexemes ++ last ∷ []) at
aborted_push lexemes last at aborted = record {
  inside = aborted.inside;
  last = aborted.last;
  rest = aborted.rest ++ last ∷ [];
  split = ap (λ all. all ++ last ∷ []) aborted.split ∙ append_assoc aborted.inside (aborted.last ∷ aborted.rest) (last ∷ []);
  begun = aborted.begun;
  aborts = aborted.aborts;
  there = aborted.there;
}

-- what follows a segment stays the next
followed_push : (lexemes : List (Lexeme HoaKind)) (last : Lexeme HoaKind) (end at : ℕ) → IsFollowed lexemes end at → IsFollowed (lexemes ++ last ∷ []) end at
followed_push lexemes last end at followed = record {
  front = followed.front;
  next = followed.next;
  rest = followed.rest ++ last ∷ [];
  split = ap (λ all. all ++ last ∷ []) followed.split ∙ append_assoc followed.front (followed.next ∷ followed.rest) (last ∷ []);
  whole = followed.whole;
  there = followed.there;
}

-- a segment is followed
pub followed : (lexemes : List (Lexeme HoaKind)) (last : Lexeme HoaKind) (end : ℕ) → IsWhole lexemes end → IsFollowed (lexemes ++ last ∷ []) end last.span.start
followed lexemes last end whole = record { front = lexemes; next = last; rest = []; split = refl; whole = whole; there = refl }

-- an outline that no token changes
pub outline_stays : (outline : TextOutline) (lexemes : List (Lexeme HoaKind)) (last : Lexeme HoaKind) → (outline ≡ Empty → ⊥) → (outline ≡ Open → ⊥) → ((end : ℕ) → outline ≡ Whole end → ⊥)
    → IsOutline lexemes outline → IsOutline (lexemes ++ last ∷ []) outline
outline_stays Empty lexemes last empty begun whole is = absurd (empty refl)
outline_stays (Stray at) lexemes last empty begun whole is = stray_push lexemes last at is
outline_stays Open lexemes last empty begun whole is = absurd (begun refl)
outline_stays (Aborted at) lexemes last empty begun whole is = aborted_push lexemes last at is
outline_stays (Whole end) lexemes last empty begun whole is = absurd (whole end refl)
outline_stays (Followed end next) lexemes last empty begun whole is = followed_push lexemes last end next is

-- `--ABORT--` ends a segment
pub aborts : (lexemes : List (Lexeme HoaKind)) (last : Lexeme HoaKind) → IsOpen lexemes → last.kind ≡ Abort → BeginsAborted (lexemes ++ last ∷ []) last.span.start
aborts lexemes last begun is = record { inside = lexemes; last = last; rest = []; split = refl; begun = begun; aborts = is; there = refl }

-- `--END--` ends a segment
pub ends : (lexemes : List (Lexeme HoaKind)) (last : Lexeme HoaKind) → IsOpen lexemes → last.kind ≡ End → IsWhole (lexemes ++ last ∷ []) last.span.end
ends lexemes last begun is = record { inside = lexemes; last = last; split = refl; begun = begun; ends = is; there = refl }
