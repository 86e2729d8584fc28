-- Semicolons, where the Hanoi format has a fault.
use Rattle.std.proofs.Common.{◌≡◌, ℕ, zero, ◌+◌, ◌<◌, ◌≤◌, List, [], ◌∷◌, ◌++◌, length, drop, get_or, refl, sym, ap, ◌∙◌, subst, arith, length-append, length-drop}
use Rattle.std.proofs.Math.Seq.{get_or-append_seam}
use Rattle.std.proofs.lemmas.List.{get_or-drop}
use Rattle.omega_text.specs.Lexeme.{Lexeme}
use Rattle.omega_text.specs.Format.{IsPartAfter}
use Rattle.omega_text.specs.declared.hoa.kind.HoaKind.{HoaKind}
use Rattle.omega_text.specs.declared.refusal.text.TextFault.{TextFault}
use Rattle.omega_text.specs.declared.refusal.text.TextFault.TheVariants.{Lex}
use Rattle.omega_text.specs.hoa.Fault.{BeginsNoUnit, HasFaultFrom as HasHoaFaultFrom}
use Rattle.omega_text.proofs.hoa_texts.Longest.{stuck_no_unit}
use Rattle.omega_text.proofs.hoa_texts.Unique.{one_faults}
use Rattle.omega_lang_word_text.specs.Cut.{Follows, HasFaultFrom, HasSemicolon, semicolon, semicolon_at}
use Rattle.omega_lang_word_text.specs.private.Parts.{IsSemicolonAt}

-- nothing of the Hanoi format begins with a semicolon
no_unit : (rest : List ℕ) → BeginsNoUnit (59 ∷ rest)
no_unit rest = stuck_no_unit [] (59 ∷ rest) _ refl refl (omega arith) refl

-- a semicolon is a fault of the Hanoi format
pub semicolon_faults : (source : List ℕ) (from place : ℕ) → HasSemicolon source from place → HasHoaFaultFrom source from (Lex place)
semicolon_faults source from place is = record {
  gap = is.gap;
  bytes = 59 ∷ is.rest;
  split = is.split;
  passed = is.passed;
  fault_there = (is.there, no_unit is.rest);
}

-- what stands where the bytes begin that come after a gap
byte_there : (source gap bytes : List ℕ) (from : ℕ) (first : ℕ) (rest : List ℕ) → drop from source ≡ gap ++ bytes → bytes ≡ first ∷ rest
    → get_or source (from + length gap) 0 ≡ first
byte_there source gap bytes from first rest split is =
    sym (get_or-drop from source (length gap) 0)
    ∙ (ap (λ (l : List ℕ). get_or l (length gap) 0) (split ∙ ap (λ (b : List ℕ). gap ++ b) is) ∙ get_or-append_seam gap first rest 0)

-- where such a fault is, a semicolon is that byte
pub semicolon_there : (source : List ℕ) (from place : ℕ) → HasHoaFaultFrom source from (Lex place) → IsSemicolonAt source place → HasSemicolon source from place
semicolon_there source from place faults there = go faults.bytes faults.split faults.fault_there.1
  where
    go : (bytes : List ℕ) → drop from source ≡ faults.gap ++ bytes → BeginsNoUnit bytes → HasSemicolon source from place
    go [] split none = absurd (let some = none.some in omega arith)
    go (first ∷ rest) split none =
        let same : get_or source place 0 ≡ first = ap (λ n. get_or source n 0) faults.fault_there.0 ∙ byte_there source faults.gap (first ∷ rest) from first rest split refl in
        record {
          gap = faults.gap;
          rest = rest;
          split = split ∙ ap (λ n. faults.gap ++ n ∷ rest) (sym same ∙ there.1);
          passed = faults.passed;
          there = faults.fault_there.0;
        }

-- and it is there
pub semicolon_at_place : (source : List ℕ) (from place : ℕ) → HasSemicolon source from place → IsSemicolonAt source place
semicolon_at_place source from place is =
    let size : length (drop from source) ≡ length (is.gap ++ 59 ∷ is.rest) = ap length is.split in
    let there = is.there in (
      omega (arith, length-drop from source, length-append is.gap (59 ∷ is.rest)),
      ap (λ n. get_or source n 0) there ∙ byte_there source is.gap (59 ∷ is.rest) from 59 is.rest is.split refl,
    )

-- a fault of the Hanoi format at no semicolon
pub other_faults : (source : List ℕ) (from : ℕ) (fault : TextFault) → HasHoaFaultFrom source from fault
    → ((place : ℕ) → fault ≡ Lex place → IsSemicolonAt source place → ⊥) → HasFaultFrom source from fault
other_faults source from fault faults none = record {
  fault_there = faults;
  no_semicolon = λ place is. none place (one_faults source from fault (Lex place) faults (semicolon_faults source from place is)) (semicolon_at_place source from place is);
}

-- a semicolon that follows
pub semicolon_follows : (source : List ℕ) (from place : ℕ) (lexeme : Lexeme HoaKind) → HasHoaFaultFrom source from (Lex place) → IsSemicolonAt source place → lexeme ≡ semicolon_at place
    → Follows source from lexeme
semicolon_follows source from place lexeme faults there is = semicolon place (semicolon_there source from place faults there) is

pub semicolon_part : (source : List ℕ) (from place : ℕ) (lexeme : Lexeme HoaKind) → HasHoaFaultFrom source from (Lex place) → IsSemicolonAt source place → lexeme ≡ semicolon_at place
    → IsPartAfter source from lexeme.span
semicolon_part source from place lexeme faults there is =
    let start : place ≡ from + length faults.gap = faults.fault_there.0 in
    let inside = there.0 in
    let here : IsPartAfter source from (semicolon_at place).span = record { forward = omega arith; nonempty = omega arith; within = omega arith } in
    subst (λ (l : Lexeme HoaKind). IsPartAfter source from l.span) (sym is) here

-- a place of the same fault
pub lex_place : (source : List ℕ) (fault : TextFault) (place other : ℕ) → fault ≡ Lex place → fault ≡ Lex other → IsSemicolonAt source other → IsSemicolonAt source place
lex_place source fault place other is too there =
    let e : Lex place ≡ Lex other = sym is ∙ too in
    let same : place ≡ other = cc in
    subst (IsSemicolonAt source) (sym same) there
