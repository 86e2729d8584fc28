-- What is not whole yet may go on.
use Rattle.std.proofs.Common.{◌≡◌, ◌<◌, ◌≤◌, ◌+◌, ◌==◌, ℕ, zero, suc, Option, Some, None, List, [], ◌∷◌, ◌++◌, length, get_or, drop, refl, ap, ◌∙◌, arith, codes, eq-eqb, add-one, drop-cons, ⊎_elim, length-drop}
use Rattle.std.proofs.str.Laws.{order}
use Rattle.std.proofs.lemmas.List.{drop_all}
use Rattle.omega_text.specs.declared.hoa.kind.HoaKind.{HoaKind}
use Rattle.omega_text.specs.declared.hoa.kind.HoaKind.TheVariants.{Identifier, AliasName, True, Int, String, End}
use Rattle.omega_text.specs.declared.hoa.mode.Mode.{Mode}
use Rattle.omega_text.specs.declared.hoa.mode.Mode.TheVariants.{Start, Word, At, Alias, Digits, Quoted, Escaped, Slash, Comment, Star, Slashed, Dash, Dashes, Mark, Whole, Blank}
use Rattle.omega_text.specs.hoa.Forms.{spelling}
use Rattle.omega_text.specs.private.hoa.scanning.Modes.{IsWithin, run}
use Rattle.omega_text.specs.hoa.Pieces.{GoesOn}
use Rattle.omega_text.specs.private.hoa.scanning.Reading.{IsUnfinishedUnit}
use Rattle.omega_text.proofs.hoa_texts.Read.{unit_read}
use Rattle.omega_text.proofs.hoa_texts.Runs.{answer, run_append}
use Rattle.omega_text.proofs.hoa_texts.Tests.{choose, pass}
use Rattle.omega_text.proofs.hoa_texts.Within.{run_within}
use Rattle.omega_text.proofs.hoa_texts.Written.{no_test}

-- bytes that make a unit of what was read
record Completes (mode : Mode) : Type 0 where
  more : List ℕ
  sort : Option HoaKind
  some : 0 < length more
  reads : answer (run (Some mode) more) ≡ Some sort

-- ends of this many comments, inside others
ends : ℕ → List ℕ
ends zero = 42 ∷ 47 ∷ []
ends (suc around) = 42 ∷ 47 ∷ ends around

ends_read : (around : ℕ) → run (Some (Comment around)) (ends around) ≡ Some Blank
unfolding ends
ends_read zero = refl
ends_read (suc around) = ends_read around

ends_some : (around : ℕ) → 0 < length (ends around)
unfolding ends
ends_some zero = omega arith
ends_some (suc around) = omega arith

-- the other bytes of a mark
mark_whole : (left : ℕ) (kind : HoaKind) (count : ℕ) → count < length (spelling kind) → length (spelling kind) ≤ count + left → run (Some (Mark kind count)) (drop count (spelling kind)) ≡ Some (Whole kind)
mark_whole zero kind count inside short = absurd (omega arith)
mark_whole (suc left) kind count inside short =
    let text = spelling kind in
    let byte = get_or text count 0 in
    let front : drop count text ≡ byte ∷ drop (count + 1) text = rw add-one (drop-cons text count 0 inside) in
    let begin = ap (run (Some (Mark kind count))) front ∙ ap (λ state. run state (drop (count + 1) text)) (choose (byte == byte) _ _ (eq-eqb byte byte refl)) in
    ⊎_elim
    (λ more. begin ∙ ap (λ mode. run (Some mode) (drop (count + 1) text)) (pass ((count + 1) == length text) _ _ (no_test (count + 1) (length text) (λ same. omega arith)))
    ∙ mark_whole left kind (count + 1) more (omega arith))
    (λ past. begin ∙ ap (λ mode. run (Some mode) (drop (count + 1) text)) (choose ((count + 1) == length text) _ _ (eq-eqb (count + 1) (length text) (omega arith)))
    ∙ ap (run (Some (Whole kind))) (drop_all (count + 1) text past))
    (order (count + 1) (length text))

completes : (mode : Mode) (value : ℕ) (begun : List ℕ) (bytes : ℕ) → IsUnfinishedUnit mode value begun → IsWithin bytes mode → Completes mode
completes Start value begun bytes unfinished within = record { more = codes "t"; sort = Some True; some = omega arith; reads = refl }
completes (Word kind) value begun bytes unfinished within = record { more = codes "a"; sort = Some Identifier; some = omega arith; reads = refl }
completes At value begun bytes unfinished within = record { more = codes "a"; sort = Some AliasName; some = omega arith; reads = refl }
completes Alias value begun bytes unfinished within = record { more = codes "a"; sort = Some AliasName; some = omega arith; reads = refl }
completes Digits value begun bytes unfinished within = record { more = codes "0"; sort = Some Int; some = omega arith; reads = refl }
completes Quoted value begun bytes unfinished within = record { more = 34 ∷ []; sort = Some String; some = omega arith; reads = refl }
completes Escaped value begun bytes unfinished within = record { more = 97 ∷ 34 ∷ []; sort = Some String; some = omega arith; reads = refl }
completes Slash value begun bytes unfinished within = record { more = codes "**/"; sort = None; some = omega arith; reads = refl }
completes (Comment around) value begun bytes unfinished within = record { more = ends around; sort = None; some = ends_some around; reads = ap answer (ends_read around) }
completes (Star around) value begun bytes unfinished within = record { more = 97 ∷ ends around; sort = None; some = omega arith; reads = ap answer (ends_read around) }
completes (Slashed around) value begun bytes unfinished within = record { more = 97 ∷ ends around; sort = None; some = omega arith; reads = ap answer (ends_read around) }
completes Dash value begun bytes unfinished within = record { more = codes "-END--"; sort = Some End; some = omega arith; reads = refl }
completes Dashes value begun bytes unfinished within = record { more = codes "END--"; sort = Some End; some = omega arith; reads = refl }
completes (Mark kind count) value begun bytes unfinished within = record {
  more = drop count (spelling kind);
  sort = Some kind;
  some = omega (arith, length-drop count (spelling kind), within);
  reads = ap answer (mark_whole (length (spelling kind)) kind count within (omega arith));
}
completes (Whole kind) value begun bytes unfinished within = absurd unfinished
completes Blank value begun bytes unfinished within = absurd unfinished

-- what was begun goes on
pub begun_goes_on : (begun : List ℕ) (mode : Mode) (value : ℕ) → run (Some Start) begun ≡ Some mode → IsUnfinishedUnit mode value begun → GoesOn begun
begun_goes_on begun mode value reached unfinished =
    let completion = completes mode value begun (length begun) unfinished (run_within begun mode reached) in
    record {
      more = completion.more;
      sort = completion.sort;
      longer = completion.some;
      unit = unit_read (begun ++ completion.more) completion.sort
          (ap answer (run_append (Some Start) begun completion.more) ∙ ap (λ state. answer (run state completion.more)) reached ∙ completion.reads);
    }
