-- Cuts in parts, and the cut of a part of a text.
use Rattle.std.proofs.Common.{◌≡◌, ℕ, ◌+◌, ◌-◌, ◌≤◌, List, [], ◌∷◌, ◌++◌, length, map, take, drop, refl, sym, ap, subst, ◌∙◌, arith, append_assoc, length-drop}
use Rattle.std.proofs.Math.Nat.{sub_self}
use Rattle.std.proofs.Math.Seq.{take-append-add}
use Rattle.std.proofs.lemmas.List.{drop-drop, drop-take, drop_all, drop_at, take_at, take-append-drop, length-take}
use Rattle.omega_text.specs.Cut.{Cuts, IsCut}
use Rattle.omega_text.specs.Format.{TextFormat, GoesOneWay}
use Rattle.omega_text.specs.Lexeme.{Lexeme}
use Rattle.omega_text.specs.declared.hoa.kind.HoaKind.{HoaKind}
use Rattle.omega_text.specs.hoa.Cut.{Follows, IsGap, IsLongest}
use Rattle.omega_text.specs.hoa.Cut.IsGap.{nothing}
use Rattle.omega_text.specs.hoa.Format.{hoa_format}
use Rattle.omega_text.proofs.formats.Cutting.{cuts_forward, cuts_split}

module _ {Kind : Type 0} (format : TextFormat Kind) where
  -- the tokens before the last, and the last, which follows them
  pub cuts_last : (source : List ℕ) (from to : ℕ) (front : List (Lexeme Kind)) (last : Lexeme Kind) → Cuts format source from (front ++ last ∷ []) to
      → (middle : ℕ) × Cuts format source from front middle × format.follows source middle last × (last.span.end ≡ to)
  cuts_last source from to front last cuts =
      let parts = cuts_split format source from to front (last ∷ []) cuts in
      (parts.0, parts.1, parts.2.0, parts.2.1)

  -- a cut goes on with a token that follows it
  pub cuts_push : (source : List ℕ) (from at : ℕ) (front : List (Lexeme Kind)) (last : Lexeme Kind) → Cuts format source from front at → format.follows source at last
      → Cuts format source from (front ++ last ∷ []) last.span.end
  cuts_push source from at [] last is follows = (subst (λ n. format.follows source n last) (sym is) follows, refl)
  cuts_push source from at (lexeme ∷ front) last cuts follows = (cuts.0, cuts_push source lexeme.span.end at front last cuts.1 follows)

-- a token's bytes are at its place
pub token_text : (source : List ℕ) (from : ℕ) (lexeme : Lexeme HoaKind) → Follows source from lexeme
    → take (lexeme.span.end - lexeme.span.start) (drop lexeme.span.start source) ≡ lexeme.text
token_text source from lexeme follows =
    let there : drop lexeme.span.start source ≡ lexeme.text ++ follows.rest =
    ap (λ n. drop n source) follows.start ∙ sym (drop-drop (length follows.gap) from source)
    ∙ ap (drop (length follows.gap)) follows.split ∙ drop_at follows.gap (lexeme.text ++ follows.rest) (length follows.gap) refl in
    let long : length lexeme.text ≡ lexeme.span.end - lexeme.span.start = omega (arith, follows.end) in
    ap (take (lexeme.span.end - lexeme.span.start)) there ∙ take_at lexeme.text follows.rest (lexeme.span.end - lexeme.span.start) long

-- a token with its place counted from another
abbrev pub moved : ℕ → Lexeme HoaKind → Lexeme HoaKind
moved base lexeme = record { kind = lexeme.kind; text = lexeme.text; value = lexeme.value; span = record { start = lexeme.span.start - base; end = lexeme.span.end - base } }

-- the bytes of a text from a place up to another
abbrev pub part : List ℕ → ℕ → ℕ → List ℕ
part source base to = take (to - base) (drop base source)

-- the longest unit before some bytes is the longest before fewer of them
longest_before_fewer : (text rest : List ℕ) (count : ℕ) → IsLongest text rest → IsLongest text (take count rest)
longest_before_fewer text rest count longest = λ more following sort is longer unit.
    longest more (following ++ drop count rest) sort
    (sym (take-append-drop count rest) ∙ ap (λ bytes. bytes ++ drop count rest) is ∙ append_assoc more following (drop count rest)) longer unit

-- the first bytes of a gap, a token and a rest
take_three : (gap text rest : List ℕ) (count more : ℕ) → count ≡ length gap + (length text + more) → take count (gap ++ (text ++ rest)) ≡ gap ++ (text ++ take more rest)
take_three gap text rest count more is = ap (λ n. take n (gap ++ (text ++ rest))) is ∙ take-append-add gap (text ++ rest) (length text + more)
    ∙ ap (λ bytes. gap ++ bytes) (take-append-add text rest more)

-- a token of a text is one of a part of it
pub part_follows : (source : List ℕ) (base to at : ℕ) (lexeme : Lexeme HoaKind) → base ≤ at → lexeme.span.end ≤ to → Follows source at lexeme
    → Follows (part source base to) (at - base) (moved base lexeme)
part_follows source base to at lexeme following within follows =
    let more = to - lexeme.span.end in
    let from = at - base in
    let left = length follows.gap + (length lexeme.text + more) in
    let count : to - base ≡ from + left = omega (arith, follows.start, follows.end) in
    let place : base + from ≡ at = omega arith in
    record {
      gap = follows.gap;
      rest = take more follows.rest;
      split = ap (λ n. drop from (take n (drop base source))) count ∙ drop-take from left (drop base source)
          ∙ ap (take left) (drop-drop from base source ∙ ap (λ n. drop n source) place ∙ follows.split)
          ∙ take_three follows.gap lexeme.text follows.rest left more refl;
      passed = follows.passed;
      spells = follows.spells;
      longest = longest_before_fewer lexeme.text follows.rest more follows.longest;
      start = omega (arith, follows.start);
      end = omega (arith, follows.start, follows.end);
    }

-- tokens of a text are those of a part of it
pub part_cuts : GoesOneWay hoa_format → (source : List ℕ) (base to at end : ℕ) (lexemes : List (Lexeme HoaKind)) → base ≤ at → end ≤ to
    → Cuts hoa_format source at lexemes end → Cuts hoa_format (part source base to) (at - base) (map (moved base) lexemes) (end - base)
part_cuts exact source base to at end [] following within cuts = ap (λ n. n - base) cuts
part_cuts exact source base to at end (lexeme ∷ lexemes) following within cuts =
    let place = exact.following source at lexeme cuts.0 in
    let onward = cuts_forward hoa_format exact source lexeme.span.end end lexemes place.within cuts.1 in (
      part_follows source base to at lexeme following (omega (arith, onward.0)) cuts.0,
      part_cuts exact source base to lexeme.span.end end lexemes (omega (arith, place.forward, place.nonempty)) within cuts.1,
    )

-- a part of a text that ends with a token has the tokens that are there
pub part_cut : GoesOneWay hoa_format → (source : List ℕ) (base to : ℕ) (lexemes : List (Lexeme HoaKind)) → base ≤ length source
    → Cuts hoa_format source base lexemes to → IsCut hoa_format (part source base to) (map (moved base) lexemes)
part_cut exact source base to lexemes inside cuts =
    let onward = cuts_forward hoa_format exact source base to lexemes inside cuts in
    let long : length (part source base to) ≡ to - base = length-take (to - base) (drop base source) ∙ omega (arith, length-drop base source, onward.0, onward.1) in
    record {
      end = to - base;
      cuts = subst (λ n. Cuts hoa_format (part source base to) n (map (moved base) lexemes) (to - base)) (sub_self base)
          (part_cuts exact source base to base to lexemes (omega arith) (omega arith) cuts);
      rest = record {
        passed = subst IsGap (sym (drop_all (to - base) (part source base to) (omega (arith, long)))) nothing;
        within = omega (arith, long);
      };
    }
