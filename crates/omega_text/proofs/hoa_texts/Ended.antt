-- Tokens before the end of one that ends by itself stay the same, whatever follows it.
use Rattle.std.proofs.Common.{◌≡◌, ℕ, ◌+◌, ◌<◌, ◌≤◌, inl, ⊎_elim, Option, Some, List, [], ◌∷◌, ◌++◌, length, drop, true, refl, sym, ap, ◌∙◌, subst, arith, append_assoc, length-append, length-drop}
use Rattle.std.proofs.lemmas.List.{drop-append-le, drop_all}
use Rattle.omega_text.specs.Cut.{Cuts}
use Rattle.omega_text.specs.Lexeme.{Lexeme}
use Rattle.omega_text.specs.declared.hoa.kind.HoaKind.{HoaKind}
use Rattle.omega_text.specs.hoa.Cut.{Follows, IsLongest}
use Rattle.omega_text.specs.hoa.Cut.IsGap.{nothing}
use Rattle.omega_text.specs.hoa.Format.{hoa_format}
use Rattle.omega_text.specs.hoa.Forms.{IsUnit}
use Rattle.omega_text.specs.hoa.Laws.{is_closed}
use Rattle.omega_text.specs.hoa.Pieces.{EndsClosed}
use Rattle.omega_text.specs.declared.hoa.mode.Mode.TheVariants.{Start}
use Rattle.omega_text.specs.private.hoa.scanning.Modes.{run}
use Rattle.omega_text.specs.private.hoa.scanning.Reading.{Any, IsAt}
use Rattle.omega_text.specs.private.hoa.scanning.Unfinished.{fresh}
use Rattle.omega_text.proofs.formats.Cutting.{cuts_forward}
use Rattle.omega_text.proofs.hoa_texts.Exact.{hoa_exact}
use Rattle.omega_text.proofs.hoa_texts.Laws.{closed_longest}
use Rattle.omega_text.proofs.hoa_texts.Longest.{fronts, stays}
use Rattle.omega_text.proofs.hoa_texts.Numbers.{spelled_form}
use Rattle.omega_text.proofs.hoa_texts.Read.{unit_read}
use Rattle.omega_text.proofs.hoa_texts.Runs.{answer, answer_none, run_append}
use Rattle.omega_text.proofs.hoa_texts.Written.{unit_written}

-- whether a unit is the longest shows in the byte after it
longest_by_byte : (text : List ℕ) (byte : ℕ) (rest other : List ℕ) (sort : Option HoaKind) → IsUnit sort text → IsLongest text (byte ∷ rest) → IsLongest text (byte ∷ other)
longest_by_byte text byte rest other sort unit longest [] following kind split some longer = absurd (omega arith)
longest_by_byte text byte rest other sort unit longest (first ∷ more) following kind split some longer =
    let same : byte ≡ first = cc in
    let state = run (Some Start) text in
    ⊎_elim
    (λ (found, is). longest (byte ∷ []) rest found refl (omega arith) (unit_read (text ++ byte ∷ []) found (ap answer (run_append (Some Start) text (byte ∷ [])) ∙ is)))
    (λ none. answer_none more kind (ap (λ next. answer (run next more)) (sym none) ∙ ap answer (sym (run_append (Some Start) text (byte ∷ more)))
    ∙ unit_written kind (text ++ byte ∷ more) (subst (λ b. IsUnit kind (text ++ b ∷ more)) (sym same) longer)))
    (stays state (byte ∷ []) (inl (sort, unit_written sort text unit)))

longest_before : (text left rest other : List ℕ) (sort : Option HoaKind) → 0 < length left → IsUnit sort text → IsLongest text (left ++ rest) → IsLongest text (left ++ other)
longest_before text [] rest other sort some unit longest = absurd (omega arith)
longest_before text (byte ∷ left) rest other sort some unit longest = longest_by_byte text byte (left ++ rest) (left ++ other) sort unit longest

-- what is left of the first bytes after a token
record IsLeft (seen rest : List ℕ) (from : ℕ) (lexeme : Lexeme HoaKind) (gap following : List ℕ) : Type 0 where
  left : List ℕ
  split : drop from seen ≡ gap ++ (lexeme.text ++ left)
  is : following ≡ left ++ rest

module _ (seen rest other : List ℕ) where
  left_after : (from : ℕ) (lexeme : Lexeme HoaKind) → from ≤ length seen → lexeme.span.end ≤ length seen → (follows : Follows (seen ++ rest) from lexeme)
      → IsLeft seen rest from lexeme follows.gap follows.rest
  left_after from lexeme inside within follows =
      let front = follows.gap ++ lexeme.text in
      let both : drop from seen ++ rest ≡ front ++ follows.rest =
      sym (drop-append-le from seen rest inside) ∙ follows.split ∙ sym (append_assoc follows.gap lexeme.text follows.rest) in
      ⊎_elim
      (λ (more, is, left). record { left = more; split = is ∙ append_assoc follows.gap lexeme.text more; is = left })
      (λ (byte, more, is, left). absurd (let size = ap length is in let start = follows.start in let end = follows.end in
      omega (arith, length-append (drop from seen) (byte ∷ more), length-append follows.gap lexeme.text, length-drop from seen)))
      (fronts (drop from seen) rest front follows.rest both)

  -- a token follows so, if it is the longest
  follows_so : (from : ℕ) (lexeme : Lexeme HoaKind) → from ≤ length seen → (follows : Follows (seen ++ rest) from lexeme) → (left : IsLeft seen rest from lexeme follows.gap follows.rest)
      → IsLongest lexeme.text (left.left ++ other) → Follows (seen ++ other) from lexeme
  follows_so from lexeme inside follows left longest = record {
    gap = follows.gap;
    rest = left.left ++ other;
    split = drop-append-le from seen other inside ∙ ap (λ bytes. bytes ++ other) left.split ∙ append_assoc follows.gap (lexeme.text ++ left.left) other
        ∙ ap (λ bytes. follows.gap ++ bytes) (append_assoc lexeme.text left.left other);
    passed = follows.passed;
    spells = follows.spells;
    longest = longest;
    start = follows.start;
    end = follows.end;
  }

  -- what is left after a token within the first bytes
  left_size : (from : ℕ) (lexeme : Lexeme HoaKind) → from ≤ length seen → (follows : Follows (seen ++ rest) from lexeme) → (left : IsLeft seen rest from lexeme follows.gap follows.rest)
      → lexeme.span.end + length left.left ≡ length seen
  left_size from lexeme inside follows left =
      let size = ap length left.split in
      let start = follows.start in
      let end = follows.end in
      omega (arith, length-append follows.gap (lexeme.text ++ left.left), length-append lexeme.text left.left, length-drop from seen)

  nothing_left : (left : List ℕ) → length left ≡ 0 → left ≡ []
  nothing_left [] none = refl
  nothing_left (byte ∷ left) none = absurd (omega arith)

  -- the last token, which ends by itself
  last_stays : (from : ℕ) (lexeme : Lexeme HoaKind) → from ≤ length seen → lexeme.span.end ≡ length seen → is_closed lexeme.kind ≡ true → Follows (seen ++ rest) from lexeme → Follows (seen ++ other) from lexeme
  last_stays from lexeme inside end closed follows =
      let left = left_after from lexeme inside (omega (arith, end)) follows in
      follows_so from lexeme inside follows left
      (closed_longest lexeme.kind lexeme.text (left.left ++ other) closed (spelled_form lexeme.kind lexeme.value lexeme.text follows.spells))

  -- one before it
  other_stays : (from : ℕ) (lexeme : Lexeme HoaKind) → from ≤ length seen → lexeme.span.end < length seen → Follows (seen ++ rest) from lexeme → Follows (seen ++ other) from lexeme
  other_stays from lexeme inside before follows =
      let left = left_after from lexeme inside (omega (arith, before)) follows in
      follows_so from lexeme inside follows left
      (longest_before lexeme.text left.left rest other (Some lexeme.kind) (omega (arith, left_size from lexeme inside follows left, before))
      (spelled_form lexeme.kind lexeme.value lexeme.text follows.spells) (subst (IsLongest lexeme.text) left.is follows.longest))

  -- all of them
  cuts_stay : (front : List (Lexeme HoaKind)) (last : Lexeme HoaKind) (from : ℕ) → from ≤ length seen → is_closed last.kind ≡ true
      → Cuts hoa_format (seen ++ rest) from (front ++ last ∷ []) (length seen) → Cuts hoa_format (seen ++ other) from (front ++ last ∷ []) (length seen)
  cuts_stay [] last from inside closed cuts = (last_stays from last inside cuts.1 closed cuts.0, cuts.1)
  cuts_stay (lexeme ∷ front) last from inside closed cuts =
      let place = hoa_exact.following (seen ++ rest) from lexeme cuts.0 in
      let before = ends_before lexeme.span.end front last place.within cuts.1 in
      (other_stays from lexeme inside before cuts.0, cuts_stay front last lexeme.span.end (omega (arith, before)) closed cuts.1)
    where
      ends_before : (from : ℕ) (front : List (Lexeme HoaKind)) (last : Lexeme HoaKind) → from ≤ length (seen ++ rest) → Cuts hoa_format (seen ++ rest) from (front ++ last ∷ []) (length seen) → from < length seen
      ends_before from [] last within cuts =
          let place = hoa_exact.following (seen ++ rest) from last cuts.0 in
          omega (arith, place.forward, place.nonempty, cuts.1)
      ends_before from (lexeme ∷ front) last within cuts =
          let place = hoa_exact.following (seen ++ rest) from lexeme cuts.0 in
          let onward = cuts_forward hoa_format hoa_exact (seen ++ rest) lexeme.span.end (length seen) (front ++ last ∷ []) place.within cuts.1 in
          omega (arith, place.forward, place.nonempty, onward.0)

-- the tokens of a text whose last ends by itself are so however the text goes on
closed_cuts : (seen other : List ℕ) (lexemes : List (Lexeme HoaKind)) → EndsClosed seen lexemes → Cuts hoa_format (seen ++ other) 0 lexemes (length seen)
closed_cuts seen other lexemes ends =
    subst (λ all. Cuts hoa_format (seen ++ other) 0 all (length seen)) (sym ends.split)
    (cuts_stay seen ends.rest other ends.front ends.last 0 (omega arith) ends.closed
    (subst (λ all. Cuts hoa_format (seen ++ ends.rest) 0 all (length seen)) ends.split ends.cuts))

-- so a tokenizer has read them
pub closed_read : (seen : List ℕ) (lexemes : List (Lexeme HoaKind)) → EndsClosed seen lexemes → IsAt Any seen lexemes (fresh (length seen))
closed_read seen lexemes ends = record {
  end = length seen;
  gap = [];
  begun = [];
  cuts = λ rest _. closed_cuts seen rest lexemes ends;
  split = drop_all (length seen) seen (omega arith);
  within = omega arith;
  passed = nothing;
  start = omega arith;
  reached = refl;
  unfinished = refl;
}
