-- A text has at most one truth: the reader finds each.
use Rattle.std.proofs.Common.{◌≡◌, ℕ, Bool, true, false, not, ◌&&◌, ◌||◌, ◌==◌, if◌then◌else◌, true≢false, List, [], ◌∷◌, ◌++◌, codes, refl, sym, ap, ◌∙◌, append_assoc, subst, ⊎_elim}
use Rattle.std.specs.List.{list_all}
use Rattle.std.proofs.lemmas.Bool.{eqb-true, or_cases}
use Rattle.omega_text.specs.Bytes.{is_letter}
use Rattle.omega_hoa_edges.specs.Names.{goes_on, is_identifier}
use Rattle.omega_lang_lasso_word.specs.Formulas.{HasTruth, Part, bare, both, conjunction, denied, either, enclosed, formula, one_conjunction, one_operand, one_sign, operand, quoted, zero_sign}
use Rattle.omega_lang_lasso_word.specs.Laws.{TextsHaveOneTruth}
use Rattle.omega_lang_lasso_word.specs.Names.{is_reserved}
use Rattle.omega_lang_lasso_word.proofs.Reader.{Bounds, Level, given, given_step, is_end, left_true, level, name_ends, name_goes_on, naming, quotes_end, quoting, right_true, run, stuck, turned, wanted}

and_assoc : (a b c : Bool) → ((a && b) && c) ≡ (a && (b && c))
and_assoc true b c = refl
and_assoc false b c = refl

or_assoc : (a b c : Bool) → ((a || b) || c) ≡ (a || (b || c))
or_assoc true b c = refl
or_assoc false b c = refl

turned_not : (negated value : Bool) → turned (not negated) value ≡ turned negated (not value)
turned_not true true = refl
turned_not true false = refl
turned_not false value = refl

-- a formula ends here
abbrev pub Ends : List ℕ → Type 0
Ends [] = Unit {0}
Ends (byte ∷ rest) = is_end byte ≡ true

end_is_no_name : (byte : ℕ) → is_end byte ≡ true → goes_on byte ≡ false
end_is_no_name byte end = ⊎_elim (λ e. off 59 (eqb-true byte 59 e) refl) (λ e. off 125 (eqb-true byte 125 e) refl) (or_cases (byte == 59) (byte == 125) end)
  where
    off : (sign : ℕ) → byte ≡ sign → goes_on sign ≡ false → goes_on byte ≡ false
    off sign is apart = subst (λ (b : ℕ). goes_on b ≡ false) (sym is) apart

module _ (held : List ℕ → Bool) where
  -- what the reader does with a part of this kind
  Reads : Part → List ℕ → Bool → Type 0
  Reads operand text value = (before since negated : Bool) (levels : List Level) (rest : List ℕ) → Bounds held rest
      → run held (wanted before since negated levels) (text ++ rest) ≡ run held (given before (since && turned negated value) levels) rest
  Reads conjunction text value = (before since : Bool) (levels : List Level) (rest : List ℕ) → Bounds held rest
      → run held (wanted before since false levels) (text ++ rest) ≡ run held (given before (since && value) levels) rest
  Reads formula text value = (before : Bool) (levels : List Level) (rest : List ℕ) → Bounds held rest
      → (one : Bool) × (since : Bool) × (run held (wanted before true false levels) (text ++ rest) ≡ run held (given one since levels) rest) × ((one || since) ≡ (before || value))

  -- a name as it is
  bare_read : (name : List ℕ) → is_identifier name ≡ true → Reads operand name (held name)
  unfolding Reads
  bare_read [] is before since negated levels rest bound = absurd (true≢false (sym is))
  bare_read (byte ∷ more) is before since negated levels rest bound =
      ap (λ (letter : Bool). run held (if letter then naming before since negated levels (byte ∷ []) else (if byte == 33 then wanted before since (not negated) levels
      else (if byte == 40 then wanted false true false (level before since negated ∷ levels)
      else (if byte == 34 then quoting before since negated levels []
      else (if byte == 48 then given before (since && turned negated false) levels
      else (if byte == 49 then given before (since && turned negated true) levels
      else (if byte == 32 then wanted before since negated levels else stuck))))))) (more ++ rest)) (left_true (is_letter byte) (list_all goes_on more) is)
      ∙ name_goes_on held before since negated levels (byte ∷ []) more rest (right_true (is_letter byte) (list_all goes_on more) is)
      ∙ name_ends held before since negated levels (byte ∷ more) rest bound

  -- an operand after `!`
  denied_read : (text : List ℕ) (value : Bool) → Reads operand text value → Reads operand (codes "!" ++ text) (not value)
  unfolding Reads
  denied_read text value reads before since negated levels rest bound =
      reads before since (not negated) levels rest bound
      ∙ ap (λ (v : Bool). run held (given before (since && v) levels) rest) (turned_not negated value)

  -- a formula in parentheses
  enclosed_read : (text : List ℕ) (value : Bool) → Reads formula text value → Reads operand (codes "(" ++ (text ++ codes ")")) value
  unfolding Reads
  enclosed_read text value reads before since negated levels rest bound =
      let inner = reads false (level before since negated ∷ levels) (codes ")" ++ rest) refl in
      ap (λ (t : List ℕ). run held (wanted false true false (level before since negated ∷ levels)) t) (append_assoc text (codes ")") rest)
      ∙ inner.2
      ∙ ap (λ (v : Bool). run held (given before (since && turned negated v) levels) rest) inner.3

  -- two operands with `&` between them
  both_read : (left right : List ℕ) (one other : Bool) → Reads conjunction left one → Reads conjunction right other
      → Reads conjunction (left ++ (codes " & " ++ right)) (one && other)
  unfolding Reads
  both_read left right one other reads_left reads_right before since levels rest bound =
      ap (λ (t : List ℕ). run held (wanted before since false levels) t) (append_assoc left (codes " & " ++ right) rest)
      ∙ reads_left before since levels (codes " & " ++ (right ++ rest)) refl
      ∙ reads_right before (since && one) levels rest bound
      ∙ ap (λ (v : Bool). run held (given before v levels) rest) (and_assoc since one other)

  -- two parts with `|` between them
  either_read : (left right : List ℕ) (one other : Bool) → Reads formula left one → Reads formula right other
      → Reads formula (left ++ (codes " | " ++ right)) (one || other)
  unfolding Reads
  either_read left right one other reads_left reads_right before levels rest bound =
      let first = reads_left before levels (codes " | " ++ (right ++ rest)) refl in
      let second = reads_right (first.0 || first.1) levels rest bound in (
        second.0,
        second.1,
        ap (λ (t : List ℕ). run held (wanted before true false levels) t) (append_assoc left (codes " | " ++ right) rest) ∙ first.2 ∙ second.2,
        second.3 ∙ ap (λ (b : Bool). b || other) first.3 ∙ or_assoc before one other,
      )

  -- the reader reads each part
  reads : (part : Part) (text : List ℕ) (value : Bool) → HasTruth held part text value → Reads part text value
  unfolding Reads
  reads _ _ _ zero_sign = λ before since negated levels rest bound. refl
  reads _ _ _ one_sign = λ before since negated levels rest bound. refl
  reads _ _ _ (bare name stands) = bare_read name (left_true (is_identifier name) (not (is_reserved name)) stands)
  reads _ _ _ (quoted name quotable) = λ before since negated levels rest bound.
      ap (λ (t : List ℕ). run held (quoting before since negated levels []) t) (append_assoc name (codes "\"") rest)
      ∙ quotes_end held before since negated levels [] name rest quotable
  reads _ _ _ (denied text value part) = denied_read text value (reads operand text value part)
  reads _ _ _ (enclosed text value part) = enclosed_read text value (reads formula text value part)
  reads _ _ _ (one_operand text value part) = λ before since levels rest bound. reads operand text value part before since false levels rest bound
  reads _ _ _ (both left right one other left_part right_part) =
      both_read left right one other (reads conjunction left one left_part) (reads conjunction right other right_part)
  reads _ _ _ (one_conjunction text value part) = λ before levels rest bound.
      (before, value, reads conjunction text value part before true levels rest bound, refl)
  reads _ _ _ (either left right one other left_part right_part) =
      either_read left right one other (reads formula left one left_part) (reads formula right other right_part)

  ends_bound : (rest : List ℕ) → Ends rest → Bounds held rest
  ends_bound [] ends = tt
  ends_bound (byte ∷ rest) ends = end_is_no_name byte ends

  stops_at_end : (before since : Bool) (rest : List ℕ) → Ends rest → run held (given before since []) rest ≡ (before || since, rest)
  stops_at_end before since [] ends = refl
  stops_at_end before since (byte ∷ rest) ends =
      ap (λ (b : Bool). if b then (before || since, byte ∷ rest) else run held (given_step held before since [] byte) rest) ends

  -- the reader finds the truth of a formula, and what follows it
  pub formula_read : (text rest : List ℕ) (value : Bool) → HasTruth held formula text value → Ends rest
      → run held (wanted false true false []) (text ++ rest) ≡ (value, rest)
  unfolding Reads
  formula_read text rest value has ends =
      let read = reads formula text value has false [] rest (ends_bound rest ends) in
      read.2 ∙ stops_at_end read.0 read.1 rest ends ∙ ap (λ (v : Bool). (v, rest)) read.3

-- the law
pub texts_have_one_truth : TextsHaveOneTruth
texts_have_one_truth held text one other first second =
    ap (λ (r : Bool × List ℕ). r.0) (sym (formula_read held text [] one first tt) ∙ formula_read held text [] other second tt)
