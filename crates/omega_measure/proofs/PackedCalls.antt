-- What the calls of a table of words answer.
use Rattle.std.proofs.Common.{◌≡◌, ◌≢◌, ℕ, zero, suc, ◌+◌, ◌-◌, ◌*◌, ◌/◌, ◌%◌, ◌^◌, ◌<◌, ◌≤◌, Bool, true, false, List, [], ◌∷◌, ◌++◌, None, Some, Ordering, length, get_or, take, drop, replicate, sym, refl, ap, ◌∙◌, subst, arith, add-one, inl, inr}
use Rattle.std.specs.Prelude.{◌↔◌, nat_le, slice_index}
use Rattle.std.proofs.lemmas.Bool.{cases_eq}
use Rattle.std.proofs.lemmas.List.{get_or_default, get_or-map, length-map, length-take, length-drop, length-replicate, get_or-replicate, take-replicate, drop-replicate}
use Rattle.std.proofs.lemmas.List.Sums.{count_by-le-length}
use Rattle.std.proofs.Math.Nat.{zero-div, zero-mod}
use Rattle.omega_game_values.specs.Bound.{occurrences, losing_priorities}
use Rattle.omega_game_values.specs.Player.{loses}
use Rattle.omega_lift_laws.specs.Allowance.{measure_at}
use Rattle.omega_lift_laws.specs.Laws.{AllowancesAreLeastSufficient, AllowancesExceed}
use Rattle.omega_lift_laws.specs.Least.{limits_of}
use Rattle.omega_lift_laws.specs.Measure.{Measure, IsMeasure, compare_from, entries_from, zero_measure}
use Rattle.omega_measure.specs.declared.field.Field.{Field}
use Rattle.omega_measure.specs.private.layout.Field.{AreAtMost, AreFields, ArePacked, IsInside, IsPackedRow, field_places, digit_in, digits_in, entry_limits, front_order, last_field, limits_in, measure_of, top_field, value, word_places}
use Rattle.omega_measure.specs.private.layout.Due.{is_short}
use Rattle.omega_measure.specs.private.layout.Packed.{ArePackedRows, HoldsAllowance, packed_content, packed_measure}
use Rattle.omega_lift_rows.specs.Rows.{AreAtLimits, IsLastBelow, WritesRow, allowance_of, compare_kept, row_of}
use Rattle.omega_measure.specs.private.layout.Shape.{Setting, width_of}
use Rattle.omega_measure.specs.Table.{Content, Exceeds, IsAllowanceIn, Raises, with_measure, zero_content}
use Rattle.omega_measure.proofs.Allowances.{allowance_is, due_from}
use Rattle.omega_measure.proofs.Digits.{value-zeros}
use Rattle.omega_measure.proofs.Measures.{length-listed, listed-same, listed-written, measure_at-listed}
use Rattle.omega_measure.proofs.PackedMeasures.{AreDigits, IsMeasure-digits, allowance-cleared, allowance-raised, compare-digits, flag_is}
use Rattle.omega_measure.proofs.PackedRows.{at_most_at, at_most_zeros, fields_inside, digits-new_row, front_order-digits, length-digits, limits_packed, packed-new_row, word_small}
use Rattle.omega_lift_rows.proofs.RowWrites.{rows_before}

-- ---- one row

-- a field by its place
pub inside_by : (n : ℕ) (fields : List Field) (d : Field) (k : ℕ) → AreFields n fields → k < length fields → IsInside n (get_or fields k d)
inside_by n fields d k are l = subst (λ field. IsInside n field) (get_or_default fields k top_field d l) (fields_inside n fields are k l)

-- one more field that is at its limit
pub full_more :
    (fields : List Field) (row : List ℕ) (d : Field) (at high held most : ℕ) → 0 < at → at - 1 < length fields
    → held ≡ digit_in row (get_or fields (at - 1) d) → most ≡ (get_or fields (at - 1) d).limit → most ≤ held
    → AreAtLimits (digits_in fields row) (limits_in fields) at high → AreAtLimits (digits_in fields row) (limits_in fields) (at - 1) high
full_more fields row d at high held most some l h m full rest k low up =
    elim (cases_eq k (at - 1)) [
      | inl same ↦
          let digit = get_or-map (digit_in row) fields (at - 1) d 0 l in
          let limit = get_or-map (λ field. field.limit) fields (at - 1) d 0 l in
          subst (λ j. get_or (limits_in fields) j 0 ≤ get_or (digits_in fields row) j 0) (sym same) (omega (arith, digit, limit, h, m, full))
      | inr ne ↦ rest k (omega arith) up
    ]

pub AreDigits-row : (n : ℕ) (fields : List Field) (row : List ℕ) → AreFields n fields → IsPackedRow fields row → AreDigits (entry_limits fields) (digits_in fields row)
AreDigits-row n fields row are packed = record {
  small = subst (λ ls. AreAtMost ls (digits_in fields row)) (limits_packed (entry_limits fields) fields are.packed) packed.limits;
  top = packed.top;
}

pub first_room : (n : ℕ) (fields : List Field) (row : List ℕ) → AreFields n fields → get_or (digits_in fields row) 0 0 ≡ 0 → get_or (digits_in fields row) 0 0 < get_or (limits_in fields) 0 0
first_room n fields row are below = omega (arith, below, ap (λ ls. get_or ls 0 0) (limits_packed (entry_limits fields) fields are.packed))

module _ (fields : List Field) (row : List ℕ) (are : AreFields (length row) fields) (packed : IsPackedRow fields row) (kept : ℕ) (l : kept < length fields) (below : get_or (digits_in fields row) 0 0 ≡ 0) where
  -- the row after a field, which holds less than it can, is raised
  module _ (at : ℕ) (d : Field) (last : IsLastBelow (digits_in fields row) (limits_in fields) (suc kept) at) where
    at_in : at < length fields
    at_in = omega (arith, last.within)

    same : get_or fields at top_field ≡ get_or fields at d
    same = get_or_default fields at top_field d at_in

    room : get_or (digits_in fields row) at 0 + 1 ≤ get_or (limits_in fields) at 0
    room = omega (arith, last.below)

    inside : IsInside (length row) (get_or fields at top_field)
    inside = fields_inside (length row) fields are at at_in

    pub raised_fits : (get_or row (get_or fields at d).word 0 / 2 ^ (get_or fields at d).shift + 1) * 2 ^ (get_or fields at d).shift < 2 ^ 64
    raised_fits =
        subst (λ field. (get_or row field.word 0 / 2 ^ field.shift + 1) * 2 ^ field.shift < 2 ^ 64) same
        (word_small (length row) fields are row refl packed at 1 (length fields - suc at) (length row - suc (get_or fields at top_field).word) at_in room (λ _. below) (omega (arith, at_in)) (omega (arith, inside.word)))

    raised_to : (field : Field) → List ℕ
    raised_to field = take field.word row ++ ((get_or row field.word 0 / 2 ^ field.shift + 1) * 2 ^ field.shift) ∷ replicate (length row - suc field.word) 0

    pub raised_packed : (new : List ℕ) → new ≡ take (get_or fields at d).word row ++ ((get_or row (get_or fields at d).word 0 / 2 ^ (get_or fields at d).shift + 1) * 2 ^ (get_or fields at d).shift) ∷ replicate (length row - suc (get_or fields at d).word) 0 → IsPackedRow fields new
    unfolding raised_to
    raised_packed new is =
        subst (IsPackedRow fields) (sym (is ∙ ap raised_to (sym same)))
        (packed-new_row (length row) fields are row refl packed at 1 (length fields - suc at) (length row - suc (get_or fields at top_field).word) at_in room (λ _. below) (omega (arith, at_in)) (omega (arith, inside.word)))

    pub raised_allowance : (new : List ℕ) → new ≡ take (get_or fields at d).word row ++ ((get_or row (get_or fields at d).word 0 / 2 ^ (get_or fields at d).shift + 1) * 2 ^ (get_or fields at d).shift) ∷ replicate (length row - suc (get_or fields at d).word) 0 → measure_of (digits_in fields new) ≡ allowance_of true kept (entry_limits fields) (measure_of (digits_in fields row))
    unfolding raised_to
    raised_allowance new is =
        let digits =
        ap (digits_in fields) (is ∙ ap raised_to (sym same))
        ∙ digits-new_row (length row) fields are row refl packed at 1 (length fields - suc at) (length row - suc (get_or fields at top_field).word) at_in room (λ _. below) (omega (arith, at_in)) (omega (arith, inside.word)) in
        let long = length-digits (length row) fields are row refl packed in
        let limits = limits_packed (entry_limits fields) fields are.packed in
        ap measure_of digits
        ∙ sym (allowance-raised (entry_limits fields) (digits_in fields row) kept at (length fields - suc at) (AreDigits-row (length row) fields row are packed) below (omega (arith, long)) (omega (arith, long, at_in))
        (subst (λ ls. IsLastBelow (digits_in fields row) ls (suc kept) at) limits last))

  -- the row after all after a field is cleared
  module _ (d : Field) where
    same_kept : get_or fields kept top_field ≡ get_or fields kept d
    same_kept = get_or_default fields kept top_field d l

    fits_kept : get_or (digits_in fields row) kept 0 + 0 ≤ get_or (limits_in fields) kept 0
    fits_kept = omega (arith, at_most_at (limits_in fields) (digits_in fields row) kept packed.limits (omega (arith, length-digits (length row) fields are row refl packed)))

    inside_kept : IsInside (length row) (get_or fields kept top_field)
    inside_kept = fields_inside (length row) fields are kept l

    pub cleared_fits : (get_or row (get_or fields kept d).word 0 / 2 ^ (get_or fields kept d).shift + 0) * 2 ^ (get_or fields kept d).shift < 2 ^ 64
    cleared_fits =
        subst (λ field. (get_or row field.word 0 / 2 ^ field.shift + 0) * 2 ^ field.shift < 2 ^ 64) same_kept
        (word_small (length row) fields are row refl packed kept 0 (length fields - suc kept) (length row - suc (get_or fields kept top_field).word) l fits_kept (λ _. below) (omega (arith, l)) (omega (arith, inside_kept.word)))

    cleared_to : (field : Field) → List ℕ
    cleared_to field = take field.word row ++ ((get_or row field.word 0 / 2 ^ field.shift + 0) * 2 ^ field.shift) ∷ replicate (length row - suc field.word) 0

    pub cleared_packed : (new : List ℕ) → new ≡ take (get_or fields kept d).word row ++ ((get_or row (get_or fields kept d).word 0 / 2 ^ (get_or fields kept d).shift + 0) * 2 ^ (get_or fields kept d).shift) ∷ replicate (length row - suc (get_or fields kept d).word) 0 → IsPackedRow fields new
    unfolding cleared_to
    cleared_packed new is =
        subst (IsPackedRow fields) (sym (is ∙ ap cleared_to (sym same_kept)))
        (packed-new_row (length row) fields are row refl packed kept 0 (length fields - suc kept) (length row - suc (get_or fields kept top_field).word) l fits_kept (λ _. below) (omega (arith, l)) (omega (arith, inside_kept.word)))

    pub cleared_allowance : (new : List ℕ) → new ≡ take (get_or fields kept d).word row ++ ((get_or row (get_or fields kept d).word 0 / 2 ^ (get_or fields kept d).shift + 0) * 2 ^ (get_or fields kept d).shift) ∷ replicate (length row - suc (get_or fields kept d).word) 0 → measure_of (digits_in fields new) ≡ allowance_of false kept (entry_limits fields) (measure_of (digits_in fields row))
    unfolding cleared_to
    cleared_allowance new is =
        let digits =
        ap (digits_in fields) (is ∙ ap cleared_to (sym same_kept))
        ∙ digits-new_row (length row) fields are row refl packed kept 0 (length fields - suc kept) (length row - suc (get_or fields kept top_field).word) l fits_kept (λ _. below) (omega (arith, l)) (omega (arith, inside_kept.word)) in
        let long = length-digits (length row) fields are row refl packed in
        ap measure_of digits
        ∙ sym (allowance-cleared (entry_limits fields) (digits_in fields row) kept (length fields - suc kept) (AreDigits-row (length row) fields row are packed) below (omega (arith, long, l)))

-- ---- a table

module _ (setting : Setting) (fields : List Field) (size : ℕ) (words : List ℕ) where
  pub length-packed : length (packed_content setting fields size words).measures ≡ length setting.priorities
  length-packed = length-listed (packed_measure fields size words) (length setting.priorities)

  pub measure_at-packed : (v : ℕ) → v < length setting.priorities → measure_at (packed_content setting fields size words).measures v ≡ packed_measure fields size words v
  measure_at-packed v l = measure_at-listed (packed_measure fields size words) (length setting.priorities) v l

  module _ (rows : ArePackedRows setting fields size words) where
    pub packed_fits : (v : ℕ) → v < length setting.priorities → v * size + size ≤ length words
    packed_fits v l = omega (arith, rows_before v (length setting.priorities) size l, rows.rows)

    pub length-packed_row : (v : ℕ) → v < length setting.priorities → length (row_of size words v) ≡ size
    length-packed_row v l = omega (arith, length-take size (drop (v * size) words), length-drop (v * size) words, packed_fits v l)

    digits_at : (v : ℕ) → v < length setting.priorities → AreDigits (entry_limits fields) (digits_in fields (row_of size words v))
    digits_at v l = AreDigits-row size fields (row_of size words v) rows.fields_are (rows.packed v l)

    pub IsMeasure-packed : (v : ℕ) → v < length setting.priorities → IsMeasure setting.player setting.priorities (measure_at (packed_content setting fields size words).measures v)
    IsMeasure-packed v l =
        subst (IsMeasure setting.player setting.priorities) (sym (measure_at-packed v l))
        (IsMeasure-digits setting.player setting.priorities (digits_in fields (row_of size words v)) (subst (λ ls. AreDigits ls (digits_in fields (row_of size words v))) rows.limits (digits_at v l)))

    pub length-fields : length fields ≡ width_of setting.player setting.priorities + 1
    length-fields =
        let limits = ap length (limits_packed (entry_limits fields) fields rows.fields_are.packed) in
        let entries = ap length rows.limits ∙ length-map (losing_priorities setting.player setting.priorities) (occurrences setting.priorities) in
        omega (arith, limits, entries, length-map fields (λ field. field.limit))

    pub kept_within : (p kept : ℕ) → kept ≡ entries_from setting.player setting.priorities p → kept < length fields
    kept_within p kept is = omega (arith, is, length-fields, count_by-le-length (λ q. nat_le p q) (losing_priorities setting.player setting.priorities))

    module _ (table : Content) (view : packed_content setting fields size words ≡ table) where
      pub in_packed : (v : ℕ) → v < length table.measures → v < length setting.priorities
      in_packed v l = omega (arith, subst (λ t. v < length t.measures) (sym view) l, length-packed)

      pub packed_top_iff : (v : ℕ) (flag : Bool) → v < length setting.priorities → (flag ≡ true) ↔ (get_or (digits_in fields (row_of size words v)) 0 0 ≢ 0) → (flag ≡ true) ↔ (measure_at table.measures v ≡ None)
      packed_top_iff v flag l iff =
          let digits = digits_in fields (row_of size words v) in
          let some : 0 < length digits = omega (arith, length-map fields (digit_in (row_of size words v)), length-fields) in
          let says = flag_is digits some in
          let is = measure_at-packed v l in
          subst (λ t. (flag ≡ true) ↔ (measure_at t.measures v ≡ None)) view
          ((λ set. is ∙ says.1 (iff.0 set)), (λ top. iff.1 (λ zero_is. says.0 zero_is (sym is ∙ top))))

      pub packed_compare_is :
          (a b p kept : ℕ) (d : Field) (order : Ordering) → a < length setting.priorities → b < length setting.priorities → kept ≡ entries_from setting.player setting.priorities p
          → order ≡ front_order (get_or fields kept d).word (get_or fields kept d).shift (row_of size words a) (row_of size words b)
          → order ≡ compare_from table.player table.priorities p (measure_at table.measures a) (measure_at table.measures b)
      packed_compare_is a b p kept d order a_in b_in k is =
          let l = kept_within p kept k in
          let row_a = row_of size words a in
          let row_b = row_of size words b in
          subst (λ t. order ≡ compare_from t.player t.priorities p (measure_at t.measures a) (measure_at t.measures b)) view
          (is
          ∙ ap (λ field. front_order field.word field.shift row_a row_b) (sym (get_or_default fields kept top_field d l))
          ∙ front_order-digits size fields rows.fields_are row_a row_b (length-packed_row a a_in) (length-packed_row b b_in) (rows.packed a a_in) (rows.packed b b_in) kept l
          ∙ sym (compare-digits (entry_limits fields) (digits_in fields row_a) (digits_in fields row_b) kept (digits_at a a_in) (digits_at b b_in))
          ∙ ap (λ n. compare_kept n (packed_measure fields size words a) (packed_measure fields size words b)) k
          ∙ ap (λ x. compare_from setting.player setting.priorities p x (packed_measure fields size words b)) (sym (measure_at-packed a a_in))
          ∙ ap (λ y. compare_from setting.player setting.priorities p (measure_at (packed_content setting fields size words).measures a) y) (sym (measure_at-packed b b_in)))

      pub packed_due_iff :
          (least : AllowancesAreLeastSufficient) (exceed : AllowancesExceed) (v w : ℕ) (order : Ordering) (top strict short : Bool) → v < length setting.priorities → w < length setting.priorities
          → order ≡ compare_from table.player table.priorities (slice_index setting.priorities v) (measure_at table.measures v) (measure_at table.measures w)
          → (top ≡ true) ↔ (measure_at table.measures v ≡ None) → strict ≡ loses setting.player (slice_index setting.priorities v) → short ≡ is_short order top strict
          → (short ≡ true) ↔ Exceeds table v w
      packed_due_iff least exceed v w order top strict short v_in w_in o t s e =
          subst (λ t. (short ≡ true) ↔ Exceeds t v w) view
          (due_from least exceed (packed_content setting fields size words) v w order top strict short (IsMeasure-packed v v_in) (IsMeasure-packed w w_in)
          (subst (λ t. order ≡ compare_from t.player t.priorities (slice_index setting.priorities v) (measure_at t.measures v) (measure_at t.measures w)) (sym view) o)
          (subst (λ t. (top ≡ true) ↔ (measure_at t.measures v ≡ None)) (sym view) t) s e)

-- the table after v has its allowance towards w
module _
    (least : AllowancesAreLeastSufficient) (setting : Setting) (fields : List Field) (size : ℕ) (words new_words : List ℕ) (kept v w : ℕ) (strict : Bool)
    (rows : ArePackedRows setting fields size words) (v_in : v < length setting.priorities) (w_in : w < length setting.priorities)
    (kept_is : kept ≡ entries_from setting.player setting.priorities (slice_index setting.priorities v))
    (strict_is : strict ≡ loses setting.player (slice_index setting.priorities v))
    (others : WritesRow size words new_words v (row_of size new_words v))
    (packed : IsPackedRow fields (row_of size new_words v))
    (allows : measure_of (digits_in fields (row_of size new_words v)) ≡ allowance_of strict kept (entry_limits fields) (measure_of (digits_in fields (row_of size words w)))) where
  abbrev packed_old : Content
  packed_old = packed_content setting fields size words

  abbrev packed_allowance : Measure
  packed_allowance = allowance_of strict kept (entry_limits fields) (measure_at packed_old.measures w)

  is_allowance : IsAllowanceIn packed_old v w packed_allowance
  is_allowance =
      allowance_is least setting.player setting.priorities (slice_index setting.priorities v) (measure_at packed_old.measures w) strict kept (entry_limits fields)
      (IsMeasure-packed setting fields size words rows w w_in) strict_is kept_is rows.limits

  pub ArePackedRows-raised : ArePackedRows setting fields size new_words
  ArePackedRows-raised = record {
    fields_are = rows.fields_are;
    limits = rows.limits;
    rows = others.count ∙ rows.rows;
    packed = λ u l.
        elim (cases_eq u v) [
          | inl same ↦ subst (λ k. IsPackedRow fields (row_of size new_words k)) (sym same) packed
          | inr ne ↦ subst (IsPackedRow fields) (sym (others.others u ne (packed_fits setting fields size words rows u l))) (rows.packed u l)
        ];
  }

  pub Raises-packed : Raises packed_old v w (packed_content setting fields size new_words)
  Raises-packed = record {
    allowance = packed_allowance;
    is = is_allowance;
    replaced =
        ap (λ measures. record { player = setting.player; priorities = setting.priorities; measures = measures })
        (listed-written (packed_measure fields size words) (packed_measure fields size new_words) (length setting.priorities) v packed_allowance v_in
        (allows ∙ ap (allowance_of strict kept (entry_limits fields)) (sym (measure_at-packed setting fields size words w w_in)))
        (λ u ne l. ap (λ row. measure_of (digits_in fields row)) (others.others u ne (packed_fits setting fields size words rows u l))));
  }

-- the table after v is set to top
module _
    (setting : Setting) (fields : List Field) (size : ℕ) (words new_words : List ℕ) (v : ℕ)
    (rows : ArePackedRows setting fields size words) (v_in : v < length setting.priorities)
    (others : WritesRow size words new_words v (row_of size new_words v))
    (holds : HoldsAllowance fields 0 true (row_of size words v) (row_of size new_words v)) where
  no_room : (limits : List ℕ) (x : Measure) → allowance_of true 0 limits x ≡ None
  no_room limits None = refl
  no_room limits (Some entries) = refl

  pub ArePackedRows-topped : ArePackedRows setting fields size new_words
  ArePackedRows-topped = record {
    fields_are = rows.fields_are;
    limits = rows.limits;
    rows = others.count ∙ rows.rows;
    packed = λ u l.
        elim (cases_eq u v) [
          | inl same ↦ subst (λ k. IsPackedRow fields (row_of size new_words k)) (sym same) holds.packed
          | inr ne ↦ subst (IsPackedRow fields) (sym (others.others u ne (packed_fits setting fields size words rows u l))) (rows.packed u l)
        ];
  }

  pub packed_content-topped : packed_content setting fields size new_words ≡ with_measure (packed_content setting fields size words) v None
  packed_content-topped =
      ap (λ measures. record { player = setting.player; priorities = setting.priorities; measures = measures })
      (listed-written (packed_measure fields size words) (packed_measure fields size new_words) (length setting.priorities) v None v_in
      (holds.allowance ∙ no_room (entry_limits fields) (packed_measure fields size words v))
      (λ u ne l. ap (λ row. measure_of (digits_in fields row)) (others.others u ne (packed_fits setting fields size words rows u l))))

-- ---- the table of a new solver

zero_digit : (n : ℕ) (field : Field) → digit_in (replicate n 0) field ≡ 0
zero_digit n field =
    let word = zero_at n field.word in
    ap (λ x. x / 2 ^ field.shift % 2 ^ field.bits) word ∙ zero_bits field.shift field.bits
  where
    zero_at : (n k : ℕ) → get_or (replicate {A = ℕ} n 0) k 0 ≡ 0
    zero_at zero k = refl
    zero_at (suc n) zero = refl
    zero_at (suc n) (suc k) = zero_at n k

    zero_bits : (s b : ℕ) → 0 / 2 ^ s % 2 ^ b ≡ 0
    zero_bits s b = ap (λ x. x % 2 ^ b) (zero-div (2 ^ s)) ∙ zero-mod (2 ^ b)

zero_digits : (n : ℕ) (fields : List Field) → digits_in fields (replicate n 0) ≡ replicate (length fields) 0
zero_digits n [] = refl
zero_digits n (field ∷ fields) = ap (λ d. d ∷ digits_in fields (replicate n 0)) (zero_digit n field) ∙ ap (λ ds. 0 ∷ ds) (zero_digits n fields)

module _ (setting : Setting) (fields : List Field) (size : ℕ) (words limits : List ℕ) (packed : ArePacked limits fields) (limits_are : limits ≡ limits_of setting.player setting.priorities)
    (size_is : size ≡ (last_field fields).word + 1) (zeros : words ≡ replicate (length setting.priorities * size) 0) where
  entries_are : entry_limits fields ≡ limits
  entries_are = ap (drop 1) (limits_packed limits fields packed)

  are_fields : AreFields size fields
  are_fields = record { packed = subst (λ ls. ArePacked ls fields) (sym entries_are) packed; room = omega (arith, size_is) }

  row_is : (v : ℕ) → v < length setting.priorities → row_of size words v ≡ replicate size 0
  row_is v l =
      let fits = rows_before v (length setting.priorities) size l in
      ap (λ xs. row_of size xs v) zeros
      ∙ ap (take size) (drop-replicate (v * size) (length setting.priorities * size) 0)
      ∙ take-replicate size (length setting.priorities * size - v * size) 0 (omega (arith, fits))

  zero_row : IsPackedRow fields (replicate size 0)
  zero_row = record {
    small = λ j l. omega (arith, get_or-replicate {A = ℕ} size j 0 0 (omega (arith, l, length-replicate {A = ℕ} size 0)));
    whole =
        value-zeros (word_places (length (replicate {A = ℕ} size 0))) size
        ∙ sym (ap (value (field_places (length (replicate {A = ℕ} size 0)) fields)) (zero_digits size fields) ∙ value-zeros (field_places (length (replicate {A = ℕ} size 0)) fields) (length fields));
    limits = subst (AreAtMost (limits_in fields)) (sym (zero_digits size fields)) (at_most_zeros (limits_in fields) (length fields) (sym (length-map fields (λ field. field.limit))));
    top = λ set k some. absurd (set (ap (λ ds. get_or ds 0 0) (zero_digits size fields) ∙ zero_head (length fields)));
  }
    where
      zero_head : (n : ℕ) → get_or (replicate {A = ℕ} n 0) 0 0 ≡ 0
      zero_head zero = refl
      zero_head (suc n) = refl

  pub ArePackedRows-zero : ArePackedRows setting fields size words
  ArePackedRows-zero = record {
    fields_are = are_fields;
    limits = entries_are ∙ limits_are;
    rows = ap length zeros ∙ length-replicate (length setting.priorities * size) 0;
    packed = λ v l. subst (IsPackedRow fields) (sym (row_is v l)) zero_row;
  }

  zero_measure_is : (v : ℕ) → v < length setting.priorities → packed_measure fields size words v ≡ zero_measure setting.player setting.priorities
  zero_measure_is v l =
      ap (λ row. measure_of (digits_in fields row)) (row_is v l) ∙ ap measure_of (zero_digits size fields)
      ∙ ap (λ n. measure_of (replicate n 0)) (length-fields setting fields size words ArePackedRows-zero ∙ add-one (width_of setting.player setting.priorities))

  pub packed_content-zero : packed_content setting fields size words ≡ zero_content setting.player setting.priorities
  packed_content-zero =
      ap (λ measures. record { player = setting.player; priorities = setting.priorities; measures = measures })
      (listed-same (packed_measure fields size words) (length setting.priorities) (zero_measure setting.player setting.priorities) zero_measure_is)
