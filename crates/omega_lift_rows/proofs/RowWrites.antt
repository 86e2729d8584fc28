-- One row written over leaves the others.
use Rattle.std.proofs.Common.{◌≡◌, ◌≢◌, ℕ, ◌+◌, ◌-◌, ◌*◌, ◌<◌, ◌≤◌, Bool, true, false, cond, List, Some, None, length, get_or, set, take, drop, sym, refl, ap, ◌∙◌, subst, arith, inl, inr}
use Rattle.std.proofs.lemmas.Bool.{cases_order}
use Rattle.std.proofs.lemmas.List.{length-set, length-take-le, length-drop, get_or-set_same, get_or-set_other, drop_at, take-take, take-append-le, drop-drop, drop-take}
use Rattle.std.proofs.lemmas.List.Edits.{length-paste, take-paste, drop-paste}
use Rattle.std.proofs.lemmas.Nat.{mul-le}
use Rattle.std.proofs.lemmas.Slice.{put_mid-paste}
use borrow.Rule.Slice.PartMut.{put_mid}
use lib.Seq.{paste}
use Rattle.omega_lift_rows.specs.Rows.{WritesMeasure, WritesRow, allowance_of, allowed, measure_in, row_of}

-- the rows before that of v end where it begins
pub rows_before : (u v width : ℕ) → u < v → u * width + width ≤ v * width
rows_before u v width l = omega (arith, mul-le (u + 1) width v width (omega arith) (omega arith))

row_of-slice : {X : Type 0} (width : ℕ) (xs : List X) (v : ℕ) → row_of width xs v ≡ drop (v * width) (take (v * width + width) xs)
row_of-slice width xs v = sym (drop-take (v * width) width xs)

-- a row that is written over leaves the others
pub WritesRow-paste : {X : Type 0} (width : ℕ) (old : List X) (v : ℕ) (s : List X) → v * width + width ≤ length old → width ≤ length s → WritesRow width old (paste old (v * width) s width) v (take width s)
WritesRow-paste width old v s fits long =
    let start : v * width ≤ length old = omega arith in
    let front = take-paste old (v * width) s width start long in
    record {
      count = length-paste old (v * width) s width fits long;
      written =
          row_of-slice width (paste old (v * width) s width) v ∙ ap (drop (v * width)) front
          ∙ drop_at (take (v * width) old) (take width s) (v * width) (length-take-le (v * width) old start);
      others = λ u ne within.
          elim (cases_order u v) [
            | inl same ↦ absurd (ne same)
            | inr apart ↦ elim apart [
              | inl before ↦
                  let ends = rows_before u v width before in
                  let old_front =
                  sym (take-take (u * width + width) (v * width + width) (paste old (v * width) s width) (omega (arith, ends)))
                  ∙ ap (take (u * width + width)) front
                  ∙ take-append-le (u * width + width) (take (v * width) old) (take width s) (omega (arith, ends, length-take-le (v * width) old start))
                  ∙ take-take (u * width + width) (v * width) old ends in
                  row_of-slice width (paste old (v * width) s width) u ∙ ap (drop (u * width)) old_front ∙ sym (row_of-slice width old u)
              | inr following ↦
                  let begins = rows_before v u width following in
                  let skip = u * width - (v * width + width) in
                  let place : v * width + width + skip ≡ u * width = omega (arith, begins) in
                  let old_back =
                  ap (λ n. drop n (paste old (v * width) s width)) (sym place)
                  ∙ sym (drop-drop skip (v * width + width) (paste old (v * width) s width))
                  ∙ ap (drop skip) (drop-paste old (v * width) s width start long)
                  ∙ drop-drop skip (v * width + width) old
                  ∙ ap (λ n. drop n old) place in
                  ap (take width) old_back
            ]
          ];
    }

pub WritesRow-copied : {X : Type 0} (width : ℕ) (old new : List X) (from to n : ℕ) → new ≡ paste old (to * width) (drop (from * width) old) n → n ≡ width → from * width + width ≤ length old → to * width + width ≤ length old → WritesRow width old new to (row_of width old from)
WritesRow-copied width old new from to n is size source target =
    subst (λ xs. WritesRow width old xs to (row_of width old from)) (sym (is ∙ ap (paste old (to * width) (drop (from * width) old)) size))
    (WritesRow-paste width old to (drop (from * width) old) target (omega (arith, length-drop (from * width) old)))

pub WritesRow-put : {X : Type 0} (width : ℕ) (old : List X) (v k : ℕ) (row : List X) → k ≡ width → length row ≡ width → v * width + width ≤ length old → WritesRow width old (put_mid (v * width) k old row) v (row_of width (put_mid (v * width) k old row) v)
WritesRow-put width old v k row size long fits =
    let same = put_mid-paste (v * width) k old row row width refl (sym size) (sym long) in
    let writes = subst (λ xs. WritesRow width old xs v (take width row)) (sym same) (WritesRow-paste width old v row fits (omega arith)) in
    record { count = writes.count; written = refl; others = writes.others }

pub measure_in-top : (width : ℕ) (tops : List Bool) (entries : List ℕ) (v : ℕ) → get_or tops v true ≡ true → measure_in width tops entries v ≡ None
measure_in-top width tops entries v e = ap (λ b. cond b None (Some (row_of width entries v))) e

pub measure_in-below : (width : ℕ) (tops : List Bool) (entries : List ℕ) (v : ℕ) → get_or tops v true ≡ false → measure_in width tops entries v ≡ Some (row_of width entries v)
measure_in-below width tops entries v e = ap (λ b. cond b None (Some (row_of width entries v))) e

-- a row and a flag decide a measure
measure_in-same : (width : ℕ) (tops new_tops : List Bool) (entries new_entries : List ℕ) (u : ℕ) → get_or new_tops u true ≡ get_or tops u true → row_of width new_entries u ≡ row_of width entries u → measure_in width new_tops new_entries u ≡ measure_in width tops entries u
measure_in-same width tops new_tops entries new_entries u flag row = ap (λ b. cond b None (Some (row_of width new_entries u))) flag ∙ ap (λ r. cond (get_or tops u true) None (Some r)) row

-- the measure of v is raised to a row, or to top: first the row of w is copied, then it is raised
module _
    (strict : Bool) (kept : ℕ) (limits : List ℕ) (tops : List Bool) (entries copied raised : List ℕ) (v w : ℕ)
    (cells : length entries ≡ length tops * length limits) (v_in : v < length tops)
    (v_below : get_or tops v true ≡ false) (w_below : get_or tops w true ≡ false)
    (copies : WritesRow (length limits) entries copied v (row_of (length limits) entries w))
    (raises : WritesRow (length limits) copied raised v (row_of (length limits) raised v)) where
  others : (u : ℕ) → u ≢ v → u < length tops → row_of (length limits) raised u ≡ row_of (length limits) entries u
  others u ne l =
      let within = rows_before u (length tops) (length limits) l in
      raises.others u ne (omega (arith, within, copies.count)) ∙ copies.others u ne (omega (arith, within))

  towards : allowance_of strict kept limits (measure_in (length limits) tops entries w) ≡ allowed strict kept limits (row_of (length limits) copied v)
  towards = ap (allowance_of strict kept limits) (measure_in-below (length limits) tops entries w w_below) ∙ ap (allowed strict kept limits) (sym copies.written)

  pub WritesMeasure-below : allowed strict kept limits (row_of (length limits) copied v) ≡ Some (row_of (length limits) raised v) → WritesMeasure (length limits) tops entries tops raised v (allowance_of strict kept limits (measure_in (length limits) tops entries w))
  WritesMeasure-below e = record {
    flags = refl;
    cells = raises.count ∙ copies.count;
    written = measure_in-below (length limits) tops raised v v_below ∙ sym (towards ∙ e);
    others = λ u ne l. measure_in-same (length limits) tops tops entries raised u refl (others u ne l);
  }

  pub WritesMeasure-top : allowed strict kept limits (row_of (length limits) copied v) ≡ None → WritesMeasure (length limits) tops entries (set tops v true) raised v (allowance_of strict kept limits (measure_in (length limits) tops entries w))
  WritesMeasure-top e = record {
    flags = length-set tops v true;
    cells = raises.count ∙ copies.count;
    written = measure_in-top (length limits) (set tops v true) raised v (get_or-set_same tops v true true v_in) ∙ sym (towards ∙ e);
    others = λ u ne l. measure_in-same (length limits) tops (set tops v true) entries raised u (get_or-set_other tops v u true true ne) (others u ne l);
  }
