-- The content of a table of numbers: new, and after a raise.
use Rattle.std.proofs.Common.{◌≡◌, ◌≢◌, ℕ, ◌-◌, ◌*◌, ◌<◌, Bool, true, false, cond, List, Some, None, length, get_or, set, replicate, take, sym, ap, ◌∙◌, subst, arith, inl, inr}
use Rattle.std.specs.Prelude.{slice_index}
use Rattle.std.proofs.lemmas.Bool.{cases_eq}
use Rattle.std.proofs.lemmas.List.{length-map, length-set, get_or-set_same, get_or-set_other, length-replicate, get_or-replicate, take-replicate, drop-replicate}
use Rattle.omega_game_values.specs.Bound.{occurrences, losing_priorities}
use Rattle.omega_game_values.specs.Player.{loses}
use Rattle.omega_lift_laws.specs.Allowance.{measure_at}
use Rattle.omega_lift_laws.specs.Laws.{AllowancesAreLeastSufficient}
use Rattle.omega_lift_laws.specs.Least.{limits_of}
use Rattle.omega_lift_laws.specs.Measure.{AreEntries, Measure, IsMeasure, entries_from, zero_measure}
use Rattle.omega_measure.specs.private.layout.Plain.{AreRows, content_of}
use Rattle.omega_lift_rows.specs.Rows.{WritesMeasure, allowance_of, measure_in, row_of}
use Rattle.omega_measure.specs.private.layout.Shape.{Setting, width_of}
use Rattle.omega_measure.specs.Table.{Content, IsAllowanceIn, Raises, with_measure, zero_content}
use Rattle.omega_measure.proofs.Allowances.{allowance_is}
use Rattle.omega_measure.proofs.Measures.{length-listed, listed-same, listed-written, measure_at-listed}
use Rattle.omega_lift_rows.proofs.RowWrites.{measure_in-below, rows_before}

pub length-limits : (setting : Setting) → length (limits_of setting.player setting.priorities) ≡ width_of setting.player setting.priorities
length-limits setting = length-map (losing_priorities setting.player setting.priorities) (occurrences setting.priorities)

module _ (setting : Setting) (tops : List Bool) (entries : List ℕ) where
  pub length-content : length (content_of setting tops entries).measures ≡ length setting.priorities
  length-content = length-listed (measure_in (width_of setting.player setting.priorities) tops entries) (length setting.priorities)

  pub measure_at-content : (v : ℕ) → v < length setting.priorities → measure_at (content_of setting tops entries).measures v ≡ measure_in (width_of setting.player setting.priorities) tops entries v
  measure_at-content v l = measure_at-listed (measure_in (width_of setting.player setting.priorities) tops entries) (length setting.priorities) v l

  pub IsMeasure-content : AreRows setting.player setting.priorities tops entries → (v : ℕ) → v < length setting.priorities → IsMeasure setting.player setting.priorities (measure_at (content_of setting tops entries).measures v)
  IsMeasure-content rows v l = subst (IsMeasure setting.player setting.priorities) (sym (measure_at-content v l)) (rows.measures v l)

-- a table after v has its allowance towards w
module _
    (least : AllowancesAreLeastSufficient) (setting : Setting) (tops new_tops : List Bool) (entries new_entries limits : List ℕ) (kept v w : ℕ) (strict : Bool)
    (rows : AreRows setting.player setting.priorities tops entries) (v_in : v < length setting.priorities) (w_in : w < length setting.priorities)
    (limits_are : limits ≡ limits_of setting.player setting.priorities)
    (kept_is : kept ≡ entries_from setting.player setting.priorities (slice_index setting.priorities v))
    (strict_is : strict ≡ loses setting.player (slice_index setting.priorities v))
    (writes : WritesMeasure (length limits) tops entries new_tops new_entries v (allowance_of strict kept limits (measure_in (length limits) tops entries w))) where
  width : length limits ≡ width_of setting.player setting.priorities
  width = ap length limits_are ∙ length-limits setting

  abbrev old : Content
  old = content_of setting tops entries

  abbrev new : Content
  new = content_of setting new_tops new_entries

  abbrev allowance : Measure
  allowance = allowance_of strict kept limits (measure_at old.measures w)

  allows : IsAllowanceIn old v w allowance
  allows =
      allowance_is least setting.player setting.priorities (slice_index setting.priorities v) (measure_at old.measures w) strict kept limits
      (IsMeasure-content setting tops entries rows w w_in) strict_is kept_is limits_are

  written : WritesMeasure (width_of setting.player setting.priorities) tops entries new_tops new_entries v allowance
  written =
      subst (λ y. WritesMeasure (width_of setting.player setting.priorities) tops entries new_tops new_entries v (allowance_of strict kept limits y)) (sym (measure_at-content setting tops entries w w_in))
      (subst (λ n. WritesMeasure n tops entries new_tops new_entries v (allowance_of strict kept limits (measure_in n tops entries w))) width writes)

  pub AreRows-raised : AreRows setting.player setting.priorities new_tops new_entries
  AreRows-raised = record {
    flags = written.flags ∙ rows.flags;
    cells = written.cells ∙ rows.cells;
    measures = λ u l.
        elim (cases_eq u v) [
          | inl same ↦
              subst (λ k. IsMeasure setting.player setting.priorities (measure_in (width_of setting.player setting.priorities) new_tops new_entries k)) (sym same)
              (subst (IsMeasure setting.player setting.priorities) (sym written.written) allows.measure)
          | inr ne ↦ subst (IsMeasure setting.player setting.priorities) (sym (written.others u ne (omega (arith, rows.flags)))) (rows.measures u l)
        ];
  }

  pub Raises-raised : Raises old v w new
  Raises-raised = record {
    allowance = allowance;
    is = allows;
    replaced =
        ap (λ measures. record { player = setting.player; priorities = setting.priorities; measures = measures })
        (listed-written (measure_in (width_of setting.player setting.priorities) tops entries) (measure_in (width_of setting.player setting.priorities) new_tops new_entries)
        (length setting.priorities) v allowance v_in written.written (λ u ne l. written.others u ne (omega (arith, rows.flags))));
  }

-- the table after v is set to top
module _
    (setting : Setting) (tops : List Bool) (entries : List ℕ) (v : ℕ) (rows : AreRows setting.player setting.priorities tops entries)
    (v_in : v < length setting.priorities) where
  abbrev plain : List Bool → ℕ → Measure
  plain flags u = measure_in (width_of setting.player setting.priorities) flags entries u

  top_there : plain (set tops v true) v ≡ None
  top_there =
      ap (λ b. cond {A = Measure} b None (Some (row_of (width_of setting.player setting.priorities) entries v)))
      (get_or-set_same tops v true true (omega (arith, v_in, rows.flags)))

  kept_there : (u : ℕ) → u ≢ v → plain (set tops v true) u ≡ plain tops u
  kept_there u ne =
      ap (λ b. cond {A = Measure} b None (Some (row_of (width_of setting.player setting.priorities) entries u)))
      (get_or-set_other tops v u true true ne)

  pub AreRows-topped : AreRows setting.player setting.priorities (set tops v true) entries
  AreRows-topped = record {
    flags = length-set tops v true ∙ rows.flags;
    cells = rows.cells;
    measures = λ u l.
        elim (cases_eq u v) [
          | inl same ↦
              subst (λ k. IsMeasure setting.player setting.priorities (plain (set tops v true) k)) (sym same)
              (subst (IsMeasure setting.player setting.priorities) (sym top_there) tt)
          | inr ne ↦ subst (IsMeasure setting.player setting.priorities) (sym (kept_there u ne)) (rows.measures u l)
        ];
  }

  pub content-topped : content_of setting (set tops v true) entries ≡ with_measure (content_of setting tops entries) v None
  content-topped =
      ap (λ measures. record { player = setting.player; priorities = setting.priorities; measures = measures })
      (listed-written (plain tops) (plain (set tops v true)) (length setting.priorities) v None v_in top_there (λ u ne l. kept_there u ne))

-- the table of a new solver: no flag is set, and every entry is 0
module _ (setting : Setting) (tops : List Bool) (entries : List ℕ) (flags : tops ≡ replicate (length setting.priorities) false) (zeros : entries ≡ replicate (length setting.priorities * width_of setting.player setting.priorities) 0) where
  zero_at : (v : ℕ) → v < length setting.priorities → measure_in (width_of setting.player setting.priorities) tops entries v ≡ zero_measure setting.player setting.priorities
  zero_at v l =
      let width = width_of setting.player setting.priorities in
      let below = ap (λ bs. get_or bs v true) flags ∙ get_or-replicate (length setting.priorities) v false true l in
      let fits = rows_before v (length setting.priorities) width l in
      let row =
      ap (λ xs. row_of width xs v) zeros
      ∙ ap (take width) (drop-replicate (v * width) (length setting.priorities * width) 0)
      ∙ take-replicate width (length setting.priorities * width - v * width) 0 (omega (arith, fits)) in
      measure_in-below width tops entries v below ∙ ap (λ r. Some r) row

  zero_is : AreEntries setting.player setting.priorities (replicate (width_of setting.player setting.priorities) 0)
  zero_is = record {
    count = length-replicate (width_of setting.player setting.priorities) 0;
    limits = λ k l. omega (arith, get_or-replicate {A = ℕ} (width_of setting.player setting.priorities) k 0 0 (omega (arith, l, length-replicate {A = ℕ} (width_of setting.player setting.priorities) 0)));
  }

  pub AreRows-zero : AreRows setting.player setting.priorities tops entries
  AreRows-zero = record {
    flags = ap length flags ∙ length-replicate (length setting.priorities) false;
    cells = ap length zeros ∙ length-replicate (length setting.priorities * width_of setting.player setting.priorities) 0;
    measures = λ v l. subst (IsMeasure setting.player setting.priorities) (sym (zero_at v l)) zero_is;
  }

  pub content-zero : content_of setting tops entries ≡ zero_content setting.player setting.priorities
  content-zero =
      ap (λ measures. record { player = setting.player; priorities = setting.priorities; measures = measures })
      (listed-same (measure_in (width_of setting.player setting.priorities) tops entries) (length setting.priorities) (zero_measure setting.player setting.priorities) zero_at)
