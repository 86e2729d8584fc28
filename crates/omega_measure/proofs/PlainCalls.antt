-- What the calls of a table of numbers answer.
use Rattle.std.proofs.Common.{◌≡◌, ℕ, ◌<◌, Bool, true, false, cond, List, Some, None, Ordering, length, get_or, sym, refl, ap, ◌∙◌, subst, arith}
use Rattle.std.specs.Prelude.{◌↔◌, slice_index}
use Rattle.std.specs.declared.cmp.Ordering.TheVariants.{Greater}
use Rattle.omega_game_values.specs.Player.{loses}
use Rattle.omega_lift_laws.specs.Allowance.{measure_at}
use Rattle.omega_lift_laws.specs.Laws.{AllowancesAreLeastSufficient, AllowancesExceed}
use Rattle.omega_lift_laws.specs.Measure.{Measure, compare, compare_from, entries_from}
use Rattle.omega_measure.specs.private.layout.Due.{is_short}
use Rattle.omega_measure.specs.private.layout.Plain.{AreRows, content_of}
use Rattle.omega_lift_rows.specs.Rows.{compare_kept, measure_in}
use Rattle.omega_measure.specs.private.layout.Shape.{Setting, width_of}
use Rattle.omega_measure.specs.Table.{Content, Exceeds}
use Rattle.omega_measure.proofs.Allowances.{due_from}
use Rattle.omega_measure.proofs.Contents.{IsMeasure-content, length-content, measure_at-content}

-- a flag says whether the measure is top
flag_says : (b : Bool) (row : List ℕ) → (b ≡ true) ↔ (◌≡◌ {A = Measure} (cond b None (Some row)) None)
flag_says true row = (λ _. refl, λ _. refl)
flag_says false row = (λ h. cc, λ h. cc)

not_top : (x : Measure) (b : Bool) (row : List ℕ) → compare x (cond b None (Some row)) ≡ Greater → b ≡ false
not_top x false row h = refl
not_top None true row h = cc
not_top (Some xs) true row h = cc

module _ (setting : Setting) (tops : List Bool) (entries : List ℕ) (table : Content) (view : content_of setting tops entries ≡ table) where
  pub in_table : (v : ℕ) → v < length table.measures → v < length setting.priorities
  in_table v l = omega (arith, subst (λ t. v < length t.measures) (sym view) l, length-content setting tops entries)

  pub top_iff : (v : ℕ) (flag : Bool) → v < length setting.priorities → flag ≡ get_or tops v true → (flag ≡ true) ↔ (measure_at table.measures v ≡ None)
  top_iff v flag l read =
      subst (λ t. (flag ≡ true) ↔ (measure_at t.measures v ≡ None)) view
      (subst (λ x. (flag ≡ true) ↔ (x ≡ None)) (sym (measure_at-content setting tops entries v l))
      (subst (λ b. (b ≡ true) ↔ (measure_in (width_of setting.player setting.priorities) tops entries v ≡ None)) (sym read) (flag_says (get_or tops v true) _)))

  pub compare_is :
      (a b p width kept : ℕ) (flags : List Bool) (cells : List ℕ) (order : Ordering) → a < length setting.priorities → b < length setting.priorities
      → width ≡ width_of setting.player setting.priorities → kept ≡ entries_from setting.player setting.priorities p → flags ≡ tops → cells ≡ entries
      → order ≡ compare_kept kept (measure_in width flags cells a) (measure_in width flags cells b)
      → order ≡ compare_from table.player table.priorities p (measure_at table.measures a) (measure_at table.measures b)
  compare_is a b p width kept flags cells order a_in b_in w k f e is =
      subst (λ t. order ≡ compare_from t.player t.priorities p (measure_at t.measures a) (measure_at t.measures b)) view
      (is
      ∙ ap (λ n. compare_kept n (measure_in width flags cells a) (measure_in width flags cells b)) k
      ∙ ap (λ n. compare_from setting.player setting.priorities p (measure_in n flags cells a) (measure_in n flags cells b)) w
      ∙ ap (λ bs. compare_from setting.player setting.priorities p (measure_in (width_of setting.player setting.priorities) bs cells a) (measure_in (width_of setting.player setting.priorities) bs cells b)) f
      ∙ ap (λ xs. compare_from setting.player setting.priorities p (measure_in (width_of setting.player setting.priorities) tops xs a) (measure_in (width_of setting.player setting.priorities) tops xs b)) e
      ∙ ap (λ x. compare_from setting.player setting.priorities p x (measure_in (width_of setting.player setting.priorities) tops entries b)) (sym (measure_at-content setting tops entries a a_in))
      ∙ ap (λ x. compare_from setting.player setting.priorities p (measure_at (content_of setting tops entries).measures a) x) (sym (measure_at-content setting tops entries b b_in)))

  pub due_iff :
      (least : AllowancesAreLeastSufficient) (exceed : AllowancesExceed) → AreRows setting.player setting.priorities tops entries
      → (v w : ℕ) (order : Ordering) (top strict short : Bool) → v < length setting.priorities → w < length setting.priorities
      → order ≡ compare_from table.player table.priorities (slice_index setting.priorities v) (measure_at table.measures v) (measure_at table.measures w)
      → top ≡ get_or tops v true → strict ≡ loses setting.player (slice_index setting.priorities v) → short ≡ is_short order top strict
      → (short ≡ true) ↔ Exceeds table v w
  due_iff least exceed rows v w order top strict short v_in w_in o t s e =
      subst (λ t. (short ≡ true) ↔ Exceeds t v w) view
      (due_from least exceed (content_of setting tops entries) v w order top strict short
      (IsMeasure-content setting tops entries rows v v_in) (IsMeasure-content setting tops entries rows w w_in)
      (subst (λ t. order ≡ compare_from t.player t.priorities (slice_index setting.priorities v) (measure_at t.measures v) (measure_at t.measures w)) (sym view) o)
      (subst (λ x. (top ≡ true) ↔ (x ≡ None)) (sym (measure_at-content setting tops entries v v_in))
      (subst (λ b. (b ≡ true) ↔ (measure_in (width_of setting.player setting.priorities) tops entries v ≡ None)) (sym t) (flag_says (get_or tops v true) _)))
      s e)

  pub below_top : (v w : ℕ) → v < length setting.priorities → Exceeds table v w → get_or tops v true ≡ false
  below_top v w l exceeds =
      let above = subst (λ t. compare exceeds.allowance (measure_at t.measures v) ≡ Greater) (sym view) exceeds.above in
      not_top exceeds.allowance (get_or tops v true) _ (subst (λ x. compare exceeds.allowance x ≡ Greater) (measure_at-content setting tops entries v l) above)
