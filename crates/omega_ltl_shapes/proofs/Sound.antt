-- What a trace covers is met.
use Rattle.std.proofs.Common.{◌≡◌, ◌⊎◌, inl, inr, ◌<◌, ◌≤◌, ◌+◌, ◌-◌, zero, suc, ℕ, Bool, true, false, List, length, refl, sym, ap, subst, ◌∙◌, arith, true≢false}
use Rattle.std.specs.Prelude.{Contains, IsTrue}
use Rattle.std.proofs.lemmas.Bool.{cases_lt, false≢true}
use Rattle.omega_ltl_formula.specs.Table.{NodesAreOverNodes}
use Rattle.omega_ltl_shapes.specs.Combinations.{SpeaksBelow}
use Rattle.omega_ltl_shapes.specs.Covers.{Covers, CoversCombination, HasLiteral, Step, is_set}
use Rattle.omega_ltl_shapes.specs.Demands.{Comes, IsLiteralTrue, IsMet, SaysAt, Shows, Stays, seen_of}
use Rattle.omega_ltl_shapes.specs.Graphs.{IsSetOf, IsStrong, IsTrace, Trace}
use Rattle.omega_ltl_shapes.specs.Laws.{TracesAreSound}
use Rattle.omega_ltl_shapes.specs.Shapes.{AreGrounded, IsShapeBelow, goal_of, is_strong, shape_at}
use Rattle.omega_ltl_shapes.specs.declared.combination.Combination.{Combination}
use Rattle.omega_ltl_shapes.specs.declared.shape.Shape.{Shape}
use Rattle.omega_ltl_shapes.specs.declared.shape.Shape.TheVariants.{Fix, Next, Now}
use Rattle.omega_ltl_shapes.proofs.Combining.{says_more}
use Rattle.omega_ltl_shapes.proofs.Covering.{unfolds}
use Rattle.omega_ltl_shapes.proofs.Grounded.{shape_beyond, shapes_below}
use Rattle.omega_ltl_shapes.proofs.Numbering.{from_first}
use Rattle.omega_ltl_shapes.proofs.Showing.{demands_shown}

module _ (shapes : List Shape) (grounded : AreGrounded shapes) (strongs : List ℕ) (held : ℕ → ℕ → Bool) (t : Trace) (is : IsTrace shapes strongs held t) where
  -- what the edge of an index covers
  abbrev At : ℕ → ℕ → Type 0
  At d i = Covers shapes (t.cubes i) (t.nexts i) d

  step : (d i : ℕ) → At d i → Step (t.cubes i) (t.nexts i) (λ e. At e i) d (shape_at shapes d)
  step d i c = unfolds shapes grounded (t.cubes i) (t.nexts i) d c

  module _ (d : ℕ) (goal keep : Combination) (strong : Bool) (shape : shape_at shapes d ≡ Fix goal keep strong) where
    abbrev Goal : ℕ → Type 0
    Goal i = CoversCombination shapes (t.cubes i) (t.nexts i) goal

    abbrev Keep : ℕ → Type 0
    Keep i = CoversCombination shapes (t.cubes i) (t.nexts i) keep

    fixed : (i : ℕ) → At d i → Goal i ⊎ (Keep i × Contains (t.nexts i) d)
    fixed i c = subst (Step (t.cubes i) (t.nexts i) (λ e. At e i) d) shape (step d i c)

    stays_for : (n i k : ℕ) → k ≡ i + n → At d i → ((j : ℕ) → i ≤ j → j ≤ k → Keep j)
        ⊎ ((j : ℕ) × (i ≤ j) × (j ≤ k) × Goal j × ((m : ℕ) → i ≤ m → m < j → Keep m))
    stays_for zero i k e c = elim (fixed i c) [
      | inl goal ↦ inr (i, omega arith, omega arith, goal, λ m from before. absurd (omega arith))
      | inr kept ↦ inl (λ j from upto. subst Keep (let same : i ≡ j = omega arith in same) kept.0)
    ]
    stays_for (suc n) i k e c = elim (fixed i c) [
      | inl goal ↦ inr (i, omega arith, omega arith, goal, λ m from before. absurd (omega arith))
      | inr kept ↦ elim (stays_for n (i + 1) k (omega arith) (is.goes i d kept.1)) [
        | inl all ↦ inl (λ j from upto. from_first Keep i j from kept.0 (λ more. all j more upto))
        | inr come ↦ inr (come.0, omega arith, come.2, come.3, λ m from before. from_first Keep i m from kept.0 (λ more. come.4 m more before))
      ]
    ]

    stays : (i : ℕ) → At d i → Stays Goal Keep i
    stays i c = λ k after. stays_for (k - i) i k (omega arith) c

    module _ (must : strong ≡ true) where
      strong_shape : IsStrong shapes d
      strong_shape = ap is_strong shape ∙ must

      goal_at : (i : ℕ) → CoversCombination shapes (t.cubes i) (t.nexts i) (goal_of (shape_at shapes d)) → Goal i
      goal_at i covered = subst (λ (s : Shape). CoversCombination shapes (t.cubes i) (t.nexts i) (goal_of s)) shape covered

      -- at an index at which its set is not late, the goal has come
      comes_for : (n i set : ℕ) → IsSetOf strongs set d → Contains (t.states i) d → is_set (t.lates (i + n)) set ≡ false → Comes Goal Keep i
      comes_for zero i set of inside ends = elim (is.postponed i d inside strong_shape) [
        | inl goal ↦ (i, omega arith, goal_at i goal, λ j from before. absurd (omega arith))
        | inr late ↦ absurd (true≢false (sym (subst (λ (s : ℕ). IsTrue (is_set (t.lates i) s)) (is.once d late.0 set late.1 of) late.2)
            ∙ subst (λ (m : ℕ). is_set (t.lates m) set ≡ false) (let e : i + 0 ≡ i = omega arith in e) ends))
      ]
      comes_for (suc n) i set of inside ends = elim (is.postponed i d inside strong_shape) [
        | inl goal ↦ (i, omega arith, goal_at i goal, λ j from before. absurd (omega arith))
        | inr late ↦ elim (fixed i (is.covers i d inside)) [
          | inl goal ↦ (i, omega arith, goal, λ j from before. absurd (omega arith))
          | inr kept ↦
              let later : Comes Goal Keep (i + 1) = comes_for n (i + 1) set of (is.kept i d late.3 strong_shape)
              (subst (λ (m : ℕ). is_set (t.lates m) set ≡ false) (let e : i + suc n ≡ (i + 1) + n = omega arith in e) ends) in
              (later.0, omega arith, later.2, λ j from before. from_first Keep i j from kept.0 (λ more. later.3 j more before))
        ]
      ]

      -- so it comes from each state that has the demand
      comes_in : (i : ℕ) → Contains (t.states i) d → Comes Goal Keep i
      comes_in i inside = elim (is.postponed i d inside strong_shape) [
        | inl goal ↦ (i, omega arith, goal_at i goal, λ j from before. absurd (omega arith))
        | inr late ↦
            let at : (j : ℕ) × (i ≤ j) × (is_set (t.lates j) late.0 ≡ false) = is.ever late.0 i late.1.below in
            comes_for (at.0 - i) i late.0 late.1 inside (subst (λ (m : ℕ). is_set (t.lates m) late.0 ≡ false) (let e : at.0 ≡ i + (at.0 - i) = omega arith in e) at.2)
      ]

      comes : (i : ℕ) → At d i → Comes Goal Keep i
      comes i c = elim (fixed i c) [
        | inl goal ↦ (i, omega arith, goal, λ j from before. absurd (omega arith))
        | inr kept ↦
            let later : Comes Goal Keep (i + 1) = comes_in (i + 1) (is.kept i d kept.1 strong_shape) in
            (later.0, omega arith, later.2, λ j from before. from_first Keep i j from kept.0 (λ more. later.3 j more before))
      ]

  module _ (P : ℕ → ℕ → Type 0) (meets : (d i : ℕ) → Shows held P i (shape_at shapes d) → P d i) where
    module _ (d : ℕ) (smaller : (e i : ℕ) → e < d → At e i → P e i) where
      says : (i : ℕ) (c : Combination) → SpeaksBelow d c → CoversCombination shapes (t.cubes i) (t.nexts i) c → SaysAt held P i c
      says i c below s = says_more (HasLiteral (t.cubes i)) (IsLiteralTrue (held i)) (λ e. At e i) (λ e. P e i) d c below
          (is.allowed i) (λ e under h. smaller e i under h) s

      shown : (i : ℕ) (shape : Shape) → shape_at shapes d ≡ shape → IsShapeBelow d shape → At d i → Shows held P i shape
      shown i (Now c) e below h = says i c below (subst (Step (t.cubes i) (t.nexts i) (λ x. At x i) d) e (step d i h))
      shown i (Next x) e below h = smaller x (i + 1) below (is.goes i x (subst (Step (t.cubes i) (t.nexts i) (λ x. At x i) d) e (step d i h)))
      shown i (Fix goal keep true) e below h =
          let come : Comes (Goal d goal keep true e) (Keep d goal keep true e) i = comes d goal keep true e refl i h in
          (come.0, come.1, says come.0 goal below.0 come.2, λ j from before. says j keep below.1 (come.3 j from before))
      shown i (Fix goal keep false) e below h = λ k after. elim (stays d goal keep false e i h k after) [
        | inl all ↦ inl (λ j from upto. says j keep below.1 (all j from upto))
        | inr come ↦ inr (come.0, come.1, come.2, says come.0 goal below.0 come.3, λ m from before. says m keep below.1 (come.4 m from before))
      ]

    sound_below : (n d i : ℕ) → d < n → At d i → P d i
    sound_below zero d i under h = absurd (omega arith)
    sound_below (suc n) d i under h =
        meets d i (shown d (λ e j smaller c. sound_below n e j (omega arith) c) i (shape_at shapes d) refl (grounded d) h)

    pub sound : (d i : ℕ) → At d i → P d i
    sound d i h = sound_below (suc d) d i (omega arith) h

pub traces_sound : NodesAreOverNodes → TracesAreSound
traces_sound over formula word shapes strongs t is_formula are is d i c =
    sound shapes (shapes_below formula.table shapes is_formula.table is_formula.few_names are) strongs (seen_of formula.table.names word) t is (IsMet formula.table word)
    (λ e j s. elim (cases_lt e (length shapes)) [
      | inl low ↦ demands_shown over formula.table word e j is_formula.table (omega (arith, are.count))
          (subst (Shows (seen_of formula.table.names word) (IsMet formula.table word) j) (are.each e low) s)
      | inr high ↦ absurd (false≢true (subst (Shows (seen_of formula.table.names word) (IsMet formula.table word) j) (shape_beyond shapes e high) s))
    ])
    d i c
