-- Along good terms no set is late for ever.
use Rattle.std.proofs.Common.{◌≡◌, ◌≤◌, ℕ, Bool, true, false, List, refl, arith}
use Rattle.std.specs.Prelude.{IsTrue, slice_index}
use Rattle.omega_ltl_shapes.specs.Covers.{is_set}
use Rattle.omega_ltl_shapes.specs.Demands.{IsTrueAt, SaysAt, Unfolds, Valuation}
use Rattle.omega_ltl_shapes.specs.Graphs.{IsGood}
use Rattle.omega_ltl_shapes.specs.Laws.{GoodTermsAccept}
use Rattle.omega_ltl_shapes.specs.Shapes.{goal_of, is_strong, shape_at}
use Rattle.omega_ltl_shapes.specs.declared.shape.Shape.{Shape}
use Rattle.omega_ltl_shapes.specs.declared.shape.Shape.TheVariants.{Fix, Next, Now}
use Rattle.omega_ltl_shapes.specs.declared.term.Term.{Term}

-- the goal of a true strong demand comes
goal_comes : (held : ℕ → ℕ → Bool) (P : ℕ → ℕ → Type 0) (d i : ℕ) (shape : Shape) → IsTrue (is_strong shape) → Unfolds held P d i shape
    → (k : ℕ) × (i ≤ k) × SaysAt held P k (goal_of shape)
goal_comes held P d i (Now c) strong u = absurd (cc)
goal_comes held P d i (Next e) strong u = absurd (cc)
goal_comes held P d i (Fix goal keep strong) must u = u.1 must

module _ (shapes : List Shape) (strongs : List ℕ) (v : Valuation shapes) (terms : ℕ → Term) (good : (i : ℕ) → IsGood strongs v i (terms i)) where
  accepts_at : (set i : ℕ) (late : Bool) → is_set (terms i).late set ≡ late → (j : ℕ) × (i ≤ j) × (is_set (terms j).late set ≡ false)
  accepts_at set i false e = (i, omega arith, e)
  accepts_at set i true e = (come.0, come.1, later (is_set (terms come.0).late set) refl)
    where
      come : (k : ℕ) × (i ≤ k) × SaysAt v.held (IsTrueAt v.truth) k (goal_of (shape_at shapes (slice_index strongs set)))
      come = goal_comes v.held (IsTrueAt v.truth) (slice_index strongs set) i (shape_at shapes (slice_index strongs set)) ((good i).strong set e)
          (v.unfolds (slice_index strongs set) i ((good i).late set e))

      later : (b : Bool) → is_set (terms come.0).late set ≡ b → is_set (terms come.0).late set ≡ false
      later false is = is
      later true is = absurd ((good come.0).no_goal set is come.2)

pub good_accept : GoodTermsAccept
good_accept shapes strongs v terms good set i = accepts_at shapes strongs v terms good set i (is_set (terms i).late set) refl
