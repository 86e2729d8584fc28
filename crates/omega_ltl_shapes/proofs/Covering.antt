-- What is covered is covered by its shape, and by more literals and more demands on the next index.
use Rattle.std.proofs.Common.{inl, inr, ◌<◌, zero, suc, ℕ, List, arith}
use Rattle.omega_ltl_shapes.specs.Covers.{Covers, CoversCombination, CoversWithin, HasLiteral, Step}
use Rattle.omega_ltl_shapes.specs.Shapes.{AreGrounded, IsShapeBelow, shape_at}
use Rattle.omega_ltl_shapes.specs.Terms.{HasItems, HasLiterals}
use Rattle.omega_ltl_shapes.specs.declared.combination.Combination.{Combination}
use Rattle.omega_ltl_shapes.specs.declared.cube.Cube.{Cube}
use Rattle.omega_ltl_shapes.specs.declared.shape.Shape.{Shape}
use Rattle.omega_ltl_shapes.specs.declared.shape.Shape.TheVariants.{Fix, Next, Now}
use Rattle.omega_ltl_shapes.proofs.Combining.{says_all, says_more}

pub step_more : (cube more : Cube) (next after : List ℕ) (P Q : ℕ → Type 0) (d : ℕ) (shape : Shape) → IsShapeBelow d shape
    → HasLiterals cube more → HasItems next after → ((e : ℕ) → e < d → P e → Q e) → Step cube next P d shape → Step more after Q d shape
step_more cube more next after P Q d (Now c) below l n p s = says_more (HasLiteral cube) (HasLiteral more) P Q d c below l p s
step_more cube more next after P Q d (Next e) below l n p s = n e s
step_more cube more next after P Q d (Fix goal keep strong) below l n p (inl s) =
    inl (says_more (HasLiteral cube) (HasLiteral more) P Q d goal below.0 l p s)
step_more cube more next after P Q d (Fix goal keep strong) below l n p (inr s) =
    inr (says_more (HasLiteral cube) (HasLiteral more) P Q d keep below.1 l p s.0, n d s.1)

module _ (shapes : List Shape) (grounded : AreGrounded shapes) where
  pub covers_within : (cube more : Cube) (next after : List ℕ) → HasLiterals cube more → HasItems next after
      → (n m d : ℕ) → d < m → CoversWithin shapes cube next n d → CoversWithin shapes more after m d
  covers_within cube more next after l i zero m d small c = elim c [ ]
  covers_within cube more next after l i (suc n) zero d small c = absurd (omega arith)
  covers_within cube more next after l i (suc n) (suc m) d small c =
      step_more cube more next after (CoversWithin shapes cube next n) (CoversWithin shapes more after m) d (shape_at shapes d) (grounded d) l i
      (λ e under s. covers_within cube more next after l i n m e (omega arith) s) c

  module _ (cube : Cube) (next : List ℕ) where
    pub unfolds : (d : ℕ) → Covers shapes cube next d → Step cube next (Covers shapes cube next) d (shape_at shapes d)
    unfolds d c =
        step_more cube cube next next (CoversWithin shapes cube next d) (Covers shapes cube next) d (shape_at shapes d) (grounded d) (λ name negated h. h) (λ e h. h)
        (λ e under s. covers_within cube cube next next (λ name negated h. h) (λ x h. h) d (suc e) e (omega arith) s) c

    pub folds : (d : ℕ) → Step cube next (Covers shapes cube next) d (shape_at shapes d) → Covers shapes cube next d
    folds d s =
        step_more cube cube next next (Covers shapes cube next) (CoversWithin shapes cube next d) d (shape_at shapes d) (grounded d) (λ name negated h. h) (λ e h. h)
        (λ e under c. covers_within cube cube next next (λ name negated h. h) (λ x h. h) (suc e) d e under c) s

  pub covers_more : (cube more : Cube) (next after : List ℕ) → HasLiterals cube more → HasItems next after
      → (d : ℕ) → Covers shapes cube next d → Covers shapes more after d
  covers_more cube more next after l i d c = covers_within cube more next after l i (suc d) (suc d) d (omega arith) c

  pub combination_more : (cube more : Cube) (next after : List ℕ) → HasLiterals cube more → HasItems next after
      → (c : Combination) → CoversCombination shapes cube next c → CoversCombination shapes more after c
  combination_more cube more next after l i c s =
      says_all (HasLiteral cube) (HasLiteral more) (Covers shapes cube next) (Covers shapes more after) c l (covers_more cube more next after l i) s
