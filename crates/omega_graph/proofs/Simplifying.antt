-- A formula keeps its value if atoms are replaced by known values and operators on constants are simplified.
use Rattle.std.proofs.Common.{◌≡◌, ℕ, Bool, true, false, not, ◌&&◌, ◌||◌, List, Option, Some, None, sym, ap, refl, ◌∙◌}
use Rattle.omega_hoa_acceptance.specs.Acceptance.{AccTree, accepts, conjunction, constant, disjunction, fin, inf, occurs}
use Rattle.omega_graph.specs.Marks.{Known, both_of, either_of, known_not, known_or, simplified}

and_true : (x : Bool) → x ≡ (x && true)
and_true true = refl
and_true false = refl

and_false : (x : Bool) → false ≡ (x && false)
and_false true = refl
and_false false = refl

or_true : (x : Bool) → true ≡ (x || true)
or_true true = refl
or_true false = refl

or_false : (x : Bool) → x ≡ (x || false)
or_false true = refl
or_false false = refl

module _ (marks : List (List ℕ)) where
  both : (left right : AccTree) → accepts marks (both_of left right) ≡ (accepts marks left && accepts marks right)
  both (constant true) right = refl
  both (constant false) right = refl
  both left (constant true) = and_true (accepts marks left)
  both left (constant false) = and_false (accepts marks left)
  both left right = refl

  either : (left right : AccTree) → accepts marks (either_of left right) ≡ (accepts marks left || accepts marks right)
  either (constant true) right = refl
  either (constant false) right = refl
  either left (constant true) = or_true (accepts marks left)
  either left (constant false) = or_false (accepts marks left)
  either left right = refl

  -- an atom that has its known value
  known_value : (value : Option Bool) (atom : AccTree) → ((b : Bool) → value ≡ Some b → accepts marks atom ≡ b)
      → accepts marks (known_or value atom) ≡ accepts marks atom
  known_value None atom right = refl
  known_value (Some b) atom right = sym (right b refl)

  -- the same for the negation of a known value
  opposite_value : (value : Option Bool) (atom : AccTree) → ((b : Bool) → value ≡ Some b → accepts marks atom ≡ not b)
      → accepts marks (known_or (known_not value) atom) ≡ accepts marks atom
  opposite_value None atom right = refl
  opposite_value (Some b) atom right = sym (right b refl)

  -- known values of what occurs
  pub keeps_value : (known : Known) → ((negated : Bool) (set : ℕ) (value : Bool) → known negated set ≡ Some value → occurs marks negated set ≡ value)
      → (formula : AccTree) → accepts marks (simplified known formula) ≡ accepts marks formula
  keeps_value known right (constant value) = refl
  keeps_value known right (inf negated set) = known_value (known negated set) (inf negated set) (right negated set)
  keeps_value known right (fin negated set) =
      opposite_value (known negated set) (fin negated set) (λ value is. ap not (right negated set value is))
  keeps_value known right (conjunction left other) =
      both (simplified known left) (simplified known other)
      ∙ ap (λ b. b && accepts marks (simplified known other)) (keeps_value known right left)
      ∙ ap (λ b. accepts marks left && b) (keeps_value known right other)
  keeps_value known right (disjunction left other) =
      either (simplified known left) (simplified known other)
      ∙ ap (λ b. b || accepts marks (simplified known other)) (keeps_value known right left)
      ∙ ap (λ b. accepts marks left || b) (keeps_value known right other)
