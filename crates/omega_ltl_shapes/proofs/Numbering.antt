-- The numbers of demands, and steps along indices.
use Rattle.std.proofs.Common.{◌≡◌, ◌⊎◌, inl, inr, ◌<◌, ◌≤◌, ◌+◌, ◌*◌, ◌/◌, ◌%◌, ℕ, Bool, true, false, subst, arith}
use Rattle.std.proofs.lemmas.Bool.{cases_order, eq-eqb, ne_eqb}
use Rattle.omega_ltl_shapes.specs.Shapes.{demand, is_negated}

pub demand_node : (number : ℕ) (negated : Bool) → demand number negated / 2 ≡ number
demand_node number false = omega arith
demand_node number true = omega arith

pub demand_sign : (number : ℕ) (negated : Bool) → is_negated (demand number negated) ≡ negated
demand_sign number false = ne_eqb (2 * number % 2) 1 (λ e. omega arith)
demand_sign number true = eq-eqb ((2 * number + 1) % 2) 1 (omega arith)

pub demand_below : (number d : ℕ) (negated : Bool) → number < d / 2 → demand number negated < d
demand_below number d false below = omega arith
demand_below number d true below = omega arith

-- the first index, or a later one
pub first_or_later : (i j : ℕ) → i ≤ j → (i ≡ j) ⊎ (i + 1 ≤ j)
first_or_later i j le = elim (cases_order i j) [ inl e ↦ inl e | inr (inl lt) ↦ inr (omega arith) | inr (inr gt) ↦ absurd (omega arith) ]

-- what holds at an index and at those after it that pass
pub from_first : (Q : ℕ → Type 0) (i j : ℕ) → i ≤ j → Q i → (i + 1 ≤ j → Q j) → Q j
from_first Q i j le first later = elim (first_or_later i j le) [ inl e ↦ subst Q e first | inr more ↦ later more ]
