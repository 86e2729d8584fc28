-- The dual formula with room for an atom more.
use Rattle.std.proofs.Common.{◌≡◌, ◌<◌, ◌≤◌, ℕ, Bool, nat_lt, max, codes, refl, ap, arith}
use Rattle.omega_hoa_expression.specs.Limits.{most_depth}
use Rattle.omega_hoa_acceptance.specs.Writing.{acc_text}
use Rattle.omega_hoa_acceptance.specs.Writing.{acc_grouped, acc_written}
use Rattle.omega_hoa_acceptance.specs.Acceptance.{AccTree}
use Rattle.omega_hoa_acceptance.specs.Acceptance as acc
use Rattle.omega_hoa_acceptance.specs.Raw.{RawAccTree, raw_acc_depth}
use Rattle.omega_hoa_acceptance.specs.Raw as raw_acc

-- a formula before `|` needs no parentheses
bare_before_or : (tree : AccTree) → acc_grouped (nat_lt (acc_text tree).rank 1) (acc_written tree) ≡ acc_written tree
bare_before_or (acc.constant value) = refl
bare_before_or (acc.inf negated set) = refl
bare_before_or (acc.fin negated set) = refl
bare_before_or (acc.conjunction left right) = refl
bare_before_or (acc.disjunction left right) = refl

-- nor does an atom after it
pub with_atom : (tree : AccTree) (negated : Bool) (set : ℕ)
    → acc_written (acc.disjunction tree (acc.inf negated set)) ≡ raw_acc.disjunction (acc_written tree) (raw_acc.atom (codes "Inf") negated set)
with_atom tree negated set = ap (λ (f : RawAccTree). raw_acc.disjunction f (raw_acc.atom (codes "Inf") negated set)) (bare_before_or tree)

-- a formula that has room below the limit can be joined with an atom
pub atom_joins : (left right : RawAccTree) → raw_acc_depth right ≡ 1 → raw_acc_depth left < most_depth → most_depth ≤ max (raw_acc_depth left) (raw_acc_depth right) → ⊥
atom_joins left right one shallow deep = omega (arith, one, shallow, deep)
