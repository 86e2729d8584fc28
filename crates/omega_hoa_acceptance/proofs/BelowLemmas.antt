-- Sets below a count, in nodes as in their tree.
use Rattle.std.proofs.Common.{◌≡◌, ℕ, ◌&&◌, ap, refl, sym, ◌∙◌, nat_lt}
use Rattle.std.specs.List.{list_all}
use Rattle.std.proofs.lemmas.List.Folds.{list_all-append}
use Rattle.omega_hoa_expression.proofs.BelowLemmas.{all-joined, all-last}
use Rattle.omega_hoa_acceptance.specs.Meaning.{acc_sets}
use Rattle.omega_hoa_acceptance.specs.Raw.{RawAccTree}
use Rattle.omega_hoa_acceptance.specs.Raw as acc
use Rattle.omega_hoa_acceptance.specs.private.layout.Plain.{set_below}
use Rattle.omega_hoa_acceptance.specs.private.layout.Raw.{raw_acc_postfix}
use Rattle.omega_hoa_acceptance.specs.declared.raw.RawAccNode.TheVariants as acc_node

-- a formula's sets
pub sets-postfix : (count : ℕ) (tree : RawAccTree)
    → list_all (set_below count) (raw_acc_postfix tree) ≡ list_all (λ set. nat_lt set count) (acc_sets tree)
sets-postfix count (acc.constant value) = refl
sets-postfix count (acc.atom name negated set) = refl
sets-postfix count (acc.group part) = all-last (set_below count) (raw_acc_postfix part) acc_node.Group refl ∙ sets-postfix count part
sets-postfix count (acc.conjunction left right) =
    all-joined (set_below count) (raw_acc_postfix left) (raw_acc_postfix right) acc_node.And refl
    ∙ (ap (λ b. b && list_all (set_below count) (raw_acc_postfix right)) (sets-postfix count left)
    ∙ (ap (λ b. list_all (λ set. nat_lt set count) (acc_sets left) && b) (sets-postfix count right)
    ∙ sym (list_all-append (λ set. nat_lt set count) (acc_sets left) (acc_sets right))))
sets-postfix count (acc.disjunction left right) =
    all-joined (set_below count) (raw_acc_postfix left) (raw_acc_postfix right) acc_node.Or refl
    ∙ (ap (λ b. b && list_all (set_below count) (raw_acc_postfix right)) (sets-postfix count left)
    ∙ (ap (λ b. list_all (λ set. nat_lt set count) (acc_sets left) && b) (sets-postfix count right)
    ∙ sym (list_all-append (λ set. nat_lt set count) (acc_sets left) (acc_sets right))))
