-- Propositions below a count, in nodes as in their tree.
use Rattle.std.proofs.Common.{◌≡◌, ℕ, ◌&&◌, ap, refl, sym, ◌∙◌, nat_lt}
use Rattle.std.specs.List.{list_all}
use Rattle.std.proofs.lemmas.List.Folds.{list_all-append}
use Rattle.omega_hoa_expression.proofs.BelowLemmas.{all-joined, all-last}
use Rattle.omega_hoa_label.specs.Raw.{RawLabelTree, alias, conjunction, constant, disjunction, group, negation, proposition, raw_propositions}
use Rattle.omega_hoa_label.specs.private.layout.Propositions.{proposition_below}
use Rattle.omega_hoa_label.specs.Postfix.{raw_postfix}
use Rattle.omega_hoa_label.specs.declared.label.LabelNode.TheVariants.{And, Group, Not, Or}

-- a label's propositions
pub propositions-postfix : (count : ℕ) (tree : RawLabelTree)
    → list_all (proposition_below count) (raw_postfix tree) ≡ list_all (λ number. nat_lt number count) (raw_propositions tree)
propositions-postfix count (constant value) = refl
propositions-postfix count (proposition number) = refl
propositions-postfix count (alias name) = refl
propositions-postfix count (negation part) = all-last (proposition_below count) (raw_postfix part) Not refl ∙ propositions-postfix count part
propositions-postfix count (group part) = all-last (proposition_below count) (raw_postfix part) Group refl ∙ propositions-postfix count part
propositions-postfix count (conjunction left right) =
    all-joined (proposition_below count) (raw_postfix left) (raw_postfix right) And refl
    ∙ (ap (λ b. b && list_all (proposition_below count) (raw_postfix right)) (propositions-postfix count left)
    ∙ (ap (λ b. list_all (λ number. nat_lt number count) (raw_propositions left) && b) (propositions-postfix count right)
    ∙ sym (list_all-append (λ number. nat_lt number count) (raw_propositions left) (raw_propositions right))))
propositions-postfix count (disjunction left right) =
    all-joined (proposition_below count) (raw_postfix left) (raw_postfix right) Or refl
    ∙ (ap (λ b. b && list_all (proposition_below count) (raw_postfix right)) (propositions-postfix count left)
    ∙ (ap (λ b. list_all (λ number. nat_lt number count) (raw_propositions left) && b) (propositions-postfix count right)
    ∙ sym (list_all-append (λ number. nat_lt number count) (raw_propositions left) (raw_propositions right))))
