-- Acceptance formulas with parentheses gone: no deeper than they are written, and with the same sets.
use Rattle.std.proofs.Common.{◌≡◌, ℕ, ◌≤◌, Bool, true, false, cond, nat_lt, List, ◌++◌, Option, Some, None, IfSome, option_and_then, refl, ap, sym, ◌∙◌, arith}
use Rattle.std.specs.List.{filter_map, slice_get}
use Rattle.std.specs.Str.{bytes_eq}
use Rattle.std.specs.Prelude.{codes}
use Rattle.std.proofs.lemmas.Bool.{ltb-false, not-false}
use Rattle.omega_hoa_acceptance.specs.Meaning.{acc_meant, acc_sets, both_meant}
use Rattle.omega_hoa_acceptance.specs.Acceptance.{AccTree, acc_depth}
use Rattle.omega_hoa_acceptance.specs.Acceptance as acc
use Rattle.omega_hoa_expression.specs.Limits.{most_depth}
use Rattle.omega_hoa_acceptance.specs.Raw.{RawAccTree, atom, conjunction, constant, disjunction, group, raw_acc_depth}
use Rattle.omega_hoa_syntax.specs.declared.raw_automaton.RawAutomaton.{RawAutomaton}
use Rattle.omega_hoa_automaton.specs.Automaton.{AreBelow, sets_of}
use Rattle.omega_hoa_automaton.specs.Faults.{has_deep_expression, has_set_beyond, has_set_out_of_range, set_count}
use Rattle.omega_hoa_automaton.specs.Items.{Accepted, acceptance_in}
use Rattle.omega_hoa_automaton.proofs.validity.Labels.{are_below, below_by_test}
use Rattle.omega_hoa_automaton.proofs.validity.Tests.{first_of, neither, said_all}

-- what a formula as it is written means: no deeper, and with the same sets
abbrev IsPlain : RawAccTree → Option AccTree → Type 0
IsPlain raw meant = IfSome meant (λ tree. (acc_depth tree ≤ raw_acc_depth raw) × (sets_of tree ≡ acc_sets raw))

-- an atom
atom_plain : (name : List ℕ) (negated : Bool) (set : ℕ) (first second : Bool)
    → IsPlain (atom name negated set) (cond first (Some (acc.inf negated set)) (cond second (Some (acc.fin negated set)) None))
atom_plain name negated set true second = (omega arith, refl)
atom_plain name negated set false true = (omega arith, refl)
atom_plain name negated set false false = tt

-- two parts and `&`
conjunction_plain : (left right : RawAccTree) (one other : Option AccTree) → IsPlain left one → IsPlain right other
    → IsPlain (conjunction left right) (both_meant acc.conjunction one other)
conjunction_plain left right None other is_left is_right = tt
conjunction_plain left right (Some one) None is_left is_right = tt
conjunction_plain left right (Some one) (Some other) is_left is_right =
    (omega arith, ap (λ sets. sets ++ sets_of other) is_left.1 ∙ ap (λ sets. acc_sets left ++ sets) is_right.1)

-- two parts and `|`
disjunction_plain : (left right : RawAccTree) (one other : Option AccTree) → IsPlain left one → IsPlain right other
    → IsPlain (disjunction left right) (both_meant acc.disjunction one other)
disjunction_plain left right None other is_left is_right = tt
disjunction_plain left right (Some one) None is_left is_right = tt
disjunction_plain left right (Some one) (Some other) is_left is_right =
    (omega arith, ap (λ sets. sets ++ sets_of other) is_left.1 ∙ ap (λ sets. acc_sets left ++ sets) is_right.1)

-- parentheses
group_plain : (part : RawAccTree) (meant : Option AccTree) → IsPlain part meant → IsPlain (group part) meant
group_plain part None is = tt
group_plain part (Some tree) is = (omega arith, is.1)

-- each formula
plain : (raw : RawAccTree) → IsPlain raw (acc_meant raw)
plain (constant value) = (omega arith, refl)
plain (atom name negated set) = atom_plain name negated set (bytes_eq name (codes "Inf")) (bytes_eq name (codes "Fin"))
plain (conjunction left right) = conjunction_plain left right (acc_meant left) (acc_meant right) (plain left) (plain right)
plain (disjunction left right) = disjunction_plain left right (acc_meant left) (acc_meant right) (plain left) (plain right)
plain (group part) = group_plain part (acc_meant part) (plain part)

-- an acceptance formula of an automaton with this count of sets
pub record IsAcceptance (count : ℕ) (tree : AccTree) : Type 0 where
  pub sets : AreBelow count (sets_of tree)
  pub shallow : acc_depth tree ≤ most_depth

-- what a formula means whose sets are below a count and that is not too deep
means_acceptance : (count : ℕ) (raw : RawAccTree) (meant : Option AccTree) (tree : AccTree) → IsPlain raw meant → are_below count (acc_sets raw) ≡ true
    → nat_lt most_depth (raw_acc_depth raw) ≡ false → meant ≡ Some tree → IsAcceptance count tree
means_acceptance count raw None tree is below shallow means = absurd (let no : ⊥ = cc in no)
means_acceptance count raw (Some other) tree is below shallow means =
    let same : other ≡ tree = cc in
    let depths : acc_depth other ≡ acc_depth tree = ap acc_depth same in
    let limit : raw_acc_depth raw ≤ most_depth = ltb-false most_depth (raw_acc_depth raw) shallow in
    record {
      sets = below_by_test count (sets_of tree) (ap (are_below count) (ap sets_of (sym same) ∙ is.1) ∙ below);
      shallow = omega arith;
    }

-- what an acceptance that is there means
there_means : (count : ℕ) (accepted : Option Accepted) (tree : AccTree) → IfSome accepted (λ accepted. has_set_beyond count accepted ≡ false)
    → IfSome accepted (λ accepted. nat_lt most_depth (raw_acc_depth accepted.formula) ≡ false)
    → option_and_then (λ accepted. acc_meant accepted.formula) accepted ≡ Some tree → IsAcceptance count tree
there_means count None tree below shallow means = absurd (let no : ⊥ = cc in no)
there_means count (Some accepted) tree below shallow means =
    means_acceptance count accepted.formula (acc_meant accepted.formula) tree (plain accepted.formula)
    (not-false (are_below count (acc_sets accepted.formula)) below) shallow means

-- 25: no set of an acceptance is beyond the count
sets_below : (raw : RawAutomaton) → has_set_out_of_range raw ≡ false
    → IfSome (slice_get (filter_map acceptance_in raw.items) 0) (λ accepted. has_set_beyond (set_count raw) accepted ≡ false)
unfolding has_set_out_of_range
sets_below raw h =
    first_of (λ accepted. has_set_beyond (set_count raw) accepted ≡ false) (filter_map acceptance_in raw.items)
    (said_all acceptance_in (has_set_beyond (set_count raw)) (λ accepted. has_set_beyond (set_count raw) accepted ≡ false) (λ accepted fails. fails) raw.items (neither _ _ h).0)

-- 32: no acceptance is too deep
formulas_shallow : (raw : RawAutomaton) → has_deep_expression raw ≡ false
    → IfSome (slice_get (filter_map acceptance_in raw.items) 0) (λ accepted. nat_lt most_depth (raw_acc_depth accepted.formula) ≡ false)
unfolding has_deep_expression
formulas_shallow raw h =
    first_of (λ accepted. nat_lt most_depth (raw_acc_depth accepted.formula) ≡ false) (filter_map acceptance_in raw.items)
    (said_all acceptance_in (λ accepted. nat_lt most_depth (raw_acc_depth accepted.formula)) (λ accepted. nat_lt most_depth (raw_acc_depth accepted.formula) ≡ false) (λ accepted fails. fails) raw.items (neither _ _ h).0)

-- the acceptance formula of an automaton that is written without these faults
pub acceptance_well : (raw : RawAutomaton) (tree : AccTree) → has_set_out_of_range raw ≡ false → has_deep_expression raw ≡ false
    → option_and_then (λ accepted. acc_meant accepted.formula) (slice_get (filter_map acceptance_in raw.items) 0) ≡ Some tree
    → IsAcceptance (set_count raw) tree
acceptance_well raw tree sets deep means =
    there_means (set_count raw) (slice_get (filter_map acceptance_in raw.items) 0) tree (sets_below raw sets) (formulas_shallow raw deep) means
