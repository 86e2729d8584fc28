-- A label without aliases means itself without its parentheses, whatever the definitions are.
use Rattle.std.proofs.Common.{◌≡◌, ℕ, ◌≤◌, Bool, false, cond, length, ltb, List, [], ◌∷◌, ◌++◌, Some, None, option_map, min, ap, refl, sym, ◌∙◌, arith, count_by}
use Rattle.std.specs.List.{list_any}
use Rattle.std.proofs.lemmas.Bool.{false≢true, le-ltb, ltb-false}
use Rattle.std.proofs.lemmas.List.Sums.{count_by-le-length}
use Rattle.omega_hoa_expression.specs.Depth.{counted}
use Rattle.omega_hoa_expression.specs.Limits.{most_depth, most_size, past_size}
use Rattle.omega_hoa_label.specs.Bare.{bare, is_alias, is_bare}
use Rattle.omega_hoa_label.specs.Label.{LabelTree, label_size}
use Rattle.omega_hoa_label.specs.Label as label
use Rattle.omega_hoa_label.specs.Postfix.{raw_postfix}
use Rattle.omega_hoa_label.specs.Raw.{RawLabelTree, alias, conjunction, constant, disjunction, group, negation, proposition, raw_depth}
use Rattle.omega_hoa_label.specs.declared.label.LabelNode.TheVariants.{And, Group, Not, Or}
use Rattle.omega_hoa_label.proofs.BareLemmas.{none-before, none-following, size-bare}
use Rattle.omega_hoa_label_text.specs.Expanding.{Defined, Entry, IsExpansion, Meaning, both, entries_of, expansion, extent_of, fault_of_meaning, in_parentheses, negated, replaced}
use Rattle.omega_hoa_label_text.specs.declared.extents.Extent.{Extent}
use Rattle.omega_hoa_label_text.proofs.ExpansionLemmas.{deep-none}
use Rattle.omega_text.specs.declared.refusal.automaton.AutomatonFault.TheVariants.{Expansion, TooDeep}

-- it means itself without parentheses, as deep as it is
replaced-bare : (entries : List Entry) (tree : RawLabelTree) → list_any is_alias (raw_postfix tree) ≡ false
    → replaced entries tree ≡ Some (record { tree = bare tree; depth = raw_depth tree })
replaced-bare entries (constant value) none = refl
replaced-bare entries (proposition number) none = refl
replaced-bare entries (alias name) none = absurd (false≢true (sym none))
replaced-bare entries (negation part) none =
    ap (option_map negated) (replaced-bare entries part (none-before (raw_postfix part) (Not ∷ []) none))
replaced-bare entries (group part) none =
    ap (option_map in_parentheses) (replaced-bare entries part (none-before (raw_postfix part) (Group ∷ []) none))
replaced-bare entries (conjunction left right) none =
    ap (λ part. both label.conjunction part (replaced entries right)) (replaced-bare entries left (none-before (raw_postfix left) (raw_postfix right ++ And ∷ []) none))
    ∙ ap (both label.conjunction (Some (record { tree = bare left; depth = raw_depth left })))
    (replaced-bare entries right (none-before (raw_postfix right) (And ∷ []) (none-following (raw_postfix left) (raw_postfix right ++ And ∷ []) none)))
replaced-bare entries (disjunction left right) none =
    ap (λ part. both label.disjunction part (replaced entries right)) (replaced-bare entries left (none-before (raw_postfix left) (raw_postfix right ++ Or ∷ []) none))
    ∙ ap (both label.disjunction (Some (record { tree = bare left; depth = raw_depth left })))
    (replaced-bare entries right (none-before (raw_postfix right) (Or ∷ []) (none-following (raw_postfix left) (raw_postfix right ++ Or ∷ []) none)))

-- so its extent is known without them
pub extent-bare : (entries : List Entry) (tree : RawLabelTree) (extent : Extent) → list_any is_alias (raw_postfix tree) ≡ false
    → extent.depth ≡ counted (raw_depth tree) → extent.size ≡ min (count_by is_bare (raw_postfix tree)) past_size
    → Some extent ≡ option_map extent_of (replaced entries tree)
extent-bare entries tree extent none deep large =
    ap Some (ap (λ (n : ℕ). record { depth = n; size = extent.size }) deep
    ∙ ap (λ (n : ℕ). record { depth = counted (raw_depth tree); size = n }) (large ∙ ap (λ n. min n past_size) (sym (size-bare tree))))
    ∙ sym (ap (option_map extent_of) (replaced-bare entries tree none))

-- a label without aliases and without a fault is not too deep
pub shallow-bare : (entries : List Entry) (tree : RawLabelTree) → list_any is_alias (raw_postfix tree) ≡ false
    → fault_of_meaning (replaced entries tree) ≡ None → raw_depth tree ≤ most_depth
shallow-bare entries tree none sound =
    ltb-false most_depth (raw_depth tree) (deep-none _ _ (sym (ap fault_of_meaning (replaced-bare entries tree none)) ∙ sound))

-- one that is neither too deep nor of too many nodes has no fault
pub sound-bare : (entries : List Entry) (tree : RawLabelTree) → list_any is_alias (raw_postfix tree) ≡ false
    → raw_depth tree ≤ most_depth → length (raw_postfix tree) ≤ most_size → fault_of_meaning (replaced entries tree) ≡ None
sound-bare entries tree none shallow small =
    let few = count_by-le-length is_bare (raw_postfix tree) in
    ap fault_of_meaning (replaced-bare entries tree none)
    ∙ (ap (λ (b : Bool). cond b (Some TooDeep) (cond (ltb most_size (label_size (bare tree))) (Some Expansion) None)) (le-ltb most_depth (raw_depth tree) shallow)
    ∙ ap (λ (b : Bool). cond b (Some Expansion) None) (le-ltb most_size (label_size (bare tree)) (omega (arith, size-bare tree, few, small))))

-- and is expanded to itself without parentheses
pub expansion-bare : (definitions : List Defined) (tree : RawLabelTree) (label : LabelTree) → list_any is_alias (raw_postfix tree) ≡ false
    → fault_of_meaning (expansion definitions tree) ≡ None → label ≡ bare tree → IsExpansion definitions tree label
expansion-bare definitions tree label none sound is = record {
  sound = sound;
  tree_is = ap (option_map (λ (m : Meaning). m.tree)) (replaced-bare (entries_of [] definitions) tree none) ∙ ap Some (sym is);
}
