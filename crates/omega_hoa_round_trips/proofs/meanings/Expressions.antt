-- Labels and formulas as they are written: their numbers are those of the trees,
-- and they are no deeper than what was read.
use Rattle.std.proofs.Common.{◌≡◌, ℕ, ◌≤◌, Bool, true, false, cond, nat_le, nat_lt, Option, Some, None, option_map, List, [], ◌∷◌, ◌++◌, ap, refl, ◌∙◌, subst, arith}
use Rattle.std.specs.Prelude.{slice_get, option_and_then}
use Rattle.std.specs.List.{AllByRecursion, list_any}
use Rattle.std.proofs.lemmas.Bool.{ltb-false}
use Rattle.omega_text.specs.declared.refusal.automaton.AutomatonFault.{AutomatonFault}
use Rattle.omega_text.specs.declared.refusal.automaton.AutomatonFault.TheVariants.{Alias, TooDeep}
use Rattle.omega_hoa_acceptance.specs.Meaning.{acc_meant, acc_sets}
use Rattle.omega_hoa_acceptance.specs.Reading.{IsAccOf}
use Rattle.omega_hoa_acceptance.specs.Acceptance.{AccTree}
use Rattle.omega_hoa_acceptance.specs.Acceptance as acc
use Rattle.omega_hoa_label_text.specs.Expanding.{Defined, IsExpansion, Meaning, expansion, fault_of_meaning}
use Rattle.omega_hoa_label.specs.Label.{LabelTree, conjunction, constant, disjunction, negation, proposition, propositions}
use Rattle.omega_hoa_expression.specs.Limits.{most_depth}
use Rattle.omega_hoa_acceptance.specs.Raw.{RawAccTree, raw_acc_depth}
use Rattle.omega_hoa_label.specs.Raw.{RawLabelTree, raw_depth, raw_propositions}
use Rattle.omega_hoa_label_text.specs.Reading.{IsOf}
use Rattle.omega_hoa_expression.specs.Symbols.{disjunctive}
use Rattle.omega_hoa_label.specs.Writing.{label_text}
use Rattle.omega_hoa_acceptance.specs.Writing.{acc_text}
use Rattle.omega_hoa_label.specs.Writing.{grouped, label_written}
use Rattle.omega_hoa_acceptance.specs.Writing.{acc_grouped, acc_written}
use Rattle.omega_acc.specs.WritingLaws.{AreExpressions, WrittenFormulasAreShallowest, WrittenLabelsAreShallowest}
use Rattle.omega_hoa_automaton.specs.Automaton.{sets_of}
use Rattle.omega_hoa_automaton.specs.Items.{Accepted}
use Rattle.omega_hoa_round_trips.proofs.texts.Spelled.{or-left}

-- ---- numbers

same-grouped : (within : Bool) (part : RawLabelTree) → raw_propositions (grouped within part) ≡ raw_propositions part
same-grouped true part = refl
same-grouped false part = refl

joined : (one other first second : List ℕ) → one ≡ first → other ≡ second → one ++ other ≡ first ++ second
joined one other first second is are = ap (λ front. front ++ other) is ∙ ap (λ back. first ++ back) are

-- the propositions of a label as it is written
pub propositions-written : (tree : LabelTree) → raw_propositions (label_written tree) ≡ propositions tree
propositions-written (constant value) = refl
propositions-written (proposition number) = refl
propositions-written (negation part) = same-grouped (nat_lt (label_text part).rank 3) (label_written part) ∙ propositions-written part
propositions-written (conjunction left right) =
    joined _ _ _ _ (same-grouped (nat_lt (label_text left).rank 2) (label_written left) ∙ propositions-written left)
    (same-grouped (nat_le (label_text right).rank 2) (label_written right) ∙ propositions-written right)
propositions-written (disjunction left right) =
    joined _ _ _ _ (same-grouped (nat_lt (label_text left).rank 1) (label_written left) ∙ propositions-written left)
    (same-grouped (nat_le (label_text right).rank 1) (label_written right) ∙ propositions-written right)

same-sets : (within : Bool) (part : RawAccTree) → acc_sets (acc_grouped within part) ≡ acc_sets part
same-sets true part = refl
same-sets false part = refl

-- the sets of a formula as it is written
pub sets-written : (tree : AccTree) → acc_sets (acc_written tree) ≡ sets_of tree
sets-written (acc.constant value) = refl
sets-written (acc.inf negated set) = refl
sets-written (acc.fin negated set) = refl
sets-written (acc.conjunction left right) =
    joined _ _ _ _ (same-sets (nat_lt (acc_text left).rank 2) (acc_written left) ∙ sets-written left)
    (same-sets (nat_le (acc_text right).rank 2) (acc_written right) ∙ sets-written right)
sets-written (acc.disjunction left right) =
    joined _ _ _ _ (same-sets (nat_lt (acc_text left).rank 1) (acc_written left) ∙ sets-written left)
    (same-sets (nat_le (acc_text right).rank 1) (acc_written right) ∙ sets-written right)

-- ---- depths

-- if no fault is answered the first test fails
not-deep : (deep : Bool) (others : Option AutomatonFault) → cond deep (Some TooDeep) others ≡ None → deep ≡ false
not-deep false others sound = refl
not-deep true others sound = cc

shallow-meant : WrittenLabelsAreShallowest → (definitions : List Defined) (raw : RawLabelTree) (tree : LabelTree) → AreExpressions definitions → IsOf disjunctive raw
    → (meaning : Option Meaning) → expansion definitions raw ≡ meaning → fault_of_meaning meaning ≡ None → option_map (λ (known : Meaning). known.tree) meaning ≡ Some tree
    → raw_depth (label_written tree) ≤ most_depth
shallow-meant shallowest definitions raw tree are is None e sound has = absurd (let clash : ◌≡◌ {A = Option AutomatonFault} (Some Alias) None = sound in cc)
shallow-meant shallowest definitions raw tree are is (Some meaning) e sound has =
    let same : meaning.tree ≡ tree = cc in
    let limit : meaning.depth ≤ most_depth = ltb-false most_depth meaning.depth (not-deep (nat_lt most_depth meaning.depth) _ sound) in
    let least : raw_depth (label_written meaning.tree) ≤ meaning.depth = shallowest definitions raw meaning are is e in
    let shallow : raw_depth (label_written meaning.tree) ≤ most_depth = omega arith in
    subst (λ label. raw_depth (label_written label) ≤ most_depth) same shallow

-- a label without a fault is not too deep as it is written
pub label-shallow : WrittenLabelsAreShallowest → (definitions : List Defined) (raw : RawLabelTree) (tree : LabelTree) → AreExpressions definitions → IsOf disjunctive raw
    → IsExpansion definitions raw tree → raw_depth (label_written tree) ≤ most_depth
label-shallow shallowest definitions raw tree are is expands =
    shallow-meant shallowest definitions raw tree are is (expansion definitions raw) refl expands.sound expands.tree_is

-- a formula without a fault is not too deep as it is written
pub formula-shallow : WrittenFormulasAreShallowest → (said : List Accepted) (tree : AccTree) → AllByRecursion (λ accepted. IsAccOf disjunctive accepted.formula) said
    → option_and_then (λ accepted. acc_meant accepted.formula) (slice_get said 0) ≡ Some tree
    → list_any (λ accepted. nat_lt most_depth (raw_acc_depth accepted.formula)) said ≡ false → raw_acc_depth (acc_written tree) ≤ most_depth
formula-shallow shallowest [] tree all meant fails = absurd (let clash : ◌≡◌ {A = Option AccTree} None (Some tree) = meant in cc)
formula-shallow shallowest (accepted ∷ others) tree all meant fails =
    let limit : raw_acc_depth accepted.formula ≤ most_depth = ltb-false most_depth (raw_acc_depth accepted.formula) (or-left _ _ fails) in
    let least : raw_acc_depth (acc_written tree) ≤ raw_acc_depth accepted.formula = shallowest accepted.formula tree all.0 meant in
    omega arith
