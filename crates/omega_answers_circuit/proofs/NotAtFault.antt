-- No refusal of the judge is about the text of a circuit that is written, or about what it was written for.
use Rattle.std.proofs.Common.{◌≡◌, ◌⊎◌, ◌∙◌, inl, inr, ℕ, List, Contains, Option, Some, None, refl, sym, ap, subst}
use Rattle.omega_aiger.specs.Laws.{CircuitsAreNotRefused, CircuitsOfTextsAreOne}
use Rattle.omega_aiger.specs.Text.{IsCircuitTextRefusal}
use Rattle.omega_answers_circuit.specs.FormulaVerify.{IsFormulaCircuitPairRefusal, RefusesNamedCircuit, not_satisfied, unsided}
use Rattle.omega_answers_circuit.specs.Sides.{IsSided, IsUnsided, large, misnamed, not_sided}
use Rattle.omega_answers_circuit.specs.WritingLaws.{IsNoFault, WrittenFormulaCircuitsAreNotAtFault}
use Rattle.omega_answers_formula.specs.Formula.{IsFormulaOfText}
use Rattle.omega_answers_synth.specs.Outputs.{AreParted, ArePartedBy, NameLists, lists_refused, names_without, no_memory, outputs_by, outputs_in, outputs_refused}
use Rattle.omega_circuit.specs.Circuit.{CircuitValue}
use Rattle.omega_circuit_automaton.specs.Names.{AreFit, IsNameRefusal, proposition_names}
use Rattle.omega_io.specs.Refused.{IsAbout}
use Rattle.omega_io.specs.declared.refused.Refused.{Refused}
use Rattle.omega_io.specs.declared.refused.Which.{Which}
use Rattle.omega_io.specs.declared.refused.Which.TheVariants.{File, Input}
use Rattle.omega_ltl_formula.specs.Building.{names_of}
use Rattle.omega_ltl_formula.specs.Table.{NumberedFormula, tree_of}
use Rattle.omega_ltl_text.specs.Laws.{FormulasAreNotRefused, FormulasOfTextsAreOne}
use Rattle.omega_ltl_text.specs.Text.{IsFormulaTextRefusal}
use Rattle.omega_text.specs.Cases.{never}
use Rattle.omega_text.specs.declared.refusal.Refusal.{Refusal}
use Rattle.omega_text.specs.declared.refusal.Refusal.TheVariants.{Automaton, Circuit, Game, Io, Memory, Task, Text}
use Rattle.omega_text.specs.declared.refusal.task.TaskFault.TheVariants.{TooLarge}

-- ---- sides

-- names that are fit are not refused
fit_named : (names : List (List ℕ)) → AreFit names → (refusal : Refusal) → IsNameRefusal names never refusal → ⊥
fit_named names fit (Text fault) is = is
fit_named names fit (Game fault) is = is
fit_named names fit (Automaton fault) is = is.1 fit.apart
fit_named names fit (Circuit fault) is = is.2 fit.quotable
fit_named names fit (Task fault) is = is
fit_named names fit Memory is = is
fit_named names fit Io is = is

-- a circuit on the sides of some names is refused only if it is too large
pub sided_large : (names system : List (List ℕ)) (c : CircuitValue) → IsSided names system c → (refusal : Refusal) → IsUnsided names system c refusal → refusal ≡ Task TooLarge
sided_large names system c sided refusal (misnamed is) = absurd (fit_named (proposition_names c) sided.fit refusal is)
sided_large names system c sided refusal (not_sided fit not is) = absurd (not sided.sided)
sided_large names system c sided refusal (large also is) = is

-- ---- lists

-- formulas with the same names are parted alike
parted_same : (one other : NumberedFormula) → one.table.names ≡ other.table.names → (outs ins : Option (List (List ℕ))) → ArePartedBy one outs ins → ArePartedBy other outs ins
parted_same one other same None None is = is
parted_same one other same (Some outs) None is = λ name has. subst (λ (names : List (List ℕ)). Contains names name) same (is name has)
parted_same one other same None (Some ins) is = λ name has. subst (λ (names : List (List ℕ)). Contains names name) same (is name has)
parted_same one other same (Some outs) (Some ins) is = (
  λ name has. subst (λ (names : List (List ℕ)). Contains names name) same (is.0 name has),
  λ name has. subst (λ (names : List (List ℕ)). Contains names name) same (is.1 name has),
  λ name has. is.2 name (subst (λ (names : List (List ℕ)). Contains names name) (sym same) has),
)

outputs_same : (one other : NumberedFormula) → one.table.names ≡ other.table.names → (outs ins : Option (List (List ℕ))) → outputs_by one outs ins ≡ outputs_by other outs ins
outputs_same one other same (Some outs) ins = refl
outputs_same one other same None (Some ins) = ap (names_without ins) same
outputs_same one other same None None = refl

-- ---- formulas

module _ (formula : NumberedFormula) (lists : NameLists) (c : CircuitValue) (parted : AreParted formula lists) (sided : IsSided formula.table.names (outputs_in formula lists) c) where
  pair_no_fault : (text : Option Which) (refusal : Refusal) → IsFormulaCircuitPairRefusal formula (outputs_in formula lists) c text refusal → (text ≡ None) ⊎ (refusal ≡ Task TooLarge)
  pair_no_fault text refusal (unsided other is) = inr (sided_large formula.table.names (outputs_in formula lists) c sided other is)
  pair_no_fault text refusal (not_satisfied a other also of is) = inl refl

  named_no_fault : (refused : Refused) → RefusesNamedCircuit formula lists c refused → IsNoFault refused
  named_no_fault refused (no_memory is) = inl (ap (λ (r : Refused). r.text) is)
  named_no_fault refused (lists_refused not is) = absurd (not parted)
  named_no_fault refused (outputs_refused also (inl memory)) = inl (ap (λ (r : Refused). r.text) memory)
  named_no_fault refused (outputs_refused also (inr pair)) = pair_no_fault refused.text refused.refusal pair

-- neither text is refused
unread_formula : (text : List ℕ) (output : List ℕ) → ((refusal : Refusal) → IsFormulaTextRefusal text refusal → ⊥) → ((refusal : Refusal) → IsCircuitTextRefusal output refusal → ⊥)
    → (about : Option Which) (refusal : Refusal)
    → IsAbout (λ other. other ≡ Memory) (IsFormulaTextRefusal text) (λ other. (formula : NumberedFormula) × IsFormulaOfText text formula × IsCircuitTextRefusal output other) about refusal
    → about ≡ None
unread_formula text output formulas circuits None refusal is = refl
unread_formula text output formulas circuits (Some File) refusal is = absurd (formulas refusal is)
unread_formula text output formulas circuits (Some Input) refusal is = absurd (circuits refusal is.2)

pub formula_circuits_not_at_fault : FormulasOfTextsAreOne → FormulasAreNotRefused → CircuitsOfTextsAreOne → CircuitsAreNotRefused → WrittenFormulaCircuitsAreNotAtFault
formula_circuits_not_at_fault formulas unrefused circuits clean form text lists output refused written (inl unread) =
    inl (unread_formula text output (λ refusal is. unrefused text (tree_of written.judged.file) refusal written.judged.file_read.read is)
    (λ refusal is. clean output written.judged.input refusal written.judged.input_read is) refused.text refused.refusal unread)
formula_circuits_not_at_fault formulas unrefused circuits clean form text lists output refused written (inr pair) =
    let one : NumberedFormula = written.judged.file in
    let other : NumberedFormula = pair.file in
    let tree : tree_of one ≡ tree_of other = formulas text (tree_of one) (tree_of other) written.judged.file_read.read.says pair.file_read.read.says in
    let names : one.table.names ≡ other.table.names = written.judged.file_read.names ∙ (ap names_of tree ∙ sym pair.file_read.names) in
    let outs : outputs_in one lists ≡ outputs_in other lists = outputs_same one other names lists.outs lists.ins in
    let also : written.judged.input ≡ pair.input = circuits output written.judged.input pair.input written.judged.input_read pair.input_read in
    let sided : IsSided other.table.names (outputs_in other lists) pair.input =
    subst (λ (ns : List (List ℕ)). IsSided ns (outputs_in other lists) pair.input) names
    (subst (λ (os : List (List ℕ)). IsSided one.table.names os pair.input) outs
    (subst (IsSided one.table.names (outputs_in one lists)) also written.judged.holds.holds.judged.sided)) in
    named_no_fault other lists pair.input (parted_same one other names lists.outs lists.ins written.judged.holds.parted) sided refused pair.holds
