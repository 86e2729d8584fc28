-- `yes` is written exactly if each word of the circuit is wanted.
use Rattle.std.proofs.Common.{◌≡◌, ◌↔◌, Bool, List, ℕ, sym, subst, ◌∙◌}
use Rattle.omega_aiger.specs.Laws.{CircuitsOfTextsAreOne}
use Rattle.omega_answers_formula.specs.Formula.{IsFormulaOfText}
use Rattle.omega_circuit.specs.Circuit.{CircuitValue}
use Rattle.omega_hoa.specs.Laws.{AutomataAreOne}
use Rattle.omega_hoa_automaton.specs.Automaton.{Description}
use Rattle.omega_io.specs.Answer.{IsReply, IsYes}
use Rattle.omega_io.specs.declared.exit.Exit.{Exit}
use Rattle.omega_io.specs.declared.exit.Exit.TheVariants.{Done, No}
use Rattle.omega_lang_word_laws.specs.NamedWords.{AcceptsNamed}
use Rattle.omega_ltl_formula.specs.Formula.{FormulaTree}
use Rattle.omega_ltl_formula.specs.Meaning.{Satisfies}
use Rattle.omega_ltl_formula.specs.Table.{NumberedFormula, tree_of}
use Rattle.omega_ltl_text.specs.Laws.{FormulasOfTextsAreOne}
use Rattle.omega_text.specs.NamedWords.{NamedWord}
use Rattle.omega_text.specs.Omniscience.{LimitedPrincipleOfOmniscience}
use Rattle.omega_answers_circuit.specs.JudgementAnswer.{judgement_answer}
use Rattle.omega_answers_circuit.specs.Judging.{AllAreWanted, IsCircuitJudgement}
use Rattle.omega_answers_circuit.specs.JudgingLaws.{CircuitVerdictsAreExact, CircuitYesExcludesNo, FormulaCircuitVerdictsAreExact, FormulaCircuitYesExcludesNo}
use Rattle.omega_answers_circuit.specs.declared.judgement.CircuitJudgement.{CircuitJudgement}
use Rattle.omega_answers_circuit.specs.declared.judgement.CircuitJudgement.TheVariants.{Realizes, Violates}

done_no : Done ≡ No → ⊥
done_no e = cc

module _ (omniscient : LimitedPrincipleOfOmniscience) (IsWanted : NamedWord → Type 0) (AreStrings : Type 0) (c : CircuitValue) where
  module _ (judgement : CircuitJudgement) (right : IsCircuitJudgement IsWanted AreStrings c judgement) where
    -- by a judgement that is right
    pub judged : (explain : Bool) (exit : Exit) (output : List ℕ) → IsReply (judgement_answer explain judgement) exit output → IsYes exit output ↔ AllAreWanted IsWanted c
    judged explain exit output reply = go judgement right reply
      where
        go : (judgement : CircuitJudgement) → IsCircuitJudgement IsWanted AreStrings c judgement → IsReply (judgement_answer explain judgement) exit output
            → IsYes exit output ↔ AllAreWanted IsWanted c
        go Realizes all reply = (λ yes. all omniscient, λ wanted. reply)
        go (Violates example) found reply = (
          λ yes. absurd (done_no (sym yes.0 ∙ reply.0)),
          λ wanted. absurd (found.shown.wanted.unwanted (wanted found.shown.word found.shown.wanted.of_circuit)),
        )

    -- which is not `no` then
    pub done : (explain : Bool) (output : List ℕ) → IsReply (judgement_answer explain judgement) Done output → AllAreWanted IsWanted c
    done explain output reply = go judgement right reply
      where
        go : (judgement : CircuitJudgement) → IsCircuitJudgement IsWanted AreStrings c judgement → IsReply (judgement_answer explain judgement) Done output
            → AllAreWanted IsWanted c
        go Realizes all reply = all omniscient
        go (Violates example) found reply = absurd (done_no reply.0)

    pub undone : (explain : Bool) (output : List ℕ) → IsReply (judgement_answer explain judgement) No output → ¬ AllAreWanted IsWanted c
    undone explain output reply = go judgement right reply
      where
        go : (judgement : CircuitJudgement) → IsCircuitJudgement IsWanted AreStrings c judgement → IsReply (judgement_answer explain judgement) No output
            → ¬ AllAreWanted IsWanted c
        go Realizes all reply wanted = done_no (sym reply.0)
        go (Violates example) found reply wanted = found.shown.wanted.unwanted (wanted found.shown.word found.shown.wanted.of_circuit)

module _ (automata : AutomataAreOne) (circuits : CircuitsOfTextsAreOne) where
  -- the specification and the circuit are those of the texts
  same_wanted : (file input : List ℕ) (s t : Description) (b c : CircuitValue) → s ≡ t → b ≡ c → AllAreWanted (AcceptsNamed s) b → AllAreWanted (AcceptsNamed t) c
  same_wanted file input s t b c same also all =
      subst (λ (d : CircuitValue). AllAreWanted (AcceptsNamed t) d) also (subst (λ (a : Description). AllAreWanted (AcceptsNamed a) b) same all)

  pub verdicts_are_exact : CircuitVerdictsAreExact
  verdicts_are_exact omniscient file input output explain exit specification c of_file of_input answer =
      let same : answer.file ≡ specification = automata file answer.file specification answer.file_read of_file in
      let also : answer.input ≡ c = circuits input answer.input c answer.input_read of_input in
      let verdict = answer.holds in
      subst (λ (d : CircuitValue). IsYes exit output ↔ AllAreWanted (AcceptsNamed specification) d) also
      (subst (λ (a : Description). IsYes exit output ↔ AllAreWanted (AcceptsNamed a) answer.input) same
      (judged omniscient (AcceptsNamed answer.file) _ answer.input verdict.judgement verdict.judged.right explain exit output verdict.reply))

  pub yes_excludes_no : CircuitYesExcludesNo
  yes_excludes_no omniscient file input output other explain also_explain one two =
      let same : one.file ≡ two.file = automata file one.file two.file one.file_read two.file_read in
      let also : one.input ≡ two.input = circuits input one.input two.input one.input_read two.input_read in
      undone omniscient (AcceptsNamed two.file) _ two.input two.holds.judgement two.holds.judged.right also_explain other two.holds.reply
      (same_wanted file input one.file two.file one.input two.input same also
      (done omniscient (AcceptsNamed one.file) _ one.input one.holds.judgement one.holds.judged.right explain output one.holds.reply))

module _ (trees : FormulasOfTextsAreOne) (circuits : CircuitsOfTextsAreOne) where
  same_tree : (text : List ℕ) (one other : NumberedFormula) → IsFormulaOfText text one → IsFormulaOfText text other → tree_of one ≡ tree_of other
  same_tree text one other read also = trees text (tree_of one) (tree_of other) read.read.says also.read.says

  pub formula_verdicts_are_exact : FormulaCircuitVerdictsAreExact
  formula_verdicts_are_exact omniscient file input output lists explain exit formula c of_file of_input answer =
      let same : tree_of answer.file ≡ tree_of formula = same_tree file answer.file formula answer.file_read of_file in
      let also : answer.input ≡ c = circuits input answer.input c answer.input_read of_input in
      let verdict = answer.holds.holds in
      subst (λ (d : CircuitValue). IsYes exit output ↔ AllAreWanted (Satisfies (tree_of formula)) d) also
      (subst (λ (tree : FormulaTree). IsYes exit output ↔ AllAreWanted (Satisfies tree) answer.input) same
      (judged omniscient (Satisfies (tree_of answer.file)) _ answer.input verdict.judgement verdict.judged.right explain exit output verdict.reply))

  pub formula_yes_excludes_no : FormulaCircuitYesExcludesNo
  formula_yes_excludes_no omniscient file input output other lists other_lists explain also_explain one two =
      let same : tree_of one.file ≡ tree_of two.file = same_tree file one.file two.file one.file_read two.file_read in
      let also : one.input ≡ two.input = circuits input one.input two.input one.input_read two.input_read in
      let yes = one.holds.holds in
      let no = two.holds.holds in
      undone omniscient (Satisfies (tree_of two.file)) _ two.input no.judgement no.judged.right also_explain other no.reply
      (subst (λ (d : CircuitValue). AllAreWanted (Satisfies (tree_of two.file)) d) also
      (subst (λ (tree : FormulaTree). AllAreWanted (Satisfies tree) one.input) same
      (done omniscient (Satisfies (tree_of one.file)) _ one.input yes.judgement yes.judged.right explain output yes.reply)))
