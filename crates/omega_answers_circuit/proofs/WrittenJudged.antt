-- What is written as a circuit realizes its specification, and is judged `yes`.
use Rattle.std.proofs.Common.{◌≡◌, ℕ, Bool, false, List, subst}
use Rattle.omega_aiger.specs.Laws.{CircuitsOfTextsAreOne}
use Rattle.omega_answers_circuit.specs.JudgementAnswer.{judgement_answer}
use Rattle.omega_answers_circuit.specs.Judging.{AllAreWanted, IsCircuitJudgement}
use Rattle.omega_answers_circuit.specs.JudgingLaws.{CircuitVerdictsAreExact, FormulaCircuitVerdictsAreExact}
use Rattle.omega_answers_circuit.specs.WritingLaws.{WrittenCircuitsAreJudged, WrittenCircuitsRealize}
use Rattle.omega_answers_circuit.specs.WritingLaws.{WrittenFormulaCircuitsAreJudged, WrittenFormulaCircuitsSatisfy}
use Rattle.omega_answers_circuit.specs.declared.judgement.CircuitJudgement.{CircuitJudgement}
use Rattle.omega_answers_circuit.specs.declared.judgement.CircuitJudgement.TheVariants.{Realizes, Violates}
use Rattle.omega_answers_circuit.proofs.NamedPositions.{names_sides}
use Rattle.omega_circuit.specs.Circuit.{CircuitValue}
use Rattle.omega_hoa.specs.Laws.{AutomataAreOne}
use Rattle.omega_hoa_automaton.specs.Automaton.{Description}
use Rattle.omega_io.specs.Answer.{IsReply}
use Rattle.omega_io.specs.declared.exit.Exit.TheVariants.{Done, No}
use Rattle.omega_lang_word_laws.specs.NamedWords.{AcceptsNamed}
use Rattle.omega_ltl_formula.specs.Formula.{FormulaTree}
use Rattle.omega_ltl_formula.specs.Meaning.{Satisfies}
use Rattle.omega_ltl_formula.specs.Table.{tree_of}
use Rattle.omega_ltl_text.specs.Laws.{FormulasOfTextsAreOne}
use Rattle.omega_text.specs.NamedWords.{NamedWord}
use Rattle.omega_text.specs.Omniscience.{LimitedPrincipleOfOmniscience}

-- with the exit of `yes` each word of the circuit is wanted
done_wanted : (IsWanted : NamedWord → Type 0) (AreStrings : Type 0) (c : CircuitValue) (judgement : CircuitJudgement) (explain : Bool) (reply : List ℕ)
    → IsCircuitJudgement IsWanted AreStrings c judgement → IsReply (judgement_answer explain judgement) Done reply
    → LimitedPrincipleOfOmniscience → AllAreWanted IsWanted c
done_wanted IsWanted AreStrings c Realizes explain reply right is = right
done_wanted IsWanted AreStrings c (Violates example) explain reply right is = absurd (let no : Done ≡ No = is.0 in cc)

pub circuits_realize : AutomataAreOne → CircuitsOfTextsAreOne → WrittenCircuitsRealize
circuits_realize automata circuits form text output is =
    let made = is.made.circuit in
    let over = made.holds.circuit in
    let verdict = is.judged.holds in
    let a : Description = made.automaton in
    let c : CircuitValue = over.circuit in
    let same : is.judged.file ≡ a = automata text is.judged.file a is.judged.file_read made.read in
    let also : is.judged.input ≡ c = circuits output is.judged.input c is.judged.input_read over.read in
    record {
      automaton = a;
      read = made.read;
      controlled = made.holds.controlled;
      stated = made.holds.stated;
      circuit = c;
      says = over.read;
      named = names_sides a.propositions made.holds.controlled c over.circuit_is.named;
      realizes = λ decided.
          subst (λ (s : Description). AllAreWanted (AcceptsNamed s) c) same
          (subst (AllAreWanted (AcceptsNamed is.judged.file)) also
          (done_wanted (AcceptsNamed is.judged.file) _ is.judged.input verdict.judgement false is.reply verdict.judged.right verdict.reply decided));
    }

pub formula_circuits_satisfy : FormulasOfTextsAreOne → CircuitsOfTextsAreOne → WrittenFormulaCircuitsSatisfy
formula_circuits_satisfy formulas circuits form text lists output is =
    let made = is.made.circuit in
    let over = made.holds.holds in
    let verdict = is.judged.holds.holds in
    let c : CircuitValue = over.circuit in
    let same : tree_of is.judged.file ≡ tree_of made.formula =
    formulas text (tree_of is.judged.file) (tree_of made.formula) is.judged.file_read.read.says made.read.read.says in
    let also : is.judged.input ≡ c = circuits output is.judged.input c is.judged.input_read over.read in
    record {
      formula = made.formula;
      read = made.read;
      parted = made.holds.parted;
      circuit = c;
      says = over.read;
      named = names_sides _ _ c over.circuit_is.named;
      satisfies = λ decided.
          subst (λ (tree : FormulaTree). AllAreWanted (Satisfies tree) c) same
          (subst (AllAreWanted (Satisfies (tree_of is.judged.file))) also
          (done_wanted (Satisfies (tree_of is.judged.file)) _ is.judged.input verdict.judgement false is.reply verdict.judged.right verdict.reply decided));
    }

pub circuits_judged : WrittenCircuitsRealize → CircuitVerdictsAreExact → WrittenCircuitsAreJudged
circuits_judged realize exact decided form text output reply explain exit written answer =
    let is = realize form text output written in
    (exact decided text output reply explain exit is.automaton is.circuit is.read is.says answer).1 (is.realizes decided)

pub formula_circuits_judged : WrittenFormulaCircuitsSatisfy → FormulaCircuitVerdictsAreExact → WrittenFormulaCircuitsAreJudged
formula_circuits_judged satisfy exact decided form text lists output reply explain exit written answer =
    let is = satisfy form text lists output written in
    (exact decided text output reply lists explain exit is.formula is.circuit is.read is.says answer).1 (is.satisfies decided)
