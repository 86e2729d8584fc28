-- What `verify` answers of circuits, and which circuits `realize --aiger` writes.
use Rattle.std.proofs.Common.{◌≡◌, ◌↔◌, ℕ, List, sym, ap, subst, ◌∙◌}
use Rattle.std.specs.List.{list_any}
use Rattle.omega_aiger.specs.Laws.{CircuitsOfTextsAreOne}
use Rattle.omega_circuit.specs.Circuit.{CircuitValue}
use Rattle.omega_hoa_automaton.specs.Automaton.{Description}
use Rattle.omega_io.specs.Answer.{IsYes}
use Rattle.omega_io.specs.declared.exit.Exit.{Exit}
use Rattle.omega_io.specs.declared.exit.Exit.TheVariants.{Done, No}
use Rattle.omega_lang_word_laws.specs.NamedWords.{AcceptsNamed}
use Rattle.omega_ltl_formula.specs.Building.{names_of}
use Rattle.omega_ltl_formula.specs.Formula.{FormulaTree}
use Rattle.omega_ltl_formula.specs.Meaning.{Satisfies}
use Rattle.omega_ltl_formula.specs.Table.{NumberedFormula, tree_of}
use Rattle.omega_ltl_text.specs.Laws.{FormulasOfTextsAreOne}
use Rattle.omega_ltl_text.specs.Text.{SaysFormula}
use Rattle.omega_synth_check.specs.CounterRefusing.{system_numbers}
use Rattle.omega_synth_controllers.specs.Controllable.{is_controllable_item}
use Rattle.omega_answers_circuit.specs.FormulaCircuit.{IsFormulaCircuitWritten}
use Rattle.omega_answers_circuit.specs.Judging.{AllAreWanted}
use Rattle.omega_answers_circuit.specs.JudgingLaws.{CircuitVerdictsAreExact, FormulaCircuitVerdictsAreExact}
use Rattle.omega_answers_circuit.specs.Sides.{AreSided, input_names, output_names}
use Rattle.omega_answers_circuit.specs.Verify.{IsSidedBy}
use Rattle.omega_answers_circuit.specs.WinningCircuit.{IsWinningCircuitAnswer}
use Rattle.omega_answers_circuit.specs.WritingLaws.{IsRealizedBy, IsSatisfiedBy, NamesSides, WrittenCircuitsRealize, WrittenFormulaCircuitsSatisfy}
use Rattle.omega_answers_synth.specs.Outputs.{outputs_in}
use Rattle.omega_laws.specs.Describes.{Describes}
use Rattle.omega_laws.specs.JudgedCircuits.{CircuitsAreJudged, FormulaCircuitsAreExact, FormulaCircuitsAreJudged, HasSidesBy, IsCircuitFor, WinningCircuitsAreExact, WritesCircuit, WritesCircuitOf}
use Rattle.omega_laws.specs.RealizedFormulas.{SaysWhoWins, outputs_of}
use Rattle.omega_laws.specs.SpecificationTexts.{SaysWhoWinsText, WinnersOfTextsAreExact}
use Rattle.omega_laws.proofs.saying.Alike.{PartsAreOne, same_controlled, same_sides, turned}
use Rattle.omega_laws.proofs.saying.Described.{HaveSameParts, described, named_alike}
use Rattle.omega_laws.proofs.saying.Realizing.{Known, outputs_are, says}

pub circuits_judged : PartsAreOne → CircuitsOfTextsAreOne → CircuitVerdictsAreExact → CircuitsAreJudged
circuits_judged parts circuits exact decided file input output explain exit answer =
    let a : Description = answer.file in
    let here : Describes file a = described file a answer.file_read in
    record {
      said = (a, here);
      circuit_said = (answer.input, answer.input_read);
      sided = λ b c there says.
          subst (IsSidedBy b) (circuits input answer.input c answer.input_read says) (same_sides a b (parts file a b here there) answer.input answer.holds.judged.sided);
      exact = λ b c there says.
          (let same : HaveSameParts a b = parts file a b here there in
          let known : IsYes exit output ↔ AllAreWanted (AcceptsNamed a) c = exact decided file input output explain exit a c answer.file_read says answer in (
            λ yes word of. named_alike a b same word (known.0 yes word of),
            λ all. known.1 (λ word of. named_alike b a (turned a b same) word (all word of)),
          ));
    }

pub formula_circuits_judged : FormulasOfTextsAreOne → CircuitsOfTextsAreOne → FormulaCircuitVerdictsAreExact → FormulaCircuitsAreJudged
formula_circuits_judged formulas circuits exact decided file input output lists explain exit answer =
    let f : NumberedFormula = answer.file in
    let own : CircuitValue = answer.input in
    let outs : outputs_in f lists ≡ outputs_of lists (tree_of f) = outputs_are f answer.file_read.names lists.outs lists.ins answer.holds.parted in
    let sides : HasSidesBy lists (tree_of f) own =
    subst (λ (o : List (List ℕ)). AreSided (names_of (tree_of f)) o (input_names own) (output_names own)) outs
    (subst (λ (names : List (List ℕ)). AreSided names (outputs_in f lists) (input_names own) (output_names own)) answer.file_read.names answer.holds.holds.judged.sided.sided) in
    record {
      said = (tree_of f, answer.file_read.read.says);
      circuit_said = (own, answer.input_read);
      sided = λ tree c said says.
          subst (λ (t : FormulaTree). HasSidesBy lists t c) (formulas file (tree_of f) tree answer.file_read.read.says said)
          (subst (HasSidesBy lists (tree_of f)) (circuits input own c answer.input_read says) sides);
      exact = λ tree c said says.
          subst (λ (t : FormulaTree). IsYes exit output ↔ AllAreWanted (Satisfies t) c) (formulas file (tree_of f) tree answer.file_read.read.says said)
          (exact decided file input output lists explain exit f c answer.file_read says answer);
    }

pub circuits_exact : Known → WrittenFormulaCircuitsSatisfy → FormulaCircuitsAreExact
circuits_exact known law decided form text output lists exit written = go exit written
  where
    circuit_for : IsSatisfiedBy text lists output → (tree : FormulaTree) → SaysFormula text tree → IsCircuitFor tree (outputs_of lists tree) output
    circuit_for is tree said =
        let f : NumberedFormula = is.formula in
        let outs : outputs_in f lists ≡ outputs_of lists (tree_of f) = outputs_are f is.read.names lists.outs lists.ins is.parted in
        let Named : List (List ℕ) → List (List ℕ) → Type 0 = λ names o. NamesSides names (system_numbers names o) is.circuit in
        let own : IsCircuitFor (tree_of f) (outputs_of lists (tree_of f)) output = record {
          circuit = is.circuit;
          says = is.says;
          named = subst (λ (o : List (List ℕ)). Named (names_of (tree_of f)) o) outs
              (subst (λ (names : List (List ℕ)). Named names (outputs_in f lists)) is.read.names is.named);
          satisfies = is.satisfies decided;
        } in
        subst (λ (t : FormulaTree). IsCircuitFor t (outputs_of lists t) output) (known.formulas text (tree_of f) tree is.read.read.says said) own

    go : (exit : Exit) → IsFormulaCircuitWritten form text lists exit output
        → SaysWhoWins text lists exit × ((tree : FormulaTree) → SaysFormula text tree → WritesCircuit tree (outputs_of lists tree) exit output)
    go Done satisfying = (says known decided text satisfying.made.controller lists Done satisfying.made.won, circuit_for (law form text lists output satisfying))
    go No told = (says known decided text told.strategy lists No told.lost, λ tree said. told.line)

pub winning_circuits_exact : PartsAreOne → WinnersOfTextsAreExact → WrittenCircuitsRealize → WinningCircuitsAreExact
winning_circuits_exact parts winners law decided form text output exit written = go exit written
  where
    circuit_of : IsRealizedBy text output → (b : Description) → Describes text b → WritesCircuitOf b Done output
    circuit_of is b there =
        let a : Description = is.automaton in
        let same : HaveSameParts a b = parts text a b (described text a is.read) there in (
          is.controlled,
          record {
            item = ap (list_any is_controllable_item) (sym same.unknown) ∙ is.stated.item;
            controlled = same_controlled a b same is.controlled is.stated.controlled;
          },
          record {
            circuit = is.circuit;
            says = is.says;
            named = subst (λ (names : List (List ℕ)). NamesSides names is.controlled is.circuit) same.propositions is.named;
            accepted = λ word of. named_alike a b same word (is.realizes decided word of);
          },
        )

    go : (exit : Exit) → IsWinningCircuitAnswer form text exit output
        → SaysWhoWinsText text exit × ((b : Description) → Describes text b → WritesCircuitOf b exit output)
    go Done realizing = (winners decided text realizing.made.controller Done realizing.made.won, circuit_of (law form text output realizing))
    go No told = (winners decided text told.strategy No told.lost, λ b there. told.line)
