-- What `satisfies` and `equal -f` answer of the texts of formulas.
use Rattle.std.proofs.Common.{◌≡◌, ◌++◌, ℕ, inl, inr, Bool, List, [], codes, sym, subst}
use Rattle.omega_text.specs.NamedWords.{NamedWord}
use Rattle.omega_hoa_automaton.specs.Automaton.{Description}
use Rattle.omega_hoa.specs.Alone.{IsAutomatonText}
use Rattle.omega_hoa_round_trips.specs.Laws.{ReadAutomataAreWritable}
use Rattle.omega_io.specs.Answer.{IsReply, explained}
use Rattle.omega_io.specs.declared.exit.Exit.{Exit}
use Rattle.omega_lang_intersection.specs.declared.answer.Example.{Example}
use Rattle.omega_lang_lasso_text.specs.Written.{lasso_text}
use Rattle.omega_lang_lasso_word.specs.Admitted.{Admits}
use Rattle.omega_lang_lasso_word.specs.LassoWordText.{lasso_word_text}
use Rattle.omega_lang_lasso_word.specs.Laws.{HasStrings}
use Rattle.omega_lang_lasso_word.specs.declared.symbolic_word.SymbolicWord.{SymbolicWord}
use Rattle.omega_lang_word_laws.specs.NamedWords.{AcceptsNamed}
use Rattle.omega_lang_word_text.specs.Laws.{NamesAreStrings, WordsOfTextsAreOne}
use Rattle.omega_lang_word_text.specs.Text.{IsWordText}
use Rattle.omega_ltl_equality.specs.Equality.{IsFormulaEquality}
use Rattle.omega_ltl_equality.specs.declared.formula_equality.FormulaEquality.{FormulaEquality}
use Rattle.omega_ltl_equality.specs.declared.formula_equality.FormulaEquality.TheVariants.{Equal, Excess, Missing}
use Rattle.omega_ltl_formula.specs.Table.{NumberedFormula, tree_of}
use Rattle.omega_ltl_satisfaction.specs.Satisfaction.{IsOverStrings, IsSatisfaction, IsUnsatisfyingExample}
use Rattle.omega_ltl_satisfaction.specs.WordSatisfaction.{IsWordSatisfaction}
use Rattle.omega_ltl_satisfaction.specs.declared.satisfaction.Satisfaction.{Satisfaction}
use Rattle.omega_ltl_satisfaction.specs.declared.satisfaction.Satisfaction.TheVariants.{NotSatisfied, Satisfied}
use Rattle.omega_ltl_satisfaction.specs.declared.word_satisfaction.WordSatisfaction.{WordSatisfaction}
use Rattle.omega_ltl_satisfaction.specs.declared.word_satisfaction.WordSatisfaction.TheVariants as word
use Rattle.omega_ltl_text.specs.Laws.{FormulasOfTextsAreOne}
use Rattle.omega_answers_inclusion.specs.Example.{example_lines}
use Rattle.omega_answers_formula.specs.EqualFormula.{IsEqualFormulaAnswer, formula_equality_answer}
use Rattle.omega_answers_formula.specs.Formula.{IsFormulaOfText}
use Rattle.omega_answers_formula.specs.Laws.{FormulaNamesAreStrings}
use Rattle.omega_answers_formula.specs.Satisfies.{IsSatisfiesAnswer, satisfaction_answer}
use Rattle.omega_answers_formula.specs.SatisfiesWord.{IsSatisfiesWordAnswer, word_answer}
use Rattle.omega_laws.specs.Describes.{DescribedAreAlike, Describes}
use Rattle.omega_laws.specs.FormulaTexts.{AdmittedWordsSatisfy, EqualTextsHaveTheWords, IsViolation, SatisfyingTextsSatisfy, SaysAllSatisfy, SaysOfTexts, SaysTheSame}
use Rattle.omega_laws.specs.TellsWords.{TellsWords}
use Rattle.omega_laws.proofs.saying.Said.{answered_as, said_of_automata, said_of_texts}

module _ (alike : DescribedAreAlike) (writable : ReadAutomataAreWritable) (formulas_one : FormulasOfTextsAreOne) (names : FormulaNamesAreStrings)
    (text : List ℕ) (explain : Bool) where
  -- the names of both are strings
  strings : (formula : List ℕ) (asked : NumberedFormula) (a : Description) → IsFormulaOfText formula asked → IsAutomatonText text a → HasStrings a × IsOverStrings asked
  strings formula asked a formula_read read = ((writable a (inl (text, read))).propositions, names formula asked formula_read)

  -- the words of a counterexample are told of an automaton that accepts the same
  module _ (asked : NumberedFormula) (a b : Description) (both : HasStrings a × IsOverStrings asked) (onto : (word : NamedWord) → AcceptsNamed a word → AcceptsNamed b word) where
    violation_told : (lines output : List ℕ) (example : Example) → IsUnsatisfyingExample a asked example
        → output ≡ codes "no\n" ++ explained explain (lines ++ example_lines example)
        → TellsWords (IsViolation (AcceptsNamed b) (tree_of asked)) (codes "no\n") lines explain output
    violation_told lines output example is written = record {
      words = lasso_word_text example.word;
      fitting = is.word;
      fits = is.fits both;
      wanted = λ word fits. (let violates = is.all_wanted both word fits in (onto word violates.accepted, violates.not_satisfied));
      others = lasso_text example.stem example.cycle;
      told = written;
    }

  satisfying : (formula : List ℕ) (exit : Exit) (output : List ℕ) → IsSatisfiesAnswer formula text explain exit output
      → SaysOfTexts (Describes text) AcceptsNamed (SaysAllSatisfy explain) formula exit output
  satisfying formula exit output answer =
      said_of_automata formulas_one (SaysAllSatisfy explain) formula asked answer.file_read exit output alike text a answer.input_read
      (λ b onto back. go b onto back answer.holds.answer answer.holds.right answer.holds.reply)
    where
      asked : NumberedFormula
      asked = answer.file

      a : Description
      a = answer.input

      go : (b : Description) → ((word : NamedWord) → AcceptsNamed a word → AcceptsNamed b word) → ((word : NamedWord) → AcceptsNamed b word → AcceptsNamed a word)
          → (satisfaction : Satisfaction) → IsSatisfaction a asked satisfaction → IsReply (satisfaction_answer explain satisfaction) exit output
          → SaysAllSatisfy explain (AcceptsNamed b) (tree_of asked) exit output
      go b onto back Satisfied right reply =
          subst (λ (e : Exit). SaysAllSatisfy explain (AcceptsNamed b) (tree_of asked) e output) (sym reply.0)
          (reply.1, λ omniscience word accepts. right omniscience word (back word accepts))
      go b onto back (NotSatisfied example) right reply =
          subst (λ (e : Exit). SaysAllSatisfy explain (AcceptsNamed b) (tree_of asked) e output) (sym reply.0)
          (violation_told asked a b (strings formula asked a answer.file_read answer.input_read) onto [] output example right reply.1)

  equal : (formula : List ℕ) (exit : Exit) (output : List ℕ) → IsEqualFormulaAnswer formula text explain exit output
      → SaysOfTexts (Describes text) AcceptsNamed (SaysTheSame explain) formula exit output
  equal formula exit output answer =
      said_of_automata formulas_one (SaysTheSame explain) formula asked answer.file_read exit output alike text a answer.input_read
      (λ b onto back. go b onto back answer.holds.answer answer.holds.right answer.holds.reply)
    where
      asked : NumberedFormula
      asked = answer.file

      a : Description
      a = answer.input

      both : HasStrings a × IsOverStrings asked
      both = strings formula asked a answer.file_read answer.input_read

      go : (b : Description) → ((word : NamedWord) → AcceptsNamed a word → AcceptsNamed b word) → ((word : NamedWord) → AcceptsNamed b word → AcceptsNamed a word)
          → (equality : FormulaEquality) → IsFormulaEquality a asked equality → IsReply (formula_equality_answer explain equality) exit output
          → SaysTheSame explain (AcceptsNamed b) (tree_of asked) exit output
      go b onto back Equal right reply =
          subst (λ (e : Exit). SaysTheSame explain (AcceptsNamed b) (tree_of asked) e output) (sym reply.0) (
            reply.1,
            λ omniscience word. (
              λ accepts. (right omniscience word).0 (back word accepts),
              λ satisfied. onto word ((right omniscience word).1 satisfied),
            ),
          )
      go b onto back (Excess example) right reply =
          subst (λ (e : Exit). SaysTheSame explain (AcceptsNamed b) (tree_of asked) e output) (sym reply.0)
          (inl (violation_told asked a b both onto (codes "accepted by automaton\n") output example right reply.1))
      go b onto back (Missing words) right reply =
          subst (λ (e : Exit). SaysTheSame explain (AcceptsNamed b) (tree_of asked) e output) (sym reply.0)
          (inr (
            λ omniscience word accepts. right.0 omniscience word (back word accepts),
            record {
              words = lasso_word_text words;
              fitting = right.1.word;
              fits = right.1.fits both.0 both.1;
              wanted = λ word fits. (let missing = right.1.all_missing both.0 both.1 word fits in
                  (missing.satisfied, λ accepts. missing.not_accepted (back word accepts)));
              others = [];
              told = reply.1;
            },
          ))

pub satisfying_said : DescribedAreAlike → ReadAutomataAreWritable → FormulasOfTextsAreOne → FormulaNamesAreStrings → SatisfyingTextsSatisfy
satisfying_said alike writable formulas_one names formulas text explain exit output answered =
    answered_as (λ formula. IsSatisfiesAnswer formula text explain) (SaysOfTexts (Describes text) AcceptsNamed (SaysAllSatisfy explain))
    (satisfying alike writable formulas_one names text explain) formulas exit output answered

pub equal_said : DescribedAreAlike → ReadAutomataAreWritable → FormulasOfTextsAreOne → FormulaNamesAreStrings → EqualTextsHaveTheWords
equal_said alike writable formulas_one names formulas text explain exit output answered =
    answered_as (λ formula. IsEqualFormulaAnswer formula text explain) (SaysOfTexts (Describes text) AcceptsNamed (SaysTheSame explain))
    (equal alike writable formulas_one names text explain) formulas exit output answered

-- a word
pub admitted_said : NamesAreStrings → WordsOfTextsAreOne → FormulasOfTextsAreOne → FormulaNamesAreStrings → AdmittedWordsSatisfy
admitted_said strings words_one formulas_one names formulas text explain exit output answered =
    answered_as (λ formula. IsSatisfiesWordAnswer formula text explain) (SaysOfTexts (IsWordText text) Admits (SaysAllSatisfy explain))
    said formulas exit output answered
  where
    said : (formula : List ℕ) (exit : Exit) (output : List ℕ) → IsSatisfiesWordAnswer formula text explain exit output
        → SaysOfTexts (IsWordText text) Admits (SaysAllSatisfy explain) formula exit output
    said formula exit output answer =
        said_of_texts formulas_one (SaysAllSatisfy explain) formula asked answer.file_read exit output (IsWordText text) Admits symbolic answer.input_read
        (λ other read. subst Says (words_one text symbolic other answer.input_read read) (go answer.holds.answer answer.holds.right answer.holds.reply))
      where
        asked : NumberedFormula
        asked = answer.file

        symbolic : SymbolicWord
        symbolic = answer.input

        Says : SymbolicWord → Type 0
        Says other = SaysAllSatisfy explain (Admits other) (tree_of asked) exit output

        go : (satisfaction : WordSatisfaction) → IsWordSatisfaction symbolic asked satisfaction → IsReply (word_answer explain satisfaction) exit output → Says symbolic
        go word.Satisfied right reply =
            subst (λ (e : Exit). SaysAllSatisfy explain (Admits symbolic) (tree_of asked) e output) (sym reply.0) (reply.1, right)
        go (word.NotSatisfied words) right reply =
            let own = strings text symbolic answer.input_read in
            let over : IsOverStrings asked = names formula asked answer.file_read in
            subst (λ (e : Exit). SaysAllSatisfy explain (Admits symbolic) (tree_of asked) e output) (sym reply.0)
            (record {
              words = lasso_word_text words;
              fitting = right.named;
              fits = right.fits own over;
              wanted = λ named fits. (let violates = right.all_unsatisfying own over named fits in (violates.admitted, violates.not_satisfied));
              others = [];
              told = reply.1;
            })
