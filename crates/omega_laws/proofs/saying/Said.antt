-- What answers to formulas in turn say of their texts.
use Rattle.std.proofs.Common.{ℕ, List, [], ◌∷◌, subst}
use Rattle.std.specs.List.{AllZip}
use Rattle.omega_text.specs.NamedWords.{NamedWord}
use Rattle.omega_hoa_automaton.specs.Automaton.{Description}
use Rattle.omega_hoa.specs.Alone.{IsAutomatonText}
use Rattle.omega_io.specs.declared.exit.Exit.{Exit}
use Rattle.omega_lang_word_laws.specs.NamedWords.{AcceptsNamed}
use Rattle.omega_ltl_formula.specs.Formula.{FormulaTree}
use Rattle.omega_ltl_formula.specs.Table.{NumberedFormula, tree_of}
use Rattle.omega_ltl_text.specs.Laws.{FormulasOfTextsAreOne}
use Rattle.omega_answers_formula.specs.Formula.{IsFormulaOfText}
use Rattle.omega_answers_formula.specs.InTurn.{AreAnswered}
use Rattle.omega_laws.specs.Describes.{DescribedAreAlike, Describes}
use Rattle.omega_laws.specs.FormulaTexts.{SaysOfTexts}
use Rattle.omega_laws.proofs.saying.Described.{described}

-- what holds of the elements of two lists, place by place, gives another
zipped : {A B : Type 0} (P Q : A → B → Type 0) → ((one : A) (other : B) → P one other → Q one other)
    → (ones : List A) (others : List B) → AllZip P ones others → AllZip Q ones others
zipped P Q then [] [] all = all
zipped P Q then [] (other ∷ others) all = all
zipped P Q then (one ∷ ones) [] all = all
zipped P Q then (one ∷ ones) (other ∷ others) all = (then one other all.0, zipped P Q then ones others all.1)

-- answers that say one thing of what is asked say another
pub answered_as : {A : Type 0} (One Other : A → Exit → List ℕ → Type 0)
    → ((asked : A) (exit : Exit) (output : List ℕ) → One asked exit output → Other asked exit output)
    → (all : List A) (exit : Exit) (output : List ℕ) → AreAnswered One all exit output → AreAnswered Other all exit output
answered_as One Other then all exit output answered = record {
  answers = answered.answers;
  each =
      zipped (λ one answer. One one answer.0 answer.1) (λ one answer. Other one answer.0 answer.1)
      (λ one answer. then one answer.0 answer.1) all answered.answers answered.each;
  texts = answered.texts;
  ends = answered.ends;
}

module _ (formulas_one : FormulasOfTextsAreOne) (Says : (NamedWord → Type 0) → FormulaTree → Exit → List ℕ → Type 0)
    (formula : List ℕ) (asked : NumberedFormula) (read : IsFormulaOfText formula asked) (exit : Exit) (output : List ℕ) where
  -- what is said of the formula that was read is said of each that the text says
  pub said_of_texts : {A : Type 0} (IsDescribed : A → Type 0) (HasWord : A → NamedWord → Type 0) (a : A) → IsDescribed a
      → ((b : A) → IsDescribed b → Says (HasWord b) (tree_of asked) exit output) → SaysOfTexts IsDescribed HasWord Says formula exit output
  said_of_texts IsDescribed HasWord a here says = record {
    formula_said = (tree_of asked, read.read.says);
    described = (a, here);
    of_all = λ tree b other there.
        subst (λ (t : FormulaTree). Says (HasWord b) t exit output) (formulas_one formula (tree_of asked) tree read.read.says other) (says b there);
  }

  -- and what is said of all automata that accept the same words, of each that a text describes
  pub said_of_automata : DescribedAreAlike → (text : List ℕ) (a : Description) → IsAutomatonText text a
      → ((b : Description) → ((word : NamedWord) → AcceptsNamed a word → AcceptsNamed b word) → ((word : NamedWord) → AcceptsNamed b word → AcceptsNamed a word)
      → Says (AcceptsNamed b) (tree_of asked) exit output) → SaysOfTexts (Describes text) AcceptsNamed Says formula exit output
  said_of_automata alike text a own says =
      let here : Describes text a = described text a own in
      said_of_texts (Describes text) AcceptsNamed a here (λ b there. says b (alike text a b here there).1 (alike text b a there here).1)
