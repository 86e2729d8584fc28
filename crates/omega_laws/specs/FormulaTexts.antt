-- Laws of what `satisfies` and `equal -f` answer, in words of texts and of the words that automata accept and that
-- satisfy formulas.
use Rattle.std.specs.Prelude.{◌≡◌, ◌⊎◌, ◌↔◌, Bool, List, [], ℕ, codes}
use Rattle.omega_text.specs.NamedWords.{NamedWord}
use Rattle.omega_text.specs.Omniscience.{LimitedPrincipleOfOmniscience}
use Rattle.omega_io.specs.declared.exit.Exit.{Exit}
use Rattle.omega_io.specs.declared.exit.Exit.TheVariants.{Done, No}
use Rattle.omega_lang_lasso_word.specs.Admitted.{Admits}
use Rattle.omega_lang_word_laws.specs.NamedWords.{AcceptsNamed}
use Rattle.omega_lang_word_text.specs.Text.{IsWordText}
use Rattle.omega_ltl_formula.specs.Formula.{FormulaTree}
use Rattle.omega_ltl_formula.specs.Meaning.{Satisfies}
use Rattle.omega_ltl_text.specs.Text.{SaysFormula}
use Rattle.omega_answers_formula.specs.EqualFormula.{AreEqualAnswers}
use Rattle.omega_answers_formula.specs.InTurn.{AreAnswered}
use Rattle.omega_answers_formula.specs.Satisfies.{AreSatisfiesAnswers}
use Rattle.omega_answers_formula.specs.SatisfiesWord.{AreSatisfiesWordAnswers}
use Rattle.omega_laws.specs.Describes.{Describes}
use Rattle.omega_laws.specs.TellsWords.{TellsWords}

-- by the limited principle of omniscience, each of these words satisfies the formula
abbrev pub AllSatisfy : (IsOne : NamedWord → Type 0) → FormulaTree → Type 0
AllSatisfy IsOne formula =
    LimitedPrincipleOfOmniscience → (word : NamedWord) → IsOne word → Satisfies formula word

-- a word is one of these, and does not satisfy the formula
abbrev pub IsViolation : (IsOne : NamedWord → Type 0) → FormulaTree → NamedWord → Type 0
IsViolation IsOne formula word = IsOne word × (¬ Satisfies formula word)

-- what an answer of `satisfies` says of a formula and of these words: that each of them satisfies the formula, or
-- without a premise words that do not
abbrev pub SaysAllSatisfy : (explain : Bool) → (IsOne : NamedWord → Type 0) → FormulaTree
    → Exit → List ℕ → Type 0
SaysAllSatisfy explain IsOne formula Done output = (output ≡ codes "yes\n") × AllSatisfy IsOne formula
SaysAllSatisfy explain IsOne formula No output =
    TellsWords (IsViolation IsOne formula) (codes "no\n") [] explain output

-- a word satisfies the formula, and is none of these
abbrev pub IsMissing : (IsOne : NamedWord → Type 0) → FormulaTree → NamedWord → Type 0
IsMissing IsOne formula word = Satisfies formula word × (¬ IsOne word)

-- what an answer of `equal -f` says of a formula and of these words: by that principle, that they are exactly those
-- that satisfy the formula. Or it says, without a premise, words that do not satisfy it. Or it says that each satisfies
-- it, and words that do and are missing
abbrev pub SaysTheSame : (explain : Bool) → (IsOne : NamedWord → Type 0) → FormulaTree
    → Exit → List ℕ → Type 0
SaysTheSame explain IsOne formula Done output = (output ≡ codes "yes\n")
    × (LimitedPrincipleOfOmniscience → (word : NamedWord) → IsOne word ↔ Satisfies formula word)
SaysTheSame explain IsOne formula No output =
    TellsWords (IsViolation IsOne formula) (codes "no\n") (codes "accepted by automaton\n") explain output
    ⊎ (AllSatisfy IsOne formula
    × TellsWords (IsMissing IsOne formula) (codes "no\n") (codes "accepted by formula\n") explain output)

-- what an answer says of the text of a formula and of another text, which describes what has words. The one says a
-- formula, and the other describes something. The answer says so of each formula and each thing that they say
pub record SaysOfTexts {A : Type 0} (IsDescribed : A → Type 0) (HasWord : A → NamedWord → Type 0)
    (Says : (NamedWord → Type 0) → FormulaTree → Exit → List ℕ → Type 0) (formula : List ℕ)
    (exit : Exit) (output : List ℕ) : Type 0 where
  pub formula_said : (tree : FormulaTree) × SaysFormula formula tree
  pub described : (a : A) × IsDescribed a
  pub of_all : (tree : FormulaTree) (a : A) → SaysFormula formula tree → IsDescribed a
      → Says (HasWord a) tree exit output

-- the answers of `satisfies` say so, formula by formula, of the automaton that a text describes, and of the words that
-- it accepts
abbrev pub SatisfyingTextsSatisfy : Type 0
SatisfyingTextsSatisfy =
    (formulas : List (List ℕ)) (text : List ℕ) (explain : Bool) (exit : Exit) (output : List ℕ)
    → AreSatisfiesAnswers formulas text explain exit output
    → AreAnswered (SaysOfTexts (Describes text) AcceptsNamed (SaysAllSatisfy explain)) formulas exit output

-- the answers of `satisfies --word` say so, formula by formula, of the symbolic word of a text, and of the words that
-- it admits
abbrev pub AdmittedWordsSatisfy : Type 0
AdmittedWordsSatisfy =
    (formulas : List (List ℕ)) (text : List ℕ) (explain : Bool) (exit : Exit) (output : List ℕ)
    → AreSatisfiesWordAnswers formulas text explain exit output
    → AreAnswered (SaysOfTexts (IsWordText text) Admits (SaysAllSatisfy explain)) formulas exit output

-- the answers of `equal -f` say, formula by formula, what they say of the automaton that a text describes, and of the
-- words that it accepts
abbrev pub EqualTextsHaveTheWords : Type 0
EqualTextsHaveTheWords =
    (formulas : List (List ℕ)) (text : List ℕ) (explain : Bool) (exit : Exit) (output : List ℕ)
    → AreEqualAnswers formulas text explain exit output
    → AreAnswered (SaysOfTexts (Describes text) AcceptsNamed (SaysTheSame explain)) formulas exit output
