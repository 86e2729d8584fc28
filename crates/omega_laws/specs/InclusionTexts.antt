-- Laws of what `contained`, `equal` and `accepts` answer, in words of texts and of the words that they accept.
use Rattle.std.specs.Prelude.{◌≡◌, ◌⊎◌, ℕ, Bool, List, [], codes}
use Rattle.omega_text.specs.Omniscience.{LimitedPrincipleOfOmniscience}
use Rattle.omega_hoa_automaton.specs.Automaton.{Description}
use Rattle.omega_io.specs.declared.exit.Exit.{Exit}
use Rattle.omega_io.specs.declared.exit.Exit.TheVariants.{Done, No}
use Rattle.omega_lang_lasso_word.specs.Admitted.{Admits}
use Rattle.omega_lang_lasso_word.specs.Fitting.{Fits}
use Rattle.omega_lang_lasso_word.specs.declared.symbolic_word.SymbolicWord.{SymbolicWord}
use Rattle.omega_lang_word_text.specs.Text.{IsWordText}
use Rattle.omega_text.specs.NamedWords.{IsPeriodic, NamedWord}
use Rattle.omega_lang_inclusion.specs.OneWord.{IsOneWordFor}
use Rattle.omega_answers_inclusion.specs.Accepts.{IsAcceptsAnswer}
use Rattle.omega_answers_inclusion.specs.AcceptsSome.{IsAcceptsSomeAnswer}
use Rattle.omega_answers_inclusion.specs.Contained.{IsContainedAnswer}
use Rattle.omega_answers_inclusion.specs.Equal.{IsEqualAnswer}
use Rattle.omega_laws.specs.Describes.{Describes, DescribesSome}
use Rattle.omega_laws.specs.TellsWords.{TellsWords}
use Rattle.omega_laws.specs.TextWords.{AcceptsWordsOf, TextAccepts}

-- one text accepts a word, and another does not
abbrev pub AcceptsOutside : (one other : List ℕ) → NamedWord → Type 0
AcceptsOutside one other word = TextAccepts one word × (¬ TextAccepts other word)

-- `no`, with these lines and words that one text accepts and another, which describes an automaton, does not
pub record TellsOutside (one other lines : List ℕ) (explain : Bool) (output : List ℕ) : Type 0 where
  pub described : DescribesSome other
  pub told : TellsWords (AcceptsOutside one other) (codes "no\n") lines explain output

-- what an answer of `contained` says: that the text of the file accepts the words of the other, or words that it does
-- not accept
abbrev pub SaysContained : (file input : List ℕ) (explain : Bool) → Exit → List ℕ → Type 0
SaysContained file input explain Done output = (output ≡ codes "yes\n") × AcceptsWordsOf file input
SaysContained file input explain No output = TellsOutside input file [] explain output

-- what an answer of `equal` says: that each text accepts the words of the other, or words that one of them does not
-- accept
abbrev pub SaysEqual : (file input : List ℕ) (explain : Bool) → Exit → List ℕ → Type 0
SaysEqual file input explain Done output =
    (output ≡ codes "yes\n") × AcceptsWordsOf file input × AcceptsWordsOf input file
SaysEqual file input explain No output =
    TellsOutside input file (codes "accepted by input\n") explain output
    ⊎ (AcceptsWordsOf file input × TellsOutside file input (codes "accepted by file\n") explain output)

-- a text describes an automaton and accepts the words that fit the text of a word: without a premise each ultimately
-- periodic one, and all if each letter fixes each proposition of its automaton. By the limited principle of
-- omniscience it accepts all
pub record AcceptsFitting (word text : List ℕ) : Type 0 where
  pub described : DescribesSome text
  pub read : (symbolic : SymbolicWord) × IsWordText word symbolic
  pub periodic : (named : NamedWord) → IsPeriodic named → Fits word named → TextAccepts text named
  pub one_word : (symbolic : SymbolicWord) (a : Description) → IsWordText word symbolic
      → Describes text a → IsOneWordFor symbolic a
      → (named : NamedWord) → Fits word named → TextAccepts text named
  pub all : LimitedPrincipleOfOmniscience → (named : NamedWord) → Fits word named → TextAccepts text named

-- the text of a word is read, and the text of an automaton describes one: `no`, with words that are admitted and not
-- accepted
pub record TellsRejected (word text : List ℕ) (explain : Bool) (output : List ℕ) : Type 0 where
  pub described : DescribesSome text
  pub symbolic : SymbolicWord
  pub read : IsWordText word symbolic
  pub told : TellsWords (λ named. Admits symbolic named × (¬ TextAccepts text named)) (codes "no\n") []
      explain output

-- what an answer of `accepts` says: that the text accepts the words, or words that it does not accept
abbrev pub SaysAccepted : (word text : List ℕ) (explain : Bool) → Exit → List ℕ → Type 0
SaysAccepted word text explain Done output = (output ≡ codes "yes\n") × AcceptsFitting word text
SaysAccepted word text explain No output = TellsRejected word text explain output

-- the text of a word is read: `yes`, with words that are admitted and that a text accepts
pub record TellsAccepted (word text : List ℕ) (explain : Bool) (output : List ℕ) : Type 0 where
  pub symbolic : SymbolicWord
  pub read : IsWordText word symbolic
  pub told : TellsWords (λ named. Admits symbolic named × TextAccepts text named) (codes "yes\n") []
      explain output

-- a text describes an automaton and accepts none of the words that fit the text of a word
pub record AcceptsNoneFitting (word text : List ℕ) : Type 0 where
  pub described : DescribesSome text
  pub read : (symbolic : SymbolicWord) × IsWordText word symbolic
  pub none : (named : NamedWord) → Fits word named → ¬ TextAccepts text named

-- what an answer of `accepts --some` says: words that the text accepts, or that it accepts none that fits
abbrev pub SaysSomeAccepted : (word text : List ℕ) (explain : Bool) → Exit → List ℕ → Type 0
SaysSomeAccepted word text explain Done output = TellsAccepted word text explain output
SaysSomeAccepted word text explain No output = (output ≡ codes "no\n") × AcceptsNoneFitting word text

-- each answer says so
abbrev pub ContainedTextsAreContained : Type 0
ContainedTextsAreContained = (file input : List ℕ) (explain : Bool) (exit : Exit) (output : List ℕ)
    → IsContainedAnswer file input explain exit output → SaysContained file input explain exit output

abbrev pub EqualTextsAreEqual : Type 0
EqualTextsAreEqual = (file input : List ℕ) (explain : Bool) (exit : Exit) (output : List ℕ)
    → IsEqualAnswer file input explain exit output → SaysEqual file input explain exit output

abbrev pub AcceptedTextsAreAccepted : Type 0
AcceptedTextsAreAccepted = (word text : List ℕ) (explain : Bool) (exit : Exit) (output : List ℕ)
    → IsAcceptsAnswer word text explain exit output → SaysAccepted word text explain exit output

abbrev pub SomeTextsAreAccepted : Type 0
SomeTextsAreAccepted = (word text : List ℕ) (explain : Bool) (exit : Exit) (output : List ℕ)
    → IsAcceptsSomeAnswer word text explain exit output → SaysSomeAccepted word text explain exit output
