-- The words over names that a text accepts.
use Rattle.std.specs.Prelude.{◌⊎◌, ℕ, List}
use Rattle.omega_hoa_automaton.specs.Automaton.{Description}
use Rattle.omega_hoa.specs.Alone.{IsAutomatonText}
use Rattle.omega_text.specs.NamedWords.{IsPeriodic, NamedWord}
use Rattle.omega_lang_word_laws.specs.NamedWords.{AcceptsNamed}
use Rattle.omega_text.specs.Omniscience.{LimitedPrincipleOfOmniscience}
use Rattle.omega_laws.specs.Describes.{Describes, DescribesSome}

-- the text describes an automaton that accepts its part of the word
pub record TextAccepts (text : List ℕ) (word : NamedWord) : Type 0 where
  pub automaton : Description
  pub described : Describes text automaton
  pub accepted : AcceptsNamed automaton word

-- the text is that of an automaton
abbrev pub IsText : List ℕ → Type 0
IsText text = (a : Description) × IsAutomatonText text a

-- two texts part a word: they do not both accept it, and one of them does, which for an ultimately periodic word needs
-- no premise
pub record AreParted (one other : List ℕ) (word : NamedWord) : Type 0 where
  pub apart : TextAccepts one word → ¬ TextAccepts other word
  pub periodic : IsPeriodic word → TextAccepts one word ⊎ TextAccepts other word
  pub all : LimitedPrincipleOfOmniscience → TextAccepts one word ⊎ TextAccepts other word

-- two texts describe automata, and the one accepts the words that the other accepts: without a premise each ultimately
-- periodic one, and by the limited principle of omniscience all
pub record AcceptsWordsOf (one other : List ℕ) : Type 0 where
  pub described : DescribesSome one × DescribesSome other
  pub periodic : (word : NamedWord) → IsPeriodic word → TextAccepts other word → TextAccepts one word
  pub all : LimitedPrincipleOfOmniscience → (word : NamedWord) → TextAccepts other word → TextAccepts one word
