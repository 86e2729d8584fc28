-- Whether one automaton accepts only words that another accepts, and if not, words that show it.
use Rattle.omega_hoa_automaton.specs.Automaton.{Description}
use Rattle.omega_lang_intersection.specs.Intersection.{HaveStrings, IsExample}
use Rattle.omega_lang_intersection.specs.declared.answer.Example.{Example}
use Rattle.omega_text.specs.Omniscience.{LimitedPrincipleOfOmniscience}
use Rattle.omega_text.specs.NamedWords.{NamedWord}
use Rattle.omega_lang_word_laws.specs.NamedWords.{AcceptsNamed, IsPeriodicFor}
use Rattle.omega_lang_inclusion.specs.declared.containment.Containment.{Containment}
use Rattle.omega_lang_inclusion.specs.declared.containment.Containment.TheVariants.{Contained, NotContained}

-- each word over names that one automaton accepts is accepted by another
abbrev pub AcceptsAllOf : Description → Description → Type 0
AcceptsAllOf one other = (word : NamedWord) → AcceptsNamed one word → AcceptsNamed other word

-- `other` accepts the words that `one` accepts: without a premise each of which it sees an ultimately periodic part,
-- and by the limited principle of omniscience all
pub record IsContained (one other : Description) : Type 0 where
  pub periodic : (word : NamedWord) → IsPeriodicFor other word → AcceptsNamed one word
      → AcceptsNamed other word
  pub all : LimitedPrincipleOfOmniscience → AcceptsAllOf one other

-- a word over names is accepted by `one` and not by `other`
pub record IsOutside (one other : Description) (word : NamedWord) : Type 0 where
  pub accepted : AcceptsNamed one word
  pub not_accepted : ¬ AcceptsNamed other word

-- words along an accepting lasso of `one`, each of which is accepted by `one` and not by `other`
abbrev pub IsCounterexample : Description → Description → Example → Type 0
IsCounterexample one other = IsExample one (HaveStrings one other) (IsOutside one other)

-- an answer is right: `Contained` only if `other` accepts the words that `one` accepts; any other answer is a
-- counterexample
abbrev pub IsContainment : Description → Description → Containment → Type 0
IsContainment one other Contained = IsContained one other
IsContainment one other (NotContained example) = IsCounterexample one other example
