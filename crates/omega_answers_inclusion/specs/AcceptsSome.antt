-- The answer of `accepts --some` for the text of a word and that of an automaton: whether the automaton accepts some
-- word that the letters admit. Propositions that have one name are the same.
use Rattle.std.specs.Prelude.{◌≡◌, ◌⊎◌, ◌++◌, Bool, false, List, ℕ, codes}
use Rattle.omega_hoa_automaton.specs.Automaton.{Description}
use Rattle.omega_hoa_automaton.specs.Branching.{has_universal_branching}
use Rattle.omega_answers.specs.TwoTexts.{IsAboutNeither}
use Rattle.omega_io.specs.Answer.{explained}
use Rattle.omega_io.specs.declared.exit.Exit.{Exit}
use Rattle.omega_io.specs.declared.exit.Exit.TheVariants as exit
use Rattle.omega_io.specs.declared.refused.Refused.{Refused}
use Rattle.omega_lang_inclusion.specs.SomeWord.{IsSomeMembership, IsSomeRefusal}
use Rattle.omega_lang_intersection.specs.declared.answer.Intersection.{Intersection}
use Rattle.omega_lang_intersection.specs.declared.answer.Intersection.TheVariants.{Common, Empty}
use Rattle.omega_lang_lasso_word.specs.declared.symbolic_word.SymbolicWord.{SymbolicWord}
use Rattle.omega_answers_inclusion.specs.Accepts.{IsWordOrAutomatonUnread, OfWordAndAutomaton}
use Rattle.omega_answers_inclusion.specs.Example.{example_lines}

-- how the program ends after an answer
abbrev pub some_exit : Intersection → Exit
some_exit Empty = exit.No
some_exit (Common example) = exit.Done

-- the text of an answer: `no`, or `yes`, explained by the example
abbrev pub some_text : (explain : Bool) → Intersection → List ℕ
some_text explain Empty = codes "no\n"
some_text explain (Common example) = codes "yes\n" ++ explained explain (example_lines example)

-- what is written of a word and an automaton is right: `yes`, with words that show it, if the automaton accepts some
-- word that is admitted, and else `no`
pub record IsSomeVerdict (word : SymbolicWord) (a : Description) (explain : Bool) (exit : Exit)
    (output : List ℕ) : Type 0 where
  pub plain : has_universal_branching a ≡ false
  pub answer : Intersection
  pub right : IsSomeMembership word a answer
  pub ends : exit ≡ some_exit answer
  pub written : output ≡ some_text explain answer

-- the answer of `accepts --some`: what is written of the word and the automaton is right
abbrev pub IsAcceptsSomeAnswer : (word text : List ℕ) (explain : Bool) → Exit → List ℕ → Type 0
IsAcceptsSomeAnswer word text explain exit output =
    OfWordAndAutomaton (λ symbolic a. IsSomeVerdict symbolic a explain exit output) word text

-- the refusal of `accepts --some`: that of one of the texts, or else that of such a membership, which is about neither
abbrev pub IsAcceptsSomeRefused : (word text : List ℕ) → Refused → Type 0
IsAcceptsSomeRefused word text refused = IsWordOrAutomatonUnread word text refused
    ⊎ OfWordAndAutomaton (λ symbolic a. IsAboutNeither (IsSomeRefusal symbolic a) refused) word text
