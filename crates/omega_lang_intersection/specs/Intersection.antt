-- Whether two automata accept a common word, and if so, words that both accept. Propositions that have one name are the
-- same (HOA v1, AP).
use Rattle.std.specs.Prelude.{ℕ, List, [], ◌∷◌}
use Rattle.omega_hoa_automaton.specs.Automaton.{Description}
use Rattle.omega_lang_lasso_word.specs.Fitting.{Fits, along}
use Rattle.omega_lang_lasso_word.specs.LassoWordText.{lasso_word_text}
use Rattle.omega_lang_lasso_word.specs.Laws.{HasStrings}
use Rattle.omega_lang_runs.specs.Lasso.{IsAcceptingLasso}
use Rattle.omega_lang_runs.specs.Words.{CanBeTaken}
use Rattle.omega_text.specs.NamedWords.{NamedWord}
use Rattle.omega_lang_word_laws.specs.NamedWords.{AcceptsNamed, part_of}
use Rattle.omega_lang_intersection.specs.declared.answer.Example.{Example}
use Rattle.omega_lang_intersection.specs.declared.answer.Intersection.{Intersection}
use Rattle.omega_lang_intersection.specs.declared.answer.Intersection.TheVariants.{Common, Empty}

-- two automata both accept a word over names
pub record AcceptBoth (one other : Description) (word : NamedWord) : Type 0 where
  pub first : AcceptsNamed one word
  pub second : AcceptsNamed other word

-- an automaton can take the edges of a lasso, one after the other, with what it sees of a word over names
abbrev pub GoesAlong : Description → List ℕ → List ℕ → NamedWord → Type 0
GoesAlong a stem [] word = ⊥
GoesAlong a stem (first ∷ others) word =
    (i : ℕ) → CanBeTaken a (along first others stem i) (part_of a.propositions word i)

-- a word is such as is wanted, and fits the text of the words, as does no word but such, if names are strings, as in
-- each text. The automaton has an accepting lasso, along which each of them goes
pub record IsExample (a : Description) (AreStrings : Type 0) (IsWanted : NamedWord → Type 0)
    (example : Example) : Type 0 where
  pub word : NamedWord
  pub wanted : IsWanted word
  pub fits : AreStrings → Fits (lasso_word_text example.word) word
  pub all_wanted :
      AreStrings → (word : NamedWord) → Fits (lasso_word_text example.word) word → IsWanted word
  pub lasso : IsAcceptingLasso a example.stem example.cycle
  pub goes_along :
      AreStrings → (word : NamedWord) → Fits (lasso_word_text example.word) word
      → GoesAlong a example.stem example.cycle word

-- the names of the propositions of two automata are strings
abbrev pub HaveStrings : Description → Description → Type 0
HaveStrings one other = HasStrings one × HasStrings other

-- an answer is right: `Empty` only if no word is accepted by both automata; any other answer is an example of words
-- that both accept
abbrev pub IsIntersection : Description → Description → Intersection → Type 0
IsIntersection one other Empty = (word : NamedWord) → ¬ AcceptBoth one other word
IsIntersection one other (Common example) =
    IsExample one (HaveStrings one other) (AcceptBoth one other) example
