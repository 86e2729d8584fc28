-- Whether an automaton accepts some word that a symbolic word admits, and if so, words that show it; and which refusal
-- applies: that of the automaton of the symbolic word, else that of the graph of its product with the automaton.
use Rattle.omega_hoa_automaton.specs.Automaton.{Description}
use Rattle.omega_lang_intersection.specs.Intersection.{IsExample}
use Rattle.omega_lang_intersection.specs.declared.answer.Intersection.{Intersection}
use Rattle.omega_lang_intersection.specs.declared.answer.Intersection.TheVariants.{Common, Empty}
use Rattle.omega_lang_lasso_word.specs.Admitted.{Admits}
use Rattle.omega_lang_lasso_word.specs.Laws.{HasStrings}
use Rattle.omega_lang_lasso_word.specs.declared.symbolic_word.SymbolicWord.{SymbolicWord}
use Rattle.omega_lang_product.specs.Refusing.{IsGraphRefusal}
use Rattle.omega_text.specs.NamedWords.{NamedWord}
use Rattle.omega_lang_word_laws.specs.NamedWords.{AcceptsNamed}
use Rattle.omega_text.specs.declared.refusal.Refusal.{Refusal}
use Rattle.omega_lang_inclusion.specs.Membership.{HasStringNames}
use Rattle.omega_lang_inclusion.specs.Written.{IsOversized, IsWordAutomaton}

-- a word over names is admitted, and an automaton accepts it
pub record IsMember (word : SymbolicWord) (a : Description) (named : NamedWord) : Type 0 where
  pub admitted : Admits word named
  pub accepted : AcceptsNamed a named

-- an answer is right: `Empty` only if the automaton accepts no word that is admitted; any other answer is an example of
-- words that are admitted and that it accepts
abbrev pub IsSomeMembership : SymbolicWord → Description → Intersection → Type 0
IsSomeMembership word a Empty = (named : NamedWord) → ¬ IsMember word a named
IsSomeMembership word a (Common example) =
    IsExample a (HasStrings a × HasStringNames word) (IsMember word a) example

-- the refusal of such a membership
pub data IsSomeRefusal (word : SymbolicWord) (a : Description) (refusal : Refusal) : Type 0 where
  oversized : IsOversized word refusal → IsSomeRefusal word a refusal
  not_met : (one : Description) → IsWordAutomaton word one → IsGraphRefusal a one refusal
      → IsSomeRefusal word a refusal
