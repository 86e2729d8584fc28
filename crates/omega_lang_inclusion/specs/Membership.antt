-- Whether an automaton accepts each word that a symbolic word admits, and if not, words that show it.
use Rattle.std.specs.Prelude.{◌⊎◌}
use Rattle.std.specs.List.{AllByRecursion}
use Rattle.omega_hoa_automaton.specs.Automaton.{Description}
use Rattle.omega_hoa_edges.specs.Determinism.{IsDeterministic}
use Rattle.omega_lang_lasso_word.specs.Fitting.{Fits}
use Rattle.omega_lang_lasso_word.specs.LassoWordText.{lasso_word_text}
use Rattle.omega_lang_lasso_word.specs.Laws.{HasStrings}
use Rattle.omega_lang_lasso_word.specs.Admitted.{Admits}
use Rattle.omega_lang_lasso_word.specs.declared.lasso_word.LassoWord.{LassoWord}
use Rattle.omega_lang_lasso_word.specs.declared.symbolic_word.SymbolicWord.{SymbolicWord}
use Rattle.omega_text.specs.hoa.Forms.{IsQuotable}
use Rattle.omega_text.specs.Omniscience.{LimitedPrincipleOfOmniscience}
use Rattle.omega_text.specs.NamedWords.{NamedWord}
use Rattle.omega_lang_word_laws.specs.NamedWords.{AcceptsNamed, IsPeriodicFor}
use Rattle.omega_lang_inclusion.specs.OneWord.{IsOneWordFor}
use Rattle.omega_lang_inclusion.specs.declared.membership.Membership.{Membership}
use Rattle.omega_lang_inclusion.specs.declared.membership.Membership.TheVariants.{Accepted, Rejected}

-- an automaton accepts each word that a symbolic word admits
abbrev pub AcceptsAdmitted : SymbolicWord → Description → Type 0
AcceptsAdmitted word a = (named : NamedWord) → Admits word named → AcceptsNamed a named

-- an automaton accepts the words that a symbolic word admits: without a premise all of them if each letter fixes each
-- of its propositions, and else each of which it sees an ultimately periodic part; by the limited principle of
-- omniscience all
pub record AreAccepted (word : SymbolicWord) (a : Description) : Type 0 where
  pub one_word : IsOneWordFor word a → AcceptsAdmitted word a
  pub periodic : (named : NamedWord) → IsPeriodicFor a named → Admits word named → AcceptsNamed a named
  pub all : LimitedPrincipleOfOmniscience → AcceptsAdmitted word a

-- a word is admitted, and an automaton does not accept it
pub record IsRejected (word : SymbolicWord) (a : Description) (named : NamedWord) : Type 0 where
  pub admitted : Admits word named
  pub not_accepted : ¬ AcceptsNamed a named

-- the names of a symbolic word are strings
abbrev pub HasStringNames : SymbolicWord → Type 0
HasStringNames word = AllByRecursion IsQuotable word.names

-- some admitted word is not accepted and fits the text of words, as does no word but such. Names are strings, as in
-- each text
pub record IsRejection (word : SymbolicWord) (a : Description) (words : LassoWord) : Type 0 where
  pub named : NamedWord
  pub rejected : IsRejected word a named
  pub fits : HasStringNames word → HasStrings a → Fits (lasso_word_text words) named
  pub all_rejected :
      HasStringNames word → HasStrings a → (other : NamedWord) → Fits (lasso_word_text words) other
      → IsRejected word a other

-- an answer is right: `Accepted` only if the automaton accepts the admitted words; any other answer is words that show
-- that it does not
abbrev pub IsMembership : SymbolicWord → Description → Membership → Type 0
IsMembership word a Accepted = AreAccepted word a
IsMembership word a (Rejected words) = IsRejection word a words

-- membership is decided of a deterministic automaton, and of any automaton if it sees one word at most
abbrev pub IsDecided : SymbolicWord → Description → Type 0
IsDecided word a = IsDeterministic a ⊎ IsOneWordFor word a
