-- The answer of `accepts` for the text of a word and that of an automaton, which is deterministic or sees one word at
-- most: whether the automaton accepts each word that the letters admit. Propositions that have one name are the same.
use Rattle.std.specs.Prelude.{◌⊎◌, Bool, List, ℕ}
use Rattle.omega_hoa_automaton.specs.Automaton.{Description}
use Rattle.omega_hoa.specs.Alone.{IsAutomatonRefusal, IsAutomatonText}
use Rattle.omega_io.specs.declared.exit.Exit.{Exit}
use Rattle.omega_io.specs.declared.refused.Refused.{Refused}
use Rattle.omega_io.specs.declared.refused.Which.TheVariants.{Input}
use Rattle.omega_lang_lasso_word.specs.declared.symbolic_word.SymbolicWord.{SymbolicWord}
use Rattle.omega_lang_word_text.specs.Text.{IsWordRefusal, IsWordText}
use Rattle.omega_lang_inclusion.specs.Membership.{IsDecided, IsMembership}
use Rattle.omega_lang_inclusion.specs.WordRefusing.{IsMembershipRefusal}
use Rattle.omega_lang_inclusion.specs.declared.membership.Membership.{Membership}
use Rattle.omega_lang_inclusion.specs.declared.membership.Membership.TheVariants.{Accepted, Rejected}
use Rattle.omega_io.specs.Answer.{IsReply, no_for}
use Rattle.omega_answers.specs.Choice.{IsRefusedFor}
use Rattle.omega_answers.specs.TwoTexts.{IsEitherRefused, OfBoth}
use Rattle.omega_io.specs.declared.answer.Answer.{Answer}
use Rattle.omega_io.specs.declared.answer.Answer.TheVariants.{Yes}
use Rattle.omega_answers_inclusion.specs.Example.{word_line}

-- `yes`, or `no`, explained by words that are not accepted
abbrev pub membership_answer : (explain : Bool) → Membership → Answer
membership_answer explain Accepted = Yes
membership_answer explain (Rejected words) = no_for explain (word_line words)

-- what is written of a word and an automaton is right: `yes` if the automaton accepts each word that is admitted, and
-- else `no` with words that show that it does not
pub record IsMembershipVerdict (word : SymbolicWord) (a : Description) (explain : Bool)
    (exit : Exit) (output : List ℕ) : Type 0 where
  pub decided : IsDecided word a
  pub answer : Membership
  pub right : IsMembership word a answer
  pub reply : IsReply (membership_answer explain answer) exit output

-- the texts are those of a word and of an automaton, and this holds of the two
abbrev pub OfWordAndAutomaton : (SymbolicWord → Description → Type 0)
    → (word text : List ℕ) → Type 0
OfWordAndAutomaton Holds word text = OfBoth (IsWordText word) (IsAutomatonText text) Holds

-- the one is not the text of a word, or the other not that of an automaton
abbrev pub IsWordOrAutomatonUnread : (word text : List ℕ) → Refused → Type 0
IsWordOrAutomatonUnread word text =
    IsEitherRefused (IsWordText word) (IsWordRefusal word) (IsAutomatonRefusal text)

-- the answer of `accepts`: what is written of the word and the automaton is right
abbrev pub IsAcceptsAnswer : (word text : List ℕ) (explain : Bool) → Exit → List ℕ → Type 0
IsAcceptsAnswer word text explain exit output =
    OfWordAndAutomaton (λ symbolic a. IsMembershipVerdict symbolic a explain exit output) word text

-- the refusal of `accepts`, which calls the text of the word the file and the other the input: that of one of the
-- texts, or else that of membership, which for a choice is about the automaton, and else about neither
abbrev pub IsAcceptsRefused : (word text : List ℕ) → Refused → Type 0
IsAcceptsRefused word text refused = IsWordOrAutomatonUnread word text refused
    ⊎ OfWordAndAutomaton (λ symbolic a. IsRefusedFor Input (IsMembershipRefusal symbolic a) refused) word text
