-- `accepts` accepts the word that `empty --word` writes.
use Rattle.std.proofs.Common.{◌≡◌, ◌↔◌, inl, inr, ℕ, ◌≤◌, Bool, List, Option, Some, length, sym, subst, ◌∙◌}
use Rattle.omega_text.specs.Limits.{most_text}
use Rattle.omega_text.specs.declared.refusal.Refusal.{Refusal}
use Rattle.omega_text.specs.declared.refusal.Refusal.TheVariants.{Memory}
use Rattle.omega_hoa_automaton.specs.Automaton.{Description, IsAutomaton}
use Rattle.omega_hoa_automaton.specs.Laws.{MeaningsAreAutomata}
use Rattle.omega_hoa.specs.Alone.{IsAutomatonRefusal}
use Rattle.omega_hoa.specs.Laws.{AutomataAreOne, AutomataAreUnrefused}
use Rattle.omega_io.specs.Refused.{IsAbout}
use Rattle.omega_io.specs.declared.exit.Exit.{Exit}
use Rattle.omega_io.specs.declared.refused.Refused.{Refused}
use Rattle.omega_io.specs.declared.refused.Which.{Which}
use Rattle.omega_io.specs.declared.refused.Which.TheVariants.{Input}
use Rattle.omega_lang_lasso_text.specs.Laws.{WordsArePassedOver}
use Rattle.omega_lang_lasso_word.specs.Fitting.{Fits}
use Rattle.omega_lang_lasso_word.specs.Laws.{FittingWordsAreAccepted, HasStrings, WordsFitWhereEdgesCanBeTaken}
use Rattle.omega_hoa_round_trips.specs.Laws.{ReadAutomataAreWritable}
use Rattle.omega_lang_lasso_word.specs.Admitted.{Admits}
use Rattle.omega_lang_lasso_word.specs.declared.symbolic_word.SymbolicWord.{SymbolicWord}
use Rattle.omega_text.specs.NamedWords.{NamedWord}
use Rattle.omega_lang_word_laws.specs.NamedWords.{AcceptsNamed}
use Rattle.omega_lang_word_text.specs.Laws.{FittingTextsAreRead, WordsAreNotRefused, WordsOfTextsAreOne}
use Rattle.omega_lang_word_text.specs.Text.{IsWordRefusal, IsWordText}
use Rattle.omega_lang_inclusion.specs.Membership.{IsMembership}
use Rattle.omega_lang_inclusion.specs.WordRefusing.{IsMembershipRefusal}
use Rattle.omega_lang_inclusion.specs.declared.membership.Membership.{Membership}
use Rattle.omega_lang_inclusion.specs.declared.membership.Membership.TheVariants.{Accepted, Rejected}
use Rattle.omega_lang_inclusion.proofs.Going.{goes_along}
use Rattle.omega_io.specs.Answer.{IsReply, IsYes}
use Rattle.omega_answers.proofs.Chosen.{chosen, told_refusal}
use Rattle.omega_answers_inclusion.specs.Accepts.{IsAcceptsAnswer, IsAcceptsRefused, IsMembershipVerdict, membership_answer}
use Rattle.omega_laws.specs.WrittenWords.{IsOpenChoice, IsWrittenWord, WrittenWordsAreAccepted}
use Rattle.omega_laws.proofs.Choices.{open_choice}
use Rattle.omega_laws.proofs.Written.{IsLassoWord, lasso_word}

-- the laws that it rests on
pub record Known : Type 0 where
  pub passed : WordsArePassedOver
  pub automata : MeaningsAreAutomata
  pub one : AutomataAreOne
  pub unrefused : AutomataAreUnrefused
  pub writable : ReadAutomataAreWritable
  pub accepted : FittingWordsAreAccepted
  pub fit : WordsFitWhereEdgesCanBeTaken
  pub read : FittingTextsAreRead
  pub words_one : WordsOfTextsAreOne
  pub words_unrefused : WordsAreNotRefused

module _ (known : Known) (text word : List ℕ) (is : IsWrittenWord text word) where
  its : IsLassoWord text word
  its = lasso_word known.passed text word is

  abbrev a : Description
  a = its.automaton

  automaton : IsAutomaton a
  automaton = known.automata its.read.value.raw a its.read.value.means

  strings : HasStrings a
  strings = (known.writable a (inl (text, its.read))).propositions

  -- some word fits the text
  fitting : (named : NamedWord) × Fits word named
  fitting =
      let goes = goes_along a automaton its.stem its.first its.others its.lasso in
      let P : List ℕ → Type 0 = λ w. Fits w goes.0 in
      (goes.0, subst P (sym its.word_is) ((known.fit a its.stem its.first its.others goes.0 strings its.lasso).1 goes.1))

  -- so it is read, and each word that is admitted fits it and is accepted
  reading : length word ≤ most_text → (symbolic : SymbolicWord) × IsWordText word symbolic × ((other : NamedWord) → Admits symbolic other ↔ Fits word other)
  reading short = known.read word fitting.0 fitting.1 short

  accepted : (named : NamedWord) → Fits word named → AcceptsNamed a named
  accepted named fits =
      let P : List ℕ → Type 0 = λ w. Fits w named in
      known.accepted a its.stem its.first its.others named strings its.plain its.lasso (subst P its.word_is fits)

  admitted : (symbolic : SymbolicWord) → IsWordText word symbolic → (named : NamedWord) → Admits symbolic named → AcceptsNamed a named
  admitted symbolic read named admits =
      let own = reading read.short in
      let same : symbolic ≡ own.0 = known.words_one word symbolic own.0 read own.1 in
      accepted named ((own.2 named).0 (subst (λ (s : SymbolicWord). Admits s named) same admits))

  -- the answer
  module _ (explain : Bool) (exit : Exit) (output : List ℕ) where
    said : (symbolic : SymbolicWord) → IsWordText word symbolic → (answer : Membership) → IsMembership symbolic a answer
        → IsReply (membership_answer explain answer) exit output → IsYes exit output
    said symbolic read Accepted right reply = reply
    said symbolic read (Rejected words) right reply =
        absurd (right.rejected.not_accepted (admitted symbolic read right.named right.rejected.admitted))

    yes : IsAcceptsAnswer word text explain exit output → IsYes exit output
    yes answer =
        let same : answer.input ≡ a = known.one text answer.input a answer.input_read its.read in
        let verdict : IsMembershipVerdict answer.file a explain exit output =
        subst (λ (b : Description). IsMembershipVerdict answer.file b explain exit output) same answer.holds in
        said answer.file answer.file_read verdict.answer verdict.right verdict.reply

  -- the refusals
  unrefused : (refusal : Refusal) → length word ≤ most_text → ¬ IsWordRefusal word refusal
  unrefused refusal short refused = let own = reading short in known.words_unrefused word own.0 refusal own.1 refused

  choice : (refused : Refused) → IsAcceptsRefused word text refused → refused.text ≡ Some Input → IsOpenChoice word text refused.refusal
  choice refused (inl unread) about =
      let P : Option Which → Type 0 = λ t. IsAbout (λ other. other ≡ Memory) (IsWordRefusal word)
      (λ other. (symbolic : SymbolicWord) × IsWordText word symbolic × IsAutomatonRefusal text other) t refused.refusal in
      absurd (known.unrefused text a refused.refusal its.read (subst P about unread).2)
  choice refused (inr pair) about =
      let refusal : Refusal = pair.holds.0 in
      let for_choice = chosen Input Input refusal refused pair.holds.2 about in
      let found = open_choice pair.file pair.input for_choice.0 (subst (IsMembershipRefusal pair.file pair.input) for_choice.1 pair.holds.1) in
      record {
        symbolic = pair.file;
        word_read = pair.file_read;
        automaton = pair.input;
        automaton_read = pair.input_read;
        state = for_choice.0;
        choice = found.0;
        open_letter = found.1;
        refusal_is = told_refusal Input refusal refused pair.holds.2 ∙ for_choice.1;
      }

pub words_accepted : Known → WrittenWordsAreAccepted
words_accepted known text word is = record {
  read = λ short. (let own = reading known text word is short in (own.0, own.1));
  unrefused = unrefused known text word is;
  yes = yes known text word is;
  open_choice = choice known text word is;
}
