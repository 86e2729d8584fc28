-- An automaton sees one word at most, which is ultimately periodic, so that it accepts all words that are admitted or
-- none.
use Rattle.std.proofs.Common.{◌≡◌, ℕ, zero, suc, ◌+◌, ◌-◌, ◌≤◌, IsTrue, List, [], ◌∷◌, length, Contains, sym, ap, subst, ◌∙◌, arith}
use Rattle.std.specs.Prelude.{slice_index_or}
use Rattle.std.proofs.lemmas.List.Elements.{Contains-append_left, Contains-append_right}
use Rattle.omega_hoa_automaton.specs.Automaton.{Description, IsAutomaton}
use Rattle.omega_lang_lasso_word.specs.Fitting.{along}
use Rattle.omega_lang_product.proofs.Membership.{Contains-here, Contains-there}
use Rattle.omega_hoa_label.specs.Raw.{RawLabelTree}
use Rattle.omega_lang_lasso_word.specs.Admitted.{Admits, holds}
use Rattle.omega_lang_lasso_word.specs.declared.symbolic_word.SymbolicWord.{SymbolicWord}
use Rattle.omega_text.specs.NamedWords.{NamedWord}
use Rattle.omega_lang_word_laws.specs.NamedWords.{AcceptsNamed, IsPeriodicFor, part_of}
use Rattle.omega_lang_word_laws.proofs.naming.Named.{AgreeBelow, accepted_same, contained_at}
use Rattle.omega_lang_inclusion.specs.Laws.{OneWordsAreAcceptedTogether}
use Rattle.omega_lang_inclusion.specs.Membership.{AcceptsAdmitted, AreAccepted}
use Rattle.omega_lang_inclusion.specs.OneWord.{IsOneWordFor}
use Rattle.omega_lang_inclusion.specs.Written.{IsWordAutomaton, letters_of}
use Rattle.omega_lang_inclusion.specs.private.Choosing.{AcceptCommon}
use Rattle.omega_lang_inclusion.proofs.Running.{accepted_admits}

-- what holds of all items holds along them
module _ {A : Type 0} (P : A → Type 0) (first : A) (others : List A) (here : P first) (there : (x : A) → Contains others x → P x) where
  along_has : (i : ℕ) (rest : List A) → ((x : A) → Contains rest x → P x) → P (along first others rest i)
  along_has zero [] all = here
  along_has zero (x ∷ xs) all = all x (Contains-here x xs)
  along_has (suc i) [] all = along_has i others there
  along_has (suc i) (x ∷ xs) all = along_has i xs (λ y h. all y (Contains-there x y xs h))

-- the letter at an index is one of the word
letter_listed : (word : SymbolicWord) (i : ℕ) → Contains (letters_of word) (along word.first word.others word.stem i)
letter_listed word i =
    along_has (Contains (letters_of word)) word.first word.others
    (Contains-append_right word.stem (word.first ∷ word.others) word.first (Contains-here word.first word.others))
    (λ x h. Contains-append_right word.stem (word.first ∷ word.others) x (Contains-there word.first x word.others h))
    i word.stem
    (λ x h. Contains-append_left word.stem (word.first ∷ word.others) x h)

module _ (word : SymbolicWord) (a : Description) (fixed : IsOneWordFor word a) (one other : NamedWord) (first : Admits word one) (second : Admits word other) where
  -- the automaton sees the same of both
  seen_same : AgreeBelow (length a.propositions) (part_of a.propositions one) (part_of a.propositions other)
  seen_same i number below =
      fixed (along word.first word.others word.stem i) (slice_index_or a.propositions number []) (letter_listed word i)
      (contained_at a.propositions number [] below) (one i) (other i) (first i) (second i)

  pub accepted_too : IsAutomaton a → AcceptsNamed a one → AcceptsNamed a other
  accepted_too automaton accepted = accepted_same a automaton (part_of a.propositions one) (part_of a.propositions other) seen_same accepted

pub one_words_together : OneWordsAreAcceptedTogether
one_words_together word a one other automaton fixed first second accepted = accepted_too word a fixed one other first second automaton accepted

-- so all are accepted if one is
pub all_accepted : (word : SymbolicWord) (one a : Description) → IsWordAutomaton word one → IsAutomaton a → IsOneWordFor word a → AcceptCommon one a
    → AcceptsAdmitted word a
all_accepted word one a means automaton fixed (named, common) other admitted =
    accepted_too word a fixed named other (accepted_admits word one means named common.first) admitted automaton common.second

-- words that are all accepted are so whatever is seen of them
pub each_accepted : (word : SymbolicWord) (a : Description) → AcceptsAdmitted word a → AreAccepted word a
each_accepted word a accepts = record {
  one_word = λ fixed. accepts;
  periodic = λ named periodic admitted. accepts named admitted;
  all = λ omniscience. accepts;
}

-- what stands at an index comes again after a round of the cycle
module _ {A : Type 0} (first : A) (others : List A) where
  behind : (rest : List A) (i : ℕ) → along first others rest (length rest + i) ≡ along first others [] i
  behind [] i = let none : 0 + i ≡ i = omega arith in ap (λ (n : ℕ). along first others [] n) none
  behind (x ∷ xs) i =
      let next : suc (length xs) + i ≡ suc (length xs + i) = omega arith in
      ap (λ (n : ℕ). along first others (x ∷ xs) n) next ∙ behind xs i

  around : (i : ℕ) → along first others [] (suc (length others + i)) ≡ along first others [] i
  around i = behind others i

  comes_again : (stem : List A) (i : ℕ) → length stem ≤ i → along first others stem (i + suc (length others)) ≡ along first others stem i
  comes_again stem i past =
      let d : ℕ = i - length stem in
      let later : i + suc (length others) ≡ length stem + suc (length others + d) = omega (arith, past) in
      let here : i ≡ length stem + d = omega (arith, past) in
      ap (λ (n : ℕ). along first others stem n) later ∙ behind stem (suc (length others + d)) ∙ around d ∙ sym (behind stem d)
      ∙ ap (λ (n : ℕ). along first others stem n) (sym here)

-- an automaton whose propositions are fixed sees an ultimately periodic word
pub one_word_repeats : (word : SymbolicWord) (a : Description) → IsOneWordFor word a → (named : NamedWord) → Admits word named → IsPeriodicFor a named
one_word_repeats word a fixed named admitted = record {
  start = length word.stem;
  period = suc (length word.others);
  some = omega arith;
  repeats = λ i name past within.
      (let letter = along word.first word.others word.stem i in
      let again = comes_again word.first word.others word.stem i past in
      let later : IsTrue (holds word.names (named (i + suc (length word.others))) letter) =
      subst (λ (l : RawLabelTree). IsTrue (holds word.names (named (i + suc (length word.others))) l)) again (admitted (i + suc (length word.others))) in
      fixed letter name (letter_listed word i) within (named (i + suc (length word.others))) (named i) later (admitted i));
}
