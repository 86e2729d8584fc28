-- What `complement` writes of a text.
use Rattle.std.proofs.Common.{◌⊎◌, ◌≤◌, ℕ, inl, inr, List, length, sym, subst}
use Rattle.omega_text.specs.Limits.{most_text}
use Rattle.omega_hoa_automaton.specs.Automaton.{Description, IsAutomaton}
use Rattle.omega_hoa_automaton.specs.Laws.{MeaningsAreAutomata}
use Rattle.omega_hoa.specs.Alone.{IsAutomatonText}
use Rattle.omega_lang_word_laws.specs.Complements.{ComplementsPartByName}
use Rattle.omega_text.specs.NamedWords.{IsPeriodic, NamedWord}
use Rattle.omega_lang_word_laws.specs.NamedWords.{AcceptsNamed, IsPeriodicFor}
use Rattle.omega_laws.specs.Describes.{DescribedAreAlike}
use Rattle.omega_laws.specs.ComplementTexts.{ComplementTextsAcceptTheRest, ComplementsAreReadBack}
use Rattle.omega_laws.specs.TextWords.{TextAccepts}
use Rattle.omega_laws.proofs.containing.Texts.{is_automaton, of_automaton, of_text}

-- of an ultimately periodic word each automaton sees one
pub seen_periodic : (a : Description) (word : NamedWord) → IsPeriodic word → IsPeriodicFor a word
seen_periodic a word periodic = record {
  start = periodic.start;
  period = periodic.period;
  some = periodic.some;
  repeats = λ i name past within. periodic.repeats i name past tt;
}

pub complements_parted : DescribedAreAlike → MeaningsAreAutomata → ComplementsAreReadBack → ComplementsPartByName → ComplementTextsAcceptTheRest
complements_parted one automata back part text output answer short =
    let a = answer.automaton in
    let made = answer.holds in
    let complement = made.complement in
    let automaton : IsAutomaton a = is_automaton automata text a answer.read in
    let P : List ℕ → Type 0 = λ t. length t ≤ most_text in
    let Q : List ℕ → Type 0 = λ t. IsAutomatonText t complement in
    let read : IsAutomatonText output complement =
    subst Q (sym made.written) (back a complement (inl (text, answer.read)) made.given made.right (subst P made.written short)) in
    let of_one : (word : NamedWord) → AcceptsNamed a word ⊎ AcceptsNamed complement word → TextAccepts text word ⊎ TextAccepts output word =
    λ word accepted. elim accepted [
      | inl own ↦ inl (of_automaton text a word answer.read own)
      | inr other ↦ inr (of_automaton output complement word read other)
    ] in (
      (complement, read),
      λ word. (let parted = part a complement word automaton made.given.deterministic made.right in record {
        apart = λ own other. parted.apart (of_text one text a word answer.read own) (of_text one output complement word read other);
        periodic = λ periodic. of_one word (parted.periodic (seen_periodic a word periodic));
        all = λ omniscience. of_one word (parted.all omniscience);
      }),
    )
