-- What `join` writes of two texts.
use Rattle.std.proofs.Common.{◌↔◌, ◌⊎◌, ◌≤◌, ℕ, inl, inr, List, length, sym, subst}
use Rattle.omega_text.specs.Limits.{most_text}
use Rattle.omega_hoa_automaton.specs.Automaton.{IsAutomaton}
use Rattle.omega_hoa_automaton.specs.Branching.{has_universal_branching}
use Rattle.omega_hoa_automaton.specs.Laws.{MeaningsAreAutomata}
use Rattle.omega_hoa.specs.Alone.{IsAutomatonText}
use Rattle.omega_hoa_round_trips.specs.Laws.{ReadAutomataAreWritable}
use Rattle.omega_lang_trim.specs.Written.{written}
use Rattle.omega_text.specs.NamedWords.{NamedWord}
use Rattle.omega_lang_word_laws.specs.NamedWords.{AcceptsNamed}
use Rattle.omega_lang_word_laws.proofs.parting.Plain.{or_parts}
use Rattle.omega_laws.specs.Describes.{DescribedAreAlike}
use Rattle.omega_laws.specs.Unions.{JoinedTextsAcceptEither, UnionsAcceptEitherByName}
use Rattle.omega_laws.specs.WrittenTexts.{FitsTexts, WrittenAutomataAreReadBack}
use Rattle.omega_laws.proofs.containing.Texts.{is_automaton, of_automaton, of_text}
use Rattle.omega_laws.proofs.reading_back.Fitting.{union_fits, writable_fits}

pub joined_accept_either : DescribedAreAlike → MeaningsAreAutomata → ReadAutomataAreWritable → WrittenAutomataAreReadBack → UnionsAcceptEitherByName → JoinedTextsAcceptEither
joined_accept_either one automata writable back either file input output answer short =
    let made = answer.holds in
    let union = made.union in
    let plain = or_parts (has_universal_branching answer.input) (has_universal_branching answer.file) made.given in
    let union_is : IsAutomaton union = automata (written union) union made.union_written in
    let fits : FitsTexts union =
    union_fits answer.input answer.file union (writable_fits answer.input (writable answer.input (inl (input, answer.input_read))))
    (writable_fits answer.file (writable answer.file (inl (file, answer.file_read)))) made.union_is made.within in
    let P : List ℕ → Type 0 = λ text. length text ≤ most_text in
    let Q : List ℕ → Type 0 = λ text. IsAutomatonText text union in
    let read : IsAutomatonText output union = subst Q (sym made.text) (back union fits made.union_written (subst P made.text short)) in
    let exactly : (word : NamedWord) → AcceptsNamed union word ↔ (AcceptsNamed answer.input word ⊎ AcceptsNamed answer.file word) =
    λ word. either answer.input answer.file union word (is_automaton automata input answer.input answer.input_read)
    (is_automaton automata file answer.file answer.file_read) union_is plain.0 plain.1 made.union_is in (
      (union, read),
      λ word. (
        λ accepts. elim ((exactly word).0 (of_text one output union word read accepts)) [
          | inl by_input ↦ inr (of_automaton input answer.input word answer.input_read by_input)
          | inr by_file ↦ inl (of_automaton file answer.file word answer.file_read by_file)
        ],
        λ accepts. of_automaton output union word read ((exactly word).1 (elim accepts [
          | inl by_file ↦ inr (of_text one file answer.file word answer.file_read by_file)
          | inr by_input ↦ inl (of_text one input answer.input word answer.input_read by_input)
        ])),
      ),
    )
