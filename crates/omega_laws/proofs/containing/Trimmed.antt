-- What `trim` writes of a text, and `meet --trim` of two.
use Rattle.std.proofs.Common.{◌≡◌, ◌↔◌, ◌≤◌, ℕ, inl, false, List, length, sym, ap, subst}
use Rattle.omega_text.specs.Limits.{most_text}
use Rattle.omega_answers_automaton.specs.Trim.{IsTrimText}
use Rattle.omega_hoa_automaton.specs.Automaton.{Description, IsAutomaton}
use Rattle.omega_hoa_automaton.specs.Branching.{has_universal_branching}
use Rattle.omega_hoa_automaton.specs.Laws.{MeaningsAreAutomata}
use Rattle.omega_hoa.specs.Alone.{IsAutomatonText}
use Rattle.omega_hoa_round_trips.specs.Laws.{ReadAutomataAreWritable}
use Rattle.omega_lang_runs.specs.Words.{IsAccepted}
use Rattle.omega_lang_trim.specs.Trimmed.{IsTrimmed}
use Rattle.omega_laws.specs.Describes.{DescribedAreAlike}
use Rattle.omega_laws.specs.Trims.{TrimmedTextsAcceptTheSame, TrimsAcceptTheSame}
use Rattle.omega_laws.specs.WrittenTexts.{FitsTexts, WrittenAutomataAreReadBack}
use Rattle.omega_text.specs.NamedWords.{NamedWord}
use Rattle.omega_lang_word_laws.specs.NamedWords.{AcceptsNamed, part_of}
use Rattle.omega_lang_word_laws.specs.Products.{ProductsMeetByName}
use Rattle.omega_lang_word_laws.proofs.parting.Plain.{or_parts}
use Rattle.omega_laws.specs.Trimming.{TrimmedMeetingsAcceptBoth}
use Rattle.omega_laws.proofs.containing.Texts.{is_automaton, of_automaton, of_text}
use Rattle.omega_laws.proofs.reading_back.Fitting.{product_fits, trim_fits, writable_fits}

-- an automaton and the trimmed one have the same names, and accept the same words over them
pub trim_named : TrimsAcceptTheSame → (a trim : Description) → IsAutomaton a → IsAutomaton trim → has_universal_branching a ≡ false → IsTrimmed a trim
    → (word : NamedWord) → AcceptsNamed trim word ↔ AcceptsNamed a word
trim_named same a trim automaton trim_automaton plain is word =
    let names : trim.propositions ≡ a.propositions = ap (λ (d : Description). d.propositions) is.is in
    let P : List (List ℕ) → Type 0 = λ all. IsAccepted trim (part_of all word) ↔ AcceptsNamed a word in
    subst P (sym names) (same a trim (part_of a.propositions word) automaton trim_automaton plain is)

-- what is written of a trimmed automaton is read back, if the automaton can be written
pub trim_read : WrittenAutomataAreReadBack → (a : Description) (output : List ℕ) → IsAutomaton a → FitsTexts a → (made : IsTrimText a output) → length output ≤ most_text
    → IsAutomatonText output made.trim
trim_read back a output automaton fits made short =
    let P : List ℕ → Type 0 = λ text. length text ≤ most_text in
    let Q : List ℕ → Type 0 = λ text. IsAutomatonText text made.trim in
    subst Q (sym made.written) (back made.trim (trim_fits a made.trim automaton fits made.right) made.trim_written (subst P made.written short))

pub trimmed_accept_same : DescribedAreAlike → MeaningsAreAutomata → ReadAutomataAreWritable → WrittenAutomataAreReadBack → TrimsAcceptTheSame → TrimmedTextsAcceptTheSame
trimmed_accept_same one automata writable back same text output answer short =
    let a = answer.automaton in
    let made = answer.holds in
    let automaton : IsAutomaton a = is_automaton automata text a answer.read in
    let read : IsAutomatonText output made.trim =
    trim_read back a output automaton (writable_fits a (writable a (inl (text, answer.read)))) made short in
    let trim : (word : NamedWord) → AcceptsNamed made.trim word ↔ AcceptsNamed a word =
    trim_named same a made.trim automaton made.is_automaton made.given made.right in (
      (made.trim, read),
      λ word. (
        λ accepts. of_automaton text a word answer.read ((trim word).0 (of_text one output made.trim word read accepts)),
        λ accepts. of_automaton output made.trim word read ((trim word).1 (of_text one text a word answer.read accepts)),
      ),
    )

pub trimmed_accept_both : DescribedAreAlike → MeaningsAreAutomata → ReadAutomataAreWritable → WrittenAutomataAreReadBack → ProductsMeetByName → TrimsAcceptTheSame
    → TrimmedMeetingsAcceptBoth
trimmed_accept_both one automata writable back meet same file input output answer short =
    let product = answer.holds.product in
    let made = answer.holds.meeting in
    let left = answer.holds.trimmed in
    let plain = or_parts (has_universal_branching answer.input) (has_universal_branching answer.file) made.given in
    let product_is : IsAutomaton product = automata made.written.written product made.written.means in
    let fits : FitsTexts product =
    product_fits answer.input answer.file product (writable answer.input (inl (input, answer.input_read))) (writable answer.file (inl (file, answer.file_read))) made.is made.within in
    let read : IsAutomatonText output left.trim = trim_read back product output product_is fits left short in
    let both : (word : NamedWord) → AcceptsNamed product word ↔ (AcceptsNamed answer.input word × AcceptsNamed answer.file word) =
    λ word. meet answer.input answer.file product word (is_automaton automata input answer.input answer.input_read)
    (is_automaton automata file answer.file answer.file_read) plain.0 plain.1 made.is in
    let trim : (word : NamedWord) → AcceptsNamed left.trim word ↔ AcceptsNamed product word =
    trim_named same product left.trim product_is left.is_automaton left.given left.right in (
      (left.trim, read),
      λ word. (
        λ accepts. (
            let parts = (both word).0 ((trim word).0 (of_text one output left.trim word read accepts)) in
            (of_automaton file answer.file word answer.file_read parts.1, of_automaton input answer.input word answer.input_read parts.0)
            ),
        λ texts'. of_automaton output left.trim word read ((trim word).1 ((both word).1
            (of_text one input answer.input word answer.input_read texts'.1, of_text one file answer.file word answer.file_read texts'.0))),
      ),
    )
