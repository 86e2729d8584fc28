-- What `meet`, `complement` and `empty` write of texts, one after the other.
use Rattle.std.proofs.Common.{◌≡◌, ◌⊎◌, ◌↔◌, ℕ, ◌≤◌, inl, inr, Bool, false, List, length, codes, sym, ap, subst, arith}
use Rattle.std.specs.Prelude.{slice_index_or}
use Rattle.omega_text.specs.Limits.{most_text}
use Rattle.omega_hoa_automaton.specs.Automaton.{Description, IsAutomaton}
use Rattle.omega_hoa_automaton.specs.Branching.{has_universal_branching}
use Rattle.omega_hoa_automaton.specs.Laws.{MeaningsAreAutomata}
use Rattle.omega_hoa.specs.Alone.{IsAutomatonText}
use Rattle.omega_lang_runs.specs.Laws.{EmptyAcceptsNoWord}
use Rattle.omega_lang_runs.specs.Verdict.{IsVerdict}
use Rattle.omega_lang_runs.specs.Words.{IsAccepted, LassosHaveAcceptedWords}
use Rattle.omega_lang_runs.specs.declared.verdict.Verdict.{Verdict}
use Rattle.omega_lang_runs.specs.declared.verdict.Verdict.TheVariants.{Empty, Lasso}
use Rattle.omega_answers_empty.specs.declared.lines.Lines.{Lines}
use Rattle.omega_answers_empty.specs.empty.Answer.{emptiness_text, lasso_lines}
use Rattle.omega_answers_automaton.specs.Meet.{IsMeetAnswer}
use Rattle.omega_laws.specs.Describes.{DescribedAreAlike}
use Rattle.omega_laws.specs.ComplementTexts.{ComplementsAreReadBack}
use Rattle.omega_lang_word_laws.specs.Complements.{ComplementsAreApart, ComplementsCover}
use Rattle.omega_laws.specs.Containment.{EmptyMeansContained, IsContainmentAnswer, IsEmptinessAnswer, LassosMeanNotContained, MetTextsAcceptBoth}
use Rattle.omega_text.specs.NamedWords.{NamedWord}
use Rattle.omega_lang_word_laws.specs.NamedWords.{AcceptsNamed, part_of}
use Rattle.omega_laws.specs.ProductTexts.{ProductsAreReadBack}
use Rattle.omega_laws.specs.TextWords.{TextAccepts}
use Rattle.omega_laws.proofs.saying.Described.{described}
use Rattle.omega_lang_word_laws.specs.Products.{ProductsMeet}
use Rattle.omega_lang_word_laws.proofs.naming.Named.{accepted_named}
use Rattle.omega_lang_word_laws.proofs.naming.Parted.{products_meet_named}
use Rattle.omega_lang_word_laws.proofs.naming.Same.{same_names}
use Rattle.omega_lang_word_laws.proofs.parting.Plain.{or_parts}

pub is_automaton : MeaningsAreAutomata → (text : List ℕ) (a : Description) → IsAutomatonText text a → IsAutomaton a
is_automaton automata text a read = automata read.value.raw a read.value.means

-- what a text accepts its automaton accepts
pub of_text : DescribedAreAlike → (text : List ℕ) (a : Description) (word : NamedWord) → IsAutomatonText text a → TextAccepts text word → AcceptsNamed a word
of_text alike text a word read accepts = (alike text accepts.automaton a accepts.described (described text a read)).1 word accepts.accepted

pub of_automaton : (text : List ℕ) (a : Description) (word : NamedWord) → IsAutomatonText text a → AcceptsNamed a word → TextAccepts text word
of_automaton text a word read accepted = record { automaton = a; described = described text a read; accepted = accepted }

pub met_accept_both : DescribedAreAlike → MeaningsAreAutomata → ProductsAreReadBack → ProductsMeet → MetTextsAcceptBoth
met_accept_both one automata back meet file input output m short =
    let plain = or_parts (has_universal_branching m.input) (has_universal_branching m.file) m.holds.given in
    let P : List ℕ → Type 0 = λ text. length text ≤ most_text in
    let Q : List ℕ → Type 0 = λ text. IsAutomatonText text m.holds.product in
    let read : IsAutomatonText output m.holds.product =
    subst Q (sym m.holds.written) (back m.input m.file m.holds.product (inl (input, m.input_read)) (inl (file, m.file_read)) m.holds.product_written m.holds.within (subst P m.holds.written short)) in
    let exactly : (word : NamedWord) → AcceptsNamed m.holds.product word ↔ (AcceptsNamed m.input word × AcceptsNamed m.file word) =
    products_meet_named meet m.input m.file m.holds.product (is_automaton automata input m.input m.input_read) (is_automaton automata file m.file m.file_read)
    plain.0 plain.1 m.holds.product_is in (
      (m.holds.product, read),
      λ word. (
        λ accepts. (
            let both = (exactly word).0 (of_text one output m.holds.product word read accepts) in
            (of_automaton file m.file word m.file_read both.1, of_automaton input m.input word m.input_read both.0)
            ),
        λ both. of_automaton output m.holds.product word read
            ((exactly word).1 (of_text one input m.input word m.input_read both.1, of_text one file m.file word m.file_read both.0)),
      ),
    )

-- a verdict was written on a text without universal branching
record IsJudged (text output : List ℕ) : Type 0 where
  pub automaton : Description
  pub read : IsAutomatonText text automaton
  pub plain : has_universal_branching automaton ≡ false
  pub lines : Lines
  pub verdict : Verdict
  pub right : IsVerdict automaton verdict
  pub written : output ≡ emptiness_text automaton lines verdict

judged : (text output : List ℕ) → IsEmptinessAnswer text output → IsJudged text output
judged text output (lines, inl found) = record {
  automaton = found.automaton;
  read = found.read;
  plain = found.holds.given;
  lines = lines;
  verdict = found.holds.verdict;
  right = found.holds.right;
  written = found.holds.written;
}
judged text output (lines, inr (budget, found)) = record {
  automaton = found.automaton;
  read = found.read;
  plain = found.holds.given.plain;
  lines = lines;
  verdict = found.holds.verdict;
  right = found.holds.right;
  written = found.holds.written;
}

-- no lasso is written as `empty`
no_lasso : (a : Description) (lines : Lines) (stem cycle : List ℕ) → codes "empty\n" ≡ lasso_lines a lines stem cycle → ⊥
no_lasso a lines stem cycle e = let first : 101 ≡ 115 = ap (λ (text : List ℕ). slice_index_or text 0 0) e in omega (arith, first)

is_empty : (a : Description) (lines : Lines) (verdict : Verdict) → IsVerdict a verdict → codes "empty\n" ≡ emptiness_text a lines verdict → IsVerdict a Empty
is_empty a lines Empty right written = right
is_empty a lines (Lasso stem cycle) right written = absurd (no_lasso a lines stem cycle written)

module _ (one : DescribedAreAlike) (automata : MeaningsAreAutomata) (back : ComplementsAreReadBack) (both : MetTextsAcceptBoth)
    (text other output : List ℕ) (is : IsContainmentAnswer text other output) where
  abbrev given : Description
  given = is.complemented.automaton

  abbrev complement : Description
  complement = is.complemented.holds.complement

  abbrev part : NamedWord → ℕ → ℕ → Bool
  part word = part_of given.propositions word

  given_is : IsAutomaton given
  given_is = is_automaton automata other given is.complemented.read

  complement_short : IsMeetAnswer text is.complement is.meeting ⊎ IsMeetAnswer is.complement text is.meeting → length is.complement ≤ most_text
  complement_short (inl m) = m.input_read.short
  complement_short (inr m) = m.file_read.short

  complement_read : IsAutomatonText is.complement complement
  complement_read =
      let P : List ℕ → Type 0 = λ t. length t ≤ most_text in
      let Q : List ℕ → Type 0 = λ t. IsAutomatonText t complement in
      subst Q (sym is.complemented.holds.written)
      (back given complement (inl (other, is.complemented.read)) is.complemented.holds.given is.complemented.holds.right (subst P is.complemented.holds.written (complement_short is.met)))

  abbrev said : IsJudged is.meeting output
  said = judged is.meeting output is.answered

  meeting_exactly : IsMeetAnswer text is.complement is.meeting ⊎ IsMeetAnswer is.complement text is.meeting
      → (word : NamedWord) → TextAccepts is.meeting word ↔ (TextAccepts text word × TextAccepts is.complement word)
  meeting_exactly (inl m) word = (both text is.complement is.meeting m said.read.short).1 word
  meeting_exactly (inr m) word =
      let turned = (both is.complement text is.meeting m said.read.short).1 word in
      (λ accepts. ((turned.0 accepts).1, (turned.0 accepts).0), λ pair. turned.1 (pair.1, pair.0))

  -- the complement's part of a word is that of its automaton
  complement_accepts : (word : NamedWord) → IsAccepted complement (part word) → TextAccepts is.complement word
  complement_accepts word accepted =
      let P : List (List ℕ) → Type 0 = λ names. IsAccepted complement (part_of names word) in
      of_automaton is.complement complement word complement_read (subst P (sym (same_names given complement is.complemented.holds.right)) accepted)

  accepts_complement : (word : NamedWord) → TextAccepts is.complement word → IsAccepted complement (part word)
  accepts_complement word accepts =
      let P : List (List ℕ) → Type 0 = λ names. IsAccepted complement (part_of names word) in
      subst P (same_names given complement is.complemented.holds.right) (of_text one is.complement complement word complement_read accepts)

  -- none is in both: so each word of the one is one of the other
  within : EmptyAcceptsNoWord → (word : NamedWord) → IsAccepted given (part word) ⊎ IsAccepted complement (part word) → IsVerdict said.automaton Empty
      → TextAccepts text word → TextAccepts other word
  within none word (inl accepted) empty accepts = of_automaton other given word is.complemented.read accepted
  within none word (inr accepted) empty accepts =
      absurd (none said.automaton (part_of said.automaton.propositions word) said.plain empty
      (of_text one is.meeting said.automaton word said.read ((meeting_exactly is.met word).1 (accepts, complement_accepts word accepted))))

  -- a lasso has a word that is in both
  outside : LassosHaveAcceptedWords → ComplementsAreApart → (verdict : Verdict) → IsVerdict said.automaton verdict
      → output ≡ emptiness_text said.automaton said.lines verdict → ¬ (output ≡ codes "empty\n") → (word : NamedWord) × TextAccepts text word × (¬ TextAccepts other word)
  outside lassos apart Empty right written not = absurd (not written)
  outside lassos apart (Lasso stem cycle) right written not =
      let found = lassos said.automaton stem cycle said.plain right in
      let word = accepted_named said.automaton found.0 (is_automaton automata is.meeting said.automaton said.read) in
      let parts = (meeting_exactly is.met word.0).0 (of_automaton is.meeting said.automaton word.0 said.read (word.1.0 found.1)) in (
        word.0,
        parts.0,
        λ accepts. apart given complement (part word.0) given_is is.complemented.holds.given.deterministic is.complemented.holds.right
            (of_text one other given word.0 is.complemented.read accepts) (accepts_complement word.0 parts.1),
      )

pub empty_contained : DescribedAreAlike → MeaningsAreAutomata → ComplementsAreReadBack → MetTextsAcceptBoth → ComplementsCover → EmptyAcceptsNoWord → EmptyMeansContained
empty_contained one automata back both cover none settled text other is word =
    let said = judged is.meeting (codes "empty\n") is.answered in
    within one automata back both text other (codes "empty\n") is none word
    (cover settled is.complemented.automaton is.complemented.holds.complement (part_of is.complemented.automaton.propositions word)
    (is_automaton automata other is.complemented.automaton is.complemented.read) is.complemented.holds.given.deterministic is.complemented.holds.right)
    (is_empty said.automaton said.lines said.verdict said.right said.written)

pub lassos_uncontained : DescribedAreAlike → MeaningsAreAutomata → ComplementsAreReadBack → MetTextsAcceptBoth → ComplementsAreApart → LassosHaveAcceptedWords → LassosMeanNotContained
lassos_uncontained one automata back both apart lassos text other output is =
    let said = judged is.meeting output is.answered in
    outside one automata back both text other output is lassos apart said.verdict said.right said.written
