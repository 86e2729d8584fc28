-- Formulas that are read and asked one after the other.
use Rattle.std.proofs.Common.{◌≡◌, ℕ, ◌+◌, ◌<◌, Option, None, Some, List, [], ◌∷◌, ◌++◌, take, drop, length, get_or, refl, sym, ap, subst, ◌∙◌, append_assoc, append-nil, arith}
use Rattle.std.specs.List.{AllZip, flat_map}
use Rattle.std.proofs.lemmas.List.{take_more, take-append-drop, length-take-le}
use Rattle.std.proofs.lemmas.Grind.{flat_map-append}
use Rattle.std.proofs.lemmas.Slice.Zip.{all_zipped_more}
use Rattle.omega_text.specs.Cases.{or_memory}
use Rattle.omega_text.specs.declared.refusal.Refusal.{Refusal}
use Rattle.omega_text.specs.declared.refusal.Refusal.TheVariants.{Automaton, Circuit, Game, Io, Memory, Task, Text}
use Rattle.omega_io.specs.declared.exit.Exit.{Exit}
use Rattle.omega_io.specs.declared.exit.Exit.TheVariants.{Done, No}
use Rattle.omega_ltl_formula.specs.Table.{NumberedFormula}
use Rattle.omega_answers.specs.TwoTexts.{OfBoth}
use Rattle.omega_answers_formula.specs.Formula.{IsFormulaOfText}
use Rattle.omega_answers_formula.specs.InTurn.{AreAnswered, AreRefused, IsAbout, IsAskingRefused, IsFirstRefused, IsFirstUnread, IsInputUnread, IsNumbered, IsReadingRefused, IsRefusedBy, exit_after, later_exit}
use Rattle.omega_answers_formula.specs.Refused.{refused_about}
use Rattle.omega_answers_formula.specs.declared.refused_formulas.About.{About}
use Rattle.omega_answers_formula.specs.declared.refused_formulas.About.TheVariants.{Formula, Input, Question}
use Rattle.omega_answers_formula.specs.declared.refused_formulas.RefusedFormulas.{RefusedFormulas}

-- ---- how the program ends

-- of two answers after others it does not matter which comes first
exits_swap : (before one other : Exit) → later_exit (later_exit before one) other ≡ later_exit (later_exit before other) one
exits_swap before Done Done = refl
exits_swap before Done No = refl
exits_swap before No Done = refl
exits_swap before No No = refl

exit_more : (answers : List (Exit × List ℕ)) (last : Exit × List ℕ) → exit_after (answers ++ last ∷ []) ≡ later_exit (exit_after answers) last.0
exit_more [] last = refl
exit_more (first ∷ answers) last =
    ap (λ (exit : Exit). later_exit exit first.0) (exit_more answers last) ∙ exits_swap (exit_after answers) last.0 first.0

-- ---- one more

module _ {A : Type 0} where
  -- an element stands behind those before it
  pub numbered_at : (all : List A) (place : ℕ) (one : A) → place < length all → one ≡ get_or all place one
      → IsNumbered all (place + 1) (take place all) one
  numbered_at all place one below is = record {
    rest = drop (place + 1) all;
    split =
        sym (take-append-drop (place + 1) all)
        ∙ ap (λ (front : List A). front ++ drop (place + 1) all) (take_more all place one below ∙ ap (λ (last : A). take place all ++ last ∷ []) (sym is))
        ∙ append_assoc (take place all) (one ∷ []) (drop (place + 1) all);
    counted = omega (arith, length-take-le place all (omega (arith, below)));
  }

  module _ (Answers : A → Exit → List ℕ → Type 0) where
    -- one more is answered
    pub answered_more : (asked : List A) (before : Exit) (text : List ℕ) (one : A) (own : Exit) (piece : List ℕ) → AreAnswered Answers asked before text
        → Answers one own piece → AreAnswered Answers (asked ++ one ∷ []) (later_exit before own) (text ++ piece)
    answered_more asked before text one own piece answered answers = record {
      answers = answered.answers ++ (own, piece) ∷ [];
      each = all_zipped_more (λ one answer. Answers one answer.0 answer.1) asked answered.answers one (own, piece) answered.each answers;
      texts =
          ap (λ (front : List ℕ). front ++ piece) answered.texts
          ∙ ap (λ (last : List ℕ). flat_map (λ (answer : Exit × List ℕ). answer.1) answered.answers ++ last) (sym (append-nil piece))
          ∙ sym (flat_map-append (λ (answer : Exit × List ℕ). answer.1) answered.answers ((own, piece) ∷ []));
      ends = ap (λ (exit : Exit). later_exit exit own) answered.ends ∙ sym (exit_more answered.answers (own, piece));
    }

    -- the same of the elements of a list, up to this one
    pub answered_next : (all : List A) (place : ℕ) (one : A) (before : Exit) (text after : List ℕ) (own ends : Exit) → place < length all
        → one ≡ get_or all place one → AreAnswered Answers (take place all) before text
        → ((piece : List ℕ) × (after ≡ text ++ piece) × Answers one own piece) → ends ≡ later_exit before own
        → AreAnswered Answers (take (place + 1) all) ends after
    answered_next all place one before text after own ends below is answered (piece, appended, answers) ended =
        subst (λ (asked : List A). AreAnswered Answers asked ends after)
        (ap (λ (last : A). take place all ++ last ∷ []) is ∙ sym (take_more all place one below))
        (subst (λ (exit : Exit). AreAnswered Answers (take place all ++ one ∷ []) exit after) (sym ended)
        (subst (AreAnswered Answers (take place all ++ one ∷ []) (later_exit before own)) (sym appended)
        (answered_more (take place all) before text one own piece answered answers)))

    -- a lone one has the answer that is there
    pub answered_alone : (one : A) (exit : Exit) (text : List ℕ) → AreAnswered Answers (one ∷ []) exit text → Answers one exit text
    answered_alone one exit text answered = go answered.answers answered.each answered.texts answered.ends
      where
        ends : (own : Exit) → later_exit Done own ≡ own
        ends Done = refl
        ends No = refl

        go : (answers : List (Exit × List ℕ)) → AllZip (λ one answer. Answers one answer.0 answer.1) (one ∷ []) answers
            → text ≡ flat_map (λ (answer : Exit × List ℕ). answer.1) answers → exit ≡ exit_after answers → Answers one exit text
        go [] each texts ended = absurd each
        go (answer ∷ []) each texts ended =
            subst (λ (exit : Exit). Answers one exit text) (sym (ended ∙ ends answer.0))
            (subst (Answers one answer.0) (sym (texts ∙ append-nil answer.1)) each.0)
        go (answer ∷ other ∷ answers) each texts ended = absurd each.1

-- what is made of each text and answered to it is answered to the text
module _ {A B : Type 0} (Reads : A → B → Type 0) (Answers : B → Exit → List ℕ → Type 0) (Both : A → Exit → List ℕ → Type 0)
    (both : (text : A) (one : B) (exit : Exit) (output : List ℕ) → Reads text one → Answers one exit output → Both text exit output) where
  zipped : (texts : List A) (read : List B) (answers : List (Exit × List ℕ)) → AllZip Reads texts read
      → AllZip (λ one answer. Answers one answer.0 answer.1) read answers → AllZip (λ text answer. Both text answer.0 answer.1) texts answers
  zipped [] [] [] reads each = tt
  zipped [] [] (answer ∷ answers) reads each = absurd each
  zipped [] (one ∷ read) answers reads each = absurd reads
  zipped (text ∷ texts) [] answers reads each = absurd reads
  zipped (text ∷ texts) (one ∷ read) [] reads each = absurd each
  zipped (text ∷ texts) (one ∷ read) (answer ∷ answers) reads each =
      (both text one answer.0 answer.1 reads.0 each.0, zipped texts read answers reads.1 each.1)

  pub answered_texts : (texts : List A) (read : List B) (exit : Exit) (output : List ℕ) → AllZip Reads texts read → AreAnswered Answers read exit output
      → AreAnswered Both texts exit output
  answered_texts texts read exit output reads answered =
      record { answers = answered.answers; each = zipped texts read answered.answers reads answered.each; texts = answered.texts; ends = answered.ends }

-- ---- refusals

module _ (text question : ℕ → Refusal → Type 0) (input : Refusal → Type 0) where
  -- what holds of the refusals of this
  abbrev pub of_about : About → Refusal → Type 0
  of_about (Formula number) refusal = text number refusal
  of_about Input refusal = input refusal
  of_about (Question number) refusal = question number refusal

  named : (about : About) (refusal : Refusal) → of_about about refusal → IsRefusedBy text question input (record { refusal = refusal; about = Some about })
  named (Formula number) refusal is = is
  named Input refusal is = is
  named (Question number) refusal is = is

  -- this is refused, or memory is
  pub refused_of : (about : About) (own : Refusal → Type 0) → ((refusal : Refusal) → own refusal → of_about about refusal)
      → (refusal : Refusal) → or_memory own refusal → (refused : RefusedFormulas) → refused ≡ refused_about about refusal
      → IsRefusedBy text question input refused
  refused_of about own then refusal is refused made = subst (IsRefusedBy text question input) (sym made) (go refusal is)
    where
      go : (refusal : Refusal) → or_memory own refusal → IsRefusedBy text question input (refused_about about refusal)
      go (Text fault) is = named about (Text fault) (then (Text fault) is)
      go (Game fault) is = named about (Game fault) (then (Game fault) is)
      go (Automaton fault) is = named about (Automaton fault) (then (Automaton fault) is)
      go (Circuit fault) is = named about (Circuit fault) (then (Circuit fault) is)
      go (Task fault) is = named about (Task fault) (then (Task fault) is)
      go Memory is = refl
      go Io is = named about Io (then Io is)

-- one of the texts is refused, whatever else could be
pub refused_by_reading : (texts : List (List ℕ)) (question : ℕ → Refusal → Type 0) (input : Refusal → Type 0) (refused : RefusedFormulas)
    → IsReadingRefused texts refused → IsRefusedBy (IsFirstUnread texts) question input refused
refused_by_reading texts question input refused is = go refused.about refused.refusal is
  where
    go : (about : Option About) (refusal : Refusal) → IsAbout (IsFirstUnread texts) (λ number refusal. ⊥) (λ refusal. ⊥) about refusal
        → IsRefusedBy (IsFirstUnread texts) question input (record { refusal = refusal; about = about })
    go None refusal is = is
    go (Some (Formula number)) refusal is = is
    go (Some Input) refusal is = absurd is
    go (Some (Question number)) refusal is = absurd is

module _ {B : Type 0} (IsOfInput : B → Type 0) (RefusesInput : Refusal → Type 0) (Answers : B → NumberedFormula → Exit → List ℕ → Type 0)
    (Refuses : B → NumberedFormula → Refusal → Type 0) (texts : List (List ℕ)) where
  -- one of the texts is refused
  pub refused_reading : (refused : RefusedFormulas) → IsReadingRefused texts refused → AreRefused IsOfInput RefusesInput Answers Refuses texts refused
  refused_reading refused is =
      refused_by_reading texts
      (λ number refusal. OfBoth (AllZip IsFormulaOfText texts) IsOfInput
      (λ formulas input. IsFirstRefused (Answers input) (Refuses input) formulas number refusal))
      (IsInputUnread RefusesInput texts) refused is

  -- or a formula is, of those that the texts say
  pub refused_asking : (formulas : List NumberedFormula) (input : B) → AllZip IsFormulaOfText texts formulas → IsOfInput input
      → (refused : RefusedFormulas) → IsAskingRefused (Answers input) (Refuses input) formulas refused
      → AreRefused IsOfInput RefusesInput Answers Refuses texts refused
  refused_asking formulas input read of_input refused is = go refused.about refused.refusal is
    where
      go : (about : Option About) (refusal : Refusal)
          → IsAbout (λ number refusal. ⊥) (IsFirstRefused (Answers input) (Refuses input) formulas) (λ refusal. ⊥) about refusal
          → AreRefused IsOfInput RefusesInput Answers Refuses texts (record { refusal = refusal; about = about })
      go None refusal is = is
      go (Some (Formula number)) refusal is = absurd is
      go (Some Input) refusal is = absurd is
      go (Some (Question number)) refusal is = record { file = formulas; file_read = read; input = input; input_read = of_input; holds = is }

-- a formula that is refused for one reason is refused for another
pub asking_other : (Answers : NumberedFormula → Exit → List ℕ → Type 0) (One Other : NumberedFormula → Refusal → Type 0)
    → ((formula : NumberedFormula) (refusal : Refusal) → One formula refusal → Other formula refusal) → (formulas : List NumberedFormula)
    → (refused : RefusedFormulas) → IsAskingRefused Answers One formulas refused → IsAskingRefused Answers Other formulas refused
asking_other Answers One Other other formulas refused is = go refused.about refused.refusal is
  where
    go : (about : Option About) (refusal : Refusal) → IsAbout (λ number refusal. ⊥) (IsFirstRefused Answers One formulas) (λ refusal. ⊥) about refusal
        → IsAskingRefused Answers Other formulas (record { refusal = refusal; about = about })
    go None refusal is = is
    go (Some (Formula number)) refusal is = absurd is
    go (Some Input) refusal is = absurd is
    go (Some (Question number)) refusal is = record {
      before = is.before;
      formula = is.formula;
      numbered = is.numbered;
      exit = is.exit;
      output = is.output;
      answered = is.answered;
      refused = other is.formula refusal is.refused;
    }

-- ---- reading

-- one more text is read
pub read_next : (texts : List (List ℕ)) (place : ℕ) (text : List ℕ) (before after : List NumberedFormula) → place < length texts
    → text ≡ get_or texts place text → AllZip IsFormulaOfText (take place texts) before
    → ((formula : NumberedFormula) × (after ≡ before ++ formula ∷ []) × IsFormulaOfText text formula)
    → AllZip IsFormulaOfText (take (place + 1) texts) after
read_next texts place text before after below is read (formula, appended, reads) =
    subst (λ (front : List (List ℕ)). AllZip IsFormulaOfText front after)
    (ap (λ (last : List ℕ). take place texts ++ last ∷ []) is ∙ sym (take_more texts place text below))
    (subst (AllZip IsFormulaOfText (take place texts ++ text ∷ [])) (sym appended)
    (all_zipped_more IsFormulaOfText (take place texts) before text formula read reads))

-- ---- one formula

-- the element of a list of one
pub numbered_alone : {A : Type 0} (only : A) (number : ℕ) (before : List A) (one : A) → IsNumbered (only ∷ []) number before one → one ≡ only
numbered_alone {A} only number [] one numbered =
    let same : ◌≡◌ {A = List A} (only ∷ []) (one ∷ numbered.rest) = numbered.split in cc
numbered_alone {A} only number (first ∷ []) one numbered =
    let longer : ◌≡◌ {A = List A} (only ∷ []) (first ∷ one ∷ numbered.rest) = numbered.split in absurd (cc)
numbered_alone {A} only number (first ∷ second ∷ before) one numbered =
    let longer : ◌≡◌ {A = List A} (only ∷ []) (first ∷ second ∷ (before ++ one ∷ numbered.rest)) = numbered.split in absurd (cc)
