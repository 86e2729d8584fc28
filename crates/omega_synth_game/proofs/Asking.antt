-- Letters that have their answers, one more; and the questions of a state, by the first letter of each class.
use Rattle.std.proofs.Common.{◌≡◌, ◌↔◌, ℕ, zero, suc, ◌+◌, ◌^◌, ◌<◌, inl, inr, All, Bool, List, [], ◌∷◌, ◌++◌, length, map, get_or, Contains, sym, ap, refl, ◌∙◌, subst, arith, length-append, Result, Ok, Err}
use Rattle.std.specs.Prelude.{IfOk, OnOk}
use Rattle.std.proofs.Math.Seq.{get_or-append_seam}
use Rattle.std.proofs.lemmas.Bool.{cases_eq, cases_order}
use Rattle.std.proofs.lemmas.List.{get_or-map, get_or_append_left, length-map}
use Rattle.omega_text.specs.declared.refusal.Refusal.{Refusal}
use Rattle.omega_hoa_automaton.specs.Automaton.{Description}
use Rattle.omega_lang_runs.specs.Laws.{EdgesAreTakenWhereTrue}
use Rattle.omega_synth_controllers.specs.Controllers.{Answers}
use Rattle.omega_synth_rounds.specs.Extracting.{HaveSameNumbers}
use Rattle.omega_synth_game.specs.Answering.{AreAnswersAmong, AreAnswersInOrder, HaveSameAnswers}
use Rattle.omega_synth_game.specs.Classes.{mentioned_inputs}
use Rattle.omega_synth_game.specs.private.Firsts.{AreFirstPlaces, list_at}
use Rattle.omega_synth_game.specs.Letters.{holds_in, letter_numbered, letter_of}
use Rattle.omega_synth_game.specs.Making.{AreQuestionsOf}
use Rattle.omega_synth_game.specs.private.Making.{AreAnswersByLetter}
use Rattle.omega_synth_game.specs.declared.questions.Questions.{Questions}
use Rattle.omega_synth_game.proofs.Agreeing.{choice_same}
use Rattle.omega_synth_game.proofs.Lettering.{numbered}
use Rattle.omega_synth_game.proofs.Those.{those_members, those_one}

pub by_letter_more : (a : Description) (controlled numbers inputs : List ℕ) (end : ℕ) (answers : List (List ℕ)) (next : List ℕ)
    → AreAnswersByLetter a controlled numbers inputs end answers → AreAnswersInOrder a controlled (holds_in (letter_numbered inputs end)) numbers next
    → AreAnswersByLetter a controlled numbers inputs (end + 1) (answers ++ next ∷ [])
by_letter_more a controlled numbers inputs end answers next are here = record {
  entries = length-append answers (next ∷ []) ∙ omega (arith, are.entries);
  each = λ letter below.
      elim (cases_eq letter end) [
        | inl same ↦
            let at_end : get_or (answers ++ next ∷ []) letter [] ≡ next =
            ap (λ n. get_or (answers ++ next ∷ []) n []) (same ∙ sym are.entries) ∙ get_or-append_seam answers next [] [] in
            subst (λ (list : List ℕ). AreAnswersInOrder a controlled (holds_in (letter_numbered inputs letter)) numbers list) (sym at_end)
            (subst (λ (n : ℕ). AreAnswersInOrder a controlled (holds_in (letter_numbered inputs n)) numbers next) (sym same) here)
        | inr apart ↦
            let shorter : letter < length answers = omega (arith, below, apart, are.entries) in
            subst (λ (list : List ℕ). AreAnswersInOrder a controlled (holds_in (letter_numbered inputs letter)) numbers list)
            (sym (get_or_append_left answers (next ∷ []) [] letter shorter)) (are.each letter (omega (arith, below, apart)))
      ];
}

module _ (law : EdgesAreTakenWhereTrue) (a : Description) (controlled numbers : List ℕ) (all : List (List ℕ))
    (are : AreAnswersByLetter a controlled numbers (mentioned_inputs a controlled numbers) (2 ^ length (mentioned_inputs a controlled numbers)) all)
    (firsts : List ℕ) (first : AreFirstPlaces all (length all) firsts) where
  abbrev inputs : List ℕ
  inputs = mentioned_inputs a controlled numbers

  abbrev given_by : ℕ → ℕ → Bool
  given_by letter = holds_in (letter_numbered inputs letter)

  abbrev letters : List (List ℕ)
  letters = map (letter_numbered inputs) firsts

  abbrev answers : List (List ℕ)
  answers = map (list_at all) firsts

  -- letters of which the same edges answer have the same list
  one_list : (one other : ℕ) → one < 2 ^ length inputs → other < 2 ^ length inputs → HaveSameAnswers a controlled numbers (given_by one) (given_by other)
      → list_at all one ≡ list_at all other
  one_list one other one_low other_low same =
      those_one (λ n. Answers a controlled n (given_by one)) (λ n. Answers a controlled n (given_by other)) numbers (list_at all one) (list_at all other)
      same (are.each one one_low) (are.each other other_low)

  members : (letter : ℕ) → letter < 2 ^ length inputs → AreAnswersAmong a controlled numbers (given_by letter) (list_at all letter)
  members letter low = those_members (λ n. Answers a controlled n (given_by letter)) numbers (list_at all letter) (are.each letter low)

  module _ (question : ℕ) (below : question < length firsts) where
    low : get_or firsts question 0 < 2 ^ length inputs
    low = omega (arith, first.below question below, are.entries)

    letter_is : letter_of letters question ≡ letter_numbered inputs (get_or firsts question 0)
    letter_is = get_or-map (letter_numbered inputs) firsts question 0 [] below

    answers_at : get_or answers question [] ≡ list_at all (get_or firsts question 0)
    answers_at = get_or-map (list_at all) firsts question 0 [] below

  -- two questions with the same answers
  same_list : (one other : ℕ) → one < length firsts → other < length firsts → HaveSameNumbers (get_or answers one []) (get_or answers other [])
      → list_at all (get_or firsts one 0) ≡ list_at all (get_or firsts other 0)
  same_list one other one_below other_below same =
      let here : AreAnswersAmong a controlled numbers (given_by (get_or firsts one 0)) (get_or answers one []) =
      subst (λ (list : List ℕ). AreAnswersAmong a controlled numbers (given_by (get_or firsts one 0)) list) (sym (answers_at one one_below))
      (members (get_or firsts one 0) (low one one_below)) in
      let there : AreAnswersAmong a controlled numbers (given_by (get_or firsts other 0)) (get_or answers other []) =
      subst (λ (list : List ℕ). AreAnswersAmong a controlled numbers (given_by (get_or firsts other 0)) list) (sym (answers_at other other_below))
      (members (get_or firsts other 0) (low other other_below)) in
      one_list (get_or firsts one 0) (get_or firsts other 0) (low one one_below) (low other other_below)
      (λ n has. (
        λ answers_it. ((there n).0 ((same n).0 ((here n).1 (has, answers_it)))).1,
        λ answers_it. ((here n).0 ((same n).1 ((there n).1 (has, answers_it)))).1,
      ))

  count_is : length answers ≡ length firsts
  count_is = length-map firsts (list_at all)

  letter_count : length letters ≡ length firsts
  letter_count = length-map firsts (letter_numbered inputs)

  every : (given : ℕ → Bool) → (question : ℕ) × (question < length letters) × AreAnswersAmong a controlled numbers given (get_or answers question [])
  every given =
      let letter = numbered given inputs in
      let found = first.found letter.0 (omega (arith, letter.1, are.entries)) in
      let list_is : get_or answers found.0 [] ≡ list_at all letter.0 = answers_at found.0 found.1 ∙ found.2 in
      let same : HaveSameAnswers a controlled numbers (given_by letter.0) given =
      subst (λ (list : List ℕ). HaveSameAnswers a controlled numbers (holds_in list) given) (sym letter.2) (choice_same law a controlled numbers given) in (
        found.0,
        omega (arith, found.1, letter_count),
        λ n.
            (let both : Contains (get_or answers found.0 []) n ↔ (Contains numbers n × Answers a controlled n (given_by letter.0)) =
            subst (λ (list : List ℕ). Contains list n ↔ (Contains numbers n × Answers a controlled n (given_by letter.0))) (sym list_is) (members letter.0 letter.1 n) in (
              λ has. (let it = both.0 has in (it.0, (same n it.0).0 it.1)),
              λ it. both.1 (it.0, (same n it.0).1 it.1),
            )),
      )

  pub questions_are : AreQuestionsOf a controlled numbers letters answers
  questions_are = record {
    answered = record {
      entries = count_is ∙ sym letter_count;
      each = λ question below.
          (let within : question < length firsts = omega (arith, below, letter_count) in
          subst (λ (list : List ℕ). AreAnswersInOrder a controlled (holds_in (letter_of letters question)) numbers list) (sym (answers_at question within))
          (subst (λ (letter : List ℕ). AreAnswersInOrder a controlled (holds_in letter) numbers (list_at all (get_or firsts question 0))) (sym (letter_is question within))
          (are.each (get_or firsts question 0) (low question within))));
    };
    every = every;
    apart = λ one other one_below other_below same.
        (let first_one : one < length firsts = omega (arith, one_below, count_is) in
        let first_other : other < length firsts = omega (arith, other_below, count_is) in
        let list = same_list one other first_one first_other same in
        elim (cases_order one other) [
          | inl is ↦ is
          | inr unequal ↦ elim unequal [
            | inl less ↦ absurd (first.new other (get_or firsts one 0) first_other (first.rising one other less first_other) list)
            | inr more ↦ absurd (first.new one (get_or firsts other 0) first_one (first.rising other one more first_one) (sym list))
          ]
        ]);
    least = λ question below.
        (let within : question < length firsts = omega (arith, below, letter_count) in
        record {
          number = get_or firsts question 0;
          is = letter_is question within;
          first = λ earlier less same.
              first.new question earlier within less
              (one_list earlier (get_or firsts question 0) (omega (arith, less, low question within)) (low question within)
              (subst (λ (letter : List ℕ). HaveSameAnswers a controlled numbers (given_by earlier) (holds_in letter)) (letter_is question within) same));
        });
  }

-- the same where each list is given as it is held
pub questions_made : EdgesAreTakenWhereTrue → (a : Description) (controlled numbers inputs : List ℕ) → inputs ≡ mentioned_inputs a controlled numbers
    → (lent : List ℕ) → lent ≡ inputs → (all shown : List (List ℕ)) → shown ≡ all → AreAnswersByLetter a controlled numbers lent (2 ^ length lent) all
    → (firsts places : List ℕ) → places ≡ firsts → AreFirstPlaces shown (length shown) firsts
    → (letters answers : List (List ℕ)) → letters ≡ map (letter_numbered lent) places → answers ≡ map (list_at shown) places
    → AreQuestionsOf a controlled numbers letters answers
questions_made law a controlled numbers own own_is lent lent_is all shown shown_is are firsts places places_are first letters answers letters_are lists_are =
    let lent_are : lent ≡ mentioned_inputs a controlled numbers = lent_is ∙ own_is in
    let by_letter : AreAnswersByLetter a controlled numbers (mentioned_inputs a controlled numbers) (2 ^ length (mentioned_inputs a controlled numbers)) all =
    subst (λ (list : List ℕ). AreAnswersByLetter a controlled numbers list (2 ^ length list) all) lent_are are in
    let first_in : AreFirstPlaces all (length all) firsts =
    subst (λ (lists : List (List ℕ)). AreFirstPlaces lists (length lists) firsts) shown_is first in
    let letters_is : letters ≡ map (letter_numbered (mentioned_inputs a controlled numbers)) firsts =
    letters_are ∙ ap (λ (list : List ℕ). map (letter_numbered list) places) lent_are ∙ ap (map (letter_numbered (mentioned_inputs a controlled numbers))) places_are in
    let answers_is : answers ≡ map (list_at all) firsts =
    lists_are ∙ ap (λ (lists : List (List ℕ)). map (list_at lists) places) shown_is ∙ ap (map (list_at all)) places_are in
    subst (λ (lists : List (List ℕ)). AreQuestionsOf a controlled numbers lists answers) (sym letters_is)
    (subst (λ (lists : List (List ℕ)). AreQuestionsOf a controlled numbers (map (letter_numbered (mentioned_inputs a controlled numbers)) firsts) lists) (sym answers_is)
    (questions_are law a controlled numbers all by_letter firsts first_in))

pub questions_held : EdgesAreTakenWhereTrue → (a : Description) (controlled numbers inputs : List ℕ) → inputs ≡ mentioned_inputs a controlled numbers
    → (lent : List ℕ) → lent ≡ inputs → (all shown : List (List ℕ)) → shown ≡ all → AreAnswersByLetter a controlled numbers lent (2 ^ length lent) all
    → (firsts places : List ℕ) → places ≡ firsts → AreFirstPlaces shown (length shown) firsts
    → (r : Result Questions Refusal) → IfOk r (λ questions. questions.letters.items ≡ map (letter_numbered lent) places)
    → IfOk r (λ questions. questions.answers.items ≡ map (list_at shown) places)
    → IfOk r (λ questions. AreQuestionsOf a controlled numbers questions.letters.items questions.answers.items)
questions_held law a controlled numbers own own_is lent lent_is all shown shown_is are firsts places places_are first (Ok questions) letters_are lists_are =
    questions_made law a controlled numbers own own_is lent lent_is all shown shown_is are firsts places places_are first
    questions.letters.items questions.answers.items letters_are lists_are
questions_held law a controlled numbers own own_is lent lent_is all shown shown_is are firsts places places_are first (Err refusal) letters_are lists_are = tt

-- first places are places of lists
pub all_below : (lists : List (List ℕ)) (firsts places : List ℕ) → places ≡ firsts → AreFirstPlaces lists (length lists) firsts
    → All (λ number. number < length lists) places
all_below lists firsts places is first k d below =
    let here : k < length firsts = omega (arith, below, ap length is) in
    let same : get_or places k d ≡ get_or firsts k 0 = ap (λ (list : List ℕ). get_or list k d) is ∙ any_default firsts k d 0 here in
    omega (arith, same, first.below k here)
  where
    any_default : (xs : List ℕ) (k d e : ℕ) → k < length xs → get_or xs k d ≡ get_or xs k e
    any_default [] k d e below = absurd (omega arith)
    any_default (x ∷ xs) zero d e below = refl
    any_default (x ∷ xs) (suc k) d e below = any_default xs k d e (omega arith)

-- what holds, holds where there is an answer
pub on_ok_of : {X : Type 0} (r : Result X Refusal) (P : Type 0) → P → OnOk r P
on_ok_of (Ok x) P p = p
on_ok_of (Err e) P p = tt
