-- What choices say, as far as questions and states were gone through.
use Rattle.std.proofs.Common.{◌≡◌, ℕ, ◌+◌, ◌<◌, inl, inr, List, [], ◌∷◌, ◌++◌, length, Contains, Option, sym, ◌∙◌, subst, arith}
use Rattle.std.proofs.lemmas.Bool.{cases_eq}
use Rattle.std.proofs.lemmas.List.{get_or_append_left, get_or_push, length_push}
use Rattle.std.proofs.lemmas.List.Elements.{Contains-append_cases, Contains-append_left, Contains-append_right, Contains-push, Contains-push_cases}
use Rattle.omega_game_values.specs.Winning.{Chooses}
use Rattle.omega_synth_rounds.specs.Extracting.{AreChosenAnswers, AreChosenQuestions, HaveSameNumbers, IsAnswerAt, IsChosenAnswer, IsChosenQuestion, IsKeptAnswer}
use Rattle.omega_synth_rounds.specs.Rounds.{answers_of, asked_in}
use Rattle.omega_synth_rounds.specs.RoundsGame.{edge_place, question_place}
use Rattle.omega_synth_rounds.specs.declared.rounds.Rounds.{Rounds}
use Rattle.omega_synth_rounds.proofs.Walks.{one_choice}

-- the kept edges are those that are chosen at a question below
pub record AreChosenBelow (rounds : Rounds) (choices : List (Option ℕ)) (kept : List ℕ) (count : ℕ) : Type 0 where
  pub sound : (number : ℕ) → Contains kept number → IsChosenAnswer rounds choices number
  pub whole : (number question : ℕ) → IsAnswerAt rounds choices question number → question < count → Contains kept number

-- the questions that are chosen in states below, and their answers
pub record AreAskedBelow (rounds : Rounds) (choices : List (Option ℕ)) (kept asked : List ℕ) (count : ℕ) : Type 0 where
  pub entries : length asked ≡ count
  pub each : (state question : ℕ) → state < count → IsChosenQuestion rounds choices state question → asked_in asked state ≡ question
  pub sound : (number : ℕ) → Contains kept number → IsKeptAnswer rounds choices number
  pub whole : (number : ℕ) (answer : IsKeptAnswer rounds choices number) → answer.state < count → Contains kept number

module _ (rounds : Rounds) (choices : List (Option ℕ)) where
  pub chosen_more : (kept : List ℕ) (count number : ℕ) → AreChosenBelow rounds choices kept count → IsAnswerAt rounds choices count number
      → AreChosenBelow rounds choices (kept ++ number ∷ []) (count + 1)
  chosen_more kept count number are answer = record {
    sound = λ n has. elim (Contains-push_cases kept number n has) [
      | inl before ↦ are.sound n before
      | inr same ↦ subst (λ (m : ℕ). IsChosenAnswer rounds choices m) same (count, answer)
    ];
    whole = λ n question other below. elim (cases_eq question count) [
      | inl same ↦
          let moved : Chooses choices (question_place rounds count) (edge_place rounds n) =
          subst (λ (q : ℕ). Chooses choices (question_place rounds q) (edge_place rounds n)) same other.chosen in
          let one : number ≡ n = omega (arith, one_choice choices (question_place rounds count) (edge_place rounds number) (edge_place rounds n) answer.chosen moved) in
          subst (λ (m : ℕ). Contains (kept ++ number ∷ []) m) one (Contains-push kept number)
      | inr apart ↦ Contains-append_left kept (number ∷ []) n (are.whole n question other (omega arith))
    ];
  }

  pub chosen_none : (kept : List ℕ) (count : ℕ) → AreChosenBelow rounds choices kept count → ((number : ℕ) → ¬ IsAnswerAt rounds choices count number)
      → AreChosenBelow rounds choices kept (count + 1)
  chosen_none kept count are none = record {
    sound = are.sound;
    whole = λ n question other below. elim (cases_eq question count) [
      | inl same ↦ absurd (none n (subst (λ (q : ℕ). IsAnswerAt rounds choices q n) same other))
      | inr apart ↦ are.whole n question other (omega arith)
    ];
  }

  pub chosen_all : (kept : List ℕ) → AreChosenBelow rounds choices kept (length rounds.questions) → AreChosenAnswers rounds choices kept
  chosen_all kept are number = (are.sound number, λ chosen. are.whole number chosen.0 chosen.1 chosen.1.asked)

  -- a state has one question that is chosen
  one_question : (state question other : ℕ) → IsChosenQuestion rounds choices state question → IsChosenQuestion rounds choices state other → question ≡ other
  one_question state question other first second =
      omega (arith, one_choice choices state (question_place rounds question) (question_place rounds other) first.chosen second.chosen)

  asked_kept : (asked : List ℕ) (x state : ℕ) → state < length asked → asked_in (asked ++ x ∷ []) state ≡ asked_in asked state
  asked_kept asked x state below = get_or_append_left asked (x ∷ []) 0 state below

  pub asked_more : (kept asked : List ℕ) (count question : ℕ) → AreAskedBelow rounds choices kept asked count
      → IsChosenQuestion rounds choices count question
      → AreAskedBelow rounds choices (kept ++ answers_of rounds question) (asked ++ question ∷ []) (count + 1)
  asked_more kept asked count question are chosen = record {
    entries = omega (arith, length_push asked question, are.entries);
    each = λ state other below by. elim (cases_eq state count) [
      | inl same ↦
          let here : asked_in (asked ++ question ∷ []) state ≡ question = get_or_push asked question 0 state (omega (arith, same, are.entries)) in
          here ∙ one_question count question other chosen (subst (λ (s : ℕ). IsChosenQuestion rounds choices s other) same by)
      | inr apart ↦ asked_kept asked question state (omega (arith, are.entries)) ∙ are.each state other (omega arith) by
    ];
    sound = λ number has. elim (Contains-append_cases kept (answers_of rounds question) number has) [
      | inl before ↦ are.sound number before
      | inr new ↦ record { state = count; question = question; chosen = chosen; answers = new }
    ];
    whole = λ number answer below. elim (cases_eq answer.state count) [
      | inl same ↦
          let one : question ≡ answer.question =
          one_question count question answer.question chosen (subst (λ (s : ℕ). IsChosenQuestion rounds choices s answer.question) same answer.chosen) in
          Contains-append_right kept (answers_of rounds question) number
          (subst (λ (q : ℕ). Contains (answers_of rounds q) number) (sym one) answer.answers)
      | inr apart ↦ Contains-append_left kept (answers_of rounds question) number (are.whole number answer (omega arith))
    ];
  }

  pub asked_none : (kept asked : List ℕ) (count : ℕ) → AreAskedBelow rounds choices kept asked count
      → ((question : ℕ) → ¬ IsChosenQuestion rounds choices count question)
      → AreAskedBelow rounds choices kept (asked ++ 0 ∷ []) (count + 1)
  asked_none kept asked count are none = record {
    entries = omega (arith, length_push asked 0, are.entries);
    each = λ state other below by. elim (cases_eq state count) [
      | inl same ↦ absurd (none other (subst (λ (s : ℕ). IsChosenQuestion rounds choices s other) same by))
      | inr apart ↦ asked_kept asked 0 state (omega (arith, are.entries)) ∙ are.each state other (omega arith) by
    ];
    sound = are.sound;
    whole = λ number answer below. elim (cases_eq answer.state count) [
      | inl same ↦ absurd (none answer.question (subst (λ (s : ℕ). IsChosenQuestion rounds choices s answer.question) same answer.chosen))
      | inr apart ↦ are.whole number answer (omega arith)
    ];
  }

  pub asked_all : (kept asked : List ℕ) → AreAskedBelow rounds choices kept asked (length rounds.states) → AreChosenQuestions rounds choices kept asked
  asked_all kept asked are = record {
    entries = are.entries;
    each = λ state question chosen. are.each state question chosen.below chosen;
    answers = λ number. (are.sound number, λ answer. are.whole number answer answer.chosen.below);
  }

module _ (rounds : Rounds) (choices : List (Option ℕ)) (kept others : List ℕ) where
  -- other lists of the same numbers serve as well
  pub chosen_same : HaveSameNumbers kept others → AreChosenAnswers rounds choices others → AreChosenAnswers rounds choices kept
  chosen_same same are number = (λ has. (are number).0 ((same number).0 has), λ chosen. (same number).1 ((are number).1 chosen))

  pub asked_same : (asked : List ℕ) → HaveSameNumbers kept others → AreChosenQuestions rounds choices others asked
      → AreChosenQuestions rounds choices kept asked
  asked_same asked same are = record {
    entries = are.entries;
    each = are.each;
    answers = λ number. (
      (λ has. (are.answers number).0 ((same number).0 has)),
      (λ answer. (same number).1 ((are.answers number).1 answer)),
    );
  }
