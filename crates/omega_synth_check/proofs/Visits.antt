-- What a visit to a state shows of its letters.
use Rattle.std.proofs.Common.{◌≡◌, ℕ, ◌<◌, Bool, false, List, [], length, get_or, Contains, Option, None, Some, refl, subst, arith}
use Rattle.std.proofs.lemmas.List.Elements.{Contains-get_or}
use Rattle.omega_hoa_automaton.specs.Automaton.{Description, IsAutomaton}
use Rattle.omega_hoa_automaton.specs.Branching.{has_universal_branching}
use Rattle.omega_synth_controllers.specs.Controllers.{Answers}
use Rattle.omega_synth_game.proofs.Those.{those_members}
use Rattle.omega_synth_game.specs.Making.{AreQuestionsOf, HaveFewInputs}
use Rattle.omega_synth_game.specs.RoundsOf.{holds_in, letter_of}
use Rattle.omega_synth_check.specs.Judging.{AreInputs, IsAnswered}
use Rattle.omega_synth_check.specs.private.Leaving.{AreLeavers}
use Rattle.omega_synth_check.specs.Lacks.{AnswersEach}
use Rattle.omega_synth_check.specs.private.Searching.{IsVisited, NoneAnswers, SomeAnswers}
use Rattle.omega_synth_check.proofs.Steps.{answer_steps, step_leaves}

module _ (a : Description) (controlled numbers : List ℕ) (letters answers : List (List ℕ)) (are : AreQuestionsOf a controlled numbers letters answers) where
  -- a question without an answer
  pub none_answers : (at : ℕ) → at < length answers → get_or answers at [] ≡ [] → NoneAnswers a controlled numbers (letter_of letters at)
  none_answers at below empty number has answer =
      let asked : at < length letters = omega (arith, below, are.answered.entries) in
      let listed : Contains [] number = subst (λ (list : List ℕ). Contains list number) empty
      ((those_members (λ n. Answers a controlled n (holds_in (letter_of letters at))) numbers (get_or answers at []) (are.answered.each at asked) number).1 (has, answer)) in
      absurd (omega (arith, listed.1))

  -- each question has an answer
  pub some_answers : ((at : ℕ) → at < length answers → 0 < length (get_or answers at [])) → (given : ℕ → Bool) → SomeAnswers a controlled numbers given
  some_answers each given =
      let question = are.every given in
      let answered : List ℕ = get_or answers question.0 [] in
      let there : 0 < length answered = each question.0 (omega (arith, question.1, are.answered.entries)) in
      let has : Contains answered (get_or answered 0 0) = Contains-get_or answered 0 0 there in
      let answer = (question.2 (get_or answered 0 0)).0 has in (get_or answered 0 0, answer.0, answer.1)

module _ (a : Description) (automaton : IsAutomaton a) (plain : has_universal_branching a ≡ false) (controlled : List ℕ) (state : ℕ) (numbers : List ℕ)
    (leavers : AreLeavers a state numbers) where
  -- a letter that none of its edges answers
  pub lacks : (letter : List ℕ) → NoneAnswers a controlled numbers letter → ¬ IsAnswered a controlled state (holds_in letter)
  lacks letter none answered =
      none answered.number ((leavers answered.number).1 (step_leaves a state answered.number answered.next answered.step)) answered.answers

  -- or an answer to each
  pub answers_each : ((given : ℕ → Bool) → SomeAnswers a controlled numbers given) → AnswersEach a controlled state
  answers_each each given =
      let some = each given in
      let step = answer_steps a automaton plain controlled state some.0 given ((leavers some.0).0 some.1) some.2 in
      record { number = some.0; next = step.0; step = step.1; answers = some.2 }

  pub visited : (found : Option (List ℕ)) → HaveFewInputs a controlled numbers
      → ((letter : List ℕ) → found ≡ Some letter → NoneAnswers a controlled numbers letter)
      → ((letter : List ℕ) → found ≡ Some letter → AreInputs a controlled letter)
      → (found ≡ None → (given : ℕ → Bool) → SomeAnswers a controlled numbers given) → IsVisited a controlled state found
  visited None few unanswered inputs answered = (answers_each (answered refl), record { numbers = numbers; leave = leavers; few = few })
  visited (Some letter) few unanswered inputs answered = (lacks letter (unanswered letter refl), inputs letter refl)
