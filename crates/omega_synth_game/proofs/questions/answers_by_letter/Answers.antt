-- one letter more
use Rattle.std.proofs.Common.{◌≡◌, ◌+◌, ◌<◌, ◌*◌, ◌/◌, ◌%◌, ◌^◌, ℕ, List, length, sym, ap, ◌∙◌, subst, arith}
use Rattle.omega_synth_game.specs.Answering.{AreAnswersInOrder}
use Rattle.omega_synth_game.specs.private.EdgeWords.{AreEdgeWords, set_in_lane}
use Rattle.omega_synth_game.specs.Letters.{holds_in, letter_numbered}
use Rattle.omega_synth_game.specs.private.Making.{AreAnswersByLetter}
use Rattle.omega_synth_game.proofs.Asking.{by_letter_more}
use Rattle.omega_synth_game.proofs.EdgesInLanes.{lane_answers}
use Rattle.omega_synth_game.proofs.questions.answers_by_letter.Goals as goal

pub loop-letter-preserved : goal.loop-letter-preserved
loop-letter-preserved c =
    let a = c.args.automaton.now in
    let controlled : List ℕ = c.args.controlled.now in
    let numbers : List ℕ = c.args.numbers.now in
    let inputs : List ℕ = c.args.inputs.now in
    let letter : ℕ = c.loop-letter.letter in
    let words : List ℕ = c.in_ok-words.words.items in
    let are : AreEdgeWords a controlled inputs (letter / 64) numbers (length numbers) words = c.in_ok-words.ensures.words in
    let number_is : (letter / 64) * 64 + letter % 64 ≡ letter = omega arith in
    let within : (letter / 64) * 64 + letter % 64 < 2 ^ length inputs = omega (arith, c.loop-letter-test.true) in
    let set : AreAnswersInOrder a controlled (holds_in (letter_numbered inputs ((letter / 64) * 64 + letter % 64))) numbers (set_in_lane (letter % 64) numbers words) =
    lane_answers a controlled inputs (letter / 64) numbers words (letter % 64) (omega arith) within are.entries are.each in
    let next_is : c.in_ok-next.next ≡ set_in_lane (letter % 64) numbers words =
    c.in_ok-next.ensures.set ∙ ap (λ (list : List ℕ). set_in_lane (letter % 64) numbers list) c.as_slice.ensures.value in
    let next : AreAnswersInOrder a controlled (holds_in (letter_numbered inputs letter)) numbers c.in_ok-next.next =
    subst (λ (list : List ℕ). AreAnswersInOrder a controlled (holds_in (letter_numbered inputs letter)) numbers list) (sym next_is)
    (subst (λ (n : ℕ). AreAnswersInOrder a controlled (holds_in (letter_numbered inputs n)) numbers (set_in_lane (letter % 64) numbers words)) number_is set) in (
      subst (λ (list : List (List ℕ)). AreAnswersByLetter a controlled numbers inputs (letter + 1) list) (sym c.in_ok-push.ensures.items)
          (by_letter_more a controlled numbers inputs letter c.loop-letter.answers.items c.in_ok-next.next c.loop-letter.invariant.0 next),
      λ later.
          (let same : letter / 64 ≡ (letter + 1) / 64 = omega (arith, later) in
          subst (λ (block : ℕ). AreEdgeWords a controlled inputs block numbers (length numbers) words) same are),
    )

pub returns-clause-answers : goal.returns-clause-answers
returns-clause-answers c =
    let all : c.loop-letter.letter ≡ 2 ^ length c.args.inputs.now = omega (arith, c.loop-letter-test.false) in
    subst (λ (end : ℕ). AreAnswersByLetter c.args.automaton.now c.args.controlled.now c.args.numbers.now c.args.inputs.now end c.loop-letter.answers.items) all c.loop-letter.invariant.0
