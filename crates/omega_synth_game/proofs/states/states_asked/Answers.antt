-- the questions of one state more
use Rattle.std.proofs.Common.{◌≡◌, ◌+◌, ◌<◌, ◌++◌, [], ◌∷◌, ℕ, List, length, get_or, sym, ap, refl, subst, arith, length-append}
use Rattle.std.specs.List.Sorted.{IsStrictlyIncreasing}
use Rattle.omega_synth_rounds.specs.declared.rounds.QuestionRange.{QuestionRange}
use Rattle.omega_hoa_edges.proofs.Refusals.{passed_on}
use Rattle.omega_synth_game.specs.Making.{AllLeave, AreQuestionsOf}
use Rattle.omega_synth_game.proofs.Gathering.{listed, many, range_with, state_unmade, states_at, turn_more}
use Rattle.omega_synth_game.proofs.states.states_asked.Goals as goal

pub asked_in-requires-clause-leave : goal.asked_in-requires-clause-leave
asked_in-requires-clause-leave c =
    let leaving : List (List ℕ) = c.args.leaving.now in
    let index : ℕ = c.loop-numbers.numbers-index in
    let below : index < length leaving = omega (arith, c.loop-numbers-test.true) in (
      index,
      subst (λ (list : List ℕ). AllLeave c.args.automaton.now index list)
          (sym (listed leaving index c.numbers-item.result c.as_slice.result.now below c.numbers-item.is c.as_slice.ensures)) (λ number has. ((c.requires.leaving.1 index below).each number).0 has),
    )

pub returns-then-len-gt-MOST_NODES-clause-refused : goal.returns-then-len-gt-MOST_NODES-clause-refused
returns-then-len-gt-MOST_NODES-clause-refused c =
    let a = c.args.automaton.now in
    let controlled : List ℕ = c.args.controlled.now in
    let leaving : List (List ℕ) = c.args.leaving.now in
    let index : ℕ = c.loop-numbers.numbers-index in
    let below : index < length leaving = omega (arith, c.loop-numbers-test.true) in
    let numbers : List ℕ = c.as_slice.result.now in
    let here : numbers ≡ get_or leaving index [] = listed leaving index c.numbers-item.result numbers below c.numbers-item.is c.as_slice.ensures in
    let ls : List (List ℕ) = c.in_ok-questions.questions.letters.items in
    let fresh : List (List ℕ) = c.in_ok-questions.questions.answers.items in
    let ranges : List QuestionRange = c.loop-numbers.asked.ranges.items in
    let answers : List (List ℕ) = c.loop-numbers.asked.answers.items in
    let next : QuestionRange = range_with (length answers) (length fresh) in (
      refl,
      many a controlled leaving (index + 1) (ranges ++ next ∷ []) (answers ++ fresh) c.requires.leaving (omega (arith, below))
          (turn_more a controlled leaving index ranges answers numbers ls fresh c.loop-numbers.invariant.1 here c.in_ok-questions.ensures.questions
          c.in_ok-questions.ensures.few (ranges ++ next ∷ []) refl (answers ++ fresh) refl)
          (omega (arith, length-append answers fresh, c.len.ensures, c.len-in-loop-numbers.ensures, c.if-len-gt-MOST_NODES.true)),
    )

pub loop-numbers-preserved : goal.loop-numbers-preserved
loop-numbers-preserved c =
    let a = c.args.automaton.now in
    let controlled : List ℕ = c.args.controlled.now in
    let leaving : List (List ℕ) = c.args.leaving.now in
    let index : ℕ = c.loop-numbers.numbers-index in
    let below : index < length leaving = omega (arith, c.loop-numbers-test.true) in
    let numbers : List ℕ = c.as_slice.result.now in
    let here : numbers ≡ get_or leaving index [] = listed leaving index c.numbers-item.result numbers below c.numbers-item.is c.as_slice.ensures in
    let ls : List (List ℕ) = c.in_ok-questions.questions.letters.items in
    let fresh : List (List ℕ) = c.in_ok-questions.questions.answers.items in
    let of : AreQuestionsOf a controlled numbers ls fresh = c.in_ok-questions.ensures.questions in
    let rises : IsStrictlyIncreasing numbers =
    subst IsStrictlyIncreasing (sym here) (c.requires.leaving.1 index below).rising in
    let ranges : List QuestionRange = c.loop-numbers.asked.ranges.items in
    let answers : List (List ℕ) = c.loop-numbers.asked.answers.items in (
      states_at a controlled leaving index ranges c.loop-numbers.asked.letters.items answers c.loop-numbers.invariant.0
          numbers here rises ls fresh of c.add.new.asked.ranges.items c.add.new.asked.letters.items c.add.new.asked.answers.items
          c.in_ok-add.ensures.ranges c.in_ok-add.ensures.letters c.in_ok-add.ensures.answers,
      turn_more a controlled leaving index ranges answers numbers ls fresh c.loop-numbers.invariant.1 here of c.in_ok-questions.ensures.few
          c.add.new.asked.ranges.items c.in_ok-add.ensures.ranges c.add.new.asked.answers.items c.in_ok-add.ensures.answers,
      omega (arith, ap length c.in_ok-add.ensures.answers, length-append answers fresh, c.len.ensures, c.len-in-loop-numbers.ensures, c.if-len-gt-MOST_NODES.false),
    )

pub returns-in_err-questions-clause-refused : goal.returns-in_err-questions-clause-refused
returns-in_err-questions-clause-refused c =
    let leaving : List (List ℕ) = c.args.leaving.now in
    let index : ℕ = c.loop-numbers.numbers-index in
    let below : index < length leaving = omega (arith, c.loop-numbers-test.true) in
    passed_on c.from_residual.result _ _ c.from_residual.ensures.1
    (state_unmade c.args.automaton.now c.args.controlled.now leaving index c.loop-numbers.asked.ranges.items c.loop-numbers.asked.answers.items
    c.as_slice.result.now _ c.requires.leaving below c.loop-numbers.invariant.1 c.loop-numbers.invariant.2
    (listed leaving index c.numbers-item.result c.as_slice.result.now below c.numbers-item.is c.as_slice.ensures) c.in_err-questions.ensures.refused)
