-- edges that win the rounds are a controller, and questions that win them a counter-strategy
use Rattle.std.proofs.Common.{◌≡◌, ℕ, List, map, sym, ap, ◌∙◌, subst}
use Rattle.std.specs.List.{range_with_len}
use Rattle.omega_synth_rounds.specs.Rounds.{asked_in}
use Rattle.omega_synth_realize.specs.Solving.{IsOutcome, winner_of}
use Rattle.omega_synth_realize.specs.declared.outcome.Outcome.{Outcome}
use Rattle.omega_synth_game.specs.RoundsOf.{letter_of}
use Rattle.omega_synth_realize.proofs.Realized.{letters_are, letters_count}
use Rattle.omega_synth_realize.proofs.realizing.realizability_of.Goals as goal

pub returns-in-Answered-clause-realizability : goal.returns-in-Answered-clause-realizability
returns-in-Answered-clause-realizability c =
    let parted = c.args.parted.now in
    let won = subst (λ (outcome : Outcome). IsOutcome parted.rounds parted.start outcome) c.in-Answered.is c.requires.outcome in (
      c.answerings_are_controllers.ensures c.args.automaton.now c.args._controlled.now parted.rounds parted.letters parted.start
          c.in-Answered.kept c.requires.parted won.0,
      won.1,
      c.met_answers_are_met.ensures c.args.automaton.now c.args._controlled.now parted.rounds parted.letters parted.start
          c.in-Answered.kept c.requires.parted won.2,
    )

pub returns-in_ok-letters-in-Asked-clause-realizability :
    goal.returns-in_ok-letters-in-Asked-clause-realizability
returns-in_ok-letters-in-Asked-clause-realizability c =
    let a = c.args.automaton.now in
    let parted = c.args.parted.now in
    let won = subst (λ (outcome : Outcome). IsOutcome parted.rounds parted.start outcome) c.in-Asked.is c.requires.outcome in
    let letters : List (List ℕ) = parted.letters in
    let found : c.in_ok-letters-in-Asked.letters ≡ map (λ state. letter_of letters (asked_in c.in-Asked.asked state)) (range_with_len 0 a.states) =
    c.in_ok-letters-in-Asked.ensures.letters
    ∙ ap (λ (list : List (List ℕ)). map (λ state. letter_of list (asked_in c.as_slice-in-Asked.result.now state)) (range_with_len 0 c.state_count-count.result)) c.as_slice.ensures
    ∙ ap (λ (asked : List ℕ). map (λ state. letter_of letters (asked_in asked state)) (range_with_len 0 c.state_count-count.result)) c.as_slice-in-Asked.ensures
    ∙ ap (λ (n : ℕ). map (λ state. letter_of letters (asked_in c.in-Asked.asked state)) (range_with_len 0 n)) c.state_count-count.ensures in
    let won_by =
    c.askings_are_counter_strategies.ensures a c.args._controlled.now parted.rounds letters parted.start
    c.in-Asked.kept c.in-Asked.asked c.in_ok-letters-in-Asked.letters c.requires.parted won.0
    (letters_are a.states letters c.in-Asked.asked c.in_ok-letters-in-Asked.letters found) in (
      won_by.0,
      won.1,
      won_by.1,
      letters_count a.states letters c.in-Asked.asked c.in_ok-letters-in-Asked.letters found,
      c.met_answers_are_met.ensures a c.args._controlled.now parted.rounds letters parted.start c.in-Asked.kept c.requires.parted won.2,
    )

pub returns-in-Answered-clause-winner : goal.returns-in-Answered-clause-winner
returns-in-Answered-clause-winner c = sym (ap winner_of c.in-Answered.is)

pub returns-in_ok-letters-in-Asked-clause-winner : goal.returns-in_ok-letters-in-Asked-clause-winner
returns-in_ok-letters-in-Asked-clause-winner c = sym (ap winner_of c.in-Asked.is)
