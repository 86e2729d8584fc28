-- the text is that of a controller or of a counter-strategy
use Rattle.omega_answers_synth.proofs.Winning.{controller_wins, counter_strategy_wins}
use Rattle.omega_answers_synth.proofs.winner.winner_text.Goals as goal

pub returns-in_ok-text-in-Realizable-clause-winner : goal.returns-in_ok-text-in-Realizable-clause-winner
returns-in_ok-text-in-Realizable-clause-winner c =
    controller_wins c.args.automaton.now c.args.controlled.now c.args.found.now _ _ _ c.requires.right c.in-Realizable.is c.as_slice.ensures
    c.in_ok-text-in-Realizable.ensures.text

pub returns-in_ok-text-in-Unrealizable-clause-winner : goal.returns-in_ok-text-in-Unrealizable-clause-winner
returns-in_ok-text-in-Unrealizable-clause-winner c =
    counter_strategy_wins c.args.automaton.now c.args.controlled.now c.args.found.now _ _ _ _ _ c.requires.right c.in-Unrealizable.is
    c.as_slice-kept.ensures c.as_slice-letters.ensures c.in_ok-text-in-Unrealizable.ensures.text
