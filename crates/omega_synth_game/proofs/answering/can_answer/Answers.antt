-- what is left can be true exactly if the label can
use Rattle.omega_synth_game.proofs.Restricting.{judged_left}
use Rattle.omega_synth_game.proofs.answering.can_answer.Goals as goal

pub returns-clause-judged : goal.returns-clause-judged
returns-clause-judged c =
    judged_left c.args.controlled.now c.args.letter.now c.is_satisfiable.result c.in_ok-left.left c.args.label.now
    c.in_ok-left.ensures.label c.is_satisfiable.ensures.ok
