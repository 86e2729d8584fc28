-- the item says otherwise, or memory is wanting
use Rattle.omega_answers_synth.proofs.FormulaWinning.{own_item}
use Rattle.omega_answers_synth.proofs.formula_judged.check_own_outputs.Goals as goal

pub returns-in-Err-clause-refused : goal.returns-in-Err-clause-refused
returns-in-Err-clause-refused c =
    own_item c.args.outs.now c.args.automaton.now c.in-Err.refused c.in-Err.ensures.refused c.unread_for_size.result c.unread_for_size.ensures
