-- what was found is exact, and so is a fault
use Rattle.std.proofs.Common.{List, subst}
use Rattle.std.specs.Prelude.{IfErr}
use Rattle.omega_game_values.specs.Game.{Node}
use Rattle.std.proofs.lemmas.Result.{IfOk-weaker}
use Rattle.omega_solve.specs.budget.Within.{EndsWithin, IsSolvingRefusal}
use Rattle.omega_synth_realize.proofs.Strategies.{reported_for}
use Rattle.omega_synth_realize.proofs.lifting.found_for.Goals as goal

pub returns-clause-refused : goal.returns-clause-refused
returns-clause-refused g c =
    subst (λ (nodes : List Node). IfErr c.solve.result (IsSolvingRefusal nodes c.args.player c.args.budget)) c.requires.given
    c.solve.ensures.refused

pub returns-clause-reported : goal.returns-clause-reported
returns-clause-reported g c =
    reported_for _ _ c.requires.given c.args.player _ _ c.args.budget c.solve.result _ _ c.solve.ensures.reported

pub returns-clause-ended : goal.returns-clause-ended
returns-clause-ended g c =
    IfOk-weaker c.solve.result _ _
    (λ found is. subst (λ (nodes : List Node). EndsWithin nodes c.args.player c.args.budget found.lifts) c.requires.given is.ended)
    c.solve.ensures.found
