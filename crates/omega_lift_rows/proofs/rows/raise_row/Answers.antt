-- The row is the one that is raised, or none is.
use Rattle.std.proofs.Common.{◌+◌, ◌-◌, length, get_or, set, arith}
use Rattle.std.proofs.lemmas.List.{length-set}
use Rattle.omega_lift_rows.proofs.Raising.{raised_in_place, raised_none}
use Rattle.omega_lift_rows.proofs.rows.raise_row.Goals as goal

pub returns-in-Some-clause-raised : goal.returns-in-Some-clause-raised
returns-in-Some-clause-raised c h =
    let row = c.args.row.now in
    let at = c.in-Some.at in
    let raised = set row at (get_or row at 0 + 1) in
    raised_in_place c.args.kept c.args.limits.now row c.fill.new.self at (length raised - (at + 1)) c.requires.within c.requires.rows c.in-Some.ensures
    (omega (arith, length-set row at (get_or row at 0 + 1))) (c.fill.ensures.after (λ y e. e))

pub returns-in-None-clause-full : goal.returns-in-None-clause-full
returns-in-None-clause-full c h = raised_none c.args.kept c.args.limits.now c.args.row.now c.in-None.ensures
