-- The step at a place leads on by what it is, and from no other place there is a way on.
use Rattle.omega_hoa_satisfiable.proofs.Leading.{nowhere, nowhere_visited, stands-at}
use Rattle.omega_hoa_satisfiable.proofs.steps.step_at.Goals as goal

pub returns-in-Some-clause-leading : goal.returns-in-Some-clause-leading
returns-in-Some-clause-leading c =
    let known = c.in-Some.ensures.lookup in
    (stands-at c.args.steps.now c.args.place c.in-Some.step.now c.requires known.3.0 known.1).leading

pub returns-in-Some-clause-step : goal.returns-in-Some-clause-step
returns-in-Some-clause-step c =
    let known = c.in-Some.ensures.lookup in
    (stands-at c.args.steps.now c.args.place c.in-Some.step.now c.requires known.3.0 known.1).fits

pub returns-in-Some-clause-visited : goal.returns-in-Some-clause-visited
returns-in-Some-clause-visited c =
    let known = c.in-Some.ensures.lookup in
    (stands-at c.args.steps.now c.args.place c.in-Some.step.now c.requires known.3.0 known.1).visited

pub returns-in-None-clause-leading : goal.returns-in-None-clause-leading
returns-in-None-clause-leading c held = nowhere held c.args.steps.now c.args.place c.in-None.ensures.lookup.3

pub returns-in-None-clause-visited : goal.returns-in-None-clause-visited
returns-in-None-clause-visited c = nowhere_visited c.args.steps.now c.args.place c.in-None.ensures.lookup.3
