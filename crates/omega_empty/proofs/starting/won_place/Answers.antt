-- the place is the only one that has the identifier
use Rattle.std.proofs.Common.{false}
use Rattle.omega_empty.proofs.walking.Starts.{found_lost, found_won, none_found}
use Rattle.omega_empty.proofs.starting.won_place.Goals as goal

pub returns-in-None : goal.returns-in-None
returns-in-None c = λ v at. none_found c.args.game.now c.args.won.now c.args.identifier v c.in-None.ensures at

pub returns-then-won-place : goal.returns-then-won-place
returns-then-won-place c = found_won c.args.game.now c.args.won.now c.args.identifier c.in-Some.place false c.requires c.in-Some.ensures c.if-won-place.true

pub returns-else-won-place : goal.returns-else-won-place
returns-else-won-place c =
    λ v at. found_lost c.args.game.now c.args.won.now c.args.identifier c.in-Some.place v false c.keeps_limits.ensures.game c.in-Some.ensures c.if-won-place.false at
