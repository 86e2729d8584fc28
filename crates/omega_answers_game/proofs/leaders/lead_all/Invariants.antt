-- `lead_all`: the groups before this one have their leaders.
use Rattle.omega_answers_game.specs.private.Groups.{AreLed}
use Rattle.omega_answers_game.proofs.leaders.lead_all.Given as goal

abbrev pub invariant-loop-index : goal.invariant-loop-index
invariant-loop-index l = AreLed l.graph l.groups l.index l.leaders.items
