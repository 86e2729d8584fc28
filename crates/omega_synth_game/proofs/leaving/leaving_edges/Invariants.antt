use Rattle.omega_synth_game.specs.private.Making.{AreLeaving}
use Rattle.omega_synth_game.proofs.leaving.leaving_edges.Given as goal

abbrev pub invariant-loop-number : goal.invariant-loop-number
invariant-loop-number l = AreLeaving l.edges l.fn.count l.number l.lists.items
