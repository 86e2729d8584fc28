-- Predecessors are places.
use Rattle.std.proofs.Common.{arith}
use Rattle.omega_solve.proofs.lifting.Edges.{predecessor_inside}
use Rattle.omega_solve.proofs.turns.keeping.spread.Goals as goal

pub bounds-lost-place : goal.bounds-lost-place
bounds-lost-place g c =
    omega (
      arith,
      c.requires.entries,
      c.loop-predecessor.auto.lost,
      predecessor_inside c.args.game.now _ c.predecessors-predecessor-items.result.now c.loop-predecessor.predecessor-index
          c.predecessors-predecessor-items.ensures c.loop-predecessor-test.true,
    )

pub rests-requires-clause-inside : goal.rests-requires-clause-inside
rests-requires-clause-inside g c =
    predecessor_inside c.args.game.now _ c.predecessors-predecessor-items.result.now c.loop-predecessor.predecessor-index
    c.predecessors-predecessor-items.ensures c.loop-predecessor-test.true

pub push_if-count-requires : goal.push_if-count-requires
push_if-count-requires g c =
    omega (
      arith,
      c.requires.entries,
      c.loop-predecessor.auto.lost,
      predecessor_inside c.args.game.now _ c.predecessors-predecessor-items.result.now c.loop-predecessor.predecessor-index
          c.predecessors-predecessor-items.ensures c.loop-predecessor-test.true,
    )
