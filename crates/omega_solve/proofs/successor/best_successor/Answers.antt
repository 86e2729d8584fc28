-- The first best of the successors looked at goes on to the next.
use Rattle.std.proofs.Common.{◌≡◌, arith, ap, subst, sym, ◌∙◌, ℕ, List, slice_index, Some}
use Rattle.std.specs.List.{slice_get}
use Rattle.std.proofs.lemmas.Option.{slice_get-get_or}
use Rattle.omega_game_values.specs.Game.{priority_at}
use Rattle.std.specs.Ordering.{ordering_index}
use Rattle.std.proofs.lemmas.Bool.{eqb-true, eqb-false}
use Rattle.omega_solve.specs.private.solving.Successor.{order_from}
use Rattle.omega_solve.proofs.lifting.Due.{order_total, priority_in}
use Rattle.omega_solve.proofs.lifting.Order.{same_from_index}
use Rattle.omega_solve.proofs.lifting.Edges.{edge_at, edge_index}
use Rattle.omega_solve.proofs.lifting.FirstBest.{first_best_more, first_best_same}
use Rattle.omega_solve.proofs.successor.best_successor.Goals as goal
use Rattle.omega_solve.proofs.successor.best_successor.Goals.{then-eq, else-eq}

pub compare_for-requires-clause-at : goal.compare_for-requires-clause-at
compare_for-requires-clause-at g c = omega (arith, c.requires.inside, c.requires.entries)

pub compare_for-requires-clause-first : goal.compare_for-requires-clause-first
compare_for-requires-clause-first g c =
    let edge = edge_index c.args.game.now c.args.place c.successors-successors.result.now c.loop-index.index
    c.successors-successors.ensures c.loop-index-test.true in
    omega (arith, c.requires.game.closed c.args.place _ edge, c.requires.entries)

pub compare_for-requires-clause-second : goal.compare_for-requires-clause-second
compare_for-requires-clause-second g c =
    let listed = c.loop-index.invariant.listed in
    let edge = edge_at c.args.game.now c.args.place c.loop-index.invariant.index c.loop-index.best
    (subst (λ (xs : List ℕ). slice_get xs c.loop-index.invariant.index ≡ Some c.loop-index.best) c.successors-successors.ensures listed) in
    omega (arith, c.requires.game.closed c.args.place _ edge, c.requires.entries)

pub loop-index-preserved : goal.loop-index-preserved
loop-index-preserved g c =
    let content = g.T.MeasureTable.content c.args.table.now in
    let order = order_from content (priority_at c.args.game.now c.args.place) in
    let successors = c.successors-successors.result.now in
    let successor = slice_index successors c.loop-index.index in
    let at : slice_get successors c.loop-index.index ≡ Some successor = slice_get-get_or successors c.loop-index.index 0 c.loop-index-test.true in
    let compared : c.compare_for.result ≡ order successor c.loop-index.best =
    c.compare_for.ensures ∙ ap (λ (p : ℕ). order_from content p successor c.loop-index.best) (ap (λ (ps : List ℕ). slice_index ps c.args.place) c.requires.priorities ∙ priority_in c.args.game.now c.args.place c.requires.inside) in
    elim c.if-eq.branch [
      | then-eq w ↦
          rw w.best-is (first_best_more order c.args.wanted successors c.loop-index.index c.loop-index.best successor
          (order_total content (priority_at c.args.game.now c.args.place) c.measures_are_ordered.ensures) c.requires.wanted c.loop-index.invariant at
          (sym compared ∙ same_from_index c.compare_for.result c.args.wanted (eqb-true _ _ (sym w.if-eq.ensures))))
      | else-eq w ↦
          rw w.best-is (first_best_same order c.args.wanted successors c.loop-index.index c.loop-index.best successor
          c.loop-index.invariant at
          (λ same. eqb-false _ _ (sym w.if-eq.ensures) (ap ordering_index (compared ∙ same))))
    ]
