-- The first least successor so far goes on to the next, and so does that the allowances exceed the measure.
use Rattle.std.proofs.Common.{◌≡◌, ◌<◌, ◌≤◌, arith, ap, subst, sym, ◌∙◌, ℕ, List, length, slice_index, Some}
use Rattle.std.specs.List.{slice_get}
use Rattle.std.specs.declared.cmp.Ordering.TheVariants.{Less}
use Rattle.std.proofs.lemmas.Option.{slice_get-get_or}
use Rattle.std.specs.Ordering.{ordering_index}
use Rattle.std.proofs.lemmas.Bool.{eqb-true, eqb-false, false≢true}
use Rattle.omega_game_values.specs.Game.{priority_at}
use Rattle.omega_solve.specs.private.solving.Successor.{IsFirstBest, order_from}
use Rattle.omega_solve.proofs.lifting.Due.{order_total, priority_in}
use Rattle.omega_solve.proofs.lifting.Order.{less_is_not_equal, same_from_index}
use Rattle.omega_solve.proofs.lifting.Edges.{edge_at, edge_index}
use Rattle.omega_solve.proofs.lifting.FirstBest.{first_best_more, first_best_one, first_best_same, first_best_within}
use Rattle.omega_solve.proofs.successor.least_exceeded.Goals as goal
use Rattle.omega_solve.proofs.successor.least_exceeded.Goals.{then-eq+else-not-due-2, else-eq}

pub due-requires-clause-towards : goal.due-requires-clause-towards
due-requires-clause-towards g c =
    let some : 0 < length c.successors-successors.result.now = omega (arith, c.requires.game.continued c.args.place c.requires.inside, ap length c.successors-successors.ensures) in
    let edge = edge_index c.args.game.now c.args.place c.successors-successors.result.now 0 c.successors-successors.ensures some in
    omega (arith, c.requires.game.closed c.args.place _ edge, c.requires.entries)

pub loop-index-init : goal.loop-index-init
loop-index-init g c =
    let content = g.T.MeasureTable.content c.args.table.now in
    let successors = c.successors-successors.result.now in
    let some : 0 < length successors = omega (arith, c.requires.game.continued c.args.place c.requires.inside, ap length c.successors-successors.ensures) in (
      c.due.ensures.0 c.if-not-due.false,
      first_best_one (order_from content (priority_at c.args.game.now c.args.place)) Less successors (slice_index successors 0)
          (order_total content (priority_at c.args.game.now c.args.place) c.measures_are_ordered.ensures) less_is_not_equal
          (slice_get-get_or successors 0 0 some),
    )

pub due-requires-then-eq-clause-towards : goal.due-requires-then-eq-clause-towards
due-requires-then-eq-clause-towards g c =
    let edge = edge_index c.args.game.now c.args.place c.successors-successors.result.now c.loop-index.index
    c.successors-successors.ensures c.loop-index-test.true in
    omega (arith, c.requires.game.closed c.args.place _ edge, c.requires.entries)

pub returns-then-not-due-2 : goal.returns-then-not-due-2
returns-then-not-due-2 g c = (
  slice_index c.successors-successors.result.now c.loop-index.index,
  edge_index c.args.game.now c.args.place c.successors-successors.result.now c.loop-index.index
      c.successors-successors.ensures c.loop-index-test.true,
  λ exceeds. false≢true (sym c.if-not-due-2.true ∙ c.due-then-eq.ensures.1 exceeds),
)

pub compare_for-requires-clause-first : goal.compare_for-requires-clause-first
compare_for-requires-clause-first g c =
    let edge = edge_index c.args.game.now c.args.place c.successors-successors.result.now c.loop-index.index
    c.successors-successors.ensures c.loop-index-test.true in
    omega (arith, c.requires.game.closed c.args.place _ edge, c.requires.entries)

pub compare_for-requires-clause-second : goal.compare_for-requires-clause-second
compare_for-requires-clause-second g c =
    let best = c.loop-index.invariant.1 in
    let edge = edge_at c.args.game.now c.args.place best.index c.loop-index.least
    (subst (λ (xs : List ℕ). slice_get xs best.index ≡ Some c.loop-index.least) c.successors-successors.ensures best.listed) in
    omega (arith, c.requires.game.closed c.args.place _ edge, c.requires.entries)

pub loop-index-preserved : goal.loop-index-preserved
loop-index-preserved g c =
    let content = g.T.MeasureTable.content c.args.table.now in
    let order = order_from content (priority_at c.args.game.now c.args.place) in
    let successors = c.successors-successors.result.now in
    let successor = slice_index successors c.loop-index.index in
    let at : slice_get successors c.loop-index.index ≡ Some successor = slice_get-get_or successors c.loop-index.index 0 c.loop-index-test.true in
    let compared : c.compare_for.result ≡ order successor c.loop-index.least =
    c.compare_for.ensures ∙ ap (λ (p : ℕ). order_from content p successor c.loop-index.least) (ap (λ (ps : List ℕ). slice_index ps c.args.place) c.requires.priorities ∙ priority_in c.args.game.now c.args.place c.requires.inside) in
    elim c.if-eq.branch [
      | then-eq+else-not-due-2 w ↦
          rw w.least-is (
            w.due-then-eq.ensures.0 w.if-not-due-2.false,
            first_best_more order Less successors c.loop-index.index c.loop-index.least successor
                (order_total content (priority_at c.args.game.now c.args.place) c.measures_are_ordered.ensures) less_is_not_equal c.loop-index.invariant.1 at
                (sym compared ∙ same_from_index c.compare_for.result Less (eqb-true _ _ (sym w.if-eq.ensures))),
          )
      | else-eq w ↦
          rw w.least-is (
            c.loop-index.invariant.0,
            first_best_same order Less successors c.loop-index.index c.loop-index.least successor
                c.loop-index.invariant.1 at
                (λ same. eqb-false _ _ (sym w.if-eq.ensures) (ap ordering_index (compared ∙ same))),
          )
    ]

pub returns : goal.returns
returns g c =
    let content = g.T.MeasureTable.content c.args.table.now in
    let order = order_from content (priority_at c.args.game.now c.args.place) in
    let successors = c.successors-successors.result.now in
    let all : length successors ≤ c.loop-index.index = omega (arith, c.loop-index-test.false) in
    record {
      exceeds = c.loop-index.invariant.0;
      least =
          subst (λ (xs : List ℕ). IsFirstBest order Less xs (length xs) c.loop-index.least) c.successors-successors.ensures
          (first_best_within order Less successors c.loop-index.index c.loop-index.least all c.loop-index.invariant.1);
    }
