-- The best successor decides whether a lift is due.
use Rattle.std.proofs.Common.{arith, refl}
use Rattle.std.proofs.lemmas.Bool.{false≢true}
use Rattle.omega_solve.proofs.lifting.Due.{other_due, other_not_due, owned_towards, table_entries}
use Rattle.omega_solve.proofs.lifting.Edges.{edge_at}
use Rattle.omega_solve.proofs.successor.due_towards.Goals as goal

pub returns-then-owns : goal.returns-then-owns
returns-then-owns g c =
    let content = g.T.MeasureTable.content c.args.table.now in
    owned_towards c.args.game.now c.args.player content c.args.place c.least_exceeded.result
    c.requires.game c.requires.table c.requires.inside (table_entries c.args.game.now c.args.player content c.requires.table)
    c.measures_are_ordered.ensures c.allowances_exist.ensures c.allowances_are_monotone.ensures
    (c.if-owns.ensures.0 refl) c.least_exceeded.ensures

pub due-requires-clause-towards : goal.due-requires-clause-towards
due-requires-clause-towards g c =
    let content = g.T.MeasureTable.content c.args.table.now in
    let best = c.best_successor-greatest.ensures in
    let edge = edge_at c.args.game.now c.args.place best.index c.best_successor-greatest.result best.listed in
    omega (
      arith,
      c.requires.game.closed c.args.place c.best_successor-greatest.result edge,
      table_entries c.args.game.now c.args.player content c.requires.table,
    )

pub returns-then-due : goal.returns-then-due
returns-then-due g c =
    other_due c.args.game.now c.args.player (g.T.MeasureTable.content c.args.table.now) c.args.place c.best_successor-greatest.result
    c.requires.table c.requires.inside c.allowances_are_monotone.ensures
    (λ own. false≢true (c.if-owns.ensures.1 own)) (c.if-due.ensures.0 refl) c.best_successor-greatest.ensures

pub returns-else-due : goal.returns-else-due
returns-else-due g c =
    let content = g.T.MeasureTable.content c.args.table.now in
    other_not_due c.args.game.now c.args.player content c.args.place c.best_successor-greatest.result
    c.requires.game c.requires.table c.requires.inside (table_entries c.args.game.now c.args.player content c.requires.table)
    c.measures_are_ordered.ensures c.allowances_exist.ensures c.allowances_are_monotone.ensures
    (λ exceeds. false≢true (c.if-due.ensures.1 exceeds)) c.best_successor-greatest.ensures
