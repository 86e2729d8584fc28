-- The first least successor is the first of least allowance.
use Rattle.std.proofs.Common.{refl}
use Rattle.std.proofs.lemmas.Bool.{false≢true}
use Rattle.omega_lift_laws.specs.Allowance.{measure_at}
use Rattle.omega_solve.proofs.lifting.Due.{first_least, some_from, table_entries}
use Rattle.omega_solve.proofs.successor.chosen_successor.Goals as goal

pub returns : goal.returns
returns g c =
    let content = g.T.MeasureTable.content c.args.table.now in
    let own = c.if-not-owns.ensures.0 refl in
    let won = some_from (measure_at content.measures c.args.place) (λ top. false≢true (c.if-is_top.ensures.1 top)) in (
      own,
      won,
      first_least c.args.game.now c.args.player content c.args.place c.best_successor.result
          c.requires.game c.requires.table (table_entries c.args.game.now c.args.player content c.requires.table)
          c.measures_are_ordered.ensures c.allowances_exist.ensures c.allowances_are_monotone.ensures c.allowances_are_strict.ensures
          own c.requires.finished won c.best_successor.ensures,
    )
