-- The place rests on one more successor.
use Rattle.std.proofs.Common.{◌<◌, ◌∙◌, ℕ, Some, false, inl, inr, length, slice_index, sym, ap, subst, arith}
use Rattle.std.proofs.lemmas.Bool.{cases_eq, false≢true}
use Rattle.std.proofs.lemmas.Option.{slice_get-get_or}
use Rattle.omega_solve.specs.private.turning.Handing.{RestsOn}
use Rattle.omega_solve.proofs.lifting.Edges.{edge_index, index_listed}
use Rattle.omega_solve.proofs.turns.keeping.rests_on_all.Goals as goal

pub loop-successor-init : goal.loop-successor-init
loop-successor-init g c = λ k lt. absurd (omega arith)

pub bounds-lost-successor : goal.bounds-lost-successor
bounds-lost-successor g c =
    let edge = edge_index c.args.game.now c.args.place c.successors-successor-items.result.now c.loop-successor.successor-index
    c.successors-successor-items.ensures c.loop-successor-test.true in
    omega (arith, c.requires.game.closed c.args.place _ edge, c.requires.entries)

pub due-requires-clause-towards : goal.due-requires-clause-towards
due-requires-clause-towards g c =
    let edge = edge_index c.args.game.now c.args.place c.successors-successor-items.result.now c.loop-successor.successor-index
    c.successors-successor-items.ensures c.loop-successor-test.true in
    omega (arith, c.requires.game.closed c.args.place _ edge, c.requires.measures)

pub loop-successor-preserved : goal.loop-successor-preserved
loop-successor-preserved g c = λ k lt.
    let content = g.T.MeasureTable.content c.args.table.now in
    let items = c.successors-successor-items.result.now in
    let index = c.loop-successor.successor-index in
    let w = slice_index items index in
    let edge = edge_index c.args.game.now c.args.place items index c.successors-successor-items.ensures c.loop-successor-test.true in
    let inside : w < length c.args.lost.now = omega (arith, c.requires.game.closed c.args.place w edge, c.requires.entries) in
    elim (cases_eq k index) [
      | inl same ↦
          subst (λ (j : ℕ). RestsOn content c.args.lost.now c.args.place (slice_index items j)) (sym same)
          (record {
            kept = slice_get-get_or c.args.lost.now w false inside ∙ ap Some c.if-lost-successor.false;
            enough = λ exceeds. false≢true (sym c.if-due.false ∙ c.due.ensures.1 exceeds);
          })
      | inr other ↦ c.loop-successor.invariant k (omega arith)
    ]

pub returns : goal.returns
returns g c = λ _ w edge.
    let content = g.T.MeasureTable.content c.args.table.now in
    let items = c.successors-successor-items.result.now in
    let at = index_listed c.args.game.now c.args.place items w c.successors-successor-items.ensures edge in
    subst (λ (u : ℕ). RestsOn content c.args.lost.now c.args.place u) at.2
    (c.loop-successor.invariant at.0 (omega (arith, at.1, c.loop-successor-test.false)))
