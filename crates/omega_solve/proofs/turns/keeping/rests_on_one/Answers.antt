-- The place rests on the successor that is kept.
use Rattle.std.proofs.Common.{◌<◌, ◌∙◌, Some, false, length, slice_index, sym, ap, arith}
use Rattle.std.proofs.lemmas.Bool.{false≢true}
use Rattle.std.proofs.lemmas.Option.{slice_get-get_or}
use Rattle.omega_solve.proofs.lifting.Edges.{edge_index}
use Rattle.omega_solve.proofs.turns.keeping.rests_on_one.Goals as goal

pub bounds-lost-successor : goal.bounds-lost-successor
bounds-lost-successor g c =
    let edge = edge_index c.args.game.now c.args.place c.successors-successor-items.result.now c.loop-successor.successor-index
    c.successors-successor-items.ensures c.loop-successor-test.true in
    omega (arith, c.requires.game.closed c.args.place _ edge, c.requires.entries)

pub due-requires-clause-towards : goal.due-requires-clause-towards
due-requires-clause-towards g c =
    let edge = edge_index c.args.game.now c.args.place c.successors-successor-items.result.now c.loop-successor.successor-index
    c.successors-successor-items.ensures c.loop-successor-test.true in
    omega (arith, c.requires.game.closed c.args.place _ edge, c.requires.measures)

pub returns-then-not-due : goal.returns-then-not-due
returns-then-not-due g c = λ _.
    let w = slice_index c.successors-successor-items.result.now c.loop-successor.successor-index in
    let edge = edge_index c.args.game.now c.args.place c.successors-successor-items.result.now c.loop-successor.successor-index
    c.successors-successor-items.ensures c.loop-successor-test.true in
    let inside : w < length c.args.lost.now = omega (arith, c.requires.game.closed c.args.place w edge, c.requires.entries) in (
      w,
      edge,
      record {
        kept = slice_get-get_or c.args.lost.now w false inside ∙ ap Some c.if-not-lost-successor.true;
        enough = λ exceeds. false≢true (sym c.if-not-due.true ∙ c.due.ensures.1 exceeds);
      },
    )
