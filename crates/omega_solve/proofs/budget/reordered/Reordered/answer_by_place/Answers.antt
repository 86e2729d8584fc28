-- The answer of a run in the reordered game is found, by place, with some number of lifts.
use Rattle.std.proofs.Common.{◌∙◌, length, ap, arith}
use Rattle.omega_solve.specs.declared.turns.TurnsAnswer.{TurnsAnswer}
use Rattle.omega_solve.specs.budget.private.steps.Reordering.{choices_by_place}
use Rattle.omega_solve.proofs.within_budget.Exactness.{choices_below, choices_by_place_here, won_by_place_here}
use Rattle.omega_solve.proofs.within_budget.Turning.{turned}
use Rattle.omega_solve.proofs.budget.reordered.Reordered.answer_by_place.Goals as goal

pub won_by_place-requires : goal.won_by_place-requires
won_by_place-requires c =
    let reordering = c.keeps_nodes.ensures.reordered in
    omega (
      arith,
      c.requires.exact.entries,
      reordering.entries,
      reordering.positioned,
      ap length c.permutation-permutation.ensures.positions,
      ap length c.as_slice.ensures.value,
    )

pub choices_of-requires-clause-entries : goal.choices_of-requires-clause-entries
choices_of-requires-clause-entries c =
    let reordering = c.keeps_nodes.ensures.reordered in
    omega (
      arith,
      c.requires.exact.strategy.entries,
      reordering.entries,
      reordering.positioned,
      ap length c.permutation-permutation.ensures.positions,
      ap length c.as_slice-2.ensures.value,
    )

pub choices_of-requires-clause-positions : goal.choices_of-requires-clause-positions
choices_of-requires-clause-positions c =
    let self = c.args.self.now in
    let below = choices_below self.given self.reordered self.positions self.places c.args._player c.args.answer.now.choice.items
    c.keeps_nodes.ensures.game c.keeps_nodes.ensures.reordered c.requires.exact.strategy in
    rw (c.as_slice-2.ensures.value, c.permutation-permutation.ensures.places) below

pub returns-clause-found : goal.returns-clause-found
returns-clause-found c =
    let self = c.args.self.now in
    let answer = c.args.answer.now in
    let run = c.requires in
    let order = c.permutation-permutation in
    let found : TurnsAnswer = record { won = c.in_ok-won.won; choice = c.in_ok-choice.choice; raises = answer.raises } in
    turned c.headline.ensures c.reorderings_keep_states.ensures c.reorderings_keep_bounds.ensures c.runs_are_bounded.ensures
    self.given self.reordered self.positions self.places c.args._player answer.won.items answer.choice.items found
    c.keeps_nodes.ensures.game c.keeps_nodes.ensures.reordered run
    (won_by_place_here self.positions _ order.result.now.positions c.as_slice.result.now run.table c.in_ok-won.ensures.won
    order.ensures.positions (c.as_slice.ensures.value ∙ run.below_top))
    (choices_by_place_here self.positions self.places order.result.now.positions order.result.now.places _ c.as_slice-2.result.now
    c.in_ok-choice.ensures.choices order.ensures.positions order.ensures.places
    ∙ ap (choices_by_place self.positions self.places) c.as_slice-2.ensures.value)
