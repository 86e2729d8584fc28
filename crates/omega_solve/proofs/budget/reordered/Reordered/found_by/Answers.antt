-- What is found at positions, said by place, is an exact answer.
use Rattle.std.proofs.Common.{◌≡◌, ◌∙◌, IfSome, List, None, get_or, length, subst, sym, ℕ, ◌<◌}
use Rattle.omega_game_values.specs.Game.{Node}
use Rattle.omega_game_values.specs.Winning.{IsStrategy}
use Rattle.omega_lift_laws.specs.Answer.{won_in}
use Rattle.omega_solve.specs.budget.Reordering.{IsReordering, measures_by_place}
use Rattle.omega_solve.specs.budget.private.steps.Reordering.{choices_by_place}
use Rattle.omega_solve.proofs.within_budget.Exactness.{choices_below, choices_by_place_here, choices_here, exact_here, won_by_place_here}
use Rattle.omega_solve.proofs.budget.reordered.Reordered.found_by.Goals as goal

pub choices_of-requires-clause-positions : goal.choices_of-requires-clause-positions
choices_of-requires-clause-positions g c =
    let self = c.args.self.now in
    let answer = c.unwrap-answer.result in
    let exact = rw c.unwrap-answer.ensures at c.answer.ensures.exact in
    let strategy = subst (λ (nodes : List Node). IsStrategy nodes c.args.solver.now.player answer.choice.now) c.requires.nodes exact.strategy in
    let below = choices_below self.given self.reordered self.positions self.places c.args.solver.now.player answer.choice.now c.keeps_nodes.ensures.game c.keeps_nodes.ensures.reordered strategy in
    λ r. subst (λ (places : List ℕ). IfSome (get_or answer.choice.now r None) (λ w. w < length places)) (sym c.permutation-permutation.ensures.places) (below r)

pub returns-clause-exact : goal.returns-clause-exact
returns-clause-exact g c =
    let self = c.args.self.now in
    let solver = c.args.solver.now in
    let answer = c.unwrap-answer.result in
    let chosen = rw c.unwrap-answer.ensures at c.answer.ensures.chosen in
    let won = rw c.unwrap-answer.ensures at c.answer.ensures.won in
    let finished = c.answer.ensures.finished (c.answer.ensures.done ∙ c.requires.done) in
    let reordering = subst (λ (nodes : List Node). IsReordering self.given nodes self.positions self.places) (sym c.requires.nodes) c.keeps_nodes.ensures.reordered in
    let exact = exact_here c.headline.ensures self.given self.positions self.places solver answer.choice.now c.keeps_nodes.ensures.game reordering
    c.lifts-lifts.ensures.reached finished c.requires.done chosen in
    let flags : c.in_ok-won_by_place.field-0.items ≡ won_in (measures_by_place self.positions solver.table.measures) =
    won_by_place_here self.positions _ c.permutation-permutation.result.now.positions answer.won.now solver.table.measures c.in_ok-won_by_place.ensures.won c.permutation-permutation.ensures.positions won in
    let places : c.in_ok-choices_of.field-0.items ≡ choices_by_place self.positions self.places answer.choice.now =
    choices_by_place_here self.positions self.places c.permutation-permutation.result.now.positions c.permutation-permutation.result.now.places _ answer.choice.now
    c.in_ok-choices_of.ensures.choices c.permutation-permutation.ensures.positions c.permutation-permutation.ensures.places in
    rw (flags, places) exact

pub returns-clause-below_top : goal.returns-clause-below_top
returns-clause-below_top g c =
    won_by_place_here c.args.self.now.positions _ c.permutation-permutation.result.now.positions c.unwrap-answer.result.won.now c.args.solver.now.table.measures
    c.in_ok-won_by_place.ensures.won c.permutation-permutation.ensures.positions (rw c.unwrap-answer.ensures at c.answer.ensures.won)

pub returns-clause-chosen : goal.returns-clause-chosen
returns-clause-chosen g c =
    let self = c.args.self.now in
    let solver = c.args.solver.now in
    let answer = c.unwrap-answer.result in
    let chosen = rw c.unwrap-answer.ensures at c.answer.ensures.chosen in
    let reordering = subst (λ (nodes : List Node). IsReordering self.given nodes self.positions self.places) (sym c.requires.nodes) c.keeps_nodes.ensures.reordered in
    let places : c.in_ok-choices_of.field-0.items ≡ choices_by_place self.positions self.places answer.choice.now =
    choices_by_place_here self.positions self.places c.permutation-permutation.result.now.positions c.permutation-permutation.result.now.places _ answer.choice.now
    c.in_ok-choices_of.ensures.choices c.permutation-permutation.ensures.positions c.permutation-permutation.ensures.places in
    rw places (choices_here self.given solver.nodes self.positions self.places reordering (λ v w lt edge. c.keeps_nodes.ensures.game.closed v w edge) solver.player
    solver.table.measures answer.choice.now chosen)
