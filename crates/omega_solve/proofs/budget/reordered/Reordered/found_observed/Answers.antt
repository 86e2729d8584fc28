-- A solver that is done found an exact answer within the budget, by place.
use Rattle.std.proofs.Common.{◌∙◌, List, ap, refl, subst}
use Rattle.omega_game_values.specs.Game.{Node}
use Rattle.omega_solve.specs.declared.outcome.Outcome.TheVariants.{Done, Spent}
use Rattle.omega_solve.specs.budget.Reordering.{state_by_place}
use Rattle.omega_solve.specs.budget.private.steps.Lifting.{HasLifted}
use Rattle.omega_solve.specs.budget.Observing.{most_of}
use Rattle.omega_solve.proofs.within_budget.Within.{answer_within, lifted_by_place, not_spent, reported_by_place, reported_done, used_up}
use Rattle.omega_solve.proofs.budget.reordered.Reordered.found_observed.Goals as goal

pub returns-in-Spent-clause-refused : goal.returns-in-Spent-clause-refused
returns-in-Spent-clause-refused g c =
    let self = c.args.self.now in
    let there = subst (λ (nodes : List Node). HasLifted nodes c.args.player c.args.budget Spent c.run_observed.new.solver) c.reordered_game-game.ensures c.in-Spent.ensures.lifted in
    let here = lifted_by_place c.reorderings_keep_states.ensures c.reorderings_keep_bounds.ensures self.given self.reordered self.positions self.places
    c.args.player c.args.budget Spent c.run_observed.new.solver c.keeps_nodes.ensures.game c.keeps_nodes.ensures.reordered there in
    (refl, used_up self.given c.args.player c.args.budget _ here)

pub returns-in-Spent-clause-reported : goal.returns-in-Spent-clause-reported
returns-in-Spent-clause-reported g c =
    let self = c.args.self.now in
    let there = subst (λ (nodes : List Node). HasLifted nodes c.args.player c.args.budget Spent c.run_observed.new.solver) c.reordered_game-game.ensures c.in-Spent.ensures.lifted in
    let here = lifted_by_place c.reorderings_keep_states.ensures c.reorderings_keep_bounds.ensures self.given self.reordered self.positions self.places
    c.args.player c.args.budget Spent c.run_observed.new.solver c.keeps_nodes.ensures.game c.keeps_nodes.ensures.reordered there in (
      refl,
      c.run_observed.new.solver.lifts,
      reported_by_place _ _ _ self.given c.args.player c.args.budget Spent (state_by_place self.given self.positions c.run_observed.new.solver) _ _ _ here (λ _. refl, λ _. refl)
          (c.most_lifts_of-most.ensures ∙ ap (λ (nodes : List Node). most_of nodes c.args.player c.args.budget) c.original_game.ensures) c.in-Spent.ensures.reported,
    )

pub returns-clause-found : goal.returns-clause-found
returns-clause-found g c =
    let self = c.args.self.now in
    let there = subst (λ (nodes : List Node). HasLifted nodes c.args.player c.args.budget Done c.run_observed.new.solver) c.reordered_game-game.ensures c.in-Done.ensures.lifted in
    let here = lifted_by_place c.reorderings_keep_states.ensures c.reorderings_keep_bounds.ensures self.given self.reordered self.positions self.places
    c.args.player c.args.budget Done c.run_observed.new.solver c.keeps_nodes.ensures.game c.keeps_nodes.ensures.reordered there in
    answer_within self.given c.args.player c.args.budget (state_by_place self.given self.positions c.run_observed.new.solver) c.found_by.result here
    c.found_by.ensures.lifts c.found_by.ensures.exact c.found_by.ensures.below_top c.found_by.ensures.chosen

pub returns-clause-reported : goal.returns-clause-reported
returns-clause-reported g c =
    let self = c.args.self.now in
    let there = subst (λ (nodes : List Node). HasLifted nodes c.args.player c.args.budget Done c.run_observed.new.solver) c.reordered_game-game.ensures c.in-Done.ensures.lifted in
    let here = lifted_by_place c.reorderings_keep_states.ensures c.reorderings_keep_bounds.ensures self.given self.reordered self.positions self.places
    c.args.player c.args.budget Done c.run_observed.new.solver c.keeps_nodes.ensures.game c.keeps_nodes.ensures.reordered there in
    reported_done _ _ self.given c.args.player c.args.budget c.run_observed.new.solver.lifts c.found_by.result _ _ c.found_by.ensures.lifts c.found_by.ensures.memory
    (reported_by_place _ _ _ self.given c.args.player c.args.budget Done (state_by_place self.given self.positions c.run_observed.new.solver) _ _ _ here (not_spent c.found_by.result c.found_by.ensures.memory)
    (c.most_lifts_of-most.ensures ∙ ap (λ (nodes : List Node). most_of nodes c.args.player c.args.budget) c.original_game.ensures) c.in-Done.ensures.reported)
