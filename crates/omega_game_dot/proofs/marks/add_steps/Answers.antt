-- `add_steps`: the steps along the places, and that to the last.
use Rattle.std.proofs.Common.{ap, arith, ◌∙◌}
use Rattle.omega_game_dot.specs.Roles.{is_step}
use Rattle.omega_game_dot.proofs.Steps.{steps_added, steps_of_all}
use Rattle.omega_game_dot.proofs.marks.add_steps.Goals as goal

pub returns-clause-found : goal.returns-clause-found
returns-clause-found c =
    let all = steps_added _ _ c.args.last.now c.in_ok-end.end c.args.found.now.keys c.add_steps_from.new.found.keys c.add_steps_from-2.new.found.keys
    c.requires.empty c.in_ok-end.ensures.end c.in_ok-end.ensures.added c.in_ok-add_steps_from.ensures.added in
    λ v w. all v w ∙ ap (is_step v w) (steps_of_all c.args.places.now c.args.last.now (omega (arith, c.in-len1-up.len_at_least)))
