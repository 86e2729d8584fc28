-- `append_object`: its members are written one after the other.
use Rattle.std.proofs.Common.{◌++◌, ap, codes, ◌∙◌}
use Rattle.omega_game_values.specs.Bound.{priority_counts}
use Rattle.omega_game_values.specs.Game.{priorities}
use Rattle.omega_answers_game.specs.ShowJson.{bounds_member, components_members, member_text, priorities_member, self_loop_count, size_members}
use Rattle.omega_answers_game.proofs.Appended.{following}
use Rattle.omega_answers_game.proofs.show.json.append_object.Goals as goal

pub returns-clause-text : goal.returns-clause-text
returns-clause-text c =
    let nodes = c.args.game.now in
    let components = c.args.components in
    let first = c.append_size.new.out.items in
    let second = c.append_priorities.new.out.items in
    let third = c.append_numbered.new.out.items in
    following c.args.out.now.items (size_members nodes) _ c.in_ok-append_size.ensures.text
    (following first (priorities_member (priority_counts (priorities nodes))) _
    (c.in_ok-append_priorities.ensures.text ∙ ap (λ counts. first ++ priorities_member counts) c.priority_counts.ensures)
    (following second (member_text (codes ",\"self_loops\":") (self_loop_count nodes)) _
    (c.in_ok-append_numbered.ensures.text ∙ ap (λ n. second ++ member_text (codes ",\"self_loops\":") n) c.self_loops.ensures)
    (following third (components_members components.count components.largest) _ c.in_ok-append_components.ensures.text
    (following c.append_components.new.out.items (bounds_member nodes) (codes "}\n") c.in_ok-append_bounds.ensures.text
    c.in_ok-extend_from_slice.ensures.items))))
