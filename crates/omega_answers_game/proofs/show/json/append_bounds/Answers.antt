-- `append_bounds`: its parts are written one after the other.
use Rattle.std.proofs.Common.{codes}
use Rattle.omega_game_values.specs.declared.player.Player.TheVariants.{One, Zero}
use Rattle.omega_answers_game.specs.ShowJson.{player_bound}
use Rattle.omega_answers_game.proofs.Appended.{following}
use Rattle.omega_answers_game.proofs.show.json.append_bounds.Goals as goal

pub returns-clause-text : goal.returns-clause-text
returns-clause-text c =
    let nodes = c.args.game.now in
    following c.args.out.now.items (codes ",\"bounds\":[") _ c.in_ok-extend_from_slice.ensures.items
    (following c.extend_from_slice.new.self.items (player_bound Zero nodes) _ c.in_ok-append_bound.ensures.text
    (following c.append_bound.new.out.items (codes ",") _ c.in_ok-extend_from_slice-2.ensures.items
    (following c.extend_from_slice-2.new.self.items (player_bound One nodes) (codes "]") c.in_ok-append_bound-2.ensures.text
    c.in_ok-extend_from_slice-3.ensures.items)))
