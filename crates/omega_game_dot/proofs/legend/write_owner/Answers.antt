-- `write_owner`: the number of the player, the shape and the label come one after the other.
use Rattle.std.proofs.Common.{ℕ, ◌++◌, ap, codes, decimal, ◌∙◌}
use Rattle.omega_game_values.specs.Player.{player_number}
use Rattle.omega_game_dot.specs.Legend.{owner_label}
use Rattle.omega_game_dot.specs.Nodes.{shape_part}
use Rattle.omega_game_dot.proofs.Texts.{four_parts}
use Rattle.omega_game_dot.proofs.legend.write_owner.Goals as goal

pub returns-clause-ok : goal.returns-clause-ok
returns-clause-ok c =
    let player = c.args.player in
    four_parts c.args.out.now.items (codes "    owner") (decimal (player_number player)) (shape_part player) (owner_label player) c.extend_from_slice.new.self.items _ _ _
    c.in_ok-extend_from_slice.ensures.items
    (c.in_ok-write_number.ensures.ok ∙ ap (λ (n : ℕ). c.extend_from_slice.new.self.items ++ decimal n) (c.from.ensures ∙ c.number.ensures))
    c.in_ok-write_shape.ensures.ok c.in_ok-write_owner_label.ensures.ok
