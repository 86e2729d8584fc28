-- `write_line`: its parts are the line of the node.
use Rattle.omega_game_values.specs.Game.{owner_at}
use Rattle.omega_game_values.specs.Solution.{choices_of}
use Rattle.omega_pg.proofs.solutions.Choices.{chosen_inside}
use Rattle.omega_pg.proofs.solution.writing.write_line.Goals as goal

pub write_choice-requires : goal.write_choice-requires
write_choice-requires c =
    let nodes = c.args.game.now in
    let owner = owner_at nodes c.args.place in
    rw (c.choice.ensures, c.owner.ensures)
    (chosen_inside nodes owner (choices_of c.args.solution.now owner) c.args.place c.requires.game (c.requires.solution.strategies owner))
