-- `object_of`: the object is written with the components that were counted.
use Rattle.std.proofs.Common.{◌++◌, ap, ◌∙◌}
use Rattle.omega_answers_game.specs.ShowJson.{game_object}
use Rattle.omega_answers_game.proofs.show.json.object_of.Goals as goal

pub returns-clause-object : goal.returns-clause-object
returns-clause-object c =
    let components = c.in_ok-components.components in
    record {
      count = components.count;
      largest = components.largest;
      components = c.in_ok-components.ensures.components;
      written =
          c.in_ok-append_object.ensures.text
          ∙ ap (λ list. list ++ game_object c.args.game.now components.count components.largest) c.new-out.ensures.items;
    }
