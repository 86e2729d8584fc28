-- `append_components`: its members are written one after the other.
use Rattle.std.proofs.Common.{codes}
use Rattle.omega_answers_game.specs.ShowJson.{member_text}
use Rattle.omega_answers_game.proofs.Appended.{following}
use Rattle.omega_answers_game.proofs.show.json.append_components.Goals as goal

pub returns-clause-text : goal.returns-clause-text
returns-clause-text c =
    following c.args.out.now.items (member_text (codes ",\"components\":") c.args.components.count)
    (member_text (codes ",\"largest\":") c.args.components.largest) c.in_ok-append_numbered.ensures.text c.in_ok-append_numbered-2.ensures.text
