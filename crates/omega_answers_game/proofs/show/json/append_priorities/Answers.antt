-- `append_priorities`: its parts are written one after the other.
use Rattle.std.proofs.Common.{codes}
use Rattle.omega_answers_game.specs.ShowJson.{pairs_text}
use Rattle.omega_answers_game.proofs.Appended.{following}
use Rattle.omega_answers_game.proofs.show.json.append_priorities.Goals as goal

pub returns-clause-text : goal.returns-clause-text
returns-clause-text c =
    following c.args.out.now.items (codes ",\"priorities\":[") _ c.in_ok-extend_from_slice.ensures.items
    (following c.extend_from_slice.new.self.items (pairs_text c.args.counts.now) (codes "]") c.in_ok-append_pairs.ensures.text
    c.in_ok-extend_from_slice-2.ensures.items)
