-- `append_size`: its members are written one after the other.
use Rattle.std.proofs.Common.{◌-◌, ◌++◌, ap, codes, length, ◌∙◌}
use Rattle.omega_game_values.specs.Game.{greatest_identifier, identifier_at, successor_count}
use Rattle.omega_answers_game.specs.ShowJson.{member_text}
use Rattle.omega_answers_game.proofs.Appended.{following}
use Rattle.omega_answers_game.proofs.show.json.append_size.Goals as goal

pub returns-clause-text : goal.returns-clause-text
returns-clause-text c =
    let nodes = c.args.game.now in
    let before = c.args.out.now.items in
    let first = c.append_numbered.new.out.items in
    let second = c.append_numbered-2.new.out.items in
    following before (member_text (codes "{\"nodes\":") (length nodes)) _
    (c.in_ok-append_numbered.ensures.text ∙ ap (λ n. before ++ member_text (codes "{\"nodes\":") n) c.len-nodes.ensures.count)
    (following first (member_text (codes ",\"edges\":") (successor_count nodes)) (member_text (codes ",\"greatest\":") (greatest_identifier nodes))
    (c.in_ok-append_numbered-2.ensures.text ∙ ap (λ n. first ++ member_text (codes ",\"edges\":") n) c.edges.ensures)
    (c.in_ok-append_numbered-3.ensures.text
    ∙ ap (λ n. second ++ member_text (codes ",\"greatest\":") n)
    (c.id-greatest.ensures ∙ ap (λ n. identifier_at nodes (n - 1)) c.len-nodes.ensures.count)))
