-- `append_size`: the numbers are written one after the other.
use Rattle.std.proofs.Common.{◌-◌, ◌++◌, ap, codes, length, ◌∙◌}
use Rattle.std.specs.Prelude.{decimal}
use Rattle.omega_game_values.specs.Game.{greatest_identifier, identifier_at, successor_count}
use Rattle.omega_answers_game.proofs.Appended.{following, regrouped}
use Rattle.omega_answers_game.proofs.show.append_size.Goals as goal

pub returns-clause-text : goal.returns-clause-text
returns-clause-text c =
    let nodes = c.args.game.now in
    let before = c.args.out.now.items in
    let first = c.append_numbered.new.out.items in
    let second = c.append_numbered-2.new.out.items in
    following before (codes "game nodes " ++ decimal (length nodes)) _
    (c.in_ok-append_numbered.ensures.text ∙ ap (λ n. before ++ (codes "game nodes " ++ decimal n)) c.len-nodes.ensures.count)
    (following first (codes " edges " ++ decimal (successor_count nodes)) _
    (c.in_ok-append_numbered-2.ensures.text ∙ ap (λ n. first ++ (codes " edges " ++ decimal n)) c.edges.ensures)
    (following second (codes " greatest " ++ decimal (greatest_identifier nodes)) (codes "\n")
    (c.in_ok-append_numbered-3.ensures.text
    ∙ ap (λ n. second ++ (codes " greatest " ++ decimal n))
    (c.from.ensures ∙ c.id-greatest.ensures ∙ ap (λ n. identifier_at nodes (n - 1)) c.len-nodes.ensures.count))
    c.in_ok-extend_from_slice.ensures.items))
    ∙ regrouped before (codes "game nodes ") (decimal (length nodes)) (codes " edges ") (decimal (successor_count nodes)) (codes " greatest ")
    (decimal (greatest_identifier nodes)) (codes "\n")
