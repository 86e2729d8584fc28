-- `lead_all`: one group more.
use Rattle.std.proofs.Common.{ℕ, List, subst}
use Rattle.omega_answers_game.specs.private.Groups.{GetOneLeader}
use Rattle.omega_answers_game.proofs.Led.{led_group, led_start}
use Rattle.omega_answers_game.proofs.leaders.lead_all.Goals as goal

pub loop-index-init : goal.loop-index-init
loop-index-init c = led_start c.args.graph.now c.args.groups.now c.args.leaders.now.items c.requires.own

pub loop-index-preserved : goal.loop-index-preserved
loop-index-preserved c =
    let before : List ℕ = c.loop-index.leaders.items in
    let after : List ℕ = c.lead.new.leaders.items in
    led_group c.args.graph.now c.args.groups.now c.loop-index.index before after c.loop-index.invariant
    (subst (λ (group : List ℕ). GetOneLeader c.args.graph.now group before after) c.edge_component.ensures c.lead.ensures)
