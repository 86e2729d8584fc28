-- `lead`: one edge more.
use Rattle.std.proofs.Common.{ℕ, ◌<◌, ◌+◌, get_or, length, set, sym, subst, take, ◌∙◌, arith}
use Rattle.std.proofs.lemmas.List.{length-set}
use Rattle.omega_graph.specs.Graph.{ends_at}
use Rattle.omega_answers_game.specs.private.Groups.{IsLed}
use Rattle.omega_answers_game.proofs.Led.{led_more}
use Rattle.omega_answers_game.proofs.leaders.lead.Goals as goal

pub loop-edge-preserved : goal.loop-edge-preserved
loop-edge-preserved c =
    let shape = c.args.graph.now in
    let group = c.args.group.now in
    let index = c.loop-edge.edge-index in
    let leader = c.least_entered-leader.result in
    let before = c.args.leaders.now.items in
    let after = c.loop-edge.leaders.items in
    let below : index < length group = omega (arith, c.loop-edge-test.true) in
    let inside : (ends_at shape (get_or group index 0)).to < length before = omega (arith, c.to.ensures.to, c.to.ensures.inside, c.requires.count) in
    record {
      count = length-set after c.to.result leader ∙ c.loop-edge.invariant.count;
      led = λ state within.
          subst (λ (s : ℕ). IsLed shape (take (index + 1) group) leader before (set after s leader) state) (sym c.to.ensures.to)
          (led_more shape group index below leader before after c.loop-edge.invariant.count inside c.loop-edge.invariant.led state within);
    }
