-- `number_all`: numbers the states of a list.
use Rattle.std.proofs.Common.{◌<◌, length, ◌∙◌, arith}
use Rattle.omega_graph.proofs.Numbered.{numbered_more}
use Rattle.omega_graph.proofs.numbering.number_all.Goals as goal

pub loop-state-preserved : goal.loop-state-preserved
loop-state-preserved c =
    let so_far = c.loop-state.invariant in
    let within : c.loop-state.state-index < length c.args.listed.now = omega arith in
    let more = numbered_more c.args.listed.now c.loop-state.numbers.items c.loop-state.states.items c.loop-state.given.items c.loop-state.state-index c.in_ok-number.number
    c.number_one.new.numbers.items c.number_one.new.states.items c.push.new.self.items within so_far.1 so_far.2 c.in_ok-number.ensures.numbers c.in_ok-push.ensures.items in
    (c.in_ok-number.ensures.count ∙ so_far.0, more.0, more.1)
