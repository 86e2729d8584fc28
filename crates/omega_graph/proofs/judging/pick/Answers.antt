-- `pick`: makes a component of the edges of a key.
use Rattle.std.proofs.Common.{◌≡◌, ◌-◌, ◌<◌, ◌≤◌, length, get_or, arith, rules}
use Rattle.omega_graph.specs.private.Links.{last_before}
use Rattle.omega_graph.proofs.Linking.{last_below}
use Rattle.omega_graph.proofs.Judged.{picking_begins, picking_ends, picking_more, picking_within}
use Rattle.omega_graph.proofs.judging.pick.Goals as goal

pub loop-left-init : goal.loop-left-init
loop-left-init c =
    picking_begins c.args.links.now.states c.args.edges.now c.args.key c.last-left.result c.clear.new.self.items c.clear.ensures.items c.last-left.ensures

pub offset_bounds-edges-index : goal.offset_bounds-edges-index
offset_bounds-edges-index c =
    let left : c.loop-left.left ≤ length c.args.links.now.states = picking_within c.args.links.now.states c.args.edges.now c.args.key c.loop-left.left c.loop-left.edge_component.items c.loop-left.invariant in
    let within : c.loop-left.left - 1 < length c.args.edges.now = omega (arith, c.requires.even) in
    search rules

pub bounds-edges-index : goal.bounds-edges-index
bounds-edges-index c =
    let left : c.loop-left.left ≤ length c.args.links.now.states = picking_within c.args.links.now.states c.args.edges.now c.args.key c.loop-left.left c.loop-left.edge_component.items c.loop-left.invariant in
    omega (arith, c.requires.even)

pub before-left-requires : goal.before-left-requires
before-left-requires c =
    let left : c.loop-left.left ≤ length c.args.links.now.states = picking_within c.args.links.now.states c.args.edges.now c.args.key c.loop-left.left c.loop-left.edge_component.items c.loop-left.invariant in
    omega arith

pub loop-left-smaller : goal.loop-left-smaller
loop-left-smaller c =
    let below = last_below c.args.links.now.states (get_or c.args.links.now.states (c.loop-left.left - 1) 0) (c.loop-left.left - 1) in
    let is : c.before-left.result ≡ last_before c.args.links.now.states (get_or c.args.links.now.states (c.loop-left.left - 1) 0) (c.loop-left.left - 1) = c.before-left.ensures in
    omega arith

pub loop-left-preserved : goal.loop-left-preserved
loop-left-preserved c =
    picking_more c.args.links.now.states c.args.edges.now c.args.key c.loop-left.left c.loop-left.edge_component.items c.loop-left.invariant (c.loop-left.left - 1) c.push.new.self.items c.before-left.result
    (omega arith) c.in_ok-push.ensures.items c.before-left.ensures

pub returns : goal.returns
returns c = picking_ends c.args.links.now.states c.args.edges.now c.args.key c.loop-left.left c.loop-left.edge_component.items c.loop-left.invariant (omega arith)
