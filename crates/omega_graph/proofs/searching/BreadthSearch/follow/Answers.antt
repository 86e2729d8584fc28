-- `BreadthSearch::follow`: meets the states to which edges lead from one that was met.
use Rattle.std.proofs.Common.{◌≡◌, ◌-◌, ◌<◌, ◌≤◌, length, get_or, refl, sym, subst, arith, rules}
use Rattle.omega_graph.specs.declared.met.MetState.{MetState}
use Rattle.omega_graph.specs.private.Links.{last_before}
use Rattle.omega_graph.specs.private.Searching.{Trace, meeting}
use Rattle.omega_graph.proofs.Linking.{last_below}
use Rattle.omega_graph.proofs.Following.{IsFollowing, following_ends, following_more, left_within}
use Rattle.omega_graph.proofs.searching.BreadthSearch.follow.Goals as goal

pub offset_bounds-enters-edge : goal.offset_bounds-enters-edge
offset_bounds-enters-edge c =
    let left : c.loop-left.left ≤ length c.args.links.now.states = left_within c.args.links.now.states c.args.enters.now c.args.origin c.args.self.now c.loop-left.self c.loop-left.left c.loop-left.invariant in
    let within : c.loop-left.left - 1 < length c.args.enters.now = omega (arith, c.requires.even) in
    search rules

pub bounds-enters-edge : goal.bounds-enters-edge
bounds-enters-edge c =
    let left : c.loop-left.left ≤ length c.args.links.now.states = left_within c.args.links.now.states c.args.enters.now c.args.origin c.args.self.now c.loop-left.self c.loop-left.left c.loop-left.invariant in
    omega (arith, c.requires.even)

pub meet-requires : goal.meet-requires
meet-requires c =
    let left : c.loop-left.left ≤ length c.args.links.now.states = left_within c.args.links.now.states c.args.enters.now c.args.origin c.args.self.now c.loop-left.self c.loop-left.left c.loop-left.invariant in
    let below : get_or c.args.enters.now (c.loop-left.left - 1) 0 < length c.args.self.now.marks = c.requires.enters (c.loop-left.left - 1) 0 (omega (arith, c.requires.even)) in
    omega (arith, c.loop-left.invariant.grows.count)

pub before-left-requires : goal.before-left-requires
before-left-requires c =
    let left : c.loop-left.left ≤ length c.args.links.now.states = left_within c.args.links.now.states c.args.enters.now c.args.origin c.args.self.now c.loop-left.self c.loop-left.left c.loop-left.invariant in
    omega arith

pub loop-left-smaller : goal.loop-left-smaller
loop-left-smaller c =
    let below = last_below c.args.links.now.states (get_or c.args.links.now.states (c.loop-left.left - 1) 0) (c.loop-left.left - 1) in
    let is : c.before-left.result ≡ last_before c.args.links.now.states (get_or c.args.links.now.states (c.loop-left.left - 1) 0) (c.loop-left.left - 1) = c.before-left.ensures in
    omega arith

pub loop-left-preserved : goal.loop-left-preserved
loop-left-preserved c =
    let index = c.loop-left.left - 1 in
    let met : MetState = record { state = get_or c.args.enters.now (c.loop-left.left - 1) 0; edge = c.loop-left.left; origin = c.args.origin } in
    let left : c.loop-left.left ≤ length c.args.links.now.states = left_within c.args.links.now.states c.args.enters.now c.args.origin c.args.self.now c.loop-left.self c.loop-left.left c.loop-left.invariant in
    let first : get_or c.args.enters.now (c.loop-left.left - 1) 0 < length c.args.self.now.marks = c.requires.enters (c.loop-left.left - 1) 0 (omega (arith, c.requires.even)) in
    let below : get_or c.args.enters.now (c.loop-left.left - 1) 0 < length c.loop-left.self.marks = omega (arith, c.loop-left.invariant.grows.count) in
    let is : c.meet.new.self ≡ meeting c.loop-left.self met = c.in_ok-meet.ensures in
    subst (λ (t : Trace). IsFollowing c.args.links.now.states c.args.enters.now c.args.origin c.args.self.now t c.before-left.result) (sym is)
    (following_more c.args.links.now.states c.args.enters.now c.args.origin c.args.self.now c.loop-left.self c.loop-left.left c.loop-left.invariant (c.loop-left.left - 1) (omega arith)
    met c.before-left.result refl refl refl below c.before-left.ensures)

pub returns-clause-followed : goal.returns-clause-followed
returns-clause-followed c =
    following_ends c.args.links.now.states c.args.enters.now c.args.origin c.args.self.now c.loop-left.self c.loop-left.left c.loop-left.invariant (omega arith)
