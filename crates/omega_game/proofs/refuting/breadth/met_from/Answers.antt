-- `met_from`: meets the places that are reached from the given ones through priorities at most `most`.
use Rattle.std.proofs.Common.{◌≡◌, ◌<◌, ◌≤◌, ℕ, Some, List, length, get_or, sym, subst, arith}
use Rattle.std.proofs.lemmas.List.{get_or_read}
use Rattle.omega_game_reaching.specs.Reaching.{left_at}
use Rattle.omega_game.specs.private.refuting.Ways.{AreMet}
use Rattle.omega_game.proofs.walks.Meeting.{breadth_goes_on, breadth_ends, met_below}
use Rattle.omega_game.proofs.refuting.breadth.met_from.Goals as goal

pub edges_left-left-requires-clause-inside : goal.edges_left-left-requires-clause-inside
edges_left-left-requires-clause-inside c =
    let inside : c.loop-index.index < length c.loop-index.met.items = omega (arith, c.len-in-loop-index.ensures, c.loop-index.met.ok.0) in
    let is : c.index.result.now ≡ get_or c.loop-index.met.items c.loop-index.index 0 = get_or_read c.loop-index.met.items c.loop-index.index c.index.result.now inside c.index.ensures 0 in
    subst (λ (u : ℕ). u < length c.args.game.now) (sym is)
    (met_below c.args.game.now c.args.choices.now c.args.most c.args.places.now c.loop-index.met.items c.loop-index.origins.items c.loop-index.invariant.tree c.requires.inside c.requires.choices c.loop-index.index inside)

pub loop-index-preserved : goal.loop-index-preserved
loop-index-preserved c =
    let inside : c.loop-index.index < length c.loop-index.met.items = omega (arith, c.len-in-loop-index.ensures, c.loop-index.met.ok.0) in
    let is : c.index.result.now ≡ get_or c.loop-index.met.items c.loop-index.index 0 = get_or_read c.loop-index.met.items c.loop-index.index c.index.result.now inside c.index.ensures 0 in
    let Q = λ (ws : List ℕ). AreMet c.args.game.now c.args.most ws (Some c.loop-index.index) c.loop-index.marks.items c.loop-index.met.items c.loop-index.origins.items c.meet-in-loop-index.new.marks.items c.meet-in-loop-index.new.met.items c.meet-in-loop-index.new.origins.items in
    let R = λ (u : ℕ). Q (left_at c.args.game.now c.args.choices.now u) in
    breadth_goes_on _ _ _ _ _ _ _ _ _ _ c.loop-index.index c.loop-index.invariant inside
    (subst R is (subst Q c.edges_left-left.ensures.left c.in_ok-meet-2.ensures.met))

pub returns-clause-all : goal.returns-clause-all
returns-clause-all c =
    let all : length c.loop-index.met.items ≤ c.loop-index.index = omega (arith, c.len-in-loop-index.ensures, c.loop-index.met.ok.0) in
    breadth_ends _ _ _ _ _ _ _ _ c.loop-index.invariant all
