-- `sizes_of`: one place more is counted.
use Rattle.std.proofs.Common.{◌≡◌, ◌<◌, ℕ, get_or, length, arith, ◌∙◌}
use Rattle.std.proofs.lemmas.List.{get_or_default}
use Rattle.omega_answers_game.proofs.Counted.{size_fits, sizes_more}
use Rattle.omega_answers_game.proofs.counting.sizes_of.Goals as goal

pub overflow_add-index_mut : goal.overflow_add-index_mut
overflow_add-index_mut c =
    let leaders = c.args.leaders.now in
    let index = c.loop-leader.leader-index in
    let leader : ℕ = get_or leaders index 0 in
    let below : index < length leaders = omega (arith, c.loop-leader-test.true) in
    let inside : leader < length leaders = c.requires.inside index 0 below in
    let read : c.index_mut.result.now ≡ get_or c.loop-leader.sizes.items leader 0 =
    c.index_mut.ensures.value ∙ get_or_default c.loop-leader.sizes.items leader c.index_mut.result.now 0 (omega (arith, inside, c.loop-leader.invariant.each)) in
    omega (arith, read, size_fits leaders c.loop-leader.sizes.items index leader (omega (arith, below)) inside c.loop-leader.invariant, below, c.requires.few)

pub loop-leader-preserved : goal.loop-leader-preserved
loop-leader-preserved c =
    let leaders = c.args.leaders.now in
    let index = c.loop-leader.leader-index in
    let leader : ℕ = get_or leaders index 0 in
    let below : index < length leaders = omega (arith, c.loop-leader-test.true) in
    let inside : leader < length leaders = c.requires.inside index 0 below in
    let read : c.index_mut.result.now ≡ get_or c.loop-leader.sizes.items leader 0 =
    c.index_mut.ensures.value ∙ get_or_default c.loop-leader.sizes.items leader c.index_mut.result.now 0 (omega (arith, inside, c.loop-leader.invariant.each)) in
    sizes_more leaders c.loop-leader.sizes.items index c.index_mut.result.now below inside read c.loop-leader.invariant
