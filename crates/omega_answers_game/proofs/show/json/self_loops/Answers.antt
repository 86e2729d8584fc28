-- `self_loops`: one place more is counted, if its node is among its successors.
use Rattle.std.proofs.Common.{◌≡◌, ℕ, ◌+◌, cond, ap, arith}
use Rattle.omega_answers_game.proofs.SelfLoops.{loops-more}
use Rattle.omega_answers_game.proofs.show.json.self_loops.Goals as goal
use Rattle.omega_answers_game.proofs.show.json.self_loops.Goals.{then-is_self_loop, else-is_self_loop}

pub loop-place-preserved : goal.loop-place-preserved
loop-place-preserved c =
    let grown : c.if-is_self_loop.count ≡ c.loop-place.count + cond c.is_self_loop.result 1 0 =
    elim c.if-is_self_loop.branch [
      | then-is_self_loop w ↦
          (let one : ◌≡◌ {A = ℕ} (cond c.is_self_loop.result 1 0) 1 = ap (λ b. cond b 1 0) w.if-is_self_loop.true in omega (arith, one, w.count-is))
      | else-is_self_loop w ↦
          (let none : ◌≡◌ {A = ℕ} (cond c.is_self_loop.result 1 0) 0 = ap (λ b. cond b 1 0) w.if-is_self_loop.false in omega (arith, none, w.count-is))
    ] in
    loops-more c.args.game.now c.loop-place.place c.loop-place.count c.if-is_self_loop.count c.is_self_loop.result c.is_self_loop.ensures
    c.loop-place.invariant.counted c.loop-place.invariant.few grown
