-- `bound_of`: one more number.
use Rattle.std.proofs.Common.{ℕ, ◌+◌, arith}
use Rattle.omega_hoa_automaton.proofs.Greatest.{greatest_more}
use Rattle.omega_hoa_automaton.proofs.judging.states.bound_of.Goals as goal

pub loop-number-preserved : goal.loop-number-preserved
loop-number-preserved c =
    let step = greatest_more (λ (number : ℕ). number + 1) c.args.numbers.now c.loop-number.number-index 0 (omega arith) in
    (omega (arith, step), omega (arith, c.type_inv.numbers c.loop-number.number-index))
