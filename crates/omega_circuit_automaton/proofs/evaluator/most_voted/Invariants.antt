use Rattle.std.proofs.Common.{◌≡◌, ◌<◌, ℕ, length}
use Rattle.std.specs.Prelude.{IfNone, IfSome}
use Rattle.omega_circuit_automaton.specs.declared.ternary.Ternary.TheVariants.{Unknown}
use Rattle.omega_circuit_automaton.specs.private.Ternary.{ternary_at}
use Rattle.omega_circuit_automaton.proofs.evaluator.most_voted.Given as goal

-- the best place so far
abbrev pub invariant-loop-k : goal.invariant-loop-k
invariant-loop-k l = record {
  low : IfSome l.best (λ k. k < length l.cube);
  some : IfSome l.best (λ k. ternary_at l.cube k ≡ Unknown);
  none : IfNone l.best ((k : ℕ) → k < l.k → ternary_at l.cube k ≡ Unknown → ⊥);
}
