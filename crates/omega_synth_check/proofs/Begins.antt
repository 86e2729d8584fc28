-- Whether a counter-strategy has a start where the specification has one.
use Rattle.std.proofs.Common.{◌≡◌, ℕ, ◌<◌, inl, inr, false, List, length, arith}
use Rattle.std.proofs.lemmas.Bool.{cases_lt}
use Rattle.omega_hoa_automaton.specs.Automaton.{Description, IsAutomaton}
use Rattle.omega_hoa_automaton.specs.Branching.{has_universal_branching}
use Rattle.omega_synth_controllers.proofs.Starts.{first_start}
use Rattle.omega_synth_check.specs.CounterJudging.{BeginsBeside, IsCounterJudgement}
use Rattle.omega_synth_check.specs.declared.counter_judgement.CounterJudgement.TheVariants.{NoStart}

module _ (specification strategy : Description) where
  -- it has one
  pub begins_beside : IsAutomaton strategy → has_universal_branching strategy ≡ false → (length strategy.starts ≡ 0 → length specification.starts ≡ 0)
      → BeginsBeside specification strategy
  begins_beside is plain none start begins = elim (cases_lt 0 (length strategy.starts)) [
    | inl some ↦ first_start strategy is plain some
    | inr few ↦ absurd (omega (arith, begins.1, none (omega (arith, few))))
  ]

  -- it has none
  pub starts_nowhere : (controlled : List (List ℕ)) → IsAutomaton specification → has_universal_branching specification ≡ false → length strategy.starts ≡ 0
      → 0 < length specification.starts → IsCounterJudgement specification strategy controlled NoStart
  starts_nowhere controlled is plain none some = (first_start specification is plain some, λ start begins. omega (arith, begins.1, none))
