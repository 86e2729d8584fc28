-- The depth of an expression, and the refusals of one that grows.
use Rattle.std.specs.Prelude.{◌≡◌, ℕ, min}
use Rattle.omega_text.specs.declared.refusal.Refusal.{Refusal}
use Rattle.omega_text.specs.declared.refusal.automaton.AutomatonFault.TheVariants.{TooDeep}
use Rattle.omega_text.specs.Cases.{never, or_automaton, or_memory}
use Rattle.omega_hoa_expression.specs.Limits.{past_depth}

-- a depth as it is counted: exact up to the limit, and one more beyond
abbrev pub counted : ℕ → ℕ
counted depth = min depth past_depth

-- want of memory, or a depth that this holds of
abbrev pub IsDeeper : Type 0 → Refusal → Type 0
IsDeeper deep = or_automaton (λ fault. (fault ≡ TooDeep) × deep) (or_memory never)

-- a depth that this holds of
abbrev pub IsTooDeep : Type 0 → Refusal → Type 0
IsTooDeep deep = or_automaton (λ fault. (fault ≡ TooDeep) × deep) never
