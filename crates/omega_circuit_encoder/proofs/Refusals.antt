-- Refusals because a limit is passed are among those of the circuit of a controller.
use Rattle.std.proofs.Common.{ℕ, List}
use Rattle.std.specs.Prelude.{All}
use Rattle.omega_text.specs.declared.refusal.Refusal.{Refusal}
use Rattle.omega_text.specs.declared.refusal.Refusal.TheVariants.{Automaton, Circuit, Game, Io, Memory, Task, Text}
use Rattle.omega_circuit_encoder.specs.Names.{IsSymbolName}
use Rattle.omega_circuit_encoder.specs.Refusing.{IsEncodingRefusal, IsLimitRefusal}

pub limits_refuse : (names : List (List ℕ)) (refusal : Refusal)
    → All IsSymbolName names → IsLimitRefusal refusal → IsEncodingRefusal names refusal
limits_refuse names (Text fault) all is = absurd is
limits_refuse names (Game fault) all is = absurd is
limits_refuse names (Automaton fault) all is = absurd is
limits_refuse names (Task fault) all is = (is, all)
limits_refuse names Memory all is = tt
limits_refuse names Io all is = absurd is
limits_refuse names (Circuit fault) all is = absurd is
