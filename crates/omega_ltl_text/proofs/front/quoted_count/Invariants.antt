-- what is left decides
use Rattle.std.proofs.Common.{◌≡◌, ◌+◌, drop, false}
use Rattle.std.specs.Prelude.{option_map}
use Rattle.omega_ltl_text.specs.Tokens.{quoted_count}
use Rattle.omega_ltl_text.proofs.front.quoted_count.Given as goal

abbrev pub invariant-loop-index : goal.invariant-loop-index
invariant-loop-index l = quoted_count false l.bytes ≡ option_map (λ n. l.index + n) (quoted_count l.escaped (drop l.index l.bytes))
