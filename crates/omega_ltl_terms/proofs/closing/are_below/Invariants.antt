use Rattle.std.proofs.Common.{ℕ, ◌<◌, take}
use Rattle.std.specs.Prelude.{Contains}
use Rattle.omega_ltl_terms.proofs.closing.are_below.Given as goal

-- those so far are below
abbrev pub invariant-loop-d : goal.invariant-loop-d
invariant-loop-d l = (e : ℕ) → Contains (take l.d-index l.demands) e → e < l.count
