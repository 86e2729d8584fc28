-- those so far are below
use Rattle.std.proofs.Common.{ℕ, ◌<◌, take}
use Rattle.std.specs.Prelude.{Contains}
use Rattle.omega_ltl_deterministic.proofs.demand_graph.are_below.Given as goal

abbrev pub invariant-loop-d : goal.invariant-loop-d
invariant-loop-d l = (e : ℕ) → Contains (take l.d-index l.demands) e → e < l.count
