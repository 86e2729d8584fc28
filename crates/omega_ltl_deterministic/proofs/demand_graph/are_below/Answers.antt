-- a demand that is not below, or one more that is
use Rattle.std.proofs.Common.{◌<◌, ℕ, List, length, get_or, take, subst, inl, inr, arith}
use Rattle.std.specs.Prelude.{Contains}
use Rattle.std.proofs.lemmas.List.{take_all}
use Rattle.std.proofs.lemmas.List.Elements.{Contains-push_cases}
use Rattle.omega_ltl_shapes.proofs.ItemLemmas.{get_or_same, take_read}
use Rattle.omega_ltl_deterministic.proofs.demand_graph.are_below.Goals as goal

pub loop-d-preserved : goal.loop-d-preserved
loop-d-preserved c =
    let demands : List ℕ = c.args.demands.now in
    let i : ℕ = c.loop-d.d-index in
    let below : i < length demands = omega arith in
    let low : get_or demands i 0 < c.args.count = omega arith in
    subst (λ (xs : List ℕ). (e : ℕ) → Contains xs e → e < c.args.count) (take_read demands i (get_or demands i 0) below (get_or_same demands i 0 below))
    (λ e h. elim (Contains-push_cases (take i demands) (get_or demands i 0) e h) [
      | inl before ↦ c.loop-d.invariant e before
      | inr same ↦ subst (λ (n : ℕ). n < c.args.count) same low
    ])

pub returns : goal.returns
returns c h = subst (λ (xs : List ℕ). (e : ℕ) → Contains xs e → e < c.args.count) (take_all c.loop-d.d-index c.args.demands.now (omega arith)) c.loop-d.invariant
