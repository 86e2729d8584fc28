-- `first_fall`: the first place of those gone over, or none of them.
use Rattle.std.proofs.Common.{◌≡◌, ℕ, ◌+◌, ◌<◌, List, true, length, get_or, sym, ap, subst, arith}
use Rattle.std.specs.Prelude.{nat_le}
use Rattle.std.proofs.lemmas.Bool.{le-leb}
use Rattle.omega_arrays.specs.Arrays.{node_count, start_at}
use Rattle.omega_arrays.proofs.Firsts.{first_is, none_is}
use Rattle.omega_arrays.proofs.arrays.Arrays.first_fall.Goals as goal

pub returns-then-starts-place-clause-first : goal.returns-then-starts-place-clause-first
returns-then-starts-place-clause-first c =
    let a = c.args.self.now in
    let inside : c.loop-place.place < node_count a = omega (arith, c.loop-place-test.true, ap length c.priorities-place-end.ensures) in
    let falls : nat_le (start_at a (c.loop-place.place + 1)) (start_at a c.loop-place.place) ≡ true =
    subst (λ (xs : List ℕ). nat_le (get_or xs (c.loop-place.place + 1) 0) (get_or xs c.loop-place.place 0) ≡ true) c.starts-starts.ensures
    (le-leb _ _ c.if-starts-place.true) in
    sym (first_is (λ v. nat_le (start_at a (v + 1)) (start_at a v)) (node_count a) c.loop-place.place inside c.loop-place.invariant falls)

pub returns-clause-first : goal.returns-clause-first
returns-clause-first c =
    let a = c.args.self.now in
    sym (none_is (λ v. nat_le (start_at a (v + 1)) (start_at a v)) (node_count a)
    (λ k h. c.loop-place.invariant k (omega (arith, c.loop-place-test.false, ap length c.priorities-place-end.ensures))))
