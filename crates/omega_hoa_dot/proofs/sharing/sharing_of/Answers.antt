-- `sharing_of`: an edge more.
use Rattle.std.proofs.Common.{◌≡◌, ◌+◌, ◌-◌, ◌<◌, ℕ, Some, None, length, get_or, length-set, ap, ◌∙◌, arith}
use Rattle.omega_hoa_dot.specs.private.layout.Sharing.{next_to}
use Rattle.omega_hoa_dot.proofs.Next.{first_passed, next_passed, beyond, none_passed, same_target}
use Rattle.omega_hoa_dot.proofs.sharing.sharing_of.Goals as goal

pub loop-index-preserved-in-Some : goal.loop-index-preserved-in-Some
loop-index-preserved-in-Some c =
    let i : ℕ = c.loop-index.index - 1 in
    let last : c.loop-index.index ≡ i + 1 = omega (arith, c.loop-index-test.true) in
    let below : i < length c.args.targets.now = omega (arith, c.loop-index-test.true, c.loop-index.auto.index) in
    let here : get_or c.args.targets.now i None ≡ Some c.in-Some.target = c.in-Some.is in
    record {
      entries = length-set c.loop-index.next.items i c.in_ok-next-in-Some.field-0 ∙ c.loop-index.invariant.entries;
      next =
          next_passed c.args.targets.now c.loop-index.next.items i c.loop-index.index c.in_ok-next-in-Some.field-0 c.loop-index.invariant.entries last below
          c.loop-index.invariant.next
          (λ target is. c.in_ok-next-in-Some.ensures.old ∙ c.loop-index.invariant.firsts c.in-Some.target
          ∙ ap (next_to c.args.targets.now c.loop-index.index) (same_target c.args.targets.now i c.in-Some.target target here is));
      firsts = λ q.
          first_passed c.args.targets.now i c.loop-index.index c.in-Some.target q _ _ below last here (c.loop-index.invariant.firsts q)
          (c.in_ok-next-in-Some.ensures.updates.0 q);
    }

pub loop-index-preserved : goal.loop-index-preserved
loop-index-preserved c =
    let i : ℕ = c.loop-index.index - 1 in
    let last : c.loop-index.index ≡ i + 1 = omega (arith, c.loop-index-test.true) in
    let below : i < length c.args.targets.now = omega (arith, c.loop-index-test.true, c.loop-index.auto.index) in
    let here : get_or c.args.targets.now i None ≡ None = c.in-None.is in
    record {
      entries = c.loop-index.invariant.entries;
      next = λ index target from within is.
          c.loop-index.invariant.next index target (beyond c.args.targets.now i c.loop-index.index index target last here from is) within is;
      firsts = λ q. none_passed c.args.targets.now i c.loop-index.index q _ below last here (c.loop-index.invariant.firsts q);
    }
