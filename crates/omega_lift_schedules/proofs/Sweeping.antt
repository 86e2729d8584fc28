-- What a sweep keeps, at its start and after takes and adds.
use Rattle.std.proofs.Common.{◌≡◌, ℕ, ◌+◌, ◌-◌, ◌<◌, ◌^◌, Bool, true, false, List, Some, replicate, arith, subst, sym}
use Rattle.std.specs.List.{slice_get}
use Rattle.std.proofs.lemmas.List.{length-replicate, length-set}
use Rattle.omega_lift_schedules.specs.Schedule.{IsPending, Pending, with_added, with_taken}
use Rattle.omega_lift_schedules.specs.private.Sweep.{IsSweep}
use Rattle.omega_lift_schedules.proofs.Flags.{pending_all, waits_all, waits_newly, waits_taken}

-- what a sweep keeps holds at its start
pub sweep_start : (flags : List Bool) (n : ℕ) → flags ≡ replicate n true → n < 2 ^ 32 → IsSweep (record { flags = flags; taken = 0 }) 0 n
sweep_start flags n e small =
    subst (λ (f : List Bool). IsSweep (record { flags = f; taken = 0 }) 0 n) (sym e) (record {
      small = omega (arith, small, length-replicate n true);
      counted = sym (waits_all n);
      stands = λ some. pending_all n 0 some;
    })

-- what a sweep keeps holds after a take, at a place that is pending if one is
pub sweep_taken : (pending : Pending) (place at count next : ℕ) → IsSweep pending at count → IsPending pending place
    → (0 < count - 1 → IsPending (with_taken pending place) next)
    → IsSweep (with_taken pending place) next (count - 1)
sweep_taken pending place at count next sweep waiting stands = record {
  small = omega (arith, sweep.small, length-set pending.flags place false);
  counted = omega (arith, sweep.counted, waits_taken pending place waiting);
  stands = stands;
}

-- and after a place is added that was not pending, at a place that is pending then
pub sweep_added : (pending : Pending) (place at count next : ℕ) → IsSweep pending at count → slice_get pending.flags place ≡ Some false
    → IsPending (with_added pending place) next
    → IsSweep (with_added pending place) next (count + 1)
sweep_added pending place at count next sweep idle stands = record {
  small = omega (arith, sweep.small, length-set pending.flags place true);
  counted = omega (arith, sweep.counted, waits_newly pending place idle);
  stands = λ _. stands;
}
