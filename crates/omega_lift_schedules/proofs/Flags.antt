-- Flags of pending places: what a take or an add changes, and how many are pending.
use Rattle.std.proofs.Common.{inl, inr, ◌≡◌, ◌≢◌, ◌↔◌, ℕ, ◌+◌, ◌<◌, ◌≤◌, zero, suc, Bool, true, false, List, [], ◌∷◌, Some, length, arith, refl, sym, ap, ◌∙◌, get_or, set, cond, replicate, subst}
use Rattle.std.specs.List.{slice_get, count_by}
use Rattle.std.proofs.lemmas.Bool.{cases_eq, false≢true}
use Rattle.std.proofs.lemmas.List.{get_or-replicate, length-replicate, length-set}
use Rattle.std.proofs.lemmas.List.Folds.{sum_by-replicate}
use Rattle.std.proofs.lemmas.List.Sums.{count_by-le-length, sum_by-cons, sum_by-set}
use Rattle.std.proofs.lemmas.Option.{slice_get_within, get_or_from_slice_get, same_Some, slice_get-get_or, slice_get_read}
use Rattle.omega_lift_schedules.specs.Schedule.{IsIdle, IsPending, Pending, all_pending, with_added, with_taken, waits}

-- an element that was just written
pub slice_get-set_same : {X : Type 0} (xs : List X) (i : ℕ) (y : X) → i < length xs → slice_get (set xs i y) i ≡ Some y
slice_get-set_same [] i y lt = absurd (omega arith)
slice_get-set_same (x ∷ xs) zero y lt = refl
slice_get-set_same (x ∷ xs) (suc i) y lt = slice_get-set_same xs i y (omega arith)

-- another than the one that was written
pub slice_get-set_other : {X : Type 0} (xs : List X) (i j : ℕ) (y : X) → j ≢ i → slice_get (set xs i y) j ≡ slice_get xs j
slice_get-set_other [] i j y ne = refl
slice_get-set_other (x ∷ xs) zero zero y ne = absurd (ne refl)
slice_get-set_other (x ∷ xs) zero (suc j) y ne = refl
slice_get-set_other (x ∷ xs) (suc i) zero y ne = refl
slice_get-set_other (x ∷ xs) (suc i) (suc j) y ne = slice_get-set_other xs i j y (λ e. ne (ap suc e))

-- a pending place is one of the schedule's
pub pending_inside : (pending : Pending) (v : ℕ) → IsPending pending v → v < length pending.flags
pending_inside pending v at = slice_get_within pending.flags v true at

-- an added place is pending
pub added_pending : (pending : Pending) (v : ℕ) → v < length pending.flags → IsPending (with_added pending v) v
added_pending pending v lt = slice_get-set_same pending.flags v true lt

-- what was pending stays so as a place is added
pub pending_added : (pending : Pending) (v u : ℕ) → IsPending pending u → IsPending (with_added pending v) u
pending_added pending v u at = elim (cases_eq u v) [
  | inl e ↦ let lt : v < length pending.flags = omega (arith, pending_inside pending u at) in rw e (added_pending pending v lt)
  | inr ne ↦ slice_get-set_other pending.flags v u true ne ∙ at
]

-- what was pending stays so as another place is taken
pub pending_taken : (pending : Pending) (v u : ℕ) → u ≢ v → IsPending pending u → IsPending (with_taken pending v) u
pending_taken pending v u ne at = slice_get-set_other pending.flags v u false ne ∙ at

-- a test that passes counts one
pub one_if : (b : Bool) → b ≡ true → cond {A = ℕ} b 1 0 ≡ 1
one_if true e = refl
one_if false e = absurd (false≢true e)

-- a test that fails counts none
none_if : (b : Bool) → b ≡ false → cond {A = ℕ} b 1 0 ≡ 0
none_if true e = absurd (false≢true (sym e))
none_if false e = refl

-- a test counts at most one
one_at_most : (b : Bool) → cond {A = ℕ} b 1 0 ≤ 1
one_at_most true = omega arith
one_at_most false = omega arith

-- at most one more place is pending as one is added
pub waits_added : (pending : Pending) (v : ℕ) → v < length pending.flags → waits (with_added pending v) ≤ waits pending + 1
waits_added pending v lt =
    let step = sum_by-set (λ (flag : Bool). cond {A = ℕ} flag 1 0) pending.flags v true true lt in omega arith

-- and none less
pub waits_kept : (pending : Pending) (v : ℕ) → v < length pending.flags → waits pending ≤ waits (with_added pending v)
waits_kept pending v lt =
    let step = sum_by-set (λ (flag : Bool). cond {A = ℕ} flag 1 0) pending.flags v true true lt in
    omega (arith, step, one_at_most (get_or pending.flags v true))

-- one place less is pending as one is taken
pub waits_taken : (pending : Pending) (v : ℕ) → IsPending pending v → waits (with_taken pending v) + 1 ≡ waits pending
waits_taken pending v at =
    let lt = pending_inside pending v at in
    let step = sum_by-set (λ (flag : Bool). cond {A = ℕ} flag 1 0) pending.flags v false true lt in
    omega (arith, step, one_if (get_or pending.flags v true) (get_or_from_slice_get pending.flags v true true at))

-- one place more is pending as one that was not is added
pub waits_newly : (pending : Pending) (v : ℕ) → slice_get pending.flags v ≡ Some false → waits (with_added pending v) ≡ waits pending + 1
waits_newly pending v at =
    let lt = slice_get_within pending.flags v false at in
    let step = sum_by-set (λ (flag : Bool). cond {A = ℕ} flag 1 0) pending.flags v true false lt in
    omega (arith, step, none_if (get_or pending.flags v false) (get_or_from_slice_get pending.flags v false false at))

-- a place that is not pending leaves room
pub waits_below : (pending : Pending) (v : ℕ) → slice_get pending.flags v ≡ Some false → waits pending < length pending.flags
waits_below pending v at =
    omega (arith, waits_newly pending v at, count_by-le-length (λ (flag : Bool). flag) (with_added pending v).flags, length-set pending.flags v true)

none_counted_idle : (flags : List Bool) → count_by (λ flag. flag) flags ≡ 0 → (v : ℕ) → v < length flags → slice_get flags v ≡ Some false
none_counted_idle [] none v lt = absurd (omega arith)
none_counted_idle (true ∷ flags) none v lt = absurd (omega (arith, sum_by-cons (λ (flag : Bool). cond {A = ℕ} flag 1 0) true flags))
none_counted_idle (false ∷ flags) none zero lt = refl
none_counted_idle (false ∷ flags) none (suc v) lt =
    none_counted_idle flags (omega (arith, sum_by-cons (λ (flag : Bool). cond {A = ℕ} flag 1 0) false flags)) v (omega arith)

-- no place is pending if none counts
pub idle_none : (pending : Pending) → waits pending ≡ 0 → IsIdle pending
idle_none pending none = none_counted_idle pending.flags none

none_counted : (flags : List Bool) → ((v : ℕ) → v < length flags → slice_get flags v ≡ Some false) → count_by (λ flag. flag) flags ≡ 0
none_counted [] idle = refl
none_counted (true ∷ flags) idle = absurd (false≢true (sym (same_Some true false (idle 0 (omega arith)))))
none_counted (false ∷ flags) idle =
    omega (arith, sum_by-cons (λ (flag : Bool). cond {A = ℕ} flag 1 0) false flags, none_counted flags (λ v lt. idle (suc v) (omega arith)))

-- and the other way
pub waits_none : (pending : Pending) → IsIdle pending → waits pending ≡ 0
waits_none pending idle = none_counted pending.flags idle

-- what a read of a flag shows
pub not_pending : (flags : List Bool) (v : ℕ) (b : Bool) → v < length flags → b ≡ get_or flags v b → b ≡ false → slice_get flags v ≡ Some false
not_pending flags v b lt read e = slice_get_read flags (length flags) v b refl lt read ∙ ap Some e

-- a flag says whether a place is pending
pub pending_if : (flags : List Bool) (v : ℕ) (b : Bool) → slice_get flags v ≡ Some b → (b ≡ true) ↔ (slice_get flags v ≡ Some true)
pending_if flags v b at = (λ yes. at ∙ ap Some yes, λ waiting. same_Some b true (sym at ∙ waiting))

pub flag_pending : (flags : List Bool) (v : ℕ) (b : Bool) → v < length flags → b ≡ get_or flags v b → (b ≡ true) ↔ (slice_get flags v ≡ Some true)
flag_pending flags v b lt read = pending_if flags v b (slice_get_read flags (length flags) v b refl lt read)

-- at first as many places are pending as there are
pub waits_all : (n : ℕ) → waits (all_pending n) ≡ n
waits_all n = omega (arith, sum_by-replicate (λ (flag : Bool). cond {A = ℕ} flag 1 0) n true)

-- and each is
pub pending_all : (n v : ℕ) → v < n → IsPending (all_pending n) v
pending_all n v lt =
    let inside : v < length (replicate n true) = omega (arith, length-replicate n true) in
    slice_get-get_or (replicate n true) v true inside ∙ ap Some (get_or-replicate n v true true lt)

-- what is pending after a take is another place that was pending before
pub taken_other : (pending : Pending) (v u : ℕ) → v < length pending.flags → IsPending (with_taken pending v) u → u ≢ v
taken_other pending v u lt at e =
    let cleared = slice_get-set_same pending.flags v false lt in
    let still : slice_get (set pending.flags v false) v ≡ Some true = subst (λ (w : ℕ). IsPending (with_taken pending v) w) e at in
    false≢true (same_Some false true (sym cleared ∙ still))

pub taken_before : (pending : Pending) (v u : ℕ) → v < length pending.flags → IsPending (with_taken pending v) u → IsPending pending u
taken_before pending v u lt at = sym (slice_get-set_other pending.flags v u false (taken_other pending v u lt at)) ∙ at

-- what is pending after an add was pending before, or is the place added
pub added_before : (pending : Pending) (v u : ℕ) → u ≢ v → IsPending (with_added pending v) u → IsPending pending u
added_before pending v u ne at = sym (slice_get-set_other pending.flags v u true ne) ∙ at
