-- What a worklist keeps, at its start and after takes and adds.
use Rattle.std.proofs.Common.{◌≡◌, ◌≢◌, ℕ, ◌+◌, ◌-◌, ◌<◌, ◌≤◌, ◌^◌, ◌⊎◌, Bool, true, false, List, Some, length, arith, ap, subst, sym, refl, ◌∙◌, inl, inr, set, slice_index, replicate}
use Rattle.std.specs.List.{slice_get, range_with_len}
use Rattle.std.proofs.lemmas.Bool.{cases_eq, cases_lt, lt-ltb, le-ltb, false≢true}
use Rattle.std.proofs.lemmas.List.{get_or-set_other, get_or-set_same, length-replicate, length-set}
use Rattle.std.proofs.lemmas.List.FromFn.{get_or-range_with_len, length-range_with_len}
use Rattle.std.proofs.lemmas.List.Sums.{count_by-le-length}
use Rattle.std.proofs.lemmas.Option.{same_Some}
use Rattle.omega_lift_schedules.specs.Schedule.{IsPending, Pending, with_added, with_taken}
use Rattle.omega_lift_schedules.specs.private.Worklist.{ClosesGap, IsWorklist, queued, slot_of}
use Rattle.omega_lift_schedules.proofs.Flags.{added_before, added_pending, pending_added, pending_all, pending_inside, pending_taken, taken_before, taken_other, waits_all, waits_newly, waits_below, waits_taken}

-- slots before the end
slot_low : (n first k : ℕ) → k < n - first → slot_of n first k ≡ first + k
slot_low n first k lt = rw (lt-ltb k (n - first) lt) refl

-- and round it
slot_high : (n first k : ℕ) → n - first ≤ k → slot_of n first k ≡ k - (n - first)
slot_high n first k le = rw (le-ltb k (n - first) le) refl

-- a slot is one of the ring
pub slot_inside : (n first k : ℕ) → first ≤ n → k < n → slot_of n first k < n
slot_inside n first k le lt = elim (cases_lt k (n - first)) [
  | inl low ↦ omega (arith, slot_low n first k low)
  | inr high ↦ omega (arith, slot_high n first k high)
]

-- slots of two indices differ
slot_apart : (n first j k : ℕ) → first ≤ n → j < n → k < n → j ≢ k → slot_of n first j ≢ slot_of n first k
slot_apart n first j k le in_j in_k ne same = elim (cases_lt j (n - first)) [
  | inl low_j ↦ elim (cases_lt k (n - first)) [
    | inl low_k ↦ ne (omega (arith, slot_low n first j low_j, slot_low n first k low_k))
    | inr high_k ↦ absurd (omega (arith, slot_low n first j low_j, slot_high n first k high_k))
  ]
  | inr high_j ↦ elim (cases_lt k (n - first)) [
    | inl low_k ↦ absurd (omega (arith, slot_high n first j high_j, slot_low n first k low_k))
    | inr high_k ↦ ne (omega (arith, slot_high n first j high_j, slot_high n first k high_k))
  ]
]

-- the first slot of what is left if the first one is taken off
next_first : (n first : ℕ) → first ≤ n → 0 < n → slot_of n first 1 ≤ n
next_first n first le some = elim (cases_lt 1 (n - first)) [
  | inl low ↦ omega (arith, slot_low n first 1 low)
  | inr high ↦ omega (arith, slot_high n first 1 high)
]

-- and the slots from there on
next_slot : (n first j : ℕ) → first ≤ n → j + 1 < n → slot_of n (slot_of n first 1) j ≡ slot_of n first (j + 1)
next_slot n first j le lt = elim (cases_lt 1 (n - first)) [
  | inl low ↦
      let e : slot_of n first 1 ≡ first + 1 = slot_low n first 1 low in
      elim (cases_lt (j + 1) (n - first)) [
        | inl inside ↦ rw e (slot_low n (first + 1) j (omega arith) ∙ (omega (arith, slot_low n first (j + 1) inside)))
        | inr round ↦ rw e (slot_high n (first + 1) j (omega arith) ∙ (omega (arith, slot_high n first (j + 1) round)))
      ]
  | inr high ↦
      let e : slot_of n first 1 ≡ 1 - (n - first) = slot_high n first 1 high in
      let round : slot_of n first (j + 1) ≡ (j + 1) - (n - first) = slot_high n first (j + 1) (omega arith) in
      rw e (slot_low n (1 - (n - first)) j (omega arith) ∙ (omega (arith, round)))
]

-- the place that was just written to the queue
queued_same : (ring : List ℕ) (first k x : ℕ) → first ≤ length ring → k < length ring
    → queued (set ring (slot_of (length ring) first k) x) first k ≡ x
queued_same ring first k x le lt =
    rw (length-set ring (slot_of (length ring) first k) x)
    (get_or-set_same ring (slot_of (length ring) first k) x 0 (slot_inside (length ring) first k le lt))

-- another than the one that was written
queued_other : (ring : List ℕ) (first k j x : ℕ) → first ≤ length ring → k < length ring → j < length ring → j ≢ k
    → queued (set ring (slot_of (length ring) first k) x) first j ≡ queued ring first j
queued_other ring first k j x le in_k in_j ne =
    rw (length-set ring (slot_of (length ring) first k) x)
    (get_or-set_other ring (slot_of (length ring) first k) (slot_of (length ring) first j) x 0
    (slot_apart (length ring) first j k le in_j in_k ne))

-- the queue is no longer than the ring
pub worklist_fits : (pending : Pending) (ring : List ℕ) (first count : ℕ) → IsWorklist pending ring first count → count ≤ length ring
worklist_fits pending ring first count w = omega (arith, w.counted, w.slots, count_by-le-length (λ (flag : Bool). flag) pending.flags)

-- what a worklist keeps holds after a place is added that was not pending
pub worklist_added : (pending : Pending) (ring : List ℕ) (first count place : ℕ) → IsWorklist pending ring first count
    → slice_get pending.flags place ≡ Some false → place < length pending.flags
    → IsWorklist (with_added pending place) (set ring (slot_of (length ring) first count) place) first (count + 1)
worklist_added pending ring first count place w idle inside =
    let room : count < length ring = omega (arith, w.counted, w.slots, waits_below pending place idle) in
    let written = set ring (slot_of (length ring) first count) place in
    let same : queued written first count ≡ place = queued_same ring first count place w.begins room in
    let kept = λ (k : ℕ) (lt : k < count).
    let inside_k : k < length ring = omega arith in
    let ne : k ≢ count = omega arith in
    queued_other ring first count k place w.begins room inside_k ne in
    record {
      small = omega (arith, w.small, length-set ring (slot_of (length ring) first count) place);
      slots = length-set ring (slot_of (length ring) first count) place ∙ (w.slots ∙ sym (length-set pending.flags place true));
      begins = omega (arith, w.begins, length-set ring (slot_of (length ring) first count) place);
      counted = omega (arith, w.counted, waits_newly pending place idle);
      listed = λ k lt. elim (cases_eq k count) [
        | inl e ↦ subst (λ (v : ℕ). IsPending (with_added pending place) v)
            (sym (subst (λ (i : ℕ). queued written first i ≡ place) (sym e) same)) (added_pending pending place inside)
        | inr ne ↦
            let below : k < count = omega arith in
            subst (λ (v : ℕ). IsPending (with_added pending place) v) (sym (kept k below))
            (pending_added pending place (queued ring first k) (w.listed k below))
      ];
      apart = λ j k lt lt_k same_place. elim (cases_eq k count) [
        | inl e ↦
            let below : j < count = omega arith in
            let last : queued written first k ≡ place = subst (λ (i : ℕ). queued written first i ≡ place) (sym e) same in
            let was : queued ring first j ≡ place = sym (kept j below) ∙ (same_place ∙ last) in
            false≢true (same_Some false true (sym idle ∙ subst (λ (v : ℕ). IsPending pending v) was (w.listed j below)))
        | inr ne ↦
            let below_k : k < count = omega arith in
            let below_j : j < count = omega arith in
            w.apart j k lt below_k (sym (kept j below_j) ∙ (same_place ∙ kept k below_k))
      ];
      all = λ v waiting. elim (cases_eq v place) [
        | inl e ↦ (count, omega arith, same ∙ sym e)
        | inr ne ↦
            let at = w.all v (added_before pending place v ne waiting) in
            (at.0, (let lt = at.1 in omega arith), kept at.0 at.1 ∙ at.2)
      ];
    }

-- i is the k-th place of the queue once the one at `gap` is taken out
abbrev Follows : ℕ → ℕ → ℕ → Type 0
Follows gap k i = ((k < gap) × (i ≡ k)) ⊎ ((gap ≤ k) × (i ≡ k + 1))

-- it is not the one taken out
follows_other : (gap k i : ℕ) → Follows gap k i → i ≢ gap
follows_other gap k i (inl (low, e)) same = absurd (omega arith)
follows_other gap k i (inr (high, e)) same = absurd (omega arith)

-- and two of them differ
follows_apart : (gap j k i l : ℕ) → j < k → Follows gap j i → Follows gap k l → i ≢ l
follows_apart gap j k i l lt (inl (low_j, i_is)) (inl (low_k, l_is)) same = absurd (omega arith)
follows_apart gap j k i l lt (inl (low_j, i_is)) (inr (high_k, l_is)) same = absurd (omega arith)
follows_apart gap j k i l lt (inr (high_j, i_is)) (inl (low_k, l_is)) same = absurd (omega arith)
follows_apart gap j k i l lt (inr (high_j, i_is)) (inr (high_k, l_is)) same = absurd (omega arith)

-- there is only one
follows_is : (gap k i l : ℕ) → Follows gap k i → Follows gap k l → i ≡ l
follows_is gap k i l (inl (low, i_is)) (inl (low_l, l_is)) = omega arith
follows_is gap k i l (inl (low, i_is)) (inr (high, l_is)) = absurd (omega arith)
follows_is gap k i l (inr (high, i_is)) (inl (low, l_is)) = absurd (omega arith)
follows_is gap k i l (inr (high, i_is)) (inr (high_l, l_is)) = omega arith

-- the k-th place of the queue once the one at `gap` is taken out
queued_taken : (ring new : List ℕ) (first gap count k : ℕ) → first ≤ length ring → count ≤ length ring → gap < count → k < count - 1
    → ClosesGap ring first gap new
    → (i : ℕ) × (i < count) × (queued new (slot_of (length new) first 1) k ≡ queued ring first i) × Follows gap k i
queued_taken ring new first gap count k le fits in_gap lt closes =
    let inside : k + 1 < length new = omega (arith, closes.entries) in
    let begins : first ≤ length new = omega (arith, closes.entries) in
    let moved : queued new (slot_of (length new) first 1) k ≡ queued new first (k + 1) =
    ap (λ (slot : ℕ). slice_index new slot) (next_slot (length new) first k begins inside) in
    elim (cases_lt k gap) [
      | inl low ↦ (k, omega arith, moved ∙ closes.later k low, inl (low, refl))
      | inr high ↦ (k + 1, omega arith, moved ∙ closes.others (k + 1) (omega arith) (omega arith), inr (high, refl))
    ]

-- two places of a queue differ
distinct : (pending : Pending) (ring : List ℕ) (first count j k : ℕ) → IsWorklist pending ring first count → j < count → k < count → j ≢ k
    → queued ring first j ≢ queued ring first k
distinct pending ring first count j k w in_j in_k ne same = elim (cases_lt j k) [
  | inl below ↦ w.apart j k below in_k same
  | inr above ↦ w.apart k j (omega arith) in_j (sym same)
]

-- what a worklist keeps holds after a take
pub worklist_taken : (pending : Pending) (ring new : List ℕ) (first count gap place : ℕ) → IsWorklist pending ring first count
    → IsPending pending place → gap < count → queued ring first gap ≡ place → ClosesGap ring first gap new
    → IsWorklist (with_taken pending place) new (slot_of (length new) first 1) (count - 1)
worklist_taken pending ring new first count gap place w waiting in_gap stands closes =
    let fits = worklist_fits pending ring first count w in
    let inside = pending_inside pending place waiting in
    let some : 0 < length new = omega (arith, closes.entries) in
    let begins : first ≤ length new = omega (arith, w.begins, closes.entries) in
    let from = λ (k : ℕ) (lt : k < count - 1). queued_taken ring new first gap count k w.begins fits in_gap lt closes in
    record {
      small = omega (arith, w.small, closes.entries);
      slots = closes.entries ∙ (w.slots ∙ sym (length-set pending.flags place false));
      begins = next_first (length new) first begins some;
      counted = omega (arith, w.counted, waits_taken pending place waiting);
      listed = λ k lt.
          let i = from k lt in
          subst (λ (v : ℕ). IsPending (with_taken pending place) v) (sym i.2)
          (pending_taken pending place (queued ring first i.0)
          (λ same. distinct pending ring first count i.0 gap w i.1 in_gap (follows_other gap k i.0 i.3) (same ∙ sym stands)) (w.listed i.0 i.1));
      apart = λ j k lt lt_k same.
          let below : j < count - 1 = omega arith in
          let i = from j below in
          let l = from k lt_k in
          distinct pending ring first count i.0 l.0 w i.1 l.1 (follows_apart gap j k i.0 l.0 lt i.3 l.3) (sym i.2 ∙ (same ∙ l.2));
      all = λ v still.
          let at = w.all v (taken_before pending place v inside still) in
          let in_at : at.0 < count = at.1 in
          let ne : at.0 ≢ gap = λ (e : at.0 ≡ gap). taken_other pending place v inside still
          (sym at.2 ∙ (ap (λ (i : ℕ). queued ring first i) e ∙ stands)) in
          elim (cases_lt at.0 gap) [
            | inl low ↦
                let lt : at.0 < count - 1 = omega arith in
                let i = from at.0 lt in
                let same : i.0 ≡ at.0 = follows_is gap at.0 i.0 at.0 i.3 (inl (low, refl)) in
                (at.0, lt, i.2 ∙ (ap (λ (l : ℕ). queued ring first l) same ∙ at.2))
            | inr high ↦
                let above : gap < at.0 = omega arith in
                let lt : at.0 - 1 < count - 1 = omega arith in
                let i = from (at.0 - 1) lt in
                let same : i.0 ≡ at.0 = follows_is gap (at.0 - 1) i.0 at.0 i.3 (inr (omega arith, omega arith)) in
                (at.0 - 1, lt, i.2 ∙ (ap (λ (l : ℕ). queued ring first l) same ∙ at.2))
          ];
    }

-- the places in rising order, as they are queued at first
queued_start : (n k : ℕ) → k < n → queued (range_with_len 0 n) 0 k ≡ k
queued_start n k lt =
    rw (length-range_with_len 0 n)
    (rw (slot_low n 0 k (omega arith)) (get_or-range_with_len 0 n (0 + k) 0 (omega arith) ∙ (omega arith)))

-- what a worklist keeps holds at its start
pub worklist_start : (flags : List Bool) (ring : List ℕ) (n : ℕ) → flags ≡ replicate n true → ring ≡ range_with_len 0 n → n < 2 ^ 32
    → IsWorklist (record { flags = flags; taken = 0 }) ring 0 n
worklist_start flags ring n same_flags same_ring small =
    subst (λ (f : List Bool). IsWorklist (record { flags = f; taken = 0 }) ring 0 n) (sym same_flags)
    (subst (λ (r : List ℕ). IsWorklist (record { flags = replicate n true; taken = 0 }) r 0 n) (sym same_ring)
    (record {
      small = omega (arith, small, length-range_with_len 0 n);
      slots = length-range_with_len 0 n ∙ sym (length-replicate n true);
      begins = omega arith;
      counted = sym (waits_all n);
      listed = λ k lt. subst (λ (v : ℕ). IsPending (record { flags = replicate n true; taken = 0 }) v) (sym (queued_start n k lt)) (pending_all n k lt);
      apart = λ j k lt lt_k same.
          let below : j < n = omega arith in
          let e : j ≡ k = sym (queued_start n j below) ∙ (same ∙ queued_start n k lt_k) in absurd (omega arith);
      all = λ v waiting.
          let lt : v < n = omega (arith, pending_inside (record { flags = replicate n true; taken = 0 }) v waiting, length-replicate n true) in
          (v, lt, queued_start n v lt);
    }))
