-- The numbers of variables in the order of the canonical form, and the circuit that is made with them.
use Rattle.std.proofs.Common.{◌≡◌, ◌⊎◌, inl, inr, ℕ, ◌+◌, ◌*◌, ◌/◌, ◌<◌, ◌≤◌, Bool, true, false, not, cond, List, [], ◌∷◌, ◌++◌, length, map, get_or, take, refl, sym, ap, ◌∙◌, subst, arith, length-append}
use Rattle.std.specs.Prelude.{nat_eq}
use Rattle.std.specs.List.{Contains, IsDistinct, list_any, range_with_len}
use Rattle.std.proofs.lemmas.Bool.{cases_lt, false≢true}
use Rattle.std.proofs.lemmas.List.{ext_get_or, get_or-append-add, get_or-map, get_or-take, get_or_append_left, get_or_default, get_or_push, length-map, length-take, length_push, take_all, take_more}
use Rattle.std.proofs.lemmas.List.Elements.{Contains-append_left, Contains-push}
use Rattle.std.proofs.lemmas.List.FromFn.{get_or-map-range_with_len, get_or-range_with_len, length-range_with_len, map-range_with_len_more}
use Rattle.indexmap.specs.IndexSet.{insert_key}
use Rattle.omega_circuit.specs.Canonical.{literals_from}
use Rattle.omega_circuit.specs.private.Numbers.{gate_at}
use Rattle.omega_circuit.specs.private.Renumbered.{AddsNet, AreLatchesFrom, AreReady, IsEarlier, IsNumbering, latch_at, own}
use Rattle.omega_circuit.specs.declared.gate.Gate.{Gate}
use Rattle.omega_circuit.specs.declared.latch.Latch.{Latch}
use Rattle.omega_circuit.proofs.Members.{found_with}
use Rattle.omega_circuit.proofs.Places.{contained_at, one_place, place_of}

abbrev no_gate : Gate
no_gate = record { literal = 0; left = 0; right = 0 }

abbrev no_latch : Latch
no_latch = record { literal = 0; next = 0; reset = 0 }

-- a number at a place is there
pub there_at : (xs : List ℕ) (p x : ℕ) → p < length xs → get_or xs p 0 ≡ x → Contains xs x
there_at xs p x within is = (p, within, get_or_default xs p x 0 within ∙ is)

-- numbers at different places of different numbers differ
pub place_is : (xs : List ℕ) (p q : ℕ) → IsDistinct nat_eq xs → p < length xs → q < length xs → get_or xs p 0 ≡ get_or xs q 0 → p ≡ q
place_is xs p q apart one other same = sym (one_place xs p apart one) ∙ ap (place_of xs) same ∙ one_place xs q apart other

-- no number is among those before it
pub not_before : (n : ℕ) → list_any (nat_eq n) (range_with_len 0 n) ≡ false
not_before n = go (list_any (nat_eq n) (range_with_len 0 n)) refl
  where
    go : (b : Bool) → list_any (nat_eq n) (range_with_len 0 n) ≡ b → b ≡ false
    go false is = refl
    go true is =
        let at = contained_at (range_with_len 0 n) n (found_with (range_with_len 0 n) n is) in
        let e = length-range_with_len 0 n in
        let small : at.0 < n = omega (arith, at.1, e) in
        let v = get_or-range_with_len 0 n at.0 0 small in
        absurd (omega (arith, v, at.2, small))

-- no gates are numbered at first
pub numbering_none : (first : ℕ) (steps : List Gate) (numbers : List ℕ) (nets : List Gate) → numbers ≡ range_with_len 0 first → nets ≡ [] → IsDistinct nat_eq numbers
    → IsNumbering first (take 0 steps) numbers nets
numbering_none first steps numbers nets is none apart = record {
  order = is ∙ sym (append_none (range_with_len 0 first)) ∙ ap (λ (l : List Gate). range_with_len 0 first ++ map own l) (sym none);
  apart = apart;
  some = λ j within. absurd (nothing j within);
  every = λ i within. absurd (omega (arith, within));
  ready = λ j within. absurd (nothing j within);
}
  where
    append_none : (xs : List ℕ) → xs ++ [] ≡ xs
    append_none [] = refl
    append_none (x ∷ xs) = ap (λ (l : List ℕ). x ∷ l) (append_none xs)

    nothing : (j : ℕ) → j < length nets → ⊥
    nothing j within = let e : length nets ≡ 0 = ap (λ (l : List Gate). length l) none in omega (arith, e, within)

module _ (first : ℕ) (steps : List Gate) (numbers : List ℕ) (nets : List Gate) where
  pub numbers_long : IsNumbering first steps numbers nets → length numbers ≡ first + length nets
  numbers_long is =
      ap (λ (l : List ℕ). length l) is.order ∙ length-append (range_with_len 0 first) (map own nets)
      ∙ (let e = length-range_with_len 0 first in let m = length-map nets own in omega (arith, e, m))

  pub first_number : IsNumbering first steps numbers nets → (p : ℕ) → p < first → get_or numbers p 0 ≡ p
  first_number is p small =
      let e = length-range_with_len 0 first in
      ap (λ (l : List ℕ). get_or l p 0) is.order ∙ get_or_append_left (range_with_len 0 first) (map own nets) 0 p (omega (arith, small, e))
      ∙ get_or-range_with_len 0 first p 0 small ∙ (let z : 0 + p ≡ p = omega arith in z)

  pub net_number : IsNumbering first steps numbers nets → (j : ℕ) → j < length nets → get_or numbers (first + j) 0 ≡ own (gate_at nets j)
  net_number is j within =
      let e : first + j ≡ length (range_with_len 0 first) + j = let l = length-range_with_len 0 first in omega (arith, l) in
      ap (λ (l : List ℕ). get_or l (first + j) 0) is.order ∙ ap (λ n. get_or (range_with_len 0 first ++ map own nets) n 0) e
      ∙ get_or-append-add (range_with_len 0 first) (map own nets) j 0 ∙ get_or-map own nets j no_gate 0 within

-- one gate more
module _ (first : ℕ) (steps : List Gate) (ready : AreReady first steps) (i : ℕ) (within : i < length steps) (numbers : List ℕ) (nets : List Gate)
    (is : IsNumbering first (take i steps) numbers nets) where
  abbrev net : Gate
  net = gate_at steps i

  front_long : length (take i steps) ≡ i
  front_long = let e = length-take i steps in omega (arith, e, within)

  more_long : length (take (i + 1) steps) ≡ i + 1
  more_long = let e = length-take (i + 1) steps in omega (arith, e, within)

  front_at : (m : ℕ) → m < i → gate_at (take (i + 1) steps) m ≡ gate_at (take i steps) m
  front_at m before = get_or-take (i + 1) steps m no_gate (omega (arith, before)) ∙ sym (get_or-take i steps m no_gate before)

  last_at : gate_at (take (i + 1) steps) i ≡ net
  last_at = get_or-take (i + 1) steps i no_gate (omega arith)

  -- what is earlier has its number already
  earlier_there : (literal : ℕ) → IsEarlier first (take i steps) literal → Contains numbers (literal / 2)
  earlier_there literal (inl small) =
      let long = numbers_long first (take i steps) numbers nets is in
      there_at numbers (literal / 2) (literal / 2) (omega (arith, small, long)) (first_number first (take i steps) numbers nets is (literal / 2) small)
  earlier_there literal (inr there) =
      let at = contained_at (map own (take i steps)) (literal / 2) there in
      let inside : at.0 < length (take i steps) = let e = length-map (take i steps) own in omega (arith, at.1, e) in
      subst (Contains numbers) (sym (get_or-map own (take i steps) at.0 no_gate 0 inside) ∙ at.2) (is.every at.0 inside)

  every_more : (new_numbers : List ℕ) → ((x : ℕ) → Contains numbers x → Contains new_numbers x) → Contains new_numbers (own net)
      → (m : ℕ) → m < length (take (i + 1) steps) → Contains new_numbers (own (gate_at (take (i + 1) steps) m))
  every_more new_numbers kept new m inside = go (cases_lt m i)
    where
      go : (m < i) ⊎ (i ≤ m) → Contains new_numbers (own (gate_at (take (i + 1) steps) m))
      go (inl before) = subst (λ (g : Gate). Contains new_numbers (own g)) (sym (front_at m before)) (kept (own (gate_at (take i steps) m)) (is.every m (omega (arith, before, front_long))))
      go (inr past) =
          let here : m ≡ i = omega (arith, past, inside, more_long) in
          subst (λ n. Contains new_numbers (own (gate_at (take (i + 1) steps) n))) (sym here) (subst (λ (g : Gate). Contains new_numbers (own g)) (sym last_at) new)

  step_there : (gate : Gate) → Contains (take i steps) gate → Contains (take (i + 1) steps) gate
  step_there gate there =
      let inside : there.0 < i = omega (arith, there.1, front_long) in (
        there.0,
        omega (arith, inside, more_long),
        get_or-take (i + 1) steps there.0 gate (omega (arith, inside)) ∙ sym (get_or-take i steps there.0 gate inside) ∙ there.2,
      )

  net_there : Contains (take (i + 1) steps) net
  net_there = (i, omega (arith, more_long), get_or-take (i + 1) steps i net (omega arith) ∙ get_or_default steps i net no_gate within)

  pub numbering_more : (new_numbers : List ℕ) (new_nets : List Gate) → IsDistinct nat_eq new_numbers → AddsNet numbers new_numbers nets new_nets net
      → IsNumbering first (take (i + 1) steps) new_numbers new_nets
  numbering_more new_numbers new_nets apart (inr old) =
      subst (λ (l : List ℕ). IsNumbering first (take (i + 1) steps) l new_nets) (sym old.1)
      (subst (λ (l : List Gate). IsNumbering first (take (i + 1) steps) numbers l) (sym old.2) (record {
        order = is.order;
        apart = is.apart;
        some = λ j small. step_there (gate_at nets j) (is.some j small);
        every = every_more numbers (λ x has. has) old.0;
        ready = is.ready;
      }))
  numbering_more new_numbers new_nets apart (inl new) =
      subst (λ (l : List Gate). IsNumbering first (take (i + 1) steps) new_numbers l) (sym new.1) (record {
        order = new.0 ∙ ap (λ (l : List ℕ). l ++ own net ∷ []) is.order ∙ append_assoc_one (range_with_len 0 first) (map own nets) ∙ ap (λ (l : List ℕ). range_with_len 0 first ++ l) (sym (map_one nets));
        apart = apart;
        some = λ j small. some j small (cases_lt j (length nets));
        every = subst (λ (l : List ℕ). (m : ℕ) → m < length (take (i + 1) steps) → Contains l (own (gate_at (take (i + 1) steps) m))) (sym new.0)
            (every_more (numbers ++ own net ∷ []) (λ x has. Contains-append_left numbers (own net ∷ []) x has) (Contains-push numbers (own net)));
        ready = subst (λ (l : List ℕ). (j : ℕ) → j < length (nets ++ net ∷ []) → Contains (take (first + j) l) ((gate_at (nets ++ net ∷ []) j).left / 2) × Contains (take (first + j) l) ((gate_at (nets ++ net ∷ []) j).right / 2)) (sym new.0)
            (λ j small. now_ready j small (cases_lt j (length nets)));
      })
    where
      append_assoc_one : (xs ys : List ℕ) → (xs ++ ys) ++ own net ∷ [] ≡ xs ++ (ys ++ own net ∷ [])
      append_assoc_one [] ys = refl
      append_assoc_one (x ∷ xs) ys = ap (λ (l : List ℕ). x ∷ l) (append_assoc_one xs ys)

      map_one : (gates : List Gate) → map own (gates ++ net ∷ []) ≡ map own gates ++ own net ∷ []
      map_one [] = refl
      map_one (g ∷ gates) = ap (λ (l : List ℕ). own g ∷ l) (map_one gates)

      long : length numbers ≡ first + length nets
      long = numbers_long first (take i steps) numbers nets is

      some : (j : ℕ) → j < length (nets ++ net ∷ []) → (j < length nets) ⊎ (length nets ≤ j) → Contains (take (i + 1) steps) (gate_at (nets ++ net ∷ []) j)
      some j small (inl before) = subst (Contains (take (i + 1) steps)) (sym (get_or_append_left nets (net ∷ []) no_gate j before)) (step_there (gate_at nets j) (is.some j before))
      some j small (inr end) =
          let pushed = length_push nets net in
          subst (Contains (take (i + 1) steps)) (sym (get_or_push nets net no_gate j (omega (arith, pushed, small, end)))) net_there

      front_kept : (j : ℕ) → j ≤ length nets → take (first + j) (numbers ++ own net ∷ []) ≡ take (first + j) numbers
      front_kept j small = take_of_append (first + j) numbers (omega (arith, long, small))
        where
          take_of_append : (n : ℕ) (xs : List ℕ) → n ≤ length xs → take n (xs ++ own net ∷ []) ≡ take n xs
          take_of_append n xs fits = ext_get_or 0 (take n (xs ++ own net ∷ [])) (take n xs)
              (let a = length-take n (xs ++ own net ∷ []) in let b = length-take n xs in let e = length_push xs (own net) in omega (arith, a, b, e, fits))
              (λ k inside. let low : k < n = let a = length-take n (xs ++ own net ∷ []) in omega (arith, a, inside) in
              get_or-take n (xs ++ own net ∷ []) k 0 low ∙ get_or_append_left xs (own net ∷ []) 0 k (omega (arith, low, fits)) ∙ sym (get_or-take n xs k 0 low))

      take_whole : take (first + length nets) numbers ≡ numbers
      take_whole = ext_get_or 0 (take (first + length nets) numbers) numbers (let a = length-take (first + length nets) numbers in omega (arith, a, long))
          (λ k inside. get_or-take (first + length nets) numbers k 0 (let a = length-take (first + length nets) numbers in omega (arith, a, inside)))

      now_ready : (j : ℕ) → j < length (nets ++ net ∷ []) → (j < length nets) ⊎ (length nets ≤ j)
          → Contains (take (first + j) (numbers ++ own net ∷ [])) ((gate_at (nets ++ net ∷ []) j).left / 2) × Contains (take (first + j) (numbers ++ own net ∷ [])) ((gate_at (nets ++ net ∷ []) j).right / 2)
      now_ready j small (inl before) =
          subst (λ (g : Gate). Contains (take (first + j) (numbers ++ own net ∷ [])) (g.left / 2) × Contains (take (first + j) (numbers ++ own net ∷ [])) (g.right / 2))
          (sym (get_or_append_left nets (net ∷ []) no_gate j before))
          (subst (λ (l : List ℕ). Contains l ((gate_at nets j).left / 2) × Contains l ((gate_at nets j).right / 2)) (sym (front_kept j (omega (arith, before)))) (is.ready j before))
      now_ready j small (inr end) =
          let pushed = length_push nets net in
          let here : length nets ≡ j = omega (arith, pushed, small, end) in
          subst (λ (g : Gate). Contains (take (first + j) (numbers ++ own net ∷ [])) (g.left / 2) × Contains (take (first + j) (numbers ++ own net ∷ [])) (g.right / 2))
          (sym (get_or_push nets net no_gate j here))
          (subst (λ n. Contains (take (first + n) (numbers ++ own net ∷ [])) (net.left / 2) × Contains (take (first + n) (numbers ++ own net ∷ [])) (net.right / 2)) here
          (subst (λ (l : List ℕ). Contains l (net.left / 2) × Contains l (net.right / 2)) (sym (front_kept (length nets) (omega arith) ∙ take_whole))
          (let r = ready i within in (earlier_there net.left r.0, earlier_there net.right r.1))))

-- literals of variables from 0 on, place by place
pub literal_in_place : (literals : List ℕ) (i : ℕ) → i < length literals → literals ≡ literals_from 0 (length literals) → get_or literals i 0 ≡ 2 * i
literal_in_place literals i within are =
    ap (λ (l : List ℕ). get_or l i 0) are ∙ get_or-map-range_with_len (λ variable. 2 * variable) 0 (length literals) i i 0 within (omega arith)

pub literals_more : (literals : List ℕ) (i : ℕ) → i < length literals → take i literals ≡ literals_from 0 i → get_or literals i 0 ≡ 2 * i
    → take (i + 1) literals ≡ literals_from 0 (i + 1)
literals_more literals i within so_far is =
    take_more literals i 0 within ∙ ap (λ (l : List ℕ). l ++ get_or literals i 0 ∷ []) so_far ∙ ap (λ n. literals_from 0 i ++ n ∷ []) is
    ∙ sym (map-range_with_len_more (λ variable. 2 * variable) 0 i i (omega arith))

pub literals_all : (literals : List ℕ) (i : ℕ) → length literals ≤ i → i ≤ length literals → take i literals ≡ literals_from 0 i → literals ≡ literals_from 0 (length literals)
literals_all literals i past within so_far =
    sym (take_all i literals past) ∙ so_far ∙ ap (literals_from 0) (let e : i ≡ length literals = omega (arith, past, within) in e)

range_more : (n : ℕ) → range_with_len 0 (n + 1) ≡ range_with_len 0 n ++ n ∷ []
range_more n = ext_get_or 0 (range_with_len 0 (n + 1)) (range_with_len 0 n ++ n ∷ [])
    (let a = length-range_with_len 0 (n + 1) in let b = length-range_with_len 0 n in let e = length_push (range_with_len 0 n) n in omega (arith, a, b, e))
    (λ k inside. at_place k (let a = length-range_with_len 0 (n + 1) in omega (arith, a, inside)) (cases_lt k n))
  where
    at_place : (k : ℕ) → k < n + 1 → (k < n) ⊎ (n ≤ k) → get_or (range_with_len 0 (n + 1)) k 0 ≡ get_or (range_with_len 0 n ++ n ∷ []) k 0
    at_place k inside (inl before) =
        get_or-range_with_len 0 (n + 1) k 0 inside ∙ sym (get_or-range_with_len 0 n k 0 before)
        ∙ sym (get_or_append_left (range_with_len 0 n) (n ∷ []) 0 k (let b = length-range_with_len 0 n in omega (arith, b, before)))
    at_place k inside (inr past) =
        let b = length-range_with_len 0 n in
        get_or-range_with_len 0 (n + 1) k 0 inside ∙ (let e : 0 + k ≡ n = omega (arith, inside, past) in e)
        ∙ sym (get_or_push (range_with_len 0 n) n 0 k (omega (arith, b, inside, past)))

-- one number more is inserted
pub next_number : (numbers new_numbers : List ℕ) (n number : ℕ) → numbers ≡ range_with_len 0 n → number ≡ n → new_numbers ≡ insert_key nat_eq numbers number
    → new_numbers ≡ range_with_len 0 (n + 1)
next_number numbers new_numbers n number are is inserted =
    inserted ∙ ap (λ m. insert_key nat_eq numbers m) is ∙ ap (λ (l : List ℕ). insert_key nat_eq l n) are
    ∙ ap (λ (b : Bool). cond b (range_with_len 0 n) (range_with_len 0 n ++ n ∷ [])) (not_before n)
    ∙ sym (range_more n)

-- one latch more
pub latches_more : (first : ℕ) (latches : List Latch) (nexts : List ℕ) (made : List Latch) (k : ℕ) (latch : Latch) → k < length latches
    → AreLatchesFrom first (take k latches) nexts made → latch ≡ record { literal = 2 * (first + k); next = get_or nexts k 0; reset = (latch_at latches k).reset }
    → AreLatchesFrom first (take (k + 1) latches) nexts (made ++ latch ∷ [])
latches_more first latches nexts made k latch within are is = record {
  long = omega (arith, count, before, are.long, length_push made latch);
  each = λ j small. each j (omega (arith, small, count)) (cases_lt j k);
}
  where
    count : length (take (k + 1) latches) ≡ k + 1
    count = let e = length-take (k + 1) latches in omega (arith, e, within)

    before : length (take k latches) ≡ k
    before = let e = length-take k latches in omega (arith, e, within)

    each : (j : ℕ) → j < k + 1 → (j < k) ⊎ (k ≤ j)
        → latch_at (made ++ latch ∷ []) j ≡ record { literal = 2 * (first + j); next = get_or nexts j 0; reset = (latch_at (take (k + 1) latches) j).reset }
    each j small (inl earlier) =
        get_or_append_left made (latch ∷ []) no_latch j (omega (arith, earlier, before, are.long))
        ∙ are.each j (omega (arith, earlier, before))
        ∙ ap (λ (l : Latch). record { literal = 2 * (first + j); next = get_or nexts j 0; reset = l.reset })
        (get_or-take k latches j no_latch earlier ∙ sym (get_or-take (k + 1) latches j no_latch small))
    each j small (inr past) =
        let here : k ≡ j = omega (arith, small, past) in
        get_or_push made latch no_latch j (omega (arith, here, before, are.long))
        ∙ is
        ∙ ap (λ m. record { literal = 2 * (first + m); next = get_or nexts m 0; reset = (latch_at latches m).reset }) here
        ∙ ap (λ (l : Latch). record { literal = 2 * (first + j); next = get_or nexts j 0; reset = l.reset }) (sym (get_or-take (k + 1) latches j no_latch small))

-- no latches at first
pub latches_none : (first : ℕ) (latches : List Latch) (nexts : List ℕ) → AreLatchesFrom first (take 0 latches) nexts []
latches_none first latches nexts = record { long = refl; each = λ k within. absurd (omega (arith, within)) }

pub latches_all : (first : ℕ) (latches : List Latch) (nexts : List ℕ) (made : List Latch) (k : ℕ) → length latches ≤ k → AreLatchesFrom first (take k latches) nexts made
    → AreLatchesFrom first latches nexts made
latches_all first latches nexts made k past are = subst (λ (l : List Latch). AreLatchesFrom first l nexts made) (take_all k latches past) are

pub numbering_all : (first : ℕ) (steps : List Gate) (numbers : List ℕ) (nets : List Gate) (i : ℕ) → length steps ≤ i → IsNumbering first (take i steps) numbers nets
    → IsNumbering first steps numbers nets
numbering_all first steps numbers nets i past is = subst (λ (l : List Gate). IsNumbering first l numbers nets) (take_all i steps past) is

-- a number that is there is not inserted again
pub kept_numbers : (numbers : List ℕ) (number : ℕ) → not (list_any (nat_eq number) numbers) ≡ false → insert_key nat_eq numbers number ≡ numbers
kept_numbers numbers number old = go (list_any (nat_eq number) numbers) old
  where
    go : (b : Bool) → not b ≡ false → cond b numbers (numbers ++ number ∷ []) ≡ numbers
    go true is = refl
    go false is = absurd (false≢true (sym is))
