-- Lists that lie one after the other, read and changed.
use Rattle.std.proofs.Common.{◌≡◌, ℕ, zero, suc, ◌+◌, ◌-◌, ◌<◌, ◌≤◌, ◌≢◌, inl, inr, List, [], ◌∷◌, ◌++◌, length, map, take, drop, set, get_or, sum_by, refl, sym, ◌∙◌, ap, subst, add-one, arith, length-append, length-take, length-drop}
use Rattle.std.specs.Prelude.{slice_range}
use Rattle.std.specs.List.{range_with_len}
use Rattle.std.proofs.lemmas.Bool.{cases_lt}
use Rattle.std.proofs.lemmas.List.{same_lists, get_or_append_left, get_or_push, get_or_past, length_push, take-append-le, drop-append-le, take_all, drop_at, get_or-set_same, get_or-set_other, length-set, get_or_default, length-take-le, drop-take, take-take}
use Rattle.std.proofs.lemmas.List.FromFn.{length-map-range_with_len, get_or-map-range_with_len, sum_by-map-range_with_len_more}
use Rattle.omega_text.specs.JoinedLists.{list_at, lists_of, AreStarts}

-- there is a list for each start
pub length-lists_of : {X : Type 0} (starts : List ℕ) (items : List X) → length (lists_of starts items) ≡ length starts
unfolding lists_of
length-lists_of starts items = length-map-range_with_len (list_at starts items) 0 (length starts)

-- the list at an index
pub get_or-lists_of : {X : Type 0} (starts : List ℕ) (items : List X) (i : ℕ) (d : List X) → i < length starts → get_or (lists_of starts items) i d ≡ list_at starts items i
unfolding lists_of
get_or-lists_of starts items i d h = get_or-map-range_with_len (list_at starts items) 0 (length starts) i i d h (omega arith)

-- each start is within the vector
pub start_within : (starts : List ℕ) (size i : ℕ) → AreStarts starts size → get_or starts i size ≤ size
start_within starts size i a =
    let far : get_or starts (i + length starts) size ≡ size = get_or_past starts (i + length starts) size (omega arith) in
    let up : get_or starts i size ≤ get_or starts (i + length starts) size = a.rising i (i + length starts) (omega arith) in
    omega arith

-- the length of the list at an index
pub length-list_at : {X : Type 0} (starts : List ℕ) (items : List X) (i : ℕ) → AreStarts starts (length items)
    → length (list_at starts items i) + get_or starts i (length items) ≡ get_or starts (i + 1) (length items)
unfolding list_at
length-list_at starts items i a =
    let up : get_or starts i (length items) ≤ get_or starts (i + 1) (length items) = a.rising i (i + 1) (omega arith) in
    let in' : get_or starts (i + 1) (length items) ≤ length items = start_within starts (length items) (i + 1) a in
    simp (length-take, length-drop) (omega arith)

total_below : {X : Type 0} (starts : List ℕ) (items : List X) (n : ℕ) → AreStarts starts (length items)
    → sum_by (λ list. length list) (map (list_at starts items) (range_with_len 0 n)) ≡ get_or starts n (length items)
total_below starts items zero a = sym a.first
total_below starts items (suc n) a =
    let one : suc n ≡ n + 1 = sym (add-one n) in
    let more : sum_by (λ list. length list) (map (list_at starts items) (range_with_len 0 (n + 1))) ≡ sum_by (λ list. length list) (map (list_at starts items) (range_with_len 0 n)) + length (list_at starts items n) = sum_by-map-range_with_len_more (λ list. length list) (list_at starts items) 0 n n (omega arith) in
    let before : sum_by (λ list. length list) (map (list_at starts items) (range_with_len 0 n)) ≡ get_or starts n (length items) = total_below starts items n a in
    let here : length (list_at starts items n) + get_or starts n (length items) ≡ get_or starts (n + 1) (length items) = length-list_at starts items n a in
    let P : ℕ → Type 0 = λ m. sum_by (λ list. length list) (map (list_at starts items) (range_with_len 0 m)) ≡ get_or starts m (length items) in
    subst P (sym one) (omega arith)

-- the lists fill the vector
pub sum_by-lists_of : {X : Type 0} (starts : List ℕ) (items : List X) → AreStarts starts (length items) → sum_by (λ list. length list) (lists_of starts items) ≡ length items
unfolding lists_of
sum_by-lists_of starts items a = total_below starts items (length starts) a ∙ get_or_past starts (length starts) (length items) (omega arith)

-- the starts with one more at the end, in a vector that grows
pub AreStarts-push : (starts : List ℕ) (size more : ℕ) → AreStarts starts size → AreStarts (starts ++ size ∷ []) (size + more)
AreStarts-push starts size more a = record { first = first_push; rising = rising_push }
  where
    at_push : (i : ℕ) → (i < length starts + 1) → get_or (starts ++ size ∷ []) i (size + more) ≡ get_or starts i size
    at_push i h = elim (cases_lt i (length starts)) [
      | inl l ↦ get_or_append_left starts (size ∷ []) (size + more) i l ∙ get_or_default starts i (size + more) size l
      | inr l ↦ get_or_push starts size (size + more) i (omega arith) ∙ sym (get_or_past starts i size l)
    ]

    first_push : get_or (starts ++ size ∷ []) 0 (size + more) ≡ 0
    first_push = at_push 0 (omega arith) ∙ a.first

    rising_push : (i j : ℕ) → i ≤ j → get_or (starts ++ size ∷ []) i (size + more) ≤ get_or (starts ++ size ∷ []) j (size + more)
    rising_push i j le = elim (cases_lt j (length starts + 1)) [
      | inl l ↦ let x : get_or (starts ++ size ∷ []) i (size + more) ≡ get_or starts i size = at_push i (omega arith) in
          let y : get_or (starts ++ size ∷ []) j (size + more) ≡ get_or starts j size = at_push j l in
          let z : get_or starts i size ≤ get_or starts j size = a.rising i j le in
          omega arith
      | inr l ↦ let y : get_or (starts ++ size ∷ []) j (size + more) ≡ size + more = get_or_past (starts ++ size ∷ []) j (size + more) (omega (arith, length_push starts size)) in
          elim (cases_lt i (length starts + 1)) [
            | inl k ↦ let x : get_or (starts ++ size ∷ []) i (size + more) ≡ get_or starts i size = at_push i k in
                let z : get_or starts i size ≤ size = start_within starts size i a in
                omega arith
            | inr k ↦ let x : get_or (starts ++ size ∷ []) i (size + more) ≡ size + more = get_or_past (starts ++ size ∷ []) i (size + more) (omega (arith, length_push starts size)) in
                omega arith
          ]
    ]

-- the starts of lists of which the last one grows
pub AreStarts-grow : (starts : List ℕ) (size more : ℕ) → 0 < length starts → AreStarts starts size → AreStarts starts (size + more)
AreStarts-grow starts size more some a = record { first = get_or_default starts 0 (size + more) size some ∙ a.first; rising = rising_grow }
  where
    rising_grow : (i j : ℕ) → i ≤ j → get_or starts i (size + more) ≤ get_or starts j (size + more)
    rising_grow i j le = elim (cases_lt j (length starts)) [
      | inl l ↦ let x : get_or starts i (size + more) ≡ get_or starts i size = get_or_default starts i (size + more) size (omega arith) in
          let y : get_or starts j (size + more) ≡ get_or starts j size = get_or_default starts j (size + more) size l in
          let z : get_or starts i size ≤ get_or starts j size = a.rising i j le in
          omega arith
      | inr l ↦ let y : get_or starts j (size + more) ≡ size + more = get_or_past starts j (size + more) l in
          elim (cases_lt i (length starts)) [
            | inl k ↦ let x : get_or starts i (size + more) ≡ get_or starts i size = get_or_default starts i (size + more) size k in
                let z : get_or starts i size ≤ size = start_within starts size i a in
                omega arith
            | inr k ↦ let x : get_or starts i (size + more) ≡ size + more = get_or_past starts i (size + more) k in
                omega arith
          ]
    ]

-- a part of a list is not changed by what comes after it
pub slice_range-append_left : {X : Type 0} (xs ys : List X) (a b : ℕ) → b ≤ length xs → slice_range (xs ++ ys) a b ≡ slice_range xs a b
slice_range-append_left xs ys a b h = elim (cases_lt a b) [
  | inl l ↦ let le : a ≤ length xs = omega arith in
      ap (take (b - a)) (drop-append-le a xs ys le) ∙ take-append-le (b - a) (drop a xs) ys (simp length-drop (omega arith))
  | inr l ↦ let none : b - a ≡ 0 = omega arith in rw none refl
]

-- from its start to the end a list is what is left
pub slice_range_to_end : {X : Type 0} (xs : List X) (a : ℕ) → slice_range xs a (length xs) ≡ drop a xs
slice_range_to_end xs a = take_all (length xs - a) (drop a xs) (simp length-drop (omega arith))

-- adding a list at the end adds it to the lists
pub lists_of-push_list : {X : Type 0} (starts : List ℕ) (items xs : List X) → AreStarts starts (length items)
    → lists_of (starts ++ length items ∷ []) (items ++ xs) ≡ lists_of starts items ++ xs ∷ []
unfolding list_at
lists_of-push_list {X} starts items xs a =
    same_lists _ _
    (length-lists_of (starts ++ length items ∷ []) (items ++ xs) ∙ length_push starts (length items) ∙ sym (length_push (lists_of starts items) xs ∙ ap (λ n. n + 1) (length-lists_of starts items)))
    (λ k d h. each k d (omega (arith, length-lists_of (starts ++ length items ∷ []) (items ++ xs), length_push starts (length items))))
  where
    size : length (items ++ xs) ≡ length items + length xs
    size = length-append items xs

    start_same : (i e : ℕ) → i < length starts → get_or (starts ++ length items ∷ []) i e ≡ get_or starts i (length items)
    start_same i e h = get_or_append_left starts (length items ∷ []) e i h ∙ get_or_default starts i e (length items) h

    start_new : (e : ℕ) → get_or (starts ++ length items ∷ []) (length starts) e ≡ length items
    start_new e = get_or_push starts (length items) e (length starts) refl

    next_start : (k : ℕ) → k < length starts → get_or (starts ++ length items ∷ []) (k + 1) (length (items ++ xs)) ≡ get_or starts (k + 1) (length items)
    next_start k h = elim (cases_lt (k + 1) (length starts)) [
      | inl l ↦ start_same (k + 1) (length (items ++ xs)) l
      | inr l ↦ let e : k + 1 ≡ length starts = omega arith in
          let P : ℕ → Type 0 = λ m. get_or (starts ++ length items ∷ []) m (length (items ++ xs)) ≡ get_or starts m (length items) in
          subst P (sym e) (start_new (length (items ++ xs)) ∙ sym (get_or_past starts (length starts) (length items) (omega arith)))
    ]

    old_list : (k : ℕ) → k < length starts → list_at (starts ++ length items ∷ []) (items ++ xs) k ≡ list_at starts items k
    old_list k h =
        rw (start_same k (length (items ++ xs)) h, next_start k h)
        (slice_range-append_left items xs (get_or starts k (length items)) (get_or starts (k + 1) (length items)) (start_within starts (length items) (k + 1) a))

    new_list : list_at (starts ++ length items ∷ []) (items ++ xs) (length starts) ≡ xs
    new_list =
        let past : get_or (starts ++ length items ∷ []) (length starts + 1) (length (items ++ xs)) ≡ length (items ++ xs) = get_or_past (starts ++ length items ∷ []) (length starts + 1) (length (items ++ xs)) (omega (arith, length_push starts (length items))) in
        rw (start_new (length (items ++ xs)), past) (slice_range_to_end (items ++ xs) (length items) ∙ drop_at items xs (length items) refl)

    each : (k : ℕ) (d : List X) → k < length starts + 1 → get_or (lists_of (starts ++ length items ∷ []) (items ++ xs)) k d ≡ get_or (lists_of starts items ++ xs ∷ []) k d
    each k d h = elim (cases_lt k (length starts)) [
      | inl l ↦ get_or-lists_of (starts ++ length items ∷ []) (items ++ xs) k d (omega (arith, length_push starts (length items)))
          ∙ old_list k l ∙ sym (get_or_append_left (lists_of starts items) (xs ∷ []) d k (omega (arith, length-lists_of starts items)) ∙ get_or-lists_of starts items k d l)
      | inr l ↦ let e : k ≡ length starts = omega arith in
          let P : ℕ → Type 0 = λ m. get_or (lists_of (starts ++ length items ∷ []) (items ++ xs)) m d ≡ get_or (lists_of starts items ++ xs ∷ []) m d in
          subst P (sym e) (get_or-lists_of (starts ++ length items ∷ []) (items ++ xs) (length starts) d (omega (arith, length_push starts (length items)))
          ∙ new_list ∙ sym (get_or_push (lists_of starts items) xs d (length starts) (length-lists_of starts items)))
    ]

-- adding an item at the end adds it to the last list
pub lists_of-push_item : {X : Type 0} (starts : List ℕ) (items : List X) (x : X) → 0 < length starts → AreStarts starts (length items)
    → lists_of starts (items ++ x ∷ []) ≡ set (lists_of starts items) (length (lists_of starts items) - 1) (get_or (lists_of starts items) (length (lists_of starts items) - 1) [] ++ x ∷ [])
unfolding list_at
lists_of-push_item {X} starts items x some a =
    same_lists _ _ (length-lists_of starts (items ++ x ∷ []) ∙ sym (length-set (lists_of starts items) last changed ∙ count))
    (λ k d h. each k d (omega (arith, length-lists_of starts (items ++ x ∷ []))))
  where
    last : ℕ
    last = length (lists_of starts items) - 1

    count : length (lists_of starts items) ≡ length starts
    count = length-lists_of starts items

    changed : List X
    changed = get_or (lists_of starts items) last [] ++ x ∷ []

    size : length (items ++ x ∷ []) ≡ length items + 1
    size = length_push items x

    same_start : (k : ℕ) → k < length starts → get_or starts k (length (items ++ x ∷ [])) ≡ get_or starts k (length items)
    same_start k h = get_or_default starts k (length (items ++ x ∷ [])) (length items) h

    before : (k : ℕ) → k + 1 < length starts → list_at starts (items ++ x ∷ []) k ≡ list_at starts items k
    before k h = rw (same_start k (omega arith), same_start (k + 1) h)
        (slice_range-append_left items (x ∷ []) (get_or starts k (length items)) (get_or starts (k + 1) (length items)) (start_within starts (length items) (k + 1) a))

    at_last : (k : ℕ) → k + 1 ≡ length starts → list_at starts (items ++ x ∷ []) k ≡ list_at starts items k ++ x ∷ []
    at_last k e =
        let past : get_or starts (k + 1) (length items) ≡ length items = get_or_past starts (k + 1) (length items) (omega arith) in
        let past' : get_or starts (k + 1) (length (items ++ x ∷ [])) ≡ length (items ++ x ∷ []) = get_or_past starts (k + 1) (length (items ++ x ∷ [])) (omega arith) in
        rw (same_start k (omega arith), past', past)
        (slice_range_to_end (items ++ x ∷ []) (get_or starts k (length items)) ∙ drop-append-le (get_or starts k (length items)) items (x ∷ []) (start_within starts (length items) k a)
        ∙ ap (λ xs. xs ++ x ∷ []) (sym (slice_range_to_end items (get_or starts k (length items)))))

    each : (k : ℕ) (d : List X) → k < length starts → get_or (lists_of starts (items ++ x ∷ [])) k d ≡ get_or (set (lists_of starts items) last changed) k d
    each k d h = elim (cases_lt (k + 1) (length starts)) [
      | inl l ↦ let ne : k ≢ last = omega (arith, count) in
          get_or-lists_of starts (items ++ x ∷ []) k d h ∙ before k l ∙ sym (get_or-set_other (lists_of starts items) last k changed d ne ∙ get_or-lists_of starts items k d h)
      | inr l ↦ let e : k ≡ last = omega (arith, count) in
          let there : get_or (lists_of starts items) last [] ≡ list_at starts items k = subst (λ (m : ℕ). get_or (lists_of starts items) m [] ≡ list_at starts items k) e (get_or-lists_of starts items k [] h) in
          get_or-lists_of starts (items ++ x ∷ []) k d h ∙ at_last k (omega arith) ∙ sym (subst (λ (m : ℕ). get_or (set (lists_of starts items) last changed) m d ≡ changed) (sym e) (get_or-set_same (lists_of starts items) last changed d (omega (arith, count))) ∙ ap (λ xs. xs ++ x ∷ []) there)
    ]

-- the starts of lists of which the last one is written anew
pub AreStarts-last : (starts : List ℕ) (size last more : ℕ) → 0 < length starts → AreStarts starts size → last ≡ get_or starts (length starts - 1) size → AreStarts starts (last + more)
AreStarts-last starts size last more some a e = record { first = get_or_default starts 0 (last + more) size some ∙ a.first; rising = rising_last }
  where
    rising_last : (i j : ℕ) → i ≤ j → get_or starts i (last + more) ≤ get_or starts j (last + more)
    rising_last i j le = elim (cases_lt j (length starts)) [
      | inl l ↦ let x : get_or starts i (last + more) ≡ get_or starts i size = get_or_default starts i (last + more) size (omega arith) in
          let y : get_or starts j (last + more) ≡ get_or starts j size = get_or_default starts j (last + more) size l in
          let z : get_or starts i size ≤ get_or starts j size = a.rising i j le in
          omega arith
      | inr l ↦ let y : get_or starts j (last + more) ≡ last + more = get_or_past starts j (last + more) l in
          elim (cases_lt i (length starts)) [
            | inl k ↦ let x : get_or starts i (last + more) ≡ get_or starts i size = get_or_default starts i (last + more) size k in
                let z : get_or starts i size ≤ get_or starts (length starts - 1) size = a.rising i (length starts - 1) (omega arith) in
                omega arith
            | inr k ↦ let x : get_or starts i (last + more) ≡ last + more = get_or_past starts i (last + more) k in
                omega arith
          ]
    ]

-- a part of a front of a list is that part of the list
slice_range-take : {X : Type 0} (xs : List X) (s a b : ℕ) → a ≤ b → b ≤ s → slice_range (take s xs) a b ≡ slice_range xs a b
slice_range-take xs s a b ab bs =
    let whole : a + (s - a) ≡ s = omega arith in
    ap (λ n. take (b - a) (drop a (take n xs))) (sym whole) ∙ ap (take (b - a)) (drop-take a (s - a) xs) ∙ take-take (b - a) (s - a) (drop a xs) (omega arith)

-- writing the last list anew
pub lists_of-replace_last : {X : Type 0} (starts : List ℕ) (items xs : List X) (last : ℕ) → 0 < length starts → AreStarts starts (length items) → last ≡ get_or starts (length starts - 1) (length items)
    → lists_of starts (take last items ++ xs) ≡ set (lists_of starts items) (length (lists_of starts items) - 1) xs
unfolding list_at
lists_of-replace_last {X} starts items xs last some a e =
    same_lists _ _ (length-lists_of starts new ∙ sym (length-set (lists_of starts items) (length (lists_of starts items) - 1) xs ∙ count))
    (λ k d h. each k d (omega (arith, length-lists_of starts new)))
  where
    new : List X
    new = take last items ++ xs

    count : length (lists_of starts items) ≡ length starts
    count = length-lists_of starts items

    last_within : last ≤ length items
    last_within = omega (arith, e, start_within starts (length items) (length starts - 1) a)

    front : length (take last items) ≡ last
    front = length-take-le last items last_within

    same_start : (k : ℕ) → k < length starts → get_or starts k (length new) ≡ get_or starts k (length items)
    same_start k h = get_or_default starts k (length new) (length items) h

    before : (k : ℕ) → k + 1 < length starts → list_at starts new k ≡ list_at starts items k
    before k h =
        let up : get_or starts k (length items) ≤ get_or starts (k + 1) (length items) = a.rising k (k + 1) (omega arith) in
        let low : get_or starts (k + 1) (length items) ≤ last = omega (arith, e, a.rising (k + 1) (length starts - 1) (omega arith)) in
        rw (same_start k (omega arith), same_start (k + 1) h)
        (slice_range-append_left (take last items) xs (get_or starts k (length items)) (get_or starts (k + 1) (length items)) (omega (arith, front))
        ∙ slice_range-take items last (get_or starts k (length items)) (get_or starts (k + 1) (length items)) up low)

    at_last : (k : ℕ) → k + 1 ≡ length starts → list_at starts new k ≡ xs
    at_last k h =
        let k_is : k ≡ length starts - 1 = omega arith in
        let here : get_or starts k (length new) ≡ last = same_start k (omega arith) ∙ ap (λ i. get_or starts i (length items)) k_is ∙ sym e in
        let past : get_or starts (k + 1) (length new) ≡ length new = get_or_past starts (k + 1) (length new) (omega arith) in
        rw (here, past) (slice_range_to_end new last ∙ drop_at (take last items) xs last front)

    each : (k : ℕ) (d : List X) → k < length starts → get_or (lists_of starts new) k d ≡ get_or (set (lists_of starts items) (length (lists_of starts items) - 1) xs) k d
    each k d h = elim (cases_lt (k + 1) (length starts)) [
      | inl l ↦ let ne : k ≢ length (lists_of starts items) - 1 = omega (arith, count) in
          get_or-lists_of starts new k d h ∙ before k l ∙ sym (get_or-set_other (lists_of starts items) (length (lists_of starts items) - 1) k xs d ne ∙ get_or-lists_of starts items k d h)
      | inr l ↦ let k_is : k ≡ length (lists_of starts items) - 1 = omega (arith, count) in
          get_or-lists_of starts new k d h ∙ at_last k (omega arith)
          ∙ sym (ap (λ i. get_or (set (lists_of starts items) (length (lists_of starts items) - 1) xs) i d) k_is ∙ get_or-set_same (lists_of starts items) (length (lists_of starts items) - 1) xs d (omega (arith, count)))
    ]
