-- Predecessors filled in by counting.
use Rattle.std.proofs.Common.{◌≡◌, ℕ, zero, suc, ◌+◌, ◌-◌, ◌<◌, ◌≤◌, ◌⊎◌, inl, inr, ◌==◌, List, [], ◌∷◌, ◌++◌, length, map, get_or, set, take, drop, sum, sum_by, refl, sym, ◌∙◌, ap, subst, arith, length-append, cond}
use Rattle.std.specs.Prelude.{replicate, count_by, slice_index, slice_range}
use Rattle.std.specs.List.{flat_map, range_with_len}
use Rattle.std.proofs.lemmas.Bool.{cases_lt, cases_eq, cases_order, eq-eqb, ne_eqb}
use Rattle.std.proofs.lemmas.List.{nil_from_length, append-nil, append_assoc, same_lists, length-set, get_or-set_same, get_or-set_other, get_or_past, get_or_default, take_all, replicate_more, length_push, drop-set-lt, take-set-le, drop-set-add, take_more_set, length-drop, map-id, length-replicate, get_or-replicate}
use Rattle.std.proofs.lemmas.List.Sums.{count_by_more_yes, count_by_more_no, sum_by_more, sum_by-set, sum_by-take-le, get_or-le-sum_by, sum_by_more_le}
use Rattle.std.proofs.lemmas.List.Folds.{length-flat_map-take, sum_by-replicate}
use Rattle.std.proofs.lemmas.List.Concat.{flat_map-append}
use Rattle.std.proofs.lemmas.List.FromFn.{length-range_with_len, get_or-range_with_len, map-range_with_len_more, take-map-range_with_len, length-map-range_with_len, get_or-map-range_with_len}
use Rattle.omega_game_values.specs.private.layout.Predecessors.{predecessors_in, predecessors_before, AreCounted, AreStartsOf}
use Rattle.omega_text.specs.JoinedLists.{AreStarts, list_at, lists_of}
use Rattle.omega_text.proofs.JoinedLists.{length-lists_of, get_or-lists_of}

-- the predecessors by the lists before v and by the first j entries of list v are filled in, up to each place's cursor
pub record AreFilled (starts : List ℕ) (lists : List (List ℕ)) (v j : ℕ) (cursors sources : List ℕ) : Type 0 where
  pub cursors_size : length cursors ≡ length lists
  pub sources_size : length sources ≡ sum_by (λ list. length list) lists
  pub at_cursor : (w : ℕ) → w < length lists → slice_index cursors w ≡ slice_index starts w + length (predecessors_before lists v j w)
  pub filled : (w : ℕ) → w < length lists → slice_range sources (slice_index starts w) (slice_index cursors w) ≡ predecessors_before lists v j w

-- one entry more that is the place
entered_yes : (lists : List (List ℕ)) (v j w : ℕ) → j < length (get_or lists v []) → get_or (get_or lists v []) j 0 ≡ w → predecessors_before lists v (j + 1) w ≡ predecessors_before lists v j w ++ v ∷ []
unfolding predecessors_before
entered_yes lists v j w h same =
    let more : count_by (λ x. x == w) (take (j + 1) (get_or lists v [])) ≡ count_by (λ x. x == w) (take j (get_or lists v [])) + 1 = count_by_more_yes (λ x. x == w) (get_or lists v []) j 0 h (eq-eqb (get_or (get_or lists v []) j 0) w same) in
    let before : List ℕ = flat_map (λ u. replicate (count_by (λ x. x == w) (get_or lists u [])) u) (range_with_len 0 v) in
    ap (λ n. before ++ replicate n v) more
    ∙ ap (λ xs. before ++ xs) (sym (replicate_more (count_by (λ x. x == w) (take j (get_or lists v []))) v))
    ∙ sym (append_assoc before (replicate (count_by (λ x. x == w) (take j (get_or lists v []))) v) (v ∷ []))

-- one entry more that is another place
entered_no : (lists : List (List ℕ)) (v j w : ℕ) → j < length (get_or lists v []) → (get_or (get_or lists v []) j 0 ≡ w → ⊥) → predecessors_before lists v (j + 1) w ≡ predecessors_before lists v j w
unfolding predecessors_before
entered_no lists v j w h other =
    ap (λ n. flat_map (λ u. replicate (count_by (λ x. x == w) (get_or lists u [])) u) (range_with_len 0 v) ++ replicate n v)
    (count_by_more_no (λ x. x == w) (get_or lists v []) j 0 h (ne_eqb (get_or (get_or lists v []) j 0) w other))

-- a list is after
entered_next : (lists : List (List ℕ)) (v j w : ℕ) → length (get_or lists v []) ≤ j → predecessors_before lists (v + 1) 0 w ≡ predecessors_before lists v j w
unfolding predecessors_before
entered_next lists v j w past =
    append-nil (flat_map each (range_with_len 0 (v + 1)))
    ∙ ap (flat_map each) (sym (map-id (range_with_len 0 (v + 1))) ∙ map-range_with_len_more (λ x. x) 0 v v (omega arith) ∙ ap (λ xs. xs ++ v ∷ []) (map-id (range_with_len 0 v)))
    ∙ flat_map-append each (range_with_len 0 v) (v ∷ [])
    ∙ ap (λ xs. flat_map each (range_with_len 0 v) ++ xs) (append-nil (each v))
    ∙ ap (λ (xs : List ℕ). flat_map each (range_with_len 0 v) ++ replicate (count_by (λ x. x == w) xs) v) (sym (take_all j (get_or lists v []) past))
  where
    each : ℕ → List ℕ
    each u = replicate (count_by (λ x. x == w) (get_or lists u [])) u

-- all lists are after
entered_all : (lists : List (List ℕ)) (w : ℕ) → predecessors_before lists (length lists) 0 w ≡ predecessors_in lists w
unfolding predecessors_before predecessors_in
entered_all lists w = append-nil (flat_map (λ u. replicate (count_by (λ x. x == w) (get_or lists u [])) u) (range_with_len 0 (length lists)))

-- no list is after
entered_none : (lists : List (List ℕ)) (w : ℕ) → predecessors_before lists 0 0 w ≡ []
unfolding predecessors_before
entered_none lists w = refl

-- what is predecessors_before is no more than there is
entered_le : (lists : List (List ℕ)) (v j w : ℕ) → v < length lists → length (predecessors_before lists v j w) ≤ length (predecessors_in lists w)
unfolding predecessors_before predecessors_in
entered_le lists v j w h =
    let part : length (flat_map each (take v (range_with_len 0 (length lists)))) + length (each (get_or (range_with_len 0 (length lists)) v 0)) ≤ length (flat_map each (range_with_len 0 (length lists))) =
    length-flat_map-take each (range_with_len 0 (length lists)) v 0 (omega (arith, length-range_with_len 0 (length lists))) in
    let front : take v (range_with_len 0 (length lists)) ≡ range_with_len 0 v =
    ap (take v) (sym (map-id (range_with_len 0 (length lists)))) ∙ take-map-range_with_len (λ x. x) 0 (length lists) v (omega arith) ∙ map-id (range_with_len 0 v) in
    let here : get_or (range_with_len 0 (length lists)) v 0 ≡ v = get_or-range_with_len 0 (length lists) v 0 h ∙ omega arith in
    let whole : length (each v) ≡ count_by (λ x. x == w) (get_or lists v []) = length-replicate (count_by (λ x. x == w) (get_or lists v [])) v in
    let some : count_by (λ x. x == w) (take j (get_or lists v [])) ≤ count_by (λ x. x == w) (get_or lists v []) = sum_by-take-le (λ x. cond (x == w) 1 0) (get_or lists v []) j in
    omega (
      arith,
      part,
      ap (λ xs. length (flat_map each xs)) front,
      ap (λ x. length (each x)) here,
      whole,
      some,
      length-append (flat_map each (range_with_len 0 v)) (replicate (count_by (λ x. x == w) (take j (get_or lists v []))) v),
      length-replicate (count_by (λ x. x == w) (take j (get_or lists v []))) v,
    )
  where
    each : ℕ → List ℕ
    each u = replicate (count_by (λ x. x == w) (get_or lists u [])) u

-- nothing is counted yet
pub counted_none : (lists : List (List ℕ)) (counts : List ℕ) → counts ≡ replicate (length lists) 0 → AreCounted lists 0 0 counts
counted_none lists counts is = record {
  counts_size = ap length is ∙ length-replicate (length lists) 0;
  counted = λ w h. ap (λ xs. get_or xs w 0) is ∙ get_or-replicate (length lists) w 0 0 h ∙ ap length (sym (entered_none lists w));
  counts_sum = ap sum is ∙ sum_by-replicate (λ y. y) (length lists) 0 ∙ omega arith;
}

-- what is counted of a place is less than there are edges
pub counted_fits : (lists : List (List ℕ)) (v j x : ℕ) (counts : List ℕ) → AreCounted lists v j counts → v < length lists → j < length (get_or lists v []) → x < length lists
    → get_or counts x 0 < sum_by (λ list. length list) lists
counted_fits lists v j x counts c vh jh xh =
    omega (arith, get_or-le-sum_by (λ y. y) counts x 0 (omega (arith, c.counts_size)), c.counts_sum, sum_by_more_le (λ (list : List ℕ). length list) lists v [] vh)

-- the first numbers are replaced each by the sum of those before it, and the others stand
pub record AreSummed (numbers : List ℕ) (n before : ℕ) (sums : List ℕ) : Type 0 where
  pub size : length sums ≡ length numbers
  pub next : before ≡ sum (take n numbers)
  pub summed : (k : ℕ) → k < n → get_or sums k 0 ≡ sum (take k numbers)
  pub others : (k : ℕ) → n ≤ k → get_or sums k 0 ≡ get_or numbers k 0

-- the sum with the next number
sum_with : (numbers summed : List ℕ) (n before x : ℕ) → AreSummed numbers n before summed → n < length numbers → x ≡ get_or summed n x → before + x ≡ sum (take (n + 1) numbers)
sum_with numbers summed n before x s h read =
    omega (arith, s.next, read, get_or_default summed n x 0 (omega (arith, s.size)), s.others n (omega arith), sum_by_more (λ y. y) numbers n 0 h)

-- it is at most the sum of all
pub sum_with_fits : (numbers summed : List ℕ) (n before x : ℕ) → AreSummed numbers n before summed → n < length numbers → x ≡ get_or summed n x → before + x ≤ sum numbers
sum_with_fits numbers summed n before x s h read = omega (arith, sum_with numbers summed n before x s h read, sum_by-take-le (λ y. y) numbers (n + 1))

-- one number more is replaced
pub summed_more : (numbers summed : List ℕ) (n before x : ℕ) → AreSummed numbers n before summed → n < length numbers → x ≡ get_or summed n x → AreSummed numbers (n + 1) (before + x) (set summed n before)
summed_more numbers summed n before x s h read = record {
  size = length-set summed n before ∙ s.size;
  next = sum_with numbers summed n before x s h read;
  summed = λ k l. elim (cases_eq n k) [
    | inl same ↦ subst (λ (y : ℕ). get_or (set summed n before) y 0 ≡ sum (take y numbers)) same (get_or-set_same summed n before 0 (omega (arith, s.size)) ∙ s.next)
    | inr other ↦ get_or-set_other summed n k before 0 (λ e. other (sym e)) ∙ s.summed k (omega (arith, other_less n k l other))
  ];
  others = λ k l. get_or-set_other summed n k before 0 (λ e. omega (arith, e)) ∙ s.others k (omega arith);
}
  where
    other_less : (i k : ℕ) → k < i + 1 → (i ≡ k → ⊥) → k < i
    other_less i k l other = elim (cases_lt k i) [
      | inl less ↦ less
      | inr least ↦ absurd (other (omega arith))
    ]

-- one entry more is counted
pub counted_more : (lists : List (List ℕ)) (v j x value : ℕ) (counts : List ℕ) → AreCounted lists v j counts → v < length lists → j < length (get_or lists v [])
    → x ≡ get_or (get_or lists v []) j 0 → x < length lists → value ≡ get_or counts x value → AreCounted lists v (j + 1) (set counts x (value + 1))
counted_more lists v j x value counts c vh jh at xh read = record {
  counts_size = length-set counts x (value + 1) ∙ c.counts_size;
  counted = λ w h. elim (cases_eq x w) [
    | inl same ↦ subst (λ (y : ℕ). get_or (set counts x (value + 1)) y 0 ≡ length (predecessors_before lists v (j + 1) y)) same
        (get_or-set_same counts x (value + 1) 0 inside
        ∙ ap (λ n. n + 1) (here ∙ c.counted x xh) ∙ sym (length_push (predecessors_before lists v j x) v) ∙ ap length (sym (entered_yes lists v j x jh (sym at))))
    | inr other ↦ get_or-set_other counts x w (value + 1) 0 (λ e. other (sym e)) ∙ c.counted w h ∙ ap length (sym (entered_no lists v j w jh (λ e. other (at ∙ e))))
  ];
  counts_sum = omega (arith, sum_by-set (λ y. y) counts x (value + 1) 0 inside, here, c.counts_sum);
}
  where
    inside : x < length counts
    inside = omega (arith, c.counts_size)

    here : value ≡ get_or counts x 0
    here = read ∙ get_or_default counts x value 0 inside

-- a list is counted
pub counted_next : (lists : List (List ℕ)) (v j : ℕ) (counts : List ℕ) → AreCounted lists v j counts → v < length lists → j ≡ length (get_or lists v []) → AreCounted lists (v + 1) 0 counts
counted_next lists v j counts c vh all = record {
  counts_size = c.counts_size;
  counted = λ w h. c.counted w h ∙ ap length (sym (entered_next lists v j w (omega arith)));
  counts_sum = omega (arith, c.counts_sum, sum_by_more (λ (list : List ℕ). length list) lists v [] vh);
}

-- the starts by the numbers of predecessors
pub starts_from_counts : (lists : List (List ℕ)) (counts starts : List ℕ) → AreCounted lists (length lists) 0 counts → length starts ≡ length lists
    → ((k : ℕ) → k < length lists → get_or starts k 0 ≡ sum (take k counts)) → AreStartsOf starts lists
starts_from_counts lists counts starts c size are = record {
  starts_size = size;
  starts_first = elim (cases_lt 0 (length lists)) [
    | inl l ↦ get_or_default starts 0 (sum_by (λ list. length list) lists) 0 (omega arith) ∙ are 0 l
    | inr l ↦ get_or_past starts 0 (sum_by (λ list. length list) lists) (omega arith) ∙ ap (sum_by (λ list. length list)) (nil_from_length lists (omega arith))
  ];
  room = λ w h.
      let here : get_or starts w 0 ≡ sum (take w counts) = are w h in
      let more : sum (take (w + 1) counts) ≡ sum (take w counts) + get_or counts w 0 = sum_by_more (λ y. y) counts w 0 (omega (arith, c.counts_size)) in
      let count : get_or counts w 0 ≡ length (predecessors_in lists w) = c.counted w h ∙ ap length (entered_all lists w) in
      elim (cases_lt (w + 1) (length lists)) [
        | inl l ↦ omega (arith, here, more, count, are (w + 1) l, get_or_default starts (w + 1) (sum_by (λ list. length list) lists) 0 (omega arith))
        | inr l ↦ omega (
          arith,
          here,
          more,
          count,
          get_or_past starts (w + 1) (sum_by (λ list. length list) lists) (omega arith),
          ap sum (take_all (w + 1) counts (omega (arith, c.counts_size))),
          c.counts_sum,
          ap (sum_by (λ (list : List ℕ). length list)) (take_all (length lists) lists (omega arith)),
        )
      ];
}

-- the starts rise
starts_rise : (starts : List ℕ) (lists : List (List ℕ)) → AreStartsOf starts lists → (i d : ℕ) → get_or starts i (sum_by (λ list. length list) lists) ≤ get_or starts (i + d) (sum_by (λ list. length list) lists)
starts_rise starts lists s i zero = let e : i + 0 ≡ i = omega arith in subst (λ (m : ℕ). get_or starts i (sum_by (λ list. length list) lists) ≤ get_or starts m (sum_by (λ list. length list) lists)) (sym e) (omega arith)
starts_rise starts lists s i (suc d) =
    let m : ℕ = sum_by (λ list. length list) lists in
    let before : get_or starts i m ≤ get_or starts (i + d) m = starts_rise starts lists s i d in
    let e : i + suc d ≡ i + d + 1 = omega arith in
    let step : get_or starts (i + d) m ≤ get_or starts (i + d + 1) m = elim (cases_lt (i + d) (length lists)) [
      | inl l ↦ omega (arith, s.room (i + d) l, get_or_default starts (i + d) m 0 (omega (arith, s.starts_size)))
      | inr l ↦ omega (arith, get_or_past starts (i + d) m (omega (arith, s.starts_size)), get_or_past starts (i + d + 1) m (omega (arith, s.starts_size)))
    ] in
    subst (λ (k : ℕ). get_or starts i m ≤ get_or starts k m) (sym e) (omega arith)

-- they are starts of lists that fill the edges
pub AreStarts-of : (starts : List ℕ) (lists : List (List ℕ)) → AreStartsOf starts lists → AreStarts starts (sum_by (λ list. length list) lists)
AreStarts-of starts lists s = record {
  first = s.starts_first;
  rising = λ i j le. let e : i + (j - i) ≡ j = omega arith in
      subst (λ (m : ℕ). get_or starts i (sum_by (λ list. length list) lists) ≤ get_or starts m (sum_by (λ list. length list) lists)) e (starts_rise starts lists s i (j - i));
}

-- nothing is filled in yet
pub filled_none : (starts : List ℕ) (lists : List (List ℕ)) (cursors sources : List ℕ) → AreStartsOf starts lists → cursors ≡ starts → length sources ≡ sum_by (λ list. length list) lists → AreFilled starts lists 0 0 cursors sources
filled_none starts lists cursors sources s same size = record {
  cursors_size = ap length same ∙ s.starts_size;
  sources_size = size;
  at_cursor = λ w h. omega (arith, ap (λ xs. get_or xs w 0) same, ap length (entered_none lists w));
  filled = λ w h. let none : get_or cursors w 0 - get_or starts w 0 ≡ 0 = omega (arith, ap (λ xs. get_or xs w 0) same) in rw none (sym (entered_none lists w));
}

-- where the next predecessor of a place goes
cursor_room : (starts : List ℕ) (lists : List (List ℕ)) (v j x : ℕ) (cursors sources : List ℕ) → AreStartsOf starts lists → AreFilled starts lists v j cursors sources
    → v < length lists → j < length (get_or lists v []) → x ≡ get_or (get_or lists v []) j 0 → x < length lists
    → get_or cursors x 0 < get_or starts (x + 1) (sum_by (λ list. length list) lists)
cursor_room starts lists v j x cursors sources s f vh jh at xh =
    omega (arith, f.at_cursor x xh, s.room x xh, entered_le lists v (j + 1) x vh, ap length (entered_yes lists v j x jh (sym at)), length_push (predecessors_before lists v j x) v)

-- it goes into the edges
pub cursor_within : (starts : List ℕ) (lists : List (List ℕ)) (v j x cursor : ℕ) (cursors sources : List ℕ) → AreStartsOf starts lists → AreFilled starts lists v j cursors sources
    → v < length lists → j < length (get_or lists v []) → x ≡ get_or (get_or lists v []) j 0 → x < length lists → cursor ≡ get_or cursors x cursor → cursor < length sources
cursor_within starts lists v j x cursor cursors sources s f vh jh at xh read =
    let m : ℕ = sum_by (λ list. length list) lists in
    let up : get_or starts (x + 1) m ≤ get_or starts (x + 1 + length starts) m = starts_rise starts lists s (x + 1) (length starts) in
    omega (arith, read, get_or_default cursors x cursor 0 (omega (arith, f.cursors_size)), cursor_room starts lists v j x cursors sources s f vh jh at xh, up, get_or_past starts (x + 1 + length starts) m (omega arith), f.sources_size)

-- a write outside of a part leaves it
slice_range-set_outside : (xs : List ℕ) (a b p v : ℕ) → (p < a) ⊎ (b ≤ p) → slice_range (set xs p v) a b ≡ slice_range xs a b
slice_range-set_outside xs a b p v (inl l) = ap (take (b - a)) (drop-set-lt a xs p v l)
slice_range-set_outside xs a b p v (inr l) = elim (cases_lt p a) [
  | inl k ↦ ap (take (b - a)) (drop-set-lt a xs p v k)
  | inr k ↦ let e : a + (p - a) ≡ p = omega arith in
      ap (λ q. take (b - a) (drop a (set xs q v))) (sym e) ∙ ap (take (b - a)) (drop-set-add a xs (p - a) v) ∙ take-set-le (b - a) (drop a xs) (p - a) v (omega arith)
]

-- a write at the end of a part makes it longer
slice_range-set_end : (xs : List ℕ) (a b v : ℕ) → a ≤ b → b < length xs → slice_range (set xs b v) a (b + 1) ≡ slice_range xs a b ++ v ∷ []
slice_range-set_end xs a b v ab h =
    let e : a + (b - a) ≡ b = omega arith in
    let n : b + 1 - a ≡ (b - a) + 1 = omega arith in
    ap (λ q. take (b + 1 - a) (drop a (set xs q v))) (sym e) ∙ ap (take (b + 1 - a)) (drop-set-add a xs (b - a) v)
    ∙ ap (λ k. take k (set (drop a xs) (b - a) v)) n ∙ take_more_set (drop a xs) (b - a) v (omega (arith, length-drop a xs))

-- one predecessor more is filled in
pub filled_more : (starts : List ℕ) (lists : List (List ℕ)) (v j x cursor : ℕ) (cursors sources : List ℕ) → AreStartsOf starts lists → AreFilled starts lists v j cursors sources
    → v < length lists → j < length (get_or lists v []) → x ≡ get_or (get_or lists v []) j 0 → x < length lists → cursor ≡ get_or cursors x cursor
    → AreFilled starts lists v (j + 1) (set cursors x (cursor + 1)) (set sources cursor v)
filled_more starts lists v j x cursor cursors sources s f vh jh at xh read = record {
  cursors_size = length-set cursors x (cursor + 1) ∙ f.cursors_size;
  sources_size = length-set sources cursor v ∙ f.sources_size;
  at_cursor = λ w h. elim (cases_eq x w) [
    | inl same ↦ subst (λ (y : ℕ). get_or (set cursors x (cursor + 1)) y 0 ≡ get_or starts y 0 + length (predecessors_before lists v (j + 1) y)) same
        (omega (arith, get_or-set_same cursors x (cursor + 1) 0 inside, here, f.at_cursor x xh, ap length (entered_yes lists v j x jh (sym at)), length_push (predecessors_before lists v j x) v))
    | inr other ↦ omega (arith, get_or-set_other cursors x w (cursor + 1) 0 (λ e. other (sym e)), f.at_cursor w h, ap length (entered_no lists v j w jh (λ e. other (at ∙ e))))
  ];
  filled = λ w h. elim (cases_eq x w) [
    | inl same ↦ subst (λ (y : ℕ). slice_range (set sources cursor v) (get_or starts y 0) (get_or (set cursors x (cursor + 1)) y 0) ≡ predecessors_before lists v (j + 1) y) same (at_x (omega (arith, f.at_cursor x xh, here)))
    | inr other ↦ at_other w h other
  ];
}
  where
    inside : x < length cursors
    inside = omega (arith, f.cursors_size)

    here : cursor ≡ get_or cursors x 0
    here = read ∙ get_or_default cursors x cursor 0 inside

    m : ℕ
    m = sum_by (λ list. length list) lists

    room_x : cursor < get_or starts (x + 1) m
    room_x = omega (arith, here, cursor_room starts lists v j x cursors sources s f vh jh at xh)

    within : cursor < length sources
    within = cursor_within starts lists v j x cursor cursors sources s f vh jh at xh read

    at_x : get_or starts x 0 ≤ cursor → slice_range (set sources cursor v) (get_or starts x 0) (get_or (set cursors x (cursor + 1)) x 0) ≡ predecessors_before lists v (j + 1) x
    at_x le =
        ap (λ b. slice_range (set sources cursor v) (get_or starts x 0) b) (get_or-set_same cursors x (cursor + 1) 0 inside)
        ∙ slice_range-set_end sources (get_or starts x 0) cursor v le within
        ∙ ap (λ b. slice_range sources (get_or starts x 0) b ++ v ∷ []) here ∙ ap (λ xs. xs ++ v ∷ []) (f.filled x xh) ∙ sym (entered_yes lists v j x jh (sym at))

    start_is : (w : ℕ) → w < length lists → get_or starts w m ≡ get_or starts w 0
    start_is w h = get_or_default starts w m 0 (omega (arith, s.starts_size))

    outside : (w : ℕ) → w < length lists → (x ≡ w → ⊥) → (cursor < get_or starts w 0) ⊎ (get_or cursors w 0 ≤ cursor)
    outside w h other = elim (cases_order x w) [
      | inl same ↦ absurd (other same)
      | inr (inl less) ↦ let e : x + 1 + (w - (x + 1)) ≡ w = omega arith in
          let up : get_or starts (x + 1) m ≤ get_or starts w m = subst (λ (k : ℕ). get_or starts (x + 1) m ≤ get_or starts k m) e (starts_rise starts lists s (x + 1) (w - (x + 1))) in
          inl (omega (arith, room_x, up, start_is w h))
      | inr (inr more) ↦ let e : w + 1 + (x - (w + 1)) ≡ x = omega arith in
          let up : get_or starts (w + 1) m ≤ get_or starts x m = subst (λ (k : ℕ). get_or starts (w + 1) m ≤ get_or starts k m) e (starts_rise starts lists s (w + 1) (x - (w + 1))) in
          inr (omega (arith, f.at_cursor w h, entered_le lists v j w vh, s.room w h, up, start_is x xh, here, f.at_cursor x xh))
    ]

    at_other : (w : ℕ) → w < length lists → (x ≡ w → ⊥) → slice_range (set sources cursor v) (get_or starts w 0) (get_or (set cursors x (cursor + 1)) w 0) ≡ predecessors_before lists v (j + 1) w
    at_other w h other =
        ap (λ b. slice_range (set sources cursor v) (get_or starts w 0) b) (get_or-set_other cursors x w (cursor + 1) 0 (λ e. other (sym e)))
        ∙ slice_range-set_outside sources (get_or starts w 0) (get_or cursors w 0) cursor v (outside w h other)
        ∙ f.filled w h ∙ sym (entered_no lists v j w jh (λ e. other (at ∙ e)))

-- a list is filled in
pub filled_next : (starts : List ℕ) (lists : List (List ℕ)) (v j : ℕ) (cursors sources : List ℕ) → AreFilled starts lists v j cursors sources → j ≡ length (get_or lists v []) → AreFilled starts lists (v + 1) 0 cursors sources
filled_next starts lists v j cursors sources f all = record {
  cursors_size = f.cursors_size;
  sources_size = f.sources_size;
  at_cursor = λ w h. f.at_cursor w h ∙ ap (λ (xs : List ℕ). get_or starts w 0 + length xs) (sym (entered_next lists v j w (omega arith)));
  filled = λ w h. f.filled w h ∙ sym (entered_next lists v j w (omega arith));
}

-- all predecessors are filled in
pub filled_all : (starts : List ℕ) (lists : List (List ℕ)) (v : ℕ) (cursors sources : List ℕ) → AreStartsOf starts lists → AreFilled starts lists v 0 cursors sources → v ≡ length lists
    → lists_of starts sources ≡ map (predecessors_in lists) (range_with_len 0 (length lists))
unfolding list_at
filled_all starts lists v cursors sources s f all =
    same_lists _ _ (length-lists_of starts sources ∙ s.starts_size ∙ sym (length-map-range_with_len (predecessors_in lists) 0 (length lists)))
    (λ w d h. let within : w < length lists = omega (arith, length-lists_of starts sources, s.starts_size) in
    get_or-lists_of starts sources w d (omega (arith, s.starts_size)) ∙ each w within ∙ sym (get_or-map-range_with_len (predecessors_in lists) 0 (length lists) w w d within (omega arith)))
  where
    each : (w : ℕ) → w < length lists → list_at starts sources w ≡ predecessors_in lists w
    each w h =
        let a : get_or starts w (length sources) ≡ get_or starts w 0 = get_or_default starts w (length sources) 0 (omega (arith, s.starts_size)) in
        let entered_here : predecessors_before lists v 0 w ≡ predecessors_in lists w = ap (λ k. predecessors_before lists k 0 w) all ∙ entered_all lists w in
        let b : get_or starts (w + 1) (length sources) ≡ get_or cursors w 0 = ap (λ n. get_or starts (w + 1) n) f.sources_size ∙ sym (s.room w h) ∙ omega (arith, f.at_cursor w h, ap length entered_here) in
        rw (a, b) (f.filled w h ∙ entered_here)
