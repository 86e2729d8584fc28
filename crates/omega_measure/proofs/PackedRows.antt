-- A row of words as one number, whose digits are its fields.
use Rattle.std.proofs.Common.{◌≡◌, ◌≢◌, ℕ, zero, suc, ◌+◌, ◌-◌, ◌*◌, ◌/◌, ◌^◌, ◌<◌, ◌≤◌, List, [], ◌∷◌, ◌++◌, Ordering, length, get_or, take, replicate, sym, refl, ap, ◌∙◌, subst, arith, inl, inr}
use Rattle.std.specs.Ordering.{nat_cmp, ordering_then}
use Rattle.std.specs.declared.cmp.Ordering.TheVariants.{Less, Equal, Greater}
use Rattle.std.specs.Cmp.Lexicographic.{slice_cmp}
use Rattle.std.proofs.lemmas.Bool.{cases_lt, cases_order}
use Rattle.std.proofs.lemmas.Grind.{same_number_lists}
use Rattle.std.proofs.lemmas.List.{length-map, get_or-map, length-append, length-take-le, length-replicate, get_or_append_left, get_or-append_right, get_or_at, get_or-take, get_or-replicate, get_or_past}
use Rattle.std.proofs.lemmas.Nat.{pow-add}
use Rattle.omega_measure.specs.declared.field.Field.{Field}
use Rattle.omega_measure.specs.private.layout.Field.{AreAtMost, AreFields, AreChained, ArePacked, IsInside, IsPackedRow, field_places, digit_in, digits_in, entry_limits, front_order, last_field, last_of, limits_in, top_field, value, word_places}
use Rattle.omega_measure.proofs.Digits.{AreWithin, front_ends, front_order-value, then_assoc, value-replaced}
use Rattle.omega_measure.proofs.Packing.{field_places-at, chained_from_start, digit_is, digits_within, front_in_word, gap_at, inside_at, length-word_places, limit_at, place_of, start, word_fits, word_places-at, words_within}

-- ---- numbers at most their limits

pub length-at_most : (limits xs : List ℕ) → AreAtMost limits xs → length xs ≡ length limits
length-at_most [] [] small = refl
length-at_most [] (x ∷ xs) small = absurd small
length-at_most (l ∷ limits) [] small = absurd small
length-at_most (l ∷ limits) (x ∷ xs) small = let rest = length-at_most limits xs small.1 in omega (arith, rest)

pub at_most_at : (limits xs : List ℕ) (k : ℕ) → AreAtMost limits xs → k < length xs → get_or xs k 0 ≤ get_or limits k 0
at_most_at [] [] k small l = absurd (omega arith)
at_most_at [] (x ∷ xs) k small l = absurd small
at_most_at (m ∷ limits) [] k small l = absurd small
at_most_at (m ∷ limits) (x ∷ xs) zero small l = small.0
at_most_at (m ∷ limits) (x ∷ xs) (suc k) small l = at_most_at limits xs k small.1 (omega arith)

pub at_most_zeros : (limits : List ℕ) (n : ℕ) → n ≡ length limits → AreAtMost limits (replicate n 0)
at_most_zeros [] zero e = tt
at_most_zeros [] (suc n) e = absurd (omega arith)
at_most_zeros (l ∷ limits) zero e = absurd (omega arith)
at_most_zeros (l ∷ limits) (suc n) e = (omega arith, at_most_zeros limits n (omega arith))

-- one number replaced, and those after it cleared
pub at_most_replaced : (limits xs : List ℕ) (k n x : ℕ) → AreAtMost limits xs → n + suc k ≡ length xs → x ≤ get_or limits k 0 → AreAtMost limits (take k xs ++ x ∷ replicate n 0)
at_most_replaced [] [] k n x small size fits = absurd (omega arith)
at_most_replaced [] (y ∷ xs) k n x small size fits = absurd small
at_most_replaced (l ∷ limits) [] k n x small size fits = absurd small
at_most_replaced (l ∷ limits) (y ∷ xs) zero n x small size fits = (fits, at_most_zeros limits n (omega (arith, length-at_most limits xs small.1)))
at_most_replaced (l ∷ limits) (y ∷ xs) (suc k) n x small size fits = (small.0, at_most_replaced limits xs k n x small.1 (omega arith) fits)

-- the first of them all
head_replaced : (xs : List ℕ) (k n x : ℕ) → 0 < k → n + suc k ≡ length xs → get_or (take k xs ++ x ∷ replicate n 0) 0 0 ≡ get_or xs 0 0
head_replaced xs zero n x some size = absurd (omega arith)
head_replaced [] (suc k) n x some size = absurd (omega arith)
head_replaced (y ∷ xs) (suc k) n x some size = refl

length_replaced : (xs : List ℕ) (k n x : ℕ) → n + suc k ≡ length xs → length (take k xs ++ x ∷ replicate n 0) ≡ length xs
length_replaced xs k n x size =
    omega (arith, length-append (take k xs) (x ∷ replicate n 0), length-take-le k xs (omega arith), length-replicate {A = ℕ} n 0)

then_equal : (o : Ordering) → ordering_then o Equal ≡ o
then_equal Less = refl
then_equal Equal = refl
then_equal Greater = refl

whole_front : (x : ℕ) → x / 2 ^ 0 ≡ x
whole_front x = omega arith

-- after the first of a list of zeros
tail_zero : (x n i : ℕ) → 0 < i → get_or (x ∷ replicate n 0) i 0 ≡ 0
tail_zero x n zero some = absurd (omega arith)
tail_zero x zero (suc i) some = refl
tail_zero x (suc n) (suc i) some =
    elim (cases_lt i (suc n)) [
      | inl l ↦ get_or-replicate (suc n) i 0 0 l
      | inr l ↦ get_or_past (replicate (suc n) 0) i 0 (omega (arith, length-replicate {A = ℕ} (suc n) 0, l))
    ]

-- the order on one digit more
front_order-next : (ds es : List ℕ) (k : ℕ) → k < length ds → k < length es → front_order k 0 ds es ≡ slice_cmp nat_cmp (take (suc k) ds) (take (suc k) es)
front_order-next [] es k l m = absurd (omega arith)
front_order-next (d ∷ ds) [] k l m = absurd (omega arith)
front_order-next (d ∷ ds) (e ∷ es) zero l m =
    ap (λ n. nat_cmp n (e / 2 ^ 0)) (whole_front d) ∙ ap (λ n. nat_cmp d n) (whole_front e) ∙ sym (then_equal (nat_cmp d e))
front_order-next (d ∷ ds) (e ∷ es) (suc k) l m =
    then_assoc (nat_cmp d e) (slice_cmp nat_cmp (take k ds) (take k es)) (nat_cmp (get_or ds k 0 / 2 ^ 0) (get_or es k 0 / 2 ^ 0))
    ∙ ap (ordering_then (nat_cmp d e)) (front_order-next ds es k (omega arith) (omega arith))

-- ---- a row and its fields

limits_chained : (before : Field) (limits : List ℕ) (fields : List Field) → AreChained before limits fields → limits_in fields ≡ limits
limits_chained before [] [] chained = refl
limits_chained before [] (field ∷ fields) chained = absurd chained
limits_chained before (l ∷ limits) [] chained = absurd chained
limits_chained before (l ∷ limits) (field ∷ fields) chained = ap (λ m. m ∷ limits_in fields) chained.0.greatest ∙ ap (λ ms. l ∷ ms) (limits_chained field limits fields chained.1)

pub limits_packed : (limits : List ℕ) (fields : List Field) → ArePacked limits fields → limits_in fields ≡ 1 ∷ limits
limits_packed limits fields packed = limits_chained start (1 ∷ limits) fields (chained_from_start limits fields packed)

last_of-start : (limits : List ℕ) (fields : List Field) → ArePacked limits fields → last_of start fields ≡ last_field fields
last_of-start limits [] packed = absurd packed
last_of-start limits (field ∷ fields) packed = refl

-- a number in the places of the words and in those of the fields, if one digit and one word are replaced
same_value :
    (v tw t s hw w d x by a b : ℕ) → t ≡ tw + s → s ≤ 64 → v / 2 ^ tw ≡ hw * 2 ^ 64 + w → x ≡ (w / 2 ^ s + by) * 2 ^ s
    → a + w * 2 ^ tw ≡ (v / 2 ^ tw + x) * 2 ^ tw → b + d * 2 ^ t ≡ (v / 2 ^ t + (d + by)) * 2 ^ t → a ≡ b
same_value v tw t s hw w d x by a b place room front is words digits =
    let y = w / 2 ^ s + by in
    let r = 64 - s in
    let split : 64 ≡ r + s = omega arith in
    let power = ap (λ m. 2 ^ m) split ∙ pow-add 2 r s in
    let places = ap (λ m. 2 ^ m) place ∙ pow-add 2 tw s in
    let in_word = front_in_word v tw t s hw w place room front in
    let left = ap (λ m. (m + x) * 2 ^ tw) front in
    let left_front = ap (λ m. m * 2 ^ tw) (ap (λ m. hw * m) power) in
    let left_back = ap (λ m. m * 2 ^ tw) is in
    let right = ap (λ m. (m + (d + by)) * 2 ^ t) in_word in
    let right_places = ap (λ m. (hw * 2 ^ r + y) * m) places in
    let first : a ≡ hw * (2 ^ r * 2 ^ s) * 2 ^ tw + y * 2 ^ s * 2 ^ tw = omega (arith, words, left, left_front, left_back) in
    let second : b ≡ (hw * 2 ^ r + y) * (2 ^ tw * 2 ^ s) = omega (arith, digits, right, right_places) in
    omega (arith, first, second)

module _ (n : ℕ) (fields : List Field) (are : AreFields n fields) where
  chain : AreChained start (limits_in fields) fields
  chain = subst (λ ls. AreChained start ls fields) (sym (limits_packed (entry_limits fields) fields are.packed)) (chained_from_start (entry_limits fields) fields are.packed)

  last_in : (last_of start fields).word < n
  last_in = subst (λ field. field.word < n) (sym (last_of-start (entry_limits fields) fields are.packed)) are.room

  pub fields_inside : (k : ℕ) → k < length fields → IsInside n (get_or fields k top_field)
  fields_inside k l = inside_at n start (limits_in fields) fields k chain last_in l

  pub fields_some : 0 < length fields
  fields_some = omega (arith, ap length (limits_packed (entry_limits fields) fields are.packed), length-map fields (λ field. field.limit))

  pub field_wide : (k : ℕ) → k < length fields → get_or (limits_in fields) k 0 < 2 ^ (get_or fields k top_field).bits
  field_wide k l = (limit_at n start (limits_in fields) fields k chain l).0

  word_gap : (row : List ℕ) → length row ≡ n → (j s : ℕ) → j < n → s ≤ 64 → (i : ℕ) → i < j → get_or (word_places n) j 0 + s ≤ get_or (word_places n) i 0
  word_gap row size j s l room i m = omega (arith, word_places-at n j l, word_places-at n i (omega arith))

  field_gap : (k b : ℕ) → k < length fields → b ≤ (get_or fields k top_field).bits → (i : ℕ) → i < k → get_or (field_places n fields) k 0 + b ≤ get_or (field_places n fields) i 0
  field_gap k b l few i m =
      omega (arith, field_places-at n fields k l, field_places-at n fields i (omega arith), gap_at n start (limits_in fields) fields k i chain last_in l m)

  words_in : (row : List ℕ) → length row ≡ n → ((j : ℕ) → j < n → get_or row j 0 < 2 ^ 64) → AreWithin (64 * n) (word_places n) row
  words_in row size small = subst (λ m. AreWithin (64 * m) (word_places m) row) size (words_within row (λ j l. small j (omega (arith, l, size))))

  digits_in_places : (ds : List ℕ) → AreAtMost (limits_in fields) ds → AreWithin (place_of n start) (field_places n fields) ds
  digits_in_places ds small = digits_within n start (limits_in fields) fields ds (omega (arith, are.room)) chain last_in small

  length-field_places : length (field_places n fields) ≡ length fields
  length-field_places = length-map fields (λ field. 64 * (n - 1 - field.word) + field.shift)

  -- the front of a row down to a word
  word_front : (row : List ℕ) → length row ≡ n → ((j : ℕ) → j < n → get_or row j 0 < 2 ^ 64) → (j : ℕ) → j < n → (h : ℕ) × (value (word_places n) row / 2 ^ (64 * (n - 1 - j)) ≡ h * 2 ^ 64 + get_or row j 0)
  word_front row size small j l =
      let front = front_ends (64 * n) (word_places n) row j 64 (words_in row size small) (omega (arith, length-word_places n)) (word_gap row size j 64 l (omega arith)) in
      (front.0, ap (λ m. value (word_places n) row / 2 ^ m) (sym (word_places-at n j l)) ∙ front.1)

  -- what the fields of a row hold that is the number of these digits
  pub read_at :
      (row ds : List ℕ) → length row ≡ n → ((j : ℕ) → j < n → get_or row j 0 < 2 ^ 64) → AreAtMost (limits_in fields) ds → value (word_places n) row ≡ value (field_places n fields) ds
      → (k : ℕ) → k < length fields → digit_in row (get_or fields k top_field) ≡ get_or ds k 0
  read_at row ds size small fits whole k l =
      let field = get_or fields k top_field in
      let inside = fields_inside k l in
      let words = word_front row size small field.word inside.word in
      let digits = front_ends (place_of n start) (field_places n fields) ds k field.bits (digits_in_places ds fits) (omega (arith, length-field_places)) (field_gap k field.bits l (omega arith)) in
      let ends = ap (λ m. m / 2 ^ place_of n field) whole ∙ ap (λ m. value (field_places n fields) ds / 2 ^ m) (sym (field_places-at n fields k l)) ∙ digits.1 in
      let long = length-at_most (limits_in fields) ds fits in
      let below = at_most_at (limits_in fields) ds k fits (omega (arith, long, length-map fields (λ c. c.limit))) in
      digit_is (value (word_places n) row) (64 * (n - 1 - field.word)) (place_of n field) field.shift field.bits words.0 (get_or row field.word 0) digits.0 (get_or ds k 0)
      refl inside.within (omega (arith, below, field_wide k l)) words.1 ends

  pub digits_are :
      (row ds : List ℕ) → length row ≡ n → ((j : ℕ) → j < n → get_or row j 0 < 2 ^ 64) → AreAtMost (limits_in fields) ds → value (word_places n) row ≡ value (field_places n fields) ds
      → digits_in fields row ≡ ds
  digits_are row ds size small fits whole =
      same_number_lists (digits_in fields row) ds
      (length-map fields (digit_in row) ∙ sym (length-map fields (λ c. c.limit)) ∙ sym (length-at_most (limits_in fields) ds fits))
      (λ k l.
      let within : k < length fields = omega (arith, l, length-map fields (digit_in row)) in
      get_or-map (digit_in row) fields k top_field 0 within ∙ read_at row ds size small fits whole k within)

  module _ (row : List ℕ) (size : length row ≡ n) (packed : IsPackedRow fields row) where
    small_words : (j : ℕ) → j < n → get_or row j 0 < 2 ^ 64
    small_words j l = packed.small j (omega (arith, size))

    whole_row : value (word_places n) row ≡ value (field_places n fields) (digits_in fields row)
    whole_row = subst (λ m. value (word_places m) row ≡ value (field_places m fields) (digits_in fields row)) size packed.whole

    pub length-digits : length (digits_in fields row) ≡ length fields
    length-digits = length-map fields (digit_in row)

    -- a digit raised by `by` (0 or 1), and all after it cleared
    module _ (k by m z : ℕ) (l : k < length fields) (fits : get_or (digits_in fields row) k 0 + by ≤ get_or (limits_in fields) k 0) (free : 0 < k → get_or (digits_in fields row) 0 0 ≡ 0)
        (following : m + suc k ≡ length fields) (words_after : z + suc (get_or fields k top_field).word ≡ n) where
      abbrev pub new_word : ℕ
      new_word = (get_or row (get_or fields k top_field).word 0 / 2 ^ (get_or fields k top_field).shift + by) * 2 ^ (get_or fields k top_field).shift

      abbrev pub new_row : List ℕ
      new_row = take (get_or fields k top_field).word row ++ new_word ∷ replicate z 0

      abbrev pub new_digits : List ℕ
      new_digits = take k (digits_in fields row) ++ (get_or (digits_in fields row) k 0 + by) ∷ replicate m 0

      pub word_small : new_word < 2 ^ 64
      word_small =
          let field = get_or fields k top_field in
          let inside = fields_inside k l in
          let read = get_or-map (digit_in row) fields k top_field 0 l in
          word_fits (get_or row field.word 0) field.shift field.bits by (small_words field.word inside.word) inside.within (omega (arith, read, fits, field_wide k l))

      new_small : (j : ℕ) → j < n → get_or new_row j 0 < 2 ^ 64
      new_small j j_in =
          let word = (get_or fields k top_field).word in
          let front = length-take-le word row (omega (arith, size, (fields_inside k l).word)) in
          elim (cases_order j word) [
            | inl same ↦
                let at = get_or_at (take word row) new_word (replicate z 0) 0 j (front ∙ sym same) in omega (arith, at, word_small)
            | inr apart ↦ elim apart [
              | inl before ↦
                  let left = get_or_append_left (take word row) (new_word ∷ replicate z 0) 0 j (omega (arith, front)) in
                  let taken = get_or-take word row j 0 before in
                  omega (arith, left, taken, small_words j j_in)
              | inr after ↦
                  let right = get_or-append_right (take word row) (new_word ∷ replicate z 0) word j 0 front (omega arith) in
                  let zero_at = tail_zero new_word z (j - word) (omega arith) in
                  omega (arith, right, zero_at)
            ]
          ]

      pub length-new_row : length new_row ≡ n
      length-new_row = length_replaced row (get_or fields k top_field).word z new_word (words_after ∙ sym size) ∙ size

      new_at_most : AreAtMost (limits_in fields) new_digits
      new_at_most = at_most_replaced (limits_in fields) (digits_in fields row) k m (get_or (digits_in fields row) k 0 + by) packed.limits (following ∙ sym length-digits) fits

      new_whole : value (word_places n) new_row ≡ value (field_places n fields) new_digits
      new_whole =
          let field = get_or fields k top_field in
          let inside = fields_inside k l in
          let front = word_front row size small_words field.word inside.word in
          let v = value (word_places n) row in
          let words_at = value-replaced (64 * n) (word_places n) row field.word z new_word (words_in row size small_words) (words_after ∙ sym (length-word_places n)) in
          let words = subst (λ t. value (word_places n) new_row + get_or row field.word 0 * 2 ^ t ≡ (v / 2 ^ t + new_word) * 2 ^ t) (word_places-at n field.word inside.word) words_at in
          let digits_at = value-replaced (place_of n start) (field_places n fields) (digits_in fields row) k m (get_or (digits_in fields row) k 0 + by) (digits_in_places (digits_in fields row) packed.limits) (following ∙ sym length-field_places) in
          let digits_t = subst (λ t. value (field_places n fields) new_digits + get_or (digits_in fields row) k 0 * 2 ^ t ≡ (value (field_places n fields) (digits_in fields row) / 2 ^ t + (get_or (digits_in fields row) k 0 + by)) * 2 ^ t) (field_places-at n fields k l) digits_at in
          let digits = subst (λ u. value (field_places n fields) new_digits + get_or (digits_in fields row) k 0 * 2 ^ place_of n field ≡ (u / 2 ^ place_of n field + (get_or (digits_in fields row) k 0 + by)) * 2 ^ place_of n field) (sym whole_row) digits_t in
          same_value v (64 * (n - 1 - field.word)) (place_of n field) field.shift front.0 (get_or row field.word 0) (get_or (digits_in fields row) k 0) new_word by
          (value (word_places n) new_row) (value (field_places n fields) new_digits) refl (omega (arith, inside.room)) front.1 refl words digits

      pub digits-new_row : digits_in fields new_row ≡ new_digits
      digits-new_row = digits_are new_row new_digits length-new_row new_small new_at_most new_whole

      new_top : get_or new_digits 0 0 ≢ 0 → (i : ℕ) → 0 < i → get_or new_digits i 0 ≡ 0
      new_top set i some =
          elim (cases_lt 0 k) [
            | inl later ↦ absurd (set (head_replaced (digits_in fields row) k m (get_or (digits_in fields row) k 0 + by) later (following ∙ sym length-digits) ∙ free later))
            | inr first ↦
                let e : k ≡ 0 = omega arith in
                subst (λ j. get_or (take j (digits_in fields row) ++ (get_or (digits_in fields row) k 0 + by) ∷ replicate m 0) i 0 ≡ 0) (sym e) (tail_zero (get_or (digits_in fields row) k 0 + by) m i some)
          ]

      pub packed-new_row : IsPackedRow fields new_row
      packed-new_row = record {
        small = λ j j_in. new_small j (omega (arith, j_in, length-new_row));
        whole =
            subst (λ q. value (word_places q) new_row ≡ value (field_places q fields) (digits_in fields new_row)) (sym length-new_row)
            (new_whole ∙ ap (value (field_places n fields)) (sym digits-new_row));
        limits = subst (AreAtMost (limits_in fields)) (sym digits-new_row) new_at_most;
        top = λ set i some. ap (λ ds. get_or ds i 0) digits-new_row ∙ new_top (λ e. set (ap (λ ds. get_or ds 0 0) digits-new_row ∙ e)) i some;
      }

  -- two rows compare on the words down to a field as their digits do
  pub front_order-digits :
      (a b : List ℕ) → length a ≡ n → length b ≡ n → IsPackedRow fields a → IsPackedRow fields b → (k : ℕ) → k < length fields
      → front_order (get_or fields k top_field).word (get_or fields k top_field).shift a b ≡ slice_cmp nat_cmp (take (suc k) (digits_in fields a)) (take (suc k) (digits_in fields b))
  front_order-digits a b a_size b_size a_is b_is k l =
      let field = get_or fields k top_field in
      let inside = fields_inside k l in
      let words =
      front_order-value (64 * n) (word_places n) a b field.word field.shift (words_in a a_size (small_words a a_size a_is)) (words_in b b_size (small_words b b_size b_is))
      (omega (arith, length-word_places n, inside.word)) (word_gap a a_size field.word field.shift inside.word (omega (arith, inside.room))) in
      let digits =
      front_order-value (place_of n start) (field_places n fields) (digits_in fields a) (digits_in fields b) k 0 (digits_in_places (digits_in fields a) a_is.limits) (digits_in_places (digits_in fields b) b_is.limits)
      (omega (arith, length-field_places)) (field_gap k 0 l (omega arith)) in
      let place : get_or (word_places n) field.word 0 + field.shift ≡ get_or (field_places n fields) k 0 + 0 = omega (arith, word_places-at n field.word inside.word, field_places-at n fields k l) in
      words
      ∙ ap (λ t. nat_cmp (value (word_places n) a / 2 ^ t) (value (word_places n) b / 2 ^ t)) place
      ∙ ap (λ v. nat_cmp (v / 2 ^ (get_or (field_places n fields) k 0 + 0)) (value (word_places n) b / 2 ^ (get_or (field_places n fields) k 0 + 0))) (whole_row a a_size a_is)
      ∙ ap (λ v. nat_cmp (value (field_places n fields) (digits_in fields a) / 2 ^ (get_or (field_places n fields) k 0 + 0)) (v / 2 ^ (get_or (field_places n fields) k 0 + 0))) (whole_row b b_size b_is)
      ∙ sym digits
      ∙ front_order-next (digits_in fields a) (digits_in fields b) k (omega (arith, length-digits a a_size a_is)) (omega (arith, length-digits b b_size b_is))
