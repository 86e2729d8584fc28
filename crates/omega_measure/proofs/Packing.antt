-- Fields one after another, and as many bits as a limit needs.
use Rattle.std.proofs.Common.{◌≡◌, ℕ, zero, suc, ◌+◌, ◌-◌, ◌*◌, ◌/◌, ◌%◌, ◌^◌, ◌<◌, ◌≤◌, List, [], ◌∷◌, ◌++◌, length, get_or, take, sym, refl, ap, ◌∙◌, subst, arith}
use Rattle.std.specs.Int.Count.{count_leading_zeros}
use Rattle.std.proofs.Math.Pow.{pow_mono}
use Rattle.std.proofs.lemmas.Nat.{leading_length, pow_pos, pow-add, mul-le, shr-shr, mod_low, shr_split, shr_below, shl_below, mod_below, one_shl, and_mask}
use Rattle.std.specs.Prelude.{bit_and}
use Rattle.std.proofs.Math.Nat.{mul_assoc}
use Rattle.std.proofs.lemmas.List.{take_more, get_or-map}
use Rattle.omega_measure.specs.declared.field.Field.{Field}
use Rattle.omega_measure.specs.private.layout.Field.{AreAtMost, AreChained, ArePacked, FollowsField, IsInside, field_places, last_field, last_of, top_field, word_places}
use Rattle.omega_measure.proofs.Digits.{AreWithin, shifted}

-- how many bits a number has
pub bits_of : (limit zeros : ℕ) → limit < 2 ^ 32 → zeros ≡ count_leading_zeros 32 limit → (zeros ≤ 32) × (limit < 2 ^ (32 - zeros)) × (2 ^ (32 - zeros) ≤ 2 * limit + 1)
bits_of limit zeros fits is =
    let found = leading_length 32 limit fits in
    let e : found.0 ≡ 32 - zeros = omega (arith, found.1, is) in
    (omega (arith, found.1, is), subst (λ m. limit < 2 ^ m) e found.2, subst (λ m. 2 ^ m ≤ 2 * limit + 1) e found.3)

-- one more field
chained-push : (before : Field) (limits : List ℕ) (fields : List Field) (limit : ℕ) (field : Field) → AreChained before limits fields → FollowsField (last_of before fields) limit field → AreChained before (limits ++ limit ∷ []) (fields ++ field ∷ [])
chained-push before [] [] limit field chained follows = (follows, tt)
chained-push before [] (x ∷ fields) limit field chained follows = absurd chained
chained-push before (l ∷ limits) [] limit field chained follows = absurd chained
chained-push before (l ∷ limits) (x ∷ fields) limit field chained follows = (chained.0, chained-push x limits fields limit field chained.1 follows)

last_of-push : (before : Field) (fields : List Field) (field : Field) → last_of before (fields ++ field ∷ []) ≡ field
last_of-push before [] field = refl
last_of-push before (x ∷ fields) field = last_of-push x fields field

packed-push : (limits : List ℕ) (fields : List Field) (limit : ℕ) (field : Field) → ArePacked limits fields → FollowsField (last_field fields) limit field → ArePacked (limits ++ limit ∷ []) (fields ++ field ∷ [])
packed-push limits [] limit field packed follows = absurd packed
packed-push limits (x ∷ fields) limit field packed follows = (packed.0, chained-push x limits fields limit field packed.1 follows)

pub last_field-push : (fields : List Field) (field : Field) → last_field (fields ++ field ∷ []) ≡ field
last_field-push [] field = refl
last_field-push (x ∷ fields) field = last_of-push x fields field

pub packed_more : (limits : List ℕ) (i : ℕ) (fields : List Field) (last field : Field) → i < length limits → ArePacked (take i limits) fields → last ≡ last_field fields → FollowsField last (get_or limits i 0) field → ArePacked (take (i + 1) limits) (fields ++ field ∷ [])
packed_more limits i fields last field l packed is follows =
    subst (λ ls. ArePacked ls (fields ++ field ∷ [])) (sym (take_more limits i 0 l))
    (packed-push (take i limits) fields (get_or limits i 0) field packed (subst (λ before. FollowsField before (get_or limits i 0) field) is follows))

-- ---- fields one after another

-- a field without bits, before the first
abbrev pub start : Field
start = record { word = 0; shift = 64; bits = 0; limit = 0 }

top-follows : FollowsField start 1 top_field
top-follows = record {
  greatest = refl;
  wide = omega arith;
  narrow = omega arith;
  few = omega arith;
  within = omega arith;
  room = omega arith;
  following = omega arith;
}

pub chained_from_start : (limits : List ℕ) (fields : List Field) → ArePacked limits fields → AreChained start (1 ∷ limits) fields
chained_from_start limits [] packed = absurd packed
chained_from_start limits (x ∷ fields) packed = (subst (λ field. FollowsField start 1 field) (sym packed.0) top-follows, packed.1)

word-le-last : (before : Field) (limits : List ℕ) (fields : List Field) → before.shift < 64 → AreChained before limits fields → before.word ≤ (last_of before fields).word
word-le-last before limits [] room chained = omega arith
word-le-last before [] (field ∷ fields) room chained = absurd chained
word-le-last before (l ∷ limits) (field ∷ fields) room chained =
    let rest = word-le-last field limits fields chained.0.room chained.1 in omega (arith, rest, chained.0.following)

-- the place of a field in a row of n words
abbrev pub place_of : ℕ → Field → ℕ
place_of n field = 64 * (n - 1 - field.word) + field.shift

place_after : (n : ℕ) (before field : Field) (limit : ℕ) → before.word < n → field.word < n → FollowsField before limit field → place_of n field + field.bits ≤ place_of n before
place_after n before field limit b_in c_in follows = omega (arith, follows.following)

module _ (n : ℕ) where
  pub length-chained : (before : Field) (limits : List ℕ) (fields : List Field) → AreChained before limits fields → length fields ≡ length limits
  length-chained before [] [] chained = refl
  length-chained before [] (field ∷ fields) chained = absurd chained
  length-chained before (l ∷ limits) [] chained = absurd chained
  length-chained before (l ∷ limits) (field ∷ fields) chained = let rest = length-chained field limits fields chained.1 in omega (arith, rest)

  pub inside_at : (before : Field) (limits : List ℕ) (fields : List Field) (k : ℕ) → AreChained before limits fields → (last_of before fields).word < n → k < length fields → IsInside n (get_or fields k top_field)
  inside_at before limits [] k chained last l = absurd (omega arith)
  inside_at before [] (field ∷ fields) k chained last l = absurd chained
  inside_at before (limit ∷ limits) (field ∷ fields) zero chained last l =
      let word = word-le-last field limits fields chained.0.room chained.1 in
      record { word = omega (arith, word, last); few = chained.0.few; within = chained.0.within; room = chained.0.room }
  inside_at before (limit ∷ limits) (field ∷ fields) (suc k) chained last l = inside_at field limits fields k chained.1 last (omega arith)

  pub limit_at : (before : Field) (limits : List ℕ) (fields : List Field) (k : ℕ) → AreChained before limits fields → k < length fields → (get_or limits k 0 < 2 ^ (get_or fields k top_field).bits) × ((get_or fields k top_field).limit ≡ get_or limits k 0)
  limit_at before limits [] k chained l = absurd (omega arith)
  limit_at before [] (field ∷ fields) k chained l = absurd chained
  limit_at before (limit ∷ limits) (field ∷ fields) zero chained l = (chained.0.wide, chained.0.greatest)
  limit_at before (limit ∷ limits) (field ∷ fields) (suc k) chained l = limit_at field limits fields k chained.1 (omega arith)

  gap_before : (before : Field) (limits : List ℕ) (fields : List Field) (k : ℕ) → before.word < n → AreChained before limits fields → (last_of before fields).word < n → k < length fields → place_of n (get_or fields k top_field) + (get_or fields k top_field).bits ≤ place_of n before
  gap_before before limits [] k b_in chained last l = absurd (omega arith)
  gap_before before [] (field ∷ fields) k b_in chained last l = absurd chained
  gap_before before (limit ∷ limits) (field ∷ fields) zero b_in chained last l =
      let word = word-le-last field limits fields chained.0.room chained.1 in
      place_after n before field limit b_in (omega (arith, word, last)) chained.0
  gap_before before (limit ∷ limits) (field ∷ fields) (suc k) b_in chained last l =
      let word = word-le-last field limits fields chained.0.room chained.1 in
      let here = place_after n before field limit b_in (omega (arith, word, last)) chained.0 in
      let rest = gap_before field limits fields k (omega (arith, word, last)) chained.1 last (omega arith) in
      omega (arith, here, rest)

  pub gap_at : (before : Field) (limits : List ℕ) (fields : List Field) (k i : ℕ) → AreChained before limits fields → (last_of before fields).word < n → k < length fields → i < k → place_of n (get_or fields k top_field) + (get_or fields k top_field).bits ≤ place_of n (get_or fields i top_field)
  gap_at before limits [] k i chained last l m = absurd (omega arith)
  gap_at before [] (field ∷ fields) k i chained last l m = absurd chained
  gap_at before (limit ∷ limits) (field ∷ fields) zero i chained last l m = absurd (omega arith)
  gap_at before (limit ∷ limits) (field ∷ fields) (suc k) zero chained last l m =
      let word = word-le-last field limits fields chained.0.room chained.1 in
      gap_before field limits fields k (omega (arith, word, last)) chained.1 last (omega arith)
  gap_at before (limit ∷ limits) (field ∷ fields) (suc k) (suc i) chained last l m = gap_at field limits fields k i chained.1 last (omega arith) (omega arith)

  pub field_places-at : (fields : List Field) (k : ℕ) → k < length fields → get_or (field_places n fields) k 0 ≡ place_of n (get_or fields k top_field)
  field_places-at fields k l = get_or-map (λ field. place_of n field) fields k top_field 0 l

  -- digits that keep to their limits have room
  pub digits_within : (before : Field) (limits : List ℕ) (fields : List Field) (ds : List ℕ) → before.word < n → AreChained before limits fields → (last_of before fields).word < n → AreAtMost limits ds → AreWithin (place_of n before) (field_places n fields) ds
  digits_within before [] [] [] b_in chained last small = tt
  digits_within before [] [] (d ∷ ds) b_in chained last small = absurd small
  digits_within before [] (field ∷ fields) ds b_in chained last small = absurd chained
  digits_within before (limit ∷ limits) [] ds b_in chained last small = absurd chained
  digits_within before (limit ∷ limits) (field ∷ fields) [] b_in chained last small = absurd small
  digits_within before (limit ∷ limits) (field ∷ fields) (d ∷ ds) b_in chained last small =
      let word = word-le-last field limits fields chained.0.room chained.1 in
      let c_in : field.word < n = omega (arith, word, last) in
      let here = place_after n before field limit b_in c_in chained.0 in
      let t = place_of n field in
      let room = mul-le (d + 1) (2 ^ t) (2 ^ field.bits) (2 ^ t) (omega (arith, small.0, chained.0.wide)) (omega arith) in
      let power = pow-add 2 field.bits t in
      let higher : field.bits + t ≤ place_of n before = omega (arith, here) in
      let larger = pow_mono higher in
      (omega (arith, here), omega (arith, room, power, larger), digits_within field limits fields ds c_in chained.1 last small.1)

-- ---- the words of a row

pub length-word_places : (n : ℕ) → length (word_places n) ≡ n
length-word_places zero = refl
length-word_places (suc n) = let rest = length-word_places n in omega (arith, rest)

pub word_places-at : (n j : ℕ) → j < n → get_or (word_places n) j 0 ≡ 64 * (n - 1 - j)
word_places-at zero j l = absurd (omega arith)
word_places-at (suc n) zero l = omega arith
word_places-at (suc n) (suc j) l = word_places-at n j (omega arith) ∙ ap (λ m. 64 * m) (omega arith)

pub words_within : (row : List ℕ) → ((j : ℕ) → j < length row → get_or row j 0 < 2 ^ 64) → AreWithin (64 * length row) (word_places (length row)) row
words_within [] small = tt
words_within (w ∷ ws) small =
    let n = length ws in
    let place : 64 * suc n ≡ 64 + 64 * n = omega arith in
    let power = ap (λ m. 2 ^ m) place ∙ pow-add 2 64 (64 * n) in
    let first = small 0 (omega arith) in
    let room = mul-le (w + 1) (2 ^ (64 * n)) (2 ^ 64) (2 ^ (64 * n)) (omega (arith, first)) (omega arith) in
    (omega arith, omega (arith, room, power), words_within ws (λ j l. small (suc j) (omega arith)))

-- ---- a digit and its word

-- a number's last places do not depend on what is in front
mod_front : (a b x : ℕ) → (a * 2 ^ b + x) % 2 ^ b ≡ x % 2 ^ b
mod_front a b x =
    let whole : a * 2 ^ b + x ≡ (a + x / 2 ^ b) * 2 ^ b + x % 2 ^ b = omega (arith, shr_split x b) in
    ap (λ n. n % 2 ^ b) whole ∙ mod_low (a + x / 2 ^ b) b (x % 2 ^ b) (mod_below x (2 ^ b) (pow_pos b))

-- the front of a number down to a place in a word
pub front_in_word : (v tw t s hw w : ℕ) → t ≡ tw + s → s ≤ 64 → v / 2 ^ tw ≡ hw * 2 ^ 64 + w → v / 2 ^ t ≡ hw * 2 ^ (64 - s) + w / 2 ^ s
front_in_word v tw t s hw w place room front =
    let split : 64 ≡ 64 - s + s = omega arith in
    ap (λ m. v / 2 ^ m) place ∙ sym (shr-shr v tw s) ∙ ap (λ m. m / 2 ^ s) front ∙ shifted hw (64 - s) s w 64 split

pub digit_is : (v tw t s b hw w hd d : ℕ) → t ≡ tw + s → s + b ≤ 64 → d < 2 ^ b → v / 2 ^ tw ≡ hw * 2 ^ 64 + w → v / 2 ^ t ≡ hd * 2 ^ b + d → w / 2 ^ s % 2 ^ b ≡ d
digit_is v tw t s b hw w hd d place room small front ends =
    let r = 64 - s - b in
    let split : 64 - s ≡ r + b = omega arith in
    let power = ap (λ m. hw * 2 ^ m) split ∙ ap (λ m. hw * m) (pow-add 2 r b) ∙ sym (mul_assoc hw (2 ^ r) (2 ^ b)) in
    let in_word = front_in_word v tw t s hw w place (omega arith) front in
    let same : hw * 2 ^ r * 2 ^ b + w / 2 ^ s ≡ hd * 2 ^ b + d = omega (arith, power, in_word, ends) in
    sym (mod_front (hw * 2 ^ r) b (w / 2 ^ s)) ∙ ap (λ m. m % 2 ^ b) same ∙ mod_low hd b d small

-- what a front raised in its word leaves fits the word
pub word_fits : (w s b by : ℕ) → w < 2 ^ 64 → s + b ≤ 64 → w / 2 ^ s % 2 ^ b + by < 2 ^ b → (w / 2 ^ s + by) * 2 ^ s < 2 ^ 64
word_fits w s b by small room fits =
    let r = 64 - s - b in
    let y = w / 2 ^ s in
    let whole : 64 ≡ r + b + s = omega arith in
    let y_small = shr_below w (r + b) s (subst (λ m. w < 2 ^ m) whole small) in
    let q_small = shr_below y r b y_small in
    let q = y / 2 ^ b in
    let product = mul-le (q + 1) (2 ^ b) (2 ^ r) (2 ^ b) (omega (arith, q_small)) (omega arith) in
    let power = pow-add 2 r b in
    let front : y + by < 2 ^ (r + b) = omega (arith, product, power, shr_split y b, fits) in
    subst (λ m. (y + by) * 2 ^ s < 2 ^ m) (sym whole) (shl_below (y + by) (r + b) s front)

-- the last field by its place
pub last_field-at : (fields : List Field) (d : Field) → 0 < length fields → get_or fields (length fields - 1) d ≡ last_field fields
last_field-at [] d some = absurd (omega arith)
last_field-at (field ∷ fields) d some = ap (λ k. get_or (field ∷ fields) k d) (omega arith) ∙ at field fields d
  where
    at : (before : Field) (fields : List Field) (d : Field) → get_or (before ∷ fields) (length fields) d ≡ last_of before fields
    at before [] d = refl
    at before (x ∷ fields) d = at x fields d

-- what a mask keeps
pub masked : (x bits : ℕ) → bits < 64 → bit_and x (1 * 2 ^ bits % 2 ^ 64 - 1) ≡ x % 2 ^ bits
masked x bits small = ap (λ m. bit_and x (m - 1)) (one_shl bits 64 small) ∙ and_mask x bits
