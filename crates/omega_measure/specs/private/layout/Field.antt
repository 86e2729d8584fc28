-- Fields of bits in a row of words, and the measure that a row holds in them.
use Rattle.std.specs.Prelude.{◌≡◌, ◌≢◌, ℕ, zero, suc, ◌+◌, ◌-◌, ◌*◌, ◌/◌, ◌%◌, ◌^◌, ◌<◌, ◌≤◌}
use Rattle.std.specs.Prelude.{Some, None, List, [], ◌∷◌, length, map, take, drop, slice_index}
use Rattle.std.specs.declared.cmp.Ordering.{Ordering}
use Rattle.std.specs.Ordering.{nat_cmp, ordering_then}
use Rattle.std.specs.Cmp.Lexicographic.{slice_cmp}
use Rattle.omega_lift_laws.specs.Measure.{Measure}
use Rattle.omega_measure.specs.declared.field.Field.{Field}

-- the field of the flag for top: the first bit of a row
abbrev pub top_field : Field
top_field = record { word = 0; shift = 63; bits = 1; limit = 1 }

-- the next field after `before`, for an entry up to a limit: as many bits as the limit needs, all in one word, and none
-- of them in use
pub record FollowsField (before : Field) (limit : ℕ) (field : Field) : Type 0 where
  pub greatest : field.limit ≡ limit
  pub wide : limit < 2 ^ field.bits
  pub narrow : 2 ^ field.bits ≤ 2 * limit + 1
  pub few : field.bits ≤ 32
  pub within : field.shift + field.bits ≤ 64
  pub room : field.shift < 64
  pub following : 64 * before.word + field.shift + field.bits ≤ 64 * field.word + before.shift

-- fields one after another, for entries up to these limits
abbrev pub AreChained : Field → List ℕ → List Field → Type 0
AreChained before [] [] = Unit {0}
AreChained before [] (field ∷ fields) = ⊥
AreChained before (limit ∷ limits) [] = ⊥
AreChained before (limit ∷ limits) (field ∷ fields) =
    FollowsField before limit field × AreChained field limits fields

-- the fields of a row: the flag for top, and then the entries up to these limits
abbrev pub ArePacked : List ℕ → List Field → Type 0
ArePacked limits [] = ⊥
ArePacked limits (field ∷ fields) = (field ≡ top_field) × AreChained field limits fields

-- the last of the fields
abbrev pub last_of : Field → List Field → Field
last_of before [] = before
last_of before (field ∷ fields) = last_of field fields

-- the last field of a row
abbrev pub last_field : List Field → Field
last_field [] = top_field
last_field (field ∷ fields) = last_of field fields

-- the greatest numbers that the fields hold
abbrev pub limits_in : List Field → List ℕ
limits_in fields = map (λ field. field.limit) fields

-- the greatest numbers that the fields of the entries hold
abbrev pub entry_limits : List Field → List ℕ
entry_limits fields = drop 1 (limits_in fields)

-- the fields fit in a row of n words
pub record AreFields (n : ℕ) (fields : List Field) : Type 0 where
  pub packed : ArePacked (entry_limits fields) fields
  pub room : (last_field fields).word < n

-- the number in a field of a row
abbrev pub digit_in : List ℕ → Field → ℕ
digit_in row field = slice_index row field.word / 2 ^ field.shift % 2 ^ field.bits

-- the numbers in all fields of a row
abbrev pub digits_in : List Field → List ℕ → List ℕ
digits_in fields row = map (digit_in row) fields

-- the flag for top in a row
abbrev pub flag_in : List Field → List ℕ → ℕ
flag_in fields row = slice_index (digits_in fields row) 0

-- the measure whose flag and entries these are
abbrev pub measure_of : List ℕ → Measure
measure_of [] = None
measure_of (zero ∷ entries) = Some entries
measure_of (suc top ∷ entries) = None

-- the order of two rows on the words before `word`, and on the bits of that word from `shift` up
abbrev pub front_order : ℕ → ℕ → List ℕ → List ℕ → Ordering
front_order word shift a b =
    ordering_then (slice_cmp nat_cmp (take word a) (take word b))
    (nat_cmp (slice_index a word / 2 ^ shift) (slice_index b word / 2 ^ shift))

-- the number with these digits at these bit positions
abbrev pub value : List ℕ → List ℕ → ℕ
value [] digits = 0
value (shift ∷ shifts) [] = 0
value (shift ∷ shifts) (digit ∷ digits) = digit * 2 ^ shift + value shifts digits

-- the bit positions of the words of a row in the number that they form
abbrev pub word_places : ℕ → List ℕ
word_places zero = []
word_places (suc n) = 64 * n ∷ word_places n

-- the bit positions of the fields of a row of n words in that number
abbrev pub field_places : ℕ → List Field → List ℕ
field_places n fields = map (λ field. 64 * (n - 1 - field.word) + field.shift) fields

-- a field of a row of n words
pub record IsInside (n : ℕ) (field : Field) : Type 0 where
  pub word : field.word < n
  pub few : field.bits ≤ 32
  pub within : field.shift + field.bits ≤ 64
  pub room : field.shift < 64

-- each number is at most its limit
abbrev pub AreAtMost : List ℕ → List ℕ → Type 0
AreAtMost [] [] = Unit {0}
AreAtMost [] (x ∷ xs) = ⊥
AreAtMost (limit ∷ limits) [] = ⊥
AreAtMost (limit ∷ limits) (x ∷ xs) = (x ≤ limit) × AreAtMost limits xs

-- a row of words that holds digits in its fields and nothing else: each at most its limit, and all others 0 if the flag
-- for top is set
pub record IsPackedRow (fields : List Field) (row : List ℕ) : Type 0 where
  pub small : (j : ℕ) → j < length row → slice_index row j < 2 ^ 64
  pub whole : value (word_places (length row)) row
      ≡ value (field_places (length row) fields) (digits_in fields row)
  pub limits : AreAtMost (limits_in fields) (digits_in fields row)
  pub top : slice_index (digits_in fields row) 0 ≢ 0 → (k : ℕ) → 0 < k
      → slice_index (digits_in fields row) k ≡ 0
