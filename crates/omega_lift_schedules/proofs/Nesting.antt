-- What a nested schedule keeps, at its start and after takes and adds:
-- the flags of places follow the bits of their positions.
use Rattle.std.proofs.Common.{◌≡◌, ◌≢◌, ℕ, ◌+◌, ◌-◌, ◌/◌, ◌%◌, ◌<◌, ◌^◌, zero, suc, Bool, true, false, List, [], ◌∷◌, Option, Some, None, length, arith, refl, sym, ap, ◌∙◌, get_or, map, set, replicate, slice_index, subst}
use Rattle.std.specs.List.{slice_get}
use Rattle.std.specs.Int.{bit_at}
use Rattle.std.specs.Option.{MatchOption}
use Rattle.std.proofs.lemmas.List.{get_or-map, get_or-replicate, length-map, length-replicate}
use Rattle.std.proofs.lemmas.Nat.Bits.{bit_at_ones}
use Rattle.std.proofs.lemmas.Option.{slice_get-get_or, slice_get_within}
use Rattle.omega_lift_schedules.specs.Schedule.{IsIdle, IsPending}
use Rattle.omega_lift_schedules.specs.Permutation.{AreInverse}
use Rattle.omega_lift_schedules.specs.PositionSet.{is_set}
use Rattle.omega_lift_schedules.specs.private.Nested.{IsEmpty, IsNested, IsSomePosition, flags_of}

-- functions that agree on a list's elements map it to the same list
map_same : (f g : ℕ → Bool) (xs : List ℕ) → ((k : ℕ) → k < length xs → f (get_or xs k 0) ≡ g (get_or xs k 0)) → map f xs ≡ map g xs
map_same f g [] same = refl
map_same f g (x ∷ xs) same =
    let first : f x ≡ g x = same 0 (omega arith) in
    let rest : map f xs ≡ map g xs = map_same f g xs (λ k lt. same (suc k) (omega arith)) in
    cc

-- if they agree on all but one, one entry is replaced
map_other : (f g : ℕ → Bool) (xs : List ℕ) (i : ℕ) (b : Bool) → i < length xs → f (get_or xs i 0) ≡ b
    → ((k : ℕ) → k < length xs → k ≢ i → f (get_or xs k 0) ≡ g (get_or xs k 0))
    → map f xs ≡ set (map g xs) i b
map_other f g [] i b lt here others = absurd (omega arith)
map_other f g (x ∷ xs) zero b lt here others =
    let rest : map f xs ≡ map g xs = map_same f g xs (λ k inside. others (suc k) (omega arith) (omega arith)) in
    cc
map_other f g (x ∷ xs) (suc i) b lt here others =
    let first : f x ≡ g x = others 0 (omega arith) (omega arith) in
    let rest : map f xs ≡ set (map g xs) i b =
    map_other f g xs i b (omega arith) here (λ k inside ne. others (suc k) (omega arith) (λ e. ne (omega (arith, e)))) in
    cc

-- a function that holds of each element maps a list to as many times yes
map_all : (f : ℕ → Bool) (xs : List ℕ) → ((k : ℕ) → k < length xs → f (get_or xs k 0) ≡ true) → map f xs ≡ replicate (length xs) true
map_all f [] all = refl
map_all f (x ∷ xs) all =
    let first : f x ≡ true = all 0 (omega arith) in
    let rest : map f xs ≡ replicate (length xs) true = map_all f xs (λ k lt. all (suc k) (omega arith)) in
    cc

-- the flag of a place is the bit of its position
pub flag_at : (positions words : List ℕ) (v : ℕ) → v < length positions
    → slice_get (flags_of positions words) v ≡ Some (is_set words (slice_index positions v))
flag_at positions words v lt =
    let inside : v < length (map (is_set words) positions) = omega (arith, length-map positions (is_set words)) in
    slice_get-get_or (map (is_set words) positions) v false inside ∙ ap Some (get_or-map (is_set words) positions v 0 false lt)

-- two places have different positions
position_apart : (positions places : List ℕ) (u v : ℕ) → AreInverse positions places → u < length positions → v < length positions → u ≢ v
    → slice_index positions u ≢ slice_index positions v
position_apart positions places u v inverse in_u in_v ne same =
    let back_u : slice_index places (slice_index positions u) ≡ u = (inverse.positioned u in_u).1 in
    let back_v : slice_index places (slice_index positions v) ≡ v = (inverse.positioned v in_v).1 in
    ne (sym back_u ∙ (ap (λ (r : ℕ). slice_index places r) same ∙ back_v))

-- one bit that is changed changes one flag
pub flags_changed : (positions places old new : List ℕ) (v position : ℕ) (b : Bool) → AreInverse positions places → v < length positions
    → position ≡ slice_index positions v → is_set new position ≡ b → ((other : ℕ) → other ≢ position → is_set new other ≡ is_set old other)
    → flags_of positions new ≡ set (flags_of positions old) v b
flags_changed positions places old new v position b inverse lt same here others =
    map_other (is_set new) (is_set old) positions v b lt (ap (is_set new) (sym same) ∙ here)
    (λ k inside ne. others (slice_index positions k) (λ e. position_apart positions places k v inverse inside lt ne (e ∙ same)))

-- a pending place has a position
pub pending_positioned : (positions words : List ℕ) (taken v : ℕ) → IsPending (record { flags = flags_of positions words; taken = taken }) v → v < length positions
pending_positioned positions words taken v at =
    omega (arith, slice_get_within (flags_of positions words) v true at, length-map positions (is_set words))

-- the word of a position is one of the words
pub word_inside : (positions places words : List ℕ) (v : ℕ) → IsNested positions places words → v < length positions → slice_index positions v / 64 < length words
word_inside positions places words v nested lt =
    let inside : slice_index positions v < length places = (nested.inverse.positioned v lt).0 in
    omega (arith, nested.bits)

-- the place of a position whose bit is set is pending
pub position_pending : (positions places words : List ℕ) (taken v : ℕ) → AreInverse positions places → IsSomePosition places words v
    → IsPending (record { flags = flags_of positions words; taken = taken }) v
position_pending positions places words taken v inverse at =
    let position = at.0 in
    let back = inverse.placed position at.1.0 in
    let inside : v < length positions = subst (λ (u : ℕ). u < length positions) at.1.2 back.0 in
    let same : slice_index positions v ≡ position = subst (λ (u : ℕ). slice_index positions u ≡ position) at.1.2 back.1 in
    flag_at positions words v inside ∙ (ap (λ (r : ℕ). Some (is_set words r)) same ∙ ap Some at.1.1)

-- if no bit is set, no place is pending
pub empty_idle : (positions places words : List ℕ) (taken : ℕ) → AreInverse positions places → IsEmpty places words
    → IsIdle (record { flags = flags_of positions words; taken = taken })
empty_idle positions places words taken inverse empty v lt =
    let inside : v < length positions = omega (arith, length-map positions (is_set words)) in
    flag_at positions words v inside ∙ ap Some (empty (slice_index positions v) (inverse.positioned v inside).0)

-- what is found if all positions were looked at
pub found_pending : (positions places words : List ℕ) (taken : ℕ) (found : Option ℕ) → AreInverse positions places
    → MatchOption found (IsEmpty places words) (IsSomePosition places words)
    → MatchOption found (IsIdle (record { flags = flags_of positions words; taken = taken })) (IsPending (record { flags = flags_of positions words; taken = taken }))
found_pending positions places words taken None inverse empty = empty_idle positions places words taken inverse empty
found_pending positions places words taken (Some v) inverse at = position_pending positions places words taken v inverse at

-- each bit of new words is set
bit_of_all : (count position : ℕ) → position < count → is_set (replicate (count / 64 + 1) (2 ^ 64 - 1)) position ≡ true
bit_of_all count position lt =
    let word : slice_index (replicate (count / 64 + 1) (2 ^ 64 - 1)) (position / 64) ≡ 2 ^ 64 - 1 =
    get_or-replicate (count / 64 + 1) (position / 64) (2 ^ 64 - 1) 0 (omega arith) in
    let bit : bit_at (2 ^ 64 - 1) (position % 64) ≡ 1 = bit_at_ones 64 (position % 64) (omega arith) in
    rw word (rw bit refl)

-- at first all places are pending
pub flags_at_start : (positions places words : List ℕ) (n : ℕ) → AreInverse positions places → length positions ≡ n → length places ≡ n
    → words ≡ replicate (n / 64 + 1) (2 ^ 64 - 1)
    → flags_of positions words ≡ replicate n true
flags_at_start positions places words n inverse count even same =
    let all : map (is_set words) positions ≡ replicate (length positions) true = map_all (is_set words) positions
    (λ k lt.
    let inside : slice_index positions k < n = omega (arith, (inverse.positioned k lt).0) in
    subst (λ (ws : List ℕ). is_set ws (slice_index positions k) ≡ true) (sym same) (bit_of_all n (slice_index positions k) inside)) in
    all ∙ ap (λ (m : ℕ). replicate m true) count

-- and the bits are enough
pub nested_at_start : (positions places words : List ℕ) (n : ℕ) → AreInverse positions places → length places ≡ n → n < 2 ^ 32
    → words ≡ replicate (n / 64 + 1) (2 ^ 64 - 1)
    → IsNested positions places words
nested_at_start positions places words n inverse even small same =
    let words_of : length words ≡ n / 64 + 1 = ap (λ (ws : List ℕ). length ws) same ∙ length-replicate (n / 64 + 1) (2 ^ 64 - 1) in
    record {
      inverse = inverse;
      bits = omega arith;
      small = omega arith;
    }

-- what is kept holds with other words, as many as before
pub nested_changed : (positions places old new : List ℕ) → IsNested positions places old → length new ≡ length old → IsNested positions places new
nested_changed positions places old new nested same = record {
  inverse = nested.inverse;
  bits = omega (arith, nested.bits);
  small = omega (arith, nested.small);
}
