-- The names of pairs can be written between quotes, if those of states can.
use Rattle.std.proofs.Common.{◌≡◌, ◌==◌, ℕ, zero, suc, ◌+◌, ◌<◌, ◌/◌, ◌%◌, Bool, true, false, cond, nat_lt, if◌then◌else◌, List, [], ◌∷◌, ◌++◌, filter, map, codes, Option, Some, None, refl, arith}
use Rattle.std.specs.Prelude.{IfSome}
use Rattle.std.specs.Fmt.{decimal, digit_glyph, digits, digits_onto}
use Rattle.std.specs.List.{AllByRecursion}
use Rattle.omega_text.specs.hoa.Forms.{IsQuotable, empty, escaped, plain}
use Rattle.omega_hoa_automaton.specs.Automaton.{Description}
use Rattle.omega_hoa_automaton.specs.declared.state.State.{State}
use Rattle.omega_lang_product.specs.Pairs.{Pair, name_at, name_of_both, pair_name, with_comma}
use Rattle.omega_hoa_round_trips.specs.Writable.{IsWritableState}

-- quotable bytes after others
pub both_quotable : (first second : List ℕ) → IsQuotable first → IsQuotable second → IsQuotable (first ++ second)
both_quotable first second empty q = q
both_quotable first second (plain byte rest other slash following) q = plain byte (rest ++ second) other slash (both_quotable rest second following q)
both_quotable first second (escaped byte rest following) q = escaped byte (rest ++ second) (both_quotable rest second following q)

-- digits are
glyph_is : (n : ℕ) → n < 10 → digit_glyph false n ≡ 48 + n
glyph_is n small = go (nat_lt n 10) refl
  where
    go : (b : Bool) → nat_lt n 10 ≡ b → (if b then 48 + n else 87 + n) ≡ 48 + n
    go true e = refl
    go false e = grind arith

digits_quotable : (k n : ℕ) (following : List ℕ) → IsQuotable following → IsQuotable (digits_onto k 10 false n following)
digits_quotable zero n following q = q
digits_quotable (suc k) n following q = go (n / 10 == 0) (digits_quotable k (n / 10) (digit_glyph false (n % 10) ∷ following) one)
  where
    small : n % 10 < 10
    small = omega arith

    one : IsQuotable (digit_glyph false (n % 10) ∷ following)
    one =
        let is = glyph_is (n % 10) small in
        plain (digit_glyph false (n % 10)) following (λ e. omega (arith, e, is)) (λ e. omega (arith, e, is, small)) q

    go : (b : Bool) → IsQuotable (digits_onto k 10 false (n / 10) (digit_glyph false (n % 10) ∷ following))
        → IsQuotable (if b then digit_glyph false (n % 10) ∷ following else digits_onto k 10 false (n / 10) (digit_glyph false (n % 10) ∷ following))
    go true rest = one
    go false rest = rest

decimal_quotable : (n : ℕ) → IsQuotable (decimal n)
unfolding digits
decimal_quotable n = digits_quotable 64 n [] empty

comma_quotable : IsQuotable (codes ",")
comma_quotable = plain 44 [] (λ e. absurd (omega (arith, e))) (λ e. absurd (omega (arith, e))) empty

comma_between : (text other : List ℕ) → IsQuotable text → IsQuotable other → IsQuotable (with_comma text other)
comma_between text other first second =
    both_quotable text (codes "," ++ other) first (both_quotable (codes ",") other comma_quotable second)

numbers_quotable : (pair : Pair) → IsQuotable (with_comma (decimal pair.0) (decimal pair.1))
numbers_quotable pair = comma_between (decimal pair.0) (decimal pair.1) (decimal_quotable pair.0) (decimal_quotable pair.1)

both_named : (first second : Option (List ℕ)) (pair : Pair) → IfSome first IsQuotable → IfSome second IsQuotable → IsQuotable (name_of_both first second pair)
both_named None second pair own its = numbers_quotable pair
both_named (Some name) None pair own its = numbers_quotable pair
both_named (Some name) (Some other) pair own its = comma_between name other own its

-- the name of a state that can be written is a string
state_named : (states : List State) → AllByRecursion IsWritableState states → (number : ℕ) → IfSome (name_at states number) IsQuotable
state_named [] writable number = tt
state_named (state ∷ states) writable number = go (state.number == number) (state_named states writable.1 number)
  where
    go : (b : Bool) → IfSome (name_at states number) IsQuotable → IfSome (if b then state.name else name_at states number) IsQuotable
    go true rest = writable.0.name
    go false rest = rest

pub name_quotable : (one other : Description) → AllByRecursion IsWritableState one.defined → AllByRecursion IsWritableState other.defined → (pair : Pair)
    → IsQuotable (pair_name one other pair)
name_quotable one other own its pair =
    both_named (name_at one.defined pair.0) (name_at other.defined pair.1) pair (state_named one.defined own pair.0) (state_named other.defined its pair.1)

-- what holds of all elements of two lists, and of those that pass a test
module _ {X : Type 0} (P : X → Type 0) where
  pub all_both : (xs ys : List X) → AllByRecursion P xs → AllByRecursion P ys → AllByRecursion P (xs ++ ys)
  all_both [] ys first second = second
  all_both (x ∷ xs) ys first second = (first.0, all_both xs ys first.1 second)

  pub all_filtered : (test : X → Bool) (xs : List X) → AllByRecursion P xs → AllByRecursion P (filter test xs)
  all_filtered test [] all = tt
  all_filtered test (x ∷ xs) all = go (test x) (all_filtered test xs all.1)
    where
      go : (b : Bool) → AllByRecursion P (filter test xs) → AllByRecursion P (cond b (x ∷ filter test xs) (filter test xs))
      go true rest = (all.0, rest)
      go false rest = rest

  pub all_made : {Y : Type 0} (make : Y → X) (ys : List Y) → ((y : Y) → P (make y)) → AllByRecursion P (map make ys)
  all_made make [] each = tt
  all_made make (y ∷ ys) each = (each y, all_made make ys each)
