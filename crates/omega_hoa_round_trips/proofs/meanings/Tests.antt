-- Tests of what items say and of states and edges: what they answer for values that are written.
use Rattle.std.proofs.Common.{◌≡◌, ℕ, ◌+◌, ◌<◌, ◌≤◌, Bool, true, false, cond, ◌&&◌, ◌||◌, nat_le, nat_lt, Option, Some, None, List, [], ◌∷◌, length, map, ap, refl, ◌∙◌, arith}
use Rattle.std.specs.Prelude.{count_by, is_some, sum_by, fold}
use Rattle.std.specs.List.{AllByRecursion, AllZip, cons_option, filter_map, list_all, list_any}
use Rattle.std.proofs.lemmas.Bool.{le-ltb, lt-leb, lt-ltb, or_from}
use Rattle.omega_hoa_syntax.specs.declared.raw_item.RawItem.{RawItem}
use Rattle.omega_hoa_automaton.specs.Faults.{passes, stands_twice}

-- ---- items

passes-step : {X : Type 0} (test : X → Bool) (it : Option X) (others : List X) → (passes test it || list_any test others) ≡ list_any test (cons_option it others)
passes-step test None others = refl
passes-step test (Some it) others = refl

-- some item says what passes exactly if something that items say passes
pub any-passes : {X : Type 0} (says : RawItem → Option X) (test : X → Bool) (items : List RawItem)
    → list_any (λ item. passes test (says item)) items ≡ list_any test (filter_map says items)
any-passes says test [] = refl
any-passes says test (it ∷ items) = ap (λ rest. passes test (says it) || rest) (any-passes says test items) ∙ passes-step test (says it) (filter_map says items)

some-step : {X : Type 0} (it : Option X) (others : List X) → (is_some it || list_any (λ _. true) others) ≡ list_any (λ _. true) (cons_option it others)
some-step None others = refl
some-step (Some it) others = refl

-- some item says such a thing exactly if such things are said
pub any-some : {X : Type 0} (says : RawItem → Option X) (items : List RawItem) → list_any (λ item. is_some (says item)) items ≡ list_any (λ _. true) (filter_map says items)
any-some says [] = refl
any-some says (it ∷ items) = ap (λ rest. is_some (says it) || rest) (any-some says items) ∙ some-step (says it) (filter_map says items)

count-from : {X : Type 0} (test : X → Bool) (items : List X) (n : ℕ) → fold (λ a x. a + cond (test x) 1 0) n items ≡ n + count_by test items
count-from test [] n = omega arith
count-from test (it ∷ items) n =
    let one = count-from test items (n + cond (test it) 1 0) in
    let other = count-from test items (0 + cond (test it) 1 0) in
    omega (arith, one, other)

one-step : {X : Type 0} (it : Option X) (others : List X) → cond (is_some it) 1 0 + length others ≡ length (cons_option it others)
one-step None others = omega arith
one-step (Some it) others = omega arith

-- as many items say such a thing as things are said
count-said : {X : Type 0} (says : RawItem → Option X) (items : List RawItem) → count_by (λ item. is_some (says item)) items ≡ length (filter_map says items)
count-said says [] = refl
count-said says (it ∷ items) =
    let here = count-from (λ item. is_some (says item)) items (0 + cond (is_some (says it)) 1 0) in
    let rest = count-said says items in
    let step = one-step (says it) (filter_map says items) in
    omega (arith, here, rest, step)

-- what is said once at most does not come twice
pub not-twice : {X : Type 0} (says : RawItem → Option X) (items : List RawItem) → length (filter_map says items) ≤ 1 → stands_twice says items ≡ false
not-twice says items few =
    let count = count-said says items in
    le-ltb 1 (count_by (λ item. is_some (says item)) items) (omega (arith, count, few))

-- ---- lists of values that are written

-- none passes if none does as it is written
pub none-pass : {X Y : Type 0} (test : Y → Bool) (made : X → Y) (Is : X → Type 0) → ((it : X) → Is it → test (made it) ≡ false)
    → (items : List X) → AllByRecursion Is items → list_any test (map made items) ≡ false
none-pass test made Is fails [] all = refl
none-pass test made Is fails (it ∷ items) all = or_from (test (made it)) (list_any test (map made items)) (fails it all.0) (none-pass test made Is fails items all.1)

-- a test answers the same of what was read and of what is written of it
pub same-any : {X Y : Type 0} (test : Y → Bool) (made : X → Y) (Is : Y → X → Type 0) → ((read : Y) (it : X) → Is read it → test read ≡ test (made it))
    → (reads : List Y) (items : List X) → AllZip Is reads items → list_any test reads ≡ list_any test (map made items)
same-any test made Is same [] [] zip = refl
same-any test made Is same [] (it ∷ items) zip = absurd zip
same-any test made Is same (read ∷ reads) [] zip = absurd zip
same-any test made Is same (read ∷ reads) (it ∷ items) zip =
    ap (λ first. first || list_any test reads) (same read it zip.0)
    ∙ ap (λ rest. test (made it) || rest) (same-any test made Is same reads items zip.1)

-- what is written of related values is as related
pub zip-made : {X Y : Type 0} (Is : Y → X → Type 0) (made : X → Y) (Such : X → Type 0) → ((it : X) → Such it → Is (made it) it)
    → (items : List X) → AllByRecursion Such items → AllZip Is (map made items) items
zip-made Is made Such is [] all = tt
zip-made Is made Such is (it ∷ items) all = (is it all.0, zip-made Is made Such is items all.1)

-- what holds of one of two related values and of the other
pub all-zip : {X Y : Type 0} (Is : Y → X → Type 0) (Read : Y → Type 0) (Such More : X → Type 0) → ((read : Y) (it : X) → Is read it → Read read → Such it → More it)
    → (reads : List Y) (items : List X) → AllZip Is reads items → AllByRecursion Read reads → AllByRecursion Such items → AllByRecursion More items
all-zip Is Read Such More then [] [] zip read all = tt
all-zip Is Read Such More then [] (it ∷ items) zip read all = absurd zip
all-zip Is Read Such More then (one ∷ reads) [] zip read all = absurd zip
all-zip Is Read Such More then (one ∷ reads) (it ∷ items) zip read all =
    (then one it zip.0 read.0 all.0, all-zip Is Read Such More then reads items zip.1 read.1 all.1)

sum-from : {X : Type 0} (size : X → ℕ) (items : List X) (n : ℕ) → fold (λ a x. a + size x) n items ≡ n + sum_by size items
sum-from size [] n = omega arith
sum-from size (it ∷ items) n =
    let one = sum-from size items (n + size it) in
    let other = sum-from size items (0 + size it) in
    omega (arith, one, other)

-- the sizes of what is written are those of the values
pub sum-made : {X Y : Type 0} (size : Y → ℕ) (other : X → ℕ) (made : X → Y) → ((it : X) → size (made it) ≡ other it)
    → (items : List X) → sum_by size (map made items) ≡ sum_by other items
sum-made size other made same [] = refl
sum-made size other made same (it ∷ items) =
    let one = sum-from size (map made items) (0 + size (made it)) in
    let two = sum-from other items (0 + other it) in
    let rest = sum-made size other made same items in
    let here = same it in
    omega (arith, one, two, rest, here)

-- ---- numbers below a count

pub none-beyond : (count : ℕ) (numbers : List ℕ) → AllByRecursion (λ number. number < count) numbers → list_any (nat_le count) numbers ≡ false
none-beyond count [] all = refl
none-beyond count (number ∷ numbers) all = or_from (nat_le count number) (list_any (nat_le count) numbers) (lt-leb count number all.0) (none-beyond count numbers all.1)

and-both : (a b : Bool) → a ≡ true → b ≡ true → (a && b) ≡ true
and-both a b one other = ap (λ first. first && b) one ∙ other

pub all-under : (count : ℕ) (numbers : List ℕ) → AllByRecursion (λ number. number < count) numbers → list_all (λ number. nat_lt number count) numbers ≡ true
all-under count [] all = refl
all-under count (number ∷ numbers) all = and-both (nat_lt number count) (list_all (λ each. nat_lt each count) numbers) (lt-ltb number count all.0) (all-under count numbers all.1)
