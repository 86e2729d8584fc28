-- Lists in which some item is the same as an earlier one, from the front.
use Rattle.std.proofs.Common.{◌≡◌, ℕ, ◌+◌, ◌<◌, Bool, true, false, not, ◌||◌, List, [], ◌∷◌, ◌++◌, length, get_or, take, drop, map, refl, ap, sym, ◌∙◌, subst, if◌then◌else◌}
use Rattle.std.specs.List.{list_any}
use Rattle.std.proofs.lemmas.List.{map-append, take_more, take-append-drop}
use Rattle.std.proofs.lemmas.List.Folds.{list_any-append}
use Rattle.std.proofs.lemmas.Bool.{false≢true}
use Rattle.omega_hoa_automaton.specs.Automaton.{has_repeat}

-- four tests in another order
pub shuffled : (a b c d : Bool) → ((a || b) || (c || d)) ≡ ((a || c) || (b || d))
shuffled true b c d = refl
shuffled false true true d = refl
shuffled false true false d = refl
shuffled false false true d = refl
shuffled false false false d = refl

-- a test or nothing
pub nothing_more : (b : Bool) → (b || false) ≡ b
nothing_more true = refl
nothing_more false = refl

-- one more item: some before it were the same, or it is the same as one of them
pub has_repeat-push : {X : Type 0} (same : X → X → Bool) (xs : List X) (y : X)
    → has_repeat same (xs ++ y ∷ []) ≡ (has_repeat same xs || list_any (same y) xs)
has_repeat-push same [] y = refl
has_repeat-push same (x ∷ xs) y =
    ap (λ b. b || has_repeat same (xs ++ y ∷ []))
    (list_any-append (λ later. same later x) xs (y ∷ []) ∙ ap (λ b. list_any (λ later. same later x) xs || b) (nothing_more (same y x)))
    ∙ (ap (λ b. (list_any (λ later. same later x) xs || same y x) || b) (has_repeat-push same xs y)
    ∙ shuffled (list_any (λ later. same later x) xs) (same y x) (has_repeat same xs) (list_any (same y) xs))

-- either of two that hold
or_true : (a b c : Bool) → (b ≡ true → c ≡ true) → (a || b) ≡ true → (a || c) ≡ true
or_true true b c more h = refl
or_true false b c more h = more h

-- more items make no test fail
pub list_any-front : {X : Type 0} (test : X → Bool) (xs ys : List X) → list_any test xs ≡ true → list_any test (xs ++ ys) ≡ true
list_any-front test [] ys h = absurd (false≢true h)
list_any-front test (x ∷ xs) ys h = or_true (test x) (list_any test xs) (list_any test (xs ++ ys)) (list_any-front test xs ys) h

-- both of two that hold or not
pub or_both : (a b c d : Bool) → (a ≡ true → c ≡ true) → (b ≡ true → d ≡ true) → (a || b) ≡ true → (c || d) ≡ true
or_both true b c d first second h = rw (first refl) refl
or_both false b true d first second h = refl
or_both false b false d first second h = second h

-- what is the same in a front is so in the whole
pub has_repeat-front : {X : Type 0} (same : X → X → Bool) (xs ys : List X) → has_repeat same xs ≡ true → has_repeat same (xs ++ ys) ≡ true
has_repeat-front same [] ys h = absurd (false≢true h)
has_repeat-front same (x ∷ xs) ys h =
    or_both (list_any (λ later. same later x) xs) (has_repeat same xs) (list_any (λ later. same later x) (xs ++ ys)) (has_repeat same (xs ++ ys))
    (list_any-front (λ later. same later x) xs ys) (has_repeat-front same xs ys) h

-- the same in the first items of a list
pub has_repeat-take : {X : Type 0} (same : X → X → Bool) (xs : List X) (i : ℕ) → has_repeat same (take i xs) ≡ true → has_repeat same xs ≡ true
has_repeat-take same xs i h =
    subst (λ ys. has_repeat same ys ≡ true) (take-append-drop i xs) (has_repeat-front same (take i xs) (drop i xs) h)

-- a test or one that holds
pub or_last : (b : Bool) → (b || true) ≡ true
or_last true = refl
or_last false = refl

-- an item that is the same as one of those before it: the whole list has a repeat
pub has_repeat_here : {X : Type 0} (same : X → X → Bool) (xs : List X) (i : ℕ) (d : X) → i < length xs
    → list_any (same (get_or xs i d)) (take i xs) ≡ true → has_repeat same xs ≡ true
has_repeat_here same xs i d within found =
    has_repeat-take same xs (i + 1) (rw (take_more xs i d within) (has_repeat-push same (take i xs) (get_or xs i d) ∙ rw found (or_last (has_repeat same (take i xs)))))

-- an item that is not the same as one of those before it: the items so far have no repeat
pub has_repeat_past : {X : Type 0} (same : X → X → Bool) (xs : List X) (i : ℕ) (d : X) → i < length xs
    → list_any (same (get_or xs i d)) (take i xs) ≡ false → has_repeat same (take i xs) ≡ false → has_repeat same (take (i + 1) xs) ≡ false
has_repeat_past same xs i d within found before =
    rw (take_more xs i d within) (has_repeat-push same (take i xs) (get_or xs i d) ∙ rw found (rw before refl))

-- a test of what each item is seen as
pub list_any-map : {X Y : Type 0} (test : Y → Bool) (seen : X → Y) (xs : List X) → list_any test (map seen xs) ≡ list_any (λ x. test (seen x)) xs
list_any-map test seen [] = refl
list_any-map test seen (x ∷ xs) = ap (λ b. test (seen x) || b) (list_any-map test seen xs)

-- what is not a failed test holds
not_false : (b : Bool) → not b ≡ false → b ≡ true
not_false true h = refl
not_false false h = absurd (false≢true (sym h))

-- what is not a test that holds fails
not_true : (b : Bool) → not b ≡ true → b ≡ false
not_true true h = absurd (false≢true h)
not_true false h = refl

-- keys that are the items before: a key is among them if its item is the same as one of the items
among_keys : {K X : Type 0} (view : K → X) (same : X → X → Bool) (xs : List X) (i : ℕ) (d : X) (key : K) (keys : List K)
    → view key ≡ get_or xs i d → map view keys ≡ take i xs
    → list_any (same (get_or xs i d)) (take i xs) ≡ list_any (λ k. same (view key) (view k)) keys
among_keys view same xs i d key keys is before = rw (sym is) (rw (sym before) (list_any-map (same (view key)) view keys))

-- a key that is there already: its item is the same as an earlier one
pub seen_twice : {K X : Type 0} (view : K → X) (same : X → X → Bool) (xs : List X) (i : ℕ) (d : X) (key : K) (keys : List K) (added : Bool)
    → i < length xs → view key ≡ get_or xs i d → map view keys ≡ take i xs
    → added ≡ not (list_any (λ k. same (view key) (view k)) keys) → added ≡ false → true ≡ has_repeat same xs
seen_twice view same xs i d key keys added within is before says none =
    sym (has_repeat_here same xs i d within (among_keys view same xs i d key keys is before ∙ not_false _ (sym says ∙ none)))

-- a key that is new: its item is not the same as an earlier one
pub seen_once : {K X : Type 0} (view : K → X) (same : X → X → Bool) (xs : List X) (i : ℕ) (d : X) (key : K) (keys more : List K) (added : Bool)
    → i < length xs → view key ≡ get_or xs i d → map view keys ≡ take i xs
    → added ≡ not (list_any (λ k. same (view key) (view k)) keys) → added ≡ true
    → more ≡ (if list_any (λ k. same (view key) (view k)) keys then keys else keys ++ key ∷ [])
    → has_repeat same (take i xs) ≡ false
    → (map view more ≡ take (i + 1) xs) × (has_repeat same (take (i + 1) xs) ≡ false)
seen_once view same xs i d key keys more added within is before says new put unlike =
    let absent : list_any (λ k. same (view key) (view k)) keys ≡ false = not_true _ (sym says ∙ new) in (
      rw put (rw absent (map-append view keys (key ∷ []) ∙ rw before (rw is (sym (take_more xs i d within))))),
      has_repeat_past same xs i d within (among_keys view same xs i d key keys is before ∙ absent) unlike,
    )
