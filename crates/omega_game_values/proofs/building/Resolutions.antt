-- Rising identifiers, those that are listed, and successors put under their places.
use Rattle.std.proofs.Common.{◌≡◌, ℕ, zero, suc, ◌+◌, ◌-◌, ◌<◌, ◌≤◌, ◌==◌, ◌&&◌, Bool, false, Option, List, [], ◌∷◌, ◌++◌, length, map, take, drop, get_or, set, refl, sym, ◌∙◌, ap, subst, arith, add-one}
use Rattle.std.proofs.Math.Path.{fun_ext}
use Rattle.std.specs.Prelude.{slice_range, is_some, unwrap_or}
use Rattle.std.specs.List.{range_with_len, list_all, list_any, position, flat_map}
use Rattle.std.specs.List.Sorted.{IsStrictlyIncreasing}
use Rattle.std.proofs.lemmas.Bool.{ne_eqb}
use Rattle.std.proofs.lemmas.List.{same_lists, take-map, drop-map, length-map, take_more, take_all, get_or_default, get_or-take, length-take-le, get_or-append_right, get_or-drop, get_or_past, append-nil, drop-take, take-take, take-append-drop}
use Rattle.std.proofs.Math.Dec.{eqb}
use Rattle.indexmap.specs.IndexSet.{insert_key}
use Rattle.std.proofs.lemmas.List.Edits.{map_over_more}
use Rattle.std.proofs.lemmas.List.Folds.{list_all-append, list_any_none, list_all_more}
use Rattle.std.proofs.lemmas.List.FromFn.{length-range_with_len, get_or-range_with_len, map-range_with_len_more}
use Rattle.std.proofs.lemmas.List.Concat.{flat_map-append}
use Rattle.omega_text.specs.JoinedLists.{list_at, lists_of, AreStarts}
use Rattle.omega_game_values.specs.private.layout.Columns.{identifiers_of}
use Rattle.omega_game_values.specs.private.layout.Resolving.{is_defined, resolved_in}
use Rattle.omega_game_values.proofs.layout.Columns.{identifiers_listed, identifiers_unlisted}

-- rising identifiers grow by at least one at each step
pub rises_by : (ids : List ℕ) → IsStrictlyIncreasing ids → (k m : ℕ) → k + m < length ids → get_or ids k 0 + m ≤ get_or ids (k + m) 0
rises_by ids rises k zero h = let e : k + 0 ≡ k = omega arith in subst (λ (i : ℕ). get_or ids k 0 + 0 ≤ get_or ids i 0) (sym e) (omega arith)
rises_by ids rises k (suc m) h =
    let before : get_or ids k 0 + m ≤ get_or ids (k + m) 0 = rises_by ids rises k m (omega arith) in
    let up : get_or ids (k + m) 0 < get_or ids (k + m + 1) 0 = rises (k + m) (omega arith) in
    let e : k + suc m ≡ k + m + 1 = omega arith in
    subst (λ (i : ℕ). get_or ids k 0 + suc m ≤ get_or ids i 0) (sym e) (omega arith)

-- rising identifiers of which the last one is n - 1 are those from 0 to n - 1
pub dense_ids : (ids listed : List ℕ) → 0 < length ids → IsStrictlyIncreasing ids → get_or ids (length ids - 1) 0 ≡ length ids - 1 → length listed ≡ 0 → identifiers_of (length ids) listed ≡ ids
dense_ids ids listed some rises last none =
    identifiers_unlisted (length ids) listed none
    ∙ same_lists (range_with_len 0 (length ids)) ids (length-range_with_len 0 (length ids))
    (λ k d h. let within : k < length ids = omega (arith, length-range_with_len 0 (length ids)) in
    let above : get_or ids 0 0 + k ≤ get_or ids (0 + k) 0 = rises_by ids rises 0 k (omega arith) in
    let zero_k : 0 + k ≡ k = omega arith in
    let above_k : k ≤ get_or ids k 0 = subst (λ (i : ℕ). k ≤ get_or ids i 0) zero_k (omega arith) in
    let to_last : k + (length ids - 1 - k) ≡ length ids - 1 = omega arith in
    let below : get_or ids k 0 + (length ids - 1 - k) ≤ get_or ids (length ids - 1) 0 = subst (λ (i : ℕ). get_or ids k 0 + (length ids - 1 - k) ≤ get_or ids i 0) to_last (rises_by ids rises k (length ids - 1 - k) (omega arith)) in
    get_or-range_with_len 0 (length ids) k d within ∙ omega (arith, above_k, below, get_or_default ids k d 0 within))

-- an identifier is greater than each before it
pub not_before : (ids : List ℕ) → IsStrictlyIncreasing ids → (i x : ℕ) → i < length ids → x ≡ get_or ids i 0 → list_any (λ y. x == y) (take i ids) ≡ false
not_before ids rises i x h is = list_any_none (λ y. x == y) (take i ids)
    (λ k d l. let before : k < i = omega (arith, length-take-le i ids (omega arith)) in
    let there : get_or (take i ids) k d ≡ get_or ids k d = get_or-take i ids k d before in
    let up : get_or ids k 0 + (i - k) ≤ get_or ids (k + (i - k)) 0 = rises_by ids rises k (i - k) (omega arith) in
    let to_i : k + (i - k) ≡ i = omega arith in
    let less : get_or ids k 0 + (i - k) ≤ get_or ids i 0 = subst (λ (m : ℕ). get_or ids k 0 + (i - k) ≤ get_or ids m 0) to_i up in
    ne_eqb x (get_or (take i ids) k d) (λ e. absurd (omega (arith, e, there, less, is, get_or_default ids k d 0 (omega arith)))))

-- one identifier more is listed
pub listed_more : (ids keys new : List ℕ) (i x : ℕ) → IsStrictlyIncreasing ids → i < length ids → x ≡ get_or ids i 0 → keys ≡ take i ids
    → new ≡ insert_key eqb keys x → new ≡ take (i + 1) ids
listed_more ids keys new i x rises h is so_far inserted =
    inserted ∙ ap (λ ks. insert_key eqb ks x) so_far ∙ rw (not_before ids rises i x h is) (ap (λ y. take i ids ++ y ∷ []) is ∙ sym (take_more ids i 0 h))

-- all identifiers are listed
pub listed_all : (ids keys : List ℕ) (i : ℕ) → 0 < length ids → length ids ≤ i → keys ≡ take i ids → identifiers_of (length ids) keys ≡ ids
listed_all ids keys i some past so_far =
    let whole : keys ≡ ids = so_far ∙ take_all i ids past in
    identifiers_listed (length ids) keys (omega (arith, ap length whole)) ∙ whole

-- a target more is resolved
pub resolved_more : (ids targets initial : List ℕ) (i new : ℕ) (place : Option ℕ) → i < length initial → length targets ≡ length initial
    → targets ≡ map (resolved_in ids) (take i initial) ++ drop i initial
    → place ≡ position (λ id. id == get_or targets i 0) ids → new ≡ unwrap_or place (get_or targets i 0)
    → set targets i new ≡ map (resolved_in ids) (take (i + 1) initial) ++ drop (i + 1) initial
unfolding resolved_in
resolved_more ids targets initial i new place h size so_far found is =
    let write : new ≡ resolved_in ids (get_or targets i 0) = is ∙ ap (λ p. unwrap_or p (get_or targets i 0)) found in
    ap (set targets i) write ∙ map_over_more (resolved_in ids) initial targets i (get_or targets i 0) h so_far (get_or_default targets i 0 (get_or targets i 0) (omega arith))

-- a target more is tested
pub defined_more : (ids targets initial : List ℕ) (i : ℕ) (place : Option ℕ) (defined found : Bool) → i < length initial
    → targets ≡ map (resolved_in ids) (take i initial) ++ drop i initial
    → place ≡ position (λ id. id == get_or targets i 0) ids → found ≡ is_some place
    → defined ≡ list_all (is_defined ids) (take i initial)
    → (defined && found) ≡ list_all (is_defined ids) (take (i + 1) initial)
unfolding is_defined
defined_more ids targets initial i place defined found h so_far at is all =
    let untouched : get_or targets i 0 ≡ get_or initial i 0 =
    ap (λ xs. get_or xs i 0) so_far
    ∙ get_or-append_right (map (resolved_in ids) (take i initial)) (drop i initial) i i 0 (length-map (take i initial) (resolved_in ids) ∙ length-take-le i initial (omega arith)) (omega arith)
    ∙ get_or-drop i initial (i - i) 0 ∙ ap (λ k. get_or initial k 0) (omega arith) in
    let test : found ≡ is_defined ids (get_or initial i 0) = is ∙ ap is_some at ∙ ap (is_defined ids) untouched in
    ap (λ b. b && found) all ∙ ap (λ b. list_all (is_defined ids) (take i initial) && b) test ∙ sym (list_all_more (is_defined ids) initial i 0 h)

-- a function after a function of each element
map-map : {X Y Z : Type 0} (f : Y → Z) (g : X → Y) (xs : List X) → map f (map g xs) ≡ map (λ x. f (g x)) xs
map-map f g [] = refl
map-map f g (x ∷ xs) = ap (λ ys. f (g x) ∷ ys) (map-map f g xs)

-- a function of each item is one of each item of each list
pub lists_of-map : {X Y : Type 0} (f : X → Y) (starts : List ℕ) (items : List X) → lists_of starts (map f items) ≡ map (map f) (lists_of starts items)
unfolding lists_of list_at
lists_of-map {X} {Y} f starts items = ap (λ g. map g (range_with_len 0 (length starts))) (fun_ext each) ∙ sym (map-map (map f) (list_at starts items) (range_with_len 0 (length starts)))
  where
    size : length (map f items) ≡ length items
    size = length-map items f

    part : (a b : ℕ) → slice_range (map f items) a b ≡ map f (slice_range items a b)
    part a b = ap (take (b - a)) (drop-map f a items) ∙ take-map f (b - a) (drop a items)

    each : (i : ℕ) → list_at starts (map f items) i ≡ map f (list_at starts items i)
    each i = ap (λ n. slice_range (map f items) (get_or starts i n) (get_or starts (i + 1) n)) size ∙ part (get_or starts i (length items)) (get_or starts (i + 1) (length items))

-- a front of a list is a shorter front and the part after it
take_parts : {X : Type 0} (xs : List X) (a b : ℕ) → a ≤ b → take b xs ≡ take a xs ++ slice_range xs a b
take_parts xs a b h =
    let whole : a + (b - a) ≡ b = omega arith in
    let part : drop a (take b xs) ≡ take (b - a) (drop a xs) = ap (λ n. drop a (take n xs)) (sym whole) ∙ drop-take a (b - a) xs in
    sym (take-append-drop a (take b xs)) ∙ ap (λ ys. ys ++ drop a (take b xs)) (take-take a b xs h) ∙ ap (λ ys. take a xs ++ ys) part

-- the lists so far are the items so far
flat_below : {X : Type 0} (starts : List ℕ) (items : List X) (n : ℕ) → AreStarts starts (length items)
    → flat_map (λ list. list) (map (list_at starts items) (range_with_len 0 n)) ≡ take (get_or starts n (length items)) items
unfolding list_at
flat_below starts items zero a = sym (ap (λ n. take n items) a.first)
flat_below starts items (suc n) a =
    let more : map (list_at starts items) (range_with_len 0 (n + 1)) ≡ map (list_at starts items) (range_with_len 0 n) ++ list_at starts items n ∷ [] = map-range_with_len_more (list_at starts items) 0 n n (omega arith) in
    let up : get_or starts n (length items) ≤ get_or starts (n + 1) (length items) = a.rising n (n + 1) (omega arith) in
    let front : take (get_or starts (n + 1) (length items)) items ≡ take (get_or starts n (length items)) items ++ slice_range items (get_or starts n (length items)) (get_or starts (n + 1) (length items)) = take_parts items (get_or starts n (length items)) (get_or starts (n + 1) (length items)) up in
    subst (λ (m : ℕ). flat_map (λ list. list) (map (list_at starts items) (range_with_len 0 m)) ≡ take (get_or starts m (length items)) items) (add-one n)
    (ap (flat_map (λ list. list)) more ∙ flat_map-append (λ list. list) (map (list_at starts items) (range_with_len 0 n)) (list_at starts items n ∷ [])
    ∙ ap (λ xs. xs ++ flat_map (λ list. list) (list_at starts items n ∷ [])) (flat_below starts items n a)
    ∙ ap (λ xs. take (get_or starts n (length items)) items ++ xs) (append-nil (list_at starts items n)) ∙ sym front)

-- the lists one after the other are the items
pub flat-lists_of : {X : Type 0} (starts : List ℕ) (items : List X) → AreStarts starts (length items) → flat_map (λ list. list) (lists_of starts items) ≡ items
unfolding lists_of
flat-lists_of starts items a = flat_below starts items (length starts) a ∙ ap (λ n. take n items) (get_or_past starts (length starts) (length items) (omega arith)) ∙ take_all (length items) items (omega arith)

-- a test of all items is one of all items of all lists
pub list_all-flat_map : {X : Type 0} (p : X → Bool) (lists : List (List X)) → list_all p (flat_map (λ list. list) lists) ≡ list_all (λ list. list_all p list) lists
list_all-flat_map p [] = refl
list_all-flat_map p (list ∷ lists) = list_all-append p list (flat_map (λ xs. xs) lists) ∙ ap (λ b. list_all p list && b) (list_all-flat_map p lists)
