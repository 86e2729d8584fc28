-- The search breadth first: what is found while it is under way.
use Rattle.std.proofs.Common.{◌≡◌, ℕ, ◌+◌, ◌<◌, ◌≤◌, ◌⊎◌, inl, inr, Bool, true, false, not, cond, ◌&&◌, ◌||◌, if◌then◌else◌, List, [], ◌∷◌, ◌++◌, length, take, get_or, Contains, refl, sym, ap, ap₂, subst, ◌∙◌, arith, append_assoc, eq-eqb, true≢false}
use Rattle.std.specs.List.{flat_map, list_any, position_or_len}
use Rattle.std.proofs.lemmas.Grind.{flat_map-append}
use Rattle.std.proofs.lemmas.List.Elements.{Contains-append_cases}
use Rattle.std.proofs.lemmas.List.{length-append, take-append-le, take_all, take_more}
use Rattle.indexmap.specs.IndexSet.{insert_all, insert_key}
use Rattle.omega_hoa_automaton.specs.Automaton.{Description, has_repeat}
use Rattle.omega_hoa_edges.specs.Limits.{most_states}
use Rattle.omega_lang_product.specs.Pairs.{AreReached, Pair, found_after, pair_number, same_pair, start_pairs, targets_of}
use Rattle.omega_lang_product.specs.Refusing.{AreReachable, start, step}
use Rattle.omega_lang_product.proofs.Membership.{Contains-cases, Contains-here, Contains-nothing, Contains-there}

pub append_nil : {X : Type 0} (xs : List X) → xs ++ [] ≡ xs
append_nil [] = refl
append_nil {X = X} (x ∷ xs) = ap (λ (rest : List X). x ∷ rest) (append_nil xs)

-- what is inserted in two parts
pub insert_both : (ks xs ys : List Pair) → insert_all same_pair ks (xs ++ ys) ≡ insert_all same_pair (insert_all same_pair ks xs) ys
insert_both ks [] ys = refl
insert_both ks (x ∷ xs) ys = insert_both (insert_key same_pair ks x) xs ys

-- what is there stays in front
pub record Extended (ks more : List Pair) : Type 0 where
  pub extra : List Pair
  pub is : more ≡ ks ++ extra

key_extends : (ks : List Pair) (k : Pair) → Extended ks (insert_key same_pair ks k)
key_extends ks k = go (list_any (same_pair k) ks)
  where
    go : (b : Bool) → Extended ks (if b then ks else ks ++ k ∷ [])
    go true = record { extra = []; is = sym (append_nil ks) }
    go false = record { extra = k ∷ []; is = refl }

pub all_extends : (xs ks : List Pair) → Extended ks (insert_all same_pair ks xs)
all_extends [] ks = record { extra = []; is = sym (append_nil ks) }
all_extends (x ∷ xs) ks =
    let one = key_extends ks x in
    let rest = all_extends xs (insert_key same_pair ks x) in
    record {
      extra = one.extra ++ rest.extra;
      is = rest.is ∙ ap (λ (front : List Pair). front ++ rest.extra) one.is ∙ append_assoc ks one.extra rest.extra;
    }

pub extends_by : (ks more xs : List Pair) → more ≡ insert_all same_pair ks xs → Extended ks more
extends_by ks more xs is = let whole = all_extends xs ks in record { extra = whole.extra; is = is ∙ whole.is }

-- and has its number
found_before : (test : Pair → Bool) (ks more : List Pair) → list_any test ks ≡ true → position_or_len test (ks ++ more) ≡ position_or_len test ks
found_before test [] more some = absurd (true≢false (sym some))
found_before test (k ∷ ks) more some = go (test k) refl (λ rest. found_before test ks more rest)
  where
    go : (b : Bool) → test k ≡ b → (list_any test ks ≡ true → position_or_len test (ks ++ more) ≡ position_or_len test ks)
        → cond (not (test k)) (1 + position_or_len test (ks ++ more)) 0 ≡ cond (not (test k)) (1 + position_or_len test ks) 0
    go true e others = ap (λ b. cond (not b) (1 + position_or_len test (ks ++ more)) 0) e ∙ sym (ap (λ b. cond (not b) (1 + position_or_len test ks) 0) e)
    go false e others =
        let rest : list_any test ks ≡ true = sym (ap (λ b. b || list_any test ks) e) ∙ some in
        ap (λ (n : ℕ). cond (not (test k)) (1 + n) 0) (others rest)

put_last : (test : Pair → Bool) (ks more : List Pair) (k : Pair) → list_any test ks ≡ false → test k ≡ true → position_or_len test ((ks ++ k ∷ []) ++ more) ≡ position_or_len test ks
put_last test [] more k none is = ap (λ b. cond (not b) (1 + position_or_len test more) 0) is
put_last test (x ∷ ks) more k none is = go (test x) refl (λ rest. put_last test ks more k rest is)
  where
    go : (b : Bool) → test x ≡ b → (list_any test ks ≡ false → position_or_len test ((ks ++ k ∷ []) ++ more) ≡ position_or_len test ks)
        → cond (not (test x)) (1 + position_or_len test ((ks ++ k ∷ []) ++ more)) 0 ≡ cond (not (test x)) (1 + position_or_len test ks) 0
    go true e others = absurd (true≢false (sym (ap (λ b. b || list_any test ks) e) ∙ none))
    go false e others =
        let rest : list_any test ks ≡ false = sym (ap (λ b. b || list_any test ks) e) ∙ none in
        ap (λ (n : ℕ). cond (not (test x)) (1 + n) 0) (others rest)

pub same_as_itself : (pair : Pair) → same_pair pair pair ≡ true
same_as_itself pair = ap₂ ◌&&◌ (eq-eqb pair.0 pair.0 refl) (eq-eqb pair.1 pair.1 refl)

-- the number of a pair that is inserted is its place, whatever is found later
pub inserted_number : (ks later : List Pair) (pair : Pair) → pair_number (insert_key same_pair ks pair ++ later) pair ≡ position_or_len (same_pair pair) ks
inserted_number ks later pair = go (list_any (same_pair pair) ks) refl
  where
    go : (b : Bool) → list_any (same_pair pair) ks ≡ b → position_or_len (same_pair pair) ((if list_any (same_pair pair) ks then ks else ks ++ pair ∷ []) ++ later) ≡ position_or_len (same_pair pair) ks
    go true e =
        ap (λ b. position_or_len (same_pair pair) ((if b then ks else ks ++ pair ∷ []) ++ later)) e ∙ found_before (same_pair pair) ks later e
    go false e =
        ap (λ b. position_or_len (same_pair pair) ((if b then ks else ks ++ pair ∷ []) ++ later)) e ∙ put_last (same_pair pair) ks later pair e (same_as_itself pair)

-- so is that of a pair that was found
listed_found : (ks : List Pair) (pair : Pair) → Contains ks pair → list_any (same_pair pair) ks ≡ true
listed_found [] pair listed = absurd (Contains-nothing pair listed)
listed_found (k ∷ ks) pair listed = elim (Contains-cases k pair ks listed) [
  | inl e ↦ ap (λ b. b || list_any (same_pair pair) ks) (ap (same_pair pair) e ∙ same_as_itself pair)
  | inr later ↦ go (same_pair pair k) (listed_found ks pair later)
]
  where
    go : (b : Bool) → list_any (same_pair pair) ks ≡ true → (b || list_any (same_pair pair) ks) ≡ true
    go true rest = refl
    go false rest = rest

pub found_number : (ks more : List Pair) (pair : Pair) → Contains ks pair → pair_number (ks ++ more) pair ≡ pair_number ks pair
found_number ks more pair listed = found_before (same_pair pair) ks more (listed_found ks pair listed)

pub extended_number : (ks more later : List Pair) (pair : Pair) → Extended ks more → Contains ks pair → pair_number (more ++ later) pair ≡ pair_number ks pair
extended_number ks more later pair extended listed =
    let same : more ++ later ≡ ks ++ (extended.extra ++ later) = ap (λ (s : List Pair). s ++ later) extended.is ∙ append_assoc ks extended.extra later in
    ap (λ (all : List Pair). pair_number all pair) same ∙ found_number ks (extended.extra ++ later) pair listed

-- what is inserted was there or comes from the others
key_from : (ks : List Pair) (k pair : Pair) → Contains (insert_key same_pair ks k) pair → Contains ks pair ⊎ (k ≡ pair)
key_from ks k pair listed = go (list_any (same_pair k) ks) refl
  where
    go : (b : Bool) → list_any (same_pair k) ks ≡ b → Contains ks pair ⊎ (k ≡ pair)
    go true e = inl (subst (λ b. Contains (if b then ks else ks ++ k ∷ []) pair) e listed)
    go false e =
        elim (Contains-append_cases ks (k ∷ []) pair (subst (λ b. Contains (if b then ks else ks ++ k ∷ []) pair) e listed)) [
          | inl old ↦ inl old
          | inr new ↦ elim (Contains-cases k pair [] new) [
            | inl is ↦ inr is
            | inr none ↦ absurd (Contains-nothing pair none)
          ]
        ]

pub inserted_from : (xs ks : List Pair) (pair : Pair) → Contains (insert_all same_pair ks xs) pair → Contains ks pair ⊎ Contains xs pair
inserted_from [] ks pair listed = inl listed
inserted_from (x ∷ xs) ks pair listed = elim (inserted_from xs (insert_key same_pair ks x) pair listed) [
  | inl first ↦ elim (key_from ks x pair first) [
    | inl old ↦ inl old
    | inr is ↦ inr (subst (Contains (x ∷ xs)) is (Contains-here x xs))
  ]
  | inr later ↦ inr (Contains-there x pair xs later)
]

-- and is different from what was there
one_of_neither : (b c : Bool) → (b || c) ≡ false → (b ≡ false) × (c ≡ false)
one_of_neither true c e = absurd (true≢false e)
one_of_neither false c e = (refl, e)

none_more : (test : Pair → Bool) (ks : List Pair) (k : Pair) → list_any test ks ≡ false → test k ≡ false → list_any test (ks ++ k ∷ []) ≡ false
none_more test [] k none last = ap (λ b. b || false) last
none_more test (x ∷ ks) k none last =
    let parts = one_of_neither (test x) (list_any test ks) none in
    ap₂ ◌||◌ parts.0 (none_more test ks k parts.1 last)

apart_more : (ks : List Pair) (k : Pair) → has_repeat same_pair ks ≡ false → list_any (same_pair k) ks ≡ false → has_repeat same_pair (ks ++ k ∷ []) ≡ false
apart_more [] k apart none = refl
apart_more (x ∷ ks) k apart none =
    let test : Pair → Bool = λ earlier. same_pair earlier x in
    let parts = one_of_neither (list_any test ks) (has_repeat same_pair ks) apart in
    let others = one_of_neither (same_pair k x) (list_any (same_pair k) ks) none in
    ap₂ ◌||◌ (none_more test ks k parts.0 others.0) (apart_more ks k parts.1 others.1)

pub inserted_apart : (xs ks : List Pair) → has_repeat same_pair ks ≡ false → has_repeat same_pair (insert_all same_pair ks xs) ≡ false
inserted_apart [] ks apart = apart
inserted_apart (x ∷ xs) ks apart = inserted_apart xs (insert_key same_pair ks x) (go (list_any (same_pair x) ks) refl)
  where
    go : (b : Bool) → list_any (same_pair x) ks ≡ b → has_repeat same_pair (insert_key same_pair ks x) ≡ false
    go true e = ap (λ b. has_repeat same_pair (if b then ks else ks ++ x ∷ [])) e ∙ apart
    go false e = ap (λ b. has_repeat same_pair (if b then ks else ks ++ x ∷ [])) e ∙ apart_more ks x apart e

-- the search after `done` pairs were expanded
pub record IsUnderWay (one other : Description) (pairs : List Pair) (at : ℕ) : Type 0 where
  pub reached : pairs ≡ found_after one other (take at pairs)
  pub each : (k : ℕ) → k < at → k < length (found_after one other (take k pairs))
  pub within : at ≤ length pairs
  pub few : at ≤ most_states
  pub reachable : AreReachable one other pairs

pub begun : (one other : Description) (pairs : List Pair) → pairs ≡ insert_all same_pair [] (start_pairs one other) → IsUnderWay one other pairs 0
begun one other pairs is = record {
  reached = is ∙ ap (insert_all same_pair []) (sym (append_nil (start_pairs one other)));
  each = λ k below. absurd (omega arith);
  within = omega arith;
  few = omega arith;
  reachable = record {
    apart = ap (has_repeat same_pair) is ∙ inserted_apart (start_pairs one other) [] refl;
    each = λ pair listed. elim (inserted_from (start_pairs one other) [] pair (subst (λ (ps : List Pair). Contains ps pair) is listed)) [
      | inl none ↦ absurd (Contains-nothing pair none)
      | inr begins ↦ start pair begins
    ];
  };
}

-- the pairs that were expanded, one more
pub taken_more : (pairs more : List Pair) (at : ℕ) (pair : Pair) → Extended pairs more → at < length pairs → pair ≡ get_or pairs at pair → take (at + 1) more ≡ take at pairs ++ pair ∷ []
taken_more pairs more at pair extended below here =
    ap (take (at + 1)) extended.is ∙ take-append-le (at + 1) pairs extended.extra (omega arith) ∙ take_more pairs at pair below ∙ ap (λ (p : Pair). take at pairs ++ p ∷ []) (sym here)

pub taken_before : (pairs more : List Pair) (k : ℕ) → Extended pairs more → k ≤ length pairs → take k more ≡ take k pairs
taken_before pairs more k extended least = ap (take k) extended.is ∙ take-append-le k pairs extended.extra least

pub gone_on : (one other : Description) (pairs more : List Pair) (at : ℕ) (pair : Pair) → IsUnderWay one other pairs at → at < length pairs → pair ≡ get_or pairs at pair
    → length pairs ≤ most_states → more ≡ insert_all same_pair pairs (targets_of one other pair) → IsUnderWay one other more (at + 1)
gone_on one other pairs more at pair way below here few is =
    let extended = all_extends (targets_of one other pair) pairs in
    let long : more ≡ pairs ++ extended.extra = is ∙ extended.is in
    let same : (k : ℕ) → k ≤ length pairs → take k more ≡ take k pairs = λ k least. ap (take k) long ∙ take-append-le k pairs extended.extra least in
    let done : take (at + 1) more ≡ take at pairs ++ pair ∷ [] =
    same (at + 1) (omega arith) ∙ take_more pairs at pair below ∙ ap (λ (p : Pair). take at pairs ++ p ∷ []) (sym here) in
    let targets : flat_map (targets_of one other) (take at pairs ++ pair ∷ []) ≡ flat_map (targets_of one other) (take at pairs) ++ targets_of one other pair =
    flat_map-append (targets_of one other) (take at pairs) (pair ∷ []) ∙ ap (λ (ts : List Pair). flat_map (targets_of one other) (take at pairs) ++ ts) (append_nil (targets_of one other pair)) in
    record {
      reached = is
          ∙ ap (λ (ks : List Pair). insert_all same_pair ks (targets_of one other pair)) way.reached
          ∙ sym (insert_both [] (start_pairs one other ++ flat_map (targets_of one other) (take at pairs)) (targets_of one other pair))
          ∙ ap (insert_all same_pair []) (append_assoc (start_pairs one other) (flat_map (targets_of one other) (take at pairs)) (targets_of one other pair))
          ∙ ap (λ (ts : List Pair). insert_all same_pair [] (start_pairs one other ++ ts)) (sym targets)
          ∙ ap (found_after one other) (sym done);
      each = λ k least. found_at k least (same k (omega arith));
      within = omega (arith, ap length long, length-append pairs extended.extra);
      few = omega arith;
      reachable = record {
        apart = ap (has_repeat same_pair) is ∙ inserted_apart (targets_of one other pair) pairs way.reachable.apart;
        each = λ to listed. elim (inserted_from (targets_of one other pair) pairs to (subst (λ (ps : List Pair). Contains ps to) is listed)) [
          | inl old ↦ way.reachable.each to old
          | inr led ↦ step pair to (way.reachable.each pair (at, below, sym here)) led
        ];
      };
    }
  where
    found_at : (k : ℕ) → k < at + 1 → take k more ≡ take k pairs → k < length (found_after one other (take k more))
    found_at k least e = go (last k least)
      where
        last : (k : ℕ) → k < at + 1 → (k < at) ⊎ (k ≡ at)
        last k least = grind arith

        go : (k < at) ⊎ (k ≡ at) → k < length (found_after one other (take k more))
        go (inl before) = subst (λ (done : List Pair). k < length (found_after one other done)) (sym e) (way.each k before)
        go (inr now) =
            let whole : length pairs ≡ length (found_after one other (take at pairs)) = ap length way.reached in
            let moved : length (found_after one other (take at pairs)) ≡ length (found_after one other (take k pairs)) =
            ap (λ n. length (found_after one other (take n pairs))) (sym now) in
            subst (λ (done : List Pair). k < length (found_after one other done)) (sym e) (omega (arith, whole, moved, now, below))

pub done_with : (one other : Description) (pairs : List Pair) (at : ℕ) → IsUnderWay one other pairs at → length pairs ≤ at → AreReached one other pairs
done_with one other pairs at way past =
    let e : at ≡ length pairs = omega (arith, way.within, past) in
    record {
      found = λ k below. way.each k (omega arith);
      all = way.reached ∙ ap (found_after one other) (take_all at pairs past);
    }
