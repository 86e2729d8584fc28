-- The pairs of a product: each start, and what each leads to, is among them, and their numbers tell them apart.
use Rattle.std.proofs.Common.{◌≡◌, ◌==◌, ℕ, zero, suc, ◌<◌, ◌≤◌, ◌⊎◌, inl, inr, Bool, true, false, if◌then◌else◌, List, [], ◌∷◌, ◌++◌, length, get_or, Contains, sym, ap, ap₂, subst, ◌∙◌, arith, eqb-true, eq-eqb}
use Rattle.std.specs.List.{flat_map, list_any}
use Rattle.std.proofs.lemmas.Bool.{cases_lt, false≢true}
use Rattle.std.proofs.lemmas.List.Elements.{Contains-append_left, Contains-append_right}
use Rattle.std.proofs.lemmas.List.Sums.{fails_before_first, passes_at_first}
use Rattle.indexmap.specs.IndexSet.{insert_all, insert_key}
use Rattle.indexmap.proofs.CallerLemmas.{Contains-insert_key}
use Rattle.omega_hoa_automaton.specs.Automaton.{Description}
use Rattle.omega_lang_product.specs.Pairs.{AreReached, Pair, pair_number, same_pair, start_pairs, targets_of}
use Rattle.omega_lang_product.proofs.Holding.{and_both, both_and}
use Rattle.omega_lang_word_laws.proofs.meeting.Lists.{contains_flat_map}

-- pairs that the test says are the same are
pub same_is : (a b : Pair) → same_pair a b ≡ true → a ≡ b
same_is a b e =
    let both = and_both (a.0 == b.0) (a.1 == b.1) e in
    ap₂ (λ (x y : ℕ). (x, y)) (eqb-true a.0 b.0 both.0) (eqb-true a.1 b.1 both.1)

is_same : (a b : Pair) → a ≡ b → same_pair a b ≡ true
is_same a b e = both_and (a.0 == b.0) (a.1 == b.1) (eq-eqb a.0 b.0 (ap (λ (p : Pair). p.0) e)) (eq-eqb a.1 b.1 (ap (λ (p : Pair). p.1) e))

-- a pair among the pairs has a number
pub number_below : (pairs : List Pair) (pair : Pair) → Contains pairs pair → pair_number pairs pair < length pairs
number_below pairs pair within = go (cases_lt (pair_number pairs pair) (length pairs))
  where
    go : (pair_number pairs pair < length pairs) ⊎ (length pairs ≤ pair_number pairs pair) → pair_number pairs pair < length pairs
    go (inl below) = below
    go (inr past) =
        let fails : same_pair pair (get_or pairs within.0 pair) ≡ false =
        fails_before_first (same_pair pair) pairs within.0 pair (omega (arith, within.1)) in
        absurd (false≢true (sym fails ∙ is_same pair (get_or pairs within.0 pair) (sym within.2)))

-- which tells it
pub number_tells : (pairs : List Pair) (a b : Pair) → pair_number pairs a < length pairs → pair_number pairs a ≡ pair_number pairs b → a ≡ b
number_tells pairs a b below same =
    let first : a ≡ get_or pairs (pair_number pairs a) a = same_is a (get_or pairs (pair_number pairs a) a) (passes_at_first (same_pair a) pairs a below) in
    let below' : pair_number pairs b < length pairs = omega (arith, below, same) in
    let second : b ≡ get_or pairs (pair_number pairs b) a = same_is b (get_or pairs (pair_number pairs b) a) (passes_at_first (same_pair b) pairs a below') in
    first ∙ ap (λ n. get_or pairs n a) same ∙ sym second

-- what is inserted, and what was there before, is there
kept_one : (ks : List Pair) (k pair : Pair) → Contains ks pair → Contains (insert_key same_pair ks k) pair
kept_one ks k pair within = go (list_any (same_pair k) ks)
  where
    go : (b : Bool) → Contains (if b then ks else ks ++ k ∷ []) pair
    go true = within
    go false = Contains-append_left ks (k ∷ []) pair within

kept : (xs ks : List Pair) (pair : Pair) → Contains ks pair → Contains (insert_all same_pair ks xs) pair
kept [] ks pair within = within
kept (x ∷ xs) ks pair within = kept xs (insert_key same_pair ks x) pair (kept_one ks x pair within)

inserted : (xs ks : List Pair) (pair : Pair) → Contains xs pair → Contains (insert_all same_pair ks xs) pair
inserted [] ks pair within = absurd (omega (arith, within.1))
inserted (x ∷ xs) ks pair (zero, below, is) =
    let P : Pair → Type 0 = λ p. Contains (insert_all same_pair (insert_key same_pair ks x) xs) p in
    subst P is (kept xs (insert_key same_pair ks x) x (Contains-insert_key same_pair same_is ks x))
inserted (x ∷ xs) ks pair (suc k, below, is) = inserted xs (insert_key same_pair ks x) pair (k, omega arith, is)

module _ (one other : Description) (pairs : List Pair) (reached : AreReached one other pairs) where
  all_found : (pair : Pair) → Contains (start_pairs one other ++ flat_map (targets_of one other) pairs) pair → Contains pairs pair
  all_found pair within =
      let P : List Pair → Type 0 = λ ps. Contains ps pair in
      subst P (sym reached.all) (inserted (start_pairs one other ++ flat_map (targets_of one other) pairs) [] pair within)

  pub starts_found : (pair : Pair) → Contains (start_pairs one other) pair → Contains pairs pair
  starts_found pair within = all_found pair (Contains-append_left (start_pairs one other) (flat_map (targets_of one other) pairs) pair within)

  pub targets_found : (pair target : Pair) → Contains pairs pair → Contains (targets_of one other pair) target → Contains pairs target
  targets_found pair target within leads =
      all_found target (Contains-append_right (start_pairs one other) (flat_map (targets_of one other) pairs) target
      (contains_flat_map (targets_of one other) pairs pair target within leads))
