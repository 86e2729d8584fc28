-- The pairs that are reached are one list.
use Rattle.std.proofs.Common.{◌≡◌, ◌⊎◌, ℕ, zero, suc, ◌<◌, ◌≤◌, inl, inr, Bool, true, false, if◌then◌else◌, List, [], ◌∷◌, ◌++◌, length, take, drop, refl, sym, ap, ◌∙◌, arith, add-one, append_assoc}
use Rattle.std.specs.Prelude.{slice_index_or}
use Rattle.std.specs.List.{flat_map, list_any}
use Rattle.std.proofs.lemmas.Bool.{cases_lt}
use Rattle.std.proofs.lemmas.Grind.{flat_map-append}
use Rattle.std.proofs.lemmas.List.{get_or_append_left, length-append, take-append-drop, take_all, take_more_same}
use Rattle.indexmap.specs.IndexSet.{insert_all, insert_key}
use Rattle.omega_hoa_automaton.specs.Automaton.{Description}
use Rattle.omega_lang_product.specs.Pairs.{AreReached, Pair, found_after, same_pair, start_pairs, targets_of}
use Rattle.omega_lang_product.proofs.Reaching.{insert_both}

-- what is there stays where it is when more is inserted
record Stays (ks more : List Pair) (k : ℕ) : Type 0 where
  pub below : k < length more
  pub same : slice_index_or more k (0, 0) ≡ slice_index_or ks k (0, 0)

key_stays : (ks : List Pair) (x : Pair) (k : ℕ) → k < length ks → Stays ks (insert_key same_pair ks x) k
key_stays ks x k below = go (list_any (same_pair x) ks)
  where
    go : (b : Bool) → Stays ks (if b then ks else ks ++ x ∷ []) k
    go true = record { below = below; same = refl }
    go false = record { below = omega (arith, below, length-append ks (x ∷ [])); same = get_or_append_left ks (x ∷ []) (0, 0) k below }

all_stay : (xs ks : List Pair) (k : ℕ) → k < length ks → Stays ks (insert_all same_pair ks xs) k
all_stay [] ks k below = record { below = below; same = refl }
all_stay (x ∷ xs) ks k below =
    let first = key_stays ks x k below in
    let rest = all_stay xs (insert_key same_pair ks x) k first.below in
    record { below = rest.below; same = rest.same ∙ first.same }

module _ (one other : Description) where
  -- each pair is found by those before it
  found_by : (pairs : List Pair) → AreReached one other pairs → (k : ℕ) → k < length pairs
      → slice_index_or pairs k (0, 0) ≡ slice_index_or (found_after one other (take k pairs)) k (0, 0)
  found_by pairs reached k below =
      let targets : List Pair → List Pair = flat_map (targets_of one other) in
      let starts : List Pair = start_pairs one other in
      let parts : found_after one other pairs ≡ insert_all same_pair (found_after one other (take k pairs)) (targets (drop k pairs)) =
      ap (λ (ps : List Pair). insert_all same_pair [] (starts ++ targets ps)) (sym (take-append-drop k pairs))
      ∙ ap (λ (ts : List Pair). insert_all same_pair [] (starts ++ ts)) (flat_map-append (targets_of one other) (take k pairs) (drop k pairs))
      ∙ ap (insert_all same_pair []) (sym (append_assoc starts (targets (take k pairs)) (targets (drop k pairs))))
      ∙ insert_both [] (starts ++ targets (take k pairs)) (targets (drop k pairs)) in
      ap (λ (ps : List Pair). slice_index_or ps k (0, 0)) (reached.all ∙ parts)
      ∙ (all_stay (targets (drop k pairs)) (found_after one other (take k pairs)) k (reached.found k below)).same

  same_to : (pairs others : List Pair) → AreReached one other pairs → AreReached one other others → (k : ℕ) → k ≤ length pairs → k ≤ length others
      → take k pairs ≡ take k others
  same_to pairs others first second zero below below' = refl
  same_to pairs others first second (suc k) below below' =
      let before : take k pairs ≡ take k others = same_to pairs others first second k (omega arith) (omega arith) in
      let here : slice_index_or pairs k (0, 0) ≡ slice_index_or others k (0, 0) =
      found_by pairs first k (omega arith)
      ∙ ap (λ (done : List Pair). slice_index_or (found_after one other done) k (0, 0)) before
      ∙ sym (found_by others second k (omega arith)) in
      ap (λ n. take n pairs) (sym (add-one k)) ∙ take_more_same pairs others k (0, 0) (omega arith) (omega arith) before here ∙ ap (λ n. take n others) (add-one k)

  no_more : (pairs others : List Pair) → AreReached one other pairs → AreReached one other others → length pairs < length others → ⊥
  no_more pairs others first second less =
      let e : take (length pairs) others ≡ pairs =
      sym (same_to pairs others first second (length pairs) (omega arith) (omega arith)) ∙ take_all (length pairs) pairs (omega arith) in
      let whole : length (found_after one other (take (length pairs) others)) ≡ length pairs =
      ap (λ (done : List Pair). length (found_after one other done)) e ∙ ap length (sym first.all) in
      let more = second.found (length pairs) less in
      omega (arith, whole, more)

  pub pairs_one : (pairs others : List Pair) → AreReached one other pairs → AreReached one other others → pairs ≡ others
  pairs_one pairs others first second = go (cases_lt (length pairs) (length others)) (cases_lt (length others) (length pairs))
    where
      go : (length pairs < length others) ⊎ (length others ≤ length pairs) → (length others < length pairs) ⊎ (length pairs ≤ length others) → pairs ≡ others
      go (inl less) order = absurd (no_more pairs others first second less)
      go (inr least) (inl less) = absurd (no_more others pairs second first less)
      go (inr least) (inr most) =
          sym (take_all (length pairs) pairs (omega arith))
          ∙ same_to pairs others first second (length pairs) (omega arith) most
          ∙ take_all (length pairs) others least
