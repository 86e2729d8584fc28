-- Lists that are gone through, one element more.
use Rattle.std.proofs.Common.{◌≡◌, ℕ, ◌+◌, ◌<◌, Bool, true, false, cond, List, [], ◌∷◌, ◌++◌, length, map, filter, take, get_or, refl, sym, ap, ◌∙◌}
use Rattle.std.specs.List.{flat_map}
use Rattle.std.proofs.lemmas.Grind.{flat_map-append}
use Rattle.std.proofs.lemmas.List.{map-append, take_more}
use Rattle.std.proofs.lemmas.List.Elements.{filter-append}
use Rattle.indexmap.specs.IndexSet.{insert_all, insert_key}
use Rattle.omega_lang_product.specs.Pairs.{Pair, same_pair}
use Rattle.omega_lang_product.proofs.Reaching.{insert_both}

pub append_nil : {X : Type 0} (xs : List X) → xs ++ [] ≡ xs
append_nil [] = refl
append_nil {X = X} (x ∷ xs) = ap (λ (rest : List X). x ∷ rest) (append_nil xs)

module _ {X : Type 0} (xs : List X) (i : ℕ) (x : X) (below : i < length xs) (here : x ≡ get_or xs i x) where
  take_one : take (i + 1) xs ≡ take i xs ++ x ∷ []
  take_one = take_more xs i x below ∙ ap (λ (y : X). take i xs ++ y ∷ []) (sym here)

  -- under a function
  pub map_one : {Y : Type 0} (f : X → Y) → map f (take (i + 1) xs) ≡ map f (take i xs) ++ f x ∷ []
  map_one f = ap (map f) take_one ∙ map-append f (take i xs) (x ∷ [])

  -- joined lists
  pub flat_one : {Y : Type 0} (f : X → List Y) → flat_map f (take (i + 1) xs) ≡ flat_map f (take i xs) ++ f x
  flat_one {Y = Y} f =
      ap (flat_map f) take_one ∙ flat_map-append f (take i xs) (x ∷ []) ∙ ap (λ (rest : List Y). flat_map f (take i xs) ++ rest) (append_nil (f x))

  -- what passes a test
  pub filter_kept : (p : X → Bool) → p x ≡ true → filter p (take (i + 1) xs) ≡ filter p (take i xs) ++ x ∷ []
  filter_kept p passes =
      ap (filter p) take_one ∙ filter-append p (take i xs) (x ∷ []) ∙ ap (λ b. filter p (take i xs) ++ cond b (x ∷ []) []) passes

  pub filter_dropped : (p : X → Bool) → p x ≡ false → filter p (take (i + 1) xs) ≡ filter p (take i xs)
  filter_dropped p fails =
      ap (filter p) take_one ∙ filter-append p (take i xs) (x ∷ []) ∙ ap (λ b. filter p (take i xs) ++ cond b (x ∷ []) []) fails ∙ append_nil (filter p (take i xs))

-- one pair more is inserted
insert_one : (ks ps : List Pair) (p : Pair) → insert_all same_pair ks (ps ++ p ∷ []) ≡ insert_key same_pair (insert_all same_pair ks ps) p
insert_one ks ps p = insert_both ks ps (p ∷ [])

module _ {X : Type 0} (xs : List X) (i : ℕ) (x : X) (below : i < length xs) (here : x ≡ get_or xs i x) (ks keys : List Pair) where
  pub insert_mapped : (f : X → Pair) → keys ≡ insert_all same_pair ks (map f (take i xs)) → insert_key same_pair keys (f x) ≡ insert_all same_pair ks (map f (take (i + 1) xs))
  insert_mapped f so_far =
      ap (λ (s : List Pair). insert_key same_pair s (f x)) so_far
      ∙ sym (insert_one ks (map f (take i xs)) (f x)) ∙ ap (insert_all same_pair ks) (sym (map_one xs i x below here f))

  pub insert_flat : (f : X → List Pair) → keys ≡ insert_all same_pair ks (flat_map f (take i xs)) → insert_all same_pair keys (f x) ≡ insert_all same_pair ks (flat_map f (take (i + 1) xs))
  insert_flat f so_far =
      ap (λ (s : List Pair). insert_all same_pair s (f x)) so_far
      ∙ sym (insert_both ks (flat_map f (take i xs)) (f x)) ∙ ap (insert_all same_pair ks) (sym (flat_one xs i x below here f))

  pub insert_kept : (p : X → Bool) (f : X → Pair) → p x ≡ true → keys ≡ insert_all same_pair ks (map f (filter p (take i xs)))
      → insert_key same_pair keys (f x) ≡ insert_all same_pair ks (map f (filter p (take (i + 1) xs)))
  insert_kept p f passes so_far =
      ap (λ (s : List Pair). insert_key same_pair s (f x)) so_far
      ∙ sym (insert_one ks (map f (filter p (take i xs))) (f x))
      ∙ ap (insert_all same_pair ks) (sym (ap (map f) (filter_kept xs i x below here p passes) ∙ map-append f (filter p (take i xs)) (x ∷ [])))

  pub insert_dropped : (p : X → Bool) (f : X → Pair) → p x ≡ false → keys ≡ insert_all same_pair ks (map f (filter p (take i xs)))
      → keys ≡ insert_all same_pair ks (map f (filter p (take (i + 1) xs)))
  insert_dropped p f fails so_far = so_far ∙ ap (λ (s : List X). insert_all same_pair ks (map f s)) (sym (filter_dropped xs i x below here p fails))

-- two facts together
pub both_of : {A B : Type 0} → A → B → A × B
both_of a b = (a, b)
