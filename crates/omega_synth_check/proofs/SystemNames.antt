-- Propositions that the system controls, by their names and by their numbers.
use Rattle.std.proofs.Common.{◌≡◌, ℕ, ◌+◌, ◌<◌, inl, inr, Bool, true, false, ◌||◌, cond, List, [], ◌∷◌, ◌++◌, filter, length, get_or, Contains, refl, sym, ap, subst, ◌∙◌, arith, append-nil}
use Rattle.std.specs.List.{list_any, range_with_len}
use Rattle.std.specs.Str.{bytes_eq}
use Rattle.std.proofs.lemmas.Bool.{false≢true}
use Rattle.std.proofs.lemmas.List.{map-id}
use Rattle.std.proofs.lemmas.List.FromFn.{filter_of_map_range_with_len_more, get_or-range_with_len, length-range_with_len}
use Rattle.std.proofs.lemmas.Slice.Eq.{bytes_eq-Decides}
use Rattle.omega_lang_product.proofs.Membership.{Contains-cases, Contains-here, Contains-nothing, Contains-there}
use Rattle.omega_lang_word_laws.proofs.meeting.Lists.{contains_filter, filter_contains}
use Rattle.omega_synth_check.specs.CounterRefusing.{system_numbers}

-- a name that a test finds is one of the names
pub found_name : (name : List ℕ) (names : List (List ℕ)) → list_any (bytes_eq name) names ≡ true → Contains names name
found_name name [] found = absurd (false≢true found)
found_name name (x ∷ xs) found = go (bytes_eq name x) refl found (λ rest. found_name name xs rest)
  where
    go : (b : Bool) → bytes_eq name x ≡ b → (b || list_any (bytes_eq name) xs) ≡ true → (list_any (bytes_eq name) xs ≡ true → Contains xs name) → Contains (x ∷ xs) name
    go true e some rest = subst (Contains (x ∷ xs)) (sym ((bytes_eq-Decides name x).0 e)) (Contains-here x xs)
    go false e some rest = Contains-there x name xs (rest some)

pub name_found : (name : List ℕ) (names : List (List ℕ)) → Contains names name → list_any (bytes_eq name) names ≡ true
name_found name [] has = absurd (Contains-nothing name has)
name_found name (x ∷ xs) has = elim (Contains-cases x name xs has) [
  | inl here ↦ ap (λ b. b || list_any (bytes_eq name) xs) ((bytes_eq-Decides name x).1 (sym here))
  | inr later ↦ or_true (bytes_eq name x) (list_any (bytes_eq name) xs) (name_found name xs later)
]
  where
    or_true : (a b : Bool) → b ≡ true → (a || b) ≡ true
    or_true true b e = refl
    or_true false b e = e

module _ (names controlled : List (List ℕ)) where
  abbrev test : ℕ → Bool
  test p = list_any (bytes_eq (get_or names p [])) controlled

  -- the number of a name that the system controls is one of its numbers
  pub system_has : (p : ℕ) → p < length names → Contains controlled (get_or names p []) → Contains (system_numbers names controlled) p
  system_has p below has = contains_filter test (range_with_len 0 (length names)) p in_range (name_found (get_or names p []) controlled has)
    where
      in_range : Contains (range_with_len 0 (length names)) p
      in_range =
          let none : 0 + p ≡ p = omega arith in
          (p, omega (arith, below, length-range_with_len 0 (length names)), get_or-range_with_len 0 (length names) p p below ∙ none)

  -- and its numbers are those of such names
  pub system_named : (p : ℕ) → Contains (system_numbers names controlled) p → Contains controlled (get_or names p [])
  system_named p has =
      found_name (get_or names p []) controlled (filter_contains test (range_with_len 0 (length names)) p has).1

  -- ---- the numbers so far

  numbers_more : (p : ℕ) → filter test (range_with_len 0 (p + 1)) ≡ filter test (range_with_len 0 p) ++ cond (test p) (p ∷ []) []
  numbers_more p =
      ap (filter test) (sym (map-id (range_with_len 0 (p + 1)))) ∙ filter_of_map_range_with_len_more test (λ n. n) 0 p p (omega arith)
      ∙ ap (λ (xs : List ℕ). filter test xs ++ cond (test p) (p ∷ []) []) (map-id (range_with_len 0 p))

  pub number_passed : (p : ℕ) (name : List ℕ) (before : List ℕ) → name ≡ get_or names p [] → list_any (bytes_eq name) controlled ≡ true
      → before ≡ filter test (range_with_len 0 p) → before ++ p ∷ [] ≡ filter test (range_with_len 0 (p + 1))
  number_passed p name before named passes is =
      let here : test p ≡ true = ap (λ (n : List ℕ). list_any (bytes_eq n) controlled) (sym named) ∙ passes in
      ap (λ (xs : List ℕ). xs ++ p ∷ []) is ∙ ap (λ b. filter test (range_with_len 0 p) ++ cond b (p ∷ []) []) (sym here) ∙ sym (numbers_more p)

  pub number_skipped : (p : ℕ) (name : List ℕ) (before : List ℕ) → name ≡ get_or names p [] → list_any (bytes_eq name) controlled ≡ false
      → before ≡ filter test (range_with_len 0 p) → before ≡ filter test (range_with_len 0 (p + 1))
  number_skipped p name before named fails is =
      let here : test p ≡ false = ap (λ (n : List ℕ). list_any (bytes_eq n) controlled) (sym named) ∙ fails in
      is ∙ sym (append-nil (filter test (range_with_len 0 p))) ∙ ap (λ b. filter test (range_with_len 0 p) ++ cond b (p ∷ []) []) (sym here) ∙ sym (numbers_more p)
