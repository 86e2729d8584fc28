-- Names and labels of a product that is not made: its names are apart, and its labels have propositions that it names.
use Rattle.std.proofs.Common.{◌≡◌, ◌⊎◌, inl, inr, ℕ, zero, suc, ◌<◌, ◌≤◌, Bool, true, false, not, ◌||◌, cond, List, [], ◌∷◌, ◌++◌, length, filter, Contains, refl, sym, ap, ap₂, subst, ◌∙◌, arith}
use Rattle.std.specs.List.{list_any, position_or_len}
use Rattle.std.specs.Str.{bytes_eq}
use Rattle.std.proofs.lemmas.Bool.{cases_lt, false≢true}
use Rattle.std.proofs.lemmas.List.{get_or-map}
use Rattle.std.proofs.lemmas.List.Elements.{Contains-append_cases, Contains-append_left, Contains-append_right}
use Rattle.std.proofs.lemmas.List.Sums.{fails_before_first}
use Rattle.std.proofs.lemmas.Slice.Eq.{bytes_eq-Decides}
use Rattle.omega_hoa_automaton.specs.Automaton.{has_repeat}
use Rattle.omega_hoa_label.specs.Label.{LabelTree, conjunction, constant, disjunction, negation, proposition, propositions}
use Rattle.omega_lang_product.specs.Joining.{joined_names, number_among, places_among, relabelled}
use Rattle.omega_lang_product.proofs.Membership.{Contains-here, Contains-nothing, Contains-there}
use Rattle.omega_lang_word_laws.proofs.meeting.Lists.{contains_filter, filter_contains, passes_nowhere}
use Rattle.omega_lang_word_laws.proofs.naming.Named.{contained_at}
use Rattle.omega_lang_word_laws.proofs.parting.Plain.{or_parts}

-- a test that each element fails passes nowhere
pub fails_everywhere : {X : Type 0} (test : X → Bool) (xs : List X) → ((x : X) → Contains xs x → test x ≡ false) → list_any test xs ≡ false
fails_everywhere test [] fails = refl
fails_everywhere test (x ∷ xs) fails =
    ap₂ ◌||◌ (fails x (Contains-here x xs)) (fails_everywhere test xs (λ y h. fails y (Contains-there x y xs h)))

-- two lists without repeats and without a common element have none together
module _ {X : Type 0} (same : X → X → Bool) where
  apart_together : (xs ys : List X) → has_repeat same xs ≡ false → has_repeat same ys ≡ false
      → ((x y : X) → Contains xs x → Contains ys y → same y x ≡ false) → has_repeat same (xs ++ ys) ≡ false
  apart_together [] ys first second apart = second
  apart_together (x ∷ xs) ys first second apart =
      let parts = or_parts (list_any (λ (later : X). same later x) xs) (has_repeat same xs) first in
      ap₂ ◌||◌
      (fails_everywhere (λ (later : X). same later x) (xs ++ ys) (λ z h. elim (Contains-append_cases xs ys z h) [
        | inl here ↦ passes_nowhere (λ (later : X). same later x) xs z parts.0 here
        | inr there ↦ apart x z (Contains-here x xs) there
      ]))
      (apart_together xs ys parts.1 second (λ y z h h'. apart y z (Contains-there x y xs h) h'))

  filtered_apart : (p : X → Bool) (xs : List X) → has_repeat same xs ≡ false → has_repeat same (filter p xs) ≡ false
  filtered_apart p [] unlike = refl
  filtered_apart p (x ∷ xs) unlike = go (p x) (filtered_apart p xs parts.1)
    where
      parts : (list_any (λ (later : X). same later x) xs ≡ false) × (has_repeat same xs ≡ false)
      parts = or_parts (list_any (λ (later : X). same later x) xs) (has_repeat same xs) unlike

      go : (b : Bool) → has_repeat same (filter p xs) ≡ false → has_repeat same (cond b (x ∷ filter p xs) (filter p xs)) ≡ false
      go true rest =
          ap₂ ◌||◌
          (fails_everywhere (λ (later : X). same later x) (filter p xs)
          (λ z h. passes_nowhere (λ (later : X). same later x) xs z parts.0 (filter_contains p xs z h).0)) rest
      go false rest = rest

-- so the joined names are apart
not_false : (b : Bool) → not b ≡ true → b ≡ false
not_false true e = absurd (false≢true e)
not_false false e = refl

pub joined_apart : (names others : List (List ℕ)) → has_repeat bytes_eq names ≡ false → has_repeat bytes_eq others ≡ false
    → has_repeat bytes_eq (joined_names names others) ≡ false
joined_apart names others first second =
    apart_together bytes_eq names (filter (λ (name : List ℕ). not (list_any (bytes_eq name) names)) others) first
    (filtered_apart bytes_eq (λ (name : List ℕ). not (list_any (bytes_eq name) names)) others second)
    (λ x y h h'.
    passes_nowhere (bytes_eq y) names x
    (not_false (list_any (bytes_eq y) names) (filter_contains (λ (name : List ℕ). not (list_any (bytes_eq name) names)) others y h').1) h)

-- the place of a name that is there
place_below : (joined : List (List ℕ)) (name : List ℕ) → Contains joined name → position_or_len (bytes_eq name) joined < length joined
place_below joined name within = go (cases_lt (position_or_len (bytes_eq name) joined) (length joined))
  where
    go : (position_or_len (bytes_eq name) joined < length joined) ⊎ (length joined ≤ position_or_len (bytes_eq name) joined)
        → position_or_len (bytes_eq name) joined < length joined
    go (inl below) = below
    go (inr past) =
        let fails = fails_before_first (bytes_eq name) joined within.0 name (omega (arith, within.1)) in
        absurd (false≢true (sym fails ∙ (bytes_eq-Decides name _).1 (sym within.2)))

-- names of both are among the joined ones
pub second_within : (names others : List (List ℕ)) (name : List ℕ) → Contains others name → Contains (joined_names names others) name
second_within names others name within = go (list_any (bytes_eq name) names) refl
  where
    test : List ℕ → Bool
    test other = not (list_any (bytes_eq other) names)

    some : (xs : List (List ℕ)) → list_any (bytes_eq name) xs ≡ true → Contains xs name
    some [] e = absurd (false≢true e)
    some (x ∷ xs) e = one (bytes_eq name x) refl e (λ h. some xs h)
      where
        one : (b : Bool) → bytes_eq name x ≡ b → (b || list_any (bytes_eq name) xs) ≡ true → (list_any (bytes_eq name) xs ≡ true → Contains xs name)
            → Contains (x ∷ xs) name
        one true e h rest = subst (Contains (x ∷ xs)) (sym ((bytes_eq-Decides name x).0 e)) (Contains-here x xs)
        one false e h rest = Contains-there x name xs (rest h)

    go : (b : Bool) → list_any (bytes_eq name) names ≡ b → Contains (joined_names names others) name
    go true e = Contains-append_left names (filter test others) name (some names e)
    go false e = Contains-append_right names (filter test others) name (contains_filter test others name within (ap not e))

first_within : (names others : List (List ℕ)) (name : List ℕ) → Contains names name → Contains (joined_names names others) name
first_within names others name within =
    Contains-append_left names (filter (λ (other : List ℕ). not (list_any (bytes_eq other) names)) others) name within

-- a label over the joined propositions has those that there are
relabelled_below : (places : List ℕ) (count bound : ℕ) → ((q : ℕ) → q < count → number_among places q < bound) → (label : LabelTree)
    → ((p : ℕ) → Contains (propositions label) p → p < count) → (p : ℕ) → Contains (propositions (relabelled places label)) p → p < bound
relabelled_below places count bound placed (constant value) below p within = absurd (Contains-nothing p within)
relabelled_below places count bound placed (proposition number) below p (zero, low, is) =
    subst (λ q. q < bound) is (placed number (below number (Contains-here number [])))
relabelled_below places count bound placed (proposition number) below p (suc k, low, is) = absurd (omega (arith, low))
relabelled_below places count bound placed (negation part) below p within = relabelled_below places count bound placed part below p within
relabelled_below places count bound placed (conjunction left right) below p within =
    elim (Contains-append_cases (propositions (relabelled places left)) (propositions (relabelled places right)) p within) [
      | inl here ↦ relabelled_below places count bound placed left (λ q h. below q (Contains-append_left (propositions left) (propositions right) q h)) p here
      | inr there ↦ relabelled_below places count bound placed right (λ q h. below q (Contains-append_right (propositions left) (propositions right) q h)) p there
    ]
relabelled_below places count bound placed (disjunction left right) below p within =
    elim (Contains-append_cases (propositions (relabelled places left)) (propositions (relabelled places right)) p within) [
      | inl here ↦ relabelled_below places count bound placed left (λ q h. below q (Contains-append_left (propositions left) (propositions right) q h)) p here
      | inr there ↦ relabelled_below places count bound placed right (λ q h. below q (Contains-append_right (propositions left) (propositions right) q h)) p there
    ]

-- the places of names that are all among the joined ones
places_below : (joined names : List (List ℕ)) → ((name : List ℕ) → Contains names name → Contains joined name) → (q : ℕ) → q < length names
    → number_among (places_among joined names) q < length joined
places_below joined names within q below =
    subst (λ n. n < length joined) (sym (get_or-map (λ (name : List ℕ). position_or_len (bytes_eq name) joined) names q [] 0 below))
    (place_below joined _ (within _ (contained_at names q [] below)))

module _ (names others : List (List ℕ)) where
  pub first_below : (label : LabelTree) → ((p : ℕ) → Contains (propositions label) p → p < length names) → (p : ℕ)
      → Contains (propositions (relabelled (places_among (joined_names names others) names) label)) p → p < length (joined_names names others)
  first_below label below p within =
      relabelled_below (places_among (joined_names names others) names) (length names) (length (joined_names names others))
      (places_below (joined_names names others) names (first_within names others)) label below p within

  pub second_below : (label : LabelTree) → ((p : ℕ) → Contains (propositions label) p → p < length others) → (p : ℕ)
      → Contains (propositions (relabelled (places_among (joined_names names others) others) label)) p → p < length (joined_names names others)
  second_below label below p within =
      relabelled_below (places_among (joined_names names others) others) (length others) (length (joined_names names others))
      (places_below (joined_names names others) others (second_within names others)) label below p within
