-- First places of lists, one list more.
use Rattle.std.proofs.Common.{◌≡◌, ℕ, zero, suc, ◌+◌, ◌<◌, inl, inr, Bool, true, false, not, ◌||◌, List, [], ◌∷◌, ◌++◌, length, map, get_or, sym, ap, refl, ◌∙◌, if◌then◌else◌, length-append, arith}
use Rattle.std.specs.Cmp.Lexicographic.{pointwise}
use Rattle.std.specs.List.{list_any}
use Rattle.std.specs.Prelude.{nat_eq}
use Rattle.std.proofs.Math.Seq.{get_or-append_seam}
use Rattle.std.proofs.lemmas.Bool.{cases_eq, false≢true, not-false, not-true, or_cases, or_left, or_right}
use Rattle.std.proofs.lemmas.Bool.Decides.{Decides-eqb}
use Rattle.std.proofs.lemmas.List.{get_or_append_left, map-append}
use Rattle.std.proofs.lemmas.Slice.Eq.{slice_eq-Decides}
use Rattle.omega_synth_game.specs.private.Firsts.{AreFirstPlaces, list_at}

same_lists : (xs ys : List ℕ) → pointwise nat_eq xs ys ≡ true → xs ≡ ys
same_lists xs ys is = (slice_eq-Decides Decides-eqb xs ys (pointwise nat_eq xs ys) refl).0 is

lists_same : (xs ys : List ℕ) → xs ≡ ys → pointwise nat_eq xs ys ≡ true
lists_same xs ys is = (slice_eq-Decides Decides-eqb xs ys (pointwise nat_eq xs ys) refl).1 is

-- a list among those at places
among_places : (lists : List (List ℕ)) (xs : List ℕ) (places : List ℕ) → list_any (pointwise nat_eq xs) (map (list_at lists) places) ≡ true
    → (at : ℕ) × (at < length places) × (list_at lists (get_or places at 0) ≡ xs)
among_places lists xs [] is = absurd (false≢true is)
among_places lists xs (place ∷ places) is =
    elim (or_cases (pointwise nat_eq xs (list_at lists place)) (list_any (pointwise nat_eq xs) (map (list_at lists) places)) is) [
      | inl here ↦ (0, omega arith, sym (same_lists xs (list_at lists place) here))
      | inr later ↦ let rest = among_places lists xs places later in (suc rest.0, omega (arith, rest.1), rest.2)
    ]

-- a list that is at one of the places is among them
at_place : (lists : List (List ℕ)) (xs : List ℕ) (places : List ℕ) (at : ℕ) → at < length places → list_at lists (get_or places at 0) ≡ xs
    → list_any (pointwise nat_eq xs) (map (list_at lists) places) ≡ true
at_place lists xs [] at below is = absurd (omega arith)
at_place lists xs (place ∷ places) zero below is =
    or_left (pointwise nat_eq xs (list_at lists place)) (list_any (pointwise nat_eq xs) (map (list_at lists) places)) (lists_same xs (list_at lists place) (sym is))
at_place lists xs (place ∷ places) (suc at) below is =
    or_right (pointwise nat_eq xs (list_at lists place)) (list_any (pointwise nat_eq xs) (map (list_at lists) places)) (at_place lists xs places at (omega arith) is)

module _ (lists : List (List ℕ)) (end : ℕ) (places : List ℕ) (are : AreFirstPlaces lists end places) where
  -- a list that is there already
  pub places_kept : list_any (pointwise nat_eq (list_at lists end)) (map (list_at lists) places) ≡ true → AreFirstPlaces lists (end + 1) places
  places_kept is =
      let here = among_places lists (list_at lists end) places is in
      record {
        below = λ at within. omega (arith, are.below at within);
        rising = are.rising;
        new = are.new;
        found = λ place below. elim (cases_eq place end) [
          | inl same ↦ (here.0, here.1, here.2 ∙ ap (list_at lists) (sym same))
          | inr apart ↦ are.found place (omega (arith, below, apart))
        ];
      }

  module _ (absent : list_any (pointwise nat_eq (list_at lists end)) (map (list_at lists) places) ≡ false) where
    abbrev more : List ℕ
    more = places ++ end ∷ []

    old : (at : ℕ) → at < length places → get_or places at 0 ≡ get_or more at 0
    old at below = sym (get_or_append_left places (end ∷ []) 0 at below)

    last : (at : ℕ) → at ≡ length places → end ≡ get_or more at 0
    last at is = sym (ap (λ n. get_or more n 0) is ∙ get_or-append_seam places end [] 0)

    count : length more ≡ length places + 1
    count = length-append places (end ∷ []) ∙ omega arith

    unlike : (earlier : ℕ) → earlier < end → list_at lists earlier ≡ list_at lists end → ⊥
    unlike earlier below same =
        let found = are.found earlier below in
        false≢true (sym absent ∙ at_place lists (list_at lists end) places found.0 found.1 (found.2 ∙ same))

    -- a list that is new
    pub places_more : AreFirstPlaces lists (end + 1) more
    places_more = record {
      below = λ at within. elim (cases_eq at (length places)) [
        | inl same ↦ omega (arith, last at same)
        | inr apart ↦ let early : at < length places = omega (arith, within, apart, count) in omega (arith, old at early, are.below at early)
      ];
      rising = λ at later less within. elim (cases_eq later (length places)) [
        | inl same ↦
            let early : at < length places = omega (arith, less, same) in
            omega (arith, last later same, old at early, are.below at early)
        | inr apart ↦
            let late : later < length places = omega (arith, within, apart, count) in
            let early : at < length places = omega (arith, less, late) in
            omega (arith, old at early, old later late, are.rising at later less late)
      ];
      new = λ at earlier within less same. elim (cases_eq at (length places)) [
        | inl is ↦
            unlike earlier (omega (arith, less, last at is)) (same ∙ ap (list_at lists) (sym (last at is)))
        | inr apart ↦
            let early : at < length places = omega (arith, within, apart, count) in
            are.new at earlier early (omega (arith, less, old at early)) (same ∙ ap (list_at lists) (sym (old at early)))
      ];
      found = λ place below. elim (cases_eq place end) [
        | inl same ↦ (length places, omega (arith, count), ap (list_at lists) (sym (last (length places) refl) ∙ sym same))
        | inr apart ↦
            let found = are.found place (omega (arith, below, apart)) in
            (found.0, omega (arith, found.1, count), ap (list_at lists) (sym (old found.0 found.1)) ∙ found.2)
      ];
    }

-- a test of what each item is seen as
list_any-map : {K X : Type 0} (test : X → Bool) (seen : K → X) (xs : List K) → list_any test (map seen xs) ≡ list_any (λ x. test (seen x)) xs
list_any-map test seen [] = refl
list_any-map test seen (x ∷ xs) = ap (λ b. test (seen x) || b) (list_any-map test seen xs)

module _ {K : Type 0} (view : K → List ℕ) (lists : List (List ℕ)) (end : ℕ) (places : List ℕ) (key : K) (keys : List K) (added : Bool)
    (here : view key ≡ list_at lists end) (before : map view keys ≡ map (list_at lists) places)
    (says : added ≡ not (list_any (λ k. pointwise nat_eq (view key) (view k)) keys)) (are : AreFirstPlaces lists end places) where
  among_is : list_any (λ k. pointwise nat_eq (view key) (view k)) keys ≡ list_any (pointwise nat_eq (list_at lists end)) (map (list_at lists) places)
  among_is =
      sym (list_any-map (pointwise nat_eq (view key)) view keys)
      ∙ ap (list_any (pointwise nat_eq (view key))) before
      ∙ ap (λ (xs : List ℕ). list_any (pointwise nat_eq xs) (map (list_at lists) places)) here

  -- a key that is there already
  pub seen_before : (more : List K) → more ≡ (if list_any (λ k. pointwise nat_eq (view key) (view k)) keys then keys else keys ++ key ∷ []) → added ≡ false
      → (map view more ≡ map (list_at lists) places) × AreFirstPlaces lists (end + 1) places
  seen_before more put old =
      let present : list_any (λ k. pointwise nat_eq (view key) (view k)) keys ≡ true =
      not-false (list_any (λ k. pointwise nat_eq (view key) (view k)) keys) (sym says ∙ old) in (
        rw put (rw present before),
        places_kept lists end places are (sym among_is ∙ present),
      )

  -- a key that is new
  pub seen_first : (more : List K) → more ≡ (if list_any (λ k. pointwise nat_eq (view key) (view k)) keys then keys else keys ++ key ∷ []) → added ≡ true
      → (map view more ≡ map (list_at lists) (places ++ end ∷ [])) × AreFirstPlaces lists (end + 1) (places ++ end ∷ [])
  seen_first more put new =
      let absent : list_any (λ k. pointwise nat_eq (view key) (view k)) keys ≡ false =
      not-true (list_any (λ k. pointwise nat_eq (view key) (view k)) keys) (sym says ∙ new) in (
        rw put (rw absent (map-append view keys (key ∷ []) ∙ rw before (rw here (sym (map-append (list_at lists) places (end ∷ [])))))),
        places_more lists end places are (sym among_is ∙ absent),
      )

-- before any
pub no_places : (lists : List (List ℕ)) → AreFirstPlaces lists 0 []
no_places lists = record {
  below = λ at within. absurd (omega (arith, within));
  rising = λ at later less within. absurd (omega (arith, within));
  new = λ at earlier within less same. absurd (omega (arith, within));
  found = λ place below. absurd (omega (arith, below));
}
