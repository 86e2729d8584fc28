-- The edges that leave a state, found by the place of its number.
use Rattle.std.proofs.Common.{◌≡◌, ℕ, ◌<◌, inl, inr, true, false, List, [], length, get_or, nat_eq, sym, ap, refl, ◌∙◌, subst, arith, eq-eqb, eqb-true}
use Rattle.std.specs.List.{IsDistinct, list_any}
use Rattle.std.proofs.lemmas.Bool.{cases_order, false≢true}
use Rattle.std.proofs.lemmas.List.{get_or-map, length-map}
use Rattle.std.proofs.lemmas.Map.Keys.{any_passes_from_place, apart_from_distinct}
use Rattle.std.proofs.lemmas.Option.{same_Some, slice_get-get_or, slice_get_within}
use Rattle.omega_hoa_automaton.specs.Automaton.{BodyEdge, Description, edges_of}
use Rattle.omega_hoa_automaton.specs.declared.state.State.{State}
use Rattle.omega_lang_runs.specs.Places.{EdgeStandsAt}
use Rattle.omega_lang_runs.specs.declared.place.EdgePlace.{EdgePlace}
use Rattle.omega_synth_game.specs.Making.{IsLeaving}
use Rattle.omega_synth_game.proofs.Listing.{stands_at}
use Rattle.omega_synth_game.proofs.Whole.{state_is, state_within}
use Rattle.omega_synth_check.specs.declared.leaving.Leaving.{Leaving}
use Rattle.omega_synth_check.specs.private.Leaving.{AreLeavers, IsLeavingOf, no_place}

-- distinct numbers are at different places
pub apart : (keys : List ℕ) (p q : ℕ) → IsDistinct nat_eq keys → p < length keys → q < length keys → get_or keys p 0 ≡ get_or keys q 0 → p ≡ q
apart keys p q distinct low high same = elim (cases_order p q) [
  | inl is ↦ is
  | inr (inl less) ↦ absurd (false≢true (sym (apart_from_distinct nat_eq keys p q 0 distinct less high) ∙ eq-eqb (get_or keys p 0) (get_or keys q 0) same))
  | inr (inr more) ↦ absurd (false≢true (sym (apart_from_distinct nat_eq keys q p 0 distinct more low) ∙ eq-eqb (get_or keys q 0) (get_or keys p 0) (sym same)))
]

module _ (a : Description) (leaving : Leaving) (is : IsLeavingOf a leaving) where
  abbrev placed : ℕ → EdgePlace
  placed number = get_or leaving.places.items number no_place

  module _ (number : ℕ) (below : number < length leaving.places.items) where
    pub stands : EdgeStandsAt a number (placed number)
    stands = stands_at a leaving.places.items number no_place is.places below

    within : (placed number).state < length leaving.numbers.keys
    within =
        omega (arith, state_within a number (placed number) stands, ap length is.numbers, length-map a.defined (λ (state : State). state.number))

    key_is : get_or leaving.numbers.keys (placed number).state 0 ≡ stands.state.number
    key_is =
        ap (λ (keys : List ℕ). get_or keys (placed number).state 0) is.numbers
        ∙ get_or-map (λ (state : State). state.number) a.defined (placed number).state stands.state 0 (state_within a number (placed number) stands)
        ∙ ap (λ (state : State). state.number) (state_is a number (placed number) stands stands.state)

    leaves : IsLeaving a stands.state.number number
    leaves = record { edge = record { source = stands.state; edge = stands.edge }; numbered = stands.numbered; leaves = refl }

    source_is : (state : ℕ) → IsLeaving a state number → stands.state.number ≡ state
    source_is state leaver =
        ap (λ (edge : BodyEdge). edge.source.number) (same_Some (record { source = stands.state; edge = stands.edge }) leaver.edge (sym stands.numbered ∙ leaver.numbered))
        ∙ leaver.leaves

  -- an edge that leaves a state has a place
  pub has_place : (state number : ℕ) → IsLeaving a state number → number < length leaving.places.items
  has_place state number leaver = omega (arith, is.places.all, slice_get_within (edges_of a) number leaver.edge leaver.numbered)

  -- the state is defined
  pub leavers_found : (state index : ℕ) → index < length leaving.numbers.keys → nat_eq state (get_or leaving.numbers.keys index 0) ≡ true
      → AreLeavers a state (get_or leaving.lists.items index [])
  leavers_found state index below same number =
      let key : state ≡ get_or leaving.numbers.keys index 0 = eqb-true state (get_or leaving.numbers.keys index 0) same in
      let counted : index < length a.defined = omega (arith, below, ap length is.numbers, length-map a.defined (λ (state : State). state.number)) in (
        λ has.
            (let at = (is.listed.each index number counted).0 has in
            subst (λ (s : ℕ). IsLeaving a s number) (sym (key_is number at.0) ∙ ap (λ i. get_or leaving.numbers.keys i 0) at.1 ∙ sym key) (leaves number at.0)),
        λ leaver.
            (let low = has_place state number leaver in
            (is.listed.each index number counted).1
            (low, apart leaving.numbers.keys (placed number).state index is.distinct (within number low) below (key_is number low ∙ source_is number low state leaver ∙ key))),
      )

  -- it is not
  pub leavers_missing : (state : ℕ) → list_any (nat_eq state) leaving.numbers.keys ≡ false → AreLeavers a state []
  leavers_missing state none number = (
    λ has. absurd (omega (arith, has.1)),
    λ leaver.
        (let low = has_place state number leaver in
        let key : state ≡ get_or leaving.numbers.keys (placed number).state 0 = sym (key_is number low ∙ source_is number low state leaver) in
        absurd (false≢true (sym none
        ∙ any_passes_from_place (nat_eq state) leaving.numbers.keys (placed number).state (get_or leaving.numbers.keys (placed number).state 0)
        (slice_get-get_or leaving.numbers.keys (placed number).state 0 (within number low)) (eq-eqb state (get_or leaving.numbers.keys (placed number).state 0) key)))),
  )
