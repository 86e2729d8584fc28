-- The states, one after the other.
use Rattle.std.proofs.Common.{◌≡◌, inl, inr, ℕ, ◌<◌, ◌==◌, Bool, List, [], ◌∷◌, ◌++◌, ◌-◌, ◌≤◌, take, drop, ◌+◌, length, get_or, refl, sym, ap, ◌∙◌, subst, arith}
use Rattle.std.specs.Prelude.{All}
use Rattle.std.proofs.lemmas.Bool.{cases_lt}
use Rattle.std.proofs.lemmas.List.{get_or-drop, get_or-take, get_or_append_left, length-append, length-drop, length-map, length-take}
use Rattle.std.proofs.lemmas.List.Elements.{All-append, All-push}
use Rattle.omega_hoa_syntax.specs.declared.raw_state.RawState.{RawState}
use Rattle.omega_circuit.specs.Circuit.{CircuitValue}
use Rattle.omega_circuit.specs.Rounds.{first_latches}
use Rattle.omega_circuit.specs.declared.latch.Latch.{Latch}
use Rattle.omega_circuit_automaton.specs.private.Cuts.{AddsValuations, valuation_at}
use Rattle.omega_circuit_automaton.specs.private.Written.{AreEdgesOf, IsExploring, IsWrittenState, valuation_name}
use Rattle.omega_circuit_automaton.proofs.Growing.{longer, same_valuation, splitting_kept}

last_at : {X : Type 0} (xs : List X) (x d : X) → get_or (xs ++ x ∷ []) (length xs) d ≡ x
last_at [] x d = refl
last_at (y ∷ ys) x d = last_at ys x d

-- the first valuation alone
pub exploring_none : (c : CircuitValue) (first : List Bool) → first ≡ first_latches c → IsExploring c (first ∷ []) []
exploring_none c first is = record {
  some = omega arith;
  start = is;
  known = All-push (λ (valuation : List Bool). length valuation ≡ length c.latches) [] first (λ k d within. absurd (omega (arith, within)))
      (ap length is ∙ length-map c.latches (λ (latch : Latch). latch.reset == 1));
  states_are = λ number d within. absurd (omega (arith, within));
}

module _ (c : CircuitValue) (old new : List (List Bool)) (adds : AddsValuations (length c.latches) old new) where
  -- a state stays
  state_kept : (number : ℕ) (raw : RawState) → number < length old → IsWrittenState c old number raw → IsWrittenState c new number raw
  state_kept number raw low is =
      let same : valuation_at new number ≡ valuation_at old number = same_valuation (length c.latches) old new adds number low in
      record {
        label = is.label;
        number_is = is.number_is;
        name_is = is.name_is ∙ ap valuation_name (sym same);
        marks = is.marks;
        edges_are = subst (λ (latches : List Bool). AreEdgesOf c new latches raw.edges) (sym same)
            (splitting_kept c (length c.latches) old new adds (valuation_at old number) [] raw.edges is.edges_are);
      }

  -- a state more
  pub exploring_more : (states : List RawState) (state : RawState) → IsExploring c old states → length states < length old → IsWrittenState c new (length states) state
      → IsExploring c new (states ++ state ∷ [])
  exploring_more states state is low added = record {
    some = omega (arith, is.some, longer (length c.latches) old new adds);
    start = same_valuation (length c.latches) old new adds 0 is.some ∙ is.start;
    known = subst (All (λ (valuation : List Bool). length valuation ≡ length c.latches)) (sym adds.behind)
        (All-append (λ (valuation : List Bool). length valuation ≡ length c.latches) old adds.more is.known adds.long);
    states_are = λ number d within. elim (cases_lt number (length states)) [
      | inl before ↦ subst (IsWrittenState c new number) (sym (get_or_append_left states (state ∷ []) d number before))
          (state_kept number (get_or states number d) (omega (arith, before, low)) (is.states_are number d before))
      | inr reached ↦ (let e = length-append states (state ∷ []) in
          let last : length states ≡ number = omega (arith, reached, within, e) in
          subst (λ (n : ℕ). IsWrittenState c new n (get_or (states ++ state ∷ []) n d)) last (subst (IsWrittenState c new (length states)) (sym (last_at states state d)) added))
    ];
  }

-- the valuations of the states from one to another
module _ (all : List (List Bool)) (first last lane : ℕ) (within : last ≤ length all) (low : first + lane < last) where
  short : lane < last - first
  short = omega (arith, low)

  pub lane_within : lane < length (take (last - first) (drop first all))
  lane_within = omega (arith, low, within, length-take (last - first) (drop first all), length-drop first all)

  pub lane_valuation : valuation_at (take (last - first) (drop first all)) lane ≡ valuation_at all (first + lane)
  lane_valuation = get_or-take (last - first) (drop first all) lane [] short ∙ get_or-drop first all lane []
