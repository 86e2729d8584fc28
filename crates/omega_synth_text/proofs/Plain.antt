-- Automata without branches: starts are one state each, and edges lead to one state each.
use Rattle.std.proofs.Common.{◌≡◌, ℕ, zero, suc, ◌<◌, ◌≤◌, false, ltb, List, [], ◌∷◌, length, get_or, All, refl, sym, arith}
use Rattle.std.specs.List.{list_any}
use Rattle.std.proofs.lemmas.Bool.{ltb-false, or_parts}
use Rattle.std.proofs.lemmas.List.Elements.{All-head}
use Rattle.omega_hoa_automaton.specs.Automaton.{AreBelow, AreTargets, Description, IsAutomaton, IsState}
use Rattle.omega_hoa_automaton.specs.Branching.{has_universal_branching, state_branches}
use Rattle.omega_hoa_automaton.specs.declared.edge.Edge.{Edge}
use Rattle.omega_hoa_automaton.specs.declared.state.State.{State}
use Rattle.omega_lang_runs.proofs.SingleTargets.{none_passes, single_target}
use Rattle.omega_synth_text.specs.private.Parts.{IsOneStart, IsPlainState, LeadsToOne}

-- a list of at least one and not two
one_start : (states : ℕ) (start : List ℕ) → 0 < length start → length start ≤ 1 → AreBelow states start → IsOneStart states start
one_start states [] some single below = absurd (omega arith)
one_start states (s ∷ []) some single below = record { state = s; alone = refl; below = All-head (λ number. number < states) s [] below }
one_start states (s ∷ t ∷ others) some single below = absurd (omega arith)

-- starts are one state each
pub starts_are_one : (a : Description) → IsAutomaton a → has_universal_branching a ≡ false → All (IsOneStart a.states) a.starts
starts_are_one a automaton plain k d below =
    let start : List ℕ = get_or a.starts k d in
    let targets : AreTargets a start = automaton.starts k d below in
    let none : list_any (λ (s : List ℕ). ltb 1 (length s)) a.starts ≡ false =
    (or_parts (list_any (λ (s : List ℕ). ltb 1 (length s)) a.starts) (list_any state_branches a.defined) plain).0 in
    one_start a.states start targets.listed
    (ltb-false 1 (length start) (none_passes (λ (s : List ℕ). ltb 1 (length s)) a.starts k start none below (get_same a.starts k d start refl below)))
    targets.below
  where
    get_same : {X : Type 0} (xs : List X) (k : ℕ) (d x : X) → x ≡ get_or xs k d → k < length xs → x ≡ get_or xs k x
    get_same [] k d x here below = absurd (omega arith)
    get_same (y ∷ ys) zero d x here below = here
    get_same (y ∷ ys) (suc k) d x here below = get_same ys k d x here (omega arith)

-- states have numbers below the count, and their edges lead to one state each
pub states_are_plain : (a : Description) → IsAutomaton a → has_universal_branching a ≡ false → All (IsPlainState a.states) a.defined
states_are_plain a automaton plain k d below =
    let state : State = get_or a.defined k d in
    let kept : IsState a state = automaton.states k d below in
    let here : state ≡ get_or a.defined k state = get_same a.defined k d state refl below in
    record {
      below = kept.number;
      edges = λ i e within.
          let edge : Edge = get_or state.edges i e in
          let targets : AreTargets a edge.targets = (kept.edges i e within).targets in
          let at : edge ≡ get_or state.edges i edge = get_same state.edges i e edge refl within in
          leads a.states edge edge.targets refl targets.listed (single_target a plain k state edge below here (i, within, sym at)) targets.below;
    }
  where
    get_same : {X : Type 0} (xs : List X) (k : ℕ) (d x : X) → x ≡ get_or xs k d → k < length xs → x ≡ get_or xs k x
    get_same [] k d x here below = absurd (omega arith)
    get_same (y ∷ ys) zero d x here below = here
    get_same (y ∷ ys) (suc k) d x here below = get_same ys k d x here (omega arith)

    leads : (states : ℕ) (edge : Edge) (targets : List ℕ) → edge.targets ≡ targets → 0 < length targets → length targets ≤ 1
        → AreBelow states targets → LeadsToOne states edge
    leads states edge [] is some single below = absurd (omega arith)
    leads states edge (t ∷ []) is some single below = record { target = t; enters = is; below = All-head (λ number. number < states) t [] below }
    leads states edge (t ∷ u ∷ others) is some single below = absurd (omega arith)
