-- Edges of an automaton without branches: each enters one state.
use Rattle.std.proofs.Common.{◌≡◌, ℕ, zero, suc, ◌<◌, ◌≤◌, Bool, false, ltb, List, [], ◌∷◌, length, get_or, Contains, Some, sym, ap, refl, ◌∙◌, arith}
use Rattle.std.specs.List.{list_any}
use Rattle.std.proofs.lemmas.Bool.{ltb-false, or_parts}
use Rattle.std.proofs.lemmas.List.Elements.{All-head}
use Rattle.std.proofs.lemmas.Option.{get_or_from_slice_get, slice_get_within}
use Rattle.omega_hoa_automaton.specs.Automaton.{AreBelow, BodyEdge, Description, IsAutomaton, edge_at, edges_of}
use Rattle.omega_hoa_automaton.specs.Branching.{has_universal_branching, state_branches}
use Rattle.omega_hoa_automaton.specs.declared.edge.Edge.{Edge}
use Rattle.omega_hoa_automaton.specs.declared.state.State.{State}
use Rattle.omega_lang_runs.proofs.Flat.{IsListed, listed_flat}
use Rattle.omega_lang_runs.proofs.Kept.{edge_kept}

-- a test that passes nowhere fails at each place
pub none_passes : {X : Type 0} (test : X → Bool) (xs : List X) (i : ℕ) (x : X) → list_any test xs ≡ false → i < length xs → x ≡ get_or xs i x → test x ≡ false
none_passes test [] i x none below here = absurd (omega arith)
none_passes test (y ∷ ys) zero x none below here = ap test here ∙ (or_parts (test y) (list_any test ys) none).0
none_passes test (y ∷ ys) (suc i) x none below here = none_passes test ys i x (or_parts (test y) (list_any test ys) none).1 (omega arith) here

-- if nothing branches, an edge that a state lists has one target at most
pub single_target : (a : Description) → has_universal_branching a ≡ false → (index : ℕ) (state : State) (edge : Edge) → index < length a.defined → state ≡ get_or a.defined index state
    → Contains state.edges edge → length edge.targets ≤ 1
single_target a plain index state edge below here has =
    let single : state_branches state ≡ false =
    none_passes state_branches a.defined index state (or_parts (list_any (λ (start : List ℕ). ltb 1 (length start)) a.starts) (list_any state_branches a.defined) plain).1 below here in
    ltb-false 1 (length edge.targets) (none_passes (λ (e : Edge). ltb 1 (length e.targets)) state.edges has.0 edge single has.1 (sym has.2))

-- an edge enters one state
pub record EntersOne (states : ℕ) (edge : BodyEdge) : Type 0 where
  pub target : ℕ
  pub below : target < states
  pub enters : edge.edge.targets ≡ target ∷ []

-- at least one and not two
one_alone : (states : ℕ) (edge : BodyEdge) (targets : List ℕ) → edge.edge.targets ≡ targets → 0 < length targets → length targets ≤ 1
    → AreBelow states targets → EntersOne states edge
one_alone states edge [] is some single below = absurd (omega arith)
one_alone states edge (t ∷ []) is some single below = record { target = t; below = All-head (λ number. number < states) t [] below; enters = is }
one_alone states edge (t ∷ u ∷ us) is some single below = absurd (omega arith)

-- each edge enters one state
pub enters_one : (a : Description) → IsAutomaton a → has_universal_branching a ≡ false → (number : ℕ) (edge : BodyEdge) → edge_at a number ≡ Some edge → EntersOne a.states edge
enters_one a automaton none number edge stands =
    let in_body : Contains (edges_of a) edge =
    (number, slice_get_within (edges_of a) number edge stands, get_or_from_slice_get (edges_of a) number edge edge stands) in
    let from : IsListed a.defined edge = listed_flat a.defined edge in_body in
    let single : length edge.edge.targets ≤ 1 = single_target a none from.place edge.source edge.edge from.below from.here from.contained in
    let kept = edge_kept a automaton number edge stands in
    one_alone a.states edge edge.edge.targets refl kept.1.targets.listed single kept.1.targets.below
