-- States and edges of an automaton of a kind: one target each, and marks of the kind.
use Rattle.std.proofs.Common.{◌≡◌, ℕ, zero, suc, ◌+◌, ◌*◌, ◌<◌, ◌≤◌, false, ltb, List, [], ◌∷◌, length, All, get_or, sym, ap, refl, subst, arith, add-one}
use Rattle.std.specs.List.{list_any}
use Rattle.std.proofs.lemmas.Bool.{ltb-false, or_parts}
use Rattle.std.proofs.Math.Nat.{add-mul, one-mul}
use Rattle.omega_hoa_acceptance.specs.Acceptance.{AccTree, acc_depth}
use Rattle.omega_hoa_acceptance.specs.Names.{IsAcceptanceRow}
use Rattle.omega_hoa_acceptance.specs.declared.kind.AccKind.{AccKind}
use Rattle.omega_hoa_acceptance.specs.declared.kind.AccKind.TheVariants as kinds
use Rattle.omega_hoa_acceptance.specs.declared.name.AccName.{AccName}
use Rattle.omega_hoa_automaton.specs.Automaton.{AreBelow, Description, IsAutomaton, IsEdge, IsState}
use Rattle.omega_hoa_automaton.specs.declared.edge.Edge.{Edge}
use Rattle.omega_hoa_automaton.specs.declared.state.State.{State}
use Rattle.omega_game_values.specs.Limits.{most_nodes}
use Rattle.omega_empty.specs.Counters.{counters}
use Rattle.omega_hoa_automaton.specs.AcceptanceKind.{HasKind}
use Rattle.omega_hoa_automaton.specs.Branching.{has_universal_branching, state_branches}
use Rattle.omega_empty.specs.EmptinessGame.{span}
use Rattle.omega_empty.specs.private.layout.Marks.{AreMarksBelow, IsSmall}
use Rattle.omega_empty.specs.private.layout.Ready.{IsPlainState}
use Rattle.omega_lang_runs.proofs.SingleTargets.{none_passes}
use Rattle.omega_empty.proofs.making.MarkLists.{count_shallow}

-- marks of the automaton are marks of its kind
marks_of_kind : (a : Description) (kind : AccKind) (name : AccName) (marks : List ℕ) → IsAcceptanceRow name a.sets a.acceptance kind → AreBelow a.sets marks → AreMarksBelow kind marks
marks_of_kind a (kinds.Parity kind) name marks row below =
    let P : ℕ → Type 0 = λ count. All (λ mark. mark < count) marks in subst P row.counted below
marks_of_kind a (kinds.GenBuchi sets) name marks row below = tt

-- a kind of an automaton is small
pub small_kind : (a : Description) (kind : AccKind) → IsAutomaton a → HasKind a kind → IsSmall kind
small_kind a kind automaton has = go kind has.row
  where
    go : (kind : AccKind) → IsAcceptanceRow has.name a.sets a.acceptance kind → IsSmall kind
    go (kinds.Parity kind) row = omega (arith, automaton.shallow, ap acc_depth row.formula_is, count_shallow kind)
    go (kinds.GenBuchi sets) row = omega (arith, row.limit)

-- so are states and edges
pub plain_state : (a : Description) (kind : AccKind) → IsAutomaton a → HasKind a kind → has_universal_branching a ≡ false
    → (index : ℕ) (state : State) → index < length a.defined → state ≡ get_or a.defined index state → IsPlainState a kind state
plain_state a kind automaton has plain index state below here =
    let P : State → Type 0 = λ s. IsState a s in
    let is_state : IsState a state = subst P (sym here) (automaton.states index state below) in
    let single : state_branches state ≡ false =
    none_passes state_branches a.defined index state (or_parts (list_any (λ (start : List ℕ). ltb 1 (length start)) a.starts) (list_any state_branches a.defined) plain).1 below here in
    record {
      marks = marks_of_kind a kind has.name state.marks has.row is_state.marks.below;
      edges = λ k d k_below.
          let edge : Edge = get_or state.edges k d in
          let is_edge : IsEdge a edge = is_state.edges k d k_below in
          let one : length edge.targets ≤ 1 =
          ltb-false 1 (length edge.targets) (none_passes (λ (e : Edge). ltb 1 (length e.targets)) state.edges k edge single k_below (same_default state.edges k d edge k_below refl)) in
          record {
            one = omega (arith, is_edge.targets.listed);
            below = is_edge.targets.below 0 0 is_edge.targets.listed;
            marks = marks_of_kind a kind has.name edge.marks has.row is_edge.marks.below;
          };
    }
  where
    same_default : (edges : List Edge) (k : ℕ) (d e : Edge) → k < length edges → e ≡ get_or edges k d → e ≡ get_or edges k e
    same_default [] k d e below is = absurd (omega arith)
    same_default (x ∷ xs) zero d e below is = is
    same_default (x ∷ xs) (suc k) d e below is = same_default xs k d e (omega arith) is

-- one counter's identifiers are no more than those of all
le_times : (n s : ℕ) → 0 < n → s ≤ n * s
le_times zero s some = absurd (omega arith)
le_times (suc n) s some =
    omega (arith, ap (λ m. m * s) (add-one n), add-mul n 1 s, one-mul s)

some_counters : (kind : AccKind) (name : AccName) (count : ℕ) (formula : AccTree) → IsAcceptanceRow name count formula kind → 0 < counters kind
some_counters (kinds.Parity kind) name count formula row = omega arith
some_counters (kinds.GenBuchi sets) name count formula row = omega (arith, row.some_sets)

pub few_identifiers : (a : Description) (kind : AccKind) → HasKind a kind → counters kind * span a + 1 ≤ most_nodes → span a + 1 ≤ most_nodes
few_identifiers a kind has fits =
    omega (arith, le_times (counters kind) (span a) (some_counters kind has.name a.sets a.acceptance has.row))
