-- The specifications of the table have no fault, so that only want of memory refuses its game.
use Rattle.std.proofs.Common.{◌≡◌, ◌+◌, ◌*◌, ◌≤◌, Bool, false, ltb, List, length, All, Result, Ok, Err, sym, ap, refl, ◌∙◌, subst, arith}
use Rattle.std.specs.Prelude.{IfErr, IsOkUnless, None, Contains}
use Rattle.std.proofs.lemmas.Bool.{le-ltb}
use Rattle.std.proofs.lemmas.List.Elements.{All-contains_itself, All-weaker}
use Rattle.omega_text.specs.declared.refusal.Refusal.{Refusal}
use Rattle.omega_text.specs.declared.refusal.Refusal.TheVariants.{Memory}
use Rattle.omega_hoa_acceptance.specs.declared.kind.AccKind.{AccKind}
use Rattle.omega_hoa_automaton.specs.Automaton.{AreBelow, BodyEdge, Description, IsAutomaton, IsEdge, IsState, edges_of}
use Rattle.omega_hoa_automaton.specs.declared.edge.Edge.{Edge}
use Rattle.omega_hoa_automaton.specs.declared.state.State.{State}
use Rattle.omega_game_values.proofs.building.Duplicates.{no_duplicate}
use Rattle.omega_game_values.proofs.building.Refusals.{memory_alone}
use Rattle.omega_game_values.specs.Building.{IsBuildRefusal, game_fault_of, has_duplicate, has_undefined, listed_successors}
use Rattle.omega_game_values.specs.Game.{Node}
use Rattle.omega_game_values.specs.Limits.{most_nodes, most_successors}
use Rattle.omega_game_values.specs.declared.node_spec.NodeSpec.{NodeSpec}
use Rattle.omega_empty.specs.Counters.{counters}
use Rattle.omega_hoa_automaton.specs.Branching.{has_universal_branching}
use Rattle.omega_empty.specs.EmptinessGame.{span, table}
use Rattle.omega_lang_runs.proofs.Flat.{IsListed, listed_flat}
use Rattle.omega_empty.proofs.making.Named.{table_defined}
use Rattle.omega_lang_runs.proofs.SingleTargets.{single_target}
use Rattle.omega_empty.proofs.making.Rising.{increasing, rising_length, table_rises}
use Rattle.omega_empty.proofs.making.Sums.{table_listed}

-- an edge of the body is one of the automaton, with one target
body_edge : (a : Description) → IsAutomaton a → has_universal_branching a ≡ false → (edge : BodyEdge) → Contains (edges_of a) edge
    → AreBelow a.states edge.edge.targets × (length edge.edge.targets ≤ 1)
body_edge a automaton plain edge has =
    let from : IsListed a.defined edge = listed_flat a.defined edge has in
    let P : State → Type 0 = λ s. IsState a s in
    let state : IsState a edge.source = subst P (sym from.here) (automaton.states from.place edge.source from.below) in
    let Q : Edge → Type 0 = λ e. IsEdge a e in
    let is_edge : IsEdge a edge.edge = subst Q from.contained.2 (state.edges from.contained.0 edge.edge from.contained.1) in
    (is_edge.targets.below, single_target a plain from.place edge.source edge.edge from.below from.here from.contained)

pub table_faultless : (kind : AccKind) (a : Description) (usable : List Bool) (specs : List NodeSpec) → specs ≡ table kind a usable
    → IsAutomaton a → has_universal_branching a ≡ false → counters kind * span a + 1 ≤ most_nodes → game_fault_of specs ≡ None
table_faultless kind a usable specs is automaton plain fits =
    let all : List NodeSpec = table kind a usable in
    let edges = All-contains_itself (edges_of a) in
    let below : All (λ (e : BodyEdge). AreBelow a.states e.edge.targets) (edges_of a) =
    All-weaker (Contains (edges_of a)) (λ (e : BodyEdge). AreBelow a.states e.edge.targets) (λ e has. (body_edge a automaton plain e has).0) (edges_of a) edges in
    let single : All (λ (e : BodyEdge). length e.edge.targets ≤ 1) (edges_of a) =
    All-weaker (Contains (edges_of a)) (λ (e : BodyEdge). length e.edge.targets ≤ 1) (λ e has. (body_edge a automaton plain e has).1) (edges_of a) edges in
    let duplicate : has_duplicate all ≡ false = no_duplicate all (increasing 0 (counters kind * span a + 1) all (table_rises kind a usable)) in
    let undefined : has_undefined all ≡ false = table_defined kind a usable below in
    let few : ltb most_nodes (length all) ≡ false = le-ltb most_nodes (length all) (omega (arith, rising_length 0 (counters kind * span a + 1) all (table_rises kind a usable))) in
    let short : ltb most_successors (listed_successors all) ≡ false = le-ltb most_successors (listed_successors all) (omega (arith, table_listed kind a usable single)) in
    ap game_fault_of is ∙ rw (duplicate, undefined, few, short) refl

pub memory_refused : (r : Result (List Node) Refusal) (specs : List NodeSpec) → game_fault_of specs ≡ None → IfErr r (IsBuildRefusal specs) → IsOkUnless r Memory
memory_refused (Ok game) specs none refused = tt
memory_refused (Err refusal) specs none refused = memory_alone specs refusal none refused
