-- the halves of a cube, or its edge
use Rattle.std.proofs.Common.{◌<◌, ◌+◌, ◌++◌, ◌∷◌, [], List, Bool, length, sym, subst, arith}
use Rattle.std.specs.Prelude.{sum_by}
use Rattle.omega_hoa_syntax.specs.declared.raw_edge.RawEdge.{RawEdge}
use Rattle.omega_circuit_automaton.specs.declared.ternary.Ternary.{Ternary}
use Rattle.omega_circuit_automaton.specs.private.Cuts.{AreEnds, IsOutcome, weight}
use Rattle.omega_circuit_automaton.specs.private.Written.{IsEdgeWith, IsSplitting}
use Rattle.omega_circuit_automaton.proofs.Cubes.{weight_some}
use Rattle.omega_circuit_automaton.proofs.Growing.{edge_more, halves_lighter, halves_more, splitting_kept}
use Rattle.omega_circuit_automaton.proofs.splitting.Splitting.step.Goals as goal

pub returns-in_ok-push_halves-in-Split-clause-splitting : goal.returns-in_ok-push_halves-in-Split-clause-splitting
returns-in_ok-push_halves-in-Split-clause-splitting c =
    let outcome = subst (λ (cube : List Ternary). IsOutcome c.args.circuit.now c.args.latches.now cube c.in_ok-input.field-0) c.as_slice.ensures c.in_ok-input.ensures in
    let split = subst (IsOutcome c.args.circuit.now c.args.latches.now c.args.cube) c.in-Split.is outcome in
    subst (λ (pending : List (List Ternary)). IsSplitting c.args.circuit.now c.args.exploration.now.valuations.all.items c.args.latches.now pending c.args.self.now.edges)
    (sym c.in_ok-push_halves-in-Split.ensures)
    (halves_more c.args.circuit.now c.args.exploration.now.valuations.all.items c.args.latches.now c.args.self.now.pending.items c.args.cube c.args.self.now.edges c.in-Split.input
    c.requires.splitting split.0 split.1)

pub returns-in_ok-push_halves-in-Split-clause-lighter : goal.returns-in_ok-push_halves-in-Split-clause-lighter
returns-in_ok-push_halves-in-Split-clause-lighter c =
    let outcome = subst (λ (cube : List Ternary). IsOutcome c.args.circuit.now c.args.latches.now cube c.in_ok-input.field-0) c.as_slice.ensures c.in_ok-input.ensures in
    let split = subst (IsOutcome c.args.circuit.now c.args.latches.now c.args.cube) c.in-Split.is outcome in
    subst (λ (pending : List (List Ternary)). sum_by weight pending < sum_by weight c.args.self.now.pending.items + weight c.args.cube) (sym c.in_ok-push_halves-in-Split.ensures)
    (halves_lighter c.args.self.now.pending.items c.args.cube c.in-Split.input split.0 split.1)

pub returns-in_ok-push-in-Ends-clause-splitting : goal.returns-in_ok-push-in-Ends-clause-splitting
returns-in_ok-push-in-Ends-clause-splitting c =
    let circuit = c.args.circuit.now in
    let cube : List Ternary = c.args.cube in
    let old : List (List Bool) = c.args.exploration.now.valuations.all.items in
    let new : List (List Bool) = c.edge_of.new.exploration.valuations.all.items in
    let outcome = subst (λ (x : List Ternary). IsOutcome circuit c.args.latches.now x c.in_ok-input.field-0) c.as_slice.ensures c.in_ok-input.ensures in
    let ends : AreEnds circuit c.args.latches.now cube c.in-Ends.ends.outputs.items c.in-Ends.ends.nexts.items =
    subst (IsOutcome circuit c.args.latches.now cube) c.in-Ends.is outcome in
    let edge : RawEdge = c.in_ok-edge-in-Ends.edge in
    let with_these : IsEdgeWith cube c.in-Ends.ends.outputs.items c.in-Ends.ends.nexts.items new edge =
    subst (λ (x : List Ternary). IsEdgeWith x c.in-Ends.ends.outputs.items c.in-Ends.ends.nexts.items new edge) c.as_slice-in-Ends.ensures c.in_ok-edge-in-Ends.ensures.edge in
    let kept : IsSplitting circuit new c.args.latches.now (c.args.self.now.pending.items ++ cube ∷ []) c.args.self.now.edges =
    splitting_kept circuit (length c.in-Ends.ends.nexts.items) old new c.in_ok-edge-in-Ends.ensures.adds c.args.latches.now (c.args.self.now.pending.items ++ cube ∷ []) c.args.self.now.edges
    c.requires.splitting in
    subst (λ (edges : List RawEdge). IsSplitting circuit new c.args.latches.now c.args.self.now.pending.items edges) (sym c.in_ok-push-in-Ends.ensures.ok)
    (edge_more circuit new c.args.latches.now c.args.self.now.pending.items cube c.in-Ends.ends.outputs.items c.in-Ends.ends.nexts.items c.args.self.now.edges edge kept ends with_these)

pub returns-in_ok-push-in-Ends-clause-lighter : goal.returns-in_ok-push-in-Ends-clause-lighter
returns-in_ok-push-in-Ends-clause-lighter c = omega (arith, weight_some c.args.cube)
