-- The steps are within the values, and make those of the round.
use Rattle.std.proofs.Common.{◌≡◌, ℕ, false, List, ◌∷◌, ◌++◌, length, sym, ap, ◌∙◌, subst}
use Rattle.std.specs.Prelude.{replicate}
use Rattle.omega_circuit.specs.Circuit.{CircuitValue}
use Rattle.omega_circuit.specs.Rounds.{AreValues}
use Rattle.omega_circuit.specs.private.Steps.{AreWithin, circuit_with, evaluated}
use Rattle.omega_circuit.specs.declared.gate.Gate.{Gate}
use Rattle.omega_circuit.proofs.Evaluating.{begun_long, evaluated_are, steps_within}
use Rattle.omega_circuit.proofs.circuit.Circuit.round_of.Goals as goal

pub values_after-requires : goal.values_after-requires
values_after-requires c =
    let inside = c.self.inside in
    let v : CircuitValue = circuit_with inside.inputs inside.latches inside.outputs inside.gates inside.symbols in
    let all_inputs : length c.args.inputs.now ≡ length v.inputs = c.requires.inputs ∙ ap (λ (x : CircuitValue). length x.inputs) (sym c.self.view_is) in
    let all_latches : length c.args.latches.now ≡ length v.latches = c.requires.latches ∙ ap (λ (x : CircuitValue). length x.latches) (sym c.self.view_is) in
    let begun : c.in_ok-values.values.items ≡ false ∷ (c.args.inputs.now ++ (c.args.latches.now ++ replicate (length v.gates) false)) =
    c.in_ok-values.ensures ∙ ap (λ (n : ℕ). false ∷ (c.args.inputs.now ++ (c.args.latches.now ++ replicate n false)))
    (ap (λ (gates : List Gate). length gates) c.gates.ensures ∙ ap (λ (x : CircuitValue). length x.gates) (sym c.self.view_is)) in
    subst (λ (steps : List Gate). AreWithin (length c.in_ok-values.values.items) steps) (sym c.as_slice.ensures.value)
    (steps_within v inside.wires.gates.items c.self.invariant.1 (length c.in_ok-values.values.items)
    (begun_long v c.self.invariant.0 inside.wires.gates.items c.self.invariant.1 c.args.inputs.now c.args.latches.now all_inputs all_latches c.in_ok-values.values.items begun))

pub returns : goal.returns
returns c =
    let inside = c.self.inside in
    let v : CircuitValue = circuit_with inside.inputs inside.latches inside.outputs inside.gates inside.symbols in
    let all_inputs : length c.args.inputs.now ≡ length v.inputs = c.requires.inputs ∙ ap (λ (x : CircuitValue). length x.inputs) (sym c.self.view_is) in
    let all_latches : length c.args.latches.now ≡ length v.latches = c.requires.latches ∙ ap (λ (x : CircuitValue). length x.latches) (sym c.self.view_is) in
    let begun : c.in_ok-values.values.items ≡ false ∷ (c.args.inputs.now ++ (c.args.latches.now ++ replicate (length v.gates) false)) =
    c.in_ok-values.ensures ∙ ap (λ (n : ℕ). false ∷ (c.args.inputs.now ++ (c.args.latches.now ++ replicate n false)))
    (ap (λ (gates : List Gate). length gates) c.gates.ensures ∙ ap (λ (x : CircuitValue). length x.gates) (sym c.self.view_is)) in
    subst (λ (x : CircuitValue). AreValues x c.args.inputs.now c.args.latches.now c.values_after.result.items) c.self.view_is
    (evaluated_are v c.self.invariant.0 inside.wires.gates.items c.self.invariant.1 c.args.inputs.now c.args.latches.now all_inputs all_latches
    c.in_ok-values.values.items c.values_after.result.items begun
    (c.values_after.ensures ∙ ap (λ (steps : List Gate). evaluated steps c.in_ok-values.values.items) c.as_slice.ensures.value))
