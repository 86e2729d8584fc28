-- The values at the outputs.
use Rattle.std.proofs.Common.{◌≡◌, ℕ, Bool, List, Vec, map, ap, ◌∙◌, subst}
use Rattle.std.specs.Global.{Global}
use Rattle.omega_circuit.specs.Circuit.{CircuitValue, defined_variables}
use Rattle.omega_circuit.specs.Rounds.{AreOutputs, literal_value}
use Rattle.omega_circuit.specs.private.Orders.{flag_at}
use Rattle.omega_circuit.specs.private.Steps.{circuit_with}
use Rattle.omega_circuit.proofs.Reading.{ok_weaker, read_alike}
use Rattle.omega_circuit.proofs.circuit.Circuit.output_values.Goals as goal

pub returns : goal.returns
returns c =
    let inside = c.self.inside in
    let v : CircuitValue = circuit_with inside.inputs inside.latches inside.outputs inside.gates inside.symbols in
    let values = c.args.values.now in
    let at : ℕ → Bool = λ number. literal_value (flag_at values) number in
    ok_weaker c.values_at.result (λ (found : Vec Bool Global). found.items ≡ map at c.as_slice.result.now)
    (λ (found : Vec Bool Global). AreOutputs c.args.self.now values found.items)
    (λ found is. subst (λ (x : CircuitValue). AreOutputs x values found.items) c.self.view_is
    (λ held same. is ∙ ap (λ (numbers : List ℕ). map at numbers) c.as_slice.ensures.value
    ∙ read_alike (defined_variables v) v.outputs inside.wires.reads.outputs.items c.self.invariant.2.outputs held values same))
    c.values_at.ensures
