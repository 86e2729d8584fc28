-- The values at the next literals.
use Rattle.std.proofs.Common.{◌≡◌, ℕ, Bool, List, Vec, map, ap, ◌∙◌, subst}
use Rattle.std.specs.Global.{Global}
use Rattle.omega_circuit.specs.Circuit.{CircuitValue, defined_variables}
use Rattle.omega_circuit.specs.Rounds.{AreNextLatches, literal_value}
use Rattle.omega_circuit.specs.private.Numbers.{next_literals}
use Rattle.omega_circuit.specs.private.Orders.{flag_at}
use Rattle.omega_circuit.specs.private.Steps.{circuit_with}
use Rattle.omega_circuit.proofs.Reading.{nexts_alike, ok_weaker, read_alike}
use Rattle.omega_circuit.proofs.circuit.Circuit.next_latches.Goals as goal

pub returns : goal.returns
returns c =
    let inside = c.self.inside in
    let v : CircuitValue = circuit_with inside.inputs inside.latches inside.outputs inside.gates inside.symbols in
    let values = c.args.values.now in
    let at : ℕ → Bool = λ number. literal_value (flag_at values) number in
    ok_weaker c.values_at.result (λ (found : Vec Bool Global). found.items ≡ map at c.as_slice.result.now)
    (λ (found : Vec Bool Global). AreNextLatches c.args.self.now values found.items)
    (λ found is. subst (λ (x : CircuitValue). AreNextLatches x values found.items) c.self.view_is
    (λ held same. is ∙ ap (λ (numbers : List ℕ). map at numbers) c.as_slice.ensures.value
    ∙ read_alike (defined_variables v) (next_literals v.latches) inside.wires.reads.nexts.items c.self.invariant.2.nexts held values same
    ∙ nexts_alike held v.latches))
    c.values_at.ensures
