-- the names of each side are few, and the circuit has them
use Rattle.std.proofs.Common.{◌++◌, ◌∙◌, ℕ, List, Bool, true, false, length, ap, ap₂, sym, arith}
use Rattle.omega_circuit.specs.Circuit.{CircuitValue}
use Rattle.omega_circuit.specs.declared.symbol.SymbolKind.TheVariants.{Input, Output}
use Rattle.omega_circuit_encoder.specs.Names.{names_of, symbols_from}
use Rattle.omega_circuit_encoder.proofs.Ranges.{names_short}
use Rattle.omega_circuit_encoder.proofs.encoder.judged_circuit.Goals as goal

pub symbols_of-requires-clause-inputs : goal.symbols_of-requires-clause-inputs
symbols_of-requires-clause-inputs c =
    let few = c.keeps_limits.ensures.few_propositions in
    let short = names_short false c.propositions-names.result.now c.args.controlled.now in
    let same = ap length (c.as_slice.ensures.value ∙ c.in_ok-inputs.ensures) in
    let all = ap length c.propositions-names.ensures in
    omega (arith, few, short, same, all)

pub symbols_of-requires-clause-outputs : goal.symbols_of-requires-clause-outputs
symbols_of-requires-clause-outputs c =
    let few = c.keeps_limits.ensures.few_propositions in
    let short = names_short true c.propositions-names.result.now c.args.controlled.now in
    let same = ap length (c.as_slice-2.ensures.value ∙ c.in_ok-outputs.ensures) in
    let all = ap length c.propositions-names.ensures in
    omega (arith, few, short, same, all)

pub returns-clause-names : goal.returns-clause-names
returns-clause-names c =
    let side : Bool → List (List ℕ) → List (List ℕ) =
    λ system names. names_of system names c.args.controlled.now in
    let inputs = c.as_slice.ensures.value ∙ (c.in_ok-inputs.ensures ∙ ap (side false) c.propositions-names.ensures) in
    let outputs = c.as_slice-2.ensures.value ∙ (c.in_ok-outputs.ensures ∙ ap (side true) c.propositions-names.ensures) in
    let sides = c.has_sides.ensures c.if-not-has_sides.false in
    record {
      inputs = sides.0 ∙ (c.len.ensures ∙ (sym c.as_slice.ensures.len ∙ ap length inputs));
      outputs = sides.1 ∙ (c.len-2.ensures ∙ (sym c.as_slice-2.ensures.len ∙ ap length outputs));
      symbols = ap (λ (d : CircuitValue). d.symbols) c.in_ok-circuit.ensures.ok.same
          ∙ (c.in_ok-parts.ensures
          ∙ (c.in_ok-symbols.ensures
          ∙ ap₂ (λ (ins outs : List (List ℕ)). symbols_from Input 0 ins ++ symbols_from Output 0 outs)
          inputs outputs));
    }
