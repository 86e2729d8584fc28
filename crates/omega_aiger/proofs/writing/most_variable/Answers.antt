-- The count of definitions, and the greatest literal.
use Rattle.std.proofs.Common.{◌≡◌, ◌+◌, ◌/◌, ℕ, List, length, map, max, ap, ap₂, ◌∙◌, arith}
use Rattle.omega_aiger.specs.Written.{greatest, greatest_literal}
use Rattle.omega_circuit.specs.declared.gate.Gate.{Gate}
use Rattle.omega_circuit.specs.declared.latch.Latch.{Latch}
use Rattle.omega_aiger.proofs.writing.most_variable.Goals as goal

pub returns : goal.returns
returns c =
    let counts : length c.inputs.result.now + length c.latches.result.now + length c.gates.result.now ≡ length c.args.circuit.now.inputs + length c.args.circuit.now.latches + length c.args.circuit.now.gates =
    let a = ap (λ (xs : List ℕ). length xs) c.inputs.ensures in let b = ap (λ (xs : List Latch). length xs) c.latches.ensures in let d = ap (λ (xs : List Gate). length xs) c.gates.ensures in omega (arith, a, b, d) in
    let literal : c.max-literal.result ≡ greatest_literal c.args.circuit.now =
    c.max-literal.ensures ∙ ap₂ (λ (a b : ℕ). max a b) (c.greatest.ensures ∙ ap greatest c.inputs-2.ensures)
    (c.max.ensures ∙ ap₂ (λ (a b : ℕ). max a b) (c.greatest_latch.ensures ∙ ap (λ (xs : List Latch). greatest (map (λ (latch : Latch). latch.literal) xs)) c.latches-2.ensures)
    (c.greatest_gate.ensures ∙ ap (λ (xs : List Gate). greatest (map (λ (gate : Gate). gate.literal) xs)) c.gates-2.ensures)) in
    c.max-2.ensures ∙ ap₂ (λ (a b : ℕ). max a b) counts (ap (λ l. l / 2) literal)
