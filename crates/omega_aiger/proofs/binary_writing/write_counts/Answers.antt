-- The counts, one after the other.
use Rattle.std.proofs.Common.{◌≡◌, ◌+◌, ◌∷◌, ◌++◌, ℕ, List, [], length, ap, ◌∙◌, arith}
use Rattle.std.specs.Prelude.{codes}
use Rattle.omega_aiger.specs.Written.{count_text}
use Rattle.omega_circuit.specs.declared.gate.Gate.{Gate}
use Rattle.omega_circuit.specs.declared.latch.Latch.{Latch}
use Rattle.omega_aiger.proofs.BinaryWritten.{five_pieces}
use Rattle.omega_aiger.proofs.Greatest.{append_on}
use Rattle.omega_aiger.proofs.binary_writing.write_counts.Goals as goal

pub returns-clause-ok : goal.returns-clause-ok
returns-clause-ok c =
    let circuit = c.args.circuit.now in
    let inputs : List ℕ = count_text (length circuit.inputs) in
    let latches : List ℕ = count_text (length circuit.latches) in
    let outputs : List ℕ = count_text (length circuit.outputs) in
    let gates : List ℕ = count_text (length circuit.gates) in
    let i = ap (λ (xs : List ℕ). length xs) c.inputs.ensures in
    let l = ap (λ (xs : List Latch). length xs) c.latches.ensures in
    let g = ap (λ (xs : List Gate). length xs) c.gates.ensures in
    let all : length c.inputs.result.now + length c.latches.result.now + length c.gates.result.now ≡ length circuit.inputs + length circuit.latches + length circuit.gates = omega (arith, i, l, g) in
    five_pieces c.write_count.new.out.items c.write_count-2.new.out.items c.write_count-3.new.out.items c.write_count-4.new.out.items c.write_count-5.new.out.items c.push.new.self.items
    inputs latches outputs gates (10 ∷ [])
    (c.in_ok-write_count-2.ensures.ok ∙ ap (λ n. c.write_count.new.out.items ++ count_text n) i)
    (c.in_ok-write_count-3.ensures.ok ∙ ap (λ n. c.write_count-2.new.out.items ++ count_text n) l)
    (c.in_ok-write_count-4.ensures.ok ∙ ap (λ (xs : List ℕ). c.write_count-3.new.out.items ++ count_text (length xs)) c.outputs.ensures)
    (c.in_ok-write_count-5.ensures.ok ∙ ap (λ n. c.write_count-4.new.out.items ++ count_text n) g)
    c.in_ok-push.ensures.items
    ∙ append_on c.extend_from_slice.new.self.items c.write_count.new.out.items (count_text (length circuit.inputs + length circuit.latches + length circuit.gates)) (inputs ++ (latches ++ (outputs ++ (gates ++ 10 ∷ []))))
    (c.in_ok-write_count.ensures.ok ∙ ap (λ n. c.extend_from_slice.new.self.items ++ count_text n) all)
    ∙ append_on c.args.out.now.items c.extend_from_slice.new.self.items (codes "aig") (count_text (length circuit.inputs + length circuit.latches + length circuit.gates) ++ (inputs ++ (latches ++ (outputs ++ (gates ++ 10 ∷ [])))))
    c.in_ok-extend_from_slice.ensures.items
