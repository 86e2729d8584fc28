-- The members, one after the other.
use Rattle.std.proofs.Common.{◌++◌, ℕ, List, ap, codes, length, ◌∙◌}
use Rattle.omega_answers_circuit.specs.Show.{count_text}
use Rattle.omega_answers_circuit.specs.ShowJson.{sizes_object}
use Rattle.omega_canon.proofs.Lines.{following}
use Rattle.omega_circuit.specs.declared.gate.Gate.{Gate}
use Rattle.omega_circuit.specs.declared.latch.Latch.{Latch}
use Rattle.omega_answers_circuit.proofs.show_json.sizes_object.Goals as goal

pub returns-clause-text : goal.returns-clause-text
returns-clause-text c =
    let circuit = c.args.circuit.now in
    let before : List ℕ = c.new-out.result.items in
    let first : List ℕ = c.append_count.new.out.items in
    let second : List ℕ = c.append_count-2.new.out.items in
    let third : List ℕ = c.append_count-3.new.out.items in
    following before (count_text (codes "{\"inputs\":") (length circuit.inputs)) _
    (c.in_ok-append_count.ensures.text ∙ ap (λ (xs : List ℕ). before ++ count_text (codes "{\"inputs\":") (length xs)) c.inputs.ensures)
    (following first (count_text (codes ",\"latches\":") (length circuit.latches)) _
    (c.in_ok-append_count-2.ensures.text ∙ ap (λ (xs : List Latch). first ++ count_text (codes ",\"latches\":") (length xs)) c.latches.ensures)
    (following second (count_text (codes ",\"outputs\":") (length circuit.outputs)) _
    (c.in_ok-append_count-3.ensures.text ∙ ap (λ (xs : List ℕ). second ++ count_text (codes ",\"outputs\":") (length xs)) c.outputs.ensures)
    (following third (count_text (codes ",\"gates\":") (length circuit.gates)) (codes "}\n")
    (c.in_ok-append_count-4.ensures.text ∙ ap (λ (xs : List Gate). third ++ count_text (codes ",\"gates\":") (length xs)) c.gates.ensures)
    c.in_ok-extend_from_slice.ensures.items)))
    ∙ ap (λ (xs : List ℕ). xs ++ sizes_object circuit) c.new-out.ensures.items
