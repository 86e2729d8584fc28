-- The circuit of a text is one, so its sizes are.
use Rattle.std.proofs.Common.{ap, sym, ◌∙◌}
use Rattle.omega_answers_circuit.specs.Show.{sizes_line}
use Rattle.omega_answers_circuit.specs.ShowJson.{sizes_object}
use Rattle.omega_answers_circuit.proofs.laws.circuit_answers_are_one.Goals as goal

pub returns : goal.returns
returns c =
    let once = c.circuits_of_texts_are_one.ensures in
    let apart = c.circuits_are_not_refused.ensures in
    record {
      check = λ text output other one two. one.holds ∙ sym two.holds;
      show = λ text output other one two.
          one.holds ∙ ap sizes_line (once text one.circuit two.circuit one.read two.read) ∙ sym two.holds;
      json = λ text output other one two.
          one.holds ∙ ap sizes_object (once text one.circuit two.circuit one.read two.read) ∙ sym two.holds;
      apart = λ text output refusal one refused. apart text one.circuit refusal one.read refused;
    }
