-- both tests pass
use Rattle.std.proofs.Common.{sym, ◌∙◌}
use Rattle.std.proofs.lemmas.Bool.{false≢true}
use Rattle.omega_answers_circuit.proofs.SidesTold.{inputs_sided, outputs_sided, sided}
use Rattle.omega_answers_circuit.proofs.sides.are_sided.Goals as goal

pub returns-then-are_apart : goal.returns-then-are_apart
returns-then-are_apart c = (
  λ yes.
      sided c.args.names.now c.args.system.now c.args.inputs.now c.args.outputs.now (sym c.are_apart.ensures ∙ c.if-are_apart.true)
      (sym c.are_within.ensures ∙ yes),
  λ are. c.are_within.ensures ∙ outputs_sided c.args.names.now c.args.system.now c.args.inputs.now c.args.outputs.now are,
)

pub returns-else-are_apart : goal.returns-else-are_apart
returns-else-are_apart c = (
  λ yes. absurd (false≢true (sym c.if-are_apart.false ∙ yes)),
  λ are. absurd (false≢true (sym c.if-are_apart.false ∙ (c.are_apart.ensures ∙ inputs_sided c.args.names.now c.args.system.now c.args.inputs.now c.args.outputs.now are))),
)
