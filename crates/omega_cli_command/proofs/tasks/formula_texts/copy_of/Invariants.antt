-- `copy_of`: the texts before this one are copied.
use Rattle.std.proofs.Common.{◌≡◌, map, take}
use Rattle.omega_cli_command.proofs.tasks.formula_texts.copy_of.Given as goal

abbrev pub invariant-loop-text : goal.invariant-loop-text
invariant-loop-text l = l.strings.items ≡ map (λ text. text.now) (take l.text-index l.texts)
