-- `answers_for_items`: for the items before this one the formulas are answered.
use Rattle.std.proofs.Common.{take}
use Rattle.omega_answers_formula.specs.SatisfiesStream.{IsEachAnswered}
use Rattle.omega_answers_formula.proofs.satisfies_stream.answers_for_items.Given as goal

abbrev pub invariant-loop-item : goal.invariant-loop-item
invariant-loop-item l =
    IsEachAnswered l.explain l.formulas (take l.item-index l.items) l.exit l.text.items
