-- `ask_items`: the items before this one are asked.
use Rattle.std.proofs.Common.{take}
use Rattle.omega_answers_stream.specs.private.steps.Following.{AsksMore}
use Rattle.omega_answers_stream.specs.private.steps.Question.{AreAskedBy}
use Rattle.omega_answers_stream.proofs.asking.ask_items.Given as goal

abbrev pub invariant-loop-place : goal.invariant-loop-place
invariant-loop-place g l =
    AsksMore (AreAskedBy g.Q.ItemQuestion l.question) l.first (take l.place l.items) l.fn.asked l.asked
