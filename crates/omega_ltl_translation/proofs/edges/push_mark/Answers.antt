-- an edge is late in the set, or it is put
use Rattle.std.proofs.Common.{sym, subst, ◌∙◌}
use Rattle.omega_ltl_translation.specs.private.Written.{AddsMark}
use Rattle.omega_ltl_translation.proofs.WrittenLemmas.{mark_late, mark_put}
use Rattle.omega_ltl_translation.proofs.edges.push_mark.Goals as goal

pub returns-then-has_bit-clause-ok : goal.returns-then-has_bit-clause-ok
returns-then-has_bit-clause-ok c = mark_late c.args.late c.args.set c.args.marks.now (sym c.has_bit.ensures ∙ c.if-has_bit.true)

pub returns-clause-ok : goal.returns-clause-ok
returns-clause-ok c = subst (AddsMark c.args.late c.args.set c.args.marks.now) (sym c.in_ok-push.ensures.ok)
    (mark_put c.args.late c.args.set c.args.marks.now (sym c.has_bit.ensures ∙ c.if-has_bit.false))
