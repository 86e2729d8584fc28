-- what each shape speaks of
use Rattle.std.proofs.Common.{◌≡◌, ◌<◌, length, refl, sym, subst, arith}
use Rattle.std.specs.Prelude.{Contains}
use Rattle.std.proofs.lemmas.List.Elements.{Contains-append_left, Contains-append_right}
use Rattle.omega_ltl_shapes.specs.declared.shape.Shape.{Shape}
use Rattle.omega_ltl_terms.specs.Needed.{operands, spoken}
use Rattle.omega_ltl_terms.specs.private.Marking.{MarksMore}
use Rattle.omega_ltl_terms.proofs.ClosingLemmas.{marks_append}
use Rattle.omega_ltl_terms.proofs.strongs.mark_operands.Goals as goal

pub mark_spoken-requires : goal.mark_spoken-requires
mark_spoken-requires c d h = c.requires d (subst (λ (s : Shape). Contains (operands s) d) (sym c.in-Now.is) h)

pub mark-requires : goal.mark-requires
mark-requires c = c.requires c.in-Next.d (subst (λ (s : Shape). Contains (operands s) c.in-Next.d) (sym c.in-Next.is) (0, omega arith, refl))

pub mark_spoken-requires-in-Fix : goal.mark_spoken-requires-in-Fix
mark_spoken-requires-in-Fix c d h = c.requires d (subst (λ (s : Shape). Contains (operands s) d) (sym c.in-Fix.is)
    (Contains-append_left (spoken c.in-Fix.goal) (spoken c.in-Fix.keep) d h))

pub mark_spoken-requires-in-Fix-2 : goal.mark_spoken-requires-in-Fix-2
mark_spoken-requires-in-Fix-2 c d h =
    let low : d < length c.args.marked.now = c.requires d (subst (λ (s : Shape). Contains (operands s) d) (sym c.in-Fix.is)
    (Contains-append_right (spoken c.in-Fix.goal) (spoken c.in-Fix.keep) d h)) in
    let long : length c.mark_spoken-in-Fix.new.marked ≡ length c.args.marked.now = c.mark_spoken-in-Fix.ensures.long in
    omega arith

pub returns-in-Fix : goal.returns-in-Fix
returns-in-Fix c =
    subst (λ (s : Shape). MarksMore (operands s) c.args.marked.now c.mark_spoken-in-Fix-2.new.marked) (sym c.in-Fix.is)
    (marks_append (spoken c.in-Fix.goal) (spoken c.in-Fix.keep) c.args.marked.now c.mark_spoken-in-Fix.new.marked c.mark_spoken-in-Fix-2.new.marked
    c.mark_spoken-in-Fix.ensures c.mark_spoken-in-Fix-2.ensures)
