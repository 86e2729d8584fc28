-- the parts of each shape that has some
use Rattle.std.proofs.Common.{sym, subst}
use Rattle.std.specs.Prelude.{Contains}
use Rattle.omega_ltl_shapes.specs.declared.shape.Shape.{Shape}
use Rattle.omega_ltl_terms.specs.Closing.{parts_of}
use Rattle.omega_ltl_terms.proofs.closing.mark_parts_of.Goals as goal

pub mark_combination-requires : goal.mark_combination-requires
mark_combination-requires c d h = c.requires d (subst (λ (s : Shape). Contains (parts_of s) d) (sym c.in-Now.is) h)

pub mark_kept-requires : goal.mark_kept-requires
mark_kept-requires c d h = c.requires d (subst (λ (s : Shape). Contains (parts_of s) d) (sym c.in-Fix.is) h)
