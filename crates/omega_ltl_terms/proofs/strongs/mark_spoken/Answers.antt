-- one demand, two, or four
use Rattle.std.proofs.Common.{refl, sym, subst, arith}
use Rattle.std.specs.Prelude.{Contains}
use Rattle.omega_ltl_shapes.specs.declared.combination.Combination.{Combination}
use Rattle.omega_ltl_terms.specs.Needed.{spoken}
use Rattle.omega_ltl_terms.proofs.strongs.mark_spoken.Goals as goal

pub mark-requires : goal.mark-requires
mark-requires c = c.requires c.in-Same.d (subst (λ (x : Combination). Contains (spoken x) c.in-Same.d) (sym c.in-Same.is) (0, omega arith, refl))

pub mark_all-requires : goal.mark_all-requires
mark_all-requires c d h = c.requires d (subst (λ (x : Combination). Contains (spoken x) d) (sym c.in-Both.is) h)

pub mark_all-requires-in-Either : goal.mark_all-requires-in-Either
mark_all-requires-in-Either c d h = c.requires d (subst (λ (x : Combination). Contains (spoken x) d) (sym c.in-Either.is) h)

pub mark_all-requires-in-Cases : goal.mark_all-requires-in-Cases
mark_all-requires-in-Cases c d h = c.requires d (subst (λ (x : Combination). Contains (spoken x) d) (sym c.in-Cases.is) h)
