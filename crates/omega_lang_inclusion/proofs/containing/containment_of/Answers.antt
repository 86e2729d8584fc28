-- no common word, or words of the complement
use Rattle.std.proofs.Common.{subst}
use Rattle.omega_lang_intersection.specs.Intersection.{IsIntersection}
use Rattle.omega_lang_inclusion.proofs.Complementing.{common_outside, none_contained}
use Rattle.omega_lang_inclusion.proofs.containing.containment_of.Goals as goal

pub returns-in-Empty : goal.returns-in-Empty
returns-in-Empty c one other rest k is =
    none_contained one other rest k (subst (IsIntersection one rest) c.in-Empty.is is)

pub returns-in-Common : goal.returns-in-Common
returns-in-Common c one other rest k is =
    common_outside one other rest k c.in-Common.example (subst (IsIntersection one rest) c.in-Common.is is)
