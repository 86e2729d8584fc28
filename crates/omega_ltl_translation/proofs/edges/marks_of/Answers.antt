-- one set more
use Rattle.std.proofs.Common.{◌≡◌, ℕ, subst, sym, arith}
use Rattle.omega_ltl_translation.specs.private.Written.{AreMarksOf}
use Rattle.omega_ltl_translation.proofs.WrittenLemmas.{marks_more, marks_none}
use Rattle.omega_ltl_translation.proofs.edges.marks_of.Goals as goal

pub loop-set-init : goal.loop-set-init
loop-set-init c = subst (AreMarksOf 0 c.args.late) (sym c.new-marks.ensures) (marks_none c.args.late)

pub loop-set-preserved : goal.loop-set-preserved
loop-set-preserved c = marks_more c.args.late c.loop-set.set c.loop-set.marks c.push_mark.new.marks c.loop-set.invariant c.in_ok-push_mark.ensures.ok

pub returns-clause-marks : goal.returns-clause-marks
returns-clause-marks c =
    let all : c.loop-set.set ≡ c.args.sets = omega arith in
    subst (λ (n : ℕ). AreMarksOf n c.args.late c.loop-set.marks) all c.loop-set.invariant
