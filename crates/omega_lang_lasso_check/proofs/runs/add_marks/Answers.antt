-- one mark more
use Rattle.std.proofs.Common.{◌<◌, length, nat_eq, refl, arith}
use Rattle.indexmap.specs.IndexMap.{get}
use Rattle.omega_lang_lasso_check.proofs.Marking.{runs_taken}
use Rattle.omega_lang_lasso_check.proofs.runs.add_marks.Goals as goal

pub loop-mark-preserved : goal.loop-mark-preserved
loop-mark-preserved c = λ rows begun counted are.
    let below : c.loop-mark.mark-index < length c.args.marks.now = omega arith in
    runs_taken rows begun c.args.marks.now c.loop-mark.mark-index _ c.args.at (get nat_eq c.loop-mark.runs) (get nat_eq c.add_mark.new.runs)
    counted below refl (c.loop-mark.invariant rows begun counted are) c.in_ok-add_mark.ensures.run
