-- One count more, of the number that is sought by then.
use Rattle.std.proofs.Common.{◌≡◌, get_or, sym, ap, ◌∙◌}
use Rattle.omega_measure.specs.private.layout.Falling.{count_from}
use Rattle.omega_measure.proofs.Shapes.{count_more}
use Rattle.omega_measure.proofs.kept.kept_of.Goals as goal
use Rattle.omega_measure.proofs.kept.kept_of.Goals.{then-priority-sought, else-priority-sought}

pub loop-priority-preserved : goal.loop-priority-preserved
loop-priority-preserved c =
    let here : c.if-priority-sought.sought ≡ get_or c.args.priorities.now c.loop-priority.priority-index 0 =
    elim c.if-priority-sought.branch [
      | then-priority-sought w ↦ w.sought-is
      | else-priority-sought w ↦ w.sought-is ∙ sym w.if-priority-sought.false
    ] in
    let is : c.if-priority-sought.count ≡ count_from c.if-priority-sought.sought c.args.losing.now =
    elim c.if-priority-sought.branch [
      | then-priority-sought w ↦ w.count-is ∙ w.count_from-count-then-priority-sought.ensures ∙ ap (λ p. count_from p c.args.losing.now) (sym w.sought-is)
      | else-priority-sought w ↦ w.count-is ∙ c.loop-priority.invariant.sought ∙ ap (λ p. count_from p c.args.losing.now) (sym w.sought-is)
    ] in record {
      kept = count_more c.args.losing.now c.args.priorities.now c.loop-priority.kept.items c.push.new.self.items c.loop-priority.priority-index
          c.if-priority-sought.sought c.if-priority-sought.count c.loop-priority-test.true c.loop-priority.invariant.kept here is c.in_ok-push.ensures.items;
      sought = is;
    }
