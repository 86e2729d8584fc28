-- `counts_along`: the numbers of a falling list, each once, and how often each stands in it.
use Rattle.std.proofs.Common.{◌-◌, get_or, arith, refl, sym, ◌∙◌}
use Rattle.std.proofs.lemmas.Bool.{false≢true}
use Rattle.omega_game_values.proofs.priorities.Tallies.{count_fits, step_again, step_next}
use Rattle.omega_game_values.proofs.priority_counts.counts_along.Goals as goal
use Rattle.omega_game_values.proofs.priority_counts.counts_along.Goals.{then-ends_in, else-ends_in+in_ok-push}

pub overflow_add-index_mut : goal.overflow_add-index_mut
overflow_add-index_mut c =
    let ends = rw c.deref.ensures.value at (c.ends_in.ensures.0 c.if-ends_in.true) in
    let fits =
    count_fits c.args.numbers.now c.loop-number.number-index (c.len-last.result - 1) c.loop-number.counts.items c.index_mut.result.now
    (omega arith) c.requires.few c.loop-number.invariant ends.0 (omega (arith, c.len-last.ensures, c.loop-number.counts.ok.0)) c.index_mut.ensures.value in
    omega (arith, fits)

pub loop-number-preserved : goal.loop-number-preserved
loop-number-preserved c =
    elim c.if-ends_in.branch [
      | then-ends_in w ↦
          let ends = rw c.deref.ensures.value at (c.ends_in.ensures.0 w.if-ends_in.true) in
          rw w.counts-is
          (step_again c.args.numbers.now c.loop-number.number-index (get_or c.args.numbers.now c.loop-number.number-index 0) (w.len-last.result - 1) c.loop-number.counts.items w.index_mut.result.now
          (omega arith) refl c.loop-number.invariant ends.0 ends.1 (omega (arith, w.len-last.ensures, c.loop-number.counts.ok.0)) w.index_mut.ensures.value)
      | else-ends_in+in_ok-push w ↦
          rw (w.counts-is, w.in_ok-push.ensures.items)
          (step_next c.args.numbers.now c.loop-number.number-index (get_or c.args.numbers.now c.loop-number.number-index 0) c.loop-number.counts.items
          c.requires.falling (omega arith) refl c.loop-number.invariant (λ l e. false≢true (sym w.if-ends_in.false ∙ c.ends_in.ensures.1 (rw c.deref.ensures.value (l, e)))))
    ]
