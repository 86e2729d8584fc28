-- `run_held`: the lines on the search come after those of the progress, and those of a refusal after both, unless these
-- broke off.
use Rattle.std.proofs.Common.{◌++◌, ℕ, arith, subst}
use Rattle.omega_answers_game.specs.solve.SearchLines.{search_lines}
use Rattle.omega_run.specs.World.{tells_of}
use Rattle.omega_run.specs.private.steps.Telling.{TellsOn}
use Rattle.omega_run.proofs.ProgressLines.{broken_off, reported_on, told_after}
use Rattle.omega_run.proofs.Reported.{reports_after, reports_any}
use Rattle.omega_run.proofs.held.run_held.Goals as goal

pub returns-then-failures-sound : goal.returns-then-failures-sound
returns-then-failures-sound g c =
    let (made, lines, answer, progress, searched, written, reported) = c.write_answer-outcome.ensures in
    let search = search_lines c.args.task.now.verbose c.write_answer-outcome.new.searching in
    let on = subst (λ (sound : ℕ). TellsOn sound (g.E.Output.contents c.write_answer-outcome.new.errors) (g.E.Output.contents c.tell_search.new.errors)
    (g.E.Output.failed c.write_answer-outcome.new.errors) (g.E.Output.failed c.tell_search.new.errors) search) c.failures-sound.ensures c.tell_search.ensures in
    let whole = reported_on _ _ _ _ _ _ lines search c.requires.tells reported on in
    record {
      made = made;
      answer = answer;
      lines = lines;
      progress = progress;
      left = c.write_answer-outcome.new.searching;
      searched = searched;
      outcome = c.write_answer-outcome.result;
      written_so = written;
      reported = reports_any _ _ _ _ (λ text. tells_of g.E.Output c.args.errors.now c.tell_search.new.errors ((lines ++ search) ++ text)) c.status_of.ensures
          (λ text. broken_off _ _ _ _ (lines ++ search) text whole (omega (arith, c.if-failures-sound.true, c.failures.ensures, c.failures-sound.ensures)));
    }

pub returns : goal.returns
returns g c =
    let (made, lines, answer, progress, searched, written, reported) = c.write_answer-outcome.ensures in
    let search = search_lines c.args.task.now.verbose c.write_answer-outcome.new.searching in
    let on = subst (λ (sound : ℕ). TellsOn sound (g.E.Output.contents c.write_answer-outcome.new.errors) (g.E.Output.contents c.tell_search.new.errors)
    (g.E.Output.failed c.write_answer-outcome.new.errors) (g.E.Output.failed c.tell_search.new.errors) search) c.failures-sound.ensures c.tell_search.ensures in
    let whole = reported_on _ _ _ _ _ _ lines search c.requires.tells reported on in
    record {
      made = made;
      answer = answer;
      lines = lines;
      progress = progress;
      left = c.write_answer-outcome.new.searching;
      searched = searched;
      outcome = c.write_answer-outcome.result;
      written_so = written;
      reported = reports_after _ _ _ _ _ (λ text. tells_of g.E.Output c.args.errors.now c.report_run.new.errors ((lines ++ search) ++ text))
          (λ text told. told_after _ _ _ _ _ _ (lines ++ search) text whole
          (omega (arith, c.if-failures-sound.false, c.failures.ensures, c.failures-sound.ensures, whole.counted)) told)
          (rw c.failure_of-failure.ensures at c.report_run.ensures);
    }
