-- One latch more.
use Rattle.std.proofs.Common.{rules, [], refl}
use Rattle.std.proofs.lemmas.Result.{err_from_is_err_and}
use Rattle.omega_aiger.specs.Lines.{latch_line, latch_lines}
use Rattle.omega_aiger.proofs.Loops.{goes_more, stops_in}
use Rattle.omega_aiger.proofs.ascii.latches_at.Goals as goal

pub returns-in_err-latch-clause-stops : goal.returns-in_err-latch-clause-stops
returns-in_err-latch-clause-stops c =
    let p = err_from_is_err_and c.from_residual.result c.from_residual.ensures.1 in rw (p.1, p.2) (λ more. stops_in c.args.text.now latch_line (λ m items. latch_lines m items more) (λ m items. refl) c.args.at c.loop.end c.args.count c.loop.counter (latch_lines c.args.count [] more) c.loop.latches.items c.in_err-latch.field-0.0 c.loop-test.true
    (c.loop.invariant.read more) c.in_err-latch.ensures.stops)

pub loop-preserved : goal.loop-preserved
loop-preserved c =
    record {
      within = search rules;
      read = λ more. goes_more c.args.text.now latch_line (λ m items. latch_lines m items more) (λ m items. refl) c.args.at c.loop.end c.in_ok-latch.after c.args.count c.loop.counter (latch_lines c.args.count [] more) c.loop.latches.items c.push.new.self.items c.in_ok-latch.latch c.loop-test.true
          (c.loop.invariant.read more) c.in_ok-latch.ensures.read c.in_ok-push.ensures.items;
    }
