-- One count more, or the end of the line.
use Rattle.std.proofs.Common.{◌∷◌, ◌++◌, ◌+◌, ◌-◌, ℕ, rules, List, [], drop, sym, ap, ◌∙◌}
use Rattle.std.proofs.lemmas.Result.{err_from_is_err_and}
use Rattle.omega_aiger.specs.Forms.{counts_end}
use Rattle.omega_aiger.specs.Layout.{byte, number}
use Rattle.omega_aiger.specs.private.Outcome.{outcome}
use Rattle.omega_aiger.proofs.Steps.{stops_after}
use Rattle.omega_aiger.proofs.Headers.{ends_here, goes_here, no_more}
use Rattle.omega_aiger.proofs.header.property_counts.Goals as goal

pub returns-in_err-after-clause-stops : goal.returns-in_err-after-clause-stops
returns-in_err-after-clause-stops c =
    let p = err_from_is_err_and c.from_residual-in_err-after.result c.from_residual-in_err-after.ensures.1 in rw (p.1, p.2) (λ more. stops_after c.args.text.now c.args.at c.loop.end (counts_end 4 [] more) (byte 10 (more c.loop.counts.items))
    (c.loop.invariant.read more ∙ ends_here c.args.text.now c.loop.end c.loop.counter c.loop.counts.items more c.loop-test.true (c.next_is.ensures.other c.if-not-next_is.true)) c.in_err-after.field-0.0 (c.in_err-after.ensures.stops (more c.loop.counts.items)))

pub returns-then-not-next_is-clause-read : goal.returns-then-not-next_is-clause-read
returns-then-not-next_is-clause-read c =
    λ more. c.loop.invariant.read more ∙ ends_here c.args.text.now c.loop.end c.loop.counter c.loop.counts.items more c.loop-test.true (c.next_is.ensures.other c.if-not-next_is.true) ∙ c.in_ok-after.ensures.read (more c.loop.counts.items)

pub returns-in_err-count-clause-stops : goal.returns-in_err-count-clause-stops
returns-in_err-count-clause-stops c =
    let p = err_from_is_err_and c.from_residual-in_err-count.result c.from_residual-in_err-count.ensures.1 in rw (p.1, p.2) (λ more. stops_after c.args.text.now c.args.at (c.loop.end + 1) (counts_end 4 [] more) (number (λ n. counts_end (4 - (c.loop.counter + 1)) (c.loop.counts.items ++ n ∷ []) more))
    (c.loop.invariant.read more ∙ goes_here c.args.text.now c.loop.end c.loop.counter c.loop.counts.items more c.loop-test.true (c.next_is.ensures.first c.if-not-next_is.false)) c.in_err-count.field-0.0 (c.in_err-count.ensures.stops (λ n. counts_end (4 - (c.loop.counter + 1)) (c.loop.counts.items ++ n ∷ []) more)))

pub loop-preserved : goal.loop-preserved
loop-preserved c =
    record {
      within = search rules;
      read = λ more. c.loop.invariant.read more ∙ goes_here c.args.text.now c.loop.end c.loop.counter c.loop.counts.items more c.loop-test.true (c.next_is.ensures.first c.if-not-next_is.false)
          ∙ c.in_ok-count.ensures.read (λ n. counts_end (4 - (c.loop.counter + 1)) (c.loop.counts.items ++ n ∷ []) more)
          ∙ ap (λ (items : List ℕ). outcome (counts_end (4 - (c.loop.counter + 1)) items more) c.in_ok-count.after (drop c.in_ok-count.after c.args.text.now)) (sym c.in_ok-push.ensures.items);
    }

pub returns-in_err-after-2-clause-stops : goal.returns-in_err-after-2-clause-stops
returns-in_err-after-2-clause-stops c =
    let p = err_from_is_err_and c.from_residual-in_err-after-2.result c.from_residual-in_err-after-2.ensures.1 in rw (p.1, p.2) (λ more. stops_after c.args.text.now c.args.at c.loop.end (counts_end 4 [] more) (byte 10 (more c.loop.counts.items)) (c.loop.invariant.read more ∙ no_more c.args.text.now c.loop.end c.loop.counter c.loop.counts.items more c.loop-test.false) c.in_err-after-2.field-0.0 (c.in_err-after-2.ensures.stops (more c.loop.counts.items)))

pub returns-clause-read : goal.returns-clause-read
returns-clause-read c =
    λ more. c.loop.invariant.read more ∙ no_more c.args.text.now c.loop.end c.loop.counter c.loop.counts.items more c.loop-test.false ∙ c.in_ok-after-2.ensures.read (more c.loop.counts.items)
