-- One latch more.
use Rattle.std.proofs.Common.{◌+◌, rules, List, [], length, ap, ◌∙◌, arith}
use Rattle.std.proofs.lemmas.List.{length_push}
use Rattle.std.proofs.lemmas.Result.{err_from_is_err_and}
use Rattle.omega_aiger.specs.Deltas.{literal_of}
use Rattle.omega_aiger.specs.Lines.{latch_of, next_lines}
use Rattle.omega_circuit.specs.declared.latch.Latch.{Latch}
use Rattle.omega_aiger.proofs.Loops.{latch_more, latch_stops}
use Rattle.omega_aiger.proofs.binary.latches_at.Goals as goal

pub returns-in_err-next-clause-stops : goal.returns-in_err-next-clause-stops
returns-in_err-next-clause-stops c =
    let p = err_from_is_err_and c.from_residual.result c.from_residual.ensures.1 in rw (p.1, p.2) (λ more. latch_stops c.args.text.now c.args.at c.loop-k.end c.args.variable c.args.count c.loop-k.k (next_lines c.args.variable c.args.count [] more) c.loop-k.latches.items more c.loop-k-test.true (c.loop-k.invariant.read more) c.in_err-next.field-0.0 c.in_err-next.ensures.stops)

pub loop-k-preserved : goal.loop-k-preserved
loop-k-preserved c =
    record {
      within = search rules;
      count = let e = ap (λ (xs : List Latch). length xs) c.in_ok-push.ensures.items in let f = length_push c.loop-k.latches.items (latch_of c.literal_of-literal.result c.in_ok-next.next c.in_ok-next.reset) in omega (arith, e, f, c.loop-k.invariant.count);
      read = λ more. latch_more c.args.text.now c.args.at c.loop-k.end c.args.variable c.args.count c.loop-k.k (next_lines c.args.variable c.args.count [] more) c.loop-k.latches.items more c.loop-k-test.true (c.loop-k.invariant.read more)
          c.in_ok-next.after c.literal_of-literal.result c.in_ok-next.next c.in_ok-next.reset c.push.new.self.items c.in_ok-next.ensures.read (c.literal_of-literal.ensures ∙ ap literal_of (ap (λ n. c.args.variable + n) c.from.ensures)) c.in_ok-push.ensures.items;
    }
