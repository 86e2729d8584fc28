-- One line more.
use Rattle.std.proofs.Common.{ℕ, rules, List, [], length, refl, ap, arith}
use Rattle.std.proofs.lemmas.List.{length_push}
use Rattle.std.proofs.lemmas.Result.{err_from_is_err_and}
use Rattle.omega_aiger.specs.Layout.{byte, number}
use Rattle.omega_aiger.specs.Lines.{number_lines}
use Rattle.omega_aiger.proofs.Loops.{goes_more, stops_in}
use Rattle.omega_aiger.proofs.ascii.numbers_at.Goals as goal

pub returns-in_err-number-clause-stops : goal.returns-in_err-number-clause-stops
returns-in_err-number-clause-stops c =
    let p = err_from_is_err_and c.from_residual.result c.from_residual.ensures.1 in rw (p.1, p.2) (λ more. stops_in c.args.text.now (λ next. number (λ n. byte 10 (next n))) (λ m items. number_lines m items more) (λ m items. refl) c.args.at c.loop.end c.args.count c.loop.counter (number_lines c.args.count [] more) c.loop.numbers.items c.in_err-number.field-0.0 c.loop-test.true
    (c.loop.invariant.read more) c.in_err-number.ensures.stops)

pub loop-preserved : goal.loop-preserved
loop-preserved c =
    record {
      count = let e = ap (λ (xs : List ℕ). length xs) c.in_ok-push.ensures.items in let f = length_push c.loop.numbers.items c.in_ok-number.number in omega (arith, e, f, c.loop.invariant.count);
      room = let e = ap (λ (xs : List ℕ). length xs) c.in_ok-push.ensures.items in let f = length_push c.loop.numbers.items c.in_ok-number.number in omega (arith, e, f, c.loop.invariant.room, c.in_ok-number.ensures.onward);
      within = search rules;
      read = λ more. goes_more c.args.text.now (λ next. number (λ n. byte 10 (next n))) (λ m items. number_lines m items more) (λ m items. refl) c.args.at c.loop.end c.in_ok-number.after c.args.count c.loop.counter (number_lines c.args.count [] more) c.loop.numbers.items c.push.new.self.items c.in_ok-number.number c.loop-test.true
          (c.loop.invariant.read more) c.in_ok-number.ensures.read c.in_ok-push.ensures.items;
    }
