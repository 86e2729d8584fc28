-- One gate more.
use Rattle.std.proofs.Common.{rules, [], refl}
use Rattle.std.proofs.lemmas.Result.{err_from_is_err_and}
use Rattle.omega_aiger.specs.Lines.{gate_line, gate_lines}
use Rattle.omega_aiger.proofs.Loops.{goes_more, stops_in}
use Rattle.omega_aiger.proofs.ascii.gates_at.Goals as goal

pub returns-in_err-gate-clause-stops : goal.returns-in_err-gate-clause-stops
returns-in_err-gate-clause-stops c =
    let p = err_from_is_err_and c.from_residual.result c.from_residual.ensures.1 in rw (p.1, p.2) (λ more. stops_in c.args.text.now gate_line (λ m items. gate_lines m items more) (λ m items. refl) c.args.at c.loop.end c.args.count c.loop.counter (gate_lines c.args.count [] more) c.loop.gates.items c.in_err-gate.field-0.0 c.loop-test.true
    (c.loop.invariant.read more) c.in_err-gate.ensures.stops)

pub loop-preserved : goal.loop-preserved
loop-preserved c =
    record {
      within = search rules;
      read = λ more. goes_more c.args.text.now gate_line (λ m items. gate_lines m items more) (λ m items. refl) c.args.at c.loop.end c.in_ok-gate.after c.args.count c.loop.counter (gate_lines c.args.count [] more) c.loop.gates.items c.push.new.self.items c.in_ok-gate.gate c.loop-test.true
          (c.loop.invariant.read more) c.in_ok-gate.ensures.read c.in_ok-push.ensures.items;
    }
