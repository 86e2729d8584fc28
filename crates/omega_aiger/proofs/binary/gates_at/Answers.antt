-- One gate more.
use Rattle.std.proofs.Common.{◌+◌, rules, List, [], length, ap, ◌∙◌, arith}
use Rattle.std.proofs.lemmas.List.{length_push}
use Rattle.std.proofs.lemmas.Result.{err_from_is_err_and}
use Rattle.omega_aiger.specs.Deltas.{literal_of}
use Rattle.omega_aiger.specs.Lines.{gate_deltas}
use Rattle.omega_circuit.specs.declared.gate.Gate.{Gate}
use Rattle.omega_aiger.proofs.Loops.{gate_more, gate_stops}
use Rattle.omega_aiger.proofs.binary.gates_at.Goals as goal

pub returns-in_err-gate-clause-stops : goal.returns-in_err-gate-clause-stops
returns-in_err-gate-clause-stops c =
    let p = err_from_is_err_and c.from_residual.result c.from_residual.ensures.1 in rw (p.1, p.2) (λ more. gate_stops c.args.text.now c.args.at c.loop-k.end c.args.variable c.args.count c.loop-k.k c.literal_of.result (gate_deltas c.args.variable c.args.count [] more) c.loop-k.gates.items more c.loop-k-test.true (c.loop-k.invariant.read more) (c.literal_of.ensures ∙ ap literal_of (ap (λ n. c.args.variable + n) c.from.ensures)) c.in_err-gate.field-0.0 c.in_err-gate.ensures.stops)

pub loop-k-preserved : goal.loop-k-preserved
loop-k-preserved c =
    record {
      within = search rules;
      count = let e = ap (λ (xs : List Gate). length xs) c.in_ok-push.ensures.items in let f = length_push c.loop-k.gates.items (c.in_ok-gate.gate) in omega (arith, e, f, c.loop-k.invariant.count);
      read = λ more. gate_more c.args.text.now c.args.at c.loop-k.end c.args.variable c.args.count c.loop-k.k c.literal_of.result (gate_deltas c.args.variable c.args.count [] more) c.loop-k.gates.items more c.loop-k-test.true (c.loop-k.invariant.read more) (c.literal_of.ensures ∙ ap literal_of (ap (λ n. c.args.variable + n) c.from.ensures))
          c.in_ok-gate.after c.in_ok-gate.gate c.push.new.self.items c.in_ok-gate.ensures.read c.in_ok-push.ensures.items;
    }
