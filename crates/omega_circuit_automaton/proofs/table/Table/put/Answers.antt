-- a value that is known
use Rattle.std.proofs.Common.{OnOk, subst, sym}
use Rattle.omega_circuit_automaton.specs.declared.ternary.Ternary.{Ternary}
use Rattle.omega_circuit_automaton.specs.private.Lanes.{KeepsHeld}
use Rattle.omega_circuit_automaton.specs.private.Ternary.{Matches}
use Rattle.omega_circuit_automaton.proofs.table.Table.put.Goals as goal

pub returns-in-True : goal.returns-in-True
returns-in-True c =
    subst (λ (value : Ternary). OnOk c.push.result (KeepsHeld (λ round. Matches value (round c.args.variable)) c.args.self.now.entries.items c.push.new.self.entries.items))
    (sym c.in-True.is) c.push.ensures

pub returns-in-False : goal.returns-in-False
returns-in-False c =
    subst (λ (value : Ternary). OnOk c.push-in-False.result
    (KeepsHeld (λ round. Matches value (round c.args.variable)) c.args.self.now.entries.items c.push-in-False.new.self.entries.items))
    (sym c.in-False.is) c.push-in-False.ensures
