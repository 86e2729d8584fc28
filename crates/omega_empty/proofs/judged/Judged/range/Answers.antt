-- the range that is read is that of the state
use Rattle.std.proofs.Common.{◌<◌, subst, sym}
use Rattle.omega_hoa_automaton.specs.Automaton.{edges_of}
use Rattle.omega_empty.specs.private.layout.Ranges.{IsRangeOf}
use Rattle.omega_empty.specs.private.layout.Ready.{JudgedAutomaton}
use Rattle.omega_empty.proofs.making.Rows.{range_read}
use Rattle.omega_empty.proofs.judged.Judged.range.Goals as goal

pub returns : goal.returns
returns c =
    let inside = c.self.inside in
    let below : c.args.state < inside.automaton.now.states =
    subst (λ (judged : JudgedAutomaton). c.args.state < judged.automaton.states) (sym c.self.view_is) c.requires in
    subst (λ (judged : JudgedAutomaton). IsRangeOf (edges_of judged.automaton) c.args.state c.index.result.now) c.self.view_is
    (range_read inside.automaton.now inside.ranges.items c.args.state c.index.result.now c.self.invariant.ranges_are below c.index.ensures)
