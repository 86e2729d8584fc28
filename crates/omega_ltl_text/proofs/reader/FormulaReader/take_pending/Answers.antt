-- It waits behind the others.
use Rattle.omega_ltl_text.proofs.Taking.{outer_goes}
use Rattle.omega_ltl_text.proofs.reader.FormulaReader.take_pending.Goals as goal

pub returns-clause-goes : goal.returns-clause-goes
returns-clause-goes c =
    outer_goes c.self.inside.table c.self.inside.pending.items c.push.new.self.items c.args.next c.args.self.now c.self.inside.current c.requires.outer
    c.self.view_is c.requires.wanted c.in_ok-push.ensures.items
