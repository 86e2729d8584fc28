-- The constant is a complete operand.
use Rattle.omega_ltl_text.proofs.Taking.{constant_goes}
use Rattle.omega_ltl_text.proofs.reader.FormulaReader.take_wanted.Goals as goal

pub returns-in_ok-constant-in-Constant-clause-goes : goal.returns-in_ok-constant-in-Constant-clause-goes
returns-in_ok-constant-in-Constant-clause-goes c =
    constant_goes c.self.inside.table c.constant.new.self c.self.inside.pending.items c.in-Constant.value c.in_ok-constant-in-Constant.field-0 c.args.self.now
    c.self.inside.current c.args.token.now.kind c.args.token.now.text.now c.self.invariant.waiting c.in_ok-constant-in-Constant.ensures.ok
    c.in_ok-constant-in-Constant.ensures.names c.self.view_is c.requires c.in-Constant.is
