-- The name is a complete operand.
use Rattle.std.proofs.Common.{refl}
use Rattle.omega_ltl_formula.specs.Formula.{name as name_tree}
use Rattle.omega_ltl_text.specs.Symbols.{name}
use Rattle.omega_ltl_text.proofs.Taking.{atom_goes}
use Rattle.omega_ltl_text.proofs.reader.FormulaReader.take_name.Goals as goal

pub returns-clause-goes : goal.returns-clause-goes
returns-clause-goes c =
    atom_goes c.self.inside.table c.name.new.self c.self.inside.pending.items (name_tree c.args.bytes.now) c.in_ok-name.field-0 (name c.args.bytes.now)
    c.self.invariant.waiting c.in_ok-name.ensures.ok refl (λ frames. refl) c.in_ok-name.ensures.names c.args.self.now c.self.inside.current c.self.view_is c.requires
