-- The operator waits with the left operand.
use Rattle.std.proofs.Common.{Some, ℕ, [], ◌∷◌, ◌++◌, ap, ◌∙◌, subst}
use Rattle.omega_ltl_text.specs.declared.pending.Pending.TheVariants.{Binary}
use Rattle.omega_ltl_text.specs.private.Reader.{Reduces, reader_of}
use Rattle.omega_ltl_text.proofs.Taking.{operator_goes}
use Rattle.omega_ltl_text.proofs.reader.FormulaReader.take_operator.Goals as goal

pub returns-clause-goes : goal.returns-clause-goes
returns-clause-goes c =
    operator_goes c.self.inside.table c.reduce.new.table c.self.inside.pending.items c.reduce.new.pending.items c.push.new.self.items c.args.tree
    c.in_ok-number.number c.args.operator c.args.self.now c.self.inside.current c.self.view_is c.requires
    (subst (λ (least : ℕ). Reduces least (reader_of c.self.inside.table c.self.inside.pending.items (Some c.args.tree)) c.reduce.new.table c.reduce.new.pending.items c.in_ok-number.number)
    c.least_left-least.ensures c.in_ok-number.ensures.reduces)
    (c.in_ok-push.ensures.items ∙ ap (λ (n : ℕ). c.reduce.new.pending.items ++ Binary c.args.operator n ∷ []) c.in_ok-left.ensures.number)
