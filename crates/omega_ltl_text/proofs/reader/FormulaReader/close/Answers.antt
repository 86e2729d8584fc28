-- The last that waits is a parenthesis, or nothing waits.
use Rattle.std.proofs.Common.{Bool, sym, subst}
use Rattle.omega_ltl_text.specs.Symbols.{closing}
use Rattle.omega_ltl_text.specs.private.Reader.{Goes, reader_of}
use Rattle.std.proofs.Common.{Some}
use Rattle.omega_ltl_text.proofs.Reductions.{empty_popped}
use Rattle.omega_ltl_text.proofs.Taking.{close_goes}
use Rattle.omega_ltl_text.proofs.reader.FormulaReader.close.Goals as goal

pub returns-clause-goes : goal.returns-clause-goes
returns-clause-goes c =
    subst (λ (b : Bool). Goes b c.args.self.now closing (reader_of c.reduce.new.table c.pop.new.self.items (Some c.in_ok-inside.inside))) (sym c.is_some.ensures)
    (close_goes c.self.inside.table c.reduce.new.table c.self.inside.pending.items c.reduce.new.pending.items c.pop.new.self.items c.pop.result c.args.tree
    c.in_ok-inside.inside c.args.self.now c.self.inside.current c.self.view_is c.requires c.in_ok-inside.ensures.reduces c.pop.ensures.items
    (empty_popped c.reduce.new.pending.items c.reduce.new.pending.len c.pop.result c.reduce.new.pending.ok.0 c.pop.ensures.variant))
