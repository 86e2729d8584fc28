-- Piece by piece, until nothing is left.
use Rattle.std.proofs.Common.{length, arith}
use Rattle.std.proofs.lemmas.List.{nil_from_length}
use Rattle.omega_ltl_formula.specs.Table.{tree_of}
use Rattle.omega_ltl_text.specs.Written.{formula_text}
use Rattle.omega_ltl_text.specs.private.Unwritten.{IsNodeAmong}
use Rattle.omega_ltl_text.proofs.Elements.{all_last, all_rest}
use Rattle.omega_ltl_text.proofs.Writings.{writing_begins, writing_ends, writing_goes_on, writing_shrinks}
use Rattle.omega_ltl_text.proofs.writing.write_formula.Goals as goal

pub loop-next-init : goal.loop-next-init
loop-next-init c =
    writing_begins c.args.formula.now c.root.result c.push.new.self.items c.new-unwritten.result.items c.new-out.result.items c.keeps_limits.ensures c.root.ensures
    c.new-out.ensures.items c.new-unwritten.ensures.items c.in_ok-push.ensures.items

pub write_next-requires-clause-next : goal.write_next-requires-clause-next
write_next-requires-clause-next c =
    all_last (IsNodeAmong (length c.args.formula.now.table.nodes)) c.loop-next.unwritten.items c.pop.new.self.items c.in-Some.next c.in-Some.ensures.items c.loop-next.invariant.nodes

pub write_next-requires-clause-others : goal.write_next-requires-clause-others
write_next-requires-clause-others c =
    all_rest (IsNodeAmong (length c.args.formula.now.table.nodes)) c.loop-next.unwritten.items c.pop.new.self.items c.in-Some.next c.in-Some.ensures.items c.loop-next.invariant.nodes

pub loop-next-preserved : goal.loop-next-preserved
loop-next-preserved c =
    writing_goes_on c.args.formula.now.table (formula_text (tree_of c.args.formula.now)) c.loop-next.out.items c.write_next.new.out.items c.loop-next.unwritten.items
    c.pop.new.self.items c.write_next.new.unwritten.items c.in-Some.next c.loop-next.invariant c.in-Some.ensures.items c.in_ok-write_next.ensures.writes

pub loop-next-smaller : goal.loop-next-smaller
loop-next-smaller c =
    writing_shrinks c.args.formula.now.table c.loop-next.out.items c.write_next.new.out.items c.loop-next.unwritten.items
    c.pop.new.self.items c.write_next.new.unwritten.items c.in-Some.next c.in-Some.ensures.items c.in_ok-write_next.ensures.writes

pub returns-clause-text : goal.returns-clause-text
returns-clause-text c =
    writing_ends c.args.formula.now.table (formula_text (tree_of c.args.formula.now)) c.loop-next.out.items c.loop-next.unwritten.items c.loop-next.invariant
    (nil_from_length c.loop-next.unwritten.items (omega (arith, c.in_default.ensures.cases.0, c.loop-next.unwritten.ok.0)))
