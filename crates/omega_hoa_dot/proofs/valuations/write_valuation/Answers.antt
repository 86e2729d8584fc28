-- `write_valuation`: a literal more is written.
use Rattle.omega_hoa_dot.proofs.Literals.{literal_written}
use Rattle.omega_hoa_dot.proofs.valuations.write_valuation.Goals as goal

pub loop-p-preserved : goal.loop-p-preserved
loop-p-preserved c =
    literal_written c.args.names.now c.args.index c.loop-p.p c.args.out.now.items c.loop-p.out.items c.extend_from_slice.new.self.items _
    c.loop-p.auto.p c.loop-p.invariant c.in_ok-extend_from_slice.ensures.items c.in_ok-write_literal-2.ensures.ok
