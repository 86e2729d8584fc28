-- Where the bytes end or have a fault, no token follows.
use Rattle.omega_hoa.proofs.Fronts.{none_at_end, none_at_fault}
use Rattle.omega_hoa.proofs.segment_cursor.token_at.Goals as goal

pub returns-in-Ok-clause-none : goal.returns-in-Ok-clause-none
returns-in-Ok-clause-none c = none_at_end c.goes_on_one_way.ensures c.args.source.now c.args.at c.in-Ok.next c.in-Ok.ensures.end

pub returns-in-Err-clause-none : goal.returns-in-Err-clause-none
returns-in-Err-clause-none c = none_at_fault c.goes_on_one_way.ensures c.args.source.now c.args.at c.in-Err._fault c.in-Err.ensures.fault
