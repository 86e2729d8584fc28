-- Inside a segment, the text is refused.
use Rattle.omega_hoa.proofs.Endings.{cut_short, fault_inside_end}
use Rattle.omega_hoa.proofs.ending.end_inside.Goals as goal

pub returns-in-Some-clause-refused : goal.returns-in-Some-clause-refused
returns-in-Some-clause-refused c = λ seen lexemes items begins all at_end.
    fault_inside_end c.args.settled c.requires seen lexemes items begins c.in-Some.fault c.in-Some.is at_end

pub returns-in-None-clause-refused : goal.returns-in-None-clause-refused
returns-in-None-clause-refused c = λ seen lexemes items begins all at_end.
    cut_short c.args.settled c.requires seen lexemes items begins c.args.count all c.in-None.is at_end
