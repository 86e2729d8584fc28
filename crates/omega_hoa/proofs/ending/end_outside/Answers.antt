-- Outside segments, the text ends as a stream, or is refused.
use Rattle.omega_hoa.proofs.Endings.{stray_end}
use Rattle.omega_hoa.proofs.ending.end_outside.Goals as goal

pub returns-in-Some-clause-refused : goal.returns-in-Some-clause-refused
returns-in-Some-clause-refused c = λ seen lexemes items begins at_end.
    stray_end c.args.settled c.requires seen lexemes items begins c.in-Some.token c.in-Some.is at_end
