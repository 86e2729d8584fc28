-- The next token, if there is one, inside a segment or outside.
use Rattle.std.proofs.Common.{Some}
use Rattle.omega_hoa.specs.private.dividing.Next.{IsTakenAs}
use Rattle.omega_hoa.proofs.Results.{nothing_more, ok_at}
use Rattle.omega_hoa.proofs.Settling.{no_more}
use Rattle.omega_hoa.proofs.division.take_settled.Goals as goal

pub returns-in-None-clause-taken : goal.returns-in-None-clause-taken
returns-in-None-clause-taken c = λ seen lexemes items next.
    nothing_more _ _ _ (no_more c.args.settled seen lexemes items c.args.division.begins c.args.division.inside c.in-None.is next.divided)

pub returns-in-Some-clause-taken : goal.returns-in-Some-clause-taken
returns-in-Some-clause-taken c = rw c.in-Some.is c.take_inside.ensures.taken

pub returns-in-Some-clause-refused : goal.returns-in-Some-clause-refused
returns-in-Some-clause-refused c = rw c.in-Some.is c.take_inside.ensures.refused

pub returns-in-Some-2-clause-taken : goal.returns-in-Some-2-clause-taken
returns-in-Some-2-clause-taken c = rw c.in-Some-2.is
    (ok_at c.begin_segment.result (λ out after. IsTakenAs c.args.bytes.now c.args.first c.args.division (Some c.in-Some-2.token) out out after) c.args.out.now.items c.begin_segment.ensures.taken)

pub returns-in-Some-2-clause-refused : goal.returns-in-Some-2-clause-refused
returns-in-Some-2-clause-refused c = rw c.in-Some-2.is c.begin_segment.ensures.refused
