-- Both literals, both truth tables or both wide ones decide it.
use Rattle.omega_hoa_edges.proofs.summary.LabelSummary.meets.Goals as goal

pub returns-in-Some-literals : goal.returns-in-Some-literals
returns-in-Some-literals c =
    λ one another is others. c.meets.ensures one another (rw c.in-Some.is at is.literals) (rw c.in-Some-literals.is at others.literals)
