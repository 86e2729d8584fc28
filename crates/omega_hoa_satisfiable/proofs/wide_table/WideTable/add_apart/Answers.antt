-- The label is the conjunction of its literals.
use Rattle.omega_hoa_satisfiable.proofs.wide_table.WideTable.add_apart.Goals as goal

pub returns-in-Some-clause-added : goal.returns-in-Some-clause-added
returns-in-Some-clause-added c =
    λ is one tabled.
    c.add_literals_apart.ensures.added is one c.args.label.now tabled (c.mentions_low.ensures c.if-not-mentions_low.false) c.in-Some.ensures
