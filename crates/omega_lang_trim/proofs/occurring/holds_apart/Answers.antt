-- what holds by its atoms holds
use Rattle.std.proofs.Common.{map, ◌∙◌}
use Rattle.omega_graph_accepting_walk.specs.Rows.{row_at}
use Rattle.omega_lang_trim.proofs.Apart.{apart_by_atoms}
use Rattle.omega_lang_trim.proofs.occurring.holds_apart.Goals as goal

pub returns-clause-holds : goal.returns-clause-holds
returns-clause-holds c =
    c.in_ok-holds.ensures.ok
    ∙ apart_by_atoms (map (row_at c.args.marks.now) c.args.some.now) (map (row_at c.args.marks.now) c.args.all.now) c.args.formula.now
