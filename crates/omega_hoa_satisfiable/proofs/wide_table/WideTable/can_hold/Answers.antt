-- A label can be true if it can be true together with itself.
use Rattle.omega_hoa_label.specs.Label.{truth}
use Rattle.omega_hoa_satisfiable.proofs.TruthTables.{both-true, true-both}
use Rattle.omega_hoa_satisfiable.proofs.wide_table.WideTable.can_hold.Goals as goal

pub returns : goal.returns
returns c =
    λ tree is.
    let twice = c.meets.ensures tree tree is is in (
      λ possible.
          let together = twice.0 possible in
          (together.0, (both-true (truth together.0 tree) (truth together.0 tree) together.1).0),
      λ satisfied. twice.1 (satisfied.0, true-both (truth satisfied.0 tree) (truth satisfied.0 tree) satisfied.1 satisfied.1),
    )
