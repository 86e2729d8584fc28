-- the edges of the second so far
use Rattle.std.proofs.Common.{◌≡◌, take}
use Rattle.omega_lang_product.specs.JointEdges.{joints_with}
use Rattle.omega_lang_product.specs.Pairs.{targets_with, with_pairs}
use Rattle.omega_lang_product.specs.private.Adding.{AddsAmong, numbered_edge, numbered_in}
use Rattle.omega_lang_product.proofs.adding.add_joints_with.Given as goal

abbrev pub invariant-loop-at : goal.invariant-loop-at
invariant-loop-at l =
    (l.pairs ≡ with_pairs l.initial.pairs (targets_with l.first.edge.now (take l.at l.seconds.edges.now)))
    × AddsAmong l.pairs (λ all. joints_with all l.from (numbered_edge l.first) (take l.at (numbered_in l.seconds))) l.initial.edges l.edges
