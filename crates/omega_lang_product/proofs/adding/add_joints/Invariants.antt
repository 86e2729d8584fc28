-- the edges of the first so far
use Rattle.std.proofs.Common.{◌≡◌, take}
use Rattle.omega_lang_product.specs.JointEdges.{joints_between}
use Rattle.omega_lang_product.specs.Pairs.{targets_between, with_pairs}
use Rattle.omega_lang_product.specs.private.Adding.{AddsAmong, numbered_in}
use Rattle.omega_lang_product.proofs.adding.add_joints.Given as goal

abbrev pub invariant-loop-at : goal.invariant-loop-at
invariant-loop-at l =
    (l.pairs ≡ with_pairs l.initial.pairs (targets_between (take l.at l.firsts.edges.now) l.seconds.edges.now))
    × AddsAmong l.pairs (λ all. joints_between all l.from (take l.at (numbered_in l.firsts)) (numbered_in l.seconds)) l.initial.edges l.edges
