-- the edges so far
use Rattle.std.proofs.Common.{◌≡◌, ◌≤◌, ◌-◌, List, map, take}
use Rattle.omega_lang_product.specs.JointEdges.{Joint}
use Rattle.omega_lang_product.specs.Written.{raw_edge}
use Rattle.omega_lang_product.specs.private.Labelling.{AreJointsFrom, labelled}
use Rattle.omega_lang_product.proofs.labelling.edges_between.Given as goal

abbrev pub invariant-loop-place : goal.invariant-loop-place
invariant-loop-place l =
    (l.start ≤ l.place)
    × ((joints : List Joint) → AreJointsFrom l.edges l.firsts l.seconds l.start l.end joints → l.raw ≡ map raw_edge (map labelled (take (l.place - l.start) joints)))
