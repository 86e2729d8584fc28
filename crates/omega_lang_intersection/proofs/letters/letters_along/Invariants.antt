-- the letters of the edges before
use Rattle.std.proofs.Common.{◌≡◌, map, take}
use Rattle.omega_lang_intersection.specs.private.Letters.{joint_conjuncts}
use Rattle.omega_lang_intersection.proofs.letters.letters_along.Given as goal

abbrev pub invariant-loop-number : goal.invariant-loop-number
invariant-loop-number l = l.letters.items ≡ map (joint_conjuncts l.joints.one.now l.joints.other.now l.joints.graph.now) (take l.number-index l.numbers)
