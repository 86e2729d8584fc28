-- The others were added so far, after the first.
use Rattle.std.proofs.Common.{◌≡◌, ◌∷◌, take}
use Rattle.omega_hoa_syntax.proofs.conj.with_first.Given as goal

abbrev pub invariant-loop-other : goal.invariant-loop-other
invariant-loop-other l = l.numbers ≡ l.first ∷ take l.other-index l.rest
