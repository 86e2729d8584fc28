-- the states of the pairs so far
use Rattle.std.proofs.Common.{◌≡◌, map, take}
use Rattle.omega_lang_product.specs.private.Operands.{state_in}
use Rattle.omega_lang_product.proofs.states.states_of.Given as goal

abbrev pub invariant-loop-at : goal.invariant-loop-at
invariant-loop-at l = l.states.items ≡ map (state_in l.operands l.explored.pairs.keys) (take l.at l.explored.pairs.keys)
