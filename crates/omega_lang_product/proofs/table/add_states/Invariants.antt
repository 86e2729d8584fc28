-- the numbers of the states so far, how many edges these have, and no edges
use Rattle.std.proofs.Common.{◌≡◌, None, replicate, take}
use Rattle.omega_lang_product.specs.private.Tables.{AreNumbered, edges_in}
use Rattle.omega_lang_product.proofs.table.add_states.Given as goal

abbrev pub invariant-loop-state : goal.invariant-loop-state
invariant-loop-state l =
    let states = take l.state-index l.automaton.defined in
    AreNumbered states l.numbers.keys l.firsts.items × (l.rows.items ≡ replicate l.state-index None) × (l.first ≡ edges_in states)
