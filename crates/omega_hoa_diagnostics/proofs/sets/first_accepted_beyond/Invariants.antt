-- `first_accepted_beyond`: the first set is in an item that is left.
use Rattle.std.proofs.Common.{◌≡◌, drop}
use Rattle.omega_hoa_diagnostics.specs.Finding.{first_found}
use Rattle.omega_hoa_diagnostics.specs.Sets.{item_set_beyond}
use Rattle.omega_hoa_diagnostics.proofs.sets.first_accepted_beyond.Given as goal

abbrev pub invariant-loop-item : goal.invariant-loop-item
invariant-loop-item l = first_found (item_set_beyond l.count) (drop l.item-index l.items) ≡ first_found (item_set_beyond l.count) l.items
