-- `add_places`: the places before this index are added.
use Rattle.std.proofs.Common.{◌≡◌, ◌++◌}
use Rattle.omega_lang_runs.specs.private.Placing.{places_in}
use Rattle.omega_lang_runs.proofs.placing.add_places.Given as goal

abbrev pub invariant-loop-index : goal.invariant-loop-index
invariant-loop-index l = l.places.items ≡ l.initial.places.items ++ places_in l.state l.index
