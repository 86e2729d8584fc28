-- What holds in the loop of `resolve`: replaces each identifier by its place, and says whether each has one.
use Rattle.std.proofs.Common.{◌≡◌, ◌++◌, map, take, drop}
use Rattle.std.specs.List.{list_all}
use Rattle.omega_game_values.specs.private.layout.Columns.{identifiers_of}
use Rattle.omega_game_values.specs.private.layout.Resolving.{is_defined, resolved_in}
use Rattle.omega_game_values.proofs.resolving.resolve.Given as goal

abbrev pub invariant-loop-target : goal.invariant-loop-target
invariant-loop-target l =
    (l.targets ≡ map (resolved_in (identifiers_of l.count l.listed.keys)) (take l.target-index l.initial.targets) ++ drop l.target-index l.initial.targets)
    × (l.defined ≡ list_all (is_defined (identifiers_of l.count l.listed.keys)) (take l.target-index l.initial.targets))
