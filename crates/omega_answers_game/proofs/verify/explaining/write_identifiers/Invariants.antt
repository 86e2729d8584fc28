-- `write_identifiers`: the identifiers of the places before this one are written.
use Rattle.std.proofs.Common.{◌≡◌, ◌++◌, take}
use Rattle.omega_answers_game.specs.Verify.{identifiers_text}
use Rattle.omega_answers_game.proofs.verify.explaining.write_identifiers.Given as goal

abbrev pub invariant-loop-place : goal.invariant-loop-place
invariant-loop-place l = l.out.items ≡ l.initial.out.items ++ identifiers_text l.game (take l.place-index l.places)
