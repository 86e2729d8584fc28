-- The line for the fault of what is written, if there is one.
use Rattle.std.proofs.Common.{◌≡◌, ℕ, Option, Some, None, List, []}
use Rattle.omega_pg_diagnostics.specs.Laws.{IsCauseFor}
use Rattle.omega_pg.specs.game.Grammar.{RawGame}
use Rattle.omega_text.specs.declared.refusal.game.GameFault.{GameFault}

-- the line for a fault, or no line if there is none
abbrev pub IsCauseForAny : Option GameFault → RawGame → List ℕ → Type 0
IsCauseForAny None raw line = line ≡ []
IsCauseForAny (Some fault) raw line = IsCauseFor fault raw line
