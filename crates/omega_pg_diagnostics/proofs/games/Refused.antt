-- The line for a game text is about the fault for which the text is refused.
use Rattle.std.proofs.Common.{◌≡◌, ℕ, Option, Some, None, List, [], refl, subst}
use Rattle.omega_game_values.specs.Game.{Node}
use Rattle.omega_pg_diagnostics.specs.Laws.{CausesAreOfFaults}
use Rattle.omega_pg_diagnostics.proofs.games.FaultLines.{IsCauseForAny}
use Rattle.omega_pg_diagnostics.proofs.games.Faults.{cause_for}
use Rattle.omega_pg.specs.game.Laws.{GamesAreNotRefused}
use Rattle.omega_pg.specs.game.Refusing.{fault_in}
use Rattle.omega_pg.specs.game.Text.{IsGameText}
use Rattle.omega_text.specs.declared.refusal.Refusal.TheVariants.{Game}
use Rattle.omega_text.specs.declared.refusal.game.GameFault.{GameFault}

-- a text that describes a game has no line, since what is written has no fault
unfaulty : GamesAreNotRefused → (text line : List ℕ) (game : List Node) (read : IsGameText text game) (found : Option GameFault)
    → fault_in read.raw ≡ found → IsCauseForAny found read.raw line → line ≡ []
unfaulty apart text line game read None same about = about
unfaulty apart text line game read (Some fault) same about =
    absurd (apart text game (Game fault) read (record { short = read.short; raw = read.raw; writes = read.writes; fault_there = same }))

pub causes_of_faults : GamesAreNotRefused → CausesAreOfFaults
causes_of_faults apart text line cause = (
  (λ fault refused. record {
    raw = refused.raw;
    writes = refused.writes;
    about = subst (λ (found : Option GameFault). IsCauseForAny found refused.raw line) refused.fault_there
        (cause_for refused.raw line (cause.written refused.raw refused.short refused.writes));
  }),
  (λ game read. unfaulty apart text line game read (fault_in read.raw) refl
      (cause_for read.raw line (cause.written read.raw read.short read.writes))),
)
