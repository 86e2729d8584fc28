-- The text was cut from the first place up to the place at which the next token is looked for.
use Rattle.std.proofs.Common.{◌-◌, ◌≤◌, length}
use Rattle.omega_text.proofs.formats.Cutting.{IsCutTo}
use Rattle.omega_text.proofs.checking.check_from.Given as goal

abbrev pub invariant-loop-token : goal.invariant-loop-token
invariant-loop-token g l = record { cut : IsCutTo g.K.TokenKind.format l.source l.from l.at; inside : l.at ≤ length l.source }

abbrev pub decreases-loop-token : goal.decreases-loop-token
decreases-loop-token g l = length l.source - l.at
