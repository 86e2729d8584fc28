-- What was written so far, and what is plain from here on, are the plain text.
use Rattle.std.proofs.Common.{length, ◌-◌, ◌≡◌, ◌++◌, drop}
use Rattle.omega_pg_lenient.specs.Plain.{plain_from, plain_text}
use Rattle.omega_pg_lenient.proofs.plain.plain_text.Given as goal

abbrev pub invariant-loop-at : goal.invariant-loop-at
invariant-loop-at l = l.text.items ++ plain_from l.context (drop l.at l.source) ≡ plain_text l.source

abbrev pub decreases-loop-at : goal.decreases-loop-at
decreases-loop-at l = length l.source - l.at
