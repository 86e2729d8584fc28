-- the state of the edge that was found
use Rattle.std.proofs.Common.{[], None, ap, sym}
use Rattle.omega_synth_check.specs.private.Letterless.{source_in}
use Rattle.omega_synth_check.proofs.letterless.source_of.Goals as goal

pub returns-in-Some : goal.returns-in-Some
returns-in-Some c = sym (ap source_in (c.in-Some.ensures.edge (record { label = None; targets = []; marks = [] })))
