use Rattle.std.proofs.Common.{take}
use Rattle.omega_ltl_terms.specs.private.Meeting.{MeetsAll}
use Rattle.omega_ltl_terms.proofs.meeting.meet.Given as goal

-- the edges so far meet the demand
abbrev pub invariant-loop-edge : goal.invariant-loop-edge
invariant-loop-edge l = MeetsAll l.tables.shapes l.tables.strongs l.d (take l.edge-index l.edges) l.kept.items
