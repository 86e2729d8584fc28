use Rattle.std.proofs.Common.{◌↔◌, drop}
use Rattle.omega_text.specs.hoa.Forms.{IsQuotable}
use Rattle.omega_circuit_automaton.specs.private.Quotable.{Continues}
use Rattle.omega_circuit_automaton.proofs.names.is_quotable.Given as goal

-- what is left decides
abbrev pub invariant-loop-byte : goal.invariant-loop-byte
invariant-loop-byte l = Continues l.is_escaped (drop l.byte-index l.name) ↔ IsQuotable l.name
