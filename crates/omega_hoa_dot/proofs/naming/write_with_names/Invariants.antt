-- `write_with_names`: what is written, and what is yet to be written of the bytes left, is the whole.
use Rattle.std.proofs.Common.{◌≡◌, ◌++◌, ◌≤◌, None, drop}
use Rattle.std.specs.Prelude.{IfSome}
use Rattle.omega_hoa_automaton.specs.Limits.{most_propositions}
use Rattle.omega_hoa_dot.specs.private.layout.Naming.{with_names}
use Rattle.omega_hoa_dot.proofs.naming.write_with_names.Given as goal

abbrev pub invariant-loop-byte : goal.invariant-loop-byte
invariant-loop-byte l = record {
  whole : l.out.items ++ with_names l.names l.number (drop l.byte-index l.text) ≡ l.fn.out.items ++ with_names l.names None l.text;
  small : IfSome l.number (λ number. number ≤ most_propositions);
}
