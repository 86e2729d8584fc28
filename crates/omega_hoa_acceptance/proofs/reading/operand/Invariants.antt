-- A part is still wanted, the tokens become fewer, and the text stays.
use Rattle.std.proofs.Common.{◌≡◌, List, length, ◌≤◌}
use Rattle.omega_hoa_acceptance.specs.private.layout.Building.{WantsIn}
use Rattle.omega_text.specs.Lexeme.{Lexeme}
use Rattle.omega_text.specs.declared.hoa.kind.HoaKind.{HoaKind}
use Rattle.omega_hoa_acceptance.proofs.reading.operand.Given as goal

abbrev pub invariant-loop : goal.invariant-loop
invariant-loop g l = record {
  wants : (whole : List (Lexeme HoaKind)) → WantsIn whole (g.S.TokenSource.left l.fn.source) l.fn.unfinished → WantsIn whole (g.S.TokenSource.left l.source) l.unfinished;
  less : length (g.S.TokenSource.left l.source) ≤ length (g.S.TokenSource.left l.fn.source);
  text : g.S.TokenSource.length l.source ≡ g.S.TokenSource.length l.fn.source;
}

abbrev pub decreases-loop : goal.decreases-loop
decreases-loop g l = length (g.S.TokenSource.left l.source)
