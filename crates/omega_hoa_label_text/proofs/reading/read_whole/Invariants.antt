-- A part is read, and the text stays.
use Rattle.std.proofs.Common.{◌≡◌, List, length}
use Rattle.omega_hoa_expression.specs.Symbols.{conjunctive}
use Rattle.omega_hoa_label_text.specs.private.Building.{HasIn, WantsIn}
use Rattle.omega_text.specs.Lexeme.{Lexeme}
use Rattle.omega_text.specs.declared.hoa.kind.HoaKind.{HoaKind}
use Rattle.omega_hoa_label_text.proofs.reading.read_whole.Given as goal

abbrev pub invariant-loop : goal.invariant-loop
invariant-loop g l = record {
  has : (whole : List (Lexeme HoaKind)) → WantsIn whole (g.S.TokenSource.left l.fn.source) l.fn.unfinished
      → HasIn conjunctive whole (g.S.TokenSource.left l.source) l.unfinished;
  text : g.S.TokenSource.length l.source ≡ g.S.TokenSource.length l.fn.source;
}

abbrev pub decreases-loop : goal.decreases-loop
decreases-loop g l = length (g.S.TokenSource.left l.source)
