-- A part is read.
use Rattle.std.proofs.Common.{◌≡◌, length}
use Rattle.omega_hoa_expression.specs.Symbols.{conjunctive}
use Rattle.omega_hoa_acceptance.specs.private.layout.Building.{HasIn}
use Rattle.omega_hoa_acceptance.proofs.reading.read_raw_acc.Given as goal

abbrev pub invariant-loop-unfinished : goal.invariant-loop-unfinished
invariant-loop-unfinished g l = record {
  has : HasIn conjunctive (g.S.TokenSource.left l.fn.source) (g.S.TokenSource.left l.source) l.unfinished;
  text : g.S.TokenSource.length l.source ≡ g.S.TokenSource.length l.fn.source;
}

abbrev pub decreases-loop-unfinished : goal.decreases-loop-unfinished
decreases-loop-unfinished g l = length (g.S.TokenSource.left l.source)
