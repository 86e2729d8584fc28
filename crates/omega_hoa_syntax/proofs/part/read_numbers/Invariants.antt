-- Numbers were read up to the place at which the next is looked for, and the text stays.
use Rattle.std.proofs.Common.{◌≡◌, length}
use Rattle.omega_hoa_syntax.proofs.PartLemmas.{IsReadTo}
use Rattle.omega_hoa_syntax.specs.private.steps.Reading.{EndsList}
use Rattle.omega_hoa_syntax.proofs.part.read_numbers.Given as goal

abbrev pub invariant-loop-alloc : goal.invariant-loop-alloc
invariant-loop-alloc g l = record {
  read : IsReadTo g.P.Part.valid g.P.Part.written (EndsList g.P.Part.first g.P.Part.next) (g.S.TokenSource.left l.fn.source) l.numbers (g.S.TokenSource.left l.source);
  text : g.S.TokenSource.length l.source ≡ g.S.TokenSource.length l.fn.source;
}

abbrev pub decreases-loop-alloc : goal.decreases-loop-alloc
decreases-loop-alloc g l = length (g.S.TokenSource.left l.source)
