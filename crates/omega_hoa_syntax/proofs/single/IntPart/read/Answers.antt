-- The token is read, whatever follows it.
use Rattle.omega_hoa_syntax.proofs.StepLemmas.{finds_any}
use Rattle.omega_hoa_syntax.specs.First.{FirstIs}
use Rattle.omega_hoa_syntax.specs.Grammar.{int_row}
use Rattle.omega_hoa_syntax.specs.private.steps.Reading.{IsKind}
use Rattle.omega_hoa_syntax.proofs.single.IntPart.read.Goals as goal

pub returns-clause-finds : goal.returns-clause-finds
returns-clause-finds g c =
    finds_any c.take_int.result int_row (g.S.TokenSource.left c.args.source.now) (g.S.TokenSource.left c.take_int.new.source) (g.S.TokenSource.length c.args.source.now) (FirstIs IsKind) c.take_int.ensures.finds
