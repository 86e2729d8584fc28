-- The token is read, whatever follows it.
use Rattle.omega_hoa_syntax.proofs.StepLemmas.{finds_any}
use Rattle.omega_hoa_syntax.specs.First.{FirstIs}
use Rattle.omega_hoa_syntax.specs.Grammar.{word_row}
use Rattle.omega_hoa_syntax.specs.private.steps.Reading.{IsKind}
use Rattle.omega_hoa_syntax.proofs.single.WordPart.read.Goals as goal

pub returns-clause-finds : goal.returns-clause-finds
returns-clause-finds g c =
    finds_any c.take_word.result word_row (g.S.TokenSource.left c.args.source.now) (g.S.TokenSource.left c.take_word.new.source) (g.S.TokenSource.length c.args.source.now) (FirstIs IsKind) c.take_word.ensures.finds
