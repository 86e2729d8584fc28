-- A segment with one token more.
use Rattle.omega_text.specs.Lexeme.{lexeme_of}
use Rattle.omega_hoa.proofs.Dividing.{open_push}
use Rattle.omega_hoa.proofs.Outlines.{ends}
use Rattle.omega_hoa.proofs.Taking.{no_end}
use Rattle.omega_hoa.proofs.outline.gone_on.Goals as goal

pub returns-in-End : goal.returns-in-End
returns-in-End c = λ lexemes begun. ends lexemes (lexeme_of c.args.token.now) begun c.in-End.is

pub returns-in_default : goal.returns-in_default
returns-in_default c = λ lexemes begun. open_push lexemes (lexeme_of c.args.token.now) begun (no_end c.args.token.now.kind c.in_default.not-End c.in_default.not-Abort)
