-- The next token is the first of those that are left.
use Rattle.std.proofs.Common.{ap, ◌∙◌, sym}
use Rattle.std.specs.Prelude.{option_map, slice_get}
use Rattle.omega_text.specs.Lexeme.{lexeme_of}
use Rattle.omega_text.proofs.formats.Lefts.{parts_first, parts_none}
use Rattle.omega_text.proofs.text_cursor.TextCursorTokenSource.look.Goals as goal

pub returns-in_err-kind : goal.returns-in_err-kind
returns-in_err-kind g c =
    rw (← c.self.view_is)
    (ap (option_map lexeme_of) c.from_residual.ensures ∙ sym (ap (λ lexemes. slice_get lexemes 0) (parts_none _ _ g.row.K.coded _ _ _ _ c.self.inside.left c.in_err-kind.was)))

pub returns : goal.returns
returns g c = rw (← c.self.view_is) (parts_first _ _ g.row.K.coded _ _ _ _ c.self.inside.left _ c.in_ok-kind.was)
