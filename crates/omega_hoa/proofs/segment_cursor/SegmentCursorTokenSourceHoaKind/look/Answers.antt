-- The next token is the first of those that are left.
use Rattle.std.proofs.Common.{ap, ◌∙◌, sym}
use Rattle.std.specs.Prelude.{option_map, slice_get}
use Rattle.omega_text.specs.Lexeme.{lexeme_of}
use Rattle.omega_hoa.proofs.Fronts.{parts_first, parts_none}
use Rattle.omega_hoa.proofs.segment_cursor.SegmentCursorTokenSourceHoaKind.look.Goals as goal

pub returns-in_err-kind : goal.returns-in_err-kind
returns-in_err-kind c =
    rw (← c.self.view_is)
    (ap (option_map lexeme_of) c.from_residual.ensures ∙ sym (ap (λ lexemes. slice_get lexemes 0) (parts_none _ _ _ _ _ c.self.inside.ahead c.in_err-kind.was)))

pub returns : goal.returns
returns c = rw (← c.self.view_is) (parts_first _ _ _ _ _ c.self.inside.ahead _ c.in_ok-kind.was)
