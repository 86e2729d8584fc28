-- A mode and the parts in which it is kept.
use Rattle.std.specs.Prelude.{ℕ}
use Rattle.omega_text.specs.declared.hoa.kept_mode.KeptMode.TheInside.{Inside}
use Rattle.omega_text.specs.declared.hoa.kept_mode.Stage.{Stage}
use Rattle.omega_text.specs.declared.hoa.kept_mode.Stage.TheVariants as stage
use Rattle.omega_text.specs.declared.hoa.kind.HoaKind.{HoaKind}
use Rattle.omega_text.specs.declared.hoa.kind.HoaKind.TheVariants.{Identifier}
use Rattle.omega_text.specs.declared.hoa.mode.Mode.{Mode}
use Rattle.omega_text.specs.declared.hoa.mode.Mode.TheVariants.{Start, Word, At, Alias, Digits, Quoted}
use Rattle.omega_text.specs.declared.hoa.mode.Mode.TheVariants.{Escaped, Slash, Comment, Star, Slashed, Dash}
use Rattle.omega_text.specs.declared.hoa.mode.Mode.TheVariants.{Dashes, Mark, Whole, Blank}

-- the mode at a stage, of this kind and count if it has them
abbrev pub mode_at : Stage → HoaKind → ℕ → Mode
mode_at stage.Start kind count = Start
mode_at stage.Word kind count = Word kind
mode_at stage.At kind count = At
mode_at stage.Alias kind count = Alias
mode_at stage.Digits kind count = Digits
mode_at stage.Quoted kind count = Quoted
mode_at stage.Escaped kind count = Escaped
mode_at stage.Slash kind count = Slash
mode_at stage.Comment kind count = Comment count
mode_at stage.Star kind count = Star count
mode_at stage.Slashed kind count = Slashed count
mode_at stage.Dash kind count = Dash
mode_at stage.Dashes kind count = Dashes
mode_at stage.Mark kind count = Mark kind count
mode_at stage.Whole kind count = Whole kind
mode_at stage.Blank kind count = Blank

-- the mode that parts are
abbrev pub mode_of : Inside → Mode
mode_of parts = mode_at parts.stage parts.kind parts.count

-- the parts of a mode; a missing kind or count is always the same
abbrev pub parts_of : Mode → Inside
parts_of Start = record { stage = stage.Start; kind = Identifier; count = 0 }
parts_of (Word kind) = record { stage = stage.Word; kind = kind; count = 0 }
parts_of At = record { stage = stage.At; kind = Identifier; count = 0 }
parts_of Alias = record { stage = stage.Alias; kind = Identifier; count = 0 }
parts_of Digits = record { stage = stage.Digits; kind = Identifier; count = 0 }
parts_of Quoted = record { stage = stage.Quoted; kind = Identifier; count = 0 }
parts_of Escaped = record { stage = stage.Escaped; kind = Identifier; count = 0 }
parts_of Slash = record { stage = stage.Slash; kind = Identifier; count = 0 }
parts_of (Comment count) = record { stage = stage.Comment; kind = Identifier; count = count }
parts_of (Star count) = record { stage = stage.Star; kind = Identifier; count = count }
parts_of (Slashed count) = record { stage = stage.Slashed; kind = Identifier; count = count }
parts_of Dash = record { stage = stage.Dash; kind = Identifier; count = 0 }
parts_of Dashes = record { stage = stage.Dashes; kind = Identifier; count = 0 }
parts_of (Mark kind count) = record { stage = stage.Mark; kind = kind; count = count }
parts_of (Whole kind) = record { stage = stage.Whole; kind = kind; count = 0 }
parts_of Blank = record { stage = stage.Blank; kind = Identifier; count = 0 }
