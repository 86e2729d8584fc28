-- The plain text of a lenient text: spaces stand for its comments and its byte order mark, and `?` for each byte that
-- no name of a game may have. Each other byte stays, so that places are the same.
use Rattle.std.specs.Prelude.{ℕ, Bool, false, ◌==◌, ◌&&◌, ◌||◌, List}
use Rattle.std.specs.Prelude.{[], ◌∷◌, drop, slice_index, if◌then◌else◌}
use Rattle.omega_text.specs.pg.Forms.{is_name_byte}
use Rattle.omega_pg_lenient.specs.declared.context.Context.{Context}
use Rattle.omega_pg_lenient.specs.declared.context.Context.TheVariants.{Block, Closing, Line, Name}
use Rattle.omega_pg_lenient.specs.declared.context.Context.TheVariants.{Opening, Outside, Unclosed}

-- `*/` is somewhere in the bytes
abbrev pub is_closed : List ℕ → Bool
is_closed [] = false
is_closed (byte ∷ rest) = (byte == 42 && slice_index rest 0 == 47) || is_closed rest

-- after a slash, by the next byte: `//` begins a comment that ends with its line, and `/*` one that `*/` ends
abbrev pub after_slash : List ℕ → Context
after_slash rest =
    if slice_index rest 0 == 47 then Line else
    if slice_index rest 0 == 42 then (if is_closed (drop 1 rest) then Opening else Unclosed) else
    Outside

-- after a byte outside names and comments: a quote begins a name, and `#` a comment that ends with its line
abbrev pub after_outside : ℕ → List ℕ → Context
after_outside byte rest =
    if byte == 34 then Name else
    if byte == 35 then Line else
    if byte == 47 then after_slash rest else
    Outside

-- where a text is after a byte, by the bytes that follow it
abbrev pub after : Context → ℕ → List ℕ → Context
after Outside byte rest = after_outside byte rest
after Name byte rest = if byte == 34 then Outside else Name
after Line byte rest = if byte == 10 then Outside else Line
after Opening byte rest = Block
after Block byte rest = if byte == 42 && slice_index rest 0 == 47 then Closing else Block
after Closing byte rest = Outside
after Unclosed byte rest = Unclosed

-- a byte after the quote that begins a name: one that a name may have, the second quote and a line feed stay
abbrev pub shown_in_name : ℕ → ℕ
shown_in_name byte = if (is_name_byte byte || byte == 34) || byte == 10 then byte else 63

-- a byte outside names and comments, unless a comment begins with it
abbrev pub shown_outside : Context → ℕ → ℕ
shown_outside Line byte = 32
shown_outside Opening byte = 32
shown_outside Outside byte = byte
shown_outside Name byte = byte
shown_outside Block byte = byte
shown_outside Closing byte = byte
shown_outside Unclosed byte = byte

-- what stands for a byte, by where the text is before it and after it
abbrev pub shown : Context → Context → ℕ → ℕ
shown Outside next byte = shown_outside next byte
shown Name next byte = shown_in_name byte
shown Line next byte = 32
shown Opening next byte = 32
shown Block next byte = 32
shown Closing next byte = 32
shown Unclosed next byte = byte

-- the plain text of the bytes that are left
abbrev pub plain_from : Context → List ℕ → List ℕ
plain_from context [] = []
plain_from context (byte ∷ rest) =
    shown context (after context byte rest) byte ∷ plain_from (after context byte rest) rest

-- the byte order mark of UTF-8 begins the text
abbrev pub begins_with_mark : List ℕ → Bool
begins_with_mark source =
    (slice_index source 0 == 239 && slice_index source 1 == 187) && slice_index source 2 == 191

-- the plain text of a text
abbrev pub plain_text : List ℕ → List ℕ
plain_text source =
    if begins_with_mark source then 32 ∷ 32 ∷ 32 ∷ plain_from Outside (drop 3 source) else
    plain_from Outside source
