-- By which tokens the parts of a text begin, and which tokens may follow them.
use Rattle.std.specs.Prelude.{Bool, true, false}
use Rattle.omega_text.specs.declared.hoa.kind.HoaKind.{HoaKind}
use Rattle.omega_text.specs.declared.hoa.kind.HoaKind.TheVariants as kind

-- an INT
abbrev pub is_int : HoaKind → Bool
is_int kind.Int = true
is_int other = false

-- an IDENTIFIER
abbrev pub is_identifier : HoaKind → Bool
is_identifier kind.Identifier = true
is_identifier other = false

-- a STRING
abbrev pub is_string : HoaKind → Bool
is_string kind.String = true
is_string other = false

-- a HEADERNAME
abbrev pub is_header : HoaKind → Bool
is_header kind.HeaderName = true
is_header other = false

-- the sign `&`
abbrev pub is_and : HoaKind → Bool
is_and kind.And = true
is_and other = false

-- the sign `[`
abbrev pub is_bracket : HoaKind → Bool
is_bracket kind.OpenBracket = true
is_bracket other = false

-- the sign `{`
abbrev pub is_brace : HoaKind → Bool
is_brace kind.OpenBrace = true
is_brace other = false

-- BOOLEAN, INT or IDENTIFIER
abbrev pub is_parameter : HoaKind → Bool
is_parameter kind.True = true
is_parameter kind.False = true
is_parameter kind.Int = true
is_parameter kind.Identifier = true
is_parameter other = false

-- BOOLEAN, INT, STRING or IDENTIFIER
abbrev pub is_value : HoaKind → Bool
is_value kind.String = true
is_value other = is_parameter other

-- an edge begins with `[` or with an INT
abbrev pub is_edge : HoaKind → Bool
is_edge kind.OpenBracket = true
is_edge kind.Int = true
is_edge other = false

-- a header or the mark before the body comes after an item
abbrev pub EndsItem : HoaKind → Type 0
EndsItem kind.HeaderName = Unit {0}
EndsItem kind.Body = Unit {0}
EndsItem other = ⊥

-- a header or the mark after the body comes after a state
abbrev pub EndsState : HoaKind → Type 0
EndsState kind.HeaderName = Unit {0}
EndsState kind.End = Unit {0}
EndsState other = ⊥

-- an edge or what comes after a state comes after an edge
abbrev pub EndsEdge : HoaKind → Type 0
EndsEdge kind.OpenBracket = Unit {0}
EndsEdge kind.Int = Unit {0}
EndsEdge kind.HeaderName = Unit {0}
EndsEdge kind.End = Unit {0}
EndsEdge other = ⊥

-- no operator comes after a conj
abbrev pub EndsConj : HoaKind → Type 0
EndsConj kind.And = ⊥
EndsConj other = Unit {0}
