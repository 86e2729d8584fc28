-- Which names of propositions stand without quotes in the formulas that Spot reads. By Spot's manual of these formulas
-- (tl.pdf, atomic propositions) that is an identifier that is no keyword and begins with no operator of one operand.
use Rattle.std.specs.Prelude.{ℕ, ◌&&◌, ◌||◌, ◌==◌, Bool, false, not}
use Rattle.std.specs.Prelude.{if◌then◌else◌, List, [], ◌∷◌, ◌++◌, codes}
use Rattle.std.specs.Str.{bytes_eq, str_eq_ignore_ascii_case}
use Rattle.omega_hoa_edges.specs.Names.{is_identifier}

-- whether a name is a keyword, in letters of either case: a constant, an operator of several letters, or what begins
-- the cycle of a word
abbrev pub is_keyword : List ℕ → Bool
is_keyword name =
    (((str_eq_ignore_ascii_case name (codes "true") || str_eq_ignore_ascii_case name (codes "false"))
    || str_eq_ignore_ascii_case name (codes "xor"))
    || str_eq_ignore_ascii_case name (codes "first_match"))
    || str_eq_ignore_ascii_case name (codes "cycle")

-- whether a name is an operator of two operands, `M`, `R`, `U`, `V` or `W`, or a constant of the Hanoi format, `t` or
-- `f`
abbrev pub is_single_sign : List ℕ → Bool
is_single_sign name =
    (((((bytes_eq name (codes "M") || bytes_eq name (codes "R")) || bytes_eq name (codes "U"))
    || bytes_eq name (codes "V")) || bytes_eq name (codes "W")) || bytes_eq name (codes "t"))
    || bytes_eq name (codes "f")

-- whether a name begins with an operator of one operand, `F`, `G` or `X`, so that `GFa` would be `G F a`
abbrev pub begins_with_operator : List ℕ → Bool
begins_with_operator [] = false
begins_with_operator (byte ∷ rest) = (byte == 70 || byte == 71) || byte == 88

-- whether Spot reads something else than a name
abbrev pub is_reserved : List ℕ → Bool
is_reserved name = (is_keyword name || is_single_sign name) || begins_with_operator name

-- whether a name stands without quotes
abbrev pub stands_bare : List ℕ → Bool
stands_bare name = is_identifier name && not (is_reserved name)

-- a name, in quotes unless it stands without
abbrev pub name_text : List ℕ → List ℕ
name_text name = if stands_bare name then name else codes "\"" ++ (name ++ codes "\"")
