-- What stands for each part of a text in its plain text: comments, names and other bytes.
use Rattle.std.specs.Prelude.{◌≡◌, ◌≢◌, ℕ, false, not, ◌==◌, ◌⊎◌, List, [], ◌∷◌, ◌++◌, map, slice_index}
use Rattle.std.specs.List.{AllPass}
use Rattle.omega_pg_lenient.specs.Plain.{is_closed, plain_from, shown_in_name}
use Rattle.omega_pg_lenient.specs.declared.context.Context.TheVariants.{Outside}

-- the bytes have no line feed
abbrev pub IsInLine : List ℕ → Type 0
IsInLine bytes = AllPass (λ byte. not (byte == 10)) bytes

-- `//` or `#`, and bytes of the same line
abbrev pub IsInLineComment : List ℕ → Type 0
IsInLineComment text =
    (inside : List ℕ) × ((text ≡ 47 ∷ 47 ∷ inside) ⊎ (text ≡ 35 ∷ inside)) × IsInLine inside

-- `/*`, bytes without `*/`, and `*/`
abbrev pub IsBlockComment : List ℕ → Type 0
IsBlockComment text =
    (inside : List ℕ) × (text ≡ 47 ∷ 42 ∷ (inside ++ 42 ∷ 47 ∷ []))
    × (is_closed (inside ++ 42 ∷ []) ≡ false)

-- as many spaces as bytes
abbrev pub blanks : List ℕ → List ℕ
blanks text = map (λ byte. 32) text

-- a comment with the line feed after it is blank, and so is one that ends with the text
abbrev pub LineCommentsAreBlank : Type 0
LineCommentsAreBlank = (comment rest : List ℕ) → IsInLineComment comment
    → (plain_from Outside (comment ++ 10 ∷ rest) ≡ blanks comment ++ 32 ∷ plain_from Outside rest)
    × (plain_from Outside comment ≡ blanks comment)

-- a comment that `*/` ends is blank
abbrev pub BlockCommentsAreBlank : Type 0
BlockCommentsAreBlank = (comment rest : List ℕ) → IsBlockComment comment
    → plain_from Outside (comment ++ rest) ≡ blanks comment ++ plain_from Outside rest

-- a name without a quote in it stays a name, with `?` for what no name may have
abbrev pub NamesAreShown : Type 0
NamesAreShown = (name rest : List ℕ) → AllPass (λ byte. not (byte == 34)) name
    → plain_from Outside (34 ∷ (name ++ 34 ∷ rest))
    ≡ 34 ∷ (map shown_in_name name ++ 34 ∷ plain_from Outside rest)

-- a byte that begins neither a name nor a comment stays
abbrev pub OtherBytesStay : Type 0
OtherBytesStay = (byte : ℕ) (rest : List ℕ) → byte ≢ 34 → byte ≢ 35 → byte ≢ 47
    → plain_from Outside (byte ∷ rest) ≡ byte ∷ plain_from Outside rest

-- a slash that begins no comment stays
abbrev pub LoneSlashesStay : Type 0
LoneSlashesStay = (rest : List ℕ) → slice_index rest 0 ≢ 47 → slice_index rest 0 ≢ 42
    → plain_from Outside (47 ∷ rest) ≡ 47 ∷ plain_from Outside rest

-- from a `/*` that no `*/` ends, each byte stays
abbrev pub UnclosedCommentsStay : Type 0
UnclosedCommentsStay =
    (rest : List ℕ) → is_closed rest ≡ false → plain_from Outside (47 ∷ 42 ∷ rest) ≡ 47 ∷ 42 ∷ rest
