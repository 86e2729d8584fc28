-- What stands for each part of a line of a lenient solution text in its bare text: numbers, names and `-1`.
use Rattle.std.specs.Prelude.{◌≡◌, ◌≢◌, ℕ, zero, suc, ◌<◌, false, not, ◌==◌, ◌||◌, ◌⊎◌, List, [], ◌∷◌}
use Rattle.std.specs.Prelude.{◌++◌, slice_index}
use Rattle.std.specs.List.{AllPass}
use Rattle.omega_text.specs.Bytes.{is_digit, is_white}
use Rattle.omega_pg_lenient.specs.Parts.{blanks}
use Rattle.omega_pg_lenient.specs.SolutionLines.{bare_from, place_in_line}
use Rattle.omega_pg_lenient.specs.declared.line_place.LineContext.TheVariants.{Between}

-- the bare text of bytes of a plain text that begin with a line
abbrev pub bare_lines : List ℕ → List ℕ
bare_lines bytes = bare_from (place_in_line Between 0) bytes

-- white space, or nothing
abbrev pub IsWhiteSpace : List ℕ → Type 0
IsWhiteSpace bytes = AllPass is_white bytes

-- white space, digits, and no digit after them but what is asked of the rest
pub record IsNumberThen (Rest : List ℕ → Type 0) (bytes : List ℕ) : Type 0 where
  pub gap : List ℕ
  pub first : ℕ
  pub others : List ℕ
  pub rest : List ℕ
  pub split : bytes ≡ gap ++ first ∷ (others ++ rest)
  pub white : IsWhiteSpace gap
  pub digits : AllPass is_digit (first ∷ others)
  pub ended : is_digit (slice_index rest 0) ≡ false
  pub behind : Rest rest

-- so many numbers, with white space before, between and after them
abbrev pub AreNumbers : ℕ → List ℕ → Type 0
AreNumbers zero bytes = IsWhiteSpace bytes
AreNumbers (suc n) bytes = IsNumberThen (AreNumbers n) bytes

-- the bytes between the quotes of a name: neither quotes nor line feeds
abbrev pub IsNameText : List ℕ → Type 0
IsNameText bytes = AllPass (λ byte. not (byte == 34 || byte == 10)) bytes

-- a name in its quotes, before these bytes
abbrev pub named_before : (name rest : List ℕ) → List ℕ
named_before name rest = 34 ∷ (name ++ 34 ∷ rest)

-- bytes with neither a quote nor a hyphen stay up to a `;`, and behind it a line begins
abbrev pub OtherLinesStay : Type 0
OtherLinesStay =
    (line rest : List ℕ) → AllPass (λ byte. not (byte == 34 || byte == 45)) line
    → bare_lines (line ++ 59 ∷ rest) ≡ line ++ 59 ∷ bare_lines rest

-- a name that ends a line after an identifier, a winner and perhaps a successor is blank
abbrev pub LastNamesAreBlank : Type 0
LastNamesAreBlank = (n : ℕ) (front name gap rest : List ℕ) → (n ≡ 2) ⊎ (n ≡ 3)
    → AreNumbers n front → IsNameText name → IsWhiteSpace gap
    → bare_lines (front ++ named_before name (gap ++ 59 ∷ rest))
    ≡ front ++ (blanks (named_before name []) ++ (gap ++ 59 ∷ bare_lines rest))

-- `-1` that ends a line after an identifier and a winner is blank
abbrev pub NoChoicesAreBlank : Type 0
NoChoicesAreBlank = (front gap rest : List ℕ) → AreNumbers 2 front → IsWhiteSpace gap
    → bare_lines (front ++ 45 ∷ 49 ∷ (gap ++ 59 ∷ rest))
    ≡ front ++ 32 ∷ 32 ∷ (gap ++ 59 ∷ bare_lines rest)

-- `-1` and a name that end a line after an identifier and a winner are blank
abbrev pub NamedNoChoicesAreBlank : Type 0
NamedNoChoicesAreBlank = (front between name gap rest : List ℕ) → AreNumbers 2 front
    → IsWhiteSpace between → IsNameText name → IsWhiteSpace gap
    → bare_lines (front ++ 45 ∷ 49 ∷ (between ++ named_before name (gap ++ 59 ∷ rest)))
    ≡ front ++ 32 ∷ 32 ∷ (between ++ (blanks (named_before name []) ++ (gap ++ 59 ∷ bare_lines rest)))

-- the bytes at the front of a line stay, before this rest
abbrev pub StaysBefore : (front rest : List ℕ) → Type 0
StaysBefore front rest = (shown : List ℕ) × (bare_lines (front ++ rest) ≡ front ++ shown)

-- a hyphen stays, with the digits behind it, if not just two numbers are before it in its line
abbrev pub EarlyAndLateHyphensStay : Type 0
EarlyAndLateHyphensStay = (n : ℕ) (front digits rest : List ℕ) → AreNumbers n front → n ≢ 2
    → AllPass is_digit digits → StaysBefore (front ++ 45 ∷ digits) rest

-- after two numbers a hyphen stays that does not begin `-1`
abbrev pub LoneHyphensStay : Type 0
LoneHyphensStay = (front rest : List ℕ) → AreNumbers 2 front → slice_index rest 0 ≢ 49
    → StaysBefore (front ++ 45 ∷ []) rest

-- and so does `-1` if neither `;` nor a name is next
abbrev pub InnerNoChoicesStay : Type 0
InnerNoChoicesStay = (front gap : List ℕ) (next : ℕ) (rest : List ℕ) → AreNumbers 2 front
    → IsWhiteSpace gap → is_white next ≡ false → next ≢ 59 → next ≢ 34
    → StaysBefore (front ++ 45 ∷ 49 ∷ []) (gap ++ next ∷ rest)

-- a quote stays, with what is behind it in its line, if there are not two numbers before it
abbrev pub EarlyQuotesStay : Type 0
EarlyQuotesStay = (n : ℕ) (front name rest : List ℕ) → AreNumbers n front → n < 2
    → IsNameText name → StaysBefore (front ++ 34 ∷ name) rest

-- and so does a name
abbrev pub EarlyNamesStay : Type 0
EarlyNamesStay = (n : ℕ) (front name rest : List ℕ) → AreNumbers n front → n < 2
    → IsNameText name → StaysBefore (front ++ named_before name []) rest

-- a name stays after which something else than `;` is next
abbrev pub InnerNamesStay : Type 0
InnerNamesStay = (n : ℕ) (front name gap : List ℕ) (next : ℕ) (rest : List ℕ) → AreNumbers n front
    → IsNameText name → IsWhiteSpace gap → is_white next ≡ false → next ≢ 59
    → StaysBefore (front ++ named_before name []) (gap ++ next ∷ rest)

-- a quote stays whose line ends before another
abbrev pub OpenNamesStay : Type 0
OpenNamesStay = (n : ℕ) (front name rest : List ℕ) → AreNumbers n front → IsNameText name
    → StaysBefore (front ++ 34 ∷ (name ++ 10 ∷ [])) rest
