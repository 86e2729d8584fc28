-- The forms of a game text's tokens, and which of them are tokens.
use Rattle.std.specs.Prelude.{◌≡◌, ℕ, ◌<◌, ◌≤◌, Bool, not, ◌&&◌, ◌==◌, ◌⊎◌}
use Rattle.std.specs.Prelude.{List, [], ◌∷◌, ◌++◌, length, take, codes, decimal}
use Rattle.std.specs.Int.{is_in_range}
use Rattle.std.specs.List.{AllPass}
use Rattle.omega_text.specs.Forms.{IsDigits, IsWord}
use Rattle.omega_text.specs.Limits.{most_number}
use Rattle.omega_text.specs.declared.pg.kind.PgKind.{PgKind}
use Rattle.omega_text.specs.declared.pg.kind.PgKind.TheVariants.{Comma, Name, Number, Parity}
use Rattle.omega_text.specs.declared.pg.kind.PgKind.TheVariants.{ParitySol, Semicolon}

-- a semicolon or a comma
abbrev pub IsSign : List ℕ → Type 0
IsSign text = (text ≡ codes ";") ⊎ (text ≡ codes ",")

-- a byte that may be between the quotes of a name: 32 to 126, and not the quote itself
abbrev pub is_name_byte : ℕ → Bool
is_name_byte byte = is_in_range 32 126 byte && not (byte == 34)

-- the bytes of a name between its quotes
abbrev pub quoted : List ℕ → List ℕ
quoted name = 34 ∷ (name ++ 34 ∷ [])

-- a name between quotes
abbrev pub IsQuoted : List ℕ → Type 0
IsQuoted text = (name : List ℕ) × (text ≡ quoted name) × AllPass is_name_byte name

-- what a token may look like, before it is judged
abbrev pub IsForm : List ℕ → Type 0
IsForm text = (IsDigits text ⊎ IsWord text) ⊎ (IsSign text ⊎ IsQuoted text)

-- the front of this many bytes is a form, and no longer front is one
pub record IsLongest (bytes : List ℕ) (count : ℕ) : Type 0 where
  pub within : count ≤ length bytes
  pub form : IsForm (take count bytes)
  pub longest : (more : ℕ) → count < more → more ≤ length bytes → IsForm (take more bytes) → ⊥

-- the text is the token of this kind and value: a number is written in decimal without needless zeros,
-- and only numbers have a value
abbrev pub Spells : PgKind → ℕ → List ℕ → Type 0
Spells Number value text = (value ≤ most_number) × (text ≡ decimal value)
Spells Parity value text = (value ≡ 0) × (text ≡ codes "parity")
Spells ParitySol value text = (value ≡ 0) × (text ≡ codes "paritysol")
Spells Semicolon value text = (value ≡ 0) × (text ≡ codes ";")
Spells Comma value text = (value ≡ 0) × (text ≡ codes ",")
Spells Name value text = (value ≡ 0) × IsQuoted text

-- the text is no token, whatever the kind and value
abbrev pub IsNoToken : List ℕ → Type 0
IsNoToken text = (kind : PgKind) (value : ℕ) → Spells kind value text → ⊥
