-- Where the bytes of a stream end.
use Rattle.std.specs.Prelude.{◌≡◌, ℕ, Bool, true, false, None, List, ◌++◌, length, IfSome}
use Rattle.omega_text.specs.Cut.{IsCut}
use Rattle.omega_text.specs.Lexeme.{Lexeme}
use Rattle.omega_text.specs.hoa.Format.{hoa_format}
use Rattle.omega_text.specs.hoa.Laws.{is_closed}
use Rattle.omega_text.specs.hoa.Pieces.{IsCutUpToFault, settled_lexemes}
use Rattle.omega_text.specs.declared.hoa.kind.HoaKind.{HoaKind}
use Rattle.omega_text.specs.declared.hoa.placed.Settled.{Settled}
use Rattle.omega_text.specs.declared.refusal.Refusal.{Refusal}
use Rattle.omega_hoa.specs.Feeding.{IsDivided}
use Rattle.omega_hoa.specs.Stream.{IsStream, IsStreamFault}
use Rattle.omega_hoa.specs.declared.item.Item.{Item}

-- the tokens so far are divided, and with those that are settled at the end they are the text's,
-- up to its fault if it has one
pub record IsAtEnd (settled : Settled) (inside : Bool) (seen : List ℕ)
    (lexemes : List (Lexeme HoaKind)) (items : List Item) (begins : ℕ) : Type 0 where
  pub divided : IsDivided seen lexemes items begins inside
  pub finished : IsCutUpToFault settled.fault seen (lexemes ++ settled_lexemes seen settled)

-- the tokens of a text make a stream with these items
pub record IsWholeStream (seen : List ℕ) (items : List Item) : Type 0 where
  pub lexemes : List (Lexeme HoaKind)
  pub cut : IsCut hoa_format seen lexemes
  pub stream : IsStream lexemes items

-- the end of the bytes settles one token at most, and none that shows its own end
pub record IsLast (settled : Settled) : Type 0 where
  pub second : settled.second ≡ None
  pub unclosed : IfSome settled.first (λ token. is_closed token.kind ≡ false)

-- a text that ends so is a stream
abbrev pub EndsWhole : Settled → Bool → Type 0
EndsWhole settled inside =
    (seen : List ℕ) (lexemes : List (Lexeme HoaKind)) (items : List Item) (begins : ℕ)
    → IsAtEnd settled inside seen lexemes items begins → IsWholeStream seen items

-- a text that ends so is refused
abbrev pub EndsRefused : Settled → Bool → Refusal → Type 0
EndsRefused settled inside refusal =
    (seen : List ℕ) (lexemes : List (Lexeme HoaKind)) (items : List Item) (begins : ℕ)
    → IsAtEnd settled inside seen lexemes items begins → IsStreamFault seen items refusal

-- a text of `count` bytes that ends so inside a segment is refused
abbrev pub EndsOpen : Settled → ℕ → Refusal → Type 0
EndsOpen settled count refusal =
    (seen : List ℕ) (lexemes : List (Lexeme HoaKind)) (items : List Item) (begins : ℕ)
    → count ≡ length seen → IsAtEnd settled true seen lexemes items begins
    → IsStreamFault seen items refusal
