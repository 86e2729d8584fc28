-- What a call reads after the header of an item.
use Rattle.std.specs.Prelude.{◌≡◌, ℕ, List, Result, IfOk}
use Rattle.omega_hoa_syntax.specs.Grammar.{IsRawItem, content_row, item_name}
use Rattle.omega_hoa_syntax.specs.private.steps.Rows.{item_header}
use Rattle.omega_hoa_syntax.specs.private.steps.Parts.{EndsItem}
use Rattle.omega_hoa_syntax.specs.private.steps.Reading.{Finds, Given}
use Rattle.omega_hoa_syntax.specs.Symbols.{Tokens}
use Rattle.omega_hoa_syntax.specs.First.{FirstIs}
use Rattle.omega_hoa_syntax.specs.declared.header.name.HeaderKind.{HeaderKind}
use Rattle.omega_hoa_syntax.specs.declared.header.name.HeaderKind.TheVariants as named
use Rattle.omega_hoa_syntax.specs.declared.raw_item.RawItem.{RawItem}
use Rattle.omega_text.specs.declared.refusal.Refusal.{Refusal}

-- an item that can be written was read, and this holds of it
abbrev pub GivesWhere : (RawItem → Type 0) → (old new : Tokens) → Result RawItem Refusal → Type 0
GivesWhere Is old new result = IfOk result (Given (λ it. Is it × IsRawItem it) content_row old new)

-- an item that this holds of is read if it was written, in a text of this length
abbrev pub FindsWhere : (RawItem → Type 0) → (old new : Tokens) → ℕ → Result RawItem Refusal → Type 0
FindsWhere Is = Finds (λ it. Is it × IsRawItem it) content_row (FirstIs EndsItem)

-- an item of this header was read
abbrev pub GivesContent : HeaderKind → (old new : Tokens) → Result RawItem Refusal → Type 0
GivesContent header = GivesWhere (λ it. item_header it ≡ header)

-- if one is written, it is found
abbrev pub FindsContent : HeaderKind → (old new : Tokens) → ℕ → Result RawItem Refusal → Type 0
FindsContent header = FindsWhere (λ it. item_header it ≡ header)

-- an unknown header of this name
pub record IsUnknownItem (name : List ℕ) (it : RawItem) : Type 0 where
  pub unknown : item_header it ≡ named.Unknown
  pub called : item_name it ≡ name

-- such an item was read
abbrev pub GivesUnknown : List ℕ → (old new : Tokens) → Result RawItem Refusal → Type 0
GivesUnknown name = GivesWhere (IsUnknownItem name)

-- if one is written, it is found
abbrev pub FindsUnknown : List ℕ → (old new : Tokens) → ℕ → Result RawItem Refusal → Type 0
FindsUnknown name = FindsWhere (IsUnknownItem name)
