-- What is read of aliases, token by token.
use Rattle.std.specs.Prelude.{ℕ, if◌then◌else◌, List, [], ◌∷◌, ◌++◌, codes, fold, map}
use Rattle.std.specs.Borrow.{Bor}
use Rattle.std.specs.Str.{bytes_eq}
use Rattle.omega_text.specs.Lexeme.{Lexeme}
use Rattle.omega_text.specs.declared.hoa.kind.HoaKind.{HoaKind}
use Rattle.omega_text.specs.declared.hoa.kind.HoaKind.TheVariants as kind
use Rattle.omega_hoa_syntax.specs.Symbols.{without_last}
use Rattle.omega_hoa_diagnostics.specs.Aliases.{AliasMention, defined as defined_name, used as used_name}
use Rattle.omega_hoa_diagnostics.specs.declared.aliases.AliasMention.{AliasMention as Mention}
use Rattle.omega_hoa_diagnostics.specs.declared.aliases.AliasMention.TheVariants.{Defined, Used}
use Rattle.omega_hoa_diagnostics.specs.declared.aliases.OpenItem.{OpenItem}
use Rattle.omega_hoa_diagnostics.specs.declared.aliases.OpenItem.TheVariants.{Alias, Definition, Other}

-- what is said of an alias, without the address of its bytes
abbrev pub as_said : Mention → AliasMention
as_said (Used name) = used_name name.now
as_said (Defined name) = defined_name name.now

-- the part of a text that is open: the item of an alias before its name, the definition of a name, or another
pub data OpenPart : Type 0 where
  other : OpenPart
  name_next : OpenPart
  definition : List ℕ → OpenPart

-- the part that an item opens, without the address of its bytes
abbrev pub as_open : OpenItem → OpenPart
as_open Other = other
as_open Alias = name_next
as_open (Definition name) = definition name.now

-- what was read so far: the part that is open, and what is said of aliases
pub record Reading : Type 0 where
  pub open_part : OpenPart
  pub said : List AliasMention

-- what is said at the end of a part
abbrev pub said_at_end : OpenPart → List AliasMention
said_at_end other = []
said_at_end name_next = []
said_at_end (definition name) = defined_name name ∷ []

-- what was read after an alias name
abbrev pub after_name : Reading → OpenPart → List ℕ → Reading
after_name reading other name = record reading { said = reading.said ++ used_name name ∷ [] }
after_name reading name_next name = record reading { open_part = definition name }
after_name reading (definition defined) name =
    record reading { said = reading.said ++ used_name name ∷ [] }

-- what was read after the beginning of a part
abbrev pub after_beginning : Reading → OpenPart → Reading
after_beginning reading part = record {
  open_part = part;
  said = reading.said ++ said_at_end reading.open_part;
}

-- the part that a header of this name opens
abbrev pub part_of : List ℕ → OpenPart
part_of name = if bytes_eq name (codes "Alias") then name_next else other

-- what was read after a token of this kind and text
abbrev pub after_token : Reading → HoaKind → List ℕ → Reading
after_token reading kind.AliasName text = after_name reading reading.open_part text
after_token reading kind.HeaderName text = after_beginning reading (part_of (without_last text))
after_token reading kind.Body text = after_beginning reading other
after_token reading kind text = reading

-- one step for each token
abbrev pub step : Reading → Lexeme HoaKind → Reading
step reading lexeme = after_token reading lexeme.kind lexeme.text

-- what was read after tokens
abbrev pub run : Reading → List (Lexeme HoaKind) → Reading
run reading lexemes = fold step reading lexemes

-- nothing was read
abbrev pub nothing : Reading
nothing = record { open_part = other; said = [] }

-- the names that are referred to
abbrev pub names_in : List (Bor (List ℕ)) → List (List ℕ)
names_in keys = map (λ key. key.now) keys
