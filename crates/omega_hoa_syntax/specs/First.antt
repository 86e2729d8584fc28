-- The first of the symbols that are to be read.
use Rattle.std.specs.Prelude.{List, [], ◌∷◌}
use Rattle.omega_text.specs.declared.hoa.kind.HoaKind.{HoaKind}
use Rattle.omega_text.specs.declared.hoa.kind.HoaKind.TheVariants as kind
use Rattle.omega_hoa_syntax.specs.Symbols.{AutomatonSymbol, number, word, header}
use Rattle.omega_hoa_syntax.specs.Symbols.{alias, text, sign, label, formula}

-- the first symbol is a token, and this holds of its kind
abbrev pub FirstIs : (HoaKind → Type 0) → List AutomatonSymbol → Type 0
FirstIs Holds [] = ⊥
FirstIs Holds (number n ∷ others) = Holds kind.Int
FirstIs Holds (word bytes ∷ others) = Holds kind.Identifier
FirstIs Holds (header bytes ∷ others) = Holds kind.HeaderName
FirstIs Holds (alias bytes ∷ others) = Holds kind.AliasName
FirstIs Holds (text bytes ∷ others) = Holds kind.String
FirstIs Holds (sign kind ∷ others) = Holds kind
FirstIs Holds (label tree ∷ others) = ⊥
FirstIs Holds (formula tree ∷ others) = ⊥
