-- Rows of expressions, and the header that an item is.
use Rattle.std.specs.Prelude.{List, ◌∷◌}
use Rattle.omega_hoa_acceptance.specs.Raw.{RawAccTree}
use Rattle.omega_hoa_label.specs.Raw.{RawLabelTree}
use Rattle.omega_hoa_syntax.specs.Symbols.{AutomatonSymbol, formula, label}
use Rattle.omega_hoa_syntax.specs.declared.header.name.HeaderKind.{HeaderKind}
use Rattle.omega_hoa_syntax.specs.declared.header.name.HeaderKind.TheVariants as named
use Rattle.omega_hoa_syntax.specs.declared.raw_item.RawItem.{RawItem}
use Rattle.omega_hoa_syntax.specs.declared.raw_item.RawItem.TheVariants as item

-- label-expr
abbrev pub expression_row : RawLabelTree → List AutomatonSymbol → List AutomatonSymbol
expression_row tree others = label tree ∷ others

-- acc-expr
abbrev pub formula_row : RawAccTree → List AutomatonSymbol → List AutomatonSymbol
formula_row tree others = formula tree ∷ others

-- the header that an item is
abbrev pub item_header : RawItem → HeaderKind
item_header (item.States count) = named.States
item_header (item.Start states) = named.Start
item_header (item.Propositions count names) = named.Propositions
item_header (item.Alias name definition) = named.Alias
item_header (item.Acceptance count tree) = named.Acceptance
item_header (item.AccName name) = named.AccName
item_header (item.Tool first second) = named.Tool
item_header (item.Name bytes) = named.Name
item_header (item.Properties words) = named.Properties
item_header (item.Unknown name values) = named.Unknown
