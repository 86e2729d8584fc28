-- The layout of aliases in memory: their names as a set, and each definition with its extent, and its nodes if they are
-- kept.
use Rattle.std.specs.Prelude.{◌≡◌, ℕ, List, [], map, option_map}
use Rattle.std.specs.Coded.{Coded, code_by, coded_list, coded×, coded_ℕ}
use Rattle.omega_hoa_label_text.specs.Expanding.{Defined, entries_of, extent_of}
use Rattle.omega_hoa_label.specs.Raw.{RawLabelTree}
use Rattle.omega_hoa_label_text.specs.private.Emitting.{AllKept}
use Rattle.omega_hoa_label.specs.contracts.raw.RawLabel as raw
use Rattle.omega_hoa_label_text.specs.declared.aliases.Aliases.TheInside.{Inside}
use Rattle.omega_hoa_label_text.specs.declared.aliases.Definition.{Definition}
use Rattle.std.proofs.Common.{refl}

-- a definition is stored as its name and its body
abbrev pub defined_code : Coded Defined
defined_code =
    code_by (List ℕ × RawLabelTree) (coded× (coded_list coded_ℕ) raw.the_row.coded)
    (λ d. (d.name, d.body)) (λ p. record { name = p.0; body = p.1 }) (λ _. refl)

-- the name and the body of a definition
abbrev pub defined_of : Definition → Defined
defined_of definition = record { name = definition.name; body = definition.body }

-- the definitions in order
abbrev pub definitions_held : Inside → List Defined
definitions_held a = map defined_of a.definitions.items

-- the set has the names in order, and each definition the extent of what it means, and its nodes if any are kept
pub record IsAliases (a : Inside) : Type 0 where
  pub named : map (λ key. key.items) a.names.keys ≡ map (λ d. d.name) a.definitions.items
  pub measured : map (λ d. d.extent) a.definitions.items
      ≡ map (λ entry. option_map extent_of entry.meaning) (entries_of [] (definitions_held a))
  pub kept : AllKept (map (λ d. d.expanded) a.definitions.items) (entries_of [] (definitions_held a))
