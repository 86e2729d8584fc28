-- What is kept of the aliases of a header, one more at a time.
use Rattle.std.specs.Prelude.{◌≡◌, ℕ, Bool, false, true, ◌||◌, List, [], ◌∷◌, ◌++◌, map, is_none, MatchOption}
use Rattle.std.specs.List.{list_any}
use Rattle.std.specs.Str.{bytes_eq}
use Rattle.omega_text.specs.Cases.{never, or_automaton, or_memory}
use Rattle.omega_text.specs.declared.refusal.Refusal.{Refusal}
use Rattle.omega_text.specs.declared.refusal.automaton.AutomatonFault.TheVariants.{Alias}
use Rattle.omega_text.specs.Cases.{IsMemory}
use Rattle.omega_hoa_label_text.specs.Expanding.{Defined, entries_of, expansion}
use Rattle.omega_hoa_label.specs.Raw.{RawLabelTree}
use Rattle.omega_hoa_syntax.specs.declared.raw_item.RawItem.{RawItem}
use Rattle.omega_hoa_automaton.specs.Automaton.{has_repeat}
use Rattle.omega_hoa_automaton.specs.Faults.{is_deep, is_large}
use Rattle.omega_hoa_automaton.specs.Items.{alias_in}
use Rattle.omega_hoa_automaton.specs.declared.making.definitions.Definitions.{Definitions}

-- whether an alias has the name
abbrev pub is_named : List Defined → List ℕ → Bool
is_named definitions name = list_any (λ defined. bytes_eq name defined.name) definitions

-- one more alias was put last: its name is new, its definition means something,
-- and what is too deep or too large is noted
pub record HasDefined (old : Definitions) (name : List ℕ) (body : RawLabelTree)
    (new : Definitions) : Type 0 where
  pub aliases : new.aliases ≡ old.aliases ++ record { name = name; body = body } ∷ []
  pub fresh : is_named old.aliases name ≡ false
  pub defined : is_none (expansion old.aliases body) ≡ false
  pub deep : new.deep ≡ (old.deep || is_deep (expansion old.aliases body))
  pub large : new.large ≡ (old.large || is_large (expansion old.aliases body))

-- the name is there or the definition means nothing, or want of memory
abbrev pub IsUndefinable : Definitions → List ℕ → RawLabelTree → Refusal → Type 0
IsUndefinable old name body = or_automaton (λ fault. (fault ≡ Alias)
    × ((is_named old.aliases name || is_none (expansion old.aliases body)) ≡ true)) (or_memory never)

-- one more item was met: an alias was put last, and of another item nothing is kept
abbrev pub HasMet : Definitions → RawItem → Definitions → Type 0
HasMet old item new = MatchOption (alias_in item) (new ≡ old)
    (λ defined. HasDefined old defined.name defined.body new)

-- the item is an alias that cannot be put last, or want of memory
abbrev pub IsUnmet : Definitions → RawItem → Refusal → Type 0
IsUnmet old item refusal = MatchOption (alias_in item) (IsMemory refusal)
    (λ defined. IsUndefinable old defined.name defined.body refusal)

-- whether two definitions have one name or one means nothing
abbrev pub has_wrong_definition : List Defined → Bool
has_wrong_definition definitions = has_repeat bytes_eq (map (λ defined. defined.name) definitions)
    || list_any (λ entry. is_none entry.meaning) (entries_of [] definitions)

-- definitions were put in the order written: none is wrong, and what is too deep or too large is noted
pub record AreNoted (written : List Defined) (all : Definitions) : Type 0 where
  pub aliases : all.aliases ≡ written
  pub sound : has_wrong_definition written ≡ false
  pub deep : all.deep ≡ list_any (λ entry. is_deep entry.meaning) (entries_of [] written)
  pub large : all.large ≡ list_any (λ entry. is_large entry.meaning) (entries_of [] written)

-- one of the definitions is wrong, or want of memory
abbrev pub IsUnnoted : List Defined → Refusal → Type 0
IsUnnoted written = or_automaton
    (λ fault. (fault ≡ Alias) × (has_wrong_definition written ≡ true)) (or_memory never)
