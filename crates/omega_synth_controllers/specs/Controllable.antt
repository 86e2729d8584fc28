-- The header item `controllable-AP:` of extended HOA: the numbers of the propositions that the system controls.
use Rattle.std.specs.Prelude.{◌≡◌, ℕ, ◌≤◌, Bool, false, true, List, codes, filter, length, map, nat_eq}
use Rattle.std.specs.List.{flat_map, list_any}
use Rattle.std.specs.Str.{bytes_eq}
use Rattle.omega_text.specs.Cases.{never, or_memory, or_task}
use Rattle.omega_text.specs.declared.refusal.Refusal.{Refusal}
use Rattle.omega_text.specs.declared.refusal.task.TaskFault.TheVariants.{Controllable}
use Rattle.omega_hoa_syntax.specs.declared.header_value.HeaderValue.{HeaderValue}
use Rattle.omega_hoa_syntax.specs.declared.header_value.HeaderValue.TheVariants as value
use Rattle.omega_hoa_automaton.specs.Automaton.{AreBelow, Description, has_repeat}
use Rattle.omega_hoa_automaton.specs.declared.header.Header.{Header}

-- whether a header has the item's name
abbrev pub is_controllable_item : Header → Bool
is_controllable_item header = bytes_eq header.name (codes "controllable-AP")

-- whether an automaton has the item
abbrev pub has_item : Description → Bool
has_item a = list_any is_controllable_item a.unknown

-- the items of that name
abbrev pub controllable_items : Description → List Header
controllable_items a = filter is_controllable_item a.unknown

-- values are these numbers, each of them that of one of `count` propositions, and none twice
pub record AreNumbersOf (count : ℕ) (values : List HeaderValue) (numbers : List ℕ) : Type 0 where
  pub listed : values ≡ map value.Number numbers
  pub below : AreBelow count numbers
  pub unlike : has_repeat nat_eq numbers ≡ false

-- there are such numbers
abbrev pub HasNumbers : ℕ → List HeaderValue → Type 0
HasNumbers count values = (numbers : List ℕ) × AreNumbersOf count values numbers

-- the system controls the propositions with these numbers: the item stands at most once, and lists them. Without the
-- item there are none
pub record IsControlled (a : Description) (numbers : List ℕ) : Type 0 where
  pub once : length (controllable_items a) ≤ 1
  pub stated : AreNumbersOf (length a.propositions)
      (flat_map (λ item. item.values) (controllable_items a)) numbers

-- the propositions that the system controls are stated
abbrev pub HasControlled : Description → Type 0
HasControlled a = (numbers : List ℕ) × IsControlled a numbers

-- an automaton has the item, and it says that the system controls the propositions with these numbers
pub record IsStated (a : Description) (numbers : List ℕ) : Type 0 where
  pub item : has_item a ≡ true
  pub controlled : IsControlled a numbers

-- an automaton has the item, and it states propositions
abbrev pub HasStated : Description → Type 0
HasStated a = (numbers : List ℕ) × IsStated a numbers

-- the item is refused, only if this does not hold, or memory
abbrev pub IsMisstated : Type 0 → Refusal → Type 0
IsMisstated Stated = or_task (λ fault. (fault ≡ Controllable) × (Stated → ⊥)) (or_memory never)
