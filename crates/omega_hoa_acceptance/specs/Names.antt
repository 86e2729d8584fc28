-- The acceptance kind of a name, a count of sets and a formula (docs/formats.md, acceptance kinds and priorities).
use Rattle.std.specs.Prelude.{◌≡◌, ℕ, ◌≤◌, if◌then◌else◌, List, [], ◌∷◌, Option, Some, None, codes}
use Rattle.std.specs.Str.{bytes_eq}
use Rattle.omega_text.specs.Cases.{never, or_task}
use Rattle.omega_text.specs.declared.refusal.Refusal.{Refusal}
use Rattle.omega_text.specs.declared.refusal.task.TaskFault.TheVariants.{NotParity}
use Rattle.omega_hoa_parity_kind.specs.declared.kind.Order.{Order}
use Rattle.omega_hoa_parity_kind.specs.declared.kind.Order.TheVariants.{Max, Min}
use Rattle.omega_hoa_parity_kind.specs.declared.kind.Parity.{Parity}
use Rattle.omega_hoa_parity_kind.specs.declared.kind.Parity.TheVariants.{Even, Odd}
use Rattle.omega_hoa_parity_kind.specs.declared.kind.ParityKind.{ParityKind}
use Rattle.omega_hoa_acceptance.specs.Acceptance.{AccTree}
use Rattle.omega_hoa_acceptance.specs.Kind.{buchi_formula, parity_formula}
use Rattle.omega_hoa_expression.specs.Limits.{most_buchi_sets}
use Rattle.omega_hoa_acceptance.specs.declared.name.AccName.{AccName}
use Rattle.omega_hoa_acceptance.specs.declared.name.Parameter.{Parameter}
use Rattle.omega_hoa_acceptance.specs.declared.name.Parameter.TheVariants.{Number, Word}
use Rattle.omega_hoa_acceptance.specs.declared.kind.AccKind.{AccKind}
use Rattle.omega_hoa_acceptance.specs.declared.kind.AccKind.TheVariants as kind

-- the kind of a name without parameters
abbrev pub short_named : List ℕ → Option ParityKind
short_named word =
    if bytes_eq word (codes "all") then Some (record { order = Max; parity = Odd; count = 0 })
    else (if bytes_eq word (codes "none") then Some (record { order = Max; parity = Even; count = 0 })
    else (if bytes_eq word (codes "Buchi") then Some (record { order = Max; parity = Even; count = 1 })
    else (if bytes_eq word (codes "co-Buchi") then Some (record { order = Max; parity = Odd; count = 1 })
    else None)))

-- the order of a word
abbrev pub order_named : List ℕ → Option Order
order_named word = if bytes_eq word (codes "max") then Some Max
    else (if bytes_eq word (codes "min") then Some Min else None)

-- the parity of a word
abbrev pub oddness_named : List ℕ → Option Parity
oddness_named word = if bytes_eq word (codes "even") then Some Even
    else (if bytes_eq word (codes "odd") then Some Odd else None)

-- the kind of an order, a parity and a count, if there are both
abbrev pub kind_from : Option Order → Option Parity → ℕ → Option ParityKind
kind_from None parity count = None
kind_from (Some order) None count = None
kind_from (Some order) (Some parity) count =
    Some (record { order = order; parity = parity; count = count })

-- the parity kind of a name and its parameters
abbrev pub parity_named : List ℕ → List Parameter → Option ParityKind
parity_named word [] = short_named word
parity_named word (Word order ∷ Word parity ∷ Number count ∷ []) = if bytes_eq word
    (codes "parity") then kind_from (order_named order) (oddness_named parity) count else None
parity_named word parameters = None

-- the count of sets of a generalized Büchi name
abbrev pub buchi_named : List ℕ → List Parameter → Option ℕ
buchi_named word (Number count ∷ []) =
    if bytes_eq word (codes "generalized-Buchi") then Some count else None
buchi_named word parameters = None

-- name, count and formula are the row of a parity kind
pub record IsParityRow (name : AccName) (count : ℕ) (formula : AccTree)
    (kind : ParityKind) : Type 0 where
  pub named : parity_named name.name name.parameters ≡ Some kind
  pub counted : count ≡ kind.count
  pub formula_is : formula ≡ parity_formula kind

-- name, count and formula are the row of a generalized Büchi kind
pub record IsBuchiRow (name : AccName) (count : ℕ) (formula : AccTree) (sets : ℕ) : Type 0 where
  pub named : buchi_named name.name name.parameters ≡ Some sets
  pub some_sets : 1 ≤ sets
  pub limit : sets ≤ most_buchi_sets
  pub counted : count ≡ sets
  pub formula_is : formula ≡ buchi_formula sets

-- name, count and formula are the row of an acceptance kind
abbrev pub IsAcceptanceRow : AccName → ℕ → AccTree → AccKind → Type 0
IsAcceptanceRow name count formula (kind.Parity parity) = IsParityRow name count formula parity
IsAcceptanceRow name count formula (kind.GenBuchi sets) = IsBuchiRow name count formula sets

-- no parity kind, and this holds
abbrev pub IsNotParity : Type 0 → Refusal → Type 0
IsNotParity holds = or_task (λ fault. (fault ≡ NotParity) × holds) never
