-- Orders in which gates come after those that they use. Gates are numbered from `first` on.
use Rattle.std.specs.Prelude.{◌≡◌, ◌<◌, ◌+◌, ◌/◌, ℕ, ◌⊎◌, Bool, false, true, List, All, length, take}
use Rattle.std.specs.Prelude.{slice_index, slice_index_or}
use Rattle.std.specs.List.{Contains}
use Rattle.omega_circuit.specs.private.Numbers.{gate_at}
use Rattle.omega_circuit.specs.declared.gate.Gate.{Gate}
use Rattle.omega_circuit.specs.declared.gate_order.Look.{Look}
use Rattle.omega_circuit.specs.declared.gate_order.Look.TheVariants.{Open, Settled, Waiting}

-- the flag at a place; false beyond
abbrev pub flag_at : List Bool → ℕ → Bool
flag_at flags k = slice_index_or flags k false

-- an operand is no gate, or one of these
abbrev pub IsSettled : (first : ℕ) → List ℕ → ℕ → Type 0
IsSettled first done literal =
    (literal / 2 < first) ⊎ ((k : ℕ) × (literal / 2 ≡ first + k) × Contains done k)

-- both operands of a gate are settled
pub record IsReady (first : ℕ) (done : List ℕ) (net : Gate) : Type 0 where
  pub left : IsSettled first done net.left
  pub right : IsSettled first done net.right

-- gates of which each comes after those that it uses
pub record IsOrder (first : ℕ) (nets : List Gate) (order : List ℕ) : Type 0 where
  pub within : All (λ k. k < length nets) order
  pub ready : (j : ℕ) → j < length order
      → IsReady first (take j order) (gate_at nets (slice_index order j))

-- the same, of all gates
pub record IsWholeOrder (first : ℕ) (nets : List Gate) (order : List ℕ) : Type 0 where
  pub sorted : IsOrder first nets order
  pub whole : (k : ℕ) → k < length nets → Contains order k

-- a gate uses a gate
abbrev pub Uses : (first : ℕ) → Gate → ℕ → Type 0
Uses first net k = (net.left / 2 ≡ first + k) ⊎ (net.right / 2 ≡ first + k)

-- numbers of gates that rise from the gates that a gate uses to the gate
abbrev pub Rises : (first : ℕ) → List Gate → (ℕ → ℕ) → Type 0
Rises first nets number =
    (k used : ℕ) → k < length nets → Uses first (gate_at nets k) used → number used < number k

-- no numbers rise so
abbrev pub IsCyclic : (first : ℕ) → List Gate → Type 0
IsCyclic first nets = (number : ℕ → ℕ) → Rises first nets number → ⊥

-- operands are numbered variables
abbrev pub IsWired : (first : ℕ) → List Gate → Type 0
IsWired first nets = All (λ (net : Gate). (net.left / 2 < first + length nets)
    × (net.right / 2 < first + length nets)) nets

-- what an operand is in a search that found some gates and left some of those again
abbrev pub IsLook : (first : ℕ) (found left : List Bool) → ℕ → Look → Type 0
IsLook first found left literal Settled =
    (literal / 2 < first) ⊎ ((k : ℕ) × (literal / 2 ≡ first + k) × (k < length left)
    × (flag_at left k ≡ true))
IsLook first found left literal (Waiting k) =
    (literal / 2 ≡ first + k) × (k < length found) × (flag_at found k ≡ false)
IsLook first found left literal Open = (k : ℕ) × (literal / 2 ≡ first + k) × (k < length found)
    × (flag_at found k ≡ true) × (flag_at left k ≡ false)

-- what is found if one operand of a gate and then the other is looked at
abbrev pub IsLookAtGate : (first : ℕ) (found left : List Bool) → Gate → Look → Type 0
IsLookAtGate first found left net Settled =
    IsLook first found left net.left Settled × IsLook first found left net.right Settled
IsLookAtGate first found left net (Waiting k) =
    Uses first net k × (k < length found) × (flag_at found k ≡ false)
IsLookAtGate first found left net Open =
    (k : ℕ) × Uses first net k × (k < length found) × (flag_at found k ≡ true) × (flag_at left k ≡ false)

-- a search that found some gates, left some of those in order, and is at the end of a path through the others
pub record IsSearch (first : ℕ) (nets : List Gate) (found left : List Bool) (path order : List ℕ)
    : Type 0 where
  pub found_long : length found ≡ length nets
  pub left_long : length left ≡ length nets
  pub sorted : IsOrder first nets order
  pub ordered : (k : ℕ) → k < length nets → flag_at left k ≡ true → Contains order k
  pub on_path : (k : ℕ) → k < length nets → flag_at found k ≡ true → flag_at left k ≡ false
      → Contains path k
  pub path_within : All (λ k. k < length nets) path
  pub path_uses : (i : ℕ) → i + 1 < length path
      → Uses first (gate_at nets (slice_index path i)) (slice_index path (i + 1))

-- what is found stays found
abbrev pub StaysFound : (old new : List Bool) → Type 0
StaysFound old new = (k : ℕ) → flag_at old k ≡ true → flag_at new k ≡ true
