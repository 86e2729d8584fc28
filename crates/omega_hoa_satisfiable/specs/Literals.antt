-- The literals of labels that are conjunctions of them, over the propositions below 64.
use Rattle.std.specs.Prelude.{◌≡◌, ◌↔◌, ℕ, Bool, true, false, IsTrue}
use Rattle.omega_hoa_label.specs.Label.{LabelTree, truth}
use Rattle.omega_hoa_satisfiable.specs.Tables.{valuation}
use Rattle.omega_hoa_satisfiable.specs.declared.literals.Literals.{Literals}

-- each proposition whose bit is set in the word holds at the letter
abbrev pub HoldAt : ℕ → (ℕ → Bool) → Type 0
HoldAt word letter = (p : ℕ) → valuation word p ≡ true → letter p ≡ true

-- and none of them holds
abbrev pub FailAt : ℕ → (ℕ → Bool) → Type 0
FailAt word letter = (p : ℕ) → valuation word p ≡ true → letter p ≡ false

-- the literals of a label: it is true exactly at the letters at which all of them hold
abbrev pub AreLiteralsOf : LabelTree → Literals → Type 0
AreLiteralsOf tree literals = (letter : ℕ → Bool)
    → IsTrue (truth letter tree) ↔ (HoldAt literals.held letter × FailAt literals.unheld letter)
