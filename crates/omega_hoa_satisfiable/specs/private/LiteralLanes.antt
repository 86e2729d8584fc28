-- The lanes of words in which literals hold. A lane is that of a valuation, 64 to a block.
use Rattle.std.specs.Prelude.{◌≡◌, ℕ, ◌<◌, ◌/◌, ◌^◌, Bool, true, false, ◌&&◌, ◌==◌, bit_and, if◌then◌else◌}
use Rattle.std.specs.Int.{bit_not, w64}
use Rattle.omega_hoa_satisfiable.specs.Tables.{valuation}
use Rattle.omega_hoa_satisfiable.specs.declared.literals.Literals.{Literals}
use Rattle.omega_hoa_satisfiable.specs.private.Words.{ones}

-- a word if a bit is set, otherwise all lanes
abbrev pub lanes_if : ℕ → ℕ → ℕ → ℕ
lanes_if bits p word = if valuation bits p then word else ones

-- in a lane the literals of the propositions below `count` hold
pub record AgreeAt (literals : Literals) (count lane : ℕ) : Type 0 where
  pub held : (p : ℕ) → p < count → valuation literals.held p ≡ true → valuation lane p ≡ true
  pub unheld : (p : ℕ) → p < count → valuation literals.unheld p ≡ true → valuation lane p ≡ false

-- these are the lanes in which they hold
pub record AreAgreeing (literals : Literals) (count lanes : ℕ) : Type 0 where
  pub only : (lane : ℕ) → lane < 64 → valuation lanes lane ≡ true → AgreeAt literals count lane
  pub all : (lane : ℕ) → lane < 64 → AgreeAt literals count lane → valuation lanes lane ≡ true

-- whether the literals of the propositions from six on hold in the valuations of a block
abbrev pub hold_in : Literals → ℕ → Bool
hold_in literals block = (bit_and (literals.held / 2 ^ 6) (bit_not w64 block) == 0)
    && (bit_and (literals.unheld / 2 ^ 6) block == 0)

-- the lanes of a block in which all literals hold, if those of the first six propositions hold in `lanes`
abbrev pub lanes_in : Literals → ℕ → ℕ → ℕ
lanes_in literals lanes block = if hold_in literals block then lanes else 0
