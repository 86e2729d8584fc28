-- Runs over bytes, part by part.
use Rattle.std.proofs.Common.{◌≡◌, ℕ, Option, Some, None, List, [], ◌∷◌, ◌++◌, refl, ap}
use Rattle.omega_text.specs.declared.hoa.kind.HoaKind.{HoaKind}
use Rattle.omega_text.specs.declared.hoa.mode.Mode.{Mode}
use Rattle.omega_text.specs.private.hoa.scanning.Modes.{run, step, unit_of}

-- a run over two parts
pub run_append : (state : Option Mode) (one other : List ℕ) → run state (one ++ other) ≡ run (run state one) other
run_append state [] other = refl
run_append state (byte ∷ one) other = run_append (step state byte) one other

-- no unit goes on once none does
pub run_none : (bytes : List ℕ) → run None bytes ≡ None
run_none [] = refl
run_none (byte ∷ rest) = run_none rest

-- the unit that was read, if there is one
abbrev pub answer : Option Mode → Option (Option HoaKind)
answer None = None
answer (Some mode) = unit_of mode

-- if no unit goes on, none is read
pub answer_none : (bytes : List ℕ) (sort : Option HoaKind) → answer (run None bytes) ≡ Some sort → ⊥
answer_none bytes sort is = let none = ap answer (run_none bytes) in cc
