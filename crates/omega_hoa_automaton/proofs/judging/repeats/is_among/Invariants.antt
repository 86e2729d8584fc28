-- What holds in the loop of `is_among`: no name so far has the bytes.
use Rattle.std.proofs.Common.{◌≡◌, ℕ, List, false, take}
use Rattle.std.specs.List.{list_any}
use Rattle.std.specs.Str.{bytes_eq}
use Rattle.omega_hoa_automaton.proofs.judging.repeats.is_among.Given as goal

abbrev pub invariant-loop-name : goal.invariant-loop-name
invariant-loop-name l = list_any (λ (name : List ℕ). bytes_eq name l.bytes) (take l.name-index l.names) ≡ false
