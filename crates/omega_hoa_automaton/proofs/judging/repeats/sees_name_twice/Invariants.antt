-- What holds in the loop of `sees_name_twice`: the names so far are seen, and no two are alike.
use Rattle.std.proofs.Common.{◌≡◌, List, ℕ, false, map, take, Bor}
use Rattle.std.specs.Str.{bytes_eq}
use Rattle.omega_hoa_automaton.specs.Automaton.{has_repeat}
use Rattle.omega_hoa_automaton.proofs.judging.repeats.sees_name_twice.Given as goal

abbrev pub invariant-loop-name : goal.invariant-loop-name
invariant-loop-name l =
    (map (λ (key : Bor (List ℕ)). key.now) l.seen.keys ≡ take l.name-index l.names)
    × (has_repeat bytes_eq (take l.name-index l.names) ≡ false)
