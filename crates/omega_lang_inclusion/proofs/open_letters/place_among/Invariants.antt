-- no name so far has the bytes
use Rattle.std.proofs.Common.{◌≡◌, ℕ, ◌<◌, [], false, get_or}
use Rattle.std.specs.Str.{bytes_eq}
use Rattle.omega_lang_inclusion.proofs.open_letters.place_among.Given as goal

abbrev pub invariant-loop-place : goal.invariant-loop-place
invariant-loop-place l = (k : ℕ) → k < l.place → bytes_eq l.name (get_or l.names k []) ≡ false
