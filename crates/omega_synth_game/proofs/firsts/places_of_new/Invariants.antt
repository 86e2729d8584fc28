-- the lists seen are those at the first places so far
use Rattle.std.proofs.Common.{◌≡◌, List, ℕ, map, Bor}
use Rattle.omega_synth_game.specs.private.Firsts.{AreFirstPlaces, list_at}
use Rattle.omega_synth_game.proofs.firsts.places_of_new.Given as goal

abbrev pub invariant-loop-place : goal.invariant-loop-place
invariant-loop-place l =
    (map (λ (key : Bor (List ℕ)). key.now) l.seen.keys ≡ map (list_at l.lists) l.firsts.items)
    × AreFirstPlaces l.lists l.place l.firsts.items
