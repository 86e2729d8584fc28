-- `leader_count`: the places before this one are counted.
use Rattle.std.proofs.Common.{◌≡◌, ◌==◌, ◌≤◌}
use Rattle.std.specs.Prelude.{count_by}
use Rattle.std.specs.List.{range_with_len}
use Rattle.omega_answers_game.specs.Components.{leader_at}
use Rattle.omega_answers_game.proofs.counting.leader_count.Given as goal

abbrev pub invariant-loop-place : goal.invariant-loop-place
invariant-loop-place l = record {
  counted : l.count ≡ count_by (λ v. leader_at l.leaders v == v) (range_with_len 0 l.place);
  few : l.count ≤ l.place;
}
