-- At first a lift is due only at places whose priorities lose.
use Rattle.std.proofs.Common.{◌≡◌, ℕ, Bool, true, false, List, Some, None, IsTrue, Ordering, Less, Equal, Greater, length, take, refl, sym, subst, arith}
use Rattle.std.specs.Cmp.Lexicographic.{slice_cmp}
use Rattle.std.specs.Ordering.{nat_cmp}
use Rattle.std.proofs.lemmas.Cmp.{nat_list_cmp_total}
use Rattle.std.proofs.lemmas.List.{get_or-replicate, length-map}
use Rattle.omega_game_values.specs.declared.player.Player.{Player}
use Rattle.omega_game_values.specs.Game.{Node, IsGame, priorities, priority_at}
use Rattle.omega_game_values.specs.Player.{loses}
use Rattle.omega_lift_laws.specs.Allowance.{measure_at, suffices}
use Rattle.omega_lift_laws.specs.Measure.{Measure, IsAbove, IsMeasure, entries_from, zero_measure}
use Rattle.omega_lift_laws.specs.Run.{IsDue, zero_table}
use Rattle.omega_lift_laws.proofs.LeastMeasure.{enough}
use Rattle.omega_lift_laws.proofs.Lifting.{measure_at_is, zero_is_table}
use Rattle.omega_lift_laws.proofs.Order.{same_itself}
use Rattle.omega_solve.proofs.lifting.Edges.{edge_leaves}

-- the same is enough if the priority does not lose
equal_enough : (lost : Bool) (o : Ordering) → lost ≡ false → o ≡ Equal → IsTrue (enough lost o)
equal_enough true o wins same = absurd (cc)
equal_enough false Less wins same = absurd (cc)
equal_enough false Equal wins same = refl
equal_enough false Greater wins same = absurd (cc)

-- so a measure below top suffices towards itself
itself_suffices : (player : Player) (bearing : List ℕ) (p : ℕ) (xs : List ℕ) → loses player p ≡ false
    → IsTrue (suffices player bearing p (Some xs) (Some xs))
itself_suffices player bearing p xs wins =
    let kept = take (entries_from player bearing p) xs in
    equal_enough (loses player p) (slice_cmp nat_cmp kept kept) wins (same_itself nat_list_cmp_total kept)

-- no lift is due where every measure is 0 and the priority does not lose
pub zero_settled : (nodes : List Node) (player : Player) (v : ℕ) → IsGame nodes → loses player (priority_at nodes v) ≡ false
    → ¬ IsDue nodes player (zero_table player (priorities nodes)) v
zero_settled nodes player v game wins due =
    let bearing : List ℕ = priorities nodes in
    let zero : Measure = zero_measure player bearing in
    let w = due.1.value.successor in
    let count : length bearing ≡ length nodes = length-map nodes (λ (node : Node). node.priority) in
    let at_w : measure_at (zero_table player bearing) w ≡ zero =
    get_or-replicate (length bearing) w zero None (omega (arith, count, game.closed v w due.1.value.listed)) in
    let at_v : measure_at (zero_table player bearing) v ≡ zero =
    get_or-replicate (length bearing) v zero None (omega (arith, count, edge_leaves nodes v w due.1.value.listed)) in
    let suffices_there : IsTrue (suffices player bearing (priority_at nodes v) zero (measure_at (zero_table player bearing) w)) =
    subst (λ (y : Measure). IsTrue (suffices player bearing (priority_at nodes v) zero y)) (sym at_w)
    (itself_suffices player bearing (priority_at nodes v) _ wins) in
    let measure : IsMeasure player bearing zero =
    subst (IsMeasure player bearing) at_v (measure_at_is player bearing (zero_table player bearing) (zero_is_table player bearing) v) in
    due.1.value.allowance.least zero measure suffices_there (subst (λ (y : Measure). IsAbove due.0 y) at_v due.1.above)
