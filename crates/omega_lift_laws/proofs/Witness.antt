-- The table that a winning strategy gives, which no lifting run passes.
use Rattle.std.proofs.Common.{◌≡◌, ◌≢◌, ℕ, ◌<◌, ◌≤◌, not, eqb, ◌&&◌, Bool, true, false, IsTrue, IsSome, is_gt, is_lt, Decides, Option, None, Some, List, [], ◌∷◌, ◌++◌, length, get_or, slice_get, take, set, map, Ordering, Less, Equal, Greater, ◌⊎◌, inl, inr, refl, sym, ap, ◌∙◌, subst, arith}
use Rattle.std.specs.Cmp.Lexicographic.{slice_cmp}
use Rattle.std.specs.Ordering.{nat_cmp}
use Rattle.std.proofs.lemmas.Bool.{cases_eq, and_from, and_parts, and_right, eq-eqb, false_from_ne_true}
use Rattle.std.proofs.lemmas.List.{length-map, get_or_default, get_or-map, get_or-replicate, get_or-set_same, get_or-set_other}
use Rattle.omega_game_values.specs.declared.player.Player.{Player}
use Rattle.omega_game_values.specs.Bound.{occurrences, losing_priorities}
use Rattle.omega_game_values.specs.Game.{Node, IsGame, no_node, owner_at, priority_at, priorities, successors_at}
use Rattle.omega_game_values.specs.Winning.{Chooses, InRegion, IsStrategy, IsWalk, IsClosedWalk, Leaves, Wins, end_of, greatest_on}
use Rattle.omega_game_values.specs.Player.{loses}
use Rattle.omega_lift_laws.specs.Measure.{Measure, IsMeasure, IsAtMost, entries_from, zero_measure}
use Rattle.omega_lift_laws.specs.Allowance.{IsAllowanceOf, IsLiftValue, measure_at, suffices}
use Rattle.omega_lift_laws.specs.Run.{Lifts, IsLiftingRun, IsTable, zero_table}
use Rattle.omega_lift_laws.proofs.Counting.{passing, passing_at_most, passing_below, passing_places, same_passing}
use Rattle.omega_lift_laws.proofs.Order.{compare_total, at_most_trans}
use Rattle.omega_lift_laws.proofs.Entries.{AreWithin, measure_from_within, zeros_least}
use Rattle.omega_lift_laws.proofs.LeastMeasure.{enough, at_most_from, suffices_down}
use Rattle.omega_lift_laws.proofs.Lifting.{lift_keeps_table, zero_is_table}
use Rattle.omega_lift_laws.proofs.Choosing.{allowance_towards, allowance_towards_is, cases_player}
use Rattle.omega_lift_laws.proofs.Falling.{IsAmong, IsFalling, among_losing, above_front, losing_fall, not_below_front}
use Rattle.omega_lift_laws.proofs.Reaching.{Decides-joined, Decides-steps_within, Joined, StepsWithin, end_of-append, end_within, first_of_joined, joined, joined_by, joined_by_step, place_with_edge, steps_within, walk-append, walk_from_joined}

-- values at most the limits are within them
within_each : (f g : ℕ → ℕ) (qs : List ℕ) → ((q : ℕ) → g q ≤ f q) → AreWithin (map f qs) (map g qs)
within_each f g [] h = tt
within_each f g (q ∷ qs) h = (h q, within_each f g qs h)

-- the witness of a strategy: for each losing priority, how many of its nodes lie on the walks that the strategy leaves
-- possible from a place and that meet no greater priority
module _ (nodes : List Node) (player : Player) (choices : List (Option ℕ)) (game : IsGame nodes) (strategy : IsStrategy nodes player choices) where
  -- whether u lies on a walk from v whose priorities are at most q
  abbrev is_reached : ℕ → ℕ → ℕ → Bool
  is_reached q v u = joined (steps_within nodes choices q) (length nodes) v u

  abbrev IsReached : ℕ → ℕ → ℕ → Type 0
  IsReached q v u = Joined (StepsWithin nodes player choices q) (length nodes) v u

  -- whether the node at a place has priority q
  abbrev bears : ℕ → ℕ → Bool
  bears q u = eqb (priority_at nodes u) q

  -- whether u has priority q and lies on a walk from v whose priorities are at most q
  abbrev counts : ℕ → ℕ → ℕ → Bool
  counts q v u = bears q u && is_reached q v u

  -- how many do
  abbrev count_at : ℕ → ℕ → ℕ
  count_at v q = passing (length nodes) (counts q v)

  -- the entries of the witness at a place
  abbrev witness : ℕ → List ℕ
  witness v = map (count_at v) (losing_priorities player (priorities nodes))

  -- the test says so exactly
  decides : (q v u : ℕ) → Decides (is_reached q v u) (IsReached q v u)
  decides q v u =
      Decides-joined (steps_within nodes choices q) (StepsWithin nodes player choices q)
      (Decides-steps_within nodes player choices strategy q) (length nodes) v u

  -- the priority at a place, read from the list of all
  priority-map : (u : ℕ) → u < length nodes → get_or (priorities nodes) u 0 ≡ priority_at nodes u
  priority-map u lt = get_or-map (λ node. node.priority) nodes u no_node 0 lt

  -- an entry is at most the number of nodes of its priority
  count_within : (v q : ℕ) → count_at v q ≤ occurrences (priorities nodes) q
  count_within v q =
      let listed : ℕ → Bool = λ u. eqb (get_or (priorities nodes) u 0) q in
      let bearing : passing (length nodes) (bears q) ≡ passing (length (priorities nodes)) listed =
      subst (λ n. passing (length nodes) (bears q) ≡ passing n listed) (sym (length-map nodes (λ node. node.priority)))
      (same_passing (length nodes) (bears q) listed (λ u lt. ap (λ p. eqb p q) (sym (priority-map u lt)))) in
      omega (
        arith,
        bearing,
        passing_places (λ p. eqb p q) (priorities nodes),
        passing_at_most (length nodes) (counts q v) (bears q) (λ u lt t. (and_parts (bears q u) (is_reached q v u) t).0),
      )

  -- so the witness is a measure
  witness_is_measure : (v : ℕ) → IsMeasure player (priorities nodes) (Some (witness v))
  witness_is_measure v =
      measure_from_within player (priorities nodes) (Some (witness v))
      (within_each (occurrences (priorities nodes)) (count_at v) (losing_priorities player (priorities nodes)) (count_within v))

  -- what is joined from the end of an edge is joined from its beginning,
  -- within a priority at least that of the beginning
  joined_from_before :
      (q v w u : ℕ) → priority_at nodes v ≤ q → Leaves nodes player choices v w
      → IsReached q w u → IsReached q v u
  joined_from_before q v w u le edge h =
      joined_by (StepsWithin nodes player choices q) (length nodes) w v u (game.closed v w edge.listed)
      (joined_by_step (StepsWithin nodes player choices q) (length nodes) v w (record {
        first = le;
        second = first_of_joined nodes player choices q (length nodes) w u h;
        step = inr edge;
      }))
      h

  -- so what counts at the end of the edge counts at its beginning
  counts_before :
      (q v w : ℕ) → priority_at nodes v ≤ q → Leaves nodes player choices v w
      → (u : ℕ) → u < length nodes → counts q w u ≡ true → counts q v u ≡ true
  counts_before q v w le edge u lt t =
      let parts = and_parts (bears q u) (is_reached q w u) t in
      and_from (bears q u) (is_reached q v u) parts.0
      ((decides q v u).1 (joined_from_before q v w u le edge ((decides q w u).0 parts.1)))

  -- along an edge left possible no entry for a priority at least that of its beginning grows
  count_falls : (v w q : ℕ) → Leaves nodes player choices v w → priority_at nodes v ≤ q → count_at w q ≤ count_at v q
  count_falls v w q edge le = passing_at_most (length nodes) (counts q w) (counts q v) (counts_before q v w le edge)

  -- from a place from which the strategy wins no edge leads to a place that leads back within its own losing priority
  no_way_back :
      (v w : ℕ) → Wins nodes player choices v → Leaves nodes player choices v w → IsTrue (loses player (priority_at nodes v))
      → IsReached (priority_at nodes v) w v → ⊥
  no_way_back v w wins edge l h =
      let p : ℕ = priority_at nodes v in
      let back = walk_from_joined nodes player choices game p (length nodes) w v h (game.closed v w edge.listed) in
      let round : IsClosedWalk nodes player choices v (w ∷ back.walk) = record { walk = (edge, back.left); longer = omega arith; closed = back.ends } in
      let greatest : greatest_on nodes v (w ∷ back.walk) ≡ p = omega (arith, back.bounded) in
      wins [] (w ∷ back.walk) (place_with_edge nodes v w edge.listed) round (subst (λ q. IsTrue (loses player q)) (sym greatest) l)

  -- and at that priority the entry falls
  count_falls_strictly :
      (v w : ℕ) → Wins nodes player choices v → Leaves nodes player choices v w → IsTrue (loses player (priority_at nodes v))
      → count_at w (priority_at nodes v) < count_at v (priority_at nodes v)
  count_falls_strictly v w wins edge l =
      passing_below (length nodes) (counts p w) (counts p v) (counts_before p v w (omega arith) edge)
      v (place_with_edge nodes v w edge.listed) not_after here
    where
      p : ℕ
      p = priority_at nodes v

      not_after : counts p w v ≡ false
      not_after =
          and_right (bears p v) (is_reached p w v)
          (false_from_ne_true (is_reached p w v) (λ t. no_way_back v w wins edge l ((decides p w v).0 t)))

      stay : StepsWithin nodes player choices p v v
      stay = record { first = omega arith; second = omega arith; step = inl refl }

      here : counts p v v ≡ true
      here =
          and_from (bears p v) (is_reached p v v) (eq-eqb p p refl)
          ((decides p v v).1 (joined_by_step (StepsWithin nodes player choices p) (length nodes) v v stay))

  -- so the witness suffices along each edge left possible from a place from which the strategy wins
  witness_suffices :
      (v w : ℕ) → Wins nodes player choices v → Leaves nodes player choices v w
      → IsTrue (suffices player (priorities nodes) (priority_at nodes v) (Some (witness v)) (Some (witness w)))
  witness_suffices v w wins edge = go (loses player p) refl
    where
      p : ℕ
      p = priority_at nodes v

      losing : List ℕ
      losing = losing_priorities player (priorities nodes)

      falling : IsFalling losing
      falling = losing_fall player (priorities nodes)

      kept : ℕ
      kept = entries_from player (priorities nodes) p

      within : v < length nodes
      within = place_with_edge nodes v w edge.listed

      o : Ordering
      o = slice_cmp nat_cmp (take kept (witness v)) (take kept (witness w))

      not_less : (r : Ordering) → r ≢ Less → not (is_lt r) ≡ true
      not_less Less n = absurd (n refl)
      not_less Equal n = refl
      not_less Greater n = refl

      among : IsTrue (loses player p) → IsAmong p losing
      among l =
          subst (λ q. IsAmong q losing) (priority-map v within)
          (among_losing player (priorities nodes) v (omega (arith, within, length-map nodes (λ node. node.priority)))
          (subst (λ q. IsTrue (loses player q)) (sym (priority-map v within)) l))

      go : (b : Bool) → loses player p ≡ b → IsTrue (enough (loses player p) o)
      go true l =
          subst (λ b. IsTrue (enough b o)) (sym l)
          (ap is_gt (above_front p (count_at v) (count_at w) losing falling (λ q le. count_falls v w q edge le)
          (count_falls_strictly v w wins edge l) (among l)))
      go false l =
          subst (λ b. IsTrue (enough b o)) (sym l)
          (not_less o (not_below_front p (count_at v) (count_at w) losing falling (λ q le. count_falls v w q edge le)))

  -- a strategy leaves some edge possible at each place
  some_edge : (v : ℕ) → v < length nodes → (w : ℕ) × Leaves nodes player choices v w
  some_edge v lt = go (slice_get choices v) refl
    where
      free : ((c : ℕ) → Chooses choices v c → ⊥) → (w : ℕ) × Leaves nodes player choices v w
      free none =
          let w : ℕ = get_or (successors_at nodes v) 0 0 in (
            w,
            record {
              listed = (0, game.continued v lt, get_or_default (successors_at nodes v) 0 w 0 (game.continued v lt));
              chosen = λ o c chooses. absurd (none c chooses);
            },
          )

      go : (o : Option (Option ℕ)) → slice_get choices v ≡ o → (w : ℕ) × Leaves nodes player choices v w
      go None e = free (λ c chooses. let f = sym e ∙ chooses in cc)
      go (Some None) e = free (λ c chooses. let f = sym e ∙ chooses in cc)
      go (Some (Some c)) e = (
        c,
        record {
          listed = strategy.listed v c e;
          chosen = λ o d chooses. let f = sym e ∙ chooses in cc;
        },
      )

  -- no measure of a table is above the witness at a place that a walk from v reaches
  abbrev pub IsBelowWitness : ℕ → List Measure → Type 0
  IsBelowWitness v table =
      (ws : List ℕ) → IsWalk nodes player choices v ws → IsAtMost (measure_at table (end_of v ws)) (Some (witness (end_of v ws)))

  -- a strategy that wins from a place wins from each place that a walk from there reaches
  wins_along :
      (v : ℕ) (ws : List ℕ) → Wins nodes player choices v → IsWalk nodes player choices v ws
      → Wins nodes player choices (end_of v ws)
  wins_along v ws wins walk there around on closed =
      subst (λ u. IsTrue (loses player (greatest_on nodes u around)) → ⊥) (end_of-append v ws there)
      (wins (ws ++ there) around (walk-append nodes player choices v ws there walk on)
      (subst (λ u. IsClosedWalk nodes player choices u around) (sym (end_of-append v ws there)) closed))

  -- then an allowance towards a place that an edge left possible leads to is not above the witness
  allowance_below_witness :
      (v : ℕ) (table : List Measure) → Wins nodes player choices v → IsBelowWitness v table
      → (ws : List ℕ) → IsWalk nodes player choices v ws → (w : ℕ) (y : Measure) → Leaves nodes player choices (end_of v ws) w
      → IsAllowanceOf nodes player table (end_of v ws) w y → IsAtMost y (Some (witness (end_of v ws)))
  allowance_below_witness v table wins below ws walk w y edge allows =
      let u : ℕ = end_of v ws in
      let one_more : IsWalk nodes player choices v (ws ++ w ∷ []) =
      walk-append nodes player choices v ws (w ∷ []) walk (edge, game.closed u w edge.listed) in
      let below_next : IsAtMost (measure_at table w) (Some (witness w)) =
      subst (λ z. IsAtMost (measure_at table z) (Some (witness z))) (end_of-append v ws (w ∷ [])) (below (ws ++ w ∷ []) one_more) in
      allows.least (Some (witness u)) (witness_is_measure u)
      (suffices_down player (priorities nodes) (priority_at nodes u) (Some (witness u)) (Some (witness w)) (measure_at table w)
      (witness_suffices u w (wins_along v ws wins walk) edge)
      (at_most_from player (priorities nodes) (priority_at nodes u) (measure_at table w) (Some (witness w)) below_next))

  -- nor is a lift value
  lift_value_below_witness :
      (v : ℕ) (table : List Measure) → IsTable player (priorities nodes) table → Wins nodes player choices v → IsBelowWitness v table
      → (ws : List ℕ) → IsWalk nodes player choices v ws → (x : Measure) → IsLiftValue nodes player table (end_of v ws) x
      → IsAtMost x (Some (witness (end_of v ws)))
  lift_value_below_witness v table h wins below ws walk x value = go (cases_player (owner_at nodes u) player)
    where
      u : ℕ
      u = end_of v ws

      go : (owner_at nodes u ≡ player) ⊎ (owner_at nodes u ≢ player) → IsAtMost x (Some (witness u))
      go (inl o) =
          let edge = some_edge u (end_within nodes player choices v ws walk) in
          let y : Measure = allowance_towards nodes player table u edge.0 in
          let allows = allowance_towards_is nodes player table u edge.0 h in
          at_most_trans compare_total x y (Some (witness u)) (value.least o edge.0 y edge.1.listed allows)
          (allowance_below_witness v table wins below ws walk edge.0 y edge.1 allows)
      go (inr n) =
          let edge : Leaves nodes player choices u value.successor = record { listed = value.listed; chosen = λ o c chooses. absurd (n o) } in
          allowance_below_witness v table wins below ws walk value.successor x edge value.allowance

  -- so no lift leads above the witness
  lift_stays_below :
      (v : ℕ) (table : List Measure) (u : ℕ) (x : Measure) → IsTable player (priorities nodes) table → Wins nodes player choices v
      → u < length table → Lifts nodes player table u x → IsBelowWitness v table → IsBelowWitness v (set table u x)
  lift_stays_below v table u x h wins lt lifts below ws walk = go (cases_eq (end_of v ws) u)
    where
      go :
          (end_of v ws ≡ u) ⊎ (end_of v ws ≡ u → ⊥)
          → IsAtMost (measure_at (set table u x) (end_of v ws)) (Some (witness (end_of v ws)))
      go (inl e) =
          let same : measure_at (set table u x) (end_of v ws) ≡ x = ap (measure_at (set table u x)) e ∙ get_or-set_same table u x None lt in
          subst (λ z. IsAtMost z (Some (witness (end_of v ws)))) (sym same)
          (lift_value_below_witness v table h wins below ws walk x (subst (λ z. IsLiftValue nodes player table z x) (sym e) lifts.value))
      go (inr n) =
          subst (λ z. IsAtMost z (Some (witness (end_of v ws)))) (sym (get_or-set_other table u (end_of v ws) x None n)) (below ws walk)

  -- nor does a run
  run_stays_below :
      (v : ℕ) (old new : List Measure) (places : List ℕ) → IsTable player (priorities nodes) old → Wins nodes player choices v
      → IsLiftingRun nodes player old places new → IsBelowWitness v old → IsBelowWitness v new
  run_stays_below v old new [] h wins r below = subst (λ table. IsBelowWitness v table) r below
  run_stays_below v old new (u ∷ us) h wins r below =
      run_stays_below v (set old u r.0) new us (lift_keeps_table nodes player old u r.0 h r.2) wins r.3
      (lift_stays_below v old u r.0 h wins (omega (arith, r.1, h.entries, length-map nodes (λ node. node.priority))) r.2 below)

  -- and the all-zero table does not lie above it
  zero_is_below : (v : ℕ) → IsBelowWitness v (zero_table player (priorities nodes))
  zero_is_below v ws walk =
      let u : ℕ = end_of v ws in
      let losing : List ℕ = losing_priorities player (priorities nodes) in
      let within : u < length (priorities nodes) =
      omega (arith, end_within nodes player choices v ws walk, length-map nodes (λ node. node.priority)) in
      let zero_there = get_or-replicate (length (priorities nodes)) u (zero_measure player (priorities nodes)) None within in
      subst (λ z. IsAtMost z (Some (witness u))) (sym zero_there)
      (zeros_least losing (witness u) (sym (length-map losing (count_at u))))

-- what is at most a measure below top is below top
below_top_at_most : (x : Measure) (ys : List ℕ) → IsAtMost x (Some ys) → IsSome x
below_top_at_most None ys h = absurd (h refl)
below_top_at_most (Some xs) ys h = refl

-- no lifting run takes a node of the region to top
pub region_stays_below_top :
    (nodes : List Node) (player : Player) (places : List ℕ) (table : List Measure) (v : ℕ)
    → IsGame nodes → IsLiftingRun nodes player (zero_table player (priorities nodes)) places table
    → InRegion nodes player v → IsSome (measure_at table v)
region_stays_below_top nodes player places table v game r region =
    below_top_at_most (measure_at table v) (witness nodes player region.choices game region.strategy v)
    (run_stays_below nodes player region.choices game region.strategy v (zero_table player (priorities nodes)) table places
    (zero_is_table player (priorities nodes)) region.wins r (zero_is_below nodes player region.choices game region.strategy v) [] region.node)
