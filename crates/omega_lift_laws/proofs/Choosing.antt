-- The choices of a table in which no lift is due are a strategy that wins.
use Rattle.std.proofs.Common.{◌≡◌, ◌≢◌, ℕ, ◌<◌, ◌≤◌, Bool, true, false, IsTrue, IsSome, is_some, Option, None, Some, List, [], ◌∷◌, length, take, get_or, slice_get, Contains, Ordering, Greater, ◌⊎◌, inl, inr, refl, sym, ap, ◌∙◌, subst, arith}
use Rattle.std.specs.Cmp.Lexicographic.{slice_cmp}
use Rattle.std.specs.Ordering.{nat_cmp}
use Rattle.std.proofs.lemmas.Cmp.{nat_list_cmp_total}
use Rattle.std.proofs.lemmas.Bool.{cases_eq, cases_lt}
use Rattle.std.proofs.lemmas.List.{length-map, get_or_past, get_or_default}
use Rattle.std.proofs.lemmas.Option.{slice_get_within, get_or_from_slice_get, slice_get-get_or}
use Rattle.omega_game_values.specs.declared.player.Player.{Player}
use Rattle.omega_game_values.specs.declared.player.Player.TheVariants.{Zero, One}
use Rattle.omega_game_values.specs.Game.{Node, IsGame, HasEdge, owner_at, priority_at, priorities, successors_at}
use Rattle.omega_game_values.specs.Winning.{Chooses, IsStrategy, IsWalk, IsClosedWalk, Leaves, Wins, end_of, greatest_on}
use Rattle.omega_game_values.specs.Player.{loses}
use Rattle.omega_lift_laws.specs.Measure.{Measure, IsAtMost, compare, compare_from, entries_from}
use Rattle.omega_lift_laws.specs.Allowance.{IsAllowanceOf, IsLiftValue, measure_at, suffices}
use Rattle.omega_lift_laws.specs.Least.{least_sufficient}
use Rattle.omega_lift_laws.specs.Run.{IsStable, IsTable}
use Rattle.omega_lift_laws.specs.Answer.{AreChoices, IsFirstLeast}
use Rattle.omega_lift_laws.proofs.BestPlaces.{IsGreatestPlace, greatest_place}
use Rattle.omega_lift_laws.proofs.Order.{compare_total, front, less_from_greater, above_of_at_most, at_least_above, at_most_trans, at_most_from_above, at_most_itself}
use Rattle.omega_lift_laws.proofs.LeastMeasure.{enough, greater_enough, not_less_enough, at_most_from, coarsening, least_sufficient_is, allowance_is_unique, suffices_up}
use Rattle.omega_lift_laws.proofs.Lifting.{measure_at_is}

-- two players are one or differ
pub cases_player : (a b : Player) → (a ≡ b) ⊎ (a ≢ b)
cases_player Zero Zero = inl refl
cases_player Zero One = inr (λ h. absurd (cc))
cases_player One Zero = inr (λ h. absurd (cc))
cases_player One One = inl refl

-- a measure is top or below it
pub cases_top : (x : Measure) → (x ≡ None) ⊎ IsSome x
cases_top None = inl refl
cases_top (Some xs) = inr refl

-- what is at a place is a member
pub contains_at : (us : List ℕ) (k u : ℕ) → slice_get us k ≡ Some u → Contains us u
contains_at us k u e = (k, slice_get_within us k u e, get_or_from_slice_get us k u u e)

-- and a member is at a place
pub at_contained : (us : List ℕ) (u : ℕ) (c : Contains us u) → slice_get us c.0 ≡ Some u
at_contained us u c = slice_get-get_or us c.0 u c.1 ∙ ap Some c.2

pub choices_strategy :
    (nodes : List Node) (player : Player) (table : List Measure) (choices : List (Option ℕ))
    → AreChoices nodes player table choices → IsStrategy nodes player choices
choices_strategy nodes player table choices h = record {
  entries = h.entries;
  owned = owned;
  listed = listed;
}
  where
    within : (v w : ℕ) → Chooses choices v w → v < length nodes
    within v w c = omega (arith, slice_get_within choices v (Some w) c, h.entries)

    owned : (v w : ℕ) → Chooses choices v w → owner_at nodes v ≡ player
    owned v w c = go (cases_player (owner_at nodes v) player)
      where
        go : (owner_at nodes v ≡ player) ⊎ (owner_at nodes v ≢ player) → owner_at nodes v ≡ player
        go (inl e) = e
        go (inr n) = absurd (let e = sym (h.others v (within v w c) n) ∙ c in cc)

    listed : (v w : ℕ) → Chooses choices v w → HasEdge nodes v w
    listed v w c = go (cases_top (measure_at table v))
      where
        go : (measure_at table v ≡ None) ⊎ IsSome (measure_at table v) → HasEdge nodes v w
        go (inl e) = absurd (let f = sym (h.lost v (within v w c) e) ∙ c in cc)
        go (inr s) =
            let chosen = h.chosen v (within v w c) (owned v w c) s in
            let same : chosen.0 ≡ w = let e = sym chosen.1 ∙ c in cc in
            subst (HasEdge nodes v) same (contains_at (successors_at nodes v) chosen.2.index chosen.0 chosen.2.listed)

-- a measure below top that suffices is above if the priority loses
pub above_from_suffices :
    (player : Player) (bearing : List ℕ) (p : ℕ) (x y : Measure)
    → IsTrue (suffices player bearing p x y) → IsSome x → IsTrue (loses player p) → compare_from player bearing p x y ≡ Greater
above_from_suffices player bearing p None y h s l = absurd (let e : false ≡ true = s in cc)
above_from_suffices player bearing p (Some xs) None h s l = absurd (let e : false ≡ true = h in cc)
above_from_suffices player bearing p (Some xs) (Some ys) h s l =
    let kept = entries_from player bearing p in
    let o : Ordering = slice_cmp nat_cmp (take kept xs) (take kept ys) in
    greater_enough o (subst (λ b. IsTrue (enough b o)) l h)

-- and at least as great in any case
pub at_most_from_suffices :
    (player : Player) (bearing : List ℕ) (p : ℕ) (x y : Measure)
    → IsTrue (suffices player bearing p x y) → IsSome x → compare_from player bearing p y x ≢ Greater
at_most_from_suffices player bearing p None y h s = absurd (let e : false ≡ true = s in cc)
at_most_from_suffices player bearing p (Some xs) None h s = absurd (let e : false ≡ true = h in cc)
at_most_from_suffices player bearing p (Some xs) (Some ys) h s = go (loses player p) h
  where
    kept : ℕ
    kept = entries_from player bearing p

    go :
        (b : Bool) → IsTrue (enough b (slice_cmp nat_cmp (take kept xs) (take kept ys)))
        → slice_cmp nat_cmp (take kept ys) (take kept xs) ≢ Greater
    go true k = at_most_from_above nat_list_cmp_total (take kept xs) (take kept ys) (greater_enough (slice_cmp nat_cmp (take kept xs) (take kept ys)) k)
    go false k = λ g. not_less_enough (slice_cmp nat_cmp (take kept xs) (take kept ys)) k (less_from_greater nat_list_cmp_total (take kept ys) (take kept xs) g)

-- what suffices below top does so towards what is below top
pub below_top_from_suffices :
    (player : Player) (bearing : List ℕ) (p : ℕ) (x y : Measure) → IsTrue (suffices player bearing p x y) → IsSome x → IsSome y
below_top_from_suffices player bearing p None y h s = absurd (let e : false ≡ true = s in cc)
below_top_from_suffices player bearing p (Some xs) None h s = absurd (let e : false ≡ true = h in cc)
below_top_from_suffices player bearing p (Some xs) (Some ys) h s = refl

-- a place whose measure is below top is one of the game
pub place_below_top :
    (nodes : List Node) (player : Player) (table : List Measure) (v : ℕ)
    → length table ≡ length nodes → IsSome (measure_at table v) → v < length nodes
place_below_top nodes player table v e s = go (cases_lt v (length nodes))
  where
    go : (v < length nodes) ⊎ (length nodes ≤ v) → v < length nodes
    go (inl lt) = lt
    go (inr le) = absurd (let none = get_or_past table v None (omega arith) in let f = sym s ∙ ap is_some none in cc)

-- the lift value of a place whose lift is not due is at most its measure
pub not_due :
    (nodes : List Node) (player : Player) (table : List Measure) (v : ℕ) (x : Measure)
    → IsStable nodes player table → v < length nodes → IsLiftValue nodes player table v x → IsAtMost x (measure_at table v)
not_due nodes player table v x stable lt value above = stable v lt (x, record { value = value; above = above })

-- the allowance towards a place of a table, as a function
abbrev pub allowance_towards : List Node → Player → List Measure → ℕ → ℕ → Measure
allowance_towards nodes player table v w = least_sufficient player (priorities nodes) (priority_at nodes v) (measure_at table w)

pub allowance_towards_is :
    (nodes : List Node) (player : Player) (table : List Measure) (v w : ℕ)
    → IsTable player (priorities nodes) table → IsAllowanceOf nodes player table v w (allowance_towards nodes player table v w)
allowance_towards_is nodes player table v w h =
    least_sufficient_is player (priorities nodes) (priority_at nodes v) (measure_at table w) (measure_at_is player (priorities nodes) table h w)

-- a place of the other player has a lift value: its greatest allowance
opponent_lift_value :
    (nodes : List Node) (player : Player) (table : List Measure) (v : ℕ)
    → IsGame nodes → IsTable player (priorities nodes) table → v < length nodes → owner_at nodes v ≢ player
    → (x : Measure) × IsLiftValue nodes player table v x
opponent_lift_value nodes player table v game h lt n = go (successors_at nodes v) refl (game.continued v lt)
  where
    f : ℕ → Measure
    f w = allowance_towards nodes player table v w

    go :
        (us : List ℕ) → us ≡ successors_at nodes v → 0 < length (successors_at nodes v)
        → (x : Measure) × IsLiftValue nodes player table v x
    go [] e k = absurd (let none = ap length e in omega arith)
    go (u ∷ us) e k = (
      f best,
      record {
        successor = best;
        listed = subst (λ ws. Contains ws best) e (r.0, r.1.within, get_or_default (u ∷ us) r.0 best 0 r.1.within);
        allowance = allowance_towards_is nodes player table v best h;
        least = λ o w y edge allows. absurd (n o);
        greatest = λ o w y edge allows. greatest w y (subst (λ ws. Contains ws w) (sym e) edge) allows;
      },
    )
      where
        r : (k : ℕ) × IsGreatestPlace f (u ∷ us) k
        r = greatest_place f u us

        best : ℕ
        best = get_or (u ∷ us) r.0 0

        greatest : (w : ℕ) (y : Measure) → Contains (u ∷ us) w → IsAllowanceOf nodes player table v w y → IsAtMost y (f best)
        greatest w y c allows =
            let at_w : get_or (u ∷ us) c.0 0 ≡ w = get_or_default (u ∷ us) c.0 0 w c.1 ∙ c.2 in
            let same : y ≡ f w =
            allowance_is_unique player (priorities nodes) (priority_at nodes v) (measure_at table w) y (f w) allows
            (allowance_towards_is nodes player table v w h) in
            subst (λ z. IsAtMost z (f best)) (sym same) (subst (λ z. compare (f z) (f best) ≢ Greater) at_w (r.1.greatest c.0 c.1))

-- if no lift is due, the measure of a won place suffices towards each place that the choices leave possible
pub won_suffices :
    (nodes : List Node) (player : Player) (table : List Measure) (choices : List (Option ℕ)) (v w : ℕ)
    → IsGame nodes → IsTable player (priorities nodes) table → IsStable nodes player table → AreChoices nodes player table choices
    → IsSome (measure_at table v) → Leaves nodes player choices v w
    → IsTrue (suffices player (priorities nodes) (priority_at nodes v) (measure_at table v) (measure_at table w))
won_suffices nodes player table choices v w game h stable chosen s edge = go (cases_player (owner_at nodes v) player)
  where
    bearing : List ℕ
    bearing = priorities nodes

    p : ℕ
    p = priority_at nodes v

    same_length : length table ≡ length nodes
    same_length = h.entries ∙ length-map nodes (λ node. node.priority)

    within : v < length nodes
    within = place_below_top nodes player table v same_length s

    from_allowance :
        (u : ℕ) (x : Measure) → IsAllowanceOf nodes player table v u x → IsAtMost x (measure_at table v)
        → IsTrue (suffices player bearing p (measure_at table v) (measure_at table u))
    from_allowance u x allows at_most =
        suffices_up player bearing p x (measure_at table u) (measure_at table v) allows.enough (at_most_from player bearing p x (measure_at table v) at_most)

    by_choice :
        owner_at nodes v ≡ player → (c : ℕ) → Chooses choices v c → IsFirstLeast nodes player table v c
        → w ≡ c → IsTrue (suffices player bearing p (measure_at table v) (measure_at table w))
    by_choice o c chooses first e =
        subst (λ u. IsTrue (suffices player bearing p (measure_at table v) (measure_at table u))) (sym e)
        (from_allowance c first.allowance first.allows (not_due nodes player table v first.allowance stable within value))
      where
        value : IsLiftValue nodes player table v first.allowance
        value = record {
          successor = c;
          listed = contains_at (successors_at nodes v) first.index c first.listed;
          allowance = first.allows;
          least = λ own u y listed allows. first.least listed.0 u y (at_contained (successors_at nodes v) u listed) allows;
          greatest = λ other u y listed allows. absurd (other o);
        }

    go :
        (owner_at nodes v ≡ player) ⊎ (owner_at nodes v ≢ player)
        → IsTrue (suffices player bearing p (measure_at table v) (measure_at table w))
    go (inl o) = let c = chosen.chosen v within o s in by_choice o c.0 c.1 c.2 (edge.chosen o c.0 c.1)
    go (inr n) =
        let value = opponent_lift_value nodes player table v game h within n in
        let allows = allowance_towards_is nodes player table v w h in
        from_allowance w (allowance_towards nodes player table v w) allows
        (at_most_trans compare_total (allowance_towards nodes player table v w) value.0 (measure_at table v)
        (value.1.greatest n w (allowance_towards nodes player table v w) edge.listed allows)
        (not_due nodes player table v value.0 stable within value.1))

-- what is known along the edges that a strategy leaves possible: won places lead to won places,
-- and the measures suffice
pub record Descends (nodes : List Node) (player : Player) (choices : List (Option ℕ)) (table : List Measure) : Type 0 where
  pub suffices :
      (v w : ℕ) → IsSome (measure_at table v) → Leaves nodes player choices v w
      → IsTrue (suffices player (priorities nodes) (priority_at nodes v) (measure_at table v) (measure_at table w))

module _ (nodes : List Node) (player : Player) (choices : List (Option ℕ)) (table : List Measure) (d : Descends nodes player choices table) where
  -- the measure of a place is below top
  abbrev IsWon : ℕ → Type 0
  IsWon v = IsSome (measure_at table v)

  -- its entries for priorities at least q
  abbrev front_at : ℕ → ℕ → Measure
  front_at q v = front (entries_from player (priorities nodes) q) (measure_at table v)

  -- how two places compare on these
  abbrev compares : ℕ → ℕ → ℕ → Ordering
  compares q v w = compare_from player (priorities nodes) q (measure_at table v) (measure_at table w)

  won_next : (v w : ℕ) → IsWon v → Leaves nodes player choices v w → IsWon w
  won_next v w s edge =
      below_top_from_suffices player (priorities nodes) (priority_at nodes v) (measure_at table v) (measure_at table w) (d.suffices v w s edge) s

  -- a walk from a won place stays among won places
  won_along : (v : ℕ) (ws : List ℕ) → IsWon v → IsWalk nodes player choices v ws → IsWon (end_of v ws)
  won_along v [] s walk = s
  won_along v (w ∷ ws) s walk = won_along w ws (won_next v w s walk.0) walk.1

  -- an edge never leads up on the entries for priorities at least q, if that of its first node is at most q
  at_most_next :
      (q v w : ℕ) → priority_at nodes v ≤ q → IsWon v → Leaves nodes player choices v w
      → compares q w v ≢ Greater
  at_most_next q v w le s edge =
      coarsening player (priorities nodes) (priority_at nodes v) q (measure_at table w) (measure_at table v) le
      (at_most_from_suffices player (priorities nodes) (priority_at nodes v) (measure_at table v) (measure_at table w) (d.suffices v w s edge) s)

  -- nor does a walk whose priorities are at most q
  at_most_along :
      (q v : ℕ) (ws : List ℕ) → greatest_on nodes v ws ≤ q → IsWon v → IsWalk nodes player choices v ws
      → compares q (end_of v ws) v ≢ Greater
  at_most_along q v [] le s walk = at_most_itself compare_total (front_at q v)
  at_most_along q v (w ∷ ws) le s walk =
      at_most_trans compare_total (front_at q (end_of w ws)) (front_at q w) (front_at q v)
      (at_most_along q w ws (omega arith) (won_next v w s walk.0) walk.1)
      (at_most_next q v w (omega arith) s walk.0)

  -- an edge from a node of losing priority q leads down
  above_next :
      (q v w : ℕ) → priority_at nodes v ≡ q → IsTrue (loses player q) → IsWon v → Leaves nodes player choices v w
      → compares q v w ≡ Greater
  above_next q v w e l s edge =
      above_from_suffices player (priorities nodes) q (measure_at table v) (measure_at table w)
      (subst (λ p. IsTrue (suffices player (priorities nodes) p (measure_at table v) (measure_at table w))) e (d.suffices v w s edge)) s l

  -- so does a walk whose greatest priority is q, if its first node has priority q
  climb_from :
      (q v w : ℕ) (ws : List ℕ) → greatest_on nodes v (w ∷ ws) ≡ q → priority_at nodes v ≡ q → IsTrue (loses player q) → IsWon v
      → IsWalk nodes player choices v (w ∷ ws)
      → compares q v (end_of w ws) ≡ Greater
  climb_from q v w ws greatest e l s walk =
      above_of_at_most compare_total (front_at q v) (front_at q w) (front_at q (end_of w ws))
      (above_next q v w e l s walk.0)
      (at_most_along q w ws (omega arith) (won_next v w s walk.0) walk.1)

  -- or if its last node does not
  climb :
      (q v : ℕ) (ws : List ℕ) → greatest_on nodes v ws ≡ q → priority_at nodes (end_of v ws) ≢ q → IsTrue (loses player q) → IsWon v
      → IsWalk nodes player choices v ws
      → compares q v (end_of v ws) ≡ Greater
  climb q v [] greatest n l s walk = absurd (n greatest)
  climb q v (w ∷ ws) greatest n l s walk =
      go (cases_eq (priority_at nodes v) q) (λ rest. climb q w ws rest n l (won_next v w s walk.0) walk.1)
    where
      go :
          (priority_at nodes v ≡ q) ⊎ (priority_at nodes v ≡ q → ⊥)
          → (greatest_on nodes w ws ≡ q → compares q w (end_of w ws) ≡ Greater)
          → compares q v (end_of w ws) ≡ Greater
      go (inl e) f = climb_from q v w ws greatest e l s walk
      go (inr m) f =
          at_least_above compare_total (front_at q v) (front_at q w) (front_at q (end_of w ws))
          (at_most_next q v w (omega arith) s walk.0) (f (omega (arith, m)))

  -- so no closed walk of won places has a greatest priority that loses
  closed_walk_is_won :
      (v : ℕ) (ws : List ℕ) → IsWon v → IsClosedWalk nodes player choices v ws → ¬ IsTrue (loses player (greatest_on nodes v ws))
  closed_walk_is_won v [] s c l = omega (arith, c.longer)
  closed_walk_is_won v (w ∷ ws) s c l = go (cases_eq (priority_at nodes v) q)
    where
      q : ℕ
      q = greatest_on nodes v (w ∷ ws)

      refute : compares q v (end_of w ws) ≡ Greater → ⊥
      refute g =
          at_most_itself compare_total (front_at q v)
          (subst (λ u. compares q v u ≡ Greater) c.closed g)

      go : (priority_at nodes v ≡ q) ⊎ (priority_at nodes v ≡ q → ⊥) → ⊥
      go (inl e) = refute (climb_from q v w ws refl e l s c.walk)
      go (inr n) = refute (climb q v (w ∷ ws) refl (λ e. n (ap (priority_at nodes) (sym c.closed) ∙ e)) l s c.walk)

  pub wins_where_won : (v : ℕ) → IsWon v → Wins nodes player choices v
  wins_where_won v s there around walk closed =
      closed_walk_is_won (end_of v there) around (won_along v there s walk) closed

pub choices_winning :
    (nodes : List Node) (player : Player) (table : List Measure) (choices : List (Option ℕ)) (v : ℕ)
    → IsGame nodes → IsTable player (priorities nodes) table → IsStable nodes player table
    → AreChoices nodes player table choices → IsSome (measure_at table v) → Wins nodes player choices v
choices_winning nodes player table choices v game h stable chosen s =
    let d : Descends nodes player choices table = record {
      suffices = λ v w s edge. won_suffices nodes player table choices v w game h stable chosen s edge;
    } in
    wins_where_won nodes player choices table d v s
