-- The measures of the successors decide whether a lift is due.
use Rattle.std.proofs.Common.{◌≡◌, ◌≢◌, ℕ, ◌<◌, List, Option, Some, None, length, arith, refl, sym, ◌∙◌, subst, slice_index, take}
use Rattle.std.specs.Option.{IsSome, MatchOption, option_map}
use Rattle.std.specs.Cmp.{IsTotalOrder}
use Rattle.std.specs.declared.cmp.Ordering.{Ordering}
use Rattle.std.specs.declared.cmp.Ordering.TheVariants.{Greater, Less}
use Rattle.std.proofs.lemmas.Cmp.{on_total}
use Rattle.std.proofs.lemmas.Bool.{false≢true}
use Rattle.std.proofs.lemmas.List.{get_or-map, length-map}
use Rattle.omega_game_values.specs.declared.player.Player.{Player}
use Rattle.omega_game_values.specs.Game.{Node, IsGame, HasEdge, no_node, owner_at, priorities, priority_at, successors_at}
use Rattle.omega_lift_laws.specs.Measure.{Measure, IsAbove, IsAtMost, compare_from, entries_from}
use Rattle.omega_lift_laws.specs.Allowance.{IsAllowance, IsAllowanceOf, IsLiftValue, measure_at}
use Rattle.omega_lift_laws.specs.Run.{IsDue}
use Rattle.omega_lift_laws.specs.Answer.{IsFirstLeast}
use Rattle.omega_lift_laws.specs.Laws.{AllowancesAreMonotone, AllowancesAreStrict, AllowancesExist, MeasuresAreOrdered}
use Rattle.omega_measure.specs.Table.{Content, Exceeds, IsAllowanceIn}
use Rattle.omega_solve.specs.private.solving.Successor.{IsDueTowards, IsFirstBest, IsLeastExceeded, IsTableOf, KeepsToSome, order_from}
use Rattle.omega_solve.proofs.lifting.Edges.{edge_at, index_of_edge}
use Rattle.omega_solve.proofs.lifting.Order.{reversed, still_above}

-- the order of places is total
pub order_total : (content : Content) (p : ℕ) → MeasuresAreOrdered → IsTotalOrder (order_from content p)
order_total content p o =
    on_total (λ (v : ℕ). option_map (take (entries_from content.player content.priorities p)) (measure_at content.measures v)) o

-- what is said of the table's player and priorities holds of the game's
moved : (P : Player → List ℕ → Type 0) (nodes : List Node) (player : Player) (content : Content)
    → IsTableOf nodes player content → P content.player content.priorities → P player (priorities nodes)
moved P nodes player content table h =
    subst (λ (q : List ℕ). P player q) table.same_priorities (subst (λ (r : Player). P r content.priorities) table.same_player h)

-- and the other way
moved_back : (P : Player → List ℕ → Type 0) (nodes : List Node) (player : Player) (content : Content)
    → IsTableOf nodes player content → P player (priorities nodes) → P content.player content.priorities
moved_back P nodes player content table h =
    subst (λ (q : List ℕ). P content.player q) (sym table.same_priorities)
    (subst (λ (r : Player). P r (priorities nodes)) (sym table.same_player) h)

-- the priority at a place of the list of priorities
pub priority_in : (nodes : List Node) (v : ℕ) → v < length nodes → slice_index (priorities nodes) v ≡ priority_at nodes v
priority_in nodes v lt = get_or-map (λ (node : Node). node.priority) nodes v no_node 0 lt

-- an allowance in the table is one of the game
pub allowance_of : (nodes : List Node) (player : Player) (content : Content) (v w : ℕ) (x : Measure)
    → IsTableOf nodes player content → v < length nodes
    → IsAllowanceIn content v w x → IsAllowanceOf nodes player content.measures v w x
allowance_of nodes player content v w x table lt h =
    subst (λ (p : ℕ). IsAllowance player (priorities nodes) p (measure_at content.measures w) x) (priority_in nodes v lt)
    (moved (λ (r : Player) (q : List ℕ). IsAllowance r q (slice_index q v) (measure_at content.measures w) x) nodes player content table h)

-- and the other way
pub allowance_in : (nodes : List Node) (player : Player) (content : Content) (v w : ℕ) (x : Measure)
    → IsTableOf nodes player content → v < length nodes
    → IsAllowanceOf nodes player content.measures v w x → IsAllowanceIn content v w x
allowance_in nodes player content v w x table lt h =
    moved_back (λ (r : Player) (q : List ℕ). IsAllowance r q (slice_index q v) (measure_at content.measures w) x) nodes player content table
    (subst (λ (p : ℕ). IsAllowance player (priorities nodes) p (measure_at content.measures w) x) (sym (priority_in nodes v lt)) h)

-- the order of places is that of their measures
order_is : (nodes : List Node) (player : Player) (content : Content) (p u w : ℕ) (r : Ordering)
    → IsTableOf nodes player content → compare_from player (priorities nodes) p (measure_at content.measures u) (measure_at content.measures w) ≡ r
    → order_from content p u w ≡ r
order_is nodes player content p u w r table h =
    moved_back (λ (s : Player) (q : List ℕ). compare_from s q p (measure_at content.measures u) (measure_at content.measures w) ≡ r) nodes player content table h

order_of : (nodes : List Node) (player : Player) (content : Content) (p u w : ℕ) (r : Ordering)
    → IsTableOf nodes player content → order_from content p u w ≡ r
    → compare_from player (priorities nodes) p (measure_at content.measures u) (measure_at content.measures w) ≡ r
order_of nodes player content p u w r table h =
    moved (λ (s : Player) (q : List ℕ). compare_from s q p (measure_at content.measures u) (measure_at content.measures w) ≡ r) nodes player content table h

-- if a lift value is at most the allowance towards a successor, and that does not exceed the measure, no lift is due
pub not_due : (nodes : List Node) (player : Player) (content : Content) (v w : ℕ)
    → IsTableOf nodes player content → v < length nodes → w < length content.measures → MeasuresAreOrdered → AllowancesExist
    → ((x y : Measure) → IsLiftValue nodes player content.measures v x → IsAllowanceOf nodes player content.measures v w y → IsAtMost x y)
    → ¬ Exceeds content v w → ¬ IsDue nodes player content.measures v
not_due nodes player content v w table lt inside order exist most keeps due =
    let allowed = exist player (priorities nodes) (priority_at nodes v) (measure_at content.measures w) (table.is_table.measures w inside) in
    keeps (record {
      allowance = allowed.0;
      is = allowance_in nodes player content v w allowed.0 table lt allowed.1;
      above = still_above order due.0 allowed.0 (measure_at content.measures v) (most due.0 allowed.0 due.1.value allowed.1) due.1.above;
    })

-- the least successor's allowance is least
least_allowance : (nodes : List Node) (player : Player) (content : Content) (v w : ℕ) (x : Measure)
    → IsTableOf nodes player content → MeasuresAreOrdered → AllowancesAreMonotone
    → IsFirstBest (order_from content (priority_at nodes v)) Less (successors_at nodes v) (length (successors_at nodes v)) w
    → IsAllowanceOf nodes player content.measures v w x
    → (u : ℕ) (y : Measure) → HasEdge nodes v u → IsAllowanceOf nodes player content.measures v u y → IsAtMost x y
least_allowance nodes player content v w x table order monotone best allows u y edge allows_u =
    let at = index_of_edge nodes v u edge in
    monotone player (priorities nodes) (priority_at nodes v) (measure_at content.measures w) (measure_at content.measures u) x y
    (λ above. best.best at.0 u at.1 at.2
    (reversed (order_total content (priority_at nodes v) order) w u Greater (order_is nodes player content (priority_at nodes v) w u Greater table above)))
    allows allows_u

-- the greatest successor's allowance is greatest
greatest_allowance : (nodes : List Node) (player : Player) (content : Content) (v w : ℕ) (x : Measure)
    → IsTableOf nodes player content → AllowancesAreMonotone
    → IsFirstBest (order_from content (priority_at nodes v)) Greater (successors_at nodes v) (length (successors_at nodes v)) w
    → IsAllowanceOf nodes player content.measures v w x
    → (u : ℕ) (y : Measure) → HasEdge nodes v u → IsAllowanceOf nodes player content.measures v u y → IsAtMost y x
greatest_allowance nodes player content v w x table monotone best allows u y edge allows_u =
    let at = index_of_edge nodes v u edge in
    monotone player (priorities nodes) (priority_at nodes v) (measure_at content.measures u) (measure_at content.measures w) y x
    (λ above. best.best at.0 u at.1 at.2 (order_is nodes player content (priority_at nodes v) u w Greater table above))
    allows_u allows

-- a lift is due towards a successor whose allowance is the lift value and exceeds the measure
towards_due : (nodes : List Node) (player : Player) (content : Content) (v w : ℕ)
    → IsTableOf nodes player content → v < length nodes → HasEdge nodes v w → (exceeds : Exceeds content v w)
    → (IsAllowanceOf nodes player content.measures v w exceeds.allowance → IsLiftValue nodes player content.measures v exceeds.allowance)
    → IsDueTowards nodes player content.measures v w
towards_due nodes player content v w table lt edge exceeds value =
    let allows = allowance_of nodes player content v w exceeds.allowance table lt exceeds.is in
    record {
      value = exceeds.allowance;
      listed = edge;
      allowance = allows;
      lifts = record { value = value allows; above = exceeds.above };
    }

-- at the player's own place a lift is due towards the least successor if the allowance towards it exceeds the measure
pub owned_due : (nodes : List Node) (player : Player) (content : Content) (v w : ℕ)
    → IsTableOf nodes player content → v < length nodes → MeasuresAreOrdered → AllowancesAreMonotone
    → owner_at nodes v ≡ player → Exceeds content v w
    → IsFirstBest (order_from content (priority_at nodes v)) Less (successors_at nodes v) (length (successors_at nodes v)) w
    → IsDueTowards nodes player content.measures v w
owned_due nodes player content v w table lt order monotone own exceeds best =
    let edge = edge_at nodes v best.index w best.listed in
    towards_due nodes player content v w table lt edge exceeds (λ allows. record {
      successor = w;
      listed = edge;
      allowance = allows;
      least = λ _. least_allowance nodes player content v w exceeds.allowance table order monotone best allows;
      greatest = λ other. absurd (other own);
    })

-- and none is due if that towards one does not
pub owned_not_due : (nodes : List Node) (player : Player) (content : Content) (v : ℕ)
    → IsGame nodes → IsTableOf nodes player content → v < length nodes → length content.measures ≡ length nodes → MeasuresAreOrdered → AllowancesExist
    → owner_at nodes v ≡ player → KeepsToSome nodes content v
    → ¬ IsDue nodes player content.measures v
owned_not_due nodes player content v game table lt entries order exist own keeps =
    let inside : keeps.0 < length content.measures = omega (arith, game.closed v keeps.0 keeps.1, entries) in
    not_due nodes player content v keeps.0 table lt inside order exist
    (λ x y value allows. value.least own keeps.0 y keeps.1 allows) keeps.2

-- so that the first least successor decides there
pub owned_towards : (nodes : List Node) (player : Player) (content : Content) (v : ℕ) (found : Option ℕ)
    → IsGame nodes → IsTableOf nodes player content → v < length nodes → length content.measures ≡ length nodes
    → MeasuresAreOrdered → AllowancesExist → AllowancesAreMonotone → owner_at nodes v ≡ player
    → MatchOption found (KeepsToSome nodes content v) (IsLeastExceeded nodes content v)
    → MatchOption found (¬ IsDue nodes player content.measures v) (IsDueTowards nodes player content.measures v)
owned_towards nodes player content v None game table lt entries order exist monotone own keeps =
    owned_not_due nodes player content v game table lt entries order exist own keeps
owned_towards nodes player content v (Some w) game table lt entries order exist monotone own least =
    owned_due nodes player content v w table lt order monotone own least.exceeds least.least

-- at the other's place a lift is due towards the greatest successor if the allowance towards it exceeds the measure
pub other_due : (nodes : List Node) (player : Player) (content : Content) (v w : ℕ)
    → IsTableOf nodes player content → v < length nodes → AllowancesAreMonotone
    → owner_at nodes v ≢ player → Exceeds content v w
    → IsFirstBest (order_from content (priority_at nodes v)) Greater (successors_at nodes v) (length (successors_at nodes v)) w
    → IsDueTowards nodes player content.measures v w
other_due nodes player content v w table lt monotone other exceeds best =
    let edge = edge_at nodes v best.index w best.listed in
    towards_due nodes player content v w table lt edge exceeds (λ allows. record {
      successor = w;
      listed = edge;
      allowance = allows;
      least = λ own. absurd (other own);
      greatest = λ _. greatest_allowance nodes player content v w exceeds.allowance table monotone best allows;
    })

-- and none is due if it does not
pub other_not_due : (nodes : List Node) (player : Player) (content : Content) (v w : ℕ)
    → IsGame nodes → IsTableOf nodes player content → v < length nodes → length content.measures ≡ length nodes → MeasuresAreOrdered
    → AllowancesExist → AllowancesAreMonotone
    → ¬ Exceeds content v w
    → IsFirstBest (order_from content (priority_at nodes v)) Greater (successors_at nodes v) (length (successors_at nodes v)) w
    → ¬ IsDue nodes player content.measures v
other_not_due nodes player content v w game table lt entries order exist monotone keeps best =
    let edge = edge_at nodes v best.index w best.listed in
    let inside : w < length content.measures = omega (arith, game.closed v w edge, entries) in
    not_due nodes player content v w table lt inside order exist
    (λ x y value allows. greatest_allowance nodes player content v w y table monotone best allows value.successor x value.listed value.allowance)
    keeps

-- what is not above a measure below top is below top
below_top : (x y : Measure) → ¬ IsAbove x y → IsSome y → IsSome x
below_top None None other some = absurd (false≢true some)
below_top None (Some ys) other some = absurd (other refl)
below_top (Some xs) y other some = refl

-- if no lift is due at the player's own place that is below top, the first least successor is its first of least
-- allowance
pub first_least : (nodes : List Node) (player : Player) (content : Content) (v w : ℕ)
    → IsGame nodes → IsTableOf nodes player content → length content.measures ≡ length nodes → MeasuresAreOrdered
    → AllowancesExist → AllowancesAreMonotone → AllowancesAreStrict
    → owner_at nodes v ≡ player → ¬ IsDue nodes player content.measures v → IsSome (measure_at content.measures v)
    → IsFirstBest (order_from content (priority_at nodes v)) Less (successors_at nodes v) (length (successors_at nodes v)) w
    → IsFirstLeast nodes player content.measures v w
first_least nodes player content v w game table entries order exist monotone strict own idle won best =
    let edge = edge_at nodes v best.index w best.listed in
    let measure = λ (u : ℕ) (listed : HasEdge nodes v u).
    let inside : u < length content.measures = omega (arith, game.closed v u listed, entries) in table.is_table.measures u inside in
    let allowed = exist player (priorities nodes) (priority_at nodes v) (measure_at content.measures w) (measure w edge) in
    let value : IsLiftValue nodes player content.measures v allowed.0 = record {
      successor = w;
      listed = edge;
      allowance = allowed.1;
      least = λ _. least_allowance nodes player content v w allowed.0 table order monotone best allowed.1;
      greatest = λ other. absurd (other own);
    } in
    let low = below_top allowed.0 (measure_at content.measures v) (λ above. idle (allowed.0, record { value = value; above = above })) won in
    record {
      index = best.index;
      listed = best.listed;
      allowance = allowed.0;
      allows = allowed.1;
      least = λ j u y at allows.
          least_allowance nodes player content v w allowed.0 table order monotone best allowed.1 u y (edge_at nodes v j u at) allows;
      first = λ j u y lt at allows.
          strict player (priorities nodes) (priority_at nodes v) (measure_at content.measures w) (measure_at content.measures u) allowed.0 y
          (measure w edge) (measure u (edge_at nodes v j u at))
          (order_of nodes player content (priority_at nodes v) w u Less table (best.first j u lt at)) allowed.1 allows low;
    }

-- a table of a game has a measure for each node
pub table_entries : (nodes : List Node) (player : Player) (content : Content) → IsTableOf nodes player content → length content.measures ≡ length nodes
table_entries nodes player content table = table.is_table.entries ∙ length-map nodes (λ (node : Node). node.priority)

-- what is not top is below top
pub some_from : (x : Measure) → x ≢ None → IsSome x
some_from None other = absurd (other refl)
some_from (Some xs) other = refl
