-- Leaders of groups of edges are the least places of components of the game.
use Rattle.std.proofs.Common.{◌≡◌, ℕ, ◌<◌, ◌≤◌, inl, inr, List, [], ◌∷◌, All, get_or, length, refl, sym, subst, arith}
use Rattle.std.specs.List.{range_with_len}
use Rattle.std.proofs.lemmas.List.{get_or_default}
use Rattle.omega_graph.specs.Components.{AreAmong, AreConnectedIn, HoldClosedWalksIn, ShareNoEdge, edge_component_at}
use Rattle.omega_graph.specs.Graph.{AreEdges, Shape}
use Rattle.omega_game_values.specs.Game.{IsGame, Node}
use Rattle.omega_game_values.specs.Paths.{IsPath, Reaches}
use Rattle.omega_game_values.specs.Winning.{end_of}
use Rattle.omega_answers_game.specs.Components.{AreConnected, AreLeaders, leader_at}
use Rattle.omega_answers_game.specs.private.Groups.{AreLed, IsAlone, IsEntered, IsLedIn}
use Rattle.omega_answers_game.specs.private.Table.{shape_of}
use Rattle.omega_answers_game.proofs.Grouped.{IsLast, leads_on, stands, stays}
use Rattle.omega_answers_game.proofs.Ranges.{range_below}
use Rattle.omega_answers_game.proofs.Walks.{Leads, all_edges, path_of, table_of, walk_of}

-- the edges of groups of all edges are edges
pub groups_inside : (shape : Shape) (groups : List (List ℕ)) → AreAmong (range_with_len 0 (length shape.edges)) groups → All (AreEdges shape) groups
groups_inside shape groups among = λ k d below j e inside.
    range_below (length shape.edges) (get_or (get_or groups k d) j e) (among k d below j e inside)

-- a place is connected with itself
itself : (nodes : List Node) (v : ℕ) → v < length nodes → AreConnected nodes v v
itself nodes v inside = record {
  there = record { path = []; joined = inside; ends = refl };
  back = record { path = []; joined = inside; ends = refl };
}

-- leaders are places
pub leaders_inside : (nodes : List Node) (leaders : List ℕ) → AreLeaders nodes leaders → All (λ leader. leader < length leaders) leaders
leaders_inside nodes leaders are k d below =
    omega (arith, below, are.each, get_or_default leaders k d 0 below, are.least k k (itself nodes k (omega (arith, below, are.each))))

-- a path ends at a place of the game
path_inside : (nodes : List Node) (v : ℕ) (path : List ℕ) → IsPath nodes v path → end_of v path < length nodes
path_inside nodes v [] inside = inside
path_inside nodes v (w ∷ path) steps = path_inside nodes w path steps.1

ends_inside : (nodes : List Node) (v w : ℕ) → Reaches nodes v w → w < length nodes
ends_inside nodes v w reaches = subst (λ (u : ℕ). u < length nodes) reaches.ends (path_inside nodes v reaches.path reaches.joined)

module _ (nodes : List Node) (game : IsGame nodes) (groups : List (List ℕ)) (among : AreAmong (all_edges nodes) groups)
    (connected : AreConnectedIn (shape_of nodes) groups) (closed : HoldClosedWalksIn (shape_of nodes) (all_edges nodes) groups) (apart : ShareNoEdge groups) where
  -- in a group
  led_least : (v w leader : ℕ) → IsLedIn (shape_of nodes) groups (length groups) v leader → AreConnected nodes v w → leader ≤ w
  led_least v w leader led pair =
      let edge : IsEntered (shape_of nodes) (edge_component_at groups led.index) v = led.entered in
      let ahead = walk_of nodes v w pair.there in
      let behind = walk_of nodes w v pair.back in
      let last : IsLast (table_of nodes) (edge_component_at groups led.index) w =
      stays (table_of nodes) (all_edges nodes) groups among (connected (λ number. [])) (closed (λ number. [])) apart led.index edge.edge w ahead.0 behind.0 led.below edge.has
      (subst (λ (state : ℕ). Leads nodes state ahead.0 w) (sym edge.enters) ahead.1)
      (subst (λ (state : ℕ). Leads nodes w behind.0 state) (sym edge.enters) behind.1) in
      led.least.least w (record { edge = last.edge; has = last.has; enters = last.enters })

  -- edges of a group lead to where its edges enter
  leads_in : (i v w : ℕ) → i < length groups → IsEntered (shape_of nodes) (edge_component_at groups i) v → IsEntered (shape_of nodes) (edge_component_at groups i) w
      → v < length nodes → Reaches nodes v w
  leads_in i v w below one other inside =
      let found = leads_on (table_of nodes) (all_edges nodes) groups among (connected (λ number. [])) (closed (λ number. [])) i one.edge other.edge below one.has other.has in
      path_of nodes game v found.0 w inside
      (subst (λ (state : ℕ). Leads nodes state found.0 w) one.enters (subst (λ (state : ℕ). Leads nodes (table_of nodes one.edge).to found.0 state) other.enters found.1))

  led_connected : (v leader : ℕ) → v < length nodes → leader < length nodes → IsLedIn (shape_of nodes) groups (length groups) v leader → AreConnected nodes v leader
  led_connected v leader inside inside' led = record {
    there = leads_in led.index v leader led.below led.entered led.least.entered inside;
    back = leads_in led.index leader v led.below led.least.entered led.entered inside';
  }

  -- alone
  alone_is : (v w leader : ℕ) → IsAlone (shape_of nodes) groups (length groups) v leader → AreConnected nodes v w → v ≡ w
  alone_is v w leader alone pair =
      let ahead = walk_of nodes v w pair.there in
      let behind = walk_of nodes w v pair.back in
      stands (table_of nodes) (all_edges nodes) groups among (connected (λ number. [])) (closed (λ number. [])) v w ahead.0 behind.0
      (λ found. alone.apart found.index found.below (record { edge = found.last.edge; has = found.last.has; enters = found.last.enters }))
      ahead.1 behind.1

  module _ (leaders : List ℕ) (led : AreLed (shape_of nodes) groups (length groups) leaders) where
    least_of : (v w : ℕ) → v < length nodes → AreConnected nodes v w → leader_at leaders v ≤ w
    least_of v w inside pair = elim (led.led v inside) [
      | inl in_group ↦ led_least v w (leader_at leaders v) in_group pair
      | inr alone ↦ omega (arith, alone.own, alone_is v w (leader_at leaders v) alone pair)
    ]

    connected_of : (v : ℕ) → v < length nodes → AreConnected nodes v (leader_at leaders v)
    connected_of v inside = elim (led.led v inside) [
      | inl in_group ↦ led_connected v (leader_at leaders v) inside (omega (arith, inside, least_of v v inside (itself nodes v inside))) in_group
      | inr alone ↦ subst (AreConnected nodes v) (sym alone.own) (itself nodes v inside)
    ]

    -- a place from which a path leads is one of the game
    starts_inside : (v w : ℕ) → AreConnected nodes v w → v < length nodes
    starts_inside v w pair = ends_inside nodes w v pair.back

    pub leaders_are : AreLeaders nodes leaders
    leaders_are = record {
      each = led.count;
      connected = connected_of;
      least = λ v w pair. least_of v w (starts_inside v w pair) pair;
    }

-- all that is known of groups of the edges of a shape gives the leaders of the game
abbrev GivesLeaders : List Node → Shape → Type 0
GivesLeaders nodes shape =
    (groups : List (List ℕ)) (leaders : List ℕ) → AreAmong (range_with_len 0 (length shape.edges)) groups → AreConnectedIn shape groups
    → HoldClosedWalksIn shape (range_with_len 0 (length shape.edges)) groups → ShareNoEdge groups → AreLed shape groups (length groups) leaders → AreLeaders nodes leaders

pub leaders_from : (nodes : List Node) (shape : Shape) → IsGame nodes → shape ≡ shape_of nodes → GivesLeaders nodes shape
leaders_from nodes shape game is =
    subst (GivesLeaders nodes) (sym is) (λ groups leaders among connected closed apart led. leaders_are nodes game groups among connected closed apart leaders led)
