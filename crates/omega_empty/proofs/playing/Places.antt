-- The places of an emptiness game: each is that of a state at a counter, of an edge at a counter or of the sink, and
-- edges of the automaton lead from place to place.
use Rattle.std.proofs.Common.{◌≡◌, ℕ, zero, suc, ◌+◌, ◌<◌, inl, inr, Bool, true, List, [], ◌∷◌, length, map, get_or, Contains, Option, Some, sym, ap, refl, ◌∙◌, subst, arith, zero-add}
use Rattle.std.specs.Prelude.{slice_get}
use Rattle.std.specs.List.Sorted.{IsStrictlyIncreasing}
use Rattle.std.proofs.lemmas.Bool.{cases_order}
use Rattle.std.proofs.lemmas.List.Kept.{AllPairs-from_increasing}
use Rattle.std.proofs.lemmas.List.Sorted.{Contains-permutation, IsPermutation-sym}
use Rattle.std.proofs.lemmas.List.{length-map}
use Rattle.std.proofs.lemmas.Option.{slice_get_within}
use Rattle.omega_hoa_parity_kind.specs.Priority.{greatest_number}
use Rattle.omega_hoa_acceptance.specs.declared.kind.AccKind.{AccKind}
use Rattle.omega_hoa_automaton.specs.Automaton.{AreBelow, Description, IsAutomaton, edge_count, edges_of}
use Rattle.omega_game_values.proofs.elements.Membership.{map-Contains}
use Rattle.omega_game_values.specs.Building.{IsGameOf, specified}
use Rattle.omega_game_values.specs.Game.{HasEdge, Node, identifier_at, identifiers, node_at, owner_at, priority_at, successors_at}
use Rattle.omega_game_values.specs.Winning.{IsWalk, Leaves, end_of, greatest_on}
use Rattle.omega_game_values.specs.declared.node_spec.NodeSpec.{NodeSpec}
use Rattle.omega_game_values.specs.declared.player.Player.TheVariants.{Zero, One}
use Rattle.omega_empty.specs.Counters.{counter_after, counters, priority_at_counter}
use Rattle.omega_lang_runs.specs.Judging.{AreUsable}
use Rattle.omega_empty.specs.EmptinessGame.{edge_id, edge_node, is_usable, leaving, or_sink, sink_id, state_id, state_node, table}
use Rattle.omega_lang_runs.specs.Lasso.{IsStep, Leads, marks_at, marks_of}
use Rattle.omega_empty.proofs.Counters.{counter_after_below, counter_after_marks, priorities_from}
use Rattle.omega_lang_runs.proofs.Kept.{edge_kept, marks_are}
use Rattle.omega_empty.proofs.playing.Table.{IsRow, edge_row, leaving_has, row_of, state_row}

-- identifiers tell places
identifier_get : (nodes : List Node) (v : ℕ) → v < length nodes → get_or (identifiers nodes) v 0 ≡ identifier_at nodes v
identifier_get [] v below = absurd (omega arith)
identifier_get (node ∷ nodes) zero below = refl
identifier_get (node ∷ nodes) (suc v) below = identifier_get nodes v (omega arith)

pub same_place : (nodes : List Node) (v w : ℕ) → IsStrictlyIncreasing (identifiers nodes) → v < length nodes → w < length nodes
    → identifier_at nodes v ≡ identifier_at nodes w → v ≡ w
same_place nodes v w rising v_below w_below same = elim (cases_order v w) [
  | inl here ↦ here
  | inr apart ↦ absurd (elim apart [
    | inl less ↦ omega (
      arith,
      AllPairs-from_increasing (identifiers nodes) rising v w 0 less (omega (arith, length-map nodes (λ (node : Node). node.identifier))),
      identifier_get nodes v v_below,
      identifier_get nodes w w_below,
    )
    | inr more ↦ omega (
      arith,
      AllPairs-from_increasing (identifiers nodes) rising w v 0 more (omega (arith, length-map nodes (λ (node : Node). node.identifier))),
      identifier_get nodes v v_below,
      identifier_get nodes w w_below,
    )
  ])
]

specified_at : (all nodes : List Node) (v : ℕ) → v < length nodes → Contains (map (specified all) nodes) (specified all (node_at nodes v))
specified_at all [] v below = absurd (omega arith)
specified_at all (node ∷ nodes) zero below = (0, omega arith, refl)
specified_at all (node ∷ nodes) (suc v) below = let rest = specified_at all nodes v (omega arith) in (suc rest.0, omega (arith, rest.1), rest.2)

module _ (kind : AccKind) (a : Description) (usable : List Bool) (nodes : List Node)
    (automaton : IsAutomaton a) (usable_are : AreUsable a usable) (made : IsGameOf (table kind a usable) nodes) where
  row_at : (v : ℕ) → v < length nodes → IsRow kind a usable (specified nodes (node_at nodes v))
  row_at v below =
      row_of kind a usable (specified nodes (node_at nodes v))
      (Contains-permutation (map (specified nodes) nodes) (table kind a usable) (specified nodes (node_at nodes v))
      (IsPermutation-sym (table kind a usable) (map (specified nodes) nodes) made.rearranged) (specified_at nodes nodes v below))

  -- a place is that of a state at a counter
  pub record Stands (v counter state : ℕ) : Type 0 where
    pub place : v < length nodes
    pub named : identifier_at nodes v ≡ state_id a counter state
    pub counter_below : counter < counters kind
    pub state_below : state < a.states

  state_at : (v counter state : ℕ) → Stands v counter state → specified nodes (node_at nodes v) ≡ state_node kind a usable counter state
  state_at v counter state stands =
      state_row kind a usable (specified nodes (node_at nodes v)) counter state stands.counter_below stands.state_below stands.named (row_at v stands.place)

  pub stands_priority : (v counter state : ℕ) → Stands v counter state → priority_at nodes v ≡ 0
  stands_priority v counter state stands = ap (λ (row : NodeSpec). row.priority) (state_at v counter state stands)

  -- an edge that is usable leads from a state's place over its own to that of its target
  pub record Moves (v counter number to : ℕ) : Type 0 where
    pub over : ℕ
    pub next : ℕ
    pub first : HasEdge nodes v over
    pub second : HasEdge nodes over next
    pub first_owner : owner_at nodes v ≡ Zero
    pub second_owner : owner_at nodes over ≡ Zero
    pub priority : priority_at nodes over ≡ priority_at_counter kind counter (marks_at a number)
    pub stands : Stands next (counter_after kind counter (marks_at a number)) to

  or_sink_has : (sink x : ℕ) (xs : List ℕ) → Contains xs x → Contains (or_sink sink xs) x
  or_sink_has sink x [] has = absurd (omega (arith, has.1))
  or_sink_has sink x (y ∷ ys) has = has

  under : (f : ℕ → ℕ) (xs : List ℕ) (x : ℕ) → Contains xs x → Contains (map f xs) (f x)
  under f [] x has = absurd (omega (arith, has.1))
  under f (y ∷ ys) x (zero, below, here) = (0, omega arith, ap f here)
  under f (y ∷ ys) x (suc k, below, here) = let rest = under f ys x (k, omega arith, here) in (suc rest.0, omega (arith, rest.1), rest.2)

  moves : (v counter from number to : ℕ) → Stands v counter from → IsStep a from number to → Moves v counter number to
  moves v counter from number to stands step =
      let below : number < edge_count a = slice_get_within (edges_of a) number step.edge step.numbered in
      let test : slice_get usable number ≡ Some true = (usable_are.judged number step.edge step.numbered).1 step.usable in
      let usable_is : is_usable usable (0 + number) ≡ true = ap (is_usable usable) (zero-add number) ∙ reported usable number test in
      let left : Contains (leaving usable from 0 (edges_of a)) number =
      subst (λ (n : ℕ). Contains (leaving usable from 0 (edges_of a)) n) (zero-add number)
      (leaving_has kind a usable from 0 number (edges_of a) step.edge step.numbered step.leaves usable_is) in
      let row = state_at v counter from stands in
      let listed : Contains (map (identifier_at nodes) (successors_at nodes v)) (edge_id a counter number) =
      subst (λ (ids : List ℕ). Contains ids (edge_id a counter number)) (sym (ap (λ (r : NodeSpec). r.successors) row))
      (or_sink_has (sink_id kind a) (edge_id a counter number) (map (edge_id a counter) (leaving usable from 0 (edges_of a)))
      (under (edge_id a counter) (leaving usable from 0 (edges_of a)) number left)) in
      let over = map-Contains (identifier_at nodes) (successors_at nodes v) (edge_id a counter number) listed in
      let over_below : over.0 < length nodes = made.game.closed v over.0 over.1 in
      let over_row : specified nodes (node_at nodes over.0) ≡ edge_node kind a counter number step.edge =
      edge_row kind a usable (specified nodes (node_at nodes over.0)) counter number step.edge stands.counter_below below step.numbered (sym over.2) (row_at over.0 over_below) in
      let marks_is : marks_of step.edge ≡ marks_at a number = sym (marks_are a number step.edge step.numbered) in
      let target : map (state_id a (counter_after kind counter (marks_of step.edge))) step.edge.edge.targets ≡ state_id a (counter_after kind counter (marks_at a number)) to ∷ [] =
      ap (λ (marks : List ℕ). map (state_id a (counter_after kind counter marks)) step.edge.edge.targets) marks_is
      ∙ ap (map (state_id a (counter_after kind counter (marks_at a number)))) step.enters in
      let listed_next : Contains (map (identifier_at nodes) (successors_at nodes over.0)) (state_id a (counter_after kind counter (marks_at a number)) to) =
      subst (λ (ids : List ℕ). Contains ids (state_id a (counter_after kind counter (marks_at a number)) to))
      (sym (ap (λ (r : NodeSpec). r.successors) over_row ∙ target)) (0, omega arith, refl) in
      let next = map-Contains (identifier_at nodes) (successors_at nodes over.0) (state_id a (counter_after kind counter (marks_at a number)) to) listed_next in
      let kept = edge_kept a automaton number step.edge step.numbered in
      let to_below : to < a.states =
      (subst (λ (targets : List ℕ). AreBelow a.states targets) step.enters kept.1.targets.below) 0 0 (omega arith) in
      record {
        over = over.0;
        next = next.0;
        first = over.1;
        second = next.1;
        first_owner = ap (λ (r : NodeSpec). r.owner) row;
        second_owner = ap (λ (r : NodeSpec). r.owner) over_row;
        priority = ap (λ (r : NodeSpec). r.priority) over_row ∙ ap (priority_at_counter kind counter) marks_is;
        stands = record {
          place = made.game.closed over.0 next.0 next.1;
          named = sym next.2;
          counter_below = counter_after_below kind counter (marks_at a number) stands.counter_below;
          state_below = to_below;
        };
      }
    where
      reported : (entries : List Bool) (number : ℕ) → slice_get entries number ≡ Some true → is_usable entries number ≡ true
      reported [] zero test = cc
      reported [] (suc number) test = cc
      reported (x ∷ xs) zero test = cc
      reported (x ∷ xs) (suc number) test = reported xs number test

  -- edges of the automaton are a walk of the game, whichever strategy player 1 has
  pub record Walks (choices : List (Option ℕ)) (v counter : ℕ) (numbers : List ℕ) (to : ℕ) : Type 0 where
    pub places : List ℕ
    pub walk : IsWalk nodes One choices v places
    pub stands : Stands (end_of v places) (counter_after_marks kind counter (map (marks_at a) numbers)) to
    pub greatest_is : greatest_on nodes v places ≡ greatest_number (priorities_from kind counter (map (marks_at a) numbers))
    pub longer : 0 < length numbers → 0 < length places

  unowned : (choices : List (Option ℕ)) (v w : ℕ) → owner_at nodes v ≡ Zero → HasEdge nodes v w → Leaves nodes One choices v w
  unowned choices v w owner edge = record { listed = edge; chosen = λ one c chooses. absurd (apart (sym owner ∙ one)) }
    where
      apart : Zero ≡ One → ⊥
      apart e = cc

  pub walks : (choices : List (Option ℕ)) (v counter from : ℕ) (numbers : List ℕ) (to : ℕ) → Stands v counter from → Leads a from numbers to → Walks choices v counter numbers to
  walks choices v counter from [] to stands leads = record {
    places = [];
    walk = stands.place;
    stands = subst (λ (s : ℕ). Stands v counter s) leads stands;
    greatest_is = stands_priority v counter from stands;
    longer = λ some. some;
  }
  walks choices v counter from (number ∷ numbers) to stands leads =
      let move : Moves v counter number leads.0 = moves v counter from number leads.0 stands leads.1 in
      let rest : Walks choices move.next (counter_after kind counter (marks_at a number)) numbers to =
      walks choices move.next (counter_after kind counter (marks_at a number)) leads.0 numbers to move.stands leads.2 in
      record {
        places = move.over ∷ move.next ∷ rest.places;
        walk = (unowned choices v move.over move.first_owner move.first, (unowned choices move.over move.next move.second_owner move.second, rest.walk));
        stands = rest.stands;
        greatest_is = omega (arith, stands_priority v counter from stands, move.priority, rest.greatest_is);
        longer = λ some. omega arith;
      }
