-- The specifications of the game of rounds as they are added, and that they have no fault but their numbers.
use Rattle.std.proofs.Common.{◌≡◌, ◌==◌, ℕ, ◌+◌, ◌-◌, ◌<◌, ◌≤◌, Bool, true, false, cond, List, [], ◌∷◌, ◌++◌, length, map, take, get_or, nat_lt, Contains, Option, Some, None, Result, Ok, Err, sym, ap, refl, ◌∙◌, subst, arith}
use Rattle.std.specs.Prelude.{IfErr, OnOk}
use Rattle.std.specs.List.{range_with_len}
use Rattle.std.specs.List.Sorted.{IsStrictlyIncreasing}
use Rattle.std.proofs.lemmas.Bool.{eq-eqb, le-ltb, ltb-false, ltb-true, ne_eqb}
use Rattle.std.proofs.lemmas.List.{get_or-map, length-map, length_push, map_push, take_more}
use Rattle.std.proofs.lemmas.List.Elements.{Contains-get_or}
use Rattle.std.proofs.lemmas.List.FromFn.{length-map-range_with_len, map-range_with_len_more}
use Rattle.omega_text.specs.declared.refusal.Refusal.{Refusal}
use Rattle.omega_text.specs.declared.refusal.Refusal.TheVariants as refusals
use Rattle.omega_text.specs.declared.refusal.game.GameFault.{GameFault}
use Rattle.omega_text.specs.declared.refusal.game.GameFault.TheVariants as faults
use Rattle.omega_game_values.proofs.building.Duplicates.{no_duplicate}
use Rattle.omega_game_values.proofs.elements.Counting.{counted}
use Rattle.omega_game_values.proofs.elements.Membership.{map-map, map_same, none_passes}
use Rattle.omega_game_values.specs.Building.{IsBuildRefusal, game_fault_of, has_duplicate, has_undefined, listed_successors, specified_times, unnamed_spec, with_last, with_successor}
use Rattle.omega_game_values.specs.Game.{Node}
use Rattle.omega_game_values.specs.Limits.{most_nodes, most_successors}
use Rattle.omega_game_values.specs.declared.node_spec.NodeSpec.{NodeSpec}
use Rattle.omega_game_values.specs.declared.player.Player.{Player}
use Rattle.omega_synth_rounds.specs.Rounds.{IsRounds, answers_of}
use Rattle.omega_synth_rounds.specs.RoundsGame.{FitsAGame, IsRoundsFault, IsRoundsRefusal, node_count, node_for, table}
use Rattle.omega_synth_rounds.specs.declared.rounds.Rounds.{Rounds}
use Rattle.omega_synth_rounds.proofs.Placing.{id_is, in_range, low_at, range_has, range_rises}

-- the last one is changed
pub with_last_push : (change : NodeSpec → NodeSpec) (specs : List NodeSpec) (spec : NodeSpec)
    → with_last change (specs ++ spec ∷ []) ≡ specs ++ change spec ∷ []
with_last_push change [] spec = refl
with_last_push change (one ∷ []) spec = refl
with_last_push change (one ∷ next ∷ specs) spec = ap (λ list. one ∷ list) (with_last_push change (next ∷ specs) spec)

-- there is a last node
pub begun : (specs initial : List NodeSpec) (spec : NodeSpec) → specs ≡ initial ++ spec ∷ [] → 0 < length specs
begun specs initial spec is = omega (arith, ap length is, length_push initial spec)

-- a successor is added to it
linked : (specs initial : List NodeSpec) (id : ℕ) (owner : Player) (xs : List ℕ) (x : ℕ)
    → specs ≡ initial ++ unnamed_spec id 0 owner xs ∷ []
    → with_last (with_successor x) specs ≡ initial ++ unnamed_spec id 0 owner (xs ++ x ∷ []) ∷ []
linked specs initial id owner xs x is =
    ap (with_last (with_successor x)) is ∙ with_last_push (with_successor x) initial (unnamed_spec id 0 owner xs)

-- one of a range
pub range_linked : (new specs initial : List NodeSpec) (id : ℕ) (owner : Player) (f : ℕ → ℕ) (first question x : ℕ) → first ≤ question
    → specs ≡ initial ++ unnamed_spec id 0 owner (map f (range_with_len first (question - first))) ∷ []
    → x ≡ f question → new ≡ with_last (with_successor x) specs
    → new ≡ initial ++ unnamed_spec id 0 owner (map f (range_with_len first (question + 1 - first))) ∷ []
range_linked new specs initial id owner f first question x low is x_is made =
    let more : question + 1 - first ≡ question - first + 1 = omega arith in
    let list : map f (range_with_len first (question - first)) ++ x ∷ [] ≡ map f (range_with_len first (question + 1 - first)) =
    ap (λ y. map f (range_with_len first (question - first)) ++ y ∷ []) x_is
    ∙ sym (map-range_with_len_more f first (question - first) question (omega arith))
    ∙ ap (λ n. map f (range_with_len first n)) (sym more) in
    made ∙ linked specs initial id owner (map f (range_with_len first (question - first))) x is
    ∙ ap (λ xs. initial ++ unnamed_spec id 0 owner xs ∷ []) list

-- one of a list
pub list_linked : (new specs initial : List NodeSpec) (id : ℕ) (owner : Player) (f : ℕ → ℕ) (list : List ℕ) (at x : ℕ) → at < length list
    → specs ≡ initial ++ unnamed_spec id 0 owner (map f (take at list)) ∷ []
    → x ≡ f (get_or list at 0) → new ≡ with_last (with_successor x) specs
    → new ≡ initial ++ unnamed_spec id 0 owner (map f (take (at + 1) list)) ∷ []
list_linked new specs initial id owner f list at x below is x_is made =
    let all : map f (take at list) ++ x ∷ [] ≡ map f (take (at + 1) list) =
    ap (λ y. map f (take at list) ++ y ∷ []) x_is
    ∙ sym (map_push f (take at list) (get_or list at 0))
    ∙ ap (map f) (sym (take_more list at 0 below)) in
    made ∙ linked specs initial id owner (map f (take at list)) x is
    ∙ ap (λ xs. initial ++ unnamed_spec id 0 owner xs ∷ []) all

module _ (rounds : Rounds) (is_rounds : IsRounds rounds) where
  -- the answers are edges
  pub answer_below : (question at : ℕ) → question < length rounds.questions → at < length (answers_of rounds question)
      → get_or (answers_of rounds question) at 0 < length rounds.edges
  answer_below question at below within =
      let owner = is_rounds.owned question below in
      (is_rounds.answers owner.0 question (get_or (answers_of rounds question) at 0) owner.1
      (Contains-get_or (answers_of rounds question) at 0 within)).0

  table_ids : map (λ (spec : NodeSpec). spec.id) (table rounds) ≡ range_with_len 0 (node_count rounds)
  table_ids =
      map-map (λ (spec : NodeSpec). spec.id) (node_for rounds) (range_with_len 0 (node_count rounds))
      ∙ map_same (λ v. (node_for rounds v).id) (range_with_len 0 (node_count rounds))
      (λ v has. id_is rounds v (omega (arith, (in_range 0 (node_count rounds) v has).1)))

  once : has_duplicate (table rounds) ≡ false
  once = no_duplicate (table rounds) (subst IsStrictlyIncreasing (sym table_ids) (range_rises 0 (node_count rounds)))

  has_node : (v : ℕ) → v < node_count rounds → Contains (table rounds) (node_for rounds v)
  has_node v below = contains_under (node_for rounds) (range_with_len 0 (node_count rounds)) v (range_has 0 (node_count rounds) v (omega arith) (omega arith))
    where
      contains_under : (f : ℕ → NodeSpec) (xs : List ℕ) (x : ℕ) → Contains xs x → Contains (map f xs) (f x)
      contains_under f xs x has = (has.0, omega (arith, has.1, length-map xs f), get_or-map f xs has.0 x (f x) has.1 ∙ ap f has.2)

  from_table : (spec : NodeSpec) → Contains (table rounds) spec → (v : ℕ) × (v < node_count rounds) × (node_for rounds v ≡ spec)
  from_table spec has =
      let below : has.0 < length (range_with_len 0 (node_count rounds)) = omega (arith, has.1, length-map (range_with_len 0 (node_count rounds)) (node_for rounds)) in
      let v : ℕ = get_or (range_with_len 0 (node_count rounds)) has.0 0 in (
        v,
        omega (arith, (in_range 0 (node_count rounds) v (Contains-get_or (range_with_len 0 (node_count rounds)) has.0 0 below)).1),
        sym (get_or-map (node_for rounds) (range_with_len 0 (node_count rounds)) has.0 0 spec below) ∙ has.2,
      )

  defined : has_undefined (table rounds) ≡ false
  defined = none_passes _ (table rounds) (λ spec contained.
      none_passes (λ successor. specified_times (table rounds) successor == 0) spec.successors (λ successor listed.
      let from = from_table spec contained in
      let below : successor < node_count rounds =
      (low_at rounds is_rounds from.0 from.1).1 successor
      (subst (λ (other : NodeSpec). Contains other.successors successor) (sym from.2) listed) in
      let some : 0 < specified_times (table rounds) successor =
      counted (λ (other : NodeSpec). other.id == successor) (node_for rounds successor) (table rounds) (has_node successor below)
      (eq-eqb (node_for rounds successor).id successor (id_is rounds successor below)) in
      ne_eqb (specified_times (table rounds) successor) 0 (λ e. omega arith)))

  few : node_count rounds ≤ most_nodes → nat_lt most_nodes (length (table rounds)) ≡ false
  few fits = le-ltb most_nodes (length (table rounds)) (omega (arith, length-map-range_with_len (node_for rounds) 0 (node_count rounds)))

  -- so the only fault is the number of successors
  fault_is : node_count rounds ≤ most_nodes → (fault : GameFault) → game_fault_of (table rounds) ≡ Some fault → IsRoundsFault rounds fault
  fault_is fits fault is = go (nat_lt most_successors (listed_successors (table rounds))) refl (rw (once, defined, few fits) at is)
    where
      go : (b : Bool) → nat_lt most_successors (listed_successors (table rounds)) ≡ b
          → ◌≡◌ {A = Option GameFault} (cond b (Some faults.TooManyEdges) None) (Some fault) → IsRoundsFault rounds fault
      go true many same =
          subst (IsRoundsFault rounds) (some_same same) (fits, ltb-true most_successors (listed_successors (table rounds)) many)
        where
          some_same : Some faults.TooManyEdges ≡ Some fault → faults.TooManyEdges ≡ fault
          some_same e = cc
      go false many same = absurd (none same)
        where
          none : ◌≡◌ {A = Option GameFault} None (Some fault) → ⊥
          none e = cc

  pub refusal_is : node_count rounds ≤ most_nodes → (r : Refusal) → IsBuildRefusal (table rounds) r → IsRoundsRefusal rounds r
  refusal_is fits (refusals.Game fault) refused = fault_is fits fault refused
  refusal_is fits (refusals.Circuit fault) refused = absurd refused
  refusal_is fits refusals.Memory refused = refused
  refusal_is fits (refusals.Text fault) refused = absurd refused
  refusal_is fits (refusals.Automaton fault) refused = absurd refused
  refusal_is fits (refusals.Task fault) refused = absurd refused
  refusal_is fits refusals.Io refused = absurd refused

  -- of all nodes
  pub made_refused : (r : Result (List Node) Refusal) (specs : List NodeSpec) (count : ℕ) → node_count rounds ≤ most_nodes
      → specs ≡ map (node_for rounds) (range_with_len 0 count) → count ≡ node_count rounds
      → IfErr r (IsBuildRefusal specs) → IfErr r (IsRoundsRefusal rounds)
  made_refused (Ok game) specs count fits is all refused = tt
  made_refused (Err refusal) specs count fits is all refused =
      refusal_is fits refusal
      (subst (λ (s : List NodeSpec). IsBuildRefusal s refusal) (is ∙ ap (λ n. map (node_for rounds) (range_with_len 0 n)) all) refused)

  -- without a fault it fits
  faultless_fits : node_count rounds ≤ most_nodes → game_fault_of (table rounds) ≡ None → FitsAGame rounds
  faultless_fits fits is = go (nat_lt most_successors (listed_successors (table rounds))) refl (rw (once, defined, few fits) at is)
    where
      go : (b : Bool) → nat_lt most_successors (listed_successors (table rounds)) ≡ b
          → ◌≡◌ {A = Option GameFault} (cond b (Some faults.TooManyEdges) None) None → FitsAGame rounds
      go true many same = absurd (some_none same)
        where
          some_none : ◌≡◌ {A = Option GameFault} (Some faults.TooManyEdges) None → ⊥
          some_none e = cc
      go false few_listed same = record {
        nodes = fits;
        successors = ltb-false most_successors (listed_successors (table rounds)) few_listed;
      }

  pub made_fits : (r : Result (List Node) Refusal) (specs : List NodeSpec) (count : ℕ) → node_count rounds ≤ most_nodes
      → specs ≡ map (node_for rounds) (range_with_len 0 count) → count ≡ node_count rounds
      → OnOk r (game_fault_of specs ≡ None) → OnOk r (FitsAGame rounds)
  made_fits (Ok game) specs count fits is all faultless =
      faultless_fits fits (sym (ap game_fault_of (is ∙ ap (λ n. map (node_for rounds) (range_with_len 0 n)) all)) ∙ faultless)
  made_fits (Err refusal) specs count fits is all faultless = tt
