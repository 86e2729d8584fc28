-- The choices of player 0 are followed from a start's node that it wins: each two steps pass an edge, and once a place
-- comes again there is a lasso.
use Rattle.std.proofs.Common.{◌≡◌, ℕ, ◌+◌, ◌-◌, ◌%◌, ◌<◌, ◌≤◌, ◌⊎◌, inl, inr, Bool, true, List, [], ◌∷◌, ◌++◌, length, get_or, replicate, set, drop, Option, None, Some, slice_get, sum_by, sym, ap, refl, ◌∙◌, subst, arith, append_assoc, length-append}
use Rattle.std.proofs.Math.Seq.{drop-append_seam, take-append_seam}
use Rattle.std.proofs.lemmas.Bool.{cases_eq}
use Rattle.std.proofs.lemmas.Grind.{flat_map-append}
use Rattle.std.proofs.lemmas.List.{get_or-replicate, get_or-set_other, get_or-set_same, length-replicate, length-set}
use Rattle.std.proofs.lemmas.List.Sums.{sum_by-set}
use Rattle.std.proofs.lemmas.Option.{get_or_from_slice_get, none-some, slice_get-get_or, slice_get_read, slice_get_within}
use Rattle.omega_hoa_automaton.specs.Automaton.{Description, IsAutomaton, edge_count, edges_of}
use Rattle.omega_game_values.specs.Game.{Node, owner_at}
use Rattle.omega_game_values.specs.Winning.{Chooses, IsClosedWalk, IsWalk, Leaves, Wins, end_of, greatest_on}
use Rattle.omega_game_values.specs.declared.node_spec.NodeSpec.{NodeSpec}
use Rattle.omega_game_values.specs.declared.player.Player.TheVariants.{Zero}
use Rattle.omega_lift_laws.proofs.Reaching.{end_of-append, walk-append}
use Rattle.omega_game_region_laws.proofs.Walks.{wins_onward}
use Rattle.omega_solve.specs.Headline.{IsExact}
use Rattle.omega_empty.specs.EmptinessGame.{IsEmptinessGame}
use Rattle.omega_empty.specs.GameLaws.{WonWalksAccept, number_at, numbers_on, within_counter}
use Rattle.omega_lang_runs.specs.Lasso.{IsAcceptingLasso}
use Rattle.omega_empty.specs.private.layout.Following.{IsLooped, IsWonStart}
use Rattle.omega_empty.proofs.meaning.Accepting.{at_start}
use Rattle.omega_empty.proofs.meaning.Searching.{even_from}
use Rattle.omega_empty.proofs.meaning.Steps.{AtSink, AtState, Leaving, edge_number, edge_stands, edge_within, leaves_state, sink_stands, state_number, state_stands, state_within}
use Rattle.omega_empty.proofs.meaning.WonSteps.{IsWonStep, won_step}

-- a choice is one place
one_choice : (choices : List (Option ℕ)) (v w u : ℕ) → Chooses choices v w → Chooses choices v u → w ≡ u
one_choice choices v w u first second = same (sym first ∙ second)
  where
    same : Some (Some w) ≡ Some (Some u) → w ≡ u
    same e = cc

-- an entry that was there before or is the one put in
put : (seen : List (Option ℕ)) (at u j k : ℕ) → at < length seen → slice_get (set seen at (Some k)) u ≡ Some (Some j)
    → ((u ≡ at) × (j ≡ k)) ⊎ (slice_get seen u ≡ Some (Some j))
put seen at u j k below here = go (cases_eq u at)
  where
    found : get_or (set seen at (Some k)) u None ≡ Some j
    found = get_or_from_slice_get (set seen at (Some k)) u (Some j) None here

    same : Some k ≡ Some j → j ≡ k
    same e = cc

    go : (u ≡ at) ⊎ (u ≡ at → ⊥) → ((u ≡ at) × (j ≡ k)) ⊎ (slice_get seen u ≡ Some (Some j))
    go (inl one) =
        inl (one, same (sym (get_or-set_same seen at (Some k) None below) ∙ ap (λ n. get_or (set seen at (Some k)) n None) (sym one) ∙ found))
    go (inr other) =
        let inside : u < length seen = omega (arith, slice_get_within (set seen at (Some k)) u (Some j) here, length-set seen at (Some k)) in
        inr (slice_get-get_or seen u None inside ∙ ap (λ (entry : Option ℕ). Some entry) (sym (get_or-set_other seen at u (Some k) None other) ∙ found))

module _ (a : Description) (game : List Node) (automaton : IsAutomaton a) (is : IsEmptinessGame a game)
    (won : List Bool) (choices : List (Option ℕ)) (exact : IsExact game Zero won choices) where
  -- the node of a state has a place from which the choices win
  pub record AtWon (v : ℕ) : Type 0 where
    pub counter : ℕ
    pub state : ℕ
    pub at : AtState is.kind a is.usable game automaton is.usable_are is.game_is v counter state
    pub wins : Wins game Zero choices v

  region : (v : ℕ) → v < length game → Wins game Zero choices v → slice_get won v ≡ Some true
  region v below wins = (exact.exactly v).1 (record { node = below; choices = choices; strategy = exact.strategy; wins = wins })

  left : (v w : ℕ) → Chooses choices v w → Leaves game Zero choices v w
  left v w choice = record {
    listed = exact.strategy.listed v w choice;
    chosen = λ owned other chosen. one_choice choices v w other choice chosen;
  }

  -- there is a choice at a state's node, and one after it
  pub first_choice : (v : ℕ) → AtWon v → (w : ℕ) × Chooses choices v w
  first_choice v here =
      exact.chosen v (region v here.at.place here.wins)
      (ap (λ (s : NodeSpec). s.owner) (state_stands is.kind a is.usable game automaton is.usable_are is.game_is v here.counter here.state here.at).is)

  next_owner : (w counter state : ℕ) → AtSink is.kind a is.usable game automaton is.usable_are is.game_is w
      ⊎ Leaving is.kind a is.usable game automaton is.usable_are is.game_is w counter state → owner_at game w ≡ Zero
  next_owner w counter state (inl sink) = ap (λ (s : NodeSpec). s.owner) (sink_stands is.kind a is.usable game automaton is.usable_are is.game_is w sink).is
  next_owner w counter state (inr leaving) =
      ap (λ (s : NodeSpec). s.owner)
      (edge_stands is.kind a is.usable game automaton is.usable_are is.game_is w counter leaving.number leaving.edge leaving.at_edge).is

  pub second_choice : (v w : ℕ) → AtWon v → Chooses choices v w → (u : ℕ) × Chooses choices w u
  second_choice v w here choice =
      let edge = left v w choice in
      exact.chosen w (region w (is.game_is.game.closed v w edge.listed) (wins_onward game Zero choices v w edge here.wins))
      (next_owner w here.counter here.state (leaves_state is.kind a is.usable game automaton is.usable_are is.game_is v w here.counter here.state here.at edge.listed))

  -- two steps pass the edge whose node is between
  pub record Passed (v w u : ℕ) : Type 0 where
    pub between : w < length game
    pub following : a.states ≤ within_counter a game w
    pub few : within_counter a game w - a.states < edge_count a
    pub numbers : numbers_on a game (w ∷ u ∷ []) ≡ (within_counter a game w - a.states) ∷ []
    pub first : Leaves game Zero choices v w
    pub second : Leaves game Zero choices w u
    pub next : AtWon u

  pub passed : (v w u : ℕ) → AtWon v → Chooses choices v w → Chooses choices w u → Passed v w u
  passed v w u here choice choice' =
      let step : IsWonStep a game automaton is choices w u here.counter here.state =
      won_step a game automaton is choices v w u here.counter here.state here.at here.wins (left v w choice) (left w u choice') in
      let number : ℕ = step.leaving.number in
      let at_edge = step.leaving.at_edge in
      let within : within_counter a game w ≡ a.states + number =
      edge_within is.kind a is.usable game automaton is.usable_are is.game_is w here.counter number step.leaving.edge at_edge in
      let below : number < edge_count a = slice_get_within (edges_of a) number step.leaving.edge at_edge.numbered in
      let same : number ≡ within_counter a game w - a.states = omega (arith, within) in
      let one : number_at a game w ≡ number ∷ [] =
      edge_number is.kind a is.usable game automaton is.usable_are is.game_is w here.counter number step.leaving.edge at_edge in
      let none : number_at a game u ≡ [] =
      state_number is.kind a is.usable game automaton is.usable_are is.game_is u _ step.entering.state step.entering.at_state in
      record {
        between = at_edge.place_below;
        following = omega (arith, within);
        few = omega (arith, within, below);
        numbers =
            ap (λ (list : List ℕ). list ++ (number_at a game u ++ [])) one
            ∙ ap (λ (list : List ℕ). number ∷ (list ++ [])) none
            ∙ ap (λ (n : ℕ). n ∷ []) same;
        first = left v w choice;
        second = left w u choice';
        next = record { counter = _; state = step.entering.state; at = step.entering.at_state; wins = step.kept };
      }

  -- a place was met after a number of edges, and walks lead there and on
  pub record Met (v at u j : ℕ) (edges : List ℕ) : Type 0 where
    pub before : List ℕ
    pub after : List ℕ
    pub there : IsWalk game Zero choices v before
    pub ends : end_of v before ≡ u
    pub on : IsWalk game Zero choices u after
    pub arrives : end_of u after ≡ at
    pub longer : 0 < length after
    pub edges_are : numbers_on a game before ++ numbers_on a game after ≡ edges
    pub counted : length (numbers_on a game before) ≡ j

  -- a walk led to a place, and the places that are marked were met on it
  pub record Followed (v at : ℕ) (edges : List ℕ) (seen : List (Option ℕ)) : Type 0 where
    pub there : List ℕ
    pub walk : IsWalk game Zero choices v there
    pub arrives : end_of v there ≡ at
    pub numbers : numbers_on a game there ≡ edges
    pub here : AtWon at
    pub entries : length seen ≡ length game
    pub met : (u j : ℕ) → slice_get seen u ≡ Some (Some j) → Met v at u j edges

  -- at first none is marked
  pub followed_none : (v : ℕ) (seen : List (Option ℕ)) → IsWonStart a game won v → length seen ≡ length game
      → ((u j : ℕ) → slice_get seen u ≡ Some (Some j) → ⊥) → Followed v v [] seen
  followed_none v seen start entries none =
      let at = at_start a game automaton is start.start v start.begins start.stands.node start.stands.named in
      record {
        there = [];
        walk = start.stands.node;
        arrives = refl;
        numbers = refl;
        here = record { counter = 0; state = start.start; at = at; wins = exact.wins v ((exact.exactly v).0 start.stands.is_won) };
        entries = entries;
        met = λ u j marked. absurd (none u j marked);
      }

  -- one edge more: the place left is marked
  module _ (v at w u number : ℕ) (edges : List ℕ) (seen : List (Option ℕ)) (so_far : Followed v at edges seen)
      (pass : Passed at w u) (is_number : number ≡ within_counter a game w - a.states) where
    two : (from : ℕ) → from ≡ at → IsWalk game Zero choices from (w ∷ u ∷ [])
    two from same = subst (λ n. IsWalk game Zero choices n (w ∷ u ∷ [])) (sym same) (pass.first, (pass.second, pass.next.at.place))

    numbered : numbers_on a game (w ∷ u ∷ []) ≡ number ∷ []
    numbered = pass.numbers ∙ ap (λ (n : ℕ). n ∷ []) (sym is_number)

    onward : (ws : List ℕ) → numbers_on a game (ws ++ w ∷ u ∷ []) ≡ numbers_on a game ws ++ number ∷ []
    onward ws = flat_map-append (number_at a game) ws (w ∷ u ∷ []) ∙ ap (λ list. numbers_on a game ws ++ list) numbered

    longer_on : (ws : List ℕ) → 0 < length (ws ++ w ∷ u ∷ [])
    longer_on ws = omega (arith, length-append ws (w ∷ u ∷ []))

    met_before : (z j : ℕ) → Met v at z j edges → Met v u z j (edges ++ number ∷ [])
    met_before z j m = record {
      before = m.before;
      after = m.after ++ w ∷ u ∷ [];
      there = m.there;
      ends = m.ends;
      on = walk-append game Zero choices z m.after (w ∷ u ∷ []) m.on (two (end_of z m.after) m.arrives);
      arrives = end_of-append z m.after (w ∷ u ∷ []);
      longer = longer_on m.after;
      edges_are =
          ap (λ list. numbers_on a game m.before ++ list) (onward m.after)
          ∙ sym (append_assoc (numbers_on a game m.before) (numbers_on a game m.after) (number ∷ []))
          ∙ ap (λ list. list ++ number ∷ []) m.edges_are;
      counted = m.counted;
    }

    met_here : Met v u at (length edges) (edges ++ number ∷ [])
    met_here = record {
      before = so_far.there;
      after = w ∷ u ∷ [];
      there = so_far.walk;
      ends = so_far.arrives;
      on = two at refl;
      arrives = refl;
      longer = omega arith;
      edges_are =
          ap (λ list. list ++ numbers_on a game (w ∷ u ∷ [])) so_far.numbers ∙ ap (λ list. edges ++ list) numbered;
      counted = ap (λ (list : List ℕ). length list) so_far.numbers;
    }

    met_by : (z j : ℕ) → ((z ≡ at) × (j ≡ length edges)) ⊎ (slice_get seen z ≡ Some (Some j)) → Met v u z j (edges ++ number ∷ [])
    met_by z j (inl now) =
        subst (λ n. Met v u n j (edges ++ number ∷ [])) (sym now.0) (subst (λ n. Met v u at n (edges ++ number ∷ [])) (sym now.1) met_here)
    met_by z j (inr earlier) = met_before z j (so_far.met z j earlier)

    pub followed_more : Followed v u (edges ++ number ∷ []) (set seen at (Some (length edges)))
    followed_more = record {
      there = so_far.there ++ w ∷ u ∷ [];
      walk = walk-append game Zero choices v so_far.there (w ∷ u ∷ []) so_far.walk (two (end_of v so_far.there) so_far.arrives);
      arrives = end_of-append v so_far.there (w ∷ u ∷ []);
      numbers = onward so_far.there ∙ ap (λ list. list ++ number ∷ []) so_far.numbers;
      here = pass.next;
      entries = length-set seen at (Some (length edges)) ∙ so_far.entries;
      met = λ z j marked. met_by z j (put seen at z j (length edges) (omega (arith, so_far.entries, so_far.here.at.place)) marked);
    }

  -- at a place that was met the loop starts
  pub looped : WonWalksAccept → (v at j : ℕ) (edges : List ℕ) (seen : List (Option ℕ)) → IsWonStart a game won v → Followed v at edges seen
      → slice_get seen at ≡ Some (Some j) → IsLooped a edges j
  looped law v at j edges seen start followed marked =
      let m = followed.met at j marked in
      let stem : List ℕ = numbers_on a game m.before in
      let cycle : List ℕ = numbers_on a game m.after in
      let closed : IsClosedWalk game Zero choices at m.after = record { walk = m.on; longer = m.longer; closed = m.arrives } in
      let even : greatest_on game at m.after % 2 ≡ 0 = even_from (greatest_on game at m.after) (followed.here.wins [] m.after followed.here.at.place closed) in
      let node : within_counter a game at < a.states = omega (
        arith,
        followed.here.at.state_below,
        state_within is.kind a is.usable game automaton is.usable_are is.game_is at followed.here.counter followed.here.state followed.here.at,
      ) in
      let all : IsAcceptingLasso a stem cycle =
      (law a game choices start.start v m.before m.after automaton is start.begins start.stands.node start.stands.named m.there
      (subst (λ n. within_counter a game n < a.states) (sym m.ends) node)
      (subst (λ n. IsClosedWalk game Zero choices n m.after) (sym m.ends) closed)
      (subst (λ n. greatest_on game n m.after % 2 ≡ 0) (sym m.ends) even)).0 in
      let P : List ℕ → Type 0 = λ list. IsLooped a list j in
      let Q : ℕ → Type 0 = λ n. IsLooped a (stem ++ cycle) n in
      let within : length stem ≤ length (stem ++ cycle) = omega (arith, length-append stem cycle) in
      subst P m.edges_are (subst Q m.counted (record {
        within = within;
        accepting = subst (λ list. IsAcceptingLasso a list (drop (length stem) (stem ++ cycle))) (sym (take-append_seam stem cycle))
            (subst (λ list. IsAcceptingLasso a stem list) (sym (drop-append_seam stem cycle)) all);
      }))

-- a walk along the choices of an exact answer of the emptiness game
pub record IsFollowed (a : Description) (game : List Node) (won : List Bool) (choices : List (Option ℕ))
    (v at : ℕ) (edges : List ℕ) (seen : List (Option ℕ)) : Type 0 where
  pub automaton : IsAutomaton a
  pub is : IsEmptinessGame a game
  pub exact : IsExact game Zero won choices
  pub followed : Followed a game automaton is won choices exact v at edges seen

-- whether a place is not yet marked
abbrev pub unmet : Option ℕ → ℕ
unmet None = 1
unmet (Some j) = 0

-- a place that is not marked, once it is, leaves one less
pub fewer_unmet : (seen : List (Option ℕ)) (at k : ℕ) → at < length seen → get_or seen at None ≡ None
    → sum_by unmet (set seen at (Some k)) < sum_by unmet seen
fewer_unmet seen at k below none =
    let before : unmet (get_or seen at None) ≡ 1 = ap unmet none in
    omega (arith, before, sum_by-set unmet seen at (Some k) None below)

-- no mark
abbrev none : Option ℕ
none = None

-- none of the entries is a mark
no_mark : (n u j : ℕ) → slice_get (replicate n none) u ≡ Some (Some j) → ⊥
no_mark n u j marked =
    let inside : u < n = omega (arith, slice_get_within (replicate n none) u (Some j) marked, length-replicate n none) in
    none-some j (sym (get_or-replicate n u none None inside) ∙ get_or_from_slice_get (replicate n none) u (Some j) None marked)

-- an entry that is no mark is empty
pub none_cloned : (P : Option ℕ → Type 0) → ((j : ℕ) → P (Some j) → ⊥) → (y : Option ℕ) → P y → y ≡ None
none_cloned P others None same = refl
none_cloned P others (Some j) same = absurd (others j same)

module _ (a : Description) (game : List Node) (won : List Bool) (choices : List (Option ℕ)) (v : ℕ) where
  pub begun : IsAutomaton a → IsEmptinessGame a game → IsExact game Zero won choices → IsWonStart a game won v
      → (n : ℕ) (edges : List ℕ) (seen : List (Option ℕ)) → n ≡ length game → seen ≡ replicate n none → edges ≡ []
      → IsFollowed a game won choices v v edges seen
  begun automaton is exact start n edges seen counted unmarked empty =
      let entries : length (replicate n none) ≡ length game = length-replicate n none ∙ counted in
      let first : Followed a game automaton is won choices exact v v [] (replicate n none) =
      followed_none a game automaton is won choices exact v (replicate n none) start entries (no_mark n) in
      let P : List (Option ℕ) → Type 0 = λ list. Followed a game automaton is won choices exact v v [] list in
      let Q : List ℕ → Type 0 = λ list. Followed a game automaton is won choices exact v v list seen in
      record { automaton = automaton; is = is; exact = exact; followed = subst Q (sym empty) (subst P (sym unmarked) first) }

  module _ (at : ℕ) (edges : List ℕ) (seen : List (Option ℕ)) (so_far : IsFollowed a game won choices v at edges seen) where
    -- what is read at a place is the choice there
    read : (place : ℕ) (x : Option ℕ) → place < length game → x ≡ get_or choices place x → slice_get choices place ≡ Some x
    read place x below here =
        slice_get_read choices (length choices) place x refl (omega (arith, below, so_far.exact.strategy.entries)) here

    some_read : (place w : ℕ) (x : Option ℕ) → place < length game → x ≡ get_or choices place x → Chooses choices place w → x ≡ Some w
    some_read place w x below here choice = same (sym (read place x below here) ∙ choice)
      where
        same : Some x ≡ Some (Some w) → x ≡ Some w
        same e = cc

    pub at_below : at < length game
    at_below = so_far.followed.here.at.place

    pub first_read : (x : Option ℕ) → x ≡ get_or choices at x → (w : ℕ) × (x ≡ Some w)
    first_read x here =
        let choice = first_choice a game so_far.automaton so_far.is won choices so_far.exact at so_far.followed.here in
        (choice.0, some_read at choice.0 x at_below here choice.1)

    pub first_chosen : (w : ℕ) (x : Option ℕ) → x ≡ get_or choices at x → x ≡ Some w → Chooses choices at w
    first_chosen w x here is = read at x at_below here ∙ ap (λ (entry : Option ℕ). Some entry) is

    module _ (w : ℕ) (choice : Chooses choices at w) where
      second : (u : ℕ) × Chooses choices w u
      second = second_choice a game so_far.automaton so_far.is won choices so_far.exact at w so_far.followed.here choice

      pass : (u : ℕ) → Chooses choices w u → Passed a game so_far.automaton so_far.is won choices so_far.exact at w u
      pass u choice' = passed a game so_far.automaton so_far.is won choices so_far.exact at w u so_far.followed.here choice choice'

      pub between_below : w < length game
      between_below = (pass second.0 second.1).between

      pub after_states : a.states ≤ within_counter a game w
      after_states = (pass second.0 second.1).following

      pub second_read : (x : Option ℕ) → x ≡ get_or choices w x → (u : ℕ) × (x ≡ Some u)
      second_read x here = (second.0, some_read w second.0 x between_below here second.1)

      pub second_chosen : (u : ℕ) (x : Option ℕ) → x ≡ get_or choices w x → x ≡ Some u → Chooses choices w u
      second_chosen u x here is = read w x between_below here ∙ ap (λ (entry : Option ℕ). Some entry) is

      pub followed_next : (u number k : ℕ) (more : List ℕ) → Chooses choices w u → number ≡ within_counter a game w - a.states
          → k ≡ length edges → more ≡ edges ++ number ∷ [] → IsFollowed a game won choices v u more (set seen at (Some k))
      followed_next u number k more choice' is_number is_length is_more =
          let next = followed_more a game so_far.automaton so_far.is won choices so_far.exact v at w u number edges seen so_far.followed (pass u choice') is_number in
          let P : ℕ → Type 0 = λ n. Followed a game so_far.automaton so_far.is won choices so_far.exact v u (edges ++ number ∷ []) (set seen at (Some n)) in
          let Q : List ℕ → Type 0 = λ list. Followed a game so_far.automaton so_far.is won choices so_far.exact v u list (set seen at (Some k)) in
          record {
            automaton = so_far.automaton;
            is = so_far.is;
            exact = so_far.exact;
            followed = subst Q (sym is_more) (subst P (sym is_length) next);
          }

    pub looped_at : WonWalksAccept → IsWonStart a game won v → (j : ℕ) (x : Option ℕ) → x ≡ get_or seen at x → x ≡ Some j → IsLooped a edges j
    looped_at law start j x here is =
        let marked : slice_get seen at ≡ Some (Some j) =
        slice_get_read seen (length seen) at x refl (omega (arith, at_below, so_far.followed.entries)) here ∙ ap (λ (entry : Option ℕ). Some entry) is in
        looped a game so_far.automaton so_far.is won choices so_far.exact law v at j edges seen start so_far.followed marked
