-- Solutions as arrays: what is written holds the solution, and when what arrays hold is one.
use Rattle.std.proofs.Common.{◌≡◌, ◌≢◌, ◌↔◌, ℕ, ◌<◌, ◌≤◌, Bool, true, false, cond, IsTrue, Option, Some, None, IsSome, is_some, List, length, map, get_or, All, refl, sym, ap, ◌∙◌, subst, arith}
use Rattle.std.specs.Prelude.{IfSome, unwrap_or}
use Rattle.std.proofs.lemmas.Bool.{eq-eqb, false≢true, ne_eqb}
use Rattle.std.proofs.lemmas.List.{ext_get_or, get_or-map, get_or_default, length-map}
use Rattle.std.proofs.lemmas.List.FromFn.{fill_by_all, get_or-map-range_with_len}
use Rattle.std.proofs.lemmas.Option.{slice_get-get_or}
use Rattle.omega_game_values.specs.declared.player.Player.{Player}
use Rattle.omega_game_values.specs.declared.player.Player.TheVariants.{One, Zero}
use Rattle.omega_game_values.specs.declared.solution.Solution.{Solution}
use Rattle.omega_game_values.specs.Game.{IsGame, IsWithinLimits, Node, owner_at}
use Rattle.omega_game_values.specs.Solution.{IsSolution, choices_of, winner_at}
use Rattle.omega_game_values.specs.Winning.{IsStrategy, choice_at}
use Rattle.omega_arrays.specs.Arrays.{player_of}
use Rattle.omega_arrays.specs.Answer.{choice_for, choice_of, choices_for, no_choice, solution_in}
use Rattle.omega_arrays.specs.private.Written.{AreWritten, ChoosesWhereWon}

-- ---- choices and their entries

-- an entry that is a choice is not the mark
choice_some : (entry : ℕ) → IsSome (choice_of entry) → entry ≢ no_choice
choice_some entry some e =
    let bad : false ≡ true = subst (λ (b : Bool). is_some (cond b None (Some entry)) ≡ true) (eq-eqb entry no_choice e) some in
    false≢true bad

some_choice : (entry : ℕ) → entry ≢ no_choice → IsSome (choice_of entry)
some_choice entry other = subst (λ (b : Bool). is_some (cond b None (Some entry)) ≡ true) (sym (ne_eqb entry no_choice other)) refl

-- the choice that the entry of a choice encodes
choice_back : (choice : Option ℕ) → IfSome choice (λ c. c ≢ no_choice) → choice_of (unwrap_or choice no_choice) ≡ choice
choice_back None small = refl
choice_back (Some c) small = subst (λ (b : Bool). cond b None (Some c) ≡ Some c) (sym (ne_eqb c no_choice small)) refl

nothing : (choice : Option ℕ) → (IsSome choice → ⊥) → None ≡ choice
nothing None none = refl
nothing (Some c) none = absurd (none refl)

-- if only the winner has a choice, the winner's entry gives each player's choice back
restored : (player winner : Player) (choices : Player → Option ℕ) → ((p : Player) → IsSome (choices p) → winner ≡ p)
    → ((p : Player) → IfSome (choices p) (λ c. c ≢ no_choice)) → choice_for player winner (unwrap_or (choices winner) no_choice) ≡ choices player
restored Zero Zero choices only small = choice_back (choices Zero) (small Zero)
restored One One choices only small = choice_back (choices One) (small One)
restored Zero One choices only small = nothing (choices Zero) (λ some. let e : One ≡ Zero = only Zero some in cc)
restored One Zero choices only small = nothing (choices One) (λ some. let e : Zero ≡ One = only One some in cc)

-- ---- what is written

-- a choice of a strategy is a place, and so not the mark
small_choice : (nodes : List Node) (player : Player) (choices : List (Option ℕ)) (v : ℕ) → IsGame nodes → IsWithinLimits nodes
    → IsStrategy nodes player choices → v < length nodes → IfSome (choice_at choices v) (λ c. c ≢ no_choice)
small_choice nodes player choices v game limits strategy h = go (choice_at choices v) refl
  where
    go : (choice : Option ℕ) → choice ≡ choice_at choices v → IfSome choice (λ c. c ≢ no_choice)
    go None e = tt
    go (Some c) e =
        let edge = strategy.listed v c (slice_get-get_or choices v None (omega (arith, strategy.entries)) ∙ ap Some (sym e)) in
        let inside : c < length nodes = game.closed v c edge in
        λ mark. absurd (omega (arith, limits.few_nodes, mark))

-- a solution with these parts
abbrev made : List Player → (zero one : List (Option ℕ)) → Solution
made winners zero one = record { winners = winners; zero = record { choice = zero }; one = record { choice = one } }

module _ (nodes : List Node) (solution : Solution) (game : IsGame nodes) (limits : IsWithinLimits nodes)
    (fits : IsSolution nodes solution) (winners choices : List ℕ) (count : length winners ≡ length nodes)
    (written : AreWritten solution (length nodes) winners choices) where
  winners_back : map player_of winners ≡ solution.winners
  winners_back =
      ext_get_or Zero (map player_of winners) solution.winners (length-map winners player_of ∙ count ∙ sym fits.winners)
      (λ i h.
      let inside : i < length winners = omega (arith, length-map winners player_of) in
      get_or-map player_of winners i 0 Zero inside ∙ (written i (omega (arith, count))).winner_is)

  choices_back : (player : Player) → choices_for player winners choices ≡ choices_of solution player
  choices_back player =
      sym (fill_by_all (λ v. choice_for player (player_of (get_or winners v 0)) (get_or choices v 0)) (choices_of solution player) (length winners) None
      ((fits.strategies player).entries ∙ sym count)
      (λ k h.
      let inside : k < length nodes = omega (arith, count) in
      let entry = written k inside in
      sym (ap (λ (p : Player). choice_for player p (get_or choices k 0)) entry.winner_is
      ∙ ap (λ (c : ℕ). choice_for player (winner_at solution k) c) entry.choice_is
      ∙ restored player (winner_at solution k) (λ p. choice_at (choices_of solution p) k)
      (λ p some. ((fits.chosen p k inside).0 some).1)
      (λ p. small_choice nodes p (choices_of solution p) k game limits (fits.strategies p) inside))))

  pub held_back : solution_in winners choices ≡ solution
  held_back =
      ap (λ (ws : List Player). made ws (choices_for Zero winners choices) (choices_for One winners choices)) winners_back
      ∙ ap (λ (cs : List (Option ℕ)). made solution.winners cs (choices_for One winners choices)) (choices_back Zero)
      ∙ ap (λ (cs : List (Option ℕ)). made solution.winners solution.zero.choice cs) (choices_back One)

  pub players_written : All (λ p. p ≤ 1) winners
  players_written k d h = subst (λ (p : ℕ). p ≤ 1) (get_or_default winners k 0 d h) (written k (omega (arith, count))).player

-- ---- what is held

-- there is a choice exactly if the owner wins, for each player
chosen_by : (player winner owner : Player) (entry : ℕ) → (entry ≢ no_choice) ↔ (owner ≡ winner)
    → IsSome (choice_for player winner entry) ↔ ((owner ≡ player) × (winner ≡ player))
chosen_by Zero Zero owner entry won = (λ some. (won.0 (choice_some entry some), refl), λ both. some_choice entry (won.1 both.0))
chosen_by One One owner entry won = (λ some. (won.0 (choice_some entry some), refl), λ both. some_choice entry (won.1 both.0))
chosen_by Zero One owner entry won = (λ some. absurd (false≢true some), λ both. let e : One ≡ Zero = both.1 in cc)
chosen_by One Zero owner entry won = (λ some. absurd (false≢true some), λ both. let e : Zero ≡ One = both.1 in cc)

won_by : (winner owner : Player) (entry : ℕ) → IsSome (choice_for winner winner entry) ↔ ((owner ≡ winner) × (winner ≡ winner))
    → (entry ≢ no_choice) ↔ (owner ≡ winner)
won_by Zero owner entry chosen = (λ other. (chosen.0 (some_choice entry other)).0, λ own. choice_some entry (chosen.1 (own, refl)))
won_by One owner entry chosen = (λ other. (chosen.0 (some_choice entry other)).0, λ own. choice_some entry (chosen.1 (own, refl)))

module _ (nodes : List Node) (winners choices : List ℕ) (count : length winners ≡ length nodes) where
  winner_held : (v : ℕ) → v < length nodes → winner_at (solution_in winners choices) v ≡ player_of (get_or winners v 0)
  winner_held v h = get_or-map player_of winners v 0 Zero (omega (arith, count))

  choice_held : (player : Player) (v : ℕ) → v < length nodes
      → choice_at (choices_for player winners choices) v ≡ choice_for player (player_of (get_or winners v 0)) (get_or choices v 0)
  choice_held player v h =
      get_or-map-range_with_len (λ v. choice_for player (player_of (get_or winners v 0)) (get_or choices v 0)) 0 (length winners) v v None
      (omega (arith, count)) (omega arith)

  held_choices : (player : Player) → choices_of (solution_in winners choices) player ≡ choices_for player winners choices
  held_choices Zero = refl
  held_choices One = refl

  choice_is : (player : Player) (v : ℕ) → v < length nodes
      → choice_at (choices_of (solution_in winners choices) player) v ≡ choice_for player (player_of (get_or winners v 0)) (get_or choices v 0)
  choice_is player v h = ap (λ (cs : List (Option ℕ)). choice_at cs v) (held_choices player) ∙ choice_held player v h

  -- what is chosen of the solution that is held
  abbrev Chosen : Player → ℕ → Type 0
  Chosen player v =
      IsSome (choice_at (choices_of (solution_in winners choices) player) v)
      ↔ ((owner_at nodes v ≡ player) × (winner_at (solution_in winners choices) v ≡ player))

  chosen_from : (player : Player) (v : ℕ) → v < length nodes → ChoosesWhereWon nodes winners choices v → Chosen player v
  chosen_from player v h won =
      let entry = get_or choices v 0 in
      let owner = owner_at nodes v in
      let winner = player_of (get_or winners v 0) in
      subst (λ (c : Option ℕ). IsSome c ↔ ((owner ≡ player) × (winner_at (solution_in winners choices) v ≡ player))) (sym (choice_is player v h))
      (subst (λ (w : Player). IsSome (choice_for player winner entry) ↔ ((owner ≡ player) × (w ≡ player))) (sym (winner_held v h))
      (chosen_by player winner owner entry won))

  won_from : (v : ℕ) → v < length nodes → ((player : Player) → Chosen player v) → ChoosesWhereWon nodes winners choices v
  won_from v h chosen =
      let entry = get_or choices v 0 in
      let owner = owner_at nodes v in
      let winner = player_of (get_or winners v 0) in
      won_by winner owner entry
      (subst (λ (w : Player). IsSome (choice_for winner winner entry) ↔ ((owner ≡ winner) × (w ≡ winner))) (winner_held v h)
      (subst (λ (c : Option ℕ). IsSome c ↔ ((owner ≡ winner) × (winner_at (solution_in winners choices) v ≡ winner))) (choice_is winner v h)
      (chosen winner)))

  by_player : (zero : IsStrategy nodes Zero (choices_for Zero winners choices)) → IsStrategy nodes One (choices_for One winners choices)
      → (player : Player) → IsStrategy nodes player (choices_of (solution_in winners choices) player)
  by_player zero one Zero = zero
  by_player zero one One = one

  -- strategies that choose exactly where the owner wins are a solution
  pub solution_iff : (answer : Bool) → IsStrategy nodes Zero (choices_for Zero winners choices) → IsStrategy nodes One (choices_for One winners choices)
      → IsTrue answer ↔ ((v : ℕ) → v < length nodes → ChoosesWhereWon nodes winners choices v)
      → IsTrue answer ↔ IsSolution nodes (solution_in winners choices)
  solution_iff answer zero one where_won = (
    λ yes. record {
      winners = length-map winners player_of ∙ count;
      strategies = by_player zero one;
      chosen = λ player v h. chosen_from player v h (where_won.0 yes v h);
    },
    λ fits. where_won.1 (λ v h. won_from v h (λ player. fits.chosen player v h)),
  )

-- the same of a solution that is said to be held
pub held_iff : (nodes : List Node) (winners choices : List ℕ) (solution : Solution) (answer : Bool) → solution ≡ solution_in winners choices
    → length winners ≡ length nodes → IsStrategy nodes Zero solution.zero.choice → IsStrategy nodes One solution.one.choice
    → IsTrue answer ↔ ((v : ℕ) → v < length nodes → ChoosesWhereWon nodes winners choices v) → IsTrue answer ↔ IsSolution nodes solution
held_iff nodes winners choices solution answer held count zero one where_won =
    subst (λ (s : Solution). IsTrue answer ↔ IsSolution nodes s) (sym held)
    (solution_iff nodes winners choices count answer
    (subst (λ (s : Solution). IsStrategy nodes Zero s.zero.choice) held zero)
    (subst (λ (s : Solution). IsStrategy nodes One s.one.choice) held one) where_won)

-- a strategy that does not fit is not one of a solution
pub zero_unfit : (nodes : List Node) (solution : Solution) (fits : Bool) → fits ≡ false → IsTrue fits ↔ IsStrategy nodes Zero solution.zero.choice
    → IsTrue false ↔ IsSolution nodes solution
zero_unfit nodes solution fits unfit is_fit = (λ yes. cc, λ whole. let yes : fits ≡ true = is_fit.1 (whole.strategies Zero) in cc)

pub one_unfit : (nodes : List Node) (solution : Solution) (fits : Bool) → fits ≡ false → IsTrue fits ↔ IsStrategy nodes One solution.one.choice
    → IsTrue false ↔ IsSolution nodes solution
one_unfit nodes solution fits unfit is_fit = (λ yes. cc, λ whole. let yes : fits ≡ true = is_fit.1 (whole.strategies One) in cc)
