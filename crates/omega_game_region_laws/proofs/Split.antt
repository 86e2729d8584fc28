-- Splits of a set of places: a winner for each place, and a choice for each place of its winner,
-- such that closed tours are won. Zielonka's induction.
use Rattle.std.proofs.Common.{◌≡◌, ℕ, ◌<◌, ◌≤◌, ◌⊎◌, inl, inr, Bool, true, false, cond, ◌&&◌, List, length, IsTrue, refl, sym, ap, ◌∙◌, subst, arith}
use Rattle.std.proofs.lemmas.Bool.{and_from, and_parts, cases_Bool, false≢true}
use Rattle.omega_game_values.specs.declared.player.Player.{Player}
use Rattle.omega_game_values.specs.Game.{Node, HasEdge, owner_at, priority_at, successors_at}
use Rattle.omega_game_values.specs.Winning.{end_of, greatest_on}
use Rattle.omega_game_values.specs.Player.{loses}
use Rattle.omega_game_region_laws.proofs.Attractor.{Attractor}
use Rattle.omega_game_region_laws.proofs.Places.{minus, minus_parts, minus_from, minus_out, size, size_lt}
use Rattle.omega_game_values.specs.Player.{opponent_of}
use Rattle.omega_game_region_laws.proofs.Players.{opponent_twice, cases_player, is_player, is_player-true, is_player-same}
use Rattle.omega_game_region_laws.proofs.Search.{sought_in}
use Rattle.omega_game_region_laws.proofs.Tours.{IsTour, Meets, Along, greatest_le, le-greatest, tour_start, along_tour, kept_along, met_at_end, retour, met_or_outside}

-- a set of places of the game in which each has a listed successor
pub record IsSubgame (nodes : List Node) (S : ℕ → Bool) : Type 0 where
  pub inside : (v : ℕ) → S v ≡ true → v < length nodes
  pub continued : (v : ℕ) → S v ≡ true → (w : ℕ) × HasEdge nodes v w × (S w ≡ true)

-- a listed edge, and the choice if the winner of the place owns it
abbrev pub Goes : List Node → (ℕ → Player) → (ℕ → ℕ) → ℕ → ℕ → Type 0
Goes nodes winner choice v w = HasEdge nodes v w × (owner_at nodes v ≡ winner v → w ≡ choice v)

-- winners that edges left possible by the choices keep, and which no closed tour by them loses
pub record Split (nodes : List Node) (S : ℕ → Bool) : Type 0 where
  pub winner : ℕ → Player
  pub choice : ℕ → ℕ
  pub chosen : (v : ℕ) → S v ≡ true → owner_at nodes v ≡ winner v → HasEdge nodes v (choice v) × (S (choice v) ≡ true)
  pub kept : (v w : ℕ) → S v ≡ true → S w ≡ true → Goes nodes winner choice v w → winner w ≡ winner v
  pub won : (v : ℕ) (ws : List ℕ) → IsTour S (Goes nodes winner choice) v ws → 0 < length ws → end_of v ws ≡ v
      → IsTrue (loses (winner v) (greatest_on nodes v ws)) → ⊥

-- what is left without an attractor
pub remaining : (nodes : List Node) (S T : ℕ → Bool) (player : Player) (A : Attractor nodes S T player) → IsSubgame nodes S → IsSubgame nodes (minus S A.set)
remaining nodes S T player A sub = record {
  inside = λ v left. sub.inside v (minus_parts S A.set v left).0;
  continued = λ v left. go v (minus_parts S A.set v left) (cases_player (owner_at nodes v) player);
}
  where
    go : (v : ℕ) → (S v ≡ true) × (A.set v ≡ false) → (owner_at nodes v ≡ player) ⊎ (owner_at nodes v ≡ opponent_of player)
        → (w : ℕ) × HasEdge nodes v w × (minus S A.set w ≡ true)
    go v parts (inl owns) =
        let next = sub.continued v parts.0 in
        (next.0, next.1, minus_from S A.set next.0 next.2 ((A.stuck v parts.0 parts.1).own owns next.0 next.1 next.2))
    go v parts (inr owns_not) =
        let next = (A.stuck v parts.0 parts.1).free owns_not in
        (next.0, next.1, minus_from S A.set next.0 next.2 next.3)

-- it is smaller
pub fewer : (nodes : List Node) (S T : ℕ → Bool) (player : Player) (A : Attractor nodes S T player) → IsSubgame nodes S → (v : ℕ) → T v ≡ true
    → size (minus S A.set) (length nodes) < size S (length nodes)
fewer nodes S T player A sub v aim =
    let drawn = A.drawn.target v aim in
    let here = A.drawn.inside v drawn in
    size_lt (minus S A.set) S (length nodes) v (λ u left. (minus_parts S A.set u left).0) (sub.inside v here) (minus_out S A.set v drawn) here

-- one function on T, another on the rest of A, a third elsewhere
abbrev layered : (ℕ → Bool) → (ℕ → Bool) → (ℕ → ℕ) → (ℕ → ℕ) → (ℕ → ℕ) → ℕ → ℕ
layered T A first second third v = cond (T v) (first v) (cond (A v) (second v) (third v))

-- on T the first
layered_first : (T A : ℕ → Bool) (first second third : ℕ → ℕ) (v : ℕ) → T v ≡ true → layered T A first second third v ≡ first v
layered_first T A first second third v aim = ap (λ b. cond b (first v) (cond (A v) (second v) (third v))) aim

-- on the rest of A the second
layered_second : (T A : ℕ → Bool) (first second third : ℕ → ℕ) (v : ℕ) → T v ≡ false → A v ≡ true → layered T A first second third v ≡ second v
layered_second T A first second third v aside here =
    ap (λ b. cond b (first v) (cond (A v) (second v) (third v))) aside ∙ ap (λ b. cond b (second v) (third v)) here

-- elsewhere the third
layered_third : (T A : ℕ → Bool) (first second third : ℕ → ℕ) (v : ℕ) → T v ≡ false → A v ≡ false → layered T A first second third v ≡ third v
layered_third T A first second third v aside out =
    ap (λ b. cond b (first v) (cond (A v) (second v) (third v))) aside ∙ ap (λ b. cond b (second v) (third v)) out

-- the successor found in the set, or the place itself
abbrev found_or : (nodes : List Node) (S : ℕ → Bool) (v : ℕ)
    → ((w : ℕ) × HasEdge nodes v w × (S w ≡ true)) ⊎ ((w : ℕ) → HasEdge nodes v w → S w ≡ false) → ℕ
found_or nodes S v (inl found) = found.0
found_or nodes S v (inr none) = v

-- a successor in the set, if there is one
successor_in : List Node → (ℕ → Bool) → ℕ → ℕ
successor_in nodes S v = found_or nodes S v (sought_in (λ w. S w ≡ true) (λ w. S w ≡ false) (λ w. cases_Bool (S w)) (successors_at nodes v))

-- it is such a successor if one is given
successor_in_is : (nodes : List Node) (S : ℕ → Bool) (v : ℕ) → (w : ℕ) × HasEdge nodes v w × (S w ≡ true)
    → HasEdge nodes v (successor_in nodes S v) × (S (successor_in nodes S v) ≡ true)
unfolding successor_in
successor_in_is nodes S v given = go (sought_in (λ w. S w ≡ true) (λ w. S w ≡ false) (λ w. cases_Bool (S w)) (successors_at nodes v))
  where
    go : (t : ((w : ℕ) × HasEdge nodes v w × (S w ≡ true)) ⊎ ((w : ℕ) → HasEdge nodes v w → S w ≡ false))
        → HasEdge nodes v (found_or nodes S v t) × (S (found_or nodes S v t) ≡ true)
    go (inl found) = (found.1, found.2)
    go (inr none) = absurd (false≢true (sym (none given.0 given.1) ∙ given.2))

-- the player whom the greatest priority favours wins everywhere, if the other wins nothing of what the attractor leaves
module _ (nodes : List Node) (S T : ℕ → Bool) (sub : IsSubgame nodes S) (player : Player) (q : ℕ)
    (aimed : (v : ℕ) → T v ≡ true → q ≤ priority_at nodes v) (top : (v : ℕ) → S v ≡ true → priority_at nodes v ≤ q)
    (favours : IsTrue (loses player q) → ⊥) (A : Attractor nodes S T player) (rest : Split nodes (minus S A.set))
    (alone : (v : ℕ) → minus S A.set v ≡ true → rest.winner v ≡ player) where
  -- the one winner
  abbrev sole : ℕ → Player
  sole v = player

  -- into the set at the target, toward the target in its attractor, as before elsewhere
  abbrev sole_choice : ℕ → ℕ
  sole_choice = layered T A.set (successor_in nodes S) A.pick rest.choice

  -- they are successors in the set
  sole_chosen : (v : ℕ) → (T v ≡ true) ⊎ (T v ≡ false) → (A.set v ≡ true) ⊎ (A.set v ≡ false) → S v ≡ true → owner_at nodes v ≡ player
      → HasEdge nodes v (sole_choice v) × (S (sole_choice v) ≡ true)
  sole_chosen v (inl aim) a here owns =
      subst (λ y. HasEdge nodes v y × (S y ≡ true)) (sym (layered_first T A.set (successor_in nodes S) A.pick rest.choice v aim))
      (successor_in_is nodes S v (sub.continued v here))
  sole_chosen v (inr aside) (inl drawn) here owns =
      let pick = A.drawn.picked v drawn aside owns in
      subst (λ y. HasEdge nodes v y × (S y ≡ true)) (sym (layered_second T A.set (successor_in nodes S) A.pick rest.choice v aside drawn))
      (pick.0, A.drawn.inside (A.pick v) pick.1)
  sole_chosen v (inr aside) (inr out) here owns =
      let left = minus_from S A.set v here out in
      let next = rest.chosen v left (owns ∙ sym (alone v left)) in
      subst (λ y. HasEdge nodes v y × (S y ≡ true)) (sym (layered_third T A.set (successor_in nodes S) A.pick rest.choice v aside out))
      (next.0, (minus_parts S A.set (rest.choice v) next.1).0)

  -- outside the attractor the choices are those of the rest
  off_target : (v : ℕ) → A.set v ≡ false → (T v ≡ true) ⊎ (T v ≡ false) → T v ≡ false
  off_target v out (inl aim) = absurd (false≢true (sym out ∙ A.drawn.target v aim))
  off_target v out (inr aside) = aside

  -- within the attractor ranks fall
  sole_falls : (u w : ℕ) → A.set u ≡ true → T u ≡ false → Goes nodes sole sole_choice u w → S w ≡ true → (A.set w ≡ true) × (A.rank w < A.rank u)
  sole_falls u w drawn aside goes here =
      A.drawn.falls u w drawn aside goes.0 here
      (λ owns. goes.1 owns ∙ layered_second T A.set (successor_in nodes S) A.pick rest.choice u aside drawn)

  -- a closed tour that meets the target has the favoured priority, any other is one of the rest
  sole_won : (v : ℕ) (ws : List ℕ) → IsTour S (Goes nodes sole sole_choice) v ws → 0 < length ws → end_of v ws ≡ v
      → Meets T v ws ⊎ Along (λ u. A.set u ≡ false) v ws → IsTrue (loses player (greatest_on nodes v ws)) → ⊥
  sole_won v ws tour longer closed (inl meets) lost =
      let most : greatest_on nodes v ws ≤ q = greatest_le nodes q v ws (along_tour S (Goes nodes sole sole_choice) (λ u. priority_at nodes u ≤ q) top v ws tour) in
      let least : q ≤ greatest_on nodes v ws = le-greatest nodes T q v ws aimed meets in
      let same : greatest_on nodes v ws ≡ q = omega arith in
      favours (subst (λ g. IsTrue (loses player g)) same lost)
  sole_won v ws tour longer closed (inr outside) lost =
      let again : IsTour (minus S A.set) (Goes nodes rest.winner rest.choice) v ws =
      retour S (Goes nodes sole sole_choice) (λ u. A.set u ≡ false) (minus S A.set) (Goes nodes rest.winner rest.choice)
      (λ u out here. minus_from S A.set u here out)
      (λ u w out here goes. (
        goes.0,
        λ owns.
            goes.1 (owns ∙ alone u (minus_from S A.set u here out))
            ∙ layered_third T A.set (successor_in nodes S) A.pick rest.choice u (off_target u out (cases_Bool (T u))) out,
      ))
      v ws outside tour in
      let left = tour_start (minus S A.set) (Goes nodes rest.winner rest.choice) v ws again in
      rest.won v ws again longer closed (subst (λ p. IsTrue (loses p (greatest_on nodes v ws))) (sym (alone v left)) lost)

  -- so the one player wins all of the set
  pub sole_split : Split nodes S
  sole_split = record {
    winner = sole;
    choice = sole_choice;
    chosen = λ v. sole_chosen v (cases_Bool (T v)) (cases_Bool (A.set v));
    kept = λ v w _ _ _. refl;
    won = λ v ws tour longer closed.
        sole_won v ws tour longer closed (met_or_outside S (Goes nodes sole sole_choice) T A.set A.rank sole_falls v ws longer closed tour);
  }

-- the places of a split's set that a player wins
abbrev pub won_by : {nodes : List Node} {S : ℕ → Bool} → Player → Split nodes S → ℕ → Bool
won_by {S = S} player split v = S v && is_player (split.winner v) player

-- a player's attractor for the places that the player wins of what the other's attractor leaves,
-- and a split of what that leaves
module _ (nodes : List Node) (S T : ℕ → Bool) (player : Player) (A : Attractor nodes S T (opponent_of player)) (rest : Split nodes (minus S A.set))
    (B : Attractor nodes S (won_by player rest) player) (last : Split nodes (minus S B.set)) where
  -- the places that the player wins of what the other's attractor leaves
  abbrev held : ℕ → Bool
  held = won_by player rest

  -- they are left, and the player wins them
  held_parts : (v : ℕ) → held v ≡ true → (minus S A.set v ≡ true) × (rest.winner v ≡ player)
  held_parts v here = let parts = and_parts (minus S A.set v) (is_player (rest.winner v) player) here in (parts.0, is_player-true (rest.winner v) player parts.1)

  -- and what is so is held
  held_from : (v : ℕ) → minus S A.set v ≡ true → rest.winner v ≡ player → held v ≡ true
  held_from v left wins = and_from (minus S A.set v) (is_player (rest.winner v) player) left
      (subst (λ p. is_player p player ≡ true) (sym wins) (is_player-same player))

  -- the player wins the attractor, the rest has its winners
  abbrev joint : ℕ → Player
  joint v = cond (B.set v) player (last.winner v)

  -- in the attractor it is the player
  joint_in : (v : ℕ) → B.set v ≡ true → joint v ≡ player
  joint_in v here = ap (λ b. cond b player (last.winner v)) here

  -- outside it the winner is that of the last split
  joint_out : (v : ℕ) → B.set v ≡ false → joint v ≡ last.winner v
  joint_out v out = ap (λ b. cond b player (last.winner v)) out

  -- as in the first split where held, toward that in the attractor, as in the last split elsewhere
  abbrev joint_choice : ℕ → ℕ
  joint_choice = layered held B.set rest.choice B.pick last.choice

  -- a step by these winners and choices
  abbrev JointGoes : ℕ → ℕ → Type 0
  JointGoes = Goes nodes joint joint_choice

  -- outside the attractor no place is held
  outside_held : (v : ℕ) → B.set v ≡ false → (held v ≡ true) ⊎ (held v ≡ false) → held v ≡ false
  outside_held v out (inl here) = absurd (false≢true (sym out ∙ B.drawn.target v here))
  outside_held v out (inr off) = off

  -- the player wins the held places
  joint_at_held : (v : ℕ) → held v ≡ true → joint v ≡ player
  joint_at_held v here = joint_in v (B.drawn.target v here)

  -- within held the steps are those of the first split
  goes_in_rest : (v w : ℕ) → held v ≡ true → JointGoes v w → Goes nodes rest.winner rest.choice v w
  goes_in_rest v w here goes = (
    goes.0,
    λ owns.
        goes.1 (owns ∙ (held_parts v here).1 ∙ sym (joint_at_held v here))
        ∙ layered_first held B.set rest.choice B.pick last.choice v here,
  )

  -- a step from held stays outside the other's attractor
  left_from_held : (v w : ℕ) → held v ≡ true → JointGoes v w → S w ≡ true
      → (owner_at nodes v ≡ opponent_of player) ⊎ (owner_at nodes v ≡ opponent_of (opponent_of player)) → minus S A.set w ≡ true
  left_from_held v w here goes within (inl owns_not) =
      let parts = minus_parts S A.set v (held_parts v here).0 in
      minus_from S A.set w within ((A.stuck v parts.0 parts.1).own owns_not w goes.0 within)
  left_from_held v w here goes within (inr owns) =
      let wins = (held_parts v here).1 in
      let mine : owner_at nodes v ≡ rest.winner v = owns ∙ opponent_twice player ∙ sym wins in
      subst (λ u. minus S A.set u ≡ true) (sym ((goes_in_rest v w here goes).1 mine)) (rest.chosen v (held_parts v here).0 mine).1

  -- steps from held places lead to held places
  kept_in_held : (v w : ℕ) → held v ≡ true → JointGoes v w → S w ≡ true → held w ≡ true
  kept_in_held v w here goes within =
      let left = left_from_held v w here goes within (cases_player (owner_at nodes v) (opponent_of player)) in
      held_from w left (rest.kept v w (held_parts v here).0 left (goes_in_rest v w here goes) ∙ (held_parts v here).1)

  -- within the attractor ranks fall
  joint_falls : (u w : ℕ) → B.set u ≡ true → held u ≡ false → JointGoes u w → S w ≡ true → (B.set w ≡ true) × (B.rank w < B.rank u)
  joint_falls u w drawn aside goes within =
      B.drawn.falls u w drawn aside goes.0 within
      (λ owns. goes.1 (owns ∙ sym (joint_in u drawn)) ∙ layered_second held B.set rest.choice B.pick last.choice u aside drawn)

  -- steps stay in the attractor
  kept_in_attractor : (v w : ℕ) → B.set v ≡ true → (held v ≡ true) ⊎ (held v ≡ false) → JointGoes v w → S w ≡ true → B.set w ≡ true
  kept_in_attractor v w drawn (inl here) goes within = B.drawn.target w (kept_in_held v w here goes within)
  kept_in_attractor v w drawn (inr aside) goes within = (joint_falls v w drawn aside goes within).0

  -- outside the attractor the steps are those of the last split
  goes_in_last : (v w : ℕ) → B.set v ≡ false → JointGoes v w → Goes nodes last.winner last.choice v w
  goes_in_last v w out goes = (
    goes.0,
    λ owns.
        goes.1 (owns ∙ sym (joint_out v out))
        ∙ layered_third held B.set rest.choice B.pick last.choice v (outside_held v out (cases_Bool (held v))) out,
  )

  -- only the player's places lead into the attractor
  enters_attractor : (v w : ℕ) → S v ≡ true → B.set v ≡ false → JointGoes v w → S w ≡ true → B.set w ≡ true
      → (last.winner v ≡ player) ⊎ (last.winner v ≡ opponent_of player) → (owner_at nodes v ≡ player) ⊎ (owner_at nodes v ≡ opponent_of player) → last.winner v ≡ player
  enters_attractor v w here out goes within drawn (inl wins) o = wins
  enters_attractor v w here out goes within drawn (inr loses_here) (inl owns) =
      absurd (false≢true (sym ((B.stuck v here out).own owns w goes.0 within) ∙ drawn))
  enters_attractor v w here out goes within drawn (inr loses_here) (inr owns_not) =
      let mine : owner_at nodes v ≡ last.winner v = owns_not ∙ sym loses_here in
      let next = last.chosen v (minus_from S B.set v here out) mine in
      let left = (minus_parts S B.set (last.choice v) next.1).1 in
      absurd (false≢true (sym (subst (λ u. B.set u ≡ false) (sym ((goes_in_last v w out goes).1 mine)) left) ∙ drawn))

  -- steps keep the winner
  joint_kept : (v w : ℕ) → (B.set v ≡ true) ⊎ (B.set v ≡ false) → (B.set w ≡ true) ⊎ (B.set w ≡ false) → S v ≡ true → S w ≡ true → JointGoes v w → joint w ≡ joint v
  joint_kept v w (inl drawn) b here within goes =
      joint_in w (kept_in_attractor v w drawn (cases_Bool (held v)) goes within) ∙ sym (joint_in v drawn)
  joint_kept v w (inr out) (inl drawn) here within goes =
      joint_in w drawn
      ∙ sym (joint_out v out ∙ enters_attractor v w here out goes within drawn (cases_player (last.winner v) player) (cases_player (owner_at nodes v) player))
  joint_kept v w (inr out) (inr off) here within goes =
      joint_out w off ∙ last.kept v w (minus_from S B.set v here out) (minus_from S B.set w within off) (goes_in_last v w out goes) ∙ sym (joint_out v out)

  -- the choices are successors in the set
  joint_chosen : (v : ℕ) → (held v ≡ true) ⊎ (held v ≡ false) → (B.set v ≡ true) ⊎ (B.set v ≡ false) → S v ≡ true → owner_at nodes v ≡ joint v
      → HasEdge nodes v (joint_choice v) × (S (joint_choice v) ≡ true)
  joint_chosen v (inl here) b within owns =
      let next = rest.chosen v (held_parts v here).0 (owns ∙ joint_at_held v here ∙ sym (held_parts v here).1) in
      subst (λ y. HasEdge nodes v y × (S y ≡ true)) (sym (layered_first held B.set rest.choice B.pick last.choice v here))
      (next.0, (minus_parts S A.set (rest.choice v) next.1).0)
  joint_chosen v (inr aside) (inl drawn) within owns =
      let next = B.drawn.picked v drawn aside (owns ∙ joint_in v drawn) in
      subst (λ y. HasEdge nodes v y × (S y ≡ true)) (sym (layered_second held B.set rest.choice B.pick last.choice v aside drawn))
      (next.0, B.drawn.inside (B.pick v) next.1)
  joint_chosen v (inr aside) (inr out) within owns =
      let next = last.chosen v (minus_from S B.set v within out) (owns ∙ joint_out v out) in
      subst (λ y. HasEdge nodes v y × (S y ≡ true)) (sym (layered_third held B.set rest.choice B.pick last.choice v aside out))
      (next.0, (minus_parts S B.set (last.choice v) next.1).0)

  -- a closed tour that meets the held places stays in them, any other is one of the last split
  joint_won : (v : ℕ) (ws : List ℕ) → IsTour S JointGoes v ws → 0 < length ws → end_of v ws ≡ v
      → Meets held v ws ⊎ Along (λ u. B.set u ≡ false) v ws → IsTrue (loses (joint v) (greatest_on nodes v ws)) → ⊥
  joint_won v ws tour longer closed (inl meets) lost =
      let here : held v ≡ true = subst (λ u. held u ≡ true) closed (met_at_end S JointGoes held kept_in_held v ws meets tour) in
      let again : IsTour (minus S A.set) (Goes nodes rest.winner rest.choice) v ws =
      retour S JointGoes (λ u. held u ≡ true) (minus S A.set) (Goes nodes rest.winner rest.choice)
      (λ u in_held _. (held_parts u in_held).0) (λ u w in_held _ goes. goes_in_rest u w in_held goes)
      v ws (kept_along S JointGoes (λ u. held u ≡ true) kept_in_held v ws here tour) tour in
      rest.won v ws again longer closed
      (subst (λ p. IsTrue (loses p (greatest_on nodes v ws))) (joint_at_held v here ∙ sym (held_parts v here).1) lost)
  joint_won v ws tour longer closed (inr outside) lost =
      let again : IsTour (minus S B.set) (Goes nodes last.winner last.choice) v ws =
      retour S JointGoes (λ u. B.set u ≡ false) (minus S B.set) (Goes nodes last.winner last.choice)
      (λ u out here. minus_from S B.set u here out) (λ u w out _ goes. goes_in_last u w out goes) v ws outside tour in
      let out = (minus_parts S B.set v (tour_start (minus S B.set) (Goes nodes last.winner last.choice) v ws again)).1 in
      last.won v ws again longer closed (subst (λ p. IsTrue (loses p (greatest_on nodes v ws))) (joint_out v out) lost)

  -- so the two splits are joined
  pub joint_split : Split nodes S
  joint_split = record {
    winner = joint;
    choice = joint_choice;
    chosen = λ v. joint_chosen v (cases_Bool (held v)) (cases_Bool (B.set v));
    kept = λ v w. joint_kept v w (cases_Bool (B.set v)) (cases_Bool (B.set w));
    won = λ v ws tour longer closed.
        joint_won v ws tour longer closed (met_or_outside S JointGoes held B.set B.rank joint_falls v ws longer closed tour);
  }
