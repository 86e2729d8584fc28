-- The search along edges left possible: what marking places keeps, and what the marks are when nothing waits any more.
use Rattle.std.proofs.Common.{◌≡◌, ◌≢◌, ℕ, ◌+◌, ◌<◌, ◌≤◌, ◌⊎◌, ◌↔◌, inl, inr, Bool, true, false, not, cond, IsTrue, Option, List, [], ◌∷◌, ◌++◌, length, set, get_or, take, replicate, Contains, count_by, All, refl, sym, ◌∙◌, ap, subst, arith, get_or-set_same, get_or-set_other}
use Rattle.std.proofs.lemmas.Bool.{cases_eq, cases_lt, false≢true}
use Rattle.std.proofs.lemmas.List.{length-set, length_push, take_more, get_or_past, get_or-replicate, length-replicate}
use Rattle.std.proofs.lemmas.List.Elements.{Contains-append_left, Contains-push, Contains-push_cases, Contains-get_or}
use Rattle.std.proofs.lemmas.List.Sums.{sum_by-set}
use Rattle.omega_text.specs.Limits.{most_number}
use Rattle.omega_game_values.specs.Game.{Node, IsGame, IsWithinLimits, no_node, priority_at}
use Rattle.omega_game_values.specs.Paths.{IsPath, Reaches}
use Rattle.omega_game_reaching.specs.Reaching.{left_at, mark_at, IsLowPath, IsReachedFrom, AreReached, LeadsInside}
use Rattle.omega_game_values.specs.Winning.{end_of}
use Rattle.omega_game_reaching.specs.private.Entering.{AreEntered}
use Rattle.omega_game_values.proofs.elements.Membership.{Contains-nothing}

-- the mark that was set
pub mark_set : (marks : List Bool) (p v : ℕ) → p < length marks → p ≡ v → IsTrue (mark_at (set marks p true) v)
mark_set marks p v below e = subst (λ u. IsTrue (mark_at (set marks p true) u)) e (get_or-set_same {A = Bool} marks p true false below)

-- the other marks stay
pub mark_other : (marks : List Bool) (p v : ℕ) → v ≢ p → mark_at (set marks p true) v ≡ mark_at marks v
mark_other marks p v apart = get_or-set_other {A = Bool} marks p v true false apart

-- a mark stays when another is set
pub mark_kept : (marks : List Bool) (p v : ℕ) → p < length marks → IsTrue (mark_at marks v) → IsTrue (mark_at (set marks p true) v)
mark_kept marks p v below marked = go (cases_eq v p)
  where
    go : (v ≡ p) ⊎ (v ≡ p → ⊥) → IsTrue (mark_at (set marks p true) v)
    go (inl e) = mark_set marks p v below (sym e)
    go (inr apart) = mark_other marks p v apart ∙ marked

-- one place fewer is left unmarked
pub one_fewer : (marks : List Bool) (p : ℕ) → p < length marks → mark_at marks p ≡ false → count_by not (set marks p true) + 1 ≡ count_by not marks
one_fewer marks p below unmarked =
    let sums : count_by not (set marks p true) + cond {A = ℕ} (not (mark_at marks p)) 1 0 ≡ count_by not marks + 0 =
    sum_by-set {X = Bool} (λ b. cond (not b) 1 0) marks p true false below in
    let one : cond {A = ℕ} (not (mark_at marks p)) 1 0 ≡ 1 = ap {B = ℕ} (λ b. cond (not b) 1 0) unmarked in
    omega arith

-- a place that is marked is one of those with a mark
pub marked_below : (marks : List Bool) (v : ℕ) → IsTrue (mark_at marks v) → v < length marks
marked_below marks v mark = go (cases_lt v (length marks))
  where
    go : (v < length marks) ⊎ (length marks ≤ v) → v < length marks
    go (inl below) = below
    go (inr past) = absurd (false≢true (sym (get_or_past marks v false past) ∙ mark))

-- where no mark is set no place is marked
pub unmarked : (n v : ℕ) → mark_at (replicate n false) v ≡ false
unmarked n v = go (cases_lt v n)
  where
    go : (v < n) ⊎ (n ≤ v) → mark_at (replicate n false) v ≡ false
    go (inl below) = get_or-replicate n v false false below
    go (inr past) = get_or_past (replicate n false) v false (omega (arith, length-replicate n false))

-- the edges left possible lead to nodes
pub left_inside : (nodes : List Node) (choices : List (Option ℕ)) (v : ℕ) (ws : List ℕ) → LeadsInside nodes choices → ws ≡ left_at nodes choices v
    → All (λ w. w < length nodes) ws
left_inside nodes choices v ws kept same k d below =
    kept.inside v (get_or ws k d) (subst (λ xs. Contains xs (get_or ws k d)) same (Contains-get_or ws k d below))

-- a list of no element is empty
pub empty_of_none : (xs : List ℕ) → length xs ≡ 0 → xs ≡ []
empty_of_none [] none = refl
empty_of_none (x ∷ xs) none = absurd (omega arith)

-- nothing to enter
pub entered_none : (nodes : List Node) (most : ℕ) (marks : List Bool) (stack : List ℕ) → AreEntered nodes most [] marks stack marks stack
entered_none nodes most marks stack = record {
  count = refl;
  kept = λ v marked. marked;
  entered = λ v contained low. absurd (Contains-nothing v contained);
  fresh = λ v marked. inl marked;
  waiting = λ v waits. inl waits;
  still = λ v waits. waits;
  left = refl;
}

module _ (nodes : List Node) (most : ℕ) (places : List ℕ) (marks : List Bool) (stack : List ℕ) (marks' : List Bool) (stack' : List ℕ)
    (so_far : AreEntered nodes most places marks stack marks' stack') (p : ℕ) where
  -- a place that is marked, or above the most, changes nothing
  pub entered_skip : (priority_at nodes p ≤ most → IsTrue (mark_at marks' p)) → AreEntered nodes most (places ++ p ∷ []) marks stack marks' stack'
  entered_skip marked = record {
    count = so_far.count;
    kept = so_far.kept;
    entered = λ v contained low. entered v low (Contains-push_cases places p v contained);
    fresh = λ v mark. fresh v (so_far.fresh v mark);
    waiting = so_far.waiting;
    still = so_far.still;
    left = so_far.left;
  }
    where
      entered : (v : ℕ) → priority_at nodes v ≤ most → Contains places v ⊎ (p ≡ v) → IsTrue (mark_at marks' v)
      entered v low (inl earlier) = so_far.entered v earlier low
      entered v low (inr e) =
          subst (λ u. priority_at nodes u ≤ most → IsTrue (mark_at marks' u)) e marked low

      fresh : (v : ℕ) → IsTrue (mark_at marks v) ⊎ (Contains places v × (priority_at nodes v ≤ most) × Contains stack' v)
          → IsTrue (mark_at marks v) ⊎ (Contains (places ++ p ∷ []) v × (priority_at nodes v ≤ most) × Contains stack' v)
      fresh v (inl before) = inl before
      fresh v (inr now) = inr (Contains-append_left places (p ∷ []) v now.0, now.1, now.2)

  -- a place that is not is marked and waits
  pub entered_push : p < length marks' → priority_at nodes p ≤ most → mark_at marks' p ≡ false
      → AreEntered nodes most (places ++ p ∷ []) marks stack (set marks' p true) (stack' ++ p ∷ [])
  entered_push below low unmarked = record {
    count = length-set marks' p true ∙ so_far.count;
    kept = λ v mark. mark_kept marks' p v below (so_far.kept v mark);
    entered = λ v contained high. entered v high (Contains-push_cases places p v contained);
    fresh = λ v mark. fresh v mark (cases_eq v p);
    waiting = λ v waits. waiting v (Contains-push_cases stack' p v waits);
    still = λ v waits. Contains-append_left stack' (p ∷ []) v (so_far.still v waits);
    left = omega (arith, one_fewer marks' p below unmarked, length_push stack' p, so_far.left);
  }
    where
      entered : (v : ℕ) → priority_at nodes v ≤ most → Contains places v ⊎ (p ≡ v) → IsTrue (mark_at (set marks' p true) v)
      entered v high (inl earlier) = mark_kept marks' p v below (so_far.entered v earlier high)
      entered v high (inr e) = mark_set marks' p v below e

      older : (v : ℕ) → IsTrue (mark_at marks v) ⊎ (Contains places v × (priority_at nodes v ≤ most) × Contains stack' v)
          → IsTrue (mark_at marks v) ⊎ (Contains (places ++ p ∷ []) v × (priority_at nodes v ≤ most) × Contains (stack' ++ p ∷ []) v)
      older v (inl before) = inl before
      older v (inr now) = inr (Contains-append_left places (p ∷ []) v now.0, now.1, Contains-append_left stack' (p ∷ []) v now.2)

      fresh : (v : ℕ) → IsTrue (mark_at (set marks' p true) v) → (v ≡ p) ⊎ (v ≡ p → ⊥)
          → IsTrue (mark_at marks v) ⊎ (Contains (places ++ p ∷ []) v × (priority_at nodes v ≤ most) × Contains (stack' ++ p ∷ []) v)
      fresh v mark (inl e) = subst (λ u. IsTrue (mark_at marks u) ⊎ (Contains (places ++ p ∷ []) u × (priority_at nodes u ≤ most) × Contains (stack' ++ p ∷ []) u)) (sym e)
          (inr (Contains-push places p, low, Contains-push stack' p))
      fresh v mark (inr apart) = older v (so_far.fresh v (sym (mark_other marks' p v apart) ∙ mark))

      waiting : (v : ℕ) → Contains stack' v ⊎ (p ≡ v) → Contains stack v ⊎ IsTrue (mark_at (set marks' p true) v)
      waiting v (inl earlier) = later (so_far.waiting v earlier)
        where
          later : Contains stack v ⊎ IsTrue (mark_at marks' v) → Contains stack v ⊎ IsTrue (mark_at (set marks' p true) v)
          later (inl before) = inl before
          later (inr mark) = inr (mark_kept marks' p v below mark)
      waiting v (inr e) = inr (mark_set marks' p v below e)

module _ (nodes : List Node) (choices : List (Option ℕ)) (most : ℕ) where
  -- a path and an edge after it
  pub path_on : (v : ℕ) (ws : List ℕ) (u w : ℕ) → IsLowPath nodes choices most v ws → end_of v ws ≡ u
      → Contains (left_at nodes choices u) w → priority_at nodes w ≤ most → IsLowPath nodes choices most v (ws ++ w ∷ [])
  path_on v [] u w path ends edge low = (path, subst (λ x. Contains (left_at nodes choices x) w) (sym ends) edge, low)
  path_on v (x ∷ ws) u w path ends edge low = (path.0, path.1, path_on x ws u w path.2 ends edge low)

  -- and its end
  pub end_on : (v : ℕ) (ws : List ℕ) (w : ℕ) → end_of v (ws ++ w ∷ []) ≡ w
  end_on v [] w = refl
  end_on v (x ∷ ws) w = end_on x ws w

  -- one edge further
  pub reached_on : (places : List ℕ) (u w : ℕ) → IsReachedFrom nodes choices most places u
      → Contains (left_at nodes choices u) w → priority_at nodes w ≤ most → IsReachedFrom nodes choices most places w
  reached_on places u w reached edge low = record {
    start = reached.start;
    listed = reached.listed;
    after = reached.after ++ w ∷ [];
    path = path_on reached.start reached.after u w reached.path reached.ends edge low;
    ends = end_on reached.start reached.after w;
  }

  -- a search on its way: the marks are of places that are reached, and what is not marked yet lies after what waits
  pub record IsSearch (places : List ℕ) (marks : List Bool) (stack : List ℕ) : Type 0 where
    pub count : length marks ≡ length nodes
    pub sound : (v : ℕ) → IsTrue (mark_at marks v) → IsReachedFrom nodes choices most places v
    pub begun : (v : ℕ) → Contains places v → priority_at nodes v ≤ most → IsTrue (mark_at marks v)
    pub stacked : (v : ℕ) → Contains stack v → IsTrue (mark_at marks v)
    pub done : (v w : ℕ) → IsTrue (mark_at marks v) → Contains (left_at nodes choices v) w → priority_at nodes w ≤ most
        → Contains stack v ⊎ IsTrue (mark_at marks w)

  -- the search begins with the given places
  pub search_begins : (places : List ℕ) (marks : List Bool) (none : List ℕ) (marks' : List Bool) (stack : List ℕ)
      → marks ≡ replicate (length nodes) false → none ≡ [] → AreEntered nodes most places marks none marks' stack → IsSearch places marks' stack
  search_begins places marks none marks' stack clear empty entered = record {
    count = entered.count ∙ ap length clear ∙ length-replicate (length nodes) false;
    sound = λ v mark. sound v (entered.fresh v mark);
    begun = entered.entered;
    stacked = λ v waits. stacked v (entered.waiting v waits);
    done = λ v w mark edge low. done v w (entered.fresh v mark);
  }
    where
      before_none : (v : ℕ) → IsTrue (mark_at marks v) → ⊥
      before_none v mark = false≢true (sym (unmarked (length nodes) v) ∙ ap (λ m. mark_at m v) (sym clear) ∙ mark)

      sound : (v : ℕ) → IsTrue (mark_at marks v) ⊎ (Contains places v × (priority_at nodes v ≤ most) × Contains stack v) → IsReachedFrom nodes choices most places v
      sound v (inl before) = absurd (before_none v before)
      sound v (inr now) = record { start = v; listed = now.0; after = []; path = now.1; ends = refl }

      stacked : (v : ℕ) → Contains none v ⊎ IsTrue (mark_at marks' v) → IsTrue (mark_at marks' v)
      stacked v (inl nothing) = absurd (Contains-nothing v (subst (λ xs. Contains xs v) empty nothing))
      stacked v (inr mark) = mark

      done : (v w : ℕ) → IsTrue (mark_at marks v) ⊎ (Contains places v × (priority_at nodes v ≤ most) × Contains stack v) → Contains stack v ⊎ IsTrue (mark_at marks' w)
      done v w (inl before) = absurd (before_none v before)
      done v w (inr now) = inl now.2

  -- and goes on with the edges of the place on top
  pub search_goes_on : (places : List ℕ) (marks : List Bool) (stack : List ℕ) (u : ℕ) (marks' : List Bool) (stack' : List ℕ)
      → IsSearch places marks (stack ++ u ∷ []) → AreEntered nodes most (left_at nodes choices u) marks stack marks' stack'
      → IsSearch places marks' stack'
  search_goes_on places marks stack u marks' stack' so_far entered = record {
    count = entered.count ∙ so_far.count;
    sound = λ v mark. sound v (entered.fresh v mark);
    begun = λ v listed low. entered.kept v (so_far.begun v listed low);
    stacked = λ v waits. stacked v (entered.waiting v waits);
    done = λ v w mark edge low. fresh v w edge low (entered.fresh v mark);
  }
    where
      sound : (v : ℕ) → IsTrue (mark_at marks v) ⊎ (Contains (left_at nodes choices u) v × (priority_at nodes v ≤ most) × Contains stack' v) → IsReachedFrom nodes choices most places v
      sound v (inl before) = so_far.sound v before
      sound v (inr now) = reached_on places u v (so_far.sound u (so_far.stacked u (Contains-push stack u))) now.0 now.1

      stacked : (v : ℕ) → Contains stack v ⊎ IsTrue (mark_at marks' v) → IsTrue (mark_at marks' v)
      stacked v (inl before) = entered.kept v (so_far.stacked v (Contains-append_left stack (u ∷ []) v before))
      stacked v (inr mark) = mark

      top : (v w : ℕ) → Contains (left_at nodes choices v) w → priority_at nodes w ≤ most → Contains stack v ⊎ (u ≡ v) → Contains stack' v ⊎ IsTrue (mark_at marks' w)
      top v w edge low (inl below) = inl (entered.still v below)
      top v w edge low (inr e) = inr (entered.entered w (subst (λ x. Contains (left_at nodes choices x) w) (sym e) edge) low)

      done : (v w : ℕ) → Contains (left_at nodes choices v) w → priority_at nodes w ≤ most → Contains (stack ++ u ∷ []) v ⊎ IsTrue (mark_at marks w) → Contains stack' v ⊎ IsTrue (mark_at marks' w)
      done v w edge low (inl waits) = top v w edge low (Contains-push_cases stack u v waits)
      done v w edge low (inr mark) = inr (entered.kept w mark)

      fresh : (v w : ℕ) → Contains (left_at nodes choices v) w → priority_at nodes w ≤ most
          → IsTrue (mark_at marks v) ⊎ (Contains (left_at nodes choices u) v × (priority_at nodes v ≤ most) × Contains stack' v) → Contains stack' v ⊎ IsTrue (mark_at marks' w)
      fresh v w edge low (inl before) = done v w edge low (so_far.done v w before edge low)
      fresh v w edge low (inr now) = inl now.2

  -- the place on top is a node
  pub top_below : (places : List ℕ) (marks : List Bool) (stack : List ℕ) (u : ℕ) → IsSearch places marks (stack ++ u ∷ []) → u < length nodes
  top_below places marks stack u so_far =
      omega (arith, so_far.count, marked_below marks u (so_far.stacked u (Contains-push stack u)))

  -- a path from a marked place stays marked where nothing waits
  marked_on : (places : List ℕ) (marks : List Bool) → IsSearch places marks [] → (v : ℕ) (ws : List ℕ)
      → IsTrue (mark_at marks v) → IsLowPath nodes choices most v ws → IsTrue (mark_at marks (end_of v ws))
  marked_on places marks search_ended v [] mark path = mark
  marked_on places marks search_ended v (w ∷ ws) mark path = marked_on places marks search_ended w ws (next (search_ended.done v w mark path.1 (low w ws path.2))) path.2
    where
      low : (w : ℕ) (ws : List ℕ) → IsLowPath nodes choices most w ws → priority_at nodes w ≤ most
      low w [] path = path
      low w (x ∷ ws) path = path.0

      next : Contains [] v ⊎ IsTrue (mark_at marks w) → IsTrue (mark_at marks w)
      next (inl nothing) = absurd (Contains-nothing v nothing)
      next (inr marked) = marked

  -- where nothing waits the marks are those of the places that are reached
  pub search_ends : (places : List ℕ) (marks : List Bool) → IsSearch places marks [] → AreReached nodes choices most places marks
  search_ends places marks ended v = (ended.sound v, λ reached. complete reached)
    where
      low : (w : ℕ) (ws : List ℕ) → IsLowPath nodes choices most w ws → priority_at nodes w ≤ most
      low w [] path = path
      low w (x ∷ ws) path = path.0

      complete : IsReachedFrom nodes choices most places v → IsTrue (mark_at marks v)
      complete reached = subst (λ u. IsTrue (mark_at marks u)) reached.ends
          (marked_on places marks ended reached.start reached.after
          (ended.begun reached.start reached.listed (low reached.start reached.after reached.path)) reached.path)

-- entering goes on from the places before the i-th with it, by the state that it leaves
pub step_skip : (nodes : List Node) (most : ℕ) (xs : List ℕ) (i : ℕ) (marks : List Bool) (stack : List ℕ) (marks' : List Bool) (stack' : List ℕ) (m : List Bool) (s : List ℕ)
    → i < length xs → AreEntered nodes most (take i xs) marks stack marks' stack'
    → (priority_at nodes (get_or xs i 0) ≤ most → IsTrue (mark_at marks' (get_or xs i 0))) → m ≡ marks' → s ≡ stack'
    → AreEntered nodes most (take (i + 1) xs) marks stack m s
step_skip nodes most xs i marks stack marks' stack' m s within so_far marked m-is s-is =
    rw (m-is, s-is, take_more xs i 0 within) (entered_skip nodes most (take i xs) marks stack marks' stack' so_far (get_or xs i 0) marked)

-- the same where it is marked and waits
pub step_push : (nodes : List Node) (most : ℕ) (xs : List ℕ) (i : ℕ) (marks : List Bool) (stack : List ℕ) (marks' : List Bool) (stack' : List ℕ) (m : List Bool) (s : List ℕ)
    → i < length xs → AreEntered nodes most (take i xs) marks stack marks' stack'
    → get_or xs i 0 < length marks' → priority_at nodes (get_or xs i 0) ≤ most → mark_at marks' (get_or xs i 0) ≡ false
    → m ≡ set marks' (get_or xs i 0) true → s ≡ stack' ++ get_or xs i 0 ∷ []
    → AreEntered nodes most (take (i + 1) xs) marks stack m s
step_push nodes most xs i marks stack marks' stack' m s within so_far below low unmarked m-is s-is =
    rw (m-is, s-is, take_more xs i 0 within) (entered_push nodes most (take i xs) marks stack marks' stack' so_far (get_or xs i 0) below low unmarked)

-- no priority of a game within the limits is above the most
pub priorities_low : (nodes : List Node) (most : ℕ) → IsWithinLimits nodes → most_number ≤ most → (v : ℕ) → priority_at nodes v ≤ most
priorities_low nodes most limits high v = go (cases_lt v (length nodes))
  where
    go : (v < length nodes) ⊎ (length nodes ≤ v) → priority_at nodes v ≤ most
    go (inl below) = let low : priority_at nodes v ≤ most_number = (limits.writable v no_node below).priority in omega arith
    go (inr past) =
        let none : priority_at nodes v ≡ 0 = ap (λ node. node.priority) (get_or_past nodes v no_node past) in omega arith

-- where nothing is chosen each edge leads to a node
pub nothing_chosen : (nodes : List Node) → IsGame nodes → LeadsInside nodes []
nothing_chosen nodes game = record { inside = game.closed }

module _ (nodes : List Node) (most : ℕ) (low : (v : ℕ) → priority_at nodes v ≤ most) (game : IsGame nodes) where
  -- a path along the edges that no choice leaves is one of listed edges
  listed_path : (v : ℕ) (ws : List ℕ) → v < length nodes → IsLowPath nodes [] most v ws → IsPath nodes v ws
  listed_path v [] within path = within
  listed_path v (w ∷ ws) within path = (path.1, listed_path w ws (game.closed v w path.1) path.2)

  -- and the other way round
  path_listed : (v : ℕ) (ws : List ℕ) → IsPath nodes v ws → IsLowPath nodes [] most v ws
  path_listed v [] path = low v
  path_listed v (w ∷ ws) path = (low v, path.0, path_listed w ws path.1)

  -- the marks of what is reached from a place without choices are those of the places that it reaches
  pub reached_by_listed : (v : ℕ) (marks : List Bool) → v < length nodes → AreReached nodes [] most (v ∷ []) marks
      → (u : ℕ) → IsTrue (mark_at marks u) ↔ Reaches nodes v u
  reached_by_listed v marks within are u = (
    λ mark. there ((are u).0 mark),
    λ reaches. (are u).1 (record {
      start = v;
      listed = Contains-push [] v;
      after = reaches.path;
      path = path_listed v reaches.path reaches.joined;
      ends = reaches.ends;
    }),
  )
    where
      only : (start : ℕ) → Contains [] start ⊎ (v ≡ start) → v ≡ start
      only start (inl nothing) = absurd (Contains-nothing start nothing)
      only start (inr same) = same

      there : IsReachedFrom nodes [] most (v ∷ []) u → Reaches nodes v u
      there reached =
          let same : v ≡ reached.start = only reached.start (Contains-push_cases [] v reached.start reached.listed) in
          record {
            path = reached.after;
            joined = listed_path v reached.after within (subst (λ start. IsLowPath nodes [] most start reached.after) (sym same) reached.path);
            ends = ap (λ start. end_of start reached.after) same ∙ reached.ends;
          }
