-- A search in breadth: what meeting places keeps, and that each place that is reached is met.
use Rattle.std.proofs.Common.{◌≡◌, ℕ, ◌+◌, ◌<◌, ◌≤◌, ◌⊎◌, inl, inr, Bool, true, false, IsTrue, Option, Some, None, List, [], ◌∷◌, ◌++◌, length, set, get_or, take, replicate, Contains, All, refl, sym, ◌∙◌, ap, subst, arith, le_refl}
use Rattle.std.proofs.lemmas.Bool.{cases_eq, cases_lt, false≢true}
use Rattle.std.proofs.lemmas.List.{length-set, length_push, take_more, get_or_push, get_or_append_left, get_or_default}
use Rattle.std.proofs.lemmas.List.Elements.{All-contains, Contains-append_left, Contains-push, Contains-push_cases, Contains-get_or}
use Rattle.omega_game_values.specs.Game.{Node, priority_at}
use Rattle.omega_game_values.specs.Winning.{end_of}
use Rattle.omega_game_reaching.specs.Reaching.{left_at, mark_at, IsLowPath, LeadsInside}
use Rattle.omega_game_values.proofs.elements.Membership.{Contains-nothing}
use Rattle.omega_game_reaching.proofs.Marking.{mark_set, mark_other, mark_kept, one_fewer, unmarked}
use Rattle.omega_game.specs.private.refuting.Ways.{origin_at, IsMetInTree, IsTree, MeetsAll, AreMet}

-- nothing to meet
pub met_none : (nodes : List Node) (most : ℕ) (origin : Option ℕ) (marks : List Bool) (met : List ℕ) (origins : List (Option ℕ))
    → length origins ≡ length met → AreMet nodes most [] origin marks met origins marks met origins
met_none nodes most origin marks met origins even = record {
  count = refl;
  even = even;
  kept = λ v marked. marked;
  marked = λ v contained low. absurd (Contains-nothing v contained);
  fresh = λ v marked. inl marked;
  longer = le_refl (length met);
  same = λ i within. refl;
  same_origin = λ i within. refl;
  listed = λ i past within. absurd (omega arith);
  low = λ i past within. absurd (omega arith);
  from = λ i past within. absurd (omega arith);
  left = refl;
}

module _ (nodes : List Node) (most : ℕ) (places : List ℕ) (origin : Option ℕ) (marks : List Bool) (met : List ℕ) (origins : List (Option ℕ))
    (marks' : List Bool) (met' : List ℕ) (origins' : List (Option ℕ))
    (so_far : AreMet nodes most places origin marks met origins marks' met' origins') (p : ℕ) where
  -- a place that is marked, or above the most, changes nothing
  pub met_skip : (priority_at nodes p ≤ most → IsTrue (mark_at marks' p)) → AreMet nodes most (places ++ p ∷ []) origin marks met origins marks' met' origins'
  met_skip is_marked = record {
    count = so_far.count;
    even = so_far.even;
    kept = so_far.kept;
    marked = λ v contained low. marked v low (Contains-push_cases places p v contained);
    fresh = so_far.fresh;
    longer = so_far.longer;
    same = so_far.same;
    same_origin = so_far.same_origin;
    listed = λ i past within. Contains-append_left places (p ∷ []) (get_or met' i 0) (so_far.listed i past within);
    low = so_far.low;
    from = so_far.from;
    left = so_far.left;
  }
    where
      marked : (v : ℕ) → priority_at nodes v ≤ most → Contains places v ⊎ (p ≡ v) → IsTrue (mark_at marks' v)
      marked v low (inl earlier) = so_far.marked v earlier low
      marked v low (inr e) = subst (λ u. priority_at nodes u ≤ most → IsTrue (mark_at marks' u)) e is_marked low

  -- a place that is not is marked and met
  pub met_push : p < length marks' → priority_at nodes p ≤ most → mark_at marks' p ≡ false
      → AreMet nodes most (places ++ p ∷ []) origin marks met origins (set marks' p true) (met' ++ p ∷ []) (origins' ++ origin ∷ [])
  met_push below p_low p_unmarked = record {
    count = length-set marks' p true ∙ so_far.count;
    even = omega (arith, length_push origins' origin, length_push met' p, so_far.even);
    kept = λ v mark. mark_kept marks' p v below (so_far.kept v mark);
    marked = λ v contained low. marked v low (Contains-push_cases places p v contained);
    fresh = λ v mark. fresh v mark (cases_eq v p);
    longer = omega (arith, length_push met' p, so_far.longer);
    same = λ i within. get_or_append_left met' (p ∷ []) 0 i (omega (arith, so_far.longer)) ∙ so_far.same i within;
    same_origin = λ i within. get_or_append_left origins' (origin ∷ []) None i (omega (arith, so_far.longer, so_far.even)) ∙ so_far.same_origin i within;
    listed = λ i past within. listed i past (following i within);
    low = λ i past within. low i past (following i within);
    from = λ i past within. from i past (following i within);
    left = omega (arith, one_fewer marks' p below p_unmarked, length_push met' p, so_far.left);
  }
    where
      marked : (v : ℕ) → priority_at nodes v ≤ most → Contains places v ⊎ (p ≡ v) → IsTrue (mark_at (set marks' p true) v)
      marked v low (inl earlier) = mark_kept marks' p v below (so_far.marked v earlier low)
      marked v low (inr e) = mark_set marks' p v below e

      older : (v : ℕ) → IsTrue (mark_at marks v) ⊎ Contains met' v → IsTrue (mark_at marks v) ⊎ Contains (met' ++ p ∷ []) v
      older v (inl before) = inl before
      older v (inr now) = inr (Contains-append_left met' (p ∷ []) v now)

      fresh : (v : ℕ) → IsTrue (mark_at (set marks' p true) v) → (v ≡ p) ⊎ (v ≡ p → ⊥) → IsTrue (mark_at marks v) ⊎ Contains (met' ++ p ∷ []) v
      fresh v mark (inl e) = inr (subst (λ u. Contains (met' ++ p ∷ []) u) (sym e) (Contains-push met' p))
      fresh v mark (inr apart) = older v (so_far.fresh v (sym (mark_other marks' p v apart) ∙ mark))

      -- an index was there before, or is the last one
      following : (i : ℕ) → i < length (met' ++ p ∷ []) → (i < length met') ⊎ (length met' ≡ i)
      following i within = go (cases_lt i (length met'))
        where
          go : (i < length met') ⊎ (length met' ≤ i) → (i < length met') ⊎ (length met' ≡ i)
          go (inl before) = inl before
          go (inr past) = inr (omega (arith, length_push met' p))

      listed : (i : ℕ) → length met ≤ i → (i < length met') ⊎ (length met' ≡ i) → Contains (places ++ p ∷ []) (get_or (met' ++ p ∷ []) i 0)
      listed i past (inl before) =
          subst (λ u. Contains (places ++ p ∷ []) u) (sym (get_or_append_left met' (p ∷ []) 0 i before))
          (Contains-append_left places (p ∷ []) (get_or met' i 0) (so_far.listed i past before))
      listed i past (inr last) = subst (λ u. Contains (places ++ p ∷ []) u) (sym (get_or_push met' p 0 i last)) (Contains-push places p)

      low : (i : ℕ) → length met ≤ i → (i < length met') ⊎ (length met' ≡ i) → priority_at nodes (get_or (met' ++ p ∷ []) i 0) ≤ most
      low i past (inl before) = subst (λ (u : ℕ). priority_at nodes u ≤ most) (sym (get_or_append_left met' (p ∷ []) 0 i before)) (so_far.low i past before)
      low i past (inr last) = subst (λ (u : ℕ). priority_at nodes u ≤ most) (sym (get_or_push met' p 0 i last)) p_low

      from : (i : ℕ) → length met ≤ i → (i < length met') ⊎ (length met' ≡ i) → origin_at (origins' ++ origin ∷ []) i ≡ origin
      from i past (inl before) =
          get_or_append_left origins' (origin ∷ []) None i (omega (arith, so_far.even)) ∙ so_far.from i past before
      from i past (inr last) = get_or_push origins' origin None i (so_far.even ∙ last)

-- meeting goes on from the places before the i-th with it, by the state that it leaves
pub step_met_skip : (nodes : List Node) (most : ℕ) (xs : List ℕ) (i : ℕ) (origin : Option ℕ) (marks : List Bool) (met : List ℕ) (origins : List (Option ℕ))
    (marks' : List Bool) (met' : List ℕ) (origins' : List (Option ℕ)) (m : List Bool) (s : List ℕ) (o : List (Option ℕ))
    → i < length xs → AreMet nodes most (take i xs) origin marks met origins marks' met' origins'
    → (priority_at nodes (get_or xs i 0) ≤ most → IsTrue (mark_at marks' (get_or xs i 0))) → m ≡ marks' → s ≡ met' → o ≡ origins'
    → AreMet nodes most (take (i + 1) xs) origin marks met origins m s o
step_met_skip nodes most xs i origin marks met origins marks' met' origins' m s o within so_far is_marked m-is s-is o-is =
    rw (m-is, s-is, o-is, take_more xs i 0 within) (met_skip nodes most (take i xs) origin marks met origins marks' met' origins' so_far (get_or xs i 0) is_marked)

-- the same where it is marked and met
pub step_met_push : (nodes : List Node) (most : ℕ) (xs : List ℕ) (i : ℕ) (origin : Option ℕ) (marks : List Bool) (met : List ℕ) (origins : List (Option ℕ))
    (marks' : List Bool) (met' : List ℕ) (origins' : List (Option ℕ)) (m : List Bool) (s : List ℕ) (o : List (Option ℕ))
    → i < length xs → AreMet nodes most (take i xs) origin marks met origins marks' met' origins'
    → get_or xs i 0 < length marks' → priority_at nodes (get_or xs i 0) ≤ most → mark_at marks' (get_or xs i 0) ≡ false
    → m ≡ set marks' (get_or xs i 0) true → s ≡ met' ++ get_or xs i 0 ∷ [] → o ≡ origins' ++ origin ∷ []
    → AreMet nodes most (take (i + 1) xs) origin marks met origins m s o
step_met_push nodes most xs i origin marks met origins marks' met' origins' m s o within so_far below low p_unmarked m-is s-is o-is =
    rw (m-is, s-is, o-is, take_more xs i 0 within) (met_push nodes most (take i xs) origin marks met origins marks' met' origins' so_far (get_or xs i 0) below low p_unmarked)

-- a search in breadth that has followed the edges of the places met before an index
pub record IsBreadthSearch (nodes : List Node) (choices : List (Option ℕ)) (most : ℕ) (places : List ℕ) (marks : List Bool) (met : List ℕ) (origins : List (Option ℕ)) (index : ℕ) : Type 0 where
  pub count : length marks ≡ length nodes
  pub tree : IsTree nodes choices most places met origins
  pub begun : (v : ℕ) → Contains places v → priority_at nodes v ≤ most → IsTrue (mark_at marks v)
  pub met_where_marked : (v : ℕ) → IsTrue (mark_at marks v) → Contains met v
  pub within : index ≤ length met
  pub done : (i w : ℕ) → i < index → Contains (left_at nodes choices (get_or met i 0)) w → priority_at nodes w ≤ most → IsTrue (mark_at marks w)

-- no place and some place
none_is_not_some : (entry : Option ℕ) (b : ℕ) → entry ≡ None → entry ≡ Some b → ⊥
none_is_not_some entry b none some = cc

same_some : (entry : Option ℕ) (b d : ℕ) → entry ≡ Some b → entry ≡ Some d → b ≡ d
same_some entry b d one other = cc

module _ (nodes : List Node) (choices : List (Option ℕ)) (most : ℕ) (places : List ℕ) where
  -- the search begins with the places given
  pub breadth_begins : (marks : List Bool) (met : List ℕ) (origins : List (Option ℕ)) (marks' : List Bool) (met' : List ℕ) (origins' : List (Option ℕ))
      → marks ≡ replicate (length nodes) false → length marks ≡ length nodes → length met ≡ 0 → AreMet nodes most places None marks met origins marks' met' origins'
      → IsBreadthSearch nodes choices most places marks' met' origins' 0
  breadth_begins marks met origins marks' met' origins' clear count nothing met_now = record {
    count = met_now.count ∙ count;
    tree = record { even = met_now.even; each = each };
    begun = λ v listed low. met_now.marked v listed low;
    met_where_marked = λ v mark. now v (met_now.fresh v mark);
    within = omega arith;
    done = λ i w before. absurd (omega arith);
  }
    where
      now : (v : ℕ) → IsTrue (mark_at marks v) ⊎ Contains met' v → Contains met' v
      now v (inl before) = absurd (false≢true (sym (unmarked (length nodes) v) ∙ ap (λ m. mark_at m v) (sym clear) ∙ before))
      now v (inr contained) = contained

      each : (i : ℕ) → i < length met' → IsMetInTree nodes choices most places met' origins' i
      each i within =
          let past : length met ≤ i = omega arith in
          record {
            low = met_now.low i past within;
            root = λ is. met_now.listed i past within;
            before = λ b is. absurd (none_is_not_some (origin_at origins' i) b (met_now.from i past within) is);
            edge = λ b is. absurd (none_is_not_some (origin_at origins' i) b (met_now.from i past within) is);
          }

  -- a tree stays one where places are met along the edges of one of its places
  tree_grows : (marks : List Bool) (met : List ℕ) (origins : List (Option ℕ)) (marks' : List Bool) (met' : List ℕ) (origins' : List (Option ℕ)) (index : ℕ)
      → IsTree nodes choices most places met origins → index < length met
      → AreMet nodes most (left_at nodes choices (get_or met index 0)) (Some index) marks met origins marks' met' origins'
      → IsTree nodes choices most places met' origins'
  tree_grows marks met origins marks' met' origins' index tree inside met_now = record { even = met_now.even; each = λ i within. each i within (cases_lt i (length met)) }
    where
      -- what was met before stands as it did
      old : (i : ℕ) → i < length met → IsMetInTree nodes choices most places met origins i → IsMetInTree nodes choices most places met' origins' i
      old i before was = record {
        low = subst (λ (u : ℕ). priority_at nodes u ≤ most) (sym (met_now.same i before)) was.low;
        root = λ is. subst (λ u. Contains places u) (sym (met_now.same i before)) (was.root (sym (met_now.same_origin i before) ∙ is));
        before = λ b is. was.before b (sym (met_now.same_origin i before) ∙ is);
        edge = λ b is.
            let was_some : origin_at origins i ≡ Some b = sym (met_now.same_origin i before) ∙ is in
            let below : b < length met = omega (arith, was.before b was_some) in
            subst (λ u. Contains (left_at nodes choices (get_or met' b 0)) u) (sym (met_now.same i before))
            (subst (λ u. Contains (left_at nodes choices u) (get_or met i 0)) (sym (met_now.same b below)) (was.edge b was_some));
      }

      -- what is met now was met from the place at the index
      new : (i : ℕ) → length met ≤ i → i < length met' → IsMetInTree nodes choices most places met' origins' i
      new i past within = record {
        low = met_now.low i past within;
        root = λ is. absurd (none_is_not_some (origin_at origins' i) index is (met_now.from i past within));
        before = λ b is.
            let same : b ≡ index = same_some (origin_at origins' i) b index is (met_now.from i past within) in omega arith;
        edge = λ b is.
            let same : b ≡ index = same_some (origin_at origins' i) b index is (met_now.from i past within) in
            subst (λ u. Contains (left_at nodes choices (get_or met' u 0)) (get_or met' i 0)) (sym same)
            (subst (λ u. Contains (left_at nodes choices u) (get_or met' i 0)) (sym (met_now.same index inside)) (met_now.listed i past within));
      }

      each : (i : ℕ) → i < length met' → (i < length met) ⊎ (length met ≤ i) → IsMetInTree nodes choices most places met' origins' i
      each i within (inl before) = old i before (tree.each i before)
      each i within (inr past) = new i past within

  -- the search goes on with the edges of the place at the index
  pub breadth_goes_on : (marks : List Bool) (met : List ℕ) (origins : List (Option ℕ)) (marks' : List Bool) (met' : List ℕ) (origins' : List (Option ℕ)) (index : ℕ)
      → IsBreadthSearch nodes choices most places marks met origins index → index < length met
      → AreMet nodes most (left_at nodes choices (get_or met index 0)) (Some index) marks met origins marks' met' origins'
      → IsBreadthSearch nodes choices most places marks' met' origins' (index + 1)
  breadth_goes_on marks met origins marks' met' origins' index so_far inside met_now = record {
    count = met_now.count ∙ so_far.count;
    tree = tree_grows marks met origins marks' met' origins' index so_far.tree inside met_now;
    begun = λ v listed low. met_now.kept v (so_far.begun v listed low);
    met_where_marked = λ v mark. now v (met_now.fresh v mark);
    within = omega (arith, met_now.longer);
    done = λ i w before edge low. done i w before edge low (cases_eq i index);
  }
    where
      -- what was met is met
      still : (v : ℕ) → Contains met v → Contains met' v
      still v contained =
          let within : contained.0 < length met' = omega (arith, contained.1, met_now.longer) in
          let there : get_or met' contained.0 0 ≡ v = met_now.same contained.0 contained.1 ∙ contains_at met v contained in
          subst (λ u. Contains met' u) there (Contains-get_or met' contained.0 0 within)
        where
          contains_at : (xs : List ℕ) (x : ℕ) (found : Contains xs x) → get_or xs found.0 0 ≡ x
          contains_at xs x found = get_or_default xs found.0 0 x found.1 ∙ found.2

      now : (v : ℕ) → IsTrue (mark_at marks v) ⊎ Contains met' v → Contains met' v
      now v (inl before) = still v (so_far.met_where_marked v before)
      now v (inr contained) = contained

      done : (i w : ℕ) → i < index + 1 → Contains (left_at nodes choices (get_or met' i 0)) w → priority_at nodes w ≤ most → (i ≡ index) ⊎ (i ≡ index → ⊥) → IsTrue (mark_at marks' w)
      done i w before edge low (inl here) =
          met_now.marked w
          (subst (λ u. Contains (left_at nodes choices u) w) (met_now.same index inside)
          (subst (λ u. Contains (left_at nodes choices (get_or met' u 0)) w) here edge)) low
      done i w before edge low (inr apart) =
          let earlier : i < index = omega arith in
          let within : i < length met = omega arith in
          met_now.kept w (so_far.done i w earlier (subst (λ u. Contains (left_at nodes choices u) w) (met_now.same i within) edge) low)

  -- where each edge is followed a low path from a marked place stays marked
  marked_along : (marks : List Bool) (met : List ℕ) (origins : List (Option ℕ)) (index : ℕ)
      → IsBreadthSearch nodes choices most places marks met origins index → length met ≤ index → (v : ℕ) (ws : List ℕ)
      → IsTrue (mark_at marks v) → IsLowPath nodes choices most v ws → IsTrue (mark_at marks (end_of v ws))
  marked_along marks met origins index ended all v [] mark path = mark
  marked_along marks met origins index ended all v (w ∷ ws) mark path =
      marked_along marks met origins index ended all w ws (next (ended.met_where_marked v mark)) path.2
    where
      low : (w : ℕ) (ws : List ℕ) → IsLowPath nodes choices most w ws → priority_at nodes w ≤ most
      low w [] path = path
      low w (x ∷ ws) path = path.0

      next : Contains met v → IsTrue (mark_at marks w)
      next found =
          let is : get_or met found.0 0 ≡ v = get_or_default met found.0 0 v found.1 ∙ found.2 in
          ended.done found.0 w (omega (arith, found.1)) (subst (λ u. Contains (left_at nodes choices u) w) (sym is) path.1) (low w ws path.2)

  -- so each place that is reached is met
  pub breadth_ends : (marks : List Bool) (met : List ℕ) (origins : List (Option ℕ)) (index : ℕ)
      → IsBreadthSearch nodes choices most places marks met origins index → length met ≤ index → MeetsAll nodes choices most places met
  breadth_ends marks met origins index ended all v reached =
      ended.met_where_marked v
      (subst (λ u. IsTrue (mark_at marks u)) reached.ends
      (marked_along marks met origins index ended all reached.start reached.after
      (ended.begun reached.start reached.listed (low reached.start reached.after reached.path)) reached.path))
    where
      low : (w : ℕ) (ws : List ℕ) → IsLowPath nodes choices most w ws → priority_at nodes w ≤ most
      low w [] path = path
      low w (x ∷ ws) path = path.0

  -- what is met is a node
  pub met_below : (met : List ℕ) (origins : List (Option ℕ)) → IsTree nodes choices most places met origins → All (λ place. place < length nodes) places
      → LeadsInside nodes choices → (i : ℕ) → i < length met → get_or met i 0 < length nodes
  met_below met origins tree inside leads i within = go (origin_at origins i) refl
    where
      here : IsMetInTree nodes choices most places met origins i
      here = tree.each i within

      go : (entry : Option ℕ) → origin_at origins i ≡ entry → get_or met i 0 < length nodes
      go None is = All-contains (λ place. place < length nodes) places (get_or met i 0) inside (here.root is)
      go (Some b) is = leads.inside (get_or met b 0) (get_or met i 0) (here.edge b is)
