-- The search for the nodes that a place reaches: what each step keeps, and what is flagged at the end.
use Rattle.std.proofs.Common.{◌≡◌, ◌↔◌, ◌⊎◌, inl, inr, ℕ, ◌+◌, ◌<◌, ◌==◌, Bool, true, false, IsTrue, Option, None, Some, List, [], ◌∷◌, All, length, get_or, replicate, Contains, option_map, eqb-true, refl, sym, ap, ◌∙◌, subst, arith}
use Rattle.std.proofs.lemmas.Bool.{false≢true}
use Rattle.std.proofs.lemmas.List.{length-replicate}
use Rattle.std.proofs.lemmas.List.Elements.{Contains-get_or}
use Rattle.std.specs.Option.{option_eq}
use Rattle.omega_game_values.specs.Game.{Node, IsGame, HasEdge}
use Rattle.omega_game_values.proofs.elements.Membership.{Contains-cases, Contains-here, Contains-nothing}
use Rattle.omega_game_reaching.proofs.Marking.{marked_below, unmarked}
use Rattle.omega_game_dot.specs.Extent.{IsNear, ReachesWithin, is_drawn}
use Rattle.omega_game_dot.specs.private.Entering.{AreEntered, IsAfter}
use Rattle.omega_game_dot.proofs.Walks.{IsLed, all_along, near_reached, none_within, within_back, within_none, within_on}

module _ (nodes : List Node) (depth : Option ℕ) (place : ℕ) where
  -- a search after some steps: the places that are reached by as many edges are flagged and no others,
  -- and edges lead from it to what is flagged, but from the front
  pub record IsSearch (drawn : List Bool) (front : List ℕ) (left : Option ℕ) : Type 0 where
    pub count : length drawn ≡ length nodes
    pub steps : ℕ
    pub counted : option_map (λ rest. rest + steps) left ≡ depth
    pub sound : (v : ℕ) → IsTrue (is_drawn drawn v) → ReachesWithin nodes steps place v
    pub begun : IsTrue (is_drawn drawn place)
    pub waiting : (v : ℕ) → Contains front v → IsTrue (is_drawn drawn v)
    pub closed : (v w : ℕ) → IsTrue (is_drawn drawn v) → HasEdge nodes v w → Contains front v ⊎ IsTrue (is_drawn drawn w)
    pub near : (v : ℕ) → ReachesWithin nodes steps place v → IsTrue (is_drawn drawn v)

  -- the front has nodes
  pub front_inside : (drawn : List Bool) (front : List ℕ) (left : Option ℕ) → IsSearch drawn front left → All (λ v. v < length nodes) front
  front_inside drawn front left search k d below =
      let flagged = marked_below drawn (get_or front k d) (search.waiting (get_or front k d) (Contains-get_or front k d below)) in
      omega (arith, flagged, search.count)

  -- no step is made yet
  no_steps : (left : Option ℕ) → option_map (λ rest. rest + 0) left ≡ left
  no_steps None = refl
  no_steps (Some rest) = let e : rest + 0 ≡ rest = omega arith in ap {B = Option ℕ} Some e

  -- the search begins with the place
  pub search_begins : (clear : List Bool) (none : List ℕ) (drawn : List Bool) (front : List ℕ) → place < length nodes
      → clear ≡ replicate (length nodes) false → none ≡ [] → AreEntered (Contains (place ∷ [])) clear none drawn front
      → IsSearch drawn front depth
  search_begins clear none drawn front node is_clear is_none entered = record {
    count = entered.count ∙ ap length is_clear ∙ length-replicate (length nodes) false;
    steps = 0;
    counted = no_steps depth;
    sound = λ v flagged. sound v (entered.fresh v flagged);
    begun = begun;
    waiting = λ v waits. waiting v (entered.waiting v waits);
    closed = λ v w flagged edge. closed v w (entered.fresh v flagged);
    near = λ v reaches. subst (λ u. IsTrue (is_drawn drawn u)) (none_within nodes place v reaches) begun;
  }
    where
      unflagged : (v : ℕ) → IsTrue (is_drawn clear v) → ⊥
      unflagged v flagged = false≢true (sym (unmarked (length nodes) v) ∙ ap (λ flags. is_drawn flags v) (sym is_clear) ∙ flagged)

      begun : IsTrue (is_drawn drawn place)
      begun = entered.entered place (Contains-here place [])

      same : (v : ℕ) → (place ≡ v) ⊎ Contains [] v → place ≡ v
      same v (inl is) = is
      same v (inr nothing) = absurd (Contains-nothing v nothing)

      sound : (v : ℕ) → IsTrue (is_drawn clear v) ⊎ (Contains (place ∷ []) v × Contains front v) → ReachesWithin nodes 0 place v
      sound v (inl before) = absurd (unflagged v before)
      sound v (inr now) = subst (λ u. ReachesWithin nodes 0 place u) (same v (Contains-cases place v [] now.0)) (within_none nodes place node)

      waiting : (v : ℕ) → Contains none v ⊎ IsTrue (is_drawn drawn v) → IsTrue (is_drawn drawn v)
      waiting v (inl nothing) = absurd (Contains-nothing v (subst (λ all. Contains all v) is_none nothing))
      waiting v (inr flagged) = flagged

      closed : (v w : ℕ) → IsTrue (is_drawn clear v) ⊎ (Contains (place ∷ []) v × Contains front v) → Contains front v ⊎ IsTrue (is_drawn drawn w)
      closed v w (inl before) = absurd (unflagged v before)
      closed v w (inr now) = inl now.1

  -- one step more
  counted_on : (left left' : Option ℕ) (steps : ℕ) → option_map (λ rest. rest + 1) left' ≡ left → option_map (λ rest. rest + steps) left ≡ depth
      → option_map (λ rest. rest + (steps + 1)) left' ≡ depth
  counted_on left None steps less counted = ap (option_map (λ rest. rest + steps)) less ∙ counted
  counted_on left (Some rest) steps less counted =
      let e : rest + (steps + 1) ≡ (rest + 1) + steps = omega arith in
      ap {B = Option ℕ} Some e ∙ ap (option_map (λ rest. rest + steps)) less ∙ counted

  -- the search goes on with what is after the front
  pub search_goes_on : (drawn : List Bool) (front : List ℕ) (left : Option ℕ) (drawn' : List Bool) (front' : List ℕ) (left' : Option ℕ)
      → IsGame nodes → place < length nodes → IsSearch drawn front left → AreEntered (IsAfter nodes front) drawn [] drawn' front'
      → option_map (λ rest. rest + 1) left' ≡ left → IsSearch drawn' front' left'
  search_goes_on drawn front left drawn' front' left' game node so_far entered less = record {
    count = entered.count ∙ so_far.count;
    steps = so_far.steps + 1;
    counted = counted_on left left' so_far.steps less so_far.counted;
    sound = λ v flagged. sound v (entered.fresh v flagged);
    begun = entered.kept place so_far.begun;
    waiting = λ v waits. waiting v (entered.waiting v waits);
    closed = λ v w flagged edge. closed v w edge (entered.fresh v flagged);
    near = λ v reaches. near v (within_back nodes so_far.steps place v game node reaches);
  }
    where
      sound : (v : ℕ) → IsTrue (is_drawn drawn v) ⊎ (IsAfter nodes front v × Contains front' v) → ReachesWithin nodes (so_far.steps + 1) place v
      sound v (inl before) =
          let reaches = so_far.sound v before in
          record { walk = reaches.walk; short = omega (arith, reaches.short) }
      sound v (inr now) =
          let following = now.0 in
          within_on nodes so_far.steps place following.0 v game (so_far.sound following.0 (so_far.waiting following.0 following.1)) following.2

      waiting : (v : ℕ) → Contains [] v ⊎ IsTrue (is_drawn drawn' v) → IsTrue (is_drawn drawn' v)
      waiting v (inl nothing) = absurd (Contains-nothing v nothing)
      waiting v (inr flagged) = flagged

      onward : (v w : ℕ) → HasEdge nodes v w → Contains front v ⊎ IsTrue (is_drawn drawn w) → IsTrue (is_drawn drawn' w)
      onward v w edge (inl waits) = entered.entered w (v, waits, edge)
      onward v w edge (inr flagged) = entered.kept w flagged

      closed : (v w : ℕ) → HasEdge nodes v w → IsTrue (is_drawn drawn v) ⊎ (IsAfter nodes front v × Contains front' v)
          → Contains front' v ⊎ IsTrue (is_drawn drawn' w)
      closed v w edge (inl before) = inr (onward v w edge (so_far.closed v w before edge))
      closed v w edge (inr now) = inl now.1

      near : (v : ℕ) → ReachesWithin nodes so_far.steps place v ⊎ IsLed nodes so_far.steps place v → IsTrue (is_drawn drawn' v)
      near v (inl reaches) = entered.kept v (so_far.near v reaches)
      near v (inr led) = onward led.before v led.edge (so_far.closed led.before v (so_far.near led.before led.reached) led.edge)

  -- what is flagged is near
  flagged_near : (left : Option ℕ) (steps v : ℕ) → option_map (λ rest. rest + steps) left ≡ depth → ReachesWithin nodes steps place v
      → IsNear nodes depth place v
  flagged_near None steps v counted reaches = subst (λ most. IsNear nodes most place v) counted reaches.walk
  flagged_near (Some rest) steps v counted reaches =
      let longer : ReachesWithin nodes (rest + steps) place v = record { walk = reaches.walk; short = omega (arith, reaches.short) } in
      subst (λ most. IsNear nodes most place v) counted longer

  -- if no step is left, what is near is reached by the steps that were made
  near_within : (steps v : ℕ) → Some (0 + steps) ≡ depth → IsNear nodes depth place v → ReachesWithin nodes steps place v
  near_within steps v counted near =
      let reaches : ReachesWithin nodes (0 + steps) place v = subst (λ most. IsNear nodes most place v) (sym counted) near in
      record { walk = reaches.walk; short = omega (arith, reaches.short) }

  -- if the number of steps that are left is 0, none is
  pub spent : (left : Option ℕ) → option_eq ◌==◌ left (Some 0) ≡ true → left ≡ Some 0
  spent None same = cc
  spent (Some rest) same = ap {B = Option ℕ} Some (eqb-true rest 0 same)

  -- if the front is empty or no step is left, what is near is flagged and nothing else
  pub search_ends : (drawn : List Bool) (front : List ℕ) (left : Option ℕ) → IsSearch drawn front left → (front ≡ []) ⊎ (left ≡ Some 0)
      → (v : ℕ) → IsTrue (is_drawn drawn v) ↔ IsNear nodes depth place v
  search_ends drawn front left search over v =
      (λ flagged. flagged_near left search.steps v search.counted (search.sound v flagged), near over)
    where
      onward : front ≡ [] → (u w : ℕ) → IsTrue (is_drawn drawn u) → HasEdge nodes u w → IsTrue (is_drawn drawn w)
      onward empty u w flagged edge =
          elim (search.closed u w flagged edge) [
            | inl waits ↦ absurd (Contains-nothing u (subst (λ all. Contains all u) empty waits))
            | inr there ↦ there
          ]

      near : (front ≡ []) ⊎ (left ≡ Some 0) → IsNear nodes depth place v → IsTrue (is_drawn drawn v)
      near (inl empty) is_near =
          all_along nodes (λ u. IsTrue (is_drawn drawn u)) (onward empty) place v search.begun (near_reached nodes depth place v is_near)
      near (inr spent) is_near =
          search.near v (near_within search.steps v (ap (option_map (λ rest. rest + search.steps)) (sym spent) ∙ search.counted) is_near)
