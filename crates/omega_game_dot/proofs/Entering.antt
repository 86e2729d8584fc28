-- What entering places keeps, one after another.
use Rattle.std.proofs.Common.{◌≡◌, ◌⊎◌, inl, inr, ℕ, ◌+◌, ◌<◌, Bool, true, false, IsTrue, List, [], ◌∷◌, ◌++◌, length, take, get_or, set, Contains, refl, sym, ◌∙◌, subst, arith}
use Rattle.std.proofs.lemmas.Bool.{cases_eq}
use Rattle.std.proofs.lemmas.List.{length-set, length_push, take_more}
use Rattle.std.proofs.lemmas.List.Elements.{Contains-append_left, Contains-push, Contains-push_cases}
use Rattle.omega_game_values.specs.Game.{Node, HasEdge, successors_at}
use Rattle.omega_game_reaching.proofs.Marking.{mark_kept, mark_other, mark_set, one_fewer}
use Rattle.omega_game_dot.specs.Extent.{is_drawn}
use Rattle.omega_game_dot.specs.private.Entering.{AreEntered, IsAfter}

-- if nothing is entered
pub entered_none : (Holds : ℕ → Type 0) (drawn : List Bool) (next : List ℕ) → ((v : ℕ) → Holds v → ⊥) → AreEntered Holds drawn next drawn next
entered_none Holds drawn next none = record {
  count = refl;
  kept = λ v flagged. flagged;
  entered = λ v holds. absurd (none v holds);
  fresh = λ v flagged. inl flagged;
  waiting = λ v waits. inl waits;
  still = λ v waits. waits;
  left = refl;
}

module _ (drawn : List Bool) (next : List ℕ) (p : ℕ) where
  -- a place that is flagged changes nothing
  pub entered_old : IsTrue (is_drawn drawn p) → AreEntered (λ v. p ≡ v) drawn next drawn next
  entered_old flagged = record {
    count = refl;
    kept = λ v before. before;
    entered = λ v is. subst (λ u. IsTrue (is_drawn drawn u)) is flagged;
    fresh = λ v before. inl before;
    waiting = λ v waits. inl waits;
    still = λ v waits. waits;
    left = refl;
  }

  -- a place that is not, is flagged and comes next
  pub entered_new : p < length drawn → is_drawn drawn p ≡ false → AreEntered (λ v. p ≡ v) drawn next (set drawn p true) (next ++ p ∷ [])
  entered_new below unflagged = record {
    count = length-set drawn p true;
    kept = λ v before. mark_kept drawn p v below before;
    entered = λ v is. mark_set drawn p v below is;
    fresh = λ v flagged. fresh v flagged (cases_eq v p);
    waiting = λ v waits. waiting v (Contains-push_cases next p v waits);
    still = λ v waits. Contains-append_left next (p ∷ []) v waits;
    left = omega (arith, one_fewer drawn p below unflagged, length_push next p);
  }
    where
      fresh : (v : ℕ) → IsTrue (is_drawn (set drawn p true) v) → (v ≡ p) ⊎ (v ≡ p → ⊥)
          → IsTrue (is_drawn drawn v) ⊎ ((p ≡ v) × Contains (next ++ p ∷ []) v)
      fresh v flagged (inl is) = inr (sym is, subst (λ u. Contains (next ++ p ∷ []) u) (sym is) (Contains-push next p))
      fresh v flagged (inr apart) = inl (sym (mark_other drawn p v apart) ∙ flagged)

      waiting : (v : ℕ) → Contains next v ⊎ (p ≡ v) → Contains next v ⊎ IsTrue (is_drawn (set drawn p true) v)
      waiting v (inl before) = inl before
      waiting v (inr is) = inr (mark_set drawn p v below is)

-- the same, if the flags and the next are known by equations
pub old_entered : (drawn : List Bool) (next : List ℕ) (p : ℕ) (drawn' : List Bool) (next' : List ℕ) → drawn' ≡ drawn → next' ≡ next
    → IsTrue (is_drawn drawn p) → AreEntered (λ v. p ≡ v) drawn next drawn' next'
old_entered drawn next p drawn' next' same_drawn same_next flagged = rw (same_drawn, same_next) (entered_old drawn next p flagged)

pub new_entered : (drawn : List Bool) (next : List ℕ) (p : ℕ) (drawn' : List Bool) (next' : List ℕ) → drawn' ≡ set drawn p true → next' ≡ next ++ p ∷ []
    → p < length drawn → is_drawn drawn p ≡ false → AreEntered (λ v. p ≡ v) drawn next drawn' next'
new_entered drawn next p drawn' next' now_drawn now_next below unflagged = rw (now_drawn, now_next) (entered_new drawn next p below unflagged)

-- some places and then others
module _ (Before Now After : ℕ → Type 0) (covers : (v : ℕ) → After v → Before v ⊎ Now v) (earlier : (v : ℕ) → Before v → After v)
    (later : (v : ℕ) → Now v → After v) (drawn : List Bool) (next : List ℕ) (drawn' : List Bool) (next' : List ℕ) (drawn'' : List Bool)
    (next'' : List ℕ) (first : AreEntered Before drawn next drawn' next') (second : AreEntered Now drawn' next' drawn'' next'') where
  pub entered_more : AreEntered After drawn next drawn'' next''
  entered_more = record {
    count = second.count ∙ first.count;
    kept = λ v flagged. second.kept v (first.kept v flagged);
    entered = λ v holds. entered v (covers v holds);
    fresh = λ v flagged. fresh v (second.fresh v flagged);
    waiting = λ v waits. waiting v (second.waiting v waits);
    still = λ v waits. second.still v (first.still v waits);
    left = second.left ∙ first.left;
  }
    where
      entered : (v : ℕ) → Before v ⊎ Now v → IsTrue (is_drawn drawn'' v)
      entered v (inl holds) = second.kept v (first.entered v holds)
      entered v (inr holds) = second.entered v holds

      older : (v : ℕ) → IsTrue (is_drawn drawn v) ⊎ (Before v × Contains next' v) → IsTrue (is_drawn drawn v) ⊎ (After v × Contains next'' v)
      older v (inl flagged) = inl flagged
      older v (inr holds) = inr (earlier v holds.0, second.still v holds.1)

      fresh : (v : ℕ) → IsTrue (is_drawn drawn' v) ⊎ (Now v × Contains next'' v) → IsTrue (is_drawn drawn v) ⊎ (After v × Contains next'' v)
      fresh v (inl flagged) = older v (first.fresh v flagged)
      fresh v (inr holds) = inr (later v holds.0, holds.1)

      oldest : (v : ℕ) → Contains next v ⊎ IsTrue (is_drawn drawn' v) → Contains next v ⊎ IsTrue (is_drawn drawn'' v)
      oldest v (inl waits) = inl waits
      oldest v (inr flagged) = inr (second.kept v flagged)

      waiting : (v : ℕ) → Contains next' v ⊎ IsTrue (is_drawn drawn'' v) → Contains next v ⊎ IsTrue (is_drawn drawn'' v)
      waiting v (inl waits) = oldest v (first.waiting v waits)
      waiting v (inr flagged) = inr flagged

module _ (drawn : List Bool) (next : List ℕ) (drawn' : List Bool) (next' : List ℕ) (drawn'' : List Bool) (next'' : List ℕ) where
  -- one more of the places of a list
  pub entered_place : (places : List ℕ) (i : ℕ) → i < length places → AreEntered (Contains (take i places)) drawn next drawn' next'
      → AreEntered (λ v. get_or places i 0 ≡ v) drawn' next' drawn'' next'' → AreEntered (Contains (take (i + 1) places)) drawn next drawn'' next''
  entered_place places i below so_far step =
      subst (λ all. AreEntered (Contains all) drawn next drawn'' next'') (sym (take_more places i 0 below))
      (entered_more _ _ _ (λ v. Contains-push_cases (take i places) (get_or places i 0) v)
      (λ v. Contains-append_left (take i places) (get_or places i 0 ∷ []) v)
      (λ v is. subst (λ u. Contains (take i places ++ get_or places i 0 ∷ []) u) is (Contains-push (take i places) (get_or places i 0)))
      drawn next drawn' next' drawn'' next'' so_far step)

  -- the successors of one more of the front
  pub entered_after : (nodes : List Node) (front : List ℕ) (i : ℕ) → i < length front → AreEntered (IsAfter nodes (take i front)) drawn next drawn' next'
      → AreEntered (Contains (successors_at nodes (get_or front i 0))) drawn' next' drawn'' next''
      → AreEntered (IsAfter nodes (take (i + 1) front)) drawn next drawn'' next''
  entered_after nodes front i below so_far step =
      subst (λ all. AreEntered (IsAfter nodes all) drawn next drawn'' next'') (sym (take_more front i 0 below))
      (entered_more _ _ _ (λ w following. covers w following (Contains-push_cases earlier u following.0 following.1))
      (λ w following. (following.0, Contains-append_left earlier (u ∷ []) following.0 following.1, following.2))
      (λ w edge. (u, Contains-push earlier u, edge))
      drawn next drawn' next' drawn'' next'' so_far step)
    where
      earlier : List ℕ
      earlier = take i front

      u : ℕ
      u = get_or front i 0

      covers : (w : ℕ) → (following : IsAfter nodes (earlier ++ u ∷ []) w) → Contains earlier following.0 ⊎ (u ≡ following.0)
          → IsAfter nodes earlier w ⊎ Contains (successors_at nodes u) w
      covers w following (inl there) = inl (following.0, there, following.2)
      covers w following (inr is) = inr (subst (λ x. HasEdge nodes x w) (sym is) following.2)
