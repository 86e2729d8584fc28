-- The attractor of a player for a target inside a set of places, built one place at a time with ranks and choices.
use Rattle.std.proofs.Common.{◌≡◌, ◌≢◌, ℕ, zero, suc, ◌<◌, ◌≤◌, ◌⊎◌, inl, inr, Bool, true, false, List, length, refl, sym, ◌∙◌, subst, arith}
use Rattle.std.proofs.lemmas.Bool.{cases_Bool, cases_eq, false≢true, false_from_ne_true, true_from_ne_false}
use Rattle.omega_game_values.specs.declared.player.Player.{Player}
use Rattle.omega_game_values.specs.Game.{Node, HasEdge, owner_at, successors_at}
use Rattle.omega_game_region_laws.proofs.Places.{minus, minus_parts, minus_from, minus_out, size, size_lt, changed, changed_at, changed_off}
use Rattle.omega_game_values.specs.Player.{opponent_of}
use Rattle.omega_game_region_laws.proofs.Players.{cases_player, not_both}
use Rattle.omega_game_region_laws.proofs.Search.{sought_below, sought_in}

-- from each place of A outside the target the player draws on in A, to smaller ranks, all below the bound
pub record IsDrawn (nodes : List Node) (S T : ℕ → Bool) (player : Player) (A : ℕ → Bool) (rank pick : ℕ → ℕ) (bound : ℕ) : Type 0 where
  pub inside : (v : ℕ) → A v ≡ true → S v ≡ true
  pub target : (v : ℕ) → T v ≡ true → A v ≡ true
  pub below : (v : ℕ) → A v ≡ true → rank v < bound
  pub picked : (v : ℕ) → A v ≡ true → T v ≡ false → owner_at nodes v ≡ player → HasEdge nodes v (pick v) × (A (pick v) ≡ true)
  pub falls : (v w : ℕ) → A v ≡ true → T v ≡ false → HasEdge nodes v w → S w ≡ true → (owner_at nodes v ≡ player → w ≡ pick v)
      → (A w ≡ true) × (rank w < rank v)

-- a place from which the player cannot draw into A: none of the player's successors is in it,
-- or one of the other's is outside
pub record IsStuck (nodes : List Node) (S : ℕ → Bool) (player : Player) (A : ℕ → Bool) (v : ℕ) : Type 0 where
  pub own : owner_at nodes v ≡ player → (w : ℕ) → HasEdge nodes v w → S w ≡ true → A w ≡ false
  pub free : owner_at nodes v ≡ opponent_of player → (w : ℕ) × HasEdge nodes v w × (S w ≡ true) × (A w ≡ false)

-- a set from which the player draws on into the target, and outside which every place is stuck
pub record Attractor (nodes : List Node) (S T : ℕ → Bool) (player : Player) : Type 0 where
  pub set : ℕ → Bool
  pub rank : ℕ → ℕ
  pub pick : ℕ → ℕ
  pub bound : ℕ
  pub drawn : IsDrawn nodes S T player set rank pick bound
  pub stuck : (v : ℕ) → S v ≡ true → set v ≡ false → IsStuck nodes S player set v

-- a place from which the player draws into A, by going to x if it is the player's
record IsReady (nodes : List Node) (S : ℕ → Bool) (player : Player) (A : ℕ → Bool) (v x : ℕ) : Type 0 where
  picked : owner_at nodes v ≡ player → HasEdge nodes v x × (A x ≡ true)
  drawn : (w : ℕ) → HasEdge nodes v w → S w ≡ true → (owner_at nodes v ≡ player → w ≡ x) → A w ≡ true

-- each place is one or the other
ready_or_stuck : (nodes : List Node) (S : ℕ → Bool) (player : Player) (A : ℕ → Bool) → ((w : ℕ) → A w ≡ true → S w ≡ true) → (v : ℕ)
    → ((x : ℕ) × IsReady nodes S player A v x) ⊎ IsStuck nodes S player A v
ready_or_stuck nodes S player A inside v = go (cases_player (owner_at nodes v) player)
  where
    own : owner_at nodes v ≡ player → ((w : ℕ) × HasEdge nodes v w × (A w ≡ true)) ⊎ ((w : ℕ) → HasEdge nodes v w → A w ≡ false)
        → ((x : ℕ) × IsReady nodes S player A v x) ⊎ IsStuck nodes S player A v
    own owns (inl found) = inl (
      found.0,
      record {
        picked = λ _. (found.1, found.2);
        drawn = λ w edge here only. subst (λ u. A u ≡ true) (sym (only owns)) found.2;
      },
    )
    own owns (inr none) = inr (record {
      own = λ _ w edge here. none w edge;
      free = λ owns_not. absurd (not_both (owner_at nodes v) player owns owns_not);
    })

    free : owner_at nodes v ≡ opponent_of player → ((w : ℕ) × HasEdge nodes v w × (minus S A w ≡ true)) ⊎ ((w : ℕ) → HasEdge nodes v w → minus S A w ≡ false)
        → ((x : ℕ) × IsReady nodes S player A v x) ⊎ IsStuck nodes S player A v
    free owns_not (inl found) = inr (record {
      own = λ owns. absurd (not_both (owner_at nodes v) player owns owns_not);
      free = λ _. (found.0, found.1, (minus_parts S A found.0 found.2).0, (minus_parts S A found.0 found.2).1);
    })
    free owns_not (inr none) = inl (
      v,
      record {
        picked = λ owns. absurd (not_both (owner_at nodes v) player owns owns_not);
        drawn = λ w edge here only. true_from_ne_false (A w) (λ out. false≢true (sym (none w edge) ∙ minus_from S A w here out));
      },
    )

    go : (owner_at nodes v ≡ player) ⊎ (owner_at nodes v ≡ opponent_of player) → ((x : ℕ) × IsReady nodes S player A v x) ⊎ IsStuck nodes S player A v
    go (inl owns) = own owns (sought_in (λ w. A w ≡ true) (λ w. A w ≡ false) (λ w. cases_Bool (A w)) (successors_at nodes v))
    go (inr owns_not) = free owns_not (sought_in (λ w. minus S A w ≡ true) (λ w. minus S A w ≡ false) (λ w. cases_Bool (minus S A w)) (successors_at nodes v))

module _ (nodes : List Node) (S T : ℕ → Bool) (player : Player) (A : ℕ → Bool) (rank pick : ℕ → ℕ) (bound v x : ℕ)
    (drawn : IsDrawn nodes S T player A rank pick bound) (here : S v ≡ true) (out : A v ≡ false) (ready : IsReady nodes S player A v x) where
  -- the set with the place
  abbrev grown : ℕ → Bool
  grown = changed A v true

  -- its ranks: the bound at the place
  abbrev grown_rank : ℕ → ℕ
  grown_rank = changed rank v bound

  -- its choices
  abbrev grown_pick : ℕ → ℕ
  grown_pick = changed pick v x

  -- what was in the set stays in it
  grown_keeps : (u : ℕ) → A u ≡ true → grown u ≡ true
  grown_keeps u old = go (cases_eq u v)
    where
      go : (u ≡ v) ⊎ (u ≡ v → ⊥) → grown u ≡ true
      go (inl e) = changed_at A v true u e
      go (inr apart) = changed_off A v true u apart ∙ old

  -- any other place was in it before
  grown_before : (u : ℕ) → u ≢ v → grown u ≡ true → A u ≡ true
  grown_before u apart now = sym (changed_off A v true u apart) ∙ now

  -- what was there keeps its rank
  old_rank : (u : ℕ) → A u ≡ true → grown_rank u ≡ rank u
  old_rank u old = changed_off rank v bound u (λ e. false≢true (sym out ∙ subst (λ w. A w ≡ true) e old))

  -- the player's choices stay in the grown set
  grown_picked : (u : ℕ) → (u ≡ v) ⊎ (u ≡ v → ⊥) → grown u ≡ true → T u ≡ false → owner_at nodes u ≡ player
      → HasEdge nodes u (grown_pick u) × (grown (grown_pick u) ≡ true)
  grown_picked u (inl e) now aside owns =
      let at = ready.picked (subst (λ w. owner_at nodes w ≡ player) e owns) in
      let edge : HasEdge nodes u x = subst (λ w. HasEdge nodes w x) (sym e) at.0 in
      subst (λ y. HasEdge nodes u y × (grown y ≡ true)) (sym (changed_at pick v x u e)) (edge, grown_keeps x at.1)
  grown_picked u (inr apart) now aside owns =
      let at = drawn.picked u (grown_before u apart now) aside owns in
      subst (λ y. HasEdge nodes u y × (grown y ≡ true)) (sym (changed_off pick v x u apart)) (at.0, grown_keeps (pick u) at.1)

  -- and the ranks fall
  grown_falls : (u w : ℕ) → (u ≡ v) ⊎ (u ≡ v → ⊥) → grown u ≡ true → T u ≡ false → HasEdge nodes u w → S w ≡ true → (owner_at nodes u ≡ player → w ≡ grown_pick u)
      → (grown w ≡ true) × (grown_rank w < grown_rank u)
  grown_falls u w (inl e) now aside edge within only =
      let reached : A w ≡ true = ready.drawn w (subst (λ y. HasEdge nodes y w) e edge) within
      (λ owns. only (subst (λ y. owner_at nodes y ≡ player) (sym e) owns) ∙ changed_at pick v x u e) in
      (grown_keeps w reached, omega (arith, old_rank w reached, changed_at rank v bound u e, drawn.below w reached))
  grown_falls u w (inr apart) now aside edge within only =
      let old : A u ≡ true = grown_before u apart now in
      let next = drawn.falls u w old aside edge within (λ owns. only owns ∙ changed_off pick v x u apart) in
      (grown_keeps w next.0, omega (arith, old_rank w next.0, old_rank u old, next.1))

  -- below the next bound
  grown_below : (u : ℕ) → (u ≡ v) ⊎ (u ≡ v → ⊥) → grown u ≡ true → grown_rank u < suc bound
  grown_below u (inl e) now = omega (arith, changed_at rank v bound u e)
  grown_below u (inr apart) now = omega (arith, changed_off rank v bound u apart, drawn.below u (grown_before u apart now))

  -- within the whole
  grown_inside : (u : ℕ) → (u ≡ v) ⊎ (u ≡ v → ⊥) → grown u ≡ true → S u ≡ true
  grown_inside u (inl e) now = subst (λ w. S w ≡ true) (sym e) here
  grown_inside u (inr apart) now = drawn.inside u (grown_before u apart now)

  -- so the player draws on in the grown set
  drawn_grown : IsDrawn nodes S T player grown grown_rank grown_pick (suc bound)
  drawn_grown = record {
    inside = λ u. grown_inside u (cases_eq u v);
    target = λ u aim. grown_keeps u (drawn.target u aim);
    below = λ u. grown_below u (cases_eq u v);
    picked = λ u. grown_picked u (cases_eq u v);
    falls = λ u w. grown_falls u w (cases_eq u v);
  }

  -- and fewer places are left
  fewer_left : (n : ℕ) → v < n → size (minus S grown) n < size (minus S A) n
  fewer_left n below =
      size_lt (minus S grown) (minus S A) n v
      (λ u left.
      let parts = minus_parts S grown u left in
      minus_from S A u parts.0 (false_from_ne_true (A u) (λ old. false≢true (sym parts.1 ∙ grown_keeps u old))))
      below
      (minus_out S grown v (changed_at A v true v refl))
      (minus_from S A v here out)

module _ (nodes : List Node) (S T : ℕ → Bool) (player : Player) (within : (v : ℕ) → S v ≡ true → v < length nodes) where
  -- a place that can be added to A
  abbrev IsNext : (ℕ → Bool) → ℕ → Type 0
  IsNext A v = (S v ≡ true) × (A v ≡ false) × ((x : ℕ) × IsReady nodes S player A v x)

  -- a place from which the player cannot draw into A, if it is outside A
  abbrev IsDone : (ℕ → Bool) → ℕ → Type 0
  IsDone A v = S v ≡ true → A v ≡ false → IsStuck nodes S player A v

  -- each place is one or the other
  next_or_done : (A : ℕ → Bool) → ((w : ℕ) → A w ≡ true → S w ≡ true) → (v : ℕ) → IsNext A v ⊎ IsDone A v
  next_or_done A inside v = go (cases_Bool (S v)) (cases_Bool (A v)) (ready_or_stuck nodes S player A inside v)
    where
      go : (S v ≡ true) ⊎ (S v ≡ false) → (A v ≡ true) ⊎ (A v ≡ false) → ((x : ℕ) × IsReady nodes S player A v x) ⊎ IsStuck nodes S player A v → IsNext A v ⊎ IsDone A v
      go (inr off) a r = inr (λ here. absurd (false≢true (sym off ∙ here)))
      go (inl here) (inl old) r = inr (λ _ out. absurd (false≢true (sym out ∙ old)))
      go (inl here) (inr out) (inl ready) = inl (here, out, ready)
      go (inl here) (inr out) (inr stuck) = inr (λ _ _. stuck)

  -- some place can be added, or none
  sought_next : (A : ℕ → Bool) → ((w : ℕ) → A w ≡ true → S w ≡ true) → ((v : ℕ) × (v < length nodes) × IsNext A v) ⊎ ((v : ℕ) → v < length nodes → IsDone A v)
  sought_next A inside = sought_below (IsNext A) (IsDone A) (next_or_done A inside) (length nodes)

  -- if none can, the attractor is complete
  complete : (A : ℕ → Bool) (rank pick : ℕ → ℕ) (bound : ℕ) → IsDrawn nodes S T player A rank pick bound
      → ((v : ℕ) → v < length nodes → IsDone A v) → Attractor nodes S T player
  complete A rank pick bound drawn done = record {
    set = A;
    rank = rank;
    pick = pick;
    bound = bound;
    drawn = drawn;
    stuck = λ v here. done v (within v here) here;
  }

  -- if no place is left, none can be added
  none_left : (A : ℕ → Bool) (rank pick : ℕ → ℕ) (bound : ℕ) → IsDrawn nodes S T player A rank pick bound
      → size (minus S A) (length nodes) ≤ 0
      → ((v : ℕ) × (v < length nodes) × IsNext A v) ⊎ ((v : ℕ) → v < length nodes → IsDone A v) → Attractor nodes S T player
  none_left A rank pick bound drawn few (inr done) = complete A rank pick bound drawn done
  none_left A rank pick bound drawn few (inl next) =
      absurd (omega (arith, fewer_left nodes S T player A rank pick bound next.0 next.2.2.0 drawn next.2.0 next.2.1 next.2.2.1 (length nodes) next.1))

  -- one place is added, and the rest with less fuel
  one_further : (fuel : ℕ) (A : ℕ → Bool) (rank pick : ℕ → ℕ) (bound : ℕ) → IsDrawn nodes S T player A rank pick bound
      → size (minus S A) (length nodes) ≤ suc fuel
      → ((B : ℕ → Bool) (rank pick : ℕ → ℕ) (bound : ℕ) → IsDrawn nodes S T player B rank pick bound → size (minus S B) (length nodes) ≤ fuel → Attractor nodes S T player)
      → ((v : ℕ) × (v < length nodes) × IsNext A v) ⊎ ((v : ℕ) → v < length nodes → IsDone A v) → Attractor nodes S T player
  one_further fuel A rank pick bound drawn few again (inr done) = complete A rank pick bound drawn done
  one_further fuel A rank pick bound drawn few again (inl next) =
      let v = next.0 in
      let x = next.2.2.0 in
      again (changed A v true) (changed rank v bound) (changed pick v x) (suc bound)
      (drawn_grown nodes S T player A rank pick bound v x drawn next.2.0 next.2.1 next.2.2.1)
      (omega (arith, fewer_left nodes S T player A rank pick bound v x drawn next.2.0 next.2.1 next.2.2.1 (length nodes) next.1))

  -- the fuel is the number of places left
  attract : (fuel : ℕ) (A : ℕ → Bool) (rank pick : ℕ → ℕ) (bound : ℕ) → IsDrawn nodes S T player A rank pick bound
      → size (minus S A) (length nodes) ≤ fuel → Attractor nodes S T player
  attract zero A rank pick bound drawn few = none_left A rank pick bound drawn few (sought_next A drawn.inside)
  attract (suc fuel) A rank pick bound drawn few = one_further fuel A rank pick bound drawn few (attract fuel) (sought_next A drawn.inside)

  -- the attractor of the player for a part of S
  pub attractor : ((v : ℕ) → T v ≡ true → S v ≡ true) → Attractor nodes S T player
  attractor aimed = attract (size (minus S T) (length nodes)) T (λ _. 0) (λ v. v) 1
      (record {
        inside = aimed;
        target = λ v aim. aim;
        below = λ v aim. omega arith;
        picked = λ v aim aside. absurd (false≢true (sym aside ∙ aim));
        falls = λ v w aim aside. absurd (false≢true (sym aside ∙ aim));
      })
      (omega arith)
