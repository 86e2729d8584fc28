-- Which places steps lead to, and a test of it.
use Rattle.std.proofs.Common.{◌≡◌, ◌≢◌, ℕ, zero, suc, ◌<◌, ◌≤◌, eqb, leb, ◌&&◌, ◌||◌, Bool, true, false, Decides, Option, None, Some, List, [], ◌∷◌, ◌++◌, length, slice_get, Contains, ◌⊎◌, inl, inr, refl, sym, ap, ◌∙◌, subst, arith}
use Rattle.std.proofs.lemmas.Bool.{cases_eq, cases_lt, leb-true, le-leb}
use Rattle.std.proofs.lemmas.Bool.Decides.{Decides-and, Decides-or, Decides-eqb, Decides-by_or}
use Rattle.std.proofs.lemmas.List.{get_or_past}
use Rattle.std.proofs.lemmas.List.Elements.{Decides-contains}
use Rattle.omega_game_values.specs.declared.player.Player.{Player}
use Rattle.omega_game_values.specs.Game.{Node, IsGame, HasEdge, no_node, priority_at, successors_at}
use Rattle.omega_game_values.specs.Winning.{Chooses, IsStrategy, IsWalk, Leaves, end_of, greatest_on}

-- steps lead from a to b by way of places below k alone
abbrev pub Joined : (ℕ → ℕ → Type 0) → ℕ → ℕ → ℕ → Type 0
Joined S zero a b = S a b
Joined S (suc k) a b = Joined S k a b ⊎ (Joined S k a k × Joined S k k b)

-- whether they do, by a test of a step
abbrev pub joined : (ℕ → ℕ → Bool) → ℕ → ℕ → ℕ → Bool
joined t zero a b = t a b
joined t (suc k) a b = joined t k a b || (joined t k a k && joined t k k b)

pub Decides-joined :
    (t : ℕ → ℕ → Bool) (S : ℕ → ℕ → Type 0) → ((a b : ℕ) → Decides (t a b) (S a b))
    → (k a b : ℕ) → Decides (joined t k a b) (Joined S k a b)
Decides-joined t S d zero a b = d a b
Decides-joined t S d (suc k) a b =
    Decides-or (joined t k a b) (joined t k a k && joined t k k b) (Decides-joined t S d k a b)
    (Decides-and (joined t k a k) (joined t k k b) (Decides-joined t S d k a k) (Decides-joined t S d k k b))

-- a step alone
pub joined_by_step : (S : ℕ → ℕ → Type 0) (k a b : ℕ) → S a b → Joined S k a b
joined_by_step S zero a b h = h
joined_by_step S (suc k) a b h = inl (joined_by_step S k a b h)

-- and by way of any place below k
pub joined_by : (S : ℕ → ℕ → Type 0) (k m a b : ℕ) → m < k → Joined S k a m → Joined S k m b → Joined S k a b
joined_by S zero m a b lt h j = absurd (omega arith)
joined_by S (suc k) m a b lt h j =
    go (cases_eq m k) h j (λ n. joined_by S k m a b (omega arith)) (λ n. joined_by S k m a k (omega arith)) (λ n. joined_by S k m k b (omega arith))
  where
    to_last : Joined S (suc k) a k → Joined S k a k
    to_last (inl i) = i
    to_last (inr i) = i.0

    from_last : Joined S (suc k) k b → Joined S k k b
    from_last (inl i) = i
    from_last (inr i) = i.1

    go :
        (m ≡ k) ⊎ (m ≡ k → ⊥) → Joined S (suc k) a m → Joined S (suc k) m b
        → (m ≢ k → Joined S k a m → Joined S k m b → Joined S k a b)
        → (m ≢ k → Joined S k a m → Joined S k m k → Joined S k a k)
        → (m ≢ k → Joined S k k m → Joined S k m b → Joined S k k b)
        → Joined S (suc k) a b
    go (inl e) h j f g i = inr (to_last (subst (λ u. Joined S (suc k) a u) e h), from_last (subst (λ u. Joined S (suc k) u b) e j))
    go (inr n) (inl x) (inl y) f g i = inl (f n x y)
    go (inr n) (inl x) (inr y) f g i = inr (g n x y.0, y.1)
    go (inr n) (inr x) (inl y) f g i = inr (x.0, i n x.1 y)
    go (inr n) (inr x) (inr y) f g i = inr (x.0, y.1)

-- what holds of steps, and of two if it holds of each, holds of all that is joined
pub joined_by_induction :
    (S P : ℕ → ℕ → Type 0) → ((a b : ℕ) → S a b → P a b) → ((a m b : ℕ) → P a m → P m b → P a b)
    → (k a b : ℕ) → Joined S k a b → P a b
joined_by_induction S P base both zero a b h = base a b h
joined_by_induction S P base both (suc k) a b (inl h) = joined_by_induction S P base both k a b h
joined_by_induction S P base both (suc k) a b (inr h) =
    both a k b (joined_by_induction S P base both k a k h.0) (joined_by_induction S P base both k k b h.1)

-- whether a number is in a list
abbrev pub is_listed : List ℕ → ℕ → Bool
is_listed [] w = false
is_listed (u ∷ us) w = eqb u w || is_listed us w

Decides-is_listed : (us : List ℕ) (w : ℕ) → Decides (is_listed us w) (Contains us w)
Decides-is_listed us w =
    Decides-contains us w (is_listed us w)
    (Decides-by_or (λ u. eqb u w) (λ u. u ≡ w) (λ us. is_listed us w) (λ u. Decides-eqb u w) refl (λ _ _. refl) us)

-- whether an entry of a strategy permits w: it is no other choice
abbrev pub permits : Option (Option ℕ) → ℕ → Bool
permits None w = true
permits (Some None) w = true
permits (Some (Some c)) w = eqb w c

-- whether a strategy leaves the edge from v to w possible
abbrev pub is_left : List Node → List (Option ℕ) → ℕ → ℕ → Bool
is_left nodes choices v w = is_listed (successors_at nodes v) w && permits (slice_get choices v) w

Decides-permits : (o : Option (Option ℕ)) (w : ℕ) → Decides (permits o w) ((c : ℕ) → o ≡ Some (Some c) → w ≡ c)
Decides-permits None w = (λ _ c e. absurd (cc), λ _. refl)
Decides-permits (Some None) w = (λ _ c e. absurd (cc), λ _. refl)
Decides-permits (Some (Some d)) w = (to, from)
  where
    to : eqb w d ≡ true → (c : ℕ) → Some (Some d) ≡ Some (Some c) → w ≡ c
    to t c e = let same = (Decides-eqb w d).0 t in cc

    from : ((c : ℕ) → Some (Some d) ≡ Some (Some c) → w ≡ c) → eqb w d ≡ true
    from f = (Decides-eqb w d).1 (f d refl)

pub Decides-is_left :
    (nodes : List Node) (player : Player) (choices : List (Option ℕ)) → IsStrategy nodes player choices
    → (v w : ℕ) → Decides (is_left nodes choices v w) (Leaves nodes player choices v w)
Decides-is_left nodes player choices strategy v w = (λ t. to (both.0 t), λ l. both.1 (l.listed, λ c h. l.chosen (strategy.owned v c h) c h))
  where
    both : Decides (is_left nodes choices v w) (HasEdge nodes v w × ((c : ℕ) → Chooses choices v c → w ≡ c))
    both =
        Decides-and (is_listed (successors_at nodes v) w) (permits (slice_get choices v) w)
        (Decides-is_listed (successors_at nodes v) w) (Decides-permits (slice_get choices v) w)

    to : HasEdge nodes v w × ((c : ℕ) → Chooses choices v c → w ≡ c) → Leaves nodes player choices v w
    to h = record { listed = h.0; chosen = λ o c chooses. h.1 c chooses }

-- a place with a successor is one of the game
pub place_with_edge : (nodes : List Node) (v w : ℕ) → HasEdge nodes v w → v < length nodes
place_with_edge nodes v w h = go (cases_lt v (length nodes))
  where
    go : (v < length nodes) ⊎ (length nodes ≤ v) → v < length nodes
    go (inl lt) = lt
    go (inr le) =
        let none : length (successors_at nodes v) ≡ 0 = ap (λ node. length node.successors) (get_or_past nodes v no_node le) in
        absurd (omega (arith, h.1))

-- a walk on from the end of a walk
pub walk-append :
    (nodes : List Node) (player : Player) (choices : List (Option ℕ)) (v : ℕ) (ws us : List ℕ)
    → IsWalk nodes player choices v ws → IsWalk nodes player choices (end_of v ws) us → IsWalk nodes player choices v (ws ++ us)
walk-append nodes player choices v [] us h k = k
walk-append nodes player choices v (w ∷ ws) us h k = (h.0, walk-append nodes player choices w ws us h.1 k)

pub end_of-append : (v : ℕ) (ws us : List ℕ) → end_of v (ws ++ us) ≡ end_of (end_of v ws) us
end_of-append v [] us = refl
end_of-append v (w ∷ ws) us = end_of-append w ws us

greatest_on-append :
    (nodes : List Node) (q v : ℕ) (ws us : List ℕ) → greatest_on nodes v ws ≤ q
    → greatest_on nodes (end_of v ws) us ≤ q → greatest_on nodes v (ws ++ us) ≤ q
greatest_on-append nodes q v [] us h k = k
greatest_on-append nodes q v (w ∷ ws) us h k = let rest = greatest_on-append nodes q w ws us (omega arith) k in omega arith

-- the last place of a walk is one of the game
pub end_within :
    (nodes : List Node) (player : Player) (choices : List (Option ℕ)) (v : ℕ) (ws : List ℕ)
    → IsWalk nodes player choices v ws → end_of v ws < length nodes
end_within nodes player choices v [] h = h
end_within nodes player choices v (w ∷ ws) h = end_within nodes player choices w ws h.1

-- a step within priorities at most q: to the place itself, or along an edge left possible
pub record StepsWithin (nodes : List Node) (player : Player) (choices : List (Option ℕ)) (q a b : ℕ) : Type 0 where
  pub first : priority_at nodes a ≤ q
  pub second : priority_at nodes b ≤ q
  pub step : (a ≡ b) ⊎ Leaves nodes player choices a b

abbrev pub steps_within : List Node → List (Option ℕ) → ℕ → ℕ → ℕ → Bool
steps_within nodes choices q a b = (leb (priority_at nodes a) q && leb (priority_at nodes b) q) && (eqb a b || is_left nodes choices a b)

Decides-leb : (a b : ℕ) → Decides (leb a b) (a ≤ b)
Decides-leb a b = (leb-true a b, le-leb a b)

pub Decides-steps_within :
    (nodes : List Node) (player : Player) (choices : List (Option ℕ)) → IsStrategy nodes player choices
    → (q a b : ℕ) → Decides (steps_within nodes choices q a b) (StepsWithin nodes player choices q a b)
Decides-steps_within nodes player choices strategy q a b =
    (λ t. let h = all.0 t in record { first = h.0.0; second = h.0.1; step = h.1 }, λ h. all.1 ((h.first, h.second), h.step))
  where
    all :
        Decides (steps_within nodes choices q a b) (((priority_at nodes a ≤ q) × (priority_at nodes b ≤ q)) × ((a ≡ b) ⊎ Leaves nodes player choices a b))
    all =
        Decides-and (leb (priority_at nodes a) q && leb (priority_at nodes b) q) (eqb a b || is_left nodes choices a b)
        (Decides-and (leb (priority_at nodes a) q) (leb (priority_at nodes b) q) (Decides-leb (priority_at nodes a) q) (Decides-leb (priority_at nodes b) q))
        (Decides-or (eqb a b) (is_left nodes choices a b) (Decides-eqb a b) (Decides-is_left nodes player choices strategy a b))

-- a walk from a to b whose priorities are at most q
pub record WalksWithin (nodes : List Node) (player : Player) (choices : List (Option ℕ)) (q a b : ℕ) : Type 0 where
  pub walk : List ℕ
  pub left : IsWalk nodes player choices a walk
  pub ends : end_of a walk ≡ b
  pub bounded : greatest_on nodes a walk ≤ q

-- what is joined by such steps is joined by such a walk
pub walk_from_joined :
    (nodes : List Node) (player : Player) (choices : List (Option ℕ)) → IsGame nodes
    → (q k a b : ℕ) → Joined (StepsWithin nodes player choices q) k a b → a < length nodes → WalksWithin nodes player choices q a b
walk_from_joined nodes player choices game q k a b h =
    joined_by_induction (StepsWithin nodes player choices q) (λ a b. a < length nodes → WalksWithin nodes player choices q a b) base both k a b h
  where
    base : (a b : ℕ) → StepsWithin nodes player choices q a b → a < length nodes → WalksWithin nodes player choices q a b
    base a b s lt = go s.step
      where
        go : (a ≡ b) ⊎ Leaves nodes player choices a b → WalksWithin nodes player choices q a b
        go (inl e) = record { walk = []; left = lt; ends = e; bounded = s.first }
        go (inr l) = record { walk = b ∷ []; left = (l, game.closed a b l.listed); ends = refl; bounded = omega (arith, s.first, s.second) }

    both :
        (a m b : ℕ) → (a < length nodes → WalksWithin nodes player choices q a m) → (m < length nodes → WalksWithin nodes player choices q m b)
        → a < length nodes → WalksWithin nodes player choices q a b
    both a m b f g lt = record {
      walk = there.walk ++ on.walk;
      left = walk-append nodes player choices a there.walk on.walk there.left (subst (λ u. IsWalk nodes player choices u on.walk) (sym there.ends) on.left);
      ends = end_of-append a there.walk on.walk ∙ (ap (λ u. end_of u on.walk) there.ends ∙ on.ends);
      bounded = greatest_on-append nodes q a there.walk on.walk there.bounded (subst (λ u. greatest_on nodes u on.walk ≤ q) (sym there.ends) on.bounded);
    }
      where
        there : WalksWithin nodes player choices q a m
        there = f lt

        on : WalksWithin nodes player choices q m b
        on = g (subst (λ u. u < length nodes) there.ends (end_within nodes player choices a there.walk there.left))

-- the first of two that are joined has a priority at most q
pub first_of_joined :
    (nodes : List Node) (player : Player) (choices : List (Option ℕ)) (q k a b : ℕ)
    → Joined (StepsWithin nodes player choices q) k a b → priority_at nodes a ≤ q
first_of_joined nodes player choices q k a b h =
    joined_by_induction (StepsWithin nodes player choices q) (λ a b. priority_at nodes a ≤ q) (λ a b s. s.first) (λ a m b f g. f) k a b h
