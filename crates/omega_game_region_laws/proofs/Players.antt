-- The two players: each is the other's other, and each priority favours one.
use Rattle.std.proofs.Common.{◌≡◌, ℕ, ◌%◌, ◌⊎◌, inl, inr, Bool, true, false, IsTrue, refl, sym, ◌∙◌, arith, eqb-true, eq-eqb}
use Rattle.std.proofs.lemmas.Bool.{cases_eq}
use Rattle.omega_game_values.specs.declared.player.Player.{Player}
use Rattle.omega_game_values.specs.declared.player.Player.TheVariants.{Zero, One}
use Rattle.omega_game_values.specs.Player.{loses, opponent_of}

-- the other of the other
pub opponent_twice : (i : Player) → opponent_of (opponent_of i) ≡ i
opponent_twice Zero = refl
opponent_twice One = refl

-- a player is a given one or the other
pub cases_player : (p i : Player) → (p ≡ i) ⊎ (p ≡ opponent_of i)
cases_player Zero Zero = inl refl
cases_player Zero One = inr refl
cases_player One Zero = inr refl
cases_player One One = inl refl

-- no player is the other
pub apart_from_opponent : (i : Player) → i ≡ opponent_of i → ⊥
apart_from_opponent Zero e = absurd (cc)
apart_from_opponent One e = absurd (cc)

-- no player is both
pub not_both : (p i : Player) → p ≡ i → p ≡ opponent_of i → ⊥
not_both p i e f = apart_from_opponent i (sym e ∙ f)

-- whether the two are one player
abbrev pub is_player : Player → Player → Bool
is_player Zero Zero = true
is_player Zero One = false
is_player One Zero = false
is_player One One = true

-- the test says which
pub is_player-true : (p i : Player) → is_player p i ≡ true → p ≡ i
is_player-true Zero Zero e = refl
is_player-true Zero One e = absurd (cc)
is_player-true One Zero e = absurd (cc)
is_player-true One One e = refl

-- it passes for one player
pub is_player-same : (i : Player) → is_player i i ≡ true
is_player-same Zero = refl
is_player-same One = refl

-- every priority loses for one of the players
pub loses_for_one : (q : ℕ) → IsTrue (loses Zero q) ⊎ IsTrue (loses One q)
loses_for_one q = go (cases_eq (q % 2) 1)
  where
    go : (q % 2 ≡ 1) ⊎ (q % 2 ≡ 1 → ⊥) → IsTrue (loses Zero q) ⊎ IsTrue (loses One q)
    go (inl odd) = inl (eq-eqb _ _ odd)
    go (inr even) = inr (eq-eqb _ _ (omega arith))

-- each priority does not lose for one of the players
pub favoured : (q : ℕ) → (i : Player) × (IsTrue (loses i q) → ⊥)
favoured q = go (cases_eq (q % 2) 1)
  where
    go : (q % 2 ≡ 1) ⊎ (q % 2 ≡ 1 → ⊥) → (i : Player) × (IsTrue (loses i q) → ⊥)
    go (inl odd) = (One, λ lost. let even : q % 2 ≡ 0 = eqb-true _ _ lost in omega arith)
    go (inr even) = (Zero, λ lost. even (eqb-true _ _ lost))
