-- The player that has a number.
use Rattle.std.proofs.Common.{◌≡◌, ℕ, ◌≤◌, Some, None, IfSome, refl, sym, subst, arith}
use Rattle.std.specs.Prelude.{◌==◌, if◌then◌else◌}
use Rattle.std.proofs.lemmas.Bool.{cond_both, eqb-true}
use Rattle.omega_game_values.specs.Player.{player_number}
use Rattle.omega_game_values.specs.declared.player.Player.{Player}
use Rattle.omega_game_values.specs.declared.player.Player.TheVariants.{One, Zero}
use Rattle.omega_pg.specs.private.game.reader.Automaton.{player_of}

-- the player of a number has that number
pub player_of-number : (n : ℕ) → IfSome (player_of n) (λ owner. player_number owner ≡ n)
player_of-number n =
    cond_both (n == 0) (Some Zero) (if n == 1 then Some One else None) (λ o. IfSome o (λ owner. player_number owner ≡ n))
    (λ e. sym (eqb-true n 0 e))
    (λ _. cond_both (n == 1) (Some One) None (λ o. IfSome o (λ owner. player_number owner ≡ n)) (λ e. sym (eqb-true n 1 e)) (λ _. tt))

-- the player that has a number is the one with this number
pub found : (player : Player) (n : ℕ) → player_number player ≡ n → player_of n ≡ Some player
found Zero n e = subst (λ m. player_of m ≡ Some Zero) e refl
found One n e = subst (λ m. player_of m ≡ Some One) e refl

-- no player has a number from 2 on
too_great : (player : Player) (n : ℕ) → player_number player ≡ n → 2 ≤ n → ⊥
too_great Zero n e two = (let zero : 0 ≡ n = e in omega arith)
too_great One n e two = (let one : 1 ≡ n = e in omega arith)

pub not_found : (n : ℕ) → 2 ≤ n → player_of n ≡ None
not_found n two =
    elim (player_of n) as (λ o. IfSome o (λ owner. player_number owner ≡ n) → o ≡ None)
    [ None ↦ λ _. refl | Some player ↦ λ e. absurd (too_great player n e two) ]
    (player_of-number n)
