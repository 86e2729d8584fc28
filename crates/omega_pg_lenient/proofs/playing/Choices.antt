-- Choices without those of dead ends.
use Rattle.std.proofs.Common.{◌≡◌, ℕ, zero, suc, ◌<◌, Option, Some, None, List, [], ◌∷◌, length, refl, ap, arith}
use Rattle.omega_game_values.specs.Game.{Node, successors_at}
use Rattle.omega_game_values.specs.Winning.{Chooses}

-- the choice at a node with these successors, or none if there are none
abbrev kept_by : List ℕ → Option ℕ → Option ℕ
kept_by [] choice = None
kept_by (first ∷ others) choice = choice

-- the choices at nodes with successors
abbrev pub kept : List Node → List (Option ℕ) → List (Option ℕ)
kept [] choices = []
kept (node ∷ nodes) [] = []
kept (node ∷ nodes) (choice ∷ choices) = kept_by node.successors choice ∷ kept nodes choices

pub length_kept : (nodes : List Node) (choices : List (Option ℕ)) → length choices ≡ length nodes → length (kept nodes choices) ≡ length nodes
length_kept [] choices same = refl
length_kept (node ∷ nodes) [] same = absurd (omega (arith, same))
length_kept (node ∷ nodes) (choice ∷ choices) same = ap suc (length_kept nodes choices (omega (arith, same)))

-- a choice that is kept was one, at a node with successors
kept_by-some : (successors : List ℕ) (choice : Option ℕ) (w : ℕ) → Some (kept_by successors choice) ≡ Some (Some w)
    → (Some choice ≡ Some (Some w)) × (0 < length successors)
kept_by-some [] choice w chosen = (let clash : ◌≡◌ {A = Option (Option ℕ)} (Some None) (Some (Some w)) = chosen in cc)
kept_by-some (first ∷ others) choice w chosen = (chosen, omega arith)

pub kept_chosen : (nodes : List Node) (choices : List (Option ℕ)) (v w : ℕ) → Chooses (kept nodes choices) v w
    → Chooses choices v w × (0 < length (successors_at nodes v))
kept_chosen [] choices v w chosen = (let clash : ◌≡◌ {A = Option (Option ℕ)} None (Some (Some w)) = chosen in cc)
kept_chosen (node ∷ nodes) [] v w chosen = (let clash : ◌≡◌ {A = Option (Option ℕ)} None (Some (Some w)) = chosen in cc)
kept_chosen (node ∷ nodes) (choice ∷ choices) zero w chosen = kept_by-some node.successors choice w chosen
kept_chosen (node ∷ nodes) (choice ∷ choices) (suc v) w chosen = kept_chosen nodes choices v w chosen

-- at a node with successors a choice is kept
kept_by-live : (successors : List ℕ) (choice : Option ℕ) → 0 < length successors → kept_by successors choice ≡ choice
kept_by-live [] choice live = absurd (omega (arith, live))
kept_by-live (first ∷ others) choice live = refl

pub chosen_kept : (nodes : List Node) (choices : List (Option ℕ)) (v w : ℕ) → 0 < length (successors_at nodes v) → Chooses choices v w
    → Chooses (kept nodes choices) v w
chosen_kept [] choices v w live chosen = absurd (omega (arith, live))
chosen_kept (node ∷ nodes) [] v w live chosen = (let clash : ◌≡◌ {A = Option (Option ℕ)} None (Some (Some w)) = chosen in cc)
chosen_kept (node ∷ nodes) (choice ∷ choices) zero w live chosen = rw (kept_by-live node.successors choice live) chosen
chosen_kept (node ∷ nodes) (choice ∷ choices) (suc v) w live chosen = chosen_kept nodes choices v w live chosen
