-- The buffers of an answer, filled from place to place.
use Rattle.std.proofs.Common.{◌≡◌, ◌≢◌, ◌↔◌, ℕ, ◌+◌, ◌<◌, Bool, true, false, not, List, [], ◌∷◌, ◌++◌, Option, Some, None, IsTrue, length, take, set, get_or, refl, sym, ap, ◌∙◌, arith, inl, inr}
use Rattle.std.specs.List.{slice_get}
use Rattle.std.specs.Option.{IsSome, is_some}
use Rattle.std.proofs.lemmas.Bool.{cases_eq, false≢true}
use Rattle.std.proofs.lemmas.List.{get_or-map, length-map, take_more, take_more_set}
use Rattle.omega_game_values.specs.declared.player.Player.{Player}
use Rattle.omega_game_values.specs.Game.{Node, owner_at}
use Rattle.omega_game_values.specs.Winning.{Chooses}
use Rattle.omega_lift_laws.specs.Measure.{Measure}
use Rattle.omega_lift_laws.specs.Allowance.{measure_at}
use Rattle.omega_lift_laws.specs.Answer.{AreChoices, IsFirstLeast, won_in}
use Rattle.omega_lift_schedules.proofs.Flags.{slice_get-set_other, slice_get-set_same}
use Rattle.omega_solve.specs.private.solving.Successor.{IsChoiceAt}

-- a place is won if its measure is not top
won_at : (b : Bool) (x : Measure) → (IsTrue b ↔ (x ≡ None)) → not b ≡ is_some x
won_at true None h = refl
won_at true (Some xs) h = absurd (let e = h.0 refl in cc)
won_at false None h = absurd (false≢true (h.1 refl))
won_at false (Some xs) h = refl

-- the places won are right up to one place more
pub won_more : (table : List Measure) (won : List Bool) (p : ℕ) (b : Bool) → p < length won → p < length table
    → take p won ≡ take p (won_in table) → (IsTrue b ↔ (measure_at table p ≡ None))
    → take (p + 1) (set won p (not b)) ≡ take (p + 1) (won_in table)
won_more table won p b in_won in_table so_far top =
    let in_all : p < length (won_in table) = omega (arith, length-map table (λ (x : Measure). is_some x)) in
    let here : not b ≡ get_or (won_in table) p false =
    won_at b (measure_at table p) top ∙ sym (get_or-map (λ (x : Measure). is_some x) table p None false in_table) in
    take_more_set won p (not b) in_won
    ∙ (ap (λ (front : List Bool). front ++ not b ∷ []) so_far
    ∙ (ap (λ (y : Bool). take p (won_in table) ++ y ∷ []) here
    ∙ sym (take_more (won_in table) p false in_all)))

-- the choices are right up to one place more
pub choice_more : (nodes : List Node) (player : Player) (table : List Measure) (choices : List (Option ℕ)) (p : ℕ) (choice : Option ℕ)
    → p < length choices
    → ((v : ℕ) → v < p → (c : Option ℕ) × (slice_get choices v ≡ Some c) × IsChoiceAt nodes player table v c)
    → IsChoiceAt nodes player table p choice
    → (v : ℕ) → v < p + 1 → (c : Option ℕ) × (slice_get (set choices p choice) v ≡ Some c) × IsChoiceAt nodes player table v c
choice_more nodes player table choices p choice inside so_far here v lt = elim (cases_eq v p) [
  | inl e ↦ (choice, rw e (slice_get-set_same choices p choice inside), rw e here)
  | inr ne ↦
      let at = so_far v (omega arith) in
      (at.0, slice_get-set_other choices p v choice ne ∙ at.1, at.2)
]

chosen_at : (nodes : List Node) (player : Player) (table : List Measure) (choices : List (Option ℕ)) (v : ℕ) (c : Option ℕ)
    → slice_get choices v ≡ Some c → IsChoiceAt nodes player table v c → owner_at nodes v ≡ player → IsSome (measure_at table v)
    → (w : ℕ) × Chooses choices v w × IsFirstLeast nodes player table v w
chosen_at nodes player table choices v None at is own won = absurd (let top = is own in false≢true (rw top at won))
chosen_at nodes player table choices v (Some w) at is own won = (w, at, is.2)

others_at : (nodes : List Node) (player : Player) (table : List Measure) (choices : List (Option ℕ)) (v : ℕ) (c : Option ℕ)
    → slice_get choices v ≡ Some c → IsChoiceAt nodes player table v c → owner_at nodes v ≢ player → slice_get choices v ≡ Some None
others_at nodes player table choices v None at is other = at
others_at nodes player table choices v (Some w) at is other = absurd (other is.0)

lost_at : (nodes : List Node) (player : Player) (table : List Measure) (choices : List (Option ℕ)) (v : ℕ) (c : Option ℕ)
    → slice_get choices v ≡ Some c → IsChoiceAt nodes player table v c → measure_at table v ≡ None → slice_get choices v ≡ Some None
lost_at nodes player table choices v None at is top = at
lost_at nodes player table choices v (Some w) at is top = absurd (let won = is.1 in false≢true (rw top at won))

-- choices that are right at each place are those of the answer
pub are_choices : (nodes : List Node) (player : Player) (table : List Measure) (choices : List (Option ℕ)) → length choices ≡ length nodes
    → ((v : ℕ) → v < length nodes → (c : Option ℕ) × (slice_get choices v ≡ Some c) × IsChoiceAt nodes player table v c)
    → AreChoices nodes player table choices
are_choices nodes player table choices entries each = record {
  entries = entries;
  chosen = λ v lt own won. let at = each v lt in chosen_at nodes player table choices v at.0 at.1 at.2 own won;
  others = λ v lt other. let at = each v lt in others_at nodes player table choices v at.0 at.1 at.2 other;
  lost = λ v lt top. let at = each v lt in lost_at nodes player table choices v at.0 at.1 at.2 top;
}
