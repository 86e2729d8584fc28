-- A game has one list of leaders, hence one number of components, and one of places in the largest.
use Rattle.std.proofs.Common.{◌≡◌, ℕ, ◌<◌, ◌≤◌, List, length, sym, ap, subst, ◌∙◌, arith}
use Rattle.std.proofs.lemmas.List.{ext_get_or}
use Rattle.omega_game_values.specs.Game.{Node}
use Rattle.omega_answers_game.specs.Components.{AreLeaders, HasComponents, IsLargest, component_count, leader_at}

-- the least places are the same
pub one_list : (nodes : List Node) (leaders leaders' : List ℕ) → AreLeaders nodes leaders → AreLeaders nodes leaders' → leaders ≡ leaders'
one_list nodes leaders leaders' one other =
    ext_get_or 0 leaders leaders' (one.each ∙ sym other.each) (λ v below.
    let inside : v < length nodes = omega (arith, below, one.each) in
    let lower : leader_at leaders v ≤ leader_at leaders' v = one.least v (leader_at leaders' v) (other.connected v inside) in
    let upper : leader_at leaders' v ≤ leader_at leaders v = other.least v (leader_at leaders v) (one.connected v inside) in
    omega (arith, lower, upper))

-- a list has one greatest size
one_largest : (leaders : List ℕ) (largest largest' : ℕ) → IsLargest leaders largest → IsLargest leaders largest' → largest ≡ largest'
one_largest leaders largest largest' one other =
    let lower : largest ≤ largest' = omega (arith, one.size, other.most one.place one.inside) in
    let upper : largest' ≤ largest = omega (arith, other.size, one.most other.place other.inside) in
    omega (arith, lower, upper)

pub unique : (nodes : List Node) (count largest count' largest' : ℕ) → HasComponents nodes count largest → HasComponents nodes count' largest'
    → (count ≡ count') × (largest ≡ largest')
unique nodes count largest count' largest' one other =
    let same : one.leaders ≡ other.leaders = one_list nodes one.leaders other.leaders one.leading other.leading in (
      one.counted ∙ ap component_count same ∙ sym other.counted,
      one_largest other.leaders largest largest' (subst (λ (xs : List ℕ). IsLargest xs largest) same one.greatest) other.greatest,
    )
