-- `Solution::places_given`: a place that is looked at is listed, or is not given to the player.
use Rattle.std.proofs.Common.{rules, ◌≡◌, ◌+◌, ◌++◌, ◌∷◌, [], ℕ, List, length, slice_index_or, ap, sym, subst, ◌∙◌, arith}
use Rattle.omega_game_values.specs.declared.player.Player.{Player}
use Rattle.omega_game_values.specs.declared.player.Player.TheVariants.{Zero}
use Rattle.std.proofs.lemmas.Bool.{false≢true}
use Rattle.omega_game_values.proofs.solutions.Given.{AreGivenBefore, given-listed, given-none, given-passed}
use Rattle.omega_game_values.proofs.solution.Solution.places_given.Goals as goal
use Rattle.omega_game_values.proofs.solution.Solution.places_given.Goals.{then-is_same+in_ok-push, else-is_same}

pub loop-place-init : goal.loop-place-init
loop-place-init c =
    subst (AreGivenBefore c.args.self.now.winners c.args.player 0) (sym c.new-places.ensures.items)
    (given-none c.args.self.now.winners c.args.player)

pub loop-place-preserved : goal.loop-place-preserved
loop-place-preserved c =
    let winner : slice_index_or c.args.self.now.winners c.loop-place.place Zero ≡ slice_index_or c.as_slice-winners.result.now c.loop-place.place Zero =
    ap (λ (winners : List Player). slice_index_or winners c.loop-place.place Zero) (sym c.as_slice-winners.ensures) in
    elim c.if-is_same.branch [
      | then-is_same+in_ok-push w ↦
          let items : c.if-is_same.places.items ≡ c.loop-place.places.items ++ c.loop-place.place ∷ [] = search rules in
          subst (λ (places : List ℕ). AreGivenBefore c.args.self.now.winners c.args.player (c.loop-place.place + 1) places) (sym items)
          (given-listed _ _ _ _ c.loop-place.invariant (winner ∙ c.is_same.ensures.0 w.if-is_same.true))
      | else-is_same w ↦
          let items : c.if-is_same.places.items ≡ c.loop-place.places.items = search rules in
          subst (λ (places : List ℕ). AreGivenBefore c.args.self.now.winners c.args.player (c.loop-place.place + 1) places) (sym items)
          (given-passed _ _ _ _ c.loop-place.invariant (λ given. false≢true (sym w.if-is_same.false ∙ c.is_same.ensures.1 (sym winner ∙ given))))
    ]

pub returns : goal.returns
returns c =
    let end : c.loop-place.place ≡ length c.args.self.now.winners =
    omega (arith, c.loop-place.auto.place-end, c.loop-place-test.false, ap length c.as_slice-winners.ensures) in
    let before : AreGivenBefore c.args.self.now.winners c.args.player (length c.args.self.now.winners) c.loop-place.places.items =
    subst (λ (end : ℕ). AreGivenBefore c.args.self.now.winners c.args.player end c.loop-place.places.items) end c.loop-place.invariant in
    record { given = record { rising = before.rising; given = before.given } }
