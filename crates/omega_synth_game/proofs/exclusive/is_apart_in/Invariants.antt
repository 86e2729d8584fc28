-- the labels so far are apart, and what they have is seen
use Rattle.std.proofs.Common.{◌≡◌, ℕ, ◌<◌, true}
use Rattle.omega_hoa_label.specs.Label.{LabelTree}
use Rattle.omega_synth_game.specs.private.Exclusive.{AreApartIn, HasLabelAt, block_word}
use Rattle.omega_synth_game.specs.private.Lanes.{is_set}
use Rattle.omega_synth_game.proofs.exclusive.is_apart_in.Given as goal

abbrev pub invariant-loop-at : goal.invariant-loop-at
invariant-loop-at l =
    AreApartIn l.mentioned l.block l.state l.at
    × ((at lane : ℕ) (one : LabelTree) → at < l.at → HasLabelAt l.state at one
    → is_set (block_word l.mentioned l.block one) lane ≡ true → is_set l.seen lane ≡ true)
