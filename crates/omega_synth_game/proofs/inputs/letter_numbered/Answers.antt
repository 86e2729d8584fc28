-- one input more, which holds or not
use Rattle.std.proofs.Common.{◌<◌, ℕ, List, length, get_or, refl, ◌∙◌, arith}
use Rattle.omega_synth_game.proofs.Lettering.{input_fails, input_holds}
use Rattle.omega_synth_game.proofs.inputs.letter_numbered.Goals as goal
use Rattle.omega_synth_game.proofs.inputs.letter_numbered.Goals.{then-digits-eq1+in_ok-push, else-digits-eq1}

pub loop-input-preserved : goal.loop-input-preserved
loop-input-preserved c =
    let inputs : List ℕ = c.args.inputs.now in
    let index : ℕ = c.loop-input.input-index in
    let below : index < length inputs = omega (arith, c.loop-input-test.true) in
    elim c.if-digits-eq1.branch [
      | then-digits-eq1+in_ok-push w ↦
          rw (w.letter-is, w.in_ok-push.ensures.ok)
          (input_holds c.loop-input.letter inputs index (get_or inputs index 0) c.loop-input.digits 0 below refl w.if-digits-eq1.true ∙ c.loop-input.invariant)
      | else-digits-eq1 w ↦
          rw w.letter-is
          (input_fails c.loop-input.letter inputs index (get_or inputs index 0) c.loop-input.digits 0 below refl w.if-digits-eq1.false ∙ c.loop-input.invariant)
    ]
