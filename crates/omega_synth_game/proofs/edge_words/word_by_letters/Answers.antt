-- one lane more, whose letter is answered or not
use Rattle.std.proofs.Common.{◌≡◌, ◌+◌, ◌*◌, ◌<◌, ℕ, List, sym, ◌∙◌, subst, arith}
use Rattle.std.proofs.lemmas.Bool.{false≢true}
use Rattle.std.proofs.lemmas.Result.{err_from_is_err_and}
use Rattle.omega_synth_controllers.specs.Controllers.{Answers}
use Rattle.omega_synth_game.specs.Letters.{holds_in, letter_numbered}
use Rattle.omega_synth_game.proofs.EdgesInLanes.{lane_more, lane_same, letter_refused}
use Rattle.omega_synth_game.proofs.edge_words.word_by_letters.Goals as goal
use Rattle.omega_synth_game.proofs.edge_words.word_by_letters.Goals.{then-here, else-here}

pub loop-lane-preserved : goal.loop-lane-preserved
loop-lane-preserved c =
    let a = c.args.automaton.now in
    let lanes = c.args.lanes.now in
    let lane : ℕ = c.loop-lane.lane in
    let low : lane < 64 = omega (arith, c.loop-lane-test.true) in
    let letter : c.as_slice-given.result.now ≡ letter_numbered lanes.inputs.now (lanes.block * 64 + lane) = c.as_slice-given.ensures ∙ c.in_ok-letter.ensures in
    elim c.if-here.branch [
      | then-here w ↦
          rw w.word-is
          (lane_more a lanes.controlled.now lanes.inputs.now lanes.block c.args.number lane c.loop-lane.word low c.loop-lane.invariant
          (subst (λ (l : List ℕ). Answers a lanes.controlled.now c.args.number (holds_in l)) letter (c.in_ok-here.ensures.judged.0 w.if-here.true)))
      | else-here w ↦
          rw w.word-is
          (lane_same a lanes.controlled.now lanes.inputs.now lanes.block c.args.number lane c.loop-lane.word low c.loop-lane.invariant
          (λ answer. false≢true (sym w.if-here.false
          ∙ c.in_ok-here.ensures.judged.1 (subst (λ (l : List ℕ). Answers a lanes.controlled.now c.args.number (holds_in l)) (sym letter) answer))))
    ]

pub returns-in_err-here-clause-refused : goal.returns-in_err-here-clause-refused
returns-in_err-here-clause-refused c =
    let p = err_from_is_err_and c.from_residual-in_err-here.result c.from_residual-in_err-here.ensures.1 in
    rw (p.1, p.2)
    (letter_refused c.args.automaton.now c.args.lanes.now.controlled.now c.as_slice-given.result.now c.args.number c.in_err-here.field-0.0 c.in_err-here.ensures.refused)
