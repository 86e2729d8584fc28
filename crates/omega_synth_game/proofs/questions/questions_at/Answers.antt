-- one question more
use Rattle.std.proofs.Common.{◌≡◌, ◌<◌, [], ℕ, List, length, get_or, take, ◌∙◌, arith}
use Rattle.std.proofs.lemmas.List.{get_or_read, map_push, take_more}
use Rattle.omega_synth_game.specs.private.Firsts.{list_at}
use Rattle.omega_synth_game.specs.Letters.{letter_numbered}
use Rattle.omega_synth_game.proofs.questions.questions_at.Goals as goal

pub loop-first-preserved : goal.loop-first-preserved
loop-first-preserved c =
    let inputs : List ℕ = c.args.inputs.now in
    let answers : List (List ℕ) = c.args.answers.now in
    let firsts : List ℕ = c.args.firsts.now in
    let index : ℕ = c.loop-first.first-index in
    let below : index < length firsts = omega (arith, c.loop-first-test.true) in
    let first : ℕ = get_or firsts index 0 in
    let more = take_more firsts index 0 below in
    let listed : c.as_slice.result.now ≡ list_at answers first =
    c.as_slice.ensures ∙ get_or_read answers first c.index-answers-first.result (c.requires index 0 below) c.index-answers-first.is [] in (
      cc (c.in_ok-push.ensures.items, c.loop-first.invariant.0, c.in_ok-letter.ensures, more, map_push (letter_numbered inputs) (take index firsts) first),
      cc (c.in_ok-push-2.ensures.items, c.loop-first.invariant.1, c.in_ok-listed.ensures, listed, more, map_push (list_at answers) (take index firsts) first),
    )
