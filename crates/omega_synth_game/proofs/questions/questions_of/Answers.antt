-- the first letter of each class
use Rattle.std.proofs.Common.{◌≤◌, ◌^◌, length, ap, arith}
use Rattle.std.proofs.Math.Pow.{pow_mono}
use Rattle.omega_synth_game.proofs.Asking.{all_below, on_ok_of, questions_held}
use Rattle.omega_synth_game.proofs.questions.questions_of.Goals as goal

pub first_places-requires : goal.first_places-requires
first_places-requires c =
    let few : length c.as_slice-inputs.result.now ≤ 12 = omega (arith, ap length c.as_slice-inputs.ensures, c.in_ok-mentioned.ensures.few) in
    let low : 2 ^ length c.as_slice-inputs.result.now ≤ 2 ^ 12 = pow_mono few in
    omega (arith, low, ap length c.as_slice-answers.ensures.value, c.in_ok-listed.ensures.answers.entries)

pub questions_at-requires : goal.questions_at-requires
questions_at-requires c =
    all_below c.as_slice-answers.result.now c.in_ok-firsts.firsts.items c.as_slice.result.now c.as_slice.ensures.value c.in_ok-firsts.ensures.firsts

pub returns-clause-questions : goal.returns-clause-questions
returns-clause-questions c =
    questions_held c.edges_are_taken_where_true.ensures c.args.automaton.now c.args.controlled.now c.args.numbers.now c.in_ok-mentioned.mentioned c.in_ok-mentioned.ensures.inputs
    c.as_slice-inputs.result.now c.as_slice-inputs.ensures c.in_ok-listed.listed.items c.as_slice-answers.result.now c.as_slice-answers.ensures.value c.in_ok-listed.ensures.answers
    c.in_ok-firsts.firsts.items c.as_slice.result.now c.as_slice.ensures.value c.in_ok-firsts.ensures.firsts c.questions_at.result c.questions_at.ensures.letters c.questions_at.ensures.answers

pub returns-clause-few : goal.returns-clause-few
returns-clause-few c =
    on_ok_of c.questions_at.result _ (omega (arith, c.in_ok-mentioned.ensures.few, ap length c.in_ok-mentioned.ensures.inputs))
