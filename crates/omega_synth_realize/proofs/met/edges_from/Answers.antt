-- each edge answers a question, so it is one of the rounds
use Rattle.std.proofs.Common.{ℕ, List, length, get_or, ap, arith}
use Rattle.std.proofs.lemmas.List.Elements.{Contains-get_or}
use Rattle.omega_synth_rounds.specs.Rounds.{IsAnswer}
use Rattle.omega_synth_realize.proofs.MetEdges.{answer_below}
use Rattle.omega_synth_realize.proofs.met.edges_from.Goals as goal

pub bounds-as_slice-number : goal.bounds-as_slice-number
bounds-as_slice-number c =
    let numbers : List ℕ = c.args.numbers.now in
    let number : ℕ = get_or numbers c.loop-number.number-index 0 in
    let answer : IsAnswer c.args.rounds.now number = c.requires.answers number (Contains-get_or numbers c.loop-number.number-index 0 c.loop-number-test.true) in
    omega (arith, ap length c.as_slice.ensures, answer_below c.args.rounds.now c.requires.rounds number answer)
