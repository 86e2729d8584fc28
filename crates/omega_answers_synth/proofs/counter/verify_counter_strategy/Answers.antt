-- one of the texts is refused, or what is answered or refused is that of the automata of both
use Rattle.std.proofs.lemmas.Result.{IfErr-weaker, IfOk-weaker}
use Rattle.omega_answers.proofs.TwoTexts.{both_refused, of_automata}
use Rattle.omega_answers_synth.specs.Counter.{IsCounterVerdict, RefusesCounter}
use Rattle.omega_answers_synth.proofs.counter.verify_counter_strategy.Goals as goal

pub returns-clause-answer : goal.returns-clause-answer
returns-clause-answer c =
    IfOk-weaker c.counter_verdict.result _ _
    (λ made verdict. of_automata c.args.specification.now c.args.text.now c.in_ok-read.read.file c.in_ok-read.read.input
    c.in_ok-read.ensures.file c.in_ok-read.ensures.input
    (λ specification strategy. IsCounterVerdict specification strategy c.args.explain made.0 made.1.items) verdict)
    c.counter_verdict.ensures.verdict

pub returns-clause-refused : goal.returns-clause-refused
returns-clause-refused c =
    IfErr-weaker c.counter_verdict.result _ _
    (both_refused c.args.specification.now c.args.text.now c.in_ok-read.read.file c.in_ok-read.read.input
    c.in_ok-read.ensures.file c.in_ok-read.ensures.input RefusesCounter)
    c.counter_verdict.ensures.refused
