-- one of the texts is refused, or what is answered or refused is that of the automata of both
use Rattle.std.proofs.lemmas.Result.{IfErr-weaker, IfOk-weaker}
use Rattle.omega_answers.proofs.TwoTexts.{both_refused, of_automata}
use Rattle.omega_answers_inclusion.specs.Equal.{IsEqualityRefused, IsEqualityVerdict}
use Rattle.omega_answers_inclusion.proofs.equal.equal_texts.Goals as goal

pub returns-clause-answer : goal.returns-clause-answer
returns-clause-answer c =
    IfOk-weaker c.equality_verdict.result _ _
    (λ made verdict. of_automata c.args.file.now c.args.input.now c.in_ok-read.read.file c.in_ok-read.read.input
    c.in_ok-read.ensures.file c.in_ok-read.ensures.input
    (λ second first. IsEqualityVerdict first second c.args.explain made.0 made.1.items) verdict)
    c.equality_verdict.ensures.verdict

pub returns-clause-refused : goal.returns-clause-refused
returns-clause-refused c =
    IfErr-weaker c.equality_verdict.result _ _
    (both_refused c.args.file.now c.args.input.now c.in_ok-read.read.file c.in_ok-read.read.input
    c.in_ok-read.ensures.file c.in_ok-read.ensures.input (λ second first. IsEqualityRefused first second))
    c.equality_verdict.ensures.refused
