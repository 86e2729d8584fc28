-- the first literal, and the others after it
use Rattle.std.proofs.Common.{arith}
use Rattle.std.proofs.lemmas.Result.{on_ok_weaker}
use Rattle.omega_answers_synth.proofs.Literals.{letter_begun}
use Rattle.omega_answers_synth.proofs.letter.write_literals.Goals as goal

pub returns-clause-text : goal.returns-clause-text
returns-clause-text c =
    on_ok_weaker c.write_others.result
    (λ then. letter_begun c.args.names.now c.args.letter.now c.args.inputs.now c.is_listed.result c.args.out.now.items c.write_literal.new.out.items c.write_others.new.out.items
    (omega (arith, c.in-len1-up.len_at_least)) c.is_listed.ensures c.in_ok-write_literal.ensures.text then)
    c.write_others.ensures.text
