-- the refusal of the complement, or what is found or refused with it
use Rattle.std.proofs.lemmas.Result.{IfErr-weaker}
use Rattle.omega_synth_formula.specs.Following.{not_complemented, not_searched}
use Rattle.omega_synth_formula.proofs.letterless.letterless_state.Goals as goal

pub returns-in-Err-clause-refused : goal.returns-in-Err-clause-refused
returns-in-Err-clause-refused c = not_complemented c.in-Err.ensures.refused

pub returns-in-Ok-clause-refused : goal.returns-in-Ok-clause-refused
returns-in-Ok-clause-refused c =
    IfErr-weaker c.letterless_in.result _ _
    (λ refusal refused. not_searched c.in-Ok.rest c.in-Ok.ensures.given c.in-Ok.ensures.complement refused) c.letterless_in.ensures.refused
