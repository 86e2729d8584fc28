-- the refusal of the complement, or what is answered or refused with it
use Rattle.std.proofs.lemmas.Result.{IfErr-weaker, IfOk-weaker}
use Rattle.omega_ltl_equality.specs.Refusing.{not_complemented}
use Rattle.omega_ltl_equality.proofs.deciding.equality_of_satisfied.Goals as goal

pub returns-in-Err-clause-refused : goal.returns-in-Err-clause-refused
returns-in-Err-clause-refused c = not_complemented c.requires c.in-Err.ensures.refused

pub returns-in-Ok-clause-right : goal.returns-in-Ok-clause-right
returns-in-Ok-clause-right c =
    IfOk-weaker c.equality_beside.result _ _
    (λ answer right. right c.args.automaton.now c.keeps_limits.ensures c.in-Ok.ensures.given c.in-Ok.ensures.complement c.requires)
    c.equality_beside.ensures.right

pub returns-in-Ok-clause-given : goal.returns-in-Ok-clause-given
returns-in-Ok-clause-given c =
    IfOk-weaker c.equality_beside.result _ _ (λ answer given. given c.args.automaton.now c.in-Ok.ensures.given) c.equality_beside.ensures.given

pub returns-in-Ok-clause-refused : goal.returns-in-Ok-clause-refused
returns-in-Ok-clause-refused c =
    IfErr-weaker c.equality_beside.result _ _
    (λ refusal refused. refused c.args.automaton.now c.in-Ok.ensures.given c.in-Ok.ensures.complement c.requires)
    c.equality_beside.ensures.refused
