-- the refusal of the complement, or what is answered or refused with it
use Rattle.std.proofs.lemmas.Result.{IfErr-weaker, IfOk-weaker, on_ok_weaker}
use Rattle.omega_lang_inclusion.specs.Refusing.{not_complemented}
use Rattle.omega_lang_inclusion.specs.private.Complemented.{IsComplemented}
use Rattle.omega_lang_inclusion.proofs.Complementing.{are_comparable}
use Rattle.omega_lang_inclusion.proofs.containing.decide_containment.Goals as goal

pub returns-in-Err-clause-refused : goal.returns-in-Err-clause-refused
returns-in-Err-clause-refused c = not_complemented c.in-Err.ensures.refused

pub returns-in-Ok-clause-right : goal.returns-in-Ok-clause-right
returns-in-Ok-clause-right c =
    let is : IsComplemented c.args.other.now c.in-Ok.rest =
    record { is_other = c.keeps_limits.ensures; given = c.in-Ok.ensures.given; is_rest = c.in-Ok.ensures.complement } in
    IfOk-weaker c.contained_beside.result _ _ (λ answer right. right c.args.other.now is) c.contained_beside.ensures.right

pub returns-in-Ok-clause-given : goal.returns-in-Ok-clause-given
returns-in-Ok-clause-given c =
    on_ok_weaker c.contained_beside.result
    (λ plain. are_comparable c.args.one.now c.in-Ok.rest c.args.other.now plain c.in-Ok.ensures.given) c.contained_beside.ensures.given

pub returns-in-Ok-clause-refused : goal.returns-in-Ok-clause-refused
returns-in-Ok-clause-refused c =
    let is : IsComplemented c.args.other.now c.in-Ok.rest =
    record { is_other = c.keeps_limits.ensures; given = c.in-Ok.ensures.given; is_rest = c.in-Ok.ensures.complement } in
    IfErr-weaker c.contained_beside.result _ _ (λ refusal refused. refused c.args.other.now is) c.contained_beside.ensures.refused
