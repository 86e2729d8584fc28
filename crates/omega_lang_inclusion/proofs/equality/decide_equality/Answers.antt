-- the refusals of both ways, and both answers together
use Rattle.std.proofs.Common.{inl, inr}
use Rattle.omega_hoa_edges.proofs.Refusals.{passed_on}
use Rattle.omega_lang_inclusion.specs.Equality.{IsEqualityRefusal}
use Rattle.omega_lang_inclusion.proofs.equality.decide_equality.Goals as goal

pub returns-in_err-there-clause-refused : goal.returns-in_err-there-clause-refused
returns-in_err-there-clause-refused c =
    let refused : IsEqualityRefusal c.args.first.now c.args.second.now c.in_err-there.field-0.0 = inl c.in_err-there.ensures.refused in
    passed_on c.from_residual.result _ _ c.from_residual.ensures.1 refused

pub returns-in_err-back-clause-refused : goal.returns-in_err-back-clause-refused
returns-in_err-back-clause-refused c =
    let refused : IsEqualityRefusal c.args.first.now c.args.second.now c.in_err-back.field-0.0 =
    inr (c.in_ok-there.ensures.given, c.in_err-back.ensures.refused) in
    passed_on c.from_residual-in_err-back.result _ _ c.from_residual-in_err-back.ensures.1 refused

pub returns-clause-right : goal.returns-clause-right
returns-clause-right c =
    c.equality_of.ensures c.args.first.now c.args.second.now c.in_ok-there.ensures.right c.in_ok-back.ensures.right
