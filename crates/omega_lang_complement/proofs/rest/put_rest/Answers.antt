-- `t`, or the negation
use Rattle.std.proofs.Common.{◌≡◌, length, sym, ◌∙◌, arith, eqb-true}
use Rattle.std.proofs.lemmas.Bool.{eqb-false}
use Rattle.std.proofs.lemmas.Result.{on_ok_weaker}
use Rattle.omega_lang_complement.proofs.Puts.{put_negated, put_none}
use Rattle.omega_lang_complement.proofs.rest.put_rest.Goals as goal

pub returns-then-is_empty-clause-rest : goal.returns-then-is_empty-clause-rest
returns-then-is_empty-clause-rest c =
    let none : length c.args.labels.now ≡ 0 = eqb-true (length c.args.labels.now) 0 (sym c.is_empty.ensures ∙ c.if-is_empty.true) in
    on_ok_weaker c.push.result (λ put. put_none c.args.labels.now _ _ none put) c.push.ensures.ok

pub returns-clause-rest : goal.returns-clause-rest
returns-clause-rest c =
    let some : length c.args.labels.now ≡ 0 → ⊥ = eqb-false (length c.args.labels.now) 0 (sym c.is_empty.ensures ∙ c.if-is_empty.false) in
    on_ok_weaker c.push-2.result
    (λ put. put_negated c.args.labels.now _ _ _ (omega (arith, some)) c.in_ok-put_any.ensures.any put) c.push-2.ensures.ok
