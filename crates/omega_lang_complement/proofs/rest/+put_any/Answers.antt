-- one label, or two halves
use Rattle.std.proofs.Common.{◌≡◌, ◌-◌, ◌/◌, List, length, take, drop, subst, refl, arith}
use Rattle.std.proofs.lemmas.List.{length-drop}
use Rattle.std.proofs.lemmas.Result.{on_ok_weaker}
use Rattle.omega_hoa_label.specs.Label.{LabelTree}
use Rattle.omega_lang_complement.specs.private.Rests.{IsAnyPut}
use Rattle.omega_lang_complement.proofs.Puts.{put_halves, put_one}
use Rattle.omega_hoa_edges.proofs.Rows.{take_all}
use Rattle.omega_lang_complement.proofs.rest.+put_any.Goals as goal

pub returns-then-labels-eq1-clause-any : goal.returns-then-labels-eq1-clause-any
returns-then-labels-eq1-clause-any t c =
    on_ok_weaker c.append.result
    (λ put. put_one c.args.labels.now c.index-labels-0.result _ _ c.if-labels-eq1.true c.index-labels-0.is put)
    c.append.ensures.ok

pub returns-clause-any : goal.returns-clause-any
returns-clause-any t c =
    let labels : List LabelTree = c.args.labels.now in
    let whole : take (length labels - length labels / 2) (drop (length labels / 2) labels) ≡ drop (length labels / 2) labels =
    take_all (drop (length labels / 2) labels) (length labels - length labels / 2) (omega (arith, length-drop (length labels / 2) labels)) in
    on_ok_weaker c.push.result
    (λ put. put_halves labels (length labels / 2) _ _ _ _ refl c.in_ok-put_any.ensures.any
    (subst (λ (ls : List LabelTree). IsAnyPut ls c.put_any.new.nodes c.put_any-2.new.nodes) whole c.in_ok-put_any-2.ensures.any) put)
    c.push.ensures.ok
