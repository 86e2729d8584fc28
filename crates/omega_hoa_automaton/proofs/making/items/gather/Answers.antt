-- `gather`: one more item, and one that cannot be met.
use Rattle.std.proofs.Common.{◌∙◌}
use Rattle.std.proofs.lemmas.Iterator.Adapters.{YieldsList-from_vec}
use Rattle.std.proofs.lemmas.Iterator.Consumers.{YieldsList-so_far, YieldsList-turn}
use Rattle.std.proofs.lemmas.Result.{err_from_is_err_and}
use Rattle.omega_hoa_automaton.proofs.GatheringLemmas.{gathered-push, noted-push, unnoted-turn}
use Rattle.omega_hoa_automaton.proofs.making.items.gather.Goals as goal

pub loop-item-preserved : goal.loop-item-preserved
loop-item-preserved c = (
  gathered-push c.loop-item.yielded c.in-Some.item c.loop-item.gathered c.gather_one.new.gathered c.loop-item.invariant.0 c.in_ok-gather_one.ensures.gathered,
  noted-push c.loop-item.yielded c.in-Some.item c.loop-item.definitions c.gather_one.new.definitions c.loop-item.invariant.1 c.in_ok-gather_one.ensures.met,
)

pub returns-in_err-gather_one-clause-err : goal.returns-in_err-gather_one-clause-err
returns-in_err-gather_one-clause-err c =
    let p = err_from_is_err_and c.from_residual.result c.from_residual.ensures.1 in
    let taken = c.into_iter-item-iterator.ensures.into_iter_gives in
    let gives = YieldsList-from_vec {s = c.into_iter-item-iterator.result} c.into_vec-item-items.result.items taken.0 (taken.1 ∙ c.into_vec-item-items.result.ok.0) in
    let so_far = YieldsList-so_far gives c.loop-item.yielded c.loop-item.item-iterator c.loop-item.yielded_by in
    let turn = YieldsList-turn gives c.loop-item.yielded c.loop-item.item-iterator c.loop-item.yielded_by c.next.result c.next.new.self c.in-Some.item c.in-Some.is c.next.ensures.steps in
    rw (p.1, p.2) (unnoted-turn c.args.items c.into_vec-item-items.result.items c.loop-item.yielded c.in-Some.item c.loop-item.definitions _ c.into_vec-item-items.ensures so_far turn c.loop-item.invariant.1 c.in_err-gather_one.ensures.err)
