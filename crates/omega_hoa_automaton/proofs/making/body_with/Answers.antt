-- `body_with`: a definition that is wrong, the fault that is left, and what is made without a fault.
use Rattle.std.proofs.lemmas.Result.{err_from_is_err_and}
use Rattle.omega_hoa_automaton.proofs.DraftLemmas.{body_means, draft_accepts, draft_last, draft_sound, last-meaningless, unnoted-meaningless}
use Rattle.omega_hoa_automaton.proofs.making.body_with.Goals as goal

pub returns-in_err-gather-clause-err : goal.returns-in_err-gather-clause-err
returns-in_err-gather-clause-err c =
    let p = err_from_is_err_and c.from_residual.result c.from_residual.ensures.1 in
    rw (p.1, p.2) (unnoted-meaningless c.args.raw _ c.requires.outline.early c.in_err-gather.ensures.err)

pub returns-in_err-judge_last-clause-err : goal.returns-in_err-judge_last-clause-err
returns-in_err-judge_last-clause-err c =
    let p = err_from_is_err_and c.from_residual-in_err-judge_last.result c.from_residual-in_err-judge_last.ensures.1 in
    rw (p.1, p.2) (last-meaningless c.args.raw c.gather.new.definitions _ c.args.outline _ c.requires.outline c.in_ok-gather.ensures.noted c.as_slice.ensures c.in_err-judge_last.ensures.err)

pub body_of-requires-clause-accepts : goal.body_of-requires-clause-accepts
body_of-requires-clause-accepts c =
    draft_accepts c.args.raw c.gather.new.gathered c.gather.new.definitions
    (draft_last c.args.raw c.gather.new.gathered c.gather.new.definitions _ c.args.outline c.requires.outline c.in_ok-gather.ensures.gathered c.in_ok-gather.ensures.noted
    c.as_slice.ensures c.in_ok-judge_last.ensures.ok)

pub body_of-requires-clause-sound : goal.body_of-requires-clause-sound
body_of-requires-clause-sound c =
    draft_sound c.args.raw c.gather.new.gathered c.gather.new.definitions
    (draft_last c.args.raw c.gather.new.gathered c.gather.new.definitions _ c.args.outline c.requires.outline c.in_ok-gather.ensures.gathered c.in_ok-gather.ensures.noted
    c.as_slice.ensures c.in_ok-judge_last.ensures.ok)

pub returns-clause-ok : goal.returns-clause-ok
returns-clause-ok c =
    body_means c.args.raw c.gather.new.gathered c.gather.new.definitions c.args.outline c.body_of.result c.requires.outline
    (draft_last c.args.raw c.gather.new.gathered c.gather.new.definitions _ c.args.outline c.requires.outline c.in_ok-gather.ensures.gathered c.in_ok-gather.ensures.noted
    c.as_slice.ensures c.in_ok-judge_last.ensures.ok)
    c.body_of.ensures.accepted c.body_of.ensures.made
