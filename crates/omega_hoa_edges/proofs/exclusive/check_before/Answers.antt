-- a label and one before it: judged, or at a letter both true
use Rattle.std.proofs.Common.{arith, inl, refl, sym, ◌∙◌, true≢false}
use Rattle.std.proofs.lemmas.Result.{err_from_is_err_and}
use Rattle.omega_hoa_label.specs.Label.{conjunction}
use Rattle.omega_hoa_edges.proofs.Faults.{both_refused}
use Rattle.omega_hoa_edges.proofs.Summarized.{summary_at}
use Rattle.omega_hoa_edges.proofs.Judged.{a_pair, apart_from_more}
use Rattle.omega_hoa_edges.proofs.exclusive.check_before.Goals as goal

pub returns-in_err-can_summaries_meet-clause-err : goal.returns-in_err-can_summaries_meet-clause-err
returns-in_err-can_summaries_meet-clause-err c =
    let p = err_from_is_err_and c.from_residual.result c.from_residual.ensures.1 in
    let pair = a_pair c.args.state.now.labels.now c.loop-first.first c.args.second c.index-labels-first.result c.index-labels-second.result c.loop-first-test.true c.requires.second
    c.index-labels-first.is c.index-labels-second.is in
    rw (p.1, p.2)
    (both_refused c.args.state.now.labels.now c.args.state.now.number (conjunction c.index-labels-first.result c.index-labels-second.result) c.in_err-can_summaries_meet.field-0.0
    (c.index-labels-first.result, (c.index-labels-second.result, pair, refl)) c.in_err-can_summaries_meet.ensures.err)

pub returns-then-branch-clause-err : goal.returns-then-branch-clause-err
returns-then-branch-clause-err c =
    let pair = a_pair c.args.state.now.labels.now c.loop-first.first c.args.second c.index-labels-first.result c.index-labels-second.result c.loop-first-test.true c.requires.second
    c.index-labels-first.is c.index-labels-second.is in
    inl (refl, (c.index-labels-first.result, (c.index-labels-second.result, pair, c.in_ok-can_summaries_meet.ensures.judged.0 c.if-branch.true)))

pub loop-first-preserved : goal.loop-first-preserved
loop-first-preserved c =
    apart_from_more c.args.state.now.labels.now c.args.second c.loop-first.first c.index-labels-first.result c.index-labels-second.result c.loop-first-test.true c.requires.second
    c.index-labels-first.is c.index-labels-second.is
    (record { fits = c.in_ok-can_summaries_meet.ensures.fits; apart = λ sat. true≢false (sym (c.in_ok-can_summaries_meet.ensures.judged.1 sat) ∙ c.if-branch.false) }) c.loop-first.invariant

pub returns-clause-apart : goal.returns-clause-apart
returns-clause-apart c = λ first one other below. c.loop-first.invariant first one other (omega (arith, below, c.loop-first-test.false))

pub can_summaries_meet-requires-clause-one : goal.can_summaries_meet-requires-clause-one
can_summaries_meet-requires-clause-one c =
    summary_at c.args.state.now.labels.now c.args.summaries.now c.loop-first.first c.index-labels-first.result c.index-summaries-first.result c.requires.summaries
    (omega (arith, c.loop-first-test.true, c.requires.second)) c.index-labels-first.is c.index-summaries-first.is

pub can_summaries_meet-requires-clause-other : goal.can_summaries_meet-requires-clause-other
can_summaries_meet-requires-clause-other c =
    summary_at c.args.state.now.labels.now c.args.summaries.now c.args.second c.index-labels-second.result c.index-summaries-second.result c.requires.summaries
    c.requires.second c.index-labels-second.is c.index-summaries-second.is
