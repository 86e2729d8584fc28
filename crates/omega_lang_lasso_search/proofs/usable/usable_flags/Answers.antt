-- the edges of one state more
use Rattle.std.proofs.Common.{◌≡◌, ℕ, ◌++◌, ◌<◌, Bool, List, length, get_or, take, sym, ap, subst, arith}
use Rattle.std.specs.List.{flat_map}
use Rattle.std.proofs.lemmas.List.{take_all}
use Rattle.std.proofs.lemmas.Result.{err_from_is_err_and}
use Rattle.omega_hoa_automaton.specs.Automaton.{BodyEdge, edges_from}
use Rattle.omega_hoa_automaton.specs.declared.state.State.{State}
use Rattle.omega_lang_runs.specs.Judging.{AreJudged, HasHard}
use Rattle.omega_lang_runs.specs.Judging.{HasHardLabel}
use Rattle.omega_lang_runs.proofs.Flat.{hard_label, wide_refused}
use Rattle.omega_lang_runs.proofs.Judged.{judged_on, judged_usable}
use Rattle.omega_lang_runs.proofs.Edges.{flat_more}
use Rattle.omega_lang_lasso_search.proofs.usable.usable_flags.Goals as goal

pub returns-in_err-judge_edges-clause-refused : goal.returns-in_err-judge_edges-clause-refused
returns-in_err-judge_edges-clause-refused c =
    let states : List State = c.args.automaton.now.defined in
    let here : c.state-item.result ≡ get_or states c.loop-state.state-index c.state-item.result = cc in
    let below : c.loop-state.state-index < length states = omega (arith, ap length c.defined-state-items.ensures) in
    let p = err_from_is_err_and c.from_residual-in_err-judge_edges.result c.from_residual-in_err-judge_edges.ensures.1 in
    rw (p.1, p.2)
    (wide_refused (HasHard c.state-item.result) (HasHardLabel c.args.automaton.now) (hard_label c.args.automaton.now c.loop-state.state-index c.state-item.result below here)
    _ c.in_err-judge_edges.ensures.refused)

pub loop-state-preserved : goal.loop-state-preserved
loop-state-preserved c =
    let states : List State = c.args.automaton.now.defined in
    let index : ℕ = c.loop-state.state-index in
    let state : State = c.state-item.result in
    let here : c.state-item.result ≡ get_or states index c.state-item.result = cc in
    let below : index < length states = omega (arith, ap length c.defined-state-items.ensures) in
    let more = c.in_ok-judge_edges.ensures.judged in
    let P : List BodyEdge → Type 0 = λ edges. AreJudged edges c.judge_edges.new.usable.items in
    let Q : List Bool → Type 0 = λ entries. AreJudged (flat_map edges_from (take index states) ++ edges_from state) entries in
    subst P (sym (flat_more states index state below here))
    (subst Q (sym more.1)
    (judged_on (flat_map edges_from (take index states)) c.loop-state.usable.items (edges_from state) more.0 c.loop-state.invariant more.2))

pub returns-clause-usable : goal.returns-clause-usable
returns-clause-usable c =
    let states : List State = c.args.automaton.now.defined in
    let all : take c.loop-state.state-index states ≡ states = take_all c.loop-state.state-index states (omega (arith, ap length c.defined-state-items.ensures)) in
    let P : List State → Type 0 = λ list. AreJudged (flat_map edges_from list) c.loop-state.usable.items in
    judged_usable c.args.automaton.now c.loop-state.usable.items (subst P all c.loop-state.invariant)
