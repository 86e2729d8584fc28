-- one edge more
use Rattle.std.proofs.Common.{◌≡◌, ◌↔◌, ℕ, ◌++◌, ◌<◌, inr, Bool, List, [], ◌∷◌, length, get_or, take, sym, ap, ◌∙◌, subst, append_assoc, arith}
use borrow.Author.Count.{below_more}
use Rattle.std.specs.Prelude.{IsTrue}
use Rattle.std.proofs.lemmas.Result.{err_from_is_err_and}
use Rattle.std.proofs.lemmas.List.Elements.{at_read}
use Rattle.omega_hoa_automaton.specs.Automaton.{BodyEdge, edges_from}
use Rattle.omega_hoa_automaton.specs.declared.edge.Edge.{Edge}
use Rattle.omega_hoa_automaton.specs.declared.state.State.{State}
use Rattle.omega_lang_runs.specs.Judging.{AreJudged, HasWide, IsNarrowLabel, IsWide}
use Rattle.omega_lang_runs.specs.Lasso.{IsUsable}
use Rattle.omega_lang_runs.proofs.Flat.{wide_refused}
use Rattle.omega_lang_runs.proofs.Judged.{judged_on, judged_one}
use Rattle.omega_lang_runs.proofs.Edges.{edges_take}
use Rattle.omega_empty.proofs.usable.judge_edges.Goals as goal

pub returns-in_err-judged-clause-refused : goal.returns-in_err-judged-clause-refused
returns-in_err-judged-clause-refused c =
    let here : c.edge-edge.result ≡ get_or c.args.state.now.edges c.loop-at.at c.edge-edge.result = c.edge-edge.ensures in
    let below : c.loop-at.at < length c.args.state.now.edges = omega (arith, c.len-at-end.ensures, c.loop-at-test.true) in
    let p = err_from_is_err_and c.from_residual-in_err-judged.result c.from_residual-in_err-judged.ensures.1 in
    rw (p.1, p.2)
    (wide_refused (IsWide c.edge-edge.result.label) (HasWide c.args.state.now) (λ wide. inr (c.edge-edge.result, (c.loop-at.at, below, sym here), wide))
    _ c.in_err-judged.ensures.refused)

pub loop-at-preserved : goal.loop-at-preserved
loop-at-preserved c =
    let index : ℕ = c.loop-at.at in
    let edge : Edge = c.edge-edge.result in
    let here : c.edge-edge.result ≡ get_or c.args.state.now.edges index c.edge-edge.result = c.edge-edge.ensures in
    let below : index < length c.args.state.now.edges = omega (arith, c.len-at-end.ensures, c.loop-at-test.true) in
    let so_far = c.loop-at.invariant.0 in
    let one : BodyEdge = record { source = c.args.state.now; edge = edge } in
    let P : List BodyEdge → Type 0 = λ edges. AreJudged edges (so_far.0 ++ c.in_ok-judged.judged ∷ []) in (
      (
        so_far.0 ++ c.in_ok-judged.judged ∷ [],
        c.in_ok-push.ensures.items ∙ ap (λ (list : List Bool). list ++ c.in_ok-judged.judged ∷ []) so_far.1
            ∙ append_assoc c.args.usable.now.items so_far.0 (c.in_ok-judged.judged ∷ []),
        subst P (sym (edges_take c.args.state.now index edge below here))
            (judged_on (take index (edges_from c.args.state.now)) so_far.0 (one ∷ []) (c.in_ok-judged.judged ∷ []) so_far.2
            (judged_one one c.in_ok-judged.judged
            (subst (λ (s : State). IsTrue c.in_ok-judged.judged ↔ IsUsable (record { source = s; edge = edge })) c.in_ok-judged_state.ensures.state c.in_ok-judged.ensures.judged))),
      ),
      below_more (λ k. (d : Edge) → IsNarrowLabel (get_or c.args.state.now.edges k d).label) index c.loop-at.invariant.1
          (at_read c.args.state.now.edges (λ (e : Edge). IsNarrowLabel e.label) index edge below here c.in_ok-judged.ensures.narrow),
    )
