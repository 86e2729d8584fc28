-- the edges of one state more
use Rattle.std.proofs.Common.{◌≡◌, ◌<◌, ◌++◌, ℕ, List, length, get_or, map, take, sym, ap, ◌∙◌, arith}
use Rattle.std.specs.List.{flat_map}
use Rattle.std.proofs.lemmas.List.{map-append, take_all}
use Rattle.omega_hoa_automaton.specs.Automaton.{edges_from}
use Rattle.omega_hoa_automaton.specs.declared.state.State.{State}
use Rattle.omega_graph.specs.declared.edge.Edge.{Edge}
use Rattle.omega_lang_lasso_search.specs.Tabled.{ends_of}
use Rattle.omega_lang_runs.proofs.Edges.{flat_more}
use Rattle.omega_lang_lasso_search.proofs.Listed.{listed_targets}
use Rattle.omega_lang_lasso_search.proofs.ends.edge_ends.Goals as goal

pub loop-state-preserved : goal.loop-state-preserved
loop-state-preserved c =
    let states : List State = c.args.automaton.now.defined in
    let index : ℕ = c.loop-state.state-index in
    let state : State = c.state-item.result in
    let here : c.state-item.result ≡ get_or states index c.state-item.result = cc in
    let below : index < length states = omega (arith, ap length c.defined-state-items.ensures) in
    let more = flat_more states index state below here in
    c.in_ok-add_ends.ensures.ends ∙ ap (λ (list : List Edge). list ++ map ends_of (edges_from state)) c.loop-state.invariant
    ∙ sym (map-append ends_of (flat_map edges_from (take index states)) (edges_from state)) ∙ ap (map ends_of) (sym more)

pub returns-clause-ends : goal.returns-clause-ends
returns-clause-ends c =
    let states : List State = c.args.automaton.now.defined in
    let all : take c.loop-state.state-index states ≡ states = take_all c.loop-state.state-index states (omega (arith, ap length c.defined-state-items.ensures)) in
    c.loop-state.invariant ∙ ap (λ (list : List State). map ends_of (flat_map edges_from list)) all

pub add_ends-requires : goal.add_ends-requires
add_ends-requires c =
    let states : List State = c.args.automaton.now.defined in
    let index : ℕ = c.loop-state.state-index in
    let here : c.state-item.result ≡ get_or states index c.state-item.result = cc in
    let below : index < length states = omega (arith, ap length c.defined-state-items.ensures) in
    λ k d inside. listed_targets c.args.automaton.now c.keeps_limits.ensures index c.state-item.result below here k d inside
