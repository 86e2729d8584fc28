-- `edge_places`: the edges of one state more have their places.
use Rattle.std.proofs.Common.{◌≡◌, ℕ, ◌<◌, ◌++◌, List, length, get_or, ap, ◌∙◌, arith}
use Rattle.omega_hoa_automaton.specs.declared.state.State.{State}
use Rattle.omega_lang_runs.specs.private.Placing.{places_in}
use Rattle.omega_lang_runs.proofs.Placed.{placed_more}
use Rattle.omega_lang_runs.proofs.placing.edge_places.Goals as goal

pub loop-at-preserved : goal.loop-at-preserved
loop-at-preserved c =
    let states : List State = c.args.automaton.now.defined in
    let state : State = c.state-item.result in
    let here : state ≡ get_or states c.loop-at.at state = cc in
    let below : c.loop-at.at < length states = omega (arith, ap length c.defined-state-items.ensures) in
    let added : c.add_places.new.places.items ≡ c.loop-at.places.items ++ places_in c.loop-at.at (length state.edges) =
    c.in_ok-add_places.ensures.places ∙ ap (λ (n : ℕ). c.loop-at.places.items ++ places_in c.loop-at.at n) c.len.ensures in
    placed_more c.args.automaton.now c.loop-at.at state c.loop-at.places.items below here c.loop-at.invariant c.add_places.new.places.items added
