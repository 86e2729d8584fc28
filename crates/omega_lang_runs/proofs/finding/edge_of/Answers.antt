-- `edge_of`: the place of the number is that of its edge.
use Rattle.std.proofs.Common.{◌≡◌, ◌<◌, Some, List, length, get_or, ap, ◌∙◌, sym, subst, arith}
use Rattle.std.specs.Prelude.{slice_get}
use Rattle.std.proofs.lemmas.Option.{slice_get-get_or}
use Rattle.omega_hoa_automaton.specs.declared.state.State.{State}
use Rattle.omega_lang_runs.proofs.Placed.{edge_same, index_within, placed_there, state_within}
use Rattle.omega_lang_runs.proofs.finding.edge_of.Goals as goal
use Rattle.omega_lang_runs.proofs.finding.edge_of.Goals.{After-defined, After-state_at-state}

-- the place of the number
there : (c : After-defined) → slice_get c.args.places.now c.args.number ≡ Some (get_or c.args.places.now c.args.number (record { state = 0; index = 0 }))
there c = slice_get-get_or c.args.places.now c.args.number (record { state = 0; index = 0 }) (omega (arith, c.if-at-places.false))

pub state_at-state-requires : goal.state_at-state-requires
state_at-state-requires c =
    subst (λ n. (get_or c.args.places.now c.args.number (record { state = 0; index = 0 })).state < n) (sym (ap length c.defined.ensures))
    (state_within c.args.automaton.now c.args.places.now c.args.number _ c.requires (there (goal.at.state_at-state-requires c).After-defined))

pub returns-clause-index : goal.returns-clause-index
returns-clause-index c = (placed_there c.args.automaton.now c.args.places.now c.args.number _ c.requires (there (goal.at.returns-clause-index c).After-defined)).index_is

-- the state that was read is at the place
read : (c : After-state_at-state) → c.state_at-state.result.now ≡ get_or c.args.automaton.now.defined (get_or c.args.places.now c.args.number (record { state = 0; index = 0 })).state c.state_at-state.result.now
read c =
    c.state_at-state.ensures
    ∙ ap (λ (states : List State). get_or states (get_or c.args.places.now c.args.number (record { state = 0; index = 0 })).state c.state_at-state.result.now) c.defined.ensures

pub returns-clause-within : goal.returns-clause-within
returns-clause-within c =
    index_within c.args.automaton.now c.args.places.now c.args.number _ c.requires (there (goal.at.returns-clause-within c).After-defined) c.state_at-state.result.now (read c)

pub returns-clause-edge : goal.returns-clause-edge
returns-clause-edge c =
    edge_same c.args.automaton.now c.args.places.now c.args.number _ c.requires (there (goal.at.returns-clause-edge c).After-defined) c.state_at-state.result.now (read c)
