-- the others after the first letter
use Rattle.std.proofs.Common.{[], ◌∷◌, arith}
use Rattle.std.proofs.lemmas.Result.{IfOk-weaker}
use Rattle.omega_lang_inclusion.proofs.Rows.{states_more, states_so_far}
use Rattle.omega_lang_inclusion.proofs.states.append_cycle.Goals as goal

pub append_states-requires : goal.append_states-requires
append_states-requires c =
    let size = states_so_far c.args.row.count c.args.row.back c.args.states.now.items c.append_state.new.states.items (c.args.first ∷ []) c.in-Ok.ensures.states in
    omega (arith, size)

pub returns-in-Ok-clause-states : goal.returns-in-Ok-clause-states
returns-in-Ok-clause-states c =
    IfOk-weaker c.append_states.result _ _
    (λ _ is. states_more c.args.row.count c.args.row.back c.args.states.now.items c.append_state.new.states.items (c.args.first ∷ []) c.in-Ok.ensures.states
    c.append_states.new.states.items c.args.others.items is)
    c.append_states.ensures.states
