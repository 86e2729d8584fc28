-- the letters of the cycle after those of the stem
use Rattle.std.proofs.Common.{◌∷◌, arith}
use Rattle.std.proofs.lemmas.Result.{IfOk-weaker}
use Rattle.omega_lang_inclusion.proofs.Rows.{states_more, states_so_far}
use Rattle.omega_lang_inclusion.proofs.states.append_all.Goals as goal

pub append_cycle-requires : goal.append_cycle-requires
append_cycle-requires c =
    let size = states_so_far c.args.row.count c.args.row.back c.args.states.now.items c.append_states.new.states.items c.args.stem.items c.in-Ok.ensures.states in
    omega (arith, size)

pub returns-in-Ok-clause-states : goal.returns-in-Ok-clause-states
returns-in-Ok-clause-states c =
    IfOk-weaker c.append_cycle.result _ _
    (λ _ is. states_more c.args.row.count c.args.row.back c.args.states.now.items c.append_states.new.states.items c.args.stem.items c.in-Ok.ensures.states
    c.append_cycle.new.states.items (c.args.first ∷ c.args.others.items) is)
    c.append_cycle.ensures.states
