-- all states are appended to none
use Rattle.std.proofs.Common.{◌≡◌, ◌++◌, ◌∷◌, ◌+◌, length, ap, arith}
use Rattle.omega_lang_inclusion.proofs.Rows.{states_done}
use Rattle.omega_lang_inclusion.proofs.states.letter_states.Goals as goal

pub append_all-requires : goal.append_all-requires
append_all-requires c = omega (arith, ap length c.in_ok-states.ensures.items)

pub returns-clause-states : goal.returns-clause-states
returns-clause-states c =
    let count : c.row_of-row.result.count ≡ length c.args.stem.items + length c.args.others.items + 1 = omega arith in
    let back : c.row_of-row.result.back ≡ length c.args.stem.items = omega arith in
    states_done c.row_of-row.result.count c.row_of-row.result.back c.args.stem.items c.args.others.items (c.args.stem.items ++ c.args.first ∷ c.args.others.items)
    c.in_ok-states.states.items c.append_all.new.states.items count back c.in_ok-states.ensures.items c.in_ok-append_all.ensures.states
