-- The search goes on as it must by what it sees of the gate at the end of the path.
use Rattle.std.proofs.Common.{◌<◌, ◌-◌, ℕ, length, subst, arith}
use Rattle.std.proofs.lemmas.List.{get_or_default}
use Rattle.omega_circuit.proofs.Searching.{sees_open, sees_settled, sees_waiting}
use Rattle.omega_circuit.proofs.gate_order.GateSearch.step.Goals as goal

pub returns-in-Open-clause-cycle : goal.returns-in-Open-clause-cycle
returns-in-Open-clause-cycle c =
    let path = c.args.self.now.path.items in
    let inside : c.args.gate < length c.args.nets.now = subst (λ (m : ℕ). m < length c.args.nets.now) c.requires.last (c.requires.search.path_within (length path - 1) 0 (omega (arith, c.requires.some))) in
    λ _. sees_open c.args.first c.args.nets.now c.args.self.now.found.items c.args.self.now.left.items path c.args.self.now.order.items c.requires.search
    c.args.gate c.requires.some c.requires.last c.as_slice.result.now c.as_slice-2.result.now c.as_slice.ensures.value c.as_slice-2.ensures.value
    _ (get_or_default c.args.nets.now c.args.gate _ (record { literal = 0; left = 0; right = 0 }) inside) c.in-Open.ensures

pub returns-in_ok-enter-in-Waiting-clause-search : goal.returns-in_ok-enter-in-Waiting-clause-search
returns-in_ok-enter-in-Waiting-clause-search c =
    let path = c.args.self.now.path.items in
    let inside : c.args.gate < length c.args.nets.now = subst (λ (m : ℕ). m < length c.args.nets.now) c.requires.last (c.requires.search.path_within (length path - 1) 0 (omega (arith, c.requires.some))) in
    λ _. sees_waiting c.args.first c.args.nets.now c.args.self.now.found.items c.args.self.now.left.items path c.args.self.now.order.items c.requires.search
    c.args.gate c.requires.some c.requires.last c.as_slice.result.now c.as_slice-2.result.now c.as_slice.ensures.value c.as_slice-2.ensures.value
    _ (get_or_default c.args.nets.now c.args.gate _ (record { literal = 0; left = 0; right = 0 }) inside) c.in-Waiting.used c.in-Waiting.ensures
    c.enter.new.self.found.items c.enter.new.self.left.items c.enter.new.self.path.items c.enter.new.self.order.items
    c.in_ok-enter-in-Waiting.ensures.found c.enter.ensures.left c.in_ok-enter-in-Waiting.ensures.path c.enter.ensures.order

pub returns-in_ok-leave-in-Settled-clause-search : goal.returns-in_ok-leave-in-Settled-clause-search
returns-in_ok-leave-in-Settled-clause-search c =
    let path = c.args.self.now.path.items in
    let inside : c.args.gate < length c.args.nets.now = subst (λ (m : ℕ). m < length c.args.nets.now) c.requires.last (c.requires.search.path_within (length path - 1) 0 (omega (arith, c.requires.some))) in
    λ _. sees_settled c.args.first c.args.nets.now c.args.self.now.found.items c.args.self.now.left.items path c.args.self.now.order.items c.requires.search
    c.args.gate c.requires.some c.requires.last c.as_slice.result.now c.as_slice-2.result.now c.as_slice.ensures.value c.as_slice-2.ensures.value
    _ (get_or_default c.args.nets.now c.args.gate _ (record { literal = 0; left = 0; right = 0 }) inside) c.in-Settled.ensures
    c.leave.new.self.found.items c.leave.new.self.left.items c.leave.new.self.path.items c.leave.new.self.order.items
    c.leave.ensures.found c.in_ok-leave-in-Settled.ensures.left c.in_ok-leave-in-Settled.ensures.path c.in_ok-leave-in-Settled.ensures.order
