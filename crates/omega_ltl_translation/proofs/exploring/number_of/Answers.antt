-- the state is there, or it is put behind the others
use Rattle.std.proofs.Common.{◌≡◌, ◌<◌, ◌≤◌, ℕ, List, [], ◌∷◌, ◌++◌, length, ap, sym, subst, ◌∙◌, arith}
use Rattle.omega_ltl_translation.specs.private.Graphs.{IsStateNumber, IsWithState, states_of}
use Rattle.omega_ltl_translation.proofs.Finding.{number_put, number_there, put_behind, still_there}
use Rattle.omega_ltl_translation.proofs.exploring.number_of.Goals as goal

pub returns-then-number-len-clause-number : goal.returns-then-number-len-clause-number
returns-then-number-len-clause-number c =
    let low : c.in_ok-number.number < length c.args.states.now.items = omega (arith, c.len-2.ensures) in
    number_there c.args.state.now c.args.states.now.items (states_of c.place_in.new.found.keys) c.in_ok-number.number
    (subst (λ (xs : List (List ℕ)). IsWithState c.args.state.now xs (states_of c.place_in.new.found.keys)) c.requires c.in_ok-number.ensures.keys) c.in_ok-number.ensures.place low

pub returns-then-number-len-clause-found : goal.returns-then-number-len-clause-found
returns-then-number-len-clause-found c =
    let low : c.in_ok-number.number < length c.args.states.now.items = omega (arith, c.len-2.ensures) in
    still_there c.args.state.now c.args.states.now.items (states_of c.place_in.new.found.keys) c.in_ok-number.number
    (subst (λ (xs : List (List ℕ)). IsWithState c.args.state.now xs (states_of c.place_in.new.found.keys)) c.requires c.in_ok-number.ensures.keys) c.in_ok-number.ensures.place low

pub returns-clause-number : goal.returns-clause-number
returns-clause-number c =
    let states : List (List ℕ) = c.args.states.now.items in
    let high : length states ≤ c.in_ok-number.number = omega (arith, c.len-2.ensures) in
    let put = put_behind c.args.state.now states (states_of c.place_in.new.found.keys) c.in_ok-number.number
    (subst (λ (xs : List (List ℕ)). IsWithState c.args.state.now xs (states_of c.place_in.new.found.keys)) c.requires c.in_ok-number.ensures.keys) c.in_ok-number.ensures.place high in
    let same : length states ≡ c.len-number.result = omega (arith, c.len-number.ensures) in
    subst (IsStateNumber c.args.state.now states c.push.new.self.items) same
    (number_put c.args.state.now states c.push.new.self.items put.0
    (c.in_ok-push.ensures.items ∙ ap (λ (s : List ℕ). states ++ s ∷ []) c.in_ok-from_slice.ensures))

pub returns-clause-found : goal.returns-clause-found
returns-clause-found c =
    let states : List (List ℕ) = c.args.states.now.items in
    let high : length states ≤ c.in_ok-number.number = omega (arith, c.len-2.ensures) in
    let put = put_behind c.args.state.now states (states_of c.place_in.new.found.keys) c.in_ok-number.number
    (subst (λ (xs : List (List ℕ)). IsWithState c.args.state.now xs (states_of c.place_in.new.found.keys)) c.requires c.in_ok-number.ensures.keys) c.in_ok-number.ensures.place high in
    put.1 ∙ sym (c.in_ok-push.ensures.items ∙ ap (λ (s : List ℕ). states ++ s ∷ []) c.in_ok-from_slice.ensures)
