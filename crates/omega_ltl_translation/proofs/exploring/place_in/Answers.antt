-- the state is a key, or it is put behind the others
use Rattle.std.proofs.Common.{◌≡◌, true, List, ℕ, sym, subst}
use Rattle.std.specs.Str.{bytes_eq}
use Rattle.omega_ltl_translation.specs.private.Graphs.{IsWithState, states_of}
use Rattle.omega_ltl_translation.proofs.Finding.{found_there, key_there, state_found, state_put}
use Rattle.omega_ltl_translation.proofs.exploring.place_in.Goals as goal

pub returns-in-Some-clause-keys : goal.returns-in-Some-clause-keys
returns-in-Some-clause-keys c = state_found c.args.state.now c.args.found.now.keys (sym c.in-Some.ensures.found)

pub returns-in-Some-clause-place : goal.returns-in-Some-clause-place
returns-in-Some-clause-place c = found_there c.args.found.now.keys c.in-Some.place c.args.state.now (sym c.in-Some.ensures.index)

pub returns-clause-keys : goal.returns-clause-keys
returns-clause-keys c = subst (λ keys. IsWithState c.args.state.now (states_of c.args.found.now.keys) (states_of keys)) (sym c.in_ok-place.ensures.keys)
    (state_put c.args.state.now c.args.found.now.keys c.in_ok-key.key c.in_ok-key.ensures.items)

pub returns-clause-place : goal.returns-clause-place
returns-clause-place c =
    let stored = c.in_ok-place.ensures.stored in
    key_there c.insert_full.new.self.keys c.in_ok-place.place c.args.state.now stored.0 stored.1
    (subst (λ (s : List ℕ). bytes_eq s stored.0.items ≡ true) c.in_ok-key.ensures.items stored.2)
