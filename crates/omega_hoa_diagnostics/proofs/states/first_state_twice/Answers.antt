-- `first_state_twice`: a number that is seen already is the first that comes twice.
use Rattle.std.proofs.Common.{◌≡◌, ◌<◌, ℕ, List, true, false, nat_eq, map, length, get_or, ap, sym, ◌∙◌, rules}
use Rattle.std.proofs.lemmas.List.{get_or-map, length-map}
use Rattle.omega_hoa_syntax.specs.declared.raw_state.RawState.{RawState}
use Rattle.omega_hoa_diagnostics.specs.States.{first_state_twice}
use Rattle.omega_hoa_diagnostics.proofs.Repeats.{repeat_here, repeat_later}
use Rattle.omega_hoa_diagnostics.proofs.states.first_state_twice.Goals as goal

-- the numbers of states
abbrev numbers : List RawState → List ℕ
numbers states = map (λ (state : RawState). state.number) states

-- the number at a place
number_at : (states : List RawState) (i : ℕ) (state : RawState) → i < length states → state ≡ get_or states i state → state.number ≡ get_or (numbers states) i 0
number_at states i state within is = ap (λ (s : RawState). s.number) is ∙ sym (get_or-map (λ (s : RawState). s.number) states i state 0 within)

pub returns-then-not-branch-clause-twice : goal.returns-then-not-branch-clause-twice
returns-then-not-branch-clause-twice c =
    let old : c.in_ok-insert.field-0 ≡ false = search rules in
    repeat_here nat_eq c.loop-state.seen.keys (numbers c.args.states.now) c.loop-state.state-index c.state-item.result.number 0 c.in_ok-insert.field-0
    (first_state_twice c.args.states.now) (simp length-map c.loop-state-test.true)
    (number_at c.args.states.now c.loop-state.state-index c.state-item.result c.loop-state-test.true c.state-item.is)
    c.in_ok-insert.ensures.added old c.loop-state.invariant

pub loop-state-preserved : goal.loop-state-preserved
loop-state-preserved c =
    let new : c.in_ok-insert.field-0 ≡ true = search rules in
    repeat_later nat_eq c.loop-state.seen.keys c.insert.new.self.keys (numbers c.args.states.now) c.loop-state.state-index c.state-item.result.number 0
    c.in_ok-insert.field-0 (first_state_twice c.args.states.now) (simp length-map c.loop-state-test.true)
    (number_at c.args.states.now c.loop-state.state-index c.state-item.result c.loop-state-test.true c.state-item.is)
    c.in_ok-insert.ensures.added new c.in_ok-insert.ensures.keys c.loop-state.invariant
