-- `sees_number_twice`: a number that is seen already occurs twice.
use Rattle.std.proofs.Common.{◌≡◌, ◌<◌, ℕ, List, true, false, nat_eq, map, length, get_or, ap, sym, ◌∙◌, rules}
use Rattle.std.proofs.lemmas.List.{get_or-map, length-map}
use Rattle.omega_hoa_syntax.specs.declared.raw_state.RawState.{RawState}
use Rattle.omega_hoa_automaton.proofs.Repeats.{seen_once, seen_twice}
use Rattle.omega_hoa_automaton.proofs.judging.repeats.sees_number_twice.Goals as goal

-- the numbers of states
abbrev numbers : List RawState → List ℕ
numbers states = map (λ (state : RawState). state.number) states

-- the number at a place
number_at : (states : List RawState) (i : ℕ) (state : RawState) → i < length states → state ≡ get_or states i state → state.number ≡ get_or (numbers states) i 0
number_at states i state within is = ap (λ (s : RawState). s.number) is ∙ sym (get_or-map (λ (s : RawState). s.number) states i state 0 within)

pub returns-then-not-branch-clause-ok : goal.returns-then-not-branch-clause-ok
returns-then-not-branch-clause-ok c =
    let old : c.in_ok-insert.field-0 ≡ false = search rules in
    seen_twice (λ (key : ℕ). key) nat_eq (numbers c.args.states.now) c.loop-state.state-index 0 c.state-item.result.number c.loop-state.seen.keys c.in_ok-insert.field-0
    (simp length-map c.loop-state-test.true) (number_at c.args.states.now c.loop-state.state-index c.state-item.result c.loop-state-test.true c.state-item.is)
    c.loop-state.invariant.0 c.in_ok-insert.ensures.added old

pub loop-state-preserved : goal.loop-state-preserved
loop-state-preserved c =
    let new : c.in_ok-insert.field-0 ≡ true = search rules in
    seen_once (λ (key : ℕ). key) nat_eq (numbers c.args.states.now) c.loop-state.state-index 0 c.state-item.result.number c.loop-state.seen.keys c.insert.new.self.keys c.in_ok-insert.field-0
    (simp length-map c.loop-state-test.true) (number_at c.args.states.now c.loop-state.state-index c.state-item.result c.loop-state-test.true c.state-item.is)
    c.loop-state.invariant.0 c.in_ok-insert.ensures.added new c.in_ok-insert.ensures.keys c.loop-state.invariant.1
