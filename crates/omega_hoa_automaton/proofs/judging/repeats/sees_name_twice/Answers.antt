-- `sees_name_twice`: a name that is seen already occurs twice.
use Rattle.std.proofs.Common.{◌≡◌, ℕ, List, true, false, Bor, ◌∙◌, rules}
use Rattle.std.specs.Str.{bytes_eq}
use Rattle.omega_hoa_automaton.proofs.Repeats.{seen_once, seen_twice}
use Rattle.omega_hoa_automaton.proofs.judging.repeats.sees_name_twice.Goals as goal

pub returns-then-not-branch-clause-ok : goal.returns-then-not-branch-clause-ok
returns-then-not-branch-clause-ok c =
    let old : c.in_ok-insert.field-0 ≡ false = search rules in
    seen_twice (λ (key : Bor (List ℕ)). key.now) bytes_eq c.args.names.now c.loop-name.name-index c.name-item.result c.as_slice.result c.loop-name.seen.keys c.in_ok-insert.field-0
    c.loop-name-test.true (c.as_slice.ensures ∙ c.name-item.is)
    c.loop-name.invariant.0 c.in_ok-insert.ensures.added old

pub loop-name-preserved : goal.loop-name-preserved
loop-name-preserved c =
    let new : c.in_ok-insert.field-0 ≡ true = search rules in
    seen_once (λ (key : Bor (List ℕ)). key.now) bytes_eq c.args.names.now c.loop-name.name-index c.name-item.result c.as_slice.result c.loop-name.seen.keys c.insert.new.self.keys c.in_ok-insert.field-0
    c.loop-name-test.true (c.as_slice.ensures ∙ c.name-item.is)
    c.loop-name.invariant.0 c.in_ok-insert.ensures.added new c.in_ok-insert.ensures.keys c.loop-name.invariant.1
