-- nothing is left
use Rattle.std.proofs.Common.{◌↔◌, ℕ, List, subst, arith}
use Rattle.std.proofs.lemmas.List.{drop_all}
use Rattle.omega_text.specs.hoa.Forms.{IsQuotable}
use Rattle.omega_circuit_automaton.specs.private.Quotable.{Continues}
use Rattle.omega_circuit_automaton.proofs.Quotable.{at_end}
use Rattle.omega_circuit_automaton.proofs.names.is_quotable.Goals as goal

pub returns : goal.returns
returns c =
    let left = subst (λ (rest : List ℕ). Continues c.loop-byte.is_escaped rest ↔ IsQuotable c.args.name.now) (drop_all c.loop-byte.byte-index c.args.name.now (omega arith)) c.loop-byte.invariant in
    let end = at_end c.loop-byte.is_escaped in
    (λ plain. left.0 (end.1 plain), λ quotable. end.0 (left.1 quotable))
