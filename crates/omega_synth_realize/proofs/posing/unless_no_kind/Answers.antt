-- a clash comes before the kind, and the kind before labels that are not judged
use Rattle.std.proofs.Common.{inr, sym, subst, ◌∙◌}
use Rattle.omega_synth_realize.specs.Refusing.{IsPosingRefusal, undecided}
use Rattle.omega_synth_realize.proofs.Refused.{decided_unjudgeable, is_first_undecided, kind_unjudgeable}
use Rattle.omega_synth_realize.proofs.posing.unless_no_kind.Goals as goal

pub returns-else-is_undecided : goal.returns-else-is_undecided
returns-else-is_undecided c =
    decided_unjudgeable c.args.automaton.now c.requires.single c.args.refusal c.requires.unjudged
    (sym c.is_undecided.ensures ∙ c.if-is_undecided.false)

pub returns-in-Ok : goal.returns-in-Ok
returns-in-Ok c =
    let first = is_first_undecided c.args.automaton.now c.args.refusal c.requires.unjudged (sym c.is_undecided.ensures ∙ c.if-is_undecided.true) in
    subst (IsPosingRefusal c.args.automaton.now) (sym first.1) (undecided first.0 c.requires.single first.2 (c.in-Ok.field-0, c.in-Ok.ensures.kind))

pub returns-in-Err : goal.returns-in-Err
returns-in-Err c =
    let first = is_first_undecided c.args.automaton.now c.args.refusal c.requires.unjudged (sym c.is_undecided.ensures ∙ c.if-is_undecided.true) in
    kind_unjudgeable c.args.automaton.now c.requires.single (inr (first.0, first.2)) c.in-Err.first c.in-Err.ensures.err
