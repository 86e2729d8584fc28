-- the items are refused, or the specification is, or the judge refuses
use Rattle.std.proofs.Common.{List, ℕ, ap, inl, subst, sym, ◌∙◌}
use Rattle.omega_io.specs.Refused.{about_none}
use Rattle.omega_synth_check.specs.CounterRefusing.{IsCounterRefusal}
use Rattle.omega_answers_synth.specs.Parting.{AreSystemNames}
use Rattle.omega_answers_synth.proofs.CounterReported.{counter_judge_refused, counter_parting_refused, undetermined_refused}
use Rattle.omega_answers_synth.proofs.Reported.{refused_on}
use Rattle.omega_answers_synth.proofs.counter.counter_verdict.Goals as goal

pub returns-in-Err-clause-refused : goal.returns-in-Err-clause-refused
returns-in-Err-clause-refused c = inl (c.from.ensures ∙ ap about_none c.in-Err.ensures.memory)

pub returns-in-Err-check_specification-clause-refused : goal.returns-in-Err-check_specification-clause-refused
returns-in-Err-check_specification-clause-refused c =
    undetermined_refused c.args.specification.now c.args.strategy.now c.in-Ok.names.items c.in-Ok.ensures.names
    c.in-Err-check_specification.refusal c.in-Err-check_specification.ensures.refused c.of.result c.of.ensures

pub counter_reply-requires-clause-named : goal.counter_reply-requires-clause-named
counter_reply-requires-clause-named c =
    subst (AreSystemNames c.args.specification.now c.args.strategy.now) (sym c.as_slice.ensures.value) c.in-Ok.ensures.names

pub returns-clause-refused : goal.returns-clause-refused
returns-clause-refused c =
    counter_judge_refused c.args.specification.now c.args.strategy.now c.in-Ok.names.items c.in-Ok.ensures.names c.in-Ok-check_specification.ensures.deterministic
    c.in-Err-counter_reply.refusal
    (subst (λ (ns : List (List ℕ)). IsCounterRefusal c.args.specification.now c.args.strategy.now ns c.in-Err-counter_reply.refusal) c.as_slice.ensures.value
    c.in-Err-counter_reply.ensures.refused)
    c.counter_reported.result c.counter_reported.ensures

pub returns-in_err-parted-clause-refused : goal.returns-in_err-parted-clause-refused
returns-in_err-parted-clause-refused c =
    refused_on c.from_residual.result _ _ c.from_residual.ensures.1
    (counter_parting_refused c.args.specification.now c.args.strategy.now _ c.in_err-parted.ensures.refused)
