-- the refusals of the steps
use Rattle.std.proofs.Common.{inl, sym, ◌∙◌}
use Rattle.std.proofs.lemmas.Result.{IfErr-weaker, err_from_is_err_and}
use Rattle.omega_hoa_edges.specs.Determinism.{IsDeterministic}
use Rattle.omega_synth_realize.specs.Refusing.{IsSingle, branches}
use Rattle.omega_synth_realize.proofs.Refused.{kind_judgeable, kind_unjudgeable, starts_unjudgeable}
use Rattle.omega_synth_realize.proofs.posing.deterministic_parity_kind.Goals as goal

pub returns-then-has_universal_branching-clause-refused : goal.returns-then-has_universal_branching-clause-refused
returns-then-has_universal_branching-clause-refused c = branches (sym c.has_universal_branching.ensures ∙ c.if-has_universal_branching.true)

pub returns-in_err-check_one_start-clause-refused : goal.returns-in_err-check_one_start-clause-refused
returns-in_err-check_one_start-clause-refused c =
    let p = err_from_is_err_and c.from_residual.result c.from_residual.ensures.1 in
    rw (p.1, p.2)
    (starts_unjudgeable c.args.automaton.now (sym c.has_universal_branching.ensures ∙ c.if-has_universal_branching.false)
    c.in_err-check_one_start.field-0.0 c.in_err-check_one_start.ensures.err)

pub returns-in-Ok-clause-judgeable : goal.returns-in-Ok-clause-judgeable
returns-in-Ok-clause-judgeable c =
    let deterministic : IsDeterministic c.args.automaton.now = record {
      plain = sym c.has_universal_branching.ensures ∙ c.if-has_universal_branching.false;
      one_start = c.in_ok-check_one_start.ensures.one;
      apart = c.in-Ok.ensures.apart;
    } in
    kind_judgeable c.args.automaton.now c.kind_of-in-Ok.result deterministic c.kind_of-in-Ok.ensures.kind

pub returns-in-Ok-clause-refused : goal.returns-in-Ok-clause-refused
returns-in-Ok-clause-refused c =
    let single : IsSingle c.args.automaton.now = record {
      plain = sym c.has_universal_branching.ensures ∙ c.if-has_universal_branching.false;
      one_start = c.in_ok-check_one_start.ensures.one;
    } in
    IfErr-weaker c.kind_of-in-Ok.result _ _ (λ e refused. kind_unjudgeable c.args.automaton.now single (inl c.in-Ok.ensures.apart) e refused)
    c.kind_of-in-Ok.ensures.err

pub unless_no_kind-requires-clause-single : goal.unless_no_kind-requires-clause-single
unless_no_kind-requires-clause-single c = record {
  plain = sym c.has_universal_branching.ensures ∙ c.if-has_universal_branching.false;
  one_start = c.in_ok-check_one_start.ensures.one;
}

pub returns-then-apart-clause-judgeable : goal.returns-then-apart-clause-judgeable
returns-then-apart-clause-judgeable c =
    let deterministic : IsDeterministic c.args.automaton.now = record {
      plain = sym c.has_universal_branching.ensures ∙ c.if-has_universal_branching.false;
      one_start = c.in_ok-check_one_start.ensures.one;
      apart = c.in_ok-apart.ensures.apart c.if-apart.true;
    } in
    kind_judgeable c.args.automaton.now c.kind_of.result deterministic c.kind_of.ensures.kind

pub returns-then-apart-clause-refused : goal.returns-then-apart-clause-refused
returns-then-apart-clause-refused c =
    let single : IsSingle c.args.automaton.now = record {
      plain = sym c.has_universal_branching.ensures ∙ c.if-has_universal_branching.false;
      one_start = c.in_ok-check_one_start.ensures.one;
    } in
    IfErr-weaker c.kind_of.result _ _ (λ e refused. kind_unjudgeable c.args.automaton.now single (inl (c.in_ok-apart.ensures.apart c.if-apart.true)) e refused)
    c.kind_of.ensures.err
