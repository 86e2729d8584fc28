-- the refusals of the states
use Rattle.std.proofs.Common.{sym, ◌∙◌}
use Rattle.omega_lang_complement.proofs.Faults.{states_refused}
use Rattle.omega_lang_complement.specs.Refusing.{HasStart}
use Rattle.omega_hoa_edges.proofs.Refusals.{passed_on}
use Rattle.omega_lang_complement.proofs.complementing.complement_body.Goals as goal

pub returns-in_err-body-clause-refused : goal.returns-in_err-body-clause-refused
returns-in_err-body-clause-refused c =
    let start : HasStart c.args.automaton.now =
    record {
      limits = record { plain = c.requires.plain; limits = sym c.exceeds_limits.ensures ∙ c.if-exceeds_limits.false };
      one_start = c.in_ok-check_one_start.ensures.one;
    } in
    passed_on c.from_residual-in_err-body.result _ _ c.from_residual-in_err-body.ensures.1 (states_refused c.args.automaton.now start _ c.in_err-body.ensures.err)

pub returns-clause-start : goal.returns-clause-start
returns-clause-start c = record {
  limits = record { plain = c.requires.plain; limits = sym c.exceeds_limits.ensures ∙ c.if-exceeds_limits.false };
  one_start = c.in_ok-check_one_start.ensures.one;
}
