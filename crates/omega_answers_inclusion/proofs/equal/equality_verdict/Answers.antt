-- the equality that was decided is told, or memory is wanting
use Rattle.std.proofs.Common.{inl, ap, ◌∙◌}
use Rattle.omega_io.specs.Refused.{about_none}
use Rattle.omega_lang_inclusion.specs.Refusing.{no_memory}
use Rattle.omega_text.specs.declared.refusal.Refusal.TheVariants.{Memory}
use Rattle.omega_answers_inclusion.proofs.equal.equality_verdict.Goals as goal

pub returns-in-Ok-clause-verdict : goal.returns-in-Ok-clause-verdict
returns-in-Ok-clause-verdict c = record {
  first_deterministic = c.in_ok-equality.ensures.given.1.given.deterministic;
  second_deterministic = c.in_ok-equality.ensures.given.0.given.deterministic;
  answer = c.in_ok-equality.equality;
  right = c.in_ok-equality.ensures.right;
  reply = c.in-Ok.ensures.reply;
}

pub returns-clause-refused : goal.returns-clause-refused
returns-clause-refused c =
    inl (Memory, no_memory c.in_ok-equality.ensures.given.0 tt, c.from.ensures ∙ ap about_none c.in-Err.ensures.memory)
