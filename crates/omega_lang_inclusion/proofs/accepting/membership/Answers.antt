-- containment decides
use Rattle.std.proofs.Common.{inl}
use Rattle.omega_lang_inclusion.proofs.accepting.membership.Goals as goal

pub returns-in-Ok-clause-right : goal.returns-in-Ok-clause-right
returns-in-Ok-clause-right c = λ word means. c.membership_of.ensures word c.args.one.now c.args.automaton.now means c.in-Ok.ensures.right

pub returns-in-Ok-clause-decided : goal.returns-in-Ok-clause-decided
returns-in-Ok-clause-decided c = λ word means. inl c.in-Ok.ensures.given.given.deterministic
