-- Both sides are kept, and have ended once no place is pending for either.
use Rattle.std.proofs.Common.{◌∙◌, refl}
use Rattle.omega_solve.proofs.turns.take_turns.Goals as goal

pub loop-init : goal.loop-init
loop-init g c = record { zero = c.requires.zero; one = c.requires.one; entries = c.requires.entries }

pub returns-then-is_idle-2-clause-zero : goal.returns-then-is_idle-2-clause-zero
returns-then-is_idle-2-clause-zero g c = λ _. record { side = c.loop.invariant.zero; idle = c.if-is_idle.ensures refl }

pub returns-then-is_idle-2-clause-one : goal.returns-then-is_idle-2-clause-one
returns-then-is_idle-2-clause-one g c = λ _. record { side = c.loop.invariant.one; idle = c.if-is_idle-2.ensures refl }

pub turn-zero_quota-requires-clause-side : goal.turn-zero_quota-requires-clause-side
turn-zero_quota-requires-clause-side g c = c.loop.invariant.zero

pub turn-zero_quota-requires-clause-other : goal.turn-zero_quota-requires-clause-other
turn-zero_quota-requires-clause-other g c = c.loop.invariant.one

pub loop-preserved : goal.loop-preserved
loop-preserved g c = record {
  zero = c.turn-one_quota.ensures.other;
  one = c.turn-one_quota.ensures.side;
  entries = c.turn-one_quota.ensures.entries ∙ (c.turn-zero_quota.ensures.entries ∙ c.loop.invariant.entries);
}
