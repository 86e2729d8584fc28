-- The gate is new, or its number is there.
use Rattle.std.proofs.Common.{◌/◌, inl, inr, refl, sym, ◌∙◌}
use Rattle.omega_circuit.proofs.Members.{added, there_already}
use Rattle.omega_circuit.proofs.Reordering.{kept_numbers}
use Rattle.omega_circuit.proofs.canonical.add_net.Goals as goal

pub returns-then-not-branch-clause-added : goal.returns-then-not-branch-clause-added
returns-then-not-branch-clause-added c =
    let old = sym c.in_ok-insert.ensures.added ∙ c.if-not-branch.true in
    inr (
      there_already c.args.numbers.now.keys (c.args.net.literal / 2) old,
      c.in_ok-insert.ensures.keys ∙ kept_numbers c.args.numbers.now.keys (c.args.net.literal / 2) old,
      refl,
    )

pub returns-clause-added : goal.returns-clause-added
returns-clause-added c = inl (
  c.in_ok-insert.ensures.keys ∙ added c.args.numbers.now.keys (c.args.net.literal / 2) (sym c.in_ok-insert.ensures.added ∙ c.if-not-branch.false),
  c.in_ok-push.ensures.items,
)
