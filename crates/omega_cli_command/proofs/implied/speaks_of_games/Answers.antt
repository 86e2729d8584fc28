-- `speaks_of_games`: an option that is given is one that goes with games alone.
use Rattle.std.proofs.Common.{◌∙◌, inl, inr, refl, sym}
use Rattle.omega_cli_command.specs.declared.options.OptionName.TheVariants as name
use Rattle.omega_cli_command.proofs.Given.{some_read}
use Rattle.omega_cli_command.proofs.implied.speaks_of_games.Goals.{then-is_on, else-is_on}
use Rattle.omega_cli_command.proofs.implied.speaks_of_games.Goals as goal

pub returns-in-Show-clause-given : goal.returns-in-Show-clause-given
returns-in-Show-clause-given c given =
    (name.Lenient, inr (inr (elim c.in-Show.is [ inl is ↦ inl is | inr is ↦ inr (inl is) ], refl)), c.is_on.ensures.set given)

pub returns-then-is_some-clause-given : goal.returns-then-is_some-clause-given
returns-then-is_some-clause-given c _ = elim c.if-is_on.branch [
  | then-is_on w ↦ (name.Lenient, inr (inr (inr (inr (inl c.in-Canon.is)), refl)), c.is_on-in-Canon.ensures.set w.if-is_on.true)
  | else-is_on w ↦ (
    name.From,
    inl (c.in-Canon.is, inl refl),
    some_read _ c.args.options.now.from (sym w.is_some.ensures ∙ sym w.value-is ∙ c.if-is_some.true),
  )
]

pub returns-else-is_some-clause-given : goal.returns-else-is_some-clause-given
returns-else-is_some-clause-given c given = (name.Min, inl (c.in-Canon.is, inr refl), c.is_on-else-is_some.ensures.set given)

pub returns-then-is_on-2-clause-given : goal.returns-then-is_on-2-clause-given
returns-then-is_on-2-clause-given c given =
    (name.Lenient, inr (inr (inr (inr (inr c.in-Draw.is)), refl)), c.is_on-in-Draw.ensures.set given)
