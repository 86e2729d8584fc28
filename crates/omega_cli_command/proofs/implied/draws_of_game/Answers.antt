-- `draws_of_game`: an option that is given is one that goes with games alone.
use Rattle.std.proofs.Common.{inl, inr, refl, sym}
use Rattle.omega_cli_command.specs.declared.options.OptionName.TheVariants as name
use Rattle.omega_cli_command.proofs.Given.{some_read}
use Rattle.omega_cli_command.proofs.implied.draws_of_game.Goals.{then-is_some-via-then-is_some, then-is_some-via-else-is_some+then-is_some-2, then-is_some-via-else-is_some+else-is_some-2+then-is_on}
use Rattle.omega_cli_command.proofs.implied.draws_of_game.Goals as goal

pub returns-then-is_some-clause-given : goal.returns-then-is_some-clause-given
returns-then-is_some-clause-given c _ = elim c.then-is_some.branch [
  | then-is_some-via-then-is_some w ↦
      (name.Solution, inr (inl (refl, inl refl)), some_read _ c.args.options.now.solution (sym w.if-is_some.ensures))
  | then-is_some-via-else-is_some+then-is_some-2 w ↦
      (name.Walk, inr (inl (refl, inr (inl refl))), some_read _ c.args.options.now.walk (sym w.if-is_some-2.ensures))
  | then-is_some-via-else-is_some+else-is_some-2+then-is_on w ↦
      (name.Legend, inr (inl (refl, inr (inr (inl refl)))), w.is_on.ensures.set w.if-is_on.true)
]

pub returns-then-is_some-3-clause-given : goal.returns-then-is_some-3-clause-given
returns-then-is_some-3-clause-given c _ =
    (name.From, inr (inl (refl, inr (inr (inr (inl refl))))), some_read _ c.args.options.now.from (sym c.if-is_some-3.ensures))

pub returns-else-is_some-3-clause-given : goal.returns-else-is_some-3-clause-given
returns-else-is_some-3-clause-given c given = (
  name.Depth,
  inr (inl (refl, inr (inr (inr (inr refl))))),
  some_read _ c.args.options.now.depth (rw given at (sym c.is_some-else-is_some-3.ensures)),
)
