-- `GameBuilder::add_spec`: adds a specification.
use Rattle.std.proofs.Common.{ap, sym, ◌∙◌}
use Rattle.std.specs.Prelude.{Some}
use Rattle.omega_game_values.proofs.building.Collecting.{named_spec}
use Rattle.omega_game_values.proofs.builder.GameBuilder.add_spec.Goals as goal

pub returns-in_ok-name_last : goal.returns-in_ok-name_last
returns-in_ok-name_last c = record {
  ok = named_spec c.name_last.new.self c.add.new.self c.args.self.now c.args.spec.now c.as_slice.result.now c.as_slice-in-Some.result.now c.as_slice.ensures
      (c.in-Some.is ∙ ap Some (sym c.as_slice-in-Some.ensures)) c.in_ok-add.ensures.ok c.in_ok-name_last.ensures.ok;
}
