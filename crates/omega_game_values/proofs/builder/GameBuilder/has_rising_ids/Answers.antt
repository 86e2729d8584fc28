-- `GameBuilder::has_rising_ids`: whether each identifier is greater than the one before.
use Rattle.std.proofs.Common.{◌≡◌, ℕ, ◌<◌, ◌≤◌, ◌+◌, length, List, get_or, ap, sym, subst, ◌∙◌}
use Rattle.omega_game_values.proofs.building.Collecting.{ids-specs_of}
use Rattle.omega_game_values.specs.private.layout.Collected.{ids_of}
use Rattle.std.specs.Bool.{OnFalse}
use Rattle.std.specs.List.Sorted.{IsStrictlyIncreasing}
use Rattle.omega_game_values.proofs.builder.GameBuilder.has_rising_ids.Goals as goal

-- the identifiers that are tested
same : (c : goal.After-is_rising) → c.as_slice.result.now ≡ ids_of c.args.self.now
same c = c.as_slice.ensures.value ∙ sym (ids-specs_of _) ∙ ap ids_of c.self.view_is

pub returns-clause-rising : goal.returns-clause-rising
returns-clause-rising c = λ true. subst IsStrictlyIncreasing (same c) (c.is_rising.ensures.rising true)

pub returns-clause-falling : goal.returns-clause-falling
returns-clause-falling c =
    subst (λ (ids : List ℕ). OnFalse c.is_rising.result ((k : ℕ) × (k + 1 < length ids) × (get_or ids (k + 1) 0 ≤ get_or ids k 0))) (same c) c.is_rising.ensures.falling
