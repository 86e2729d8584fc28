-- player 0 wins where found, and else player 1
use Rattle.std.proofs.Common.{◌≡◌, ◌<◌, List, Option, ℕ, None, Ok, Err, inl, inr, length, refl, sym, ◌∙◌, subst, arith}
use Rattle.std.proofs.lemmas.Bool.{false≢true}
use Rattle.std.proofs.lemmas.Result.{IfOk-weaker, err_from_is_err_and}
use Rattle.omega_game_values.specs.Winning.{InRegion}
use Rattle.omega_game_values.specs.declared.player.Player.TheVariants.{One, Zero}
use Rattle.omega_text.specs.declared.refusal.Refusal.TheVariants.{Memory}
use Rattle.omega_solve.proofs.within_budget.Observed.{first_made, observed_after, observed_alike, one_made, one_solved, two_made, two_observed, two_solved}
use Rattle.omega_synth_rounds.specs.Extracting.{IsWinningFrom}
use Rattle.omega_synth_realize.proofs.Strategies.{answer_wins, game_count, lifted_refused, other_wins, player_refused}
use Rattle.omega_synth_realize.proofs.lifting.lifted_outcome.Goals as goal

pub has_won-requires : goal.has_won-requires
has_won-requires g c =
    omega (arith, c.in_ok-zero.ensures.exact.entries, game_count c.args.rounds.now c.args.game.now c.requires.game)

pub controller_outcome-requires-clause-winning : goal.controller_outcome-requires-clause-winning
controller_outcome-requires-clause-winning g c =
    let exact = c.in_ok-zero.ensures.exact in
    subst (λ (choices : List (Option ℕ)). IsWinningFrom c.args.game.now Zero choices c.args.start) (sym c.as_slice.ensures.value)
    (answer_wins c.args.game.now Zero c.in_ok-zero.zero.won.items c.in_ok-zero.zero.choice.items exact c.args.start
    ((exact.exactly c.args.start).0 (c.has_won.ensures.0 c.if-has_won.true)))

pub counter_strategy_outcome-requires-clause-winning : goal.counter_strategy_outcome-requires-clause-winning
counter_strategy_outcome-requires-clause-winning g c =
    let below : c.args.start < length c.args.game.now = omega (arith, game_count c.args.rounds.now c.args.game.now c.requires.game) in
    let region : InRegion c.args.game.now One c.args.start =
    other_wins c.regions_cover.ensures c.args.game.now c.in_ok-zero.zero.won.items c.in_ok-zero.zero.choice.items c.keeps_limits.ensures.game
    c.in_ok-zero.ensures.exact c.args.start below (λ won. false≢true (sym c.if-has_won.false ∙ c.has_won.ensures.1 won)) in
    subst (λ (choices : List (Option ℕ)). IsWinningFrom c.args.game.now One choices c.args.start) (sym c.as_slice-2.ensures.value)
    (answer_wins c.args.game.now One c.in_ok-one.one.won.items c.in_ok-one.one.choice.items c.in_ok-one.ensures.exact c.args.start region)

pub returns-in_err-zero-clause-reported : goal.returns-in_err-zero-clause-reported
returns-in_err-zero-clause-reported g c =
    observed_alike _ _ _ _ c.from_residual.result _ c.in_err-zero.field-0.0 _ _ c.from_residual.ensures.1 (λ e same. same)
    (one_solved _ _ _ c.args.game.now Zero c.args.budget (Err c.in_err-zero.field-0.0) _ _ (refl, inl (one_made Zero _))
    (rw c.in_err-zero.was at c.found_for.ensures.reported))

pub returns-then-has_won-clause-reported : goal.returns-then-has_won-clause-reported
returns-then-has_won-clause-reported g c =
    observed_after _ _ _ _ c.controller_outcome.result (λ refusal. refusal ≡ Memory) _ _ c.controller_outcome.ensures.memory (λ e. cc)
    (λ refusal other nodes players lifted. (lifted.0, lifted_refused refusal other players lifted.1))
    (one_solved _ _ _ c.args.game.now Zero c.args.budget (Ok c.in_ok-zero.zero) _ _ (refl, inl (one_made Zero None))
    (rw c.in_ok-zero.was at c.found_for.ensures.reported))

pub returns-in_err-one-clause-reported : goal.returns-in_err-one-clause-reported
returns-in_err-one-clause-reported g c =
    observed_alike _ _ _ _ c.from_residual-in_err-one.result _ c.in_err-one.field-0.0 _ _ c.from_residual-in_err-one.ensures.1 (λ e same. same)
    (two_solved _ _ _ c.args.game.now Zero One c.args.budget _ (Err c.in_err-one.field-0.0) _ _ _
    (refl, inr (two_made Zero One _)) (refl, inr (first_made Zero One _))
    (rw c.in_ok-zero.was at c.found_for.ensures.reported) (rw c.in_err-one.was at c.found_for-2.ensures.reported))

pub returns-clause-reported : goal.returns-clause-reported
returns-clause-reported g c =
    observed_after _ _ _ _ c.counter_strategy_outcome.result (λ refusal. refusal ≡ Memory) _ _ c.counter_strategy_outcome.ensures.memory (λ e. cc)
    (λ refusal other nodes players lifted. (lifted.0, lifted_refused refusal other players lifted.1))
    (two_observed _ _ _ c.args.game.now Zero One c.args.budget _ _ _ _ _ _ (refl, inr (two_made Zero One None))
    (rw c.in_ok-zero.was at c.found_for.ensures.reported) (rw c.in_ok-one.was at c.found_for-2.ensures.reported))

pub returns-in_err-zero-clause-refused : goal.returns-in_err-zero-clause-refused
returns-in_err-zero-clause-refused g c =
    let p = err_from_is_err_and c.from_residual.result c.from_residual.ensures.1 in
    rw (p.1, p.2)
    (player_refused c.in_err-zero.field-0.0 c.args.game.now Zero c.args.start c.args.budget c.requires.narrow (λ on. inl on) c.in_err-zero.ensures.refused)

pub returns-in_err-one-clause-refused : goal.returns-in_err-one-clause-refused
returns-in_err-one-clause-refused g c =
    let lost : ¬ InRegion c.args.game.now Zero c.args.start =
    λ region. false≢true (sym c.if-has_won.false ∙ c.has_won.ensures.1 ((c.in_ok-zero.ensures.exact.exactly c.args.start).1 region)) in
    let p = err_from_is_err_and c.from_residual-in_err-one.result c.from_residual-in_err-one.ensures.1 in
    rw (p.1, p.2)
    (player_refused c.in_err-one.field-0.0 c.args.game.now One c.args.start c.args.budget c.requires.narrow (λ on. inr (lost, on)) c.in_err-one.ensures.refused)

zero_one : Zero ≡ One → ⊥
zero_one e = cc

pub returns-then-has_won-clause-lifted : goal.returns-then-has_won-clause-lifted
returns-then-has_won-clause-lifted g c =
    IfOk-weaker c.controller_outcome.result _ _
    (λ outcome is. record {
      narrow = c.requires.narrow;
      zero = (c.in_ok-zero.zero.lifts, c.in_ok-zero.ensures.ended);
      one = λ other. absurd (zero_one (sym is ∙ other));
    })
    c.controller_outcome.ensures.winner

pub returns-clause-lifted : goal.returns-clause-lifted
returns-clause-lifted g c =
    IfOk-weaker c.counter_strategy_outcome.result _ _
    (λ outcome is. record {
      narrow = c.requires.narrow;
      zero = (c.in_ok-zero.zero.lifts, c.in_ok-zero.ensures.ended);
      one = λ other. (c.in_ok-one.one.lifts, c.in_ok-one.ensures.ended);
    })
    c.counter_strategy_outcome.ensures.winner
