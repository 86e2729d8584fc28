-- the game has a node for each place, and what is chosen wins
use Rattle.std.proofs.Common.{List, ℕ, sym, ◌∙◌, subst, arith}
use Rattle.std.specs.List.Sorted.{IsStrictlyIncreasing}
use Rattle.omega_synth_rounds.specs.Rounds.{AreAnswers, AreMetAnswers, IsAsking}
use Rattle.omega_synth_realize.proofs.MetEdges.{answers_met, asking_met}
use Rattle.omega_synth_realize.proofs.Strategies.{game_count}
use Rattle.omega_synth_realize.proofs.winning.counter_strategy_outcome.Goals as goal

pub asked_questions-requires-clause-fits : goal.asked_questions-requires-clause-fits
asked_questions-requires-clause-fits c =
    omega (arith, game_count c.args.rounds.now c.args.game.now c.requires.game, c.keeps_limits.ensures.limits.few_nodes)

pub asked_questions-requires-clause-entries : goal.asked_questions-requires-clause-entries
asked_questions-requires-clause-entries c =
    c.requires.winning.strategy.entries ∙ game_count c.args.rounds.now c.args.game.now c.requires.game

pub met_edges-requires-clause-few : goal.met_edges-requires-clause-few
met_edges-requires-clause-few c =
    omega (arith, game_count c.args.rounds.now c.args.game.now c.requires.game, c.keeps_limits.ensures.limits.few_nodes)

pub met_edges-requires-clause-answers : goal.met_edges-requires-clause-answers
met_edges-requires-clause-answers c =
    let wins =
    c.chosen_questions_win.ensures c.args.rounds.now c.args.game.now c.args.choices.now c.in_ok-found.found.kept.items c.in_ok-found.found.asked.items
    c.args.start c.requires.rounds c.requires.game c.requires.start c.requires.winning c.in_ok-found.ensures.chosen in
    subst (λ (numbers : List ℕ). AreAnswers c.args.rounds.now numbers) (sym c.as_slice.ensures.value) wins.1

pub returns-clause-outcome : goal.returns-clause-outcome
returns-clause-outcome c =
    let rounds = c.args.rounds.now in
    let start : ℕ = c.args.start in
    let chosen : List ℕ = c.as_slice.result.now in
    let asked : List ℕ = c.in_ok-found.found.asked.items in
    let wins =
    c.chosen_questions_win.ensures rounds c.args.game.now c.args.choices.now c.in_ok-found.found.kept.items asked
    start c.requires.rounds c.requires.game c.requires.start c.requires.winning c.in_ok-found.ensures.chosen in
    let asking : IsAsking rounds start chosen asked =
    subst (λ (numbers : List ℕ). IsAsking rounds start numbers asked) (sym c.as_slice.ensures.value) wins.0 in
    let answers : AreAnswers rounds chosen = subst (λ (numbers : List ℕ). AreAnswers rounds numbers) (sym c.as_slice.ensures.value) wins.1 in
    let rising : IsStrictlyIncreasing chosen = subst IsStrictlyIncreasing (sym c.as_slice.ensures.value) c.in_ok-found.ensures.rising in
    subst (λ (kept : List ℕ). IsAsking rounds start kept c.from_vec-2.result × IsStrictlyIncreasing kept × AreMetAnswers rounds start kept) (sym c.from_vec.ensures) (
      subst (λ (questions : List ℕ). IsAsking rounds start c.in_ok-kept.kept.items questions) (sym c.from_vec-2.ensures)
          (asking_met rounds c.requires.rounds start chosen c.in_ok-kept.kept.items c.in_ok-kept.ensures.met asked asking),
      c.in_ok-kept.ensures.rising rising,
      answers_met rounds c.requires.rounds start chosen c.in_ok-kept.kept.items c.in_ok-kept.ensures.met answers,
    )
