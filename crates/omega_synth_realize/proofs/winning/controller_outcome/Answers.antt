-- the game has a node for each place, and what is chosen wins
use Rattle.std.proofs.Common.{List, ℕ, sym, ◌∙◌, subst, arith}
use Rattle.std.specs.List.Sorted.{IsStrictlyIncreasing}
use Rattle.omega_synth_rounds.specs.Rounds.{AreAnswers, AreMetAnswers, IsAnswering}
use Rattle.omega_synth_realize.proofs.MetEdges.{answering_met, answers_met}
use Rattle.omega_synth_realize.proofs.Strategies.{game_count}
use Rattle.omega_synth_realize.proofs.winning.controller_outcome.Goals as goal

pub chosen_answers-requires-clause-fits : goal.chosen_answers-requires-clause-fits
chosen_answers-requires-clause-fits c =
    omega (arith, game_count c.args.rounds.now c.args.game.now c.requires.game, c.keeps_limits.ensures.limits.few_nodes)

pub chosen_answers-requires-clause-entries : goal.chosen_answers-requires-clause-entries
chosen_answers-requires-clause-entries c =
    c.requires.winning.strategy.entries ∙ game_count c.args.rounds.now c.args.game.now c.requires.game

pub met_edges-requires-clause-few : goal.met_edges-requires-clause-few
met_edges-requires-clause-few c =
    omega (arith, game_count c.args.rounds.now c.args.game.now c.requires.game, c.keeps_limits.ensures.limits.few_nodes)

pub met_edges-requires-clause-answers : goal.met_edges-requires-clause-answers
met_edges-requires-clause-answers c =
    let wins =
    c.chosen_answers_win.ensures c.args.rounds.now c.args.game.now c.args.choices.now c.in_ok-chosen.chosen.items c.args.start
    c.requires.rounds c.requires.game c.requires.start c.requires.winning c.in_ok-chosen.ensures.chosen in
    subst (λ (numbers : List ℕ). AreAnswers c.args.rounds.now numbers) (sym c.as_slice.ensures.value) wins.1

pub returns-clause-outcome : goal.returns-clause-outcome
returns-clause-outcome c =
    let rounds = c.args.rounds.now in
    let start : ℕ = c.args.start in
    let chosen : List ℕ = c.as_slice.result.now in
    let wins =
    c.chosen_answers_win.ensures rounds c.args.game.now c.args.choices.now c.in_ok-chosen.chosen.items start
    c.requires.rounds c.requires.game c.requires.start c.requires.winning c.in_ok-chosen.ensures.chosen in
    let answering : IsAnswering rounds start chosen =
    subst (λ (numbers : List ℕ). IsAnswering rounds start numbers) (sym c.as_slice.ensures.value) wins.0 in
    let answers : AreAnswers rounds chosen = subst (λ (numbers : List ℕ). AreAnswers rounds numbers) (sym c.as_slice.ensures.value) wins.1 in
    let rising : IsStrictlyIncreasing chosen = subst IsStrictlyIncreasing (sym c.as_slice.ensures.value) c.in_ok-chosen.ensures.rising in
    subst (λ (kept : List ℕ). IsAnswering rounds start kept × IsStrictlyIncreasing kept × AreMetAnswers rounds start kept) (sym c.from_vec.ensures) (
      answering_met rounds c.requires.rounds start chosen c.in_ok-kept.kept.items c.in_ok-kept.ensures.met answering,
      c.in_ok-kept.ensures.rising rising,
      answers_met rounds c.requires.rounds start chosen c.in_ok-kept.kept.items c.in_ok-kept.ensures.met answers,
    )
