-- a question without an answer, or an answer to each
use Rattle.std.proofs.Common.{◌≡◌, ◌<◌, [], ℕ, List, length, get_or, sym, subst, ◌∙◌, arith}
use Rattle.std.proofs.lemmas.List.{get_or_read}
use Rattle.omega_synth_game.specs.RoundsOf.{letter_of}
use Rattle.omega_synth_check.specs.Judging.{AreInputs}
use Rattle.omega_synth_check.specs.private.Searching.{NoneAnswers}
use Rattle.omega_synth_check.proofs.GivenInputs.{given_inputs}
use Rattle.omega_synth_check.proofs.Visits.{none_answers, some_answers}
use Rattle.omega_synth_check.proofs.letters.unanswered_letter.Goals as goal

pub returns-in-None-clause-answered : goal.returns-in-None-clause-answered
returns-in-None-clause-answered c =
    let answers : List (List ℕ) = c.in_ok-questions.questions.answers.items in
    let each : (at : ℕ) → at < length answers → 0 < length (get_or answers at []) =
    subst (λ (lists : List (List ℕ)). (at : ℕ) → at < length lists → 0 < length (get_or lists at [])) c.as_slice.ensures.value c.in-None.ensures.none in
    some_answers c.args.automaton.now c.args.controlled.now c.args.numbers.now c.in_ok-questions.questions.letters.items answers
    c.in_ok-questions.ensures.questions each

pub returns-clause-unanswered : goal.returns-clause-unanswered
returns-clause-unanswered c =
    let letters : List (List ℕ) = c.in_ok-questions.questions.letters.items in
    let answers : List (List ℕ) = c.in_ok-questions.questions.answers.items in
    let at : ℕ = c.in-Some.at in
    let below : at < length answers = subst (λ (lists : List (List ℕ)). at < length lists) c.as_slice.ensures.value c.in-Some.ensures.within in
    let empty : get_or answers at [] ≡ [] = subst (λ (lists : List (List ℕ)). get_or lists at [] ≡ []) c.as_slice.ensures.value c.in-Some.ensures.empty in
    let asked : at < length letters = omega (arith, below, c.in_ok-questions.ensures.questions.answered.entries) in
    subst (NoneAnswers c.args.automaton.now c.args.controlled.now c.args.numbers.now)
    (sym (c.in_ok-letter-in-Some.ensures ∙ c.as_slice-in-Some.ensures ∙ get_or_read letters at c.index.result.now asked c.index.ensures []))
    (none_answers c.args.automaton.now c.args.controlled.now c.args.numbers.now letters answers c.in_ok-questions.ensures.questions at below empty)

pub returns-clause-inputs : goal.returns-clause-inputs
returns-clause-inputs c =
    let letters : List (List ℕ) = c.in_ok-questions.questions.letters.items in
    let answers : List (List ℕ) = c.in_ok-questions.questions.answers.items in
    let at : ℕ = c.in-Some.at in
    let below : at < length answers = subst (λ (lists : List (List ℕ)). at < length lists) c.as_slice.ensures.value c.in-Some.ensures.within in
    let asked : at < length letters = omega (arith, below, c.in_ok-questions.ensures.questions.answered.entries) in
    subst (AreInputs c.args.automaton.now c.args.controlled.now)
    (sym (c.in_ok-letter-in-Some.ensures ∙ c.as_slice-in-Some.ensures ∙ get_or_read letters at c.index.result.now asked c.index.ensures []))
    (given_inputs c.args.automaton.now c.keeps_limits.ensures c.args.controlled.now c.args.numbers.now (letter_of letters at)
    (c.in_ok-questions.ensures.questions.least at asked))
