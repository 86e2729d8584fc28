-- one edge more
use Rattle.std.proofs.Common.{◌≡◌, ◌+◌, ◌<◌, ℕ, List, length, get_or, sym, refl, subst, arith}
use Rattle.std.proofs.lemmas.List.Elements.{Contains-get_or}
use Rattle.std.proofs.lemmas.Result.{err_from_is_err_and}
use Rattle.omega_lang_runs.specs.declared.place.EdgePlace.{EdgePlace}
use Rattle.omega_synth_game.specs.Classes.{label_of_number}
use Rattle.omega_synth_game.specs.private.EdgeWords.{AreEdgeWords}
use Rattle.omega_synth_game.specs.private.Lanes.{AreInputsFor}
use Rattle.omega_synth_game.proofs.AllInputs.{inputs_for}
use Rattle.omega_synth_game.proofs.EdgesInLanes.{edge_refused, words_more}
use Rattle.omega_synth_game.proofs.Listing.{stands_at}
use Rattle.omega_synth_game.proofs.edge_words.edge_words.Goals as goal

pub edge_word-requires-clause-inputs : goal.edge_word-requires-clause-inputs
edge_word-requires-clause-inputs c =
    let a = c.args.automaton.now in
    let numbers : List ℕ = c.args.numbers.now in
    let index : ℕ = c.loop-number.number-index in
    let below : index < length numbers = omega (arith, c.loop-number-test.true) in
    let number : ℕ = get_or numbers index 0 in
    let none : EdgePlace = record { state = 0; index = 0 } in
    let stands = stands_at a c.args.places.now number none c.requires.places (c.requires.numbers index 0 below) in
    subst (λ (list : List ℕ). AreInputsFor c.args.lanes.now.controlled.now list (label_of_number a number)) (sym c.requires.inputs)
    (inputs_for a c.args.lanes.now.controlled.now numbers number (record { source = stands.state; edge = stands.edge }) stands.numbered (Contains-get_or numbers index 0 below))

pub loop-number-preserved : goal.loop-number-preserved
loop-number-preserved c =
    let a = c.args.automaton.now in
    let lanes = c.args.lanes.now in
    let numbers : List ℕ = c.args.numbers.now in
    let index : ℕ = c.loop-number.number-index in
    subst (λ (words : List ℕ). AreEdgeWords a lanes.controlled.now lanes.inputs.now lanes.block numbers (index + 1) words) (sym c.in_ok-push.ensures.items)
    (words_more a lanes.controlled.now lanes.inputs.now lanes.block numbers index (get_or numbers index 0) c.in_ok-word.word c.loop-number.words.items refl
    c.loop-number.invariant c.in_ok-word.ensures.word)

pub returns-clause-words : goal.returns-clause-words
returns-clause-words c =
    let all : c.loop-number.number-index ≡ length c.args.numbers.now = omega (arith, c.loop-number-test.false) in
    subst (λ (end : ℕ). AreEdgeWords c.args.automaton.now c.args.lanes.now.controlled.now c.args.lanes.now.inputs.now c.args.lanes.now.block c.args.numbers.now end c.loop-number.words.items)
    all c.loop-number.invariant

pub returns-in_err-word-clause-refused : goal.returns-in_err-word-clause-refused
returns-in_err-word-clause-refused c =
    let numbers : List ℕ = c.args.numbers.now in
    let index : ℕ = c.loop-number.number-index in
    let p = err_from_is_err_and c.from_residual.result c.from_residual.ensures.1 in
    rw (p.1, p.2)
    (edge_refused c.args.automaton.now c.args.lanes.now.controlled.now numbers (get_or numbers index 0) c.in_err-word.field-0.0
    (Contains-get_or numbers index 0 (omega (arith, c.loop-number-test.true))) c.in_err-word.ensures.refused)
