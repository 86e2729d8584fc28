-- one state more
use Rattle.std.proofs.Common.{◌≡◌, ◌++◌, [], ◌∷◌, ℕ, List, length, sym, ap, ◌∙◌, arith}
use Rattle.std.proofs.lemmas.List.FromFn.{length-map-range_with_len, map-range_with_len_more}
use Rattle.omega_synth_rounds.specs.Rounds.{asked_in}
use Rattle.omega_synth_game.specs.RoundsOf.{letter_of}
use Rattle.omega_synth_realize.proofs.realizing.letters_by_state.Goals as goal

pub loop-state-preserved : goal.loop-state-preserved
loop-state-preserved c =
    let letter : ℕ → List ℕ = λ state. letter_of c.args.letters.now (asked_in c.args.asked.now state) in
    let state : ℕ = c.loop-state.state in
    let here : c.in_ok-letter.letter ≡ letter state =
    c.in_ok-letter.ensures.letter ∙ ap (letter_of c.args.letters.now) c.question_in-question.ensures in
    c.in_ok-push.ensures.items
    ∙ ap (λ (x : List ℕ). c.loop-state.found.items ++ x ∷ []) here
    ∙ ap (λ (list : List (List ℕ)). list ++ letter state ∷ []) c.loop-state.invariant
    ∙ sym (map-range_with_len_more letter 0 state state (omega arith))

pub returns-clause-entries : goal.returns-clause-entries
returns-clause-entries c =
    let letter : ℕ → List ℕ = λ state. letter_of c.args.letters.now (asked_in c.args.asked.now state) in
    ap length (c.from_vec.ensures ∙ c.loop-state.invariant) ∙ length-map-range_with_len letter 0 c.loop-state.state
    ∙ omega (arith, c.loop-state-test.false, c.loop-state.auto.state-end)
