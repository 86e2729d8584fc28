-- The start is a state of the rounds, and letters listed by state are those of the questions asked.
use Rattle.std.proofs.Common.{◌≡◌, ℕ, ◌<◌, List, [], ◌∷◌, length, map, sym, ap, ◌∙◌, subst, arith}
use Rattle.std.specs.List.{range_with_len}
use Rattle.std.proofs.lemmas.List.FromFn.{get_or-map-range_with_len, length-map-range_with_len}
use Rattle.omega_hoa_automaton.specs.Automaton.{AreBelow, Description}
use Rattle.omega_synth_rounds.specs.Rounds.{asked_in}
use Rattle.omega_synth_rounds.specs.declared.rounds.Rounds.{Rounds}
use Rattle.omega_synth_game.specs.Laws.{IsParted, NoStartIsRefused}
use Rattle.omega_synth_game.specs.RoundsOf.{AreLettersAsked, letter_of}
use Rattle.omega_synth_realize.specs.Realizing.{IsRealizability}
use Rattle.omega_synth_realize.specs.declared.realizability.Realizability.TheVariants.{Unrealizable}

pub start_is_state : (a : Description) (controlled : List ℕ) (rounds : Rounds) (letters : List (List ℕ)) (start : ℕ)
    → IsParted a controlled rounds letters start → start < length rounds.states
start_is_state a controlled rounds letters start parted =
    let P : List ℕ → Type 0 = λ states. AreBelow a.states states in
    let below : start < a.states =
    (subst P parted.begins.2 (parted.automaton.starts parted.begins.0 (start ∷ []) parted.begins.1).below) 0 0 (omega arith) in
    omega (arith, below, parted.rounds_are.states)

pub letters_are : (states : ℕ) (letters : List (List ℕ)) (asked : List ℕ) (found : List (List ℕ))
    → found ≡ map (λ state. letter_of letters (asked_in asked state)) (range_with_len 0 states)
    → AreLettersAsked states letters asked found
letters_are states letters asked found is state below =
    subst (λ (list : List (List ℕ)). letter_of list state ≡ letter_of letters (asked_in asked state)) (sym is)
    (get_or-map-range_with_len (λ s. letter_of letters (asked_in asked s)) 0 states state state [] below (omega arith))

-- there is a letter for each state
pub letters_count : (states : ℕ) (letters : List (List ℕ)) (asked : List ℕ) (found : List (List ℕ))
    → found ≡ map (λ state. letter_of letters (asked_in asked state)) (range_with_len 0 states) → length found ≡ states
letters_count states letters asked found is =
    ap length is ∙ length-map-range_with_len (λ state. letter_of letters (asked_in asked state)) 0 states

-- without a start no edges are a counter-strategy
pub startless : NoStartIsRefused → (a : Description) (controlled kept : List ℕ) (letters : List (List ℕ)) → a.starts ≡ [] → kept ≡ []
    → length letters ≡ a.states → IsRealizability a controlled (Unrealizable kept letters)
startless refused a controlled kept letters none nothing entries =
    let counter = refused a controlled letters none in
    subst (λ (edges : List ℕ). IsRealizability a controlled (Unrealizable edges letters)) (sym nothing)
    (counter.0, λ k within. absurd (omega (arith, within)), counter.1, entries, λ number has. absurd (omega (arith, has.1)))
