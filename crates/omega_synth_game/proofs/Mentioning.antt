-- Inputs of labels, of one edge more.
use Rattle.std.proofs.Common.{◌≡◌, ◌==◌, ℕ, ◌+◌, ◌<◌, ◌≤◌, cond, List, [], ◌∷◌, ◌++◌, length, take, drop, get_or, sym, ap, refl, ◌∙◌, arith}
use Rattle.std.specs.List.{flat_map, list_any}
use Rattle.std.proofs.lemmas.Grind.{flat_map-append}
use Rattle.std.proofs.lemmas.List.{append-nil, take-append-drop, take_more}
use Rattle.omega_hoa_satisfiable.specs.Satisfiable.{each_once}
use Rattle.omega_hoa_satisfiable.proofs.Valuations.{length-each_once}
use Rattle.omega_hoa_automaton.specs.Automaton.{Description}
use Rattle.omega_synth_game.specs.Classes.{input_mentions, mentioned_inputs, label_of_number}

pub each_once-append : (seen xs ys : List ℕ) → each_once seen (xs ++ ys) ≡ each_once (each_once seen xs) ys
each_once-append seen [] ys = refl
each_once-append seen (x ∷ xs) ys =
    each_once-append (cond (list_any (λ number. number == x) seen) seen (seen ++ x ∷ [])) xs ys

-- the inputs of one edge more
pub inputs_more : (a : Description) (controlled numbers : List ℕ) (index number : ℕ) → index < length numbers → number ≡ get_or numbers index 0
    → mentioned_inputs a controlled (take (index + 1) numbers)
    ≡ each_once (mentioned_inputs a controlled (take index numbers)) (input_mentions controlled (label_of_number a number))
inputs_more a controlled numbers index number below here =
    let f : ℕ → List ℕ = λ n. input_mentions controlled (label_of_number a n) in
    ap (λ list. each_once [] (flat_map f list)) (take_more numbers index 0 below ∙ ap (λ n. take index numbers ++ n ∷ []) (sym here))
    ∙ ap (each_once []) (flat_map-append f (take index numbers) (number ∷ []) ∙ ap (λ list. flat_map f (take index numbers) ++ list) (append-nil (f number)))
    ∙ each_once-append [] (flat_map f (take index numbers)) (f number)

-- some edges mention no more inputs than all
pub inputs_within : (a : Description) (controlled numbers : List ℕ) (index : ℕ)
    → length (mentioned_inputs a controlled (take index numbers)) ≤ length (mentioned_inputs a controlled numbers)
inputs_within a controlled numbers index =
    let f : ℕ → List ℕ = λ n. input_mentions controlled (label_of_number a n) in
    let parted : mentioned_inputs a controlled numbers ≡ each_once (mentioned_inputs a controlled (take index numbers)) (flat_map f (drop index numbers)) =
    ap (λ list. each_once [] (flat_map f list)) (sym (take-append-drop index numbers))
    ∙ ap (each_once []) (flat_map-append f (take index numbers) (drop index numbers))
    ∙ each_once-append [] (flat_map f (take index numbers)) (flat_map f (drop index numbers)) in
    omega (arith, ap length parted, length-each_once (mentioned_inputs a controlled (take index numbers)) (flat_map f (drop index numbers)))
