-- The inputs of edges are each once, and all that the label of each of the edges mentions.
use Rattle.std.proofs.Common.{◌≡◌, ℕ, inl, inr, false, eqb, not, List, [], ◌∷◌, ◌++◌, Contains, Some, sym, ap, refl, ◌∙◌}
use Rattle.std.specs.List.{flat_map}
use Rattle.std.proofs.lemmas.Bool.{cases_Bool, cond_both, eqb-false, false≢true, ne_eqb, or_from, or_parts}
use Rattle.std.proofs.lemmas.List.Folds.{list_any-append}
use Rattle.omega_hoa_label.specs.Label.{LabelTree, propositions}
use Rattle.omega_hoa_satisfiable.specs.Satisfiable.{each_once}
use Rattle.omega_hoa_automaton.specs.Automaton.{BodyEdge, Description, edge_at}
use Rattle.omega_synth_controllers.specs.Strategies.{is_controlled}
use Rattle.omega_synth_game.specs.Classes.{input_mentions, mentioned_inputs, label_of_number}
use Rattle.omega_synth_game.specs.private.Lanes.{AreApart, AreInputsFor, is_one_of}
use Rattle.omega_synth_game.proofs.Agreeing.{input_among, label_is}
use Rattle.omega_synth_game.proofs.Mentions.{none_once, none_passing}

same_other : (p q : ℕ) → eqb p q ≡ false → eqb q p ≡ false
same_other p q off = ne_eqb q p (λ same. eqb-false p q off (sym same))

-- a number more, behind
apart_more : (numbers : List ℕ) (next : ℕ) → AreApart numbers → is_one_of numbers next ≡ false → AreApart (numbers ++ next ∷ [])
apart_more [] next apart new = (refl, tt)
apart_more (number ∷ numbers) next apart new =
    let parts = or_parts (eqb number next) (is_one_of numbers next) new in (
      list_any-append (λ q. eqb q number) numbers (next ∷ [])
          ∙ or_from (is_one_of numbers number) (is_one_of (next ∷ []) number) apart.0 (or_from (eqb next number) false (same_other number next parts.0) refl),
      apart_more numbers next apart.1 parts.1,
    )

pub once_apart : (seen rest : List ℕ) → AreApart seen → AreApart (each_once seen rest)
once_apart seen [] apart = apart
once_apart seen (next ∷ rest) apart =
    cond_both (is_one_of seen next) seen (seen ++ next ∷ []) (λ numbers. AreApart (each_once numbers rest))
    (λ there. once_apart seen rest apart) (λ new. once_apart (seen ++ next ∷ []) rest (apart_more seen next apart new))

-- what is in none of some lists is not in all of them together
none_flat : (f : ℕ → List ℕ) (numbers : List ℕ) (p : ℕ) → ((n : ℕ) → is_one_of (f n) p ≡ false) → is_one_of (flat_map f numbers) p ≡ false
none_flat f [] p none = refl
none_flat f (n ∷ numbers) p none =
    list_any-append (λ q. eqb q p) (f n) (flat_map f numbers)
    ∙ or_from (is_one_of (f n) p) (is_one_of (flat_map f numbers) p) (none n) (none_flat f numbers p none)

-- the inputs of edges serve for the label of each
pub inputs_for : (a : Description) (controlled numbers : List ℕ) (number : ℕ) (edge : BodyEdge) → edge_at a number ≡ Some edge → Contains numbers number
    → AreInputsFor controlled (mentioned_inputs a controlled numbers) (label_of_number a number)
inputs_for a controlled numbers number edge numbered has = record {
  apart = once_apart [] (flat_map (λ n. input_mentions controlled (label_of_number a n)) numbers) tt;
  given = λ p is. elim (cases_Bool (is_controlled controlled p)) [
    | inl held ↦
        absurd (false≢true (sym (none_once p [] (flat_map (λ n. input_mentions controlled (label_of_number a n)) numbers) refl
        (none_flat (λ n. input_mentions controlled (label_of_number a n)) numbers p
        (λ n. none_passing (λ q. not (is_controlled controlled q)) p (propositions (label_of_number a n)) (ap not held)))) ∙ is))
    | inr off ↦ off
  ];
  covers = λ p free mentioned.
      input_among a controlled numbers number edge p has numbered free
      (ap (λ (t : LabelTree). is_one_of (propositions t) p) (sym (label_is a number edge numbered)) ∙ mentioned);
}
