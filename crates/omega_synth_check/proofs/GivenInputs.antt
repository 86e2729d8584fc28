-- The letter of a question lists propositions of the environment alone.
use Rattle.std.proofs.Common.{◌≡◌, ◌==◌, ◌%◌, ◌/◌, ◌⊎◌, ℕ, zero, suc, ◌+◌, ◌<◌, inl, inr, Bool, true, false, cond, not, List, [], ◌∷◌, ◌++◌, length, Contains, Option, None, Some, refl, sym, ap, subst, ◌∙◌, arith}
use Rattle.std.specs.Prelude.{filter, option_map}
use Rattle.std.specs.List.{flat_map, list_any}
use Rattle.std.specs.Option.{unwrap_or}
use Rattle.std.proofs.lemmas.Bool.{false≢true}
use Rattle.std.proofs.lemmas.List.Elements.{Contains-append_cases}
use Rattle.omega_hoa_label.specs.Label.{constant, propositions}
use Rattle.omega_hoa_satisfiable.specs.Satisfiable.{each_once}
use Rattle.omega_hoa_automaton.specs.Automaton.{BodyEdge, Description, IsAutomaton, edge_at}
use Rattle.omega_lang_runs.specs.Words.{index_in}
use Rattle.omega_lang_runs.proofs.Kept.{edge_kept}
use Rattle.omega_lang_intersection.proofs.Formulas.{label_below}
use Rattle.omega_synth_controllers.specs.Strategies.{is_controlled}
use Rattle.omega_synth_controllers.proofs.Letters.{listed_found}
use Rattle.omega_synth_game.specs.Answering.{whole_label}
use Rattle.omega_synth_game.specs.Classes.{IsFirstLetter, input_mentions, label_of_number, mentioned_inputs}
use Rattle.omega_synth_game.specs.Letters.{letter_numbered}
use Rattle.omega_synth_check.specs.Judging.{AreInputs}

behind : (x : ℕ) (xs : List ℕ) (p : ℕ) → Contains xs p → Contains (x ∷ xs) p
behind x xs p has = (suc has.0, omega (arith, has.1), has.2)

nothing : (p : ℕ) → Contains [] p → ⊥
nothing p has = omega (arith, has.1)

first_or : (x : ℕ) (xs : List ℕ) (p : ℕ) (Q : Type 0) → (x ≡ p → Q) → (Contains xs p → Q) → Contains (x ∷ xs) p → Q
first_or x xs p Q here later (zero, below, same) = here same
first_or x xs p Q here later (suc k, below, same) = later (k, omega arith, same)

either : (b : Bool) (xs ys : List ℕ) (p : ℕ) (Q : Type 0) → (b ≡ true → Contains xs p → Q) → (Contains ys p → Q) → Contains (cond b xs ys) p → Q
either true xs ys p Q one other has = one refl has
either false xs ys p Q one other has = other has

-- a letter with a number lists inputs
numbered_within : (inputs : List ℕ) (number p : ℕ) → Contains (letter_numbered inputs number) p → Contains inputs p
numbered_within [] number p has = has
numbered_within (input ∷ inputs) number p has =
    let rest : Contains (letter_numbered inputs (number / 2)) p → Contains inputs p = numbered_within inputs (number / 2) p in
    either (number % 2 == 1) (input ∷ letter_numbered inputs (number / 2)) (letter_numbered inputs (number / 2)) p (Contains (input ∷ inputs) p)
    (λ odd. first_or input (letter_numbered inputs (number / 2)) p (Contains (input ∷ inputs) p) (λ same. (0, omega arith, same)) (λ later. behind input inputs p (rest later)))
    (λ later. behind input inputs p (rest later)) has

-- what is kept once is listed
once_within : (seen rest : List ℕ) (p : ℕ) → Contains (each_once seen rest) p → Contains seen p ⊎ Contains rest p
once_within seen [] p has = inl has
once_within seen (x ∷ rest) p has =
    let old : Bool = list_any (λ number. number == x) seen in
    elim (once_within (cond old seen (seen ++ x ∷ [])) rest p has) [
      | inl kept ↦
          either old seen (seen ++ x ∷ []) p (Contains seen p ⊎ Contains (x ∷ rest) p) (λ is before. inl before)
          (λ more. elim (Contains-append_cases seen (x ∷ []) p more) [
            | inl before ↦ inl before
            | inr last ↦ inr (first_or x [] p (Contains (x ∷ rest) p) (λ same. (0, omega arith, same)) (λ none. absurd (nothing p none)) last)
          ])
          kept
      | inr new ↦ inr (behind x rest p new)
    ]

flat_within : (f : ℕ → List ℕ) (numbers : List ℕ) (p : ℕ) → Contains (flat_map f numbers) p → (number : ℕ) × Contains (f number) p
flat_within f [] p has = absurd (nothing p has)
flat_within f (number ∷ numbers) p has = elim (Contains-append_cases (f number) (flat_map f numbers) p has) [
  | inl here ↦ (number, here)
  | inr later ↦ flat_within f numbers p later
]

filter_within : (test : ℕ → Bool) (xs : List ℕ) (p : ℕ) → Contains (filter test xs) p → Contains xs p × (test p ≡ true)
filter_within test [] p has = absurd (nothing p has)
filter_within test (x ∷ xs) p has =
    let rest : Contains (filter test xs) p → Contains xs p × (test p ≡ true) = filter_within test xs p in
    either (test x) (x ∷ filter test xs) (filter test xs) p (Contains (x ∷ xs) p × (test p ≡ true))
    (λ passes. first_or x (filter test xs) p (Contains (x ∷ xs) p × (test p ≡ true)) (λ same. ((0, omega arith, same), ap test (sym same) ∙ passes))
    (λ later. (behind x xs p (rest later).0, (rest later).1)))
    (λ later. (behind x xs p (rest later).0, (rest later).1)) has

not_true : (b : Bool) → not b ≡ true → b ≡ false
not_true true is = absurd (false≢true is)
not_true false is = refl

-- labels of edges mention propositions
label_within : (a : Description) → IsAutomaton a → (number p : ℕ) → Contains (propositions (label_of_number a number)) p → p < length a.propositions
label_within a automaton number p has = go (edge_at a number) refl has
  where
    go : (found : Option BodyEdge) → edge_at a number ≡ found
        → Contains (propositions (unwrap_or (option_map (whole_label a number) found) (constant true))) p → p < length a.propositions
    go None is there = absurd (nothing p there)
    go (Some edge) is there =
        let kept = edge_kept a automaton number edge is in
        label_below a (index_in a.defined number) edge.source.label edge.edge.label kept.0.label kept.1.label p there

pub given_inputs : (a : Description) → IsAutomaton a → (controlled numbers letter : List ℕ) → IsFirstLetter a controlled numbers letter → AreInputs a controlled letter
given_inputs a automaton controlled numbers letter first p has =
    let mentions : ℕ → List ℕ = λ number. input_mentions controlled (label_of_number a number) in
    let listed : Contains (mentioned_inputs a controlled numbers) p =
    numbered_within (mentioned_inputs a controlled numbers) first.number p (subst (λ (list : List ℕ). Contains list p) first.is has) in
    let mentioned : (number : ℕ) × Contains (mentions number) p = elim (once_within [] (flat_map mentions numbers) p listed) [
      | inl none ↦ absurd (nothing p none)
      | inr flat ↦ flat_within mentions numbers p flat
    ] in
    let kept = filter_within (λ q. not (is_controlled controlled q)) (propositions (label_of_number a mentioned.0)) p mentioned.1 in (
      label_within a automaton mentioned.0 p kept.0,
      λ held. false≢true (sym (not_true (is_controlled controlled p) kept.1) ∙ listed_found controlled p held),
    )
