-- Strategies over names against each other, and strategies over the numbers of an automaton's propositions by names.
use Rattle.std.proofs.Common.{◌≡◌, ℕ, zero, suc, ◌<◌, Bool, true, false, List, [], ◌∷◌, length, map, refl, sym, ap, ap₂, subst, ◌∙◌, if◌then◌else◌}
use Rattle.std.proofs.Math.Path.{fun_ext}
use Rattle.std.specs.Prelude.{slice_index_or}
use Rattle.std.specs.List.{list_any}
use Rattle.std.specs.Str.{bytes_eq}
use Rattle.omega_hoa_automaton.specs.Automaton.{Description, IsAutomaton}
use Rattle.omega_lang_word_laws.specs.NamedWords.{WordsAreNamed}
use Rattle.omega_ltl_formula.specs.Formula.{FormulaTree}
use Rattle.omega_ltl_formula.specs.Meaning.{Satisfies}
use Rattle.omega_synth_check.specs.CounterJudging.{NamedLetter}
use Rattle.omega_synth_check.specs.CounterLaws.{AreNumbersOfNames}
use Rattle.omega_synth_check.specs.CounterRefusing.{system_numbers}
use Rattle.omega_synth_check.specs.Laws.{IsNamedOf}
use Rattle.omega_synth_check.specs.Refusing.{AcceptsAll}
use Rattle.omega_synth_check.proofs.SystemNames.{found_name, name_found, system_has, system_named}
use Rattle.omega_synth_controllers.specs.Strategies.{System, is_controlled, so_far, word_against, word_of}
use Rattle.omega_synth_controllers.proofs.Letters.{found_listed, listed_found}
use Rattle.omega_synth_formula.specs.CounterJudging.{IsCounterStrategyForFormula}
use Rattle.omega_synth_formula.specs.CounterLaws.{CounterStrategiesBeatFormulas}
use Rattle.omega_synth_formula.specs.Judging.{IsControllerForFormula}
use Rattle.omega_synth_formula.specs.Laws.{ControllersRealizeFormulas}
use Rattle.omega_text.specs.NamedWords.{NamedWord}
use Rattle.omega_laws.specs.FormulaStrategies.{BeatsFormula, NamedStrategy, RealizesFormula, letters_before, played}

-- ---- one against the other

module _ (outs : List (List ℕ)) (environment system : NamedStrategy) where
  -- the letters of the system and those of the environment so far, the last first
  abbrev play : ℕ → List NamedLetter × List NamedLetter
  play zero = ([], [])
  play (suc i) = (system (environment (play i).0 ∷ (play i).1) ∷ (play i).0, environment (play i).0 ∷ (play i).1)

  abbrev given : NamedWord
  given i = environment (play i).0

  abbrev own : NamedWord
  own i = system (given i ∷ (play i).1)

  own_before : (i : ℕ) → (play i).0 ≡ letters_before own i
  own_before zero = refl
  own_before (suc i) = ap (λ (before : List NamedLetter). own i ∷ before) (own_before i)

  given_before : (i : ℕ) → (play i).1 ≡ letters_before given i
  given_before zero = refl
  given_before (suc i) = ap (λ (before : List NamedLetter). given i ∷ before) (given_before i)

  one_word : (i : ℕ) → played outs (system (letters_before given (suc i))) (given i) ≡ played outs (own i) (environment (letters_before own i))
  one_word i =
      ap₂ (played outs) (ap (λ (before : List NamedLetter). system (given i ∷ before)) (sym (given_before i))) (ap environment (own_before i))

pub not_both : (formula : FormulaTree) (outs : List (List ℕ)) (environment system : NamedStrategy) → BeatsFormula formula outs environment → RealizesFormula formula outs system → ⊥
not_both formula outs environment system beats realizes =
    beats (own outs environment system)
    (subst (Satisfies formula) (fun_ext (one_word outs environment system)) (realizes (given outs environment system)))

-- ---- by names

same_bool : (a b : Bool) → (a ≡ true → b ≡ true) → (b ≡ true → a ≡ true) → a ≡ b
same_bool true b there back = sym (there refl)
same_bool false true there back = back refl
same_bool false false there back = refl

module _ (named : WordsAreNamed) (a : Description) (automaton : IsAutomaton a) (outs : List (List ℕ)) where
  abbrev name_at : ℕ → List ℕ
  name_at p = slice_index_or a.propositions p []

  -- a letter by numbers
  abbrev seen : NamedLetter → ℕ → Bool
  seen letter p = letter (name_at p)

  abbrev controlled : List ℕ
  controlled = system_numbers a.propositions outs

  pub numbers_of_outs : AreNumbersOfNames a controlled outs
  numbers_of_outs p low = (λ has. system_named a.propositions outs p has, λ has. system_has a.propositions outs p low has)

  same_side : (p : ℕ) → p < length a.propositions → is_controlled controlled p ≡ list_any (bytes_eq (name_at p)) outs
  same_side p low =
      same_bool (is_controlled controlled p) (list_any (bytes_eq (name_at p)) outs)
      (λ found. name_found (name_at p) outs ((numbers_of_outs p low).0 (found_listed controlled p found)))
      (λ found. listed_found controlled p ((numbers_of_outs p low).1 (found_name (name_at p) outs found)))

  module _ (strategy : System) where
    -- the strategy by names
    abbrev pub by_names : NamedStrategy
    by_names letters = (named a (λ i. strategy (map seen letters)) automaton).0 0

    seen_by_names : (letters : List NamedLetter) (p : ℕ) → p < length a.propositions → by_names letters (name_at p) ≡ strategy (map seen letters) p
    seen_by_names letters p low = (named a (λ i. strategy (map seen letters)) automaton).1 0 p low

    seen_before : (word : NamedWord) (i : ℕ) → map seen (letters_before word i) ≡ so_far (λ j. seen (word j)) i
    seen_before word zero = refl
    seen_before word (suc i) = ap (λ (before : List (ℕ → Bool)). seen (word i) ∷ before) (seen_before word i)

    seen_at : (word : NamedWord) (i p : ℕ) → p < length a.propositions → strategy (so_far (λ j. seen (word j)) i) p ≡ by_names (letters_before word i) (name_at p)
    seen_at word i p low =
        ap (λ (letters : List (ℕ → Bool)). strategy letters p) (sym (seen_before word i)) ∙ sym (seen_by_names (letters_before word i) p low)

    pub word_answered : (given : NamedWord)
        → IsNamedOf a (word_of controlled strategy (λ i. seen (given i))) (λ i. played outs (by_names (letters_before given (suc i))) (given i))
    word_answered given i p low =
        ap₂ (λ (system value : Bool). if system then value else given i (name_at p)) (same_side p low) (seen_at given (suc i) p low)

    pub word_given : (own : NamedWord)
        → IsNamedOf a (word_against controlled strategy (λ i. seen (own i))) (λ i. played outs (own i) (by_names (letters_before own i)))
    word_given own i p low =
        ap₂ (λ (system value : Bool). if system then own i (name_at p) else value) (same_side p low) (seen_at own i p low)

  pub realized : ControllersRealizeFormulas → (formula : FormulaTree) → AcceptsAll a → IsControllerForFormula formula a controlled
      → (system : NamedStrategy) × RealizesFormula formula outs system
  realized law formula all for =
      let found = law formula a controlled automaton all for in
      (by_names found.0, λ given. found.1 (λ i. seen (given i)) (λ i. played outs (by_names found.0 (letters_before given (suc i))) (given i)) (word_answered found.0 given))

  pub beaten : CounterStrategiesBeatFormulas → (formula : FormulaTree) → AcceptsAll a → IsCounterStrategyForFormula formula a outs
      → (environment : NamedStrategy) × BeatsFormula formula outs environment
  beaten law formula all for =
      let found = law formula a outs controlled automaton all numbers_of_outs for in
      (by_names found.0, λ own. found.1 (λ i. seen (own i)) (λ i. played outs (own i) (by_names found.0 (letters_before own i))) (word_given found.0 own))
