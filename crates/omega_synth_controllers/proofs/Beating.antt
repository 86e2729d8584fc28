-- A strategy of the environment that beats an automaton and one of the system that realizes it, played against each
-- other, make a word that is accepted and is not.
use Rattle.std.proofs.Common.{◌≡◌, ℕ, zero, suc, Bool, List, [], ◌∷◌, refl, sym, ap, ap₂, subst}
use Rattle.omega_hoa_automaton.specs.Automaton.{Description}
use Rattle.omega_lang_runs.specs.Words.{CanBeTaken, IsAccepted}
use Rattle.omega_synth_controllers.specs.Laws.{BeatingExcludesRealizing}
use Rattle.omega_synth_controllers.specs.Strategies.{Environment, System, joined, so_far, word_against, word_of}

module _ (controlled : List ℕ) (environment : Environment) (system : System) where
  -- the letters of the system and those of the environment so far, the last first
  abbrev play : ℕ → List (ℕ → Bool) × List (ℕ → Bool)
  play zero = ([], [])
  play (suc i) = (system (environment (play i).0 ∷ (play i).1) ∷ (play i).0, environment (play i).0 ∷ (play i).1)

  abbrev given : ℕ → ℕ → Bool
  given i = environment (play i).0

  abbrev own : ℕ → ℕ → Bool
  own i = system (given i ∷ (play i).1)

  own_so_far : (i : ℕ) → (play i).0 ≡ so_far own i
  own_so_far zero = refl
  own_so_far (suc i) = ap (λ (before : List (ℕ → Bool)). own i ∷ before) (own_so_far i)

  given_so_far : (i : ℕ) → (play i).1 ≡ so_far given i
  given_so_far zero = refl
  given_so_far (suc i) = ap (λ (before : List (ℕ → Bool)). given i ∷ before) (given_so_far i)

  one_word : (i : ℕ) → word_of controlled system given i ≡ word_against controlled environment own i
  one_word i =
      ap₂ (joined controlled) (ap (λ (before : List (ℕ → Bool)). system (given i ∷ before)) (sym (given_so_far i))) (ap environment (own_so_far i))

pub beating_excludes_realizing : BeatingExcludesRealizing
beating_excludes_realizing a controlled environment system beats realizes =
    let accepted : IsAccepted a (word_of controlled system (given controlled environment system)) = realizes (given controlled environment system) in
    beats (own controlled environment system) (record {
      states = accepted.states;
      edges = accepted.edges;
      accepting = accepted.accepting;
      taken = λ i. subst (CanBeTaken a (accepted.edges i)) (one_word controlled environment system i) (accepted.taken i);
    })
