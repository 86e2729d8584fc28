-- An automaton that accepts all and goes on at each letter of a word over names accepts it.
use Rattle.std.proofs.Common.{◌≡◌, ℕ, suc, ◌+◌, refl, sym, subst, arith}
use Rattle.omega_hoa_acceptance.specs.Acceptance.{AccTree}
use Rattle.omega_hoa_automaton.specs.Automaton.{Description}
use Rattle.omega_lang_runs.specs.Lasso.{IsStart, IsStep, marks_at}
use Rattle.omega_lang_runs.specs.Runs.{Satisfies}
use Rattle.omega_text.specs.NamedWords.{NamedWord}
use Rattle.omega_lang_word_laws.specs.NamedWords.{AcceptsNamed}
use Rattle.omega_synth_check.specs.CounterJudging.{GoesAt}
use Rattle.omega_synth_check.specs.Refusing.{AcceptsAll}

module _ (a : Description) (all : AcceptsAll a) (word : NamedWord) (states : ℕ → ℕ) (begins : IsStart a (states 0))
    (on : (i : ℕ) → GoesAt a (word i) (states i) (states (suc i))) where
  pub goes_accepts : AcceptsNamed a word
  goes_accepts = record {
    states = states;
    edges = λ i. (on i).number;
    accepting = record {
      run = record {
        begins = begins;
        steps = λ i. (let e : suc i ≡ i + 1 = omega arith in
            subst (λ n. IsStep a (states i) (on i).number (states n)) e (on i).step);
      };
      accepted = subst (λ (formula : AccTree). Satisfies (λ i. marks_at a (on i).number) formula) (sym all.1) refl;
    };
    taken = λ i. (on i).taken;
  }
