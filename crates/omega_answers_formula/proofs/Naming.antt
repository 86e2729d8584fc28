-- The name of an automaton changes neither its words nor its determinism.
use Rattle.std.proofs.Common.{◌≡◌, ◌+◌, ℕ, Bool, List, subst}
use Rattle.omega_hoa_automaton.specs.Automaton.{Description}
use Rattle.omega_lang_runs.specs.Lasso.{IsStep}
use Rattle.omega_lang_runs.specs.Words.{IsAccepted}
use Rattle.omega_lang_word_laws.specs.NamedWords.{part_of}
use Rattle.omega_ltl_formula.specs.Formula.{FormulaTree}
use Rattle.omega_ltl_equality.specs.Judging.{IsJudged}
use Rattle.omega_answers_formula.specs.DeterministicNegation.{IsNamedAutomatonOf, named}

module _ (name : List ℕ) (a : Description) where
  step_named : (from number to : ℕ) → IsStep a from number to → IsStep (named name a) from number to
  step_named from number to is = record { edge = is.edge; numbered = is.numbered; usable = is.usable; leaves = is.leaves; enters = is.enters }

  step_unnamed : (from number to : ℕ) → IsStep (named name a) from number to → IsStep a from number to
  step_unnamed from number to is = record { edge = is.edge; numbered = is.numbered; usable = is.usable; leaves = is.leaves; enters = is.enters }

  accepts_named : (word : ℕ → ℕ → Bool) → IsAccepted a word → IsAccepted (named name a) word
  accepts_named word is = record {
    states = is.states;
    edges = is.edges;
    accepting = record {
      run = record {
        begins = is.accepting.run.begins;
        steps = λ i. step_named (is.states i) (is.edges i) (is.states (i + 1)) (is.accepting.run.steps i);
      };
      accepted = is.accepting.accepted;
    };
    taken = λ i. record { edge = (is.taken i).edge; numbered = (is.taken i).numbered; allowed = (is.taken i).allowed };
  }

  accepts_unnamed : (word : ℕ → ℕ → Bool) → IsAccepted (named name a) word → IsAccepted a word
  accepts_unnamed word is = record {
    states = is.states;
    edges = is.edges;
    accepting = record {
      run = record {
        begins = is.accepting.run.begins;
        steps = λ i. step_unnamed (is.states i) (is.edges i) (is.states (i + 1)) (is.accepting.run.steps i);
      };
      accepted = is.accepting.accepted;
    };
    taken = λ i. record { edge = (is.taken i).edge; numbered = (is.taken i).numbered; allowed = (is.taken i).allowed };
  }

  -- what is judged without the name is judged with it
  pub named_judged : (formula : FormulaTree) → IsJudged formula a → IsJudged formula (named name a)
  named_judged formula is = record {
    deterministic = record { plain = is.deterministic.plain; one_start = is.deterministic.one_start; apart = is.deterministic.apart };
    exact = λ omniscience word. (
      λ accepted. (is.exact omniscience word).0 (accepts_unnamed (part_of a.propositions word) accepted),
      λ satisfied. accepts_named (part_of a.propositions word) ((is.exact omniscience word).1 satisfied),
    );
  }

-- the same of a name, propositions and a formula that are the same
pub named_alike : {name title : List ℕ} {propositions names : List (List ℕ)} {formula tree : FormulaTree} (output : List ℕ)
    → name ≡ title → propositions ≡ names → formula ≡ tree → IsNamedAutomatonOf name propositions formula output → IsNamedAutomatonOf title names tree output
named_alike {title = title} {propositions = propositions} {names = names} {formula = formula} output names_is propositions_are formula_is written =
    subst (λ (f : FormulaTree). IsNamedAutomatonOf title names f output) formula_is
    (subst (λ (p : List (List ℕ)). IsNamedAutomatonOf title p formula output) propositions_are
    (subst (λ (n : List ℕ). IsNamedAutomatonOf n propositions formula output) names_is written))
