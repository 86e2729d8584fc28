-- Words that go along a lasso.
use Rattle.std.proofs.Common.{◌≡◌, ℕ, zero, suc, Bool, List, [], ◌∷◌, length, Option, None, Some, refl, sym, ◌∙◌}
use Rattle.omega_hoa_label.specs.Label.{LabelTree}
use Rattle.omega_hoa_automaton.specs.Automaton.{BodyEdge, Description, edge_at}
use Rattle.omega_lang_runs.specs.Lasso.{IsStep, Leads, label_of}
use Rattle.omega_lang_runs.specs.Words.{Allows, CanBeTaken}
use Rattle.omega_lang_runs.proofs.runs.Words.{held_by}
use Rattle.omega_lang_lasso_word.specs.Fitting.{along}
use Rattle.omega_lang_intersection.specs.Intersection.{GoesAlong}
use Rattle.omega_text.specs.NamedWords.{NamedWord}
use Rattle.omega_lang_word_laws.specs.NamedWords.{part_of}
use Rattle.omega_lang_word_laws.proofs.naming.Named.{AgreeBelow, named_by, part_named}
use Rattle.omega_lang_product.proofs.Holding.{truth_same}
use Rattle.omega_lang_intersection.specs.private.Named.{IsNamed}

-- an edge that words which agree allow is allowed by both
pub allowed_alike : (a : Description) (named : IsNamed a) (word other : ℕ → ℕ → Bool) → AgreeBelow (length a.propositions) word other
    → (number i : ℕ) (edge : BodyEdge) → edge_at a number ≡ Some edge → Allows a number (label_of edge) (word i) → Allows a number (label_of edge) (other i)
allowed_alike a named word other agree number i edge at = go (label_of edge) refl
  where
    go : (label : Option LabelTree) → label_of edge ≡ label → Allows a number label (word i) → Allows a number label (other i)
    go None is values = λ p below. sym (agree i p below) ∙ values p below
    go (Some label) is holds = sym (truth_same (word i) (other i) label (λ p h. agree i p (named.below number edge label at is p h))) ∙ holds

-- an edge that can be taken with what an automaton sees of a word can be taken with what it sees of another the same
taken_same : (a : Description) (named : IsNamed a) (word other : ℕ → ℕ → Bool) → AgreeBelow (length a.propositions) word other
    → (number i : ℕ) → CanBeTaken a number (word i) → CanBeTaken a number (other i)
taken_same a named word other agree number i taken = record {
  edge = taken.edge;
  numbered = taken.numbered;
  allowed = allowed_alike a named word other agree number i taken.edge taken.numbered taken.allowed;
}

-- each step can be taken with something
step_taken : (a : Description) (from number to : ℕ) → IsStep a from number to → (held : ℕ → Bool) × CanBeTaken a number held
step_taken a from number to step =
    let held = held_by a number (label_of step.edge) step.usable in
    (held.0, record { edge = step.edge; numbered = step.numbered; allowed = held.1 })

-- so some word over names goes along a lasso
module _ (a : Description) (named : IsNamed a) (loop_state first : ℕ) (others : List ℕ) (lap : Leads a loop_state (first ∷ others) loop_state) where
  letter : (s i : ℕ) (numbers : List ℕ) → Leads a s numbers loop_state → (held : ℕ → Bool) × CanBeTaken a (along first others numbers i) held
  letter s zero [] leads = step_taken a loop_state first lap.0 lap.1
  letter s zero (x ∷ xs) leads = step_taken a s x leads.0 leads.1
  letter s (suc i) [] leads = letter lap.0 i others lap.2
  letter s (suc i) (x ∷ xs) leads = letter leads.0 i xs leads.2

  pub word_along : (s : ℕ) (stem : List ℕ) → Leads a s stem loop_state → (word : NamedWord) × GoesAlong a stem (first ∷ others) word
  word_along s stem leads =
      let word : ℕ → ℕ → Bool = λ i. (letter s i stem leads).0 in (
        named_by a.propositions word,
        λ i. taken_same a named word (part_of a.propositions (named_by a.propositions word)) (part_named a.propositions named.apart word)
            (along first others stem i) i (letter s i stem leads).1,
      )
