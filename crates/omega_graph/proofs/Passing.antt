-- What the edges of a list meet occurs on it, and nothing else does.
use Rattle.std.proofs.Common.{◌≡◌, ℕ, ◌<◌, Bool, true, false, not, ◌⊎◌, inl, inr, List, [], ◌∷◌, length, Contains, sym, ap, ◌∙◌, arith}
use Rattle.std.proofs.lemmas.Bool.{cases_Bool, false≢true, or_cases, or_left, or_right}
use Rattle.omega_hoa_acceptance.specs.Acceptance.{occurs}
use Rattle.omega_graph.specs.Marks.{meets}
use Rattle.omega_graph.specs.Walks.{MarkedGraph, marks_on}
use Rattle.omega_graph.proofs.ClosedWalking.{first_or_later, has_first, has_later}

module _ (graph : MarkedGraph) (negated : Bool) (set : ℕ) where
  -- what an edge meets occurs
  pub met_on : (walk : List ℕ) (number : ℕ) → Contains walk number → meets negated set (graph number).marks ≡ true
      → occurs (marks_on graph walk) negated set ≡ true
  met_on [] number has met = let below : has.0 < 0 = has.1 in absurd (omega arith)
  met_on (first ∷ walk) number has met =
      elim (first_or_later first walk number has) [
        | inl same ↦
            or_left (meets negated set (graph first).marks) (occurs (marks_on graph walk) negated set)
            (ap (λ n. meets negated set (graph n).marks) same ∙ met)
        | inr later ↦
            or_right (meets negated set (graph first).marks) (occurs (marks_on graph walk) negated set) (met_on walk number later met)
      ]

  -- what occurs is met by an edge
  pub met_by : (walk : List ℕ) → occurs (marks_on graph walk) negated set ≡ true
      → (number : ℕ) × Contains walk number × (meets negated set (graph number).marks ≡ true)
  met_by [] is = absurd (false≢true is)
  met_by (first ∷ walk) is =
      elim (or_cases (meets negated set (graph first).marks) (occurs (marks_on graph walk) negated set) is) [
        | inl here ↦ (first, has_first first walk, here)
        | inr later ↦ let found = met_by walk later in (found.0, has_later first walk found.0 found.1, found.2)
      ]

  -- what does not occur is met by no edge
  pub unmet_on : (walk : List ℕ) → occurs (marks_on graph walk) negated set ≡ false
      → (number : ℕ) → Contains walk number → meets negated set (graph number).marks ≡ false
  unmet_on walk none number has = cases (cases_Bool (meets negated set (graph number).marks))
    where
      cases : (meets negated set (graph number).marks ≡ true) ⊎ (meets negated set (graph number).marks ≡ false)
          → meets negated set (graph number).marks ≡ false
      cases (inl met) = absurd (false≢true (sym none ∙ met_on walk number has met))
      cases (inr unmet) = unmet

  -- what no edge meets does not occur
  pub unmet : (walk : List ℕ) → ((number : ℕ) → Contains walk number → meets negated set (graph number).marks ≡ false)
      → occurs (marks_on graph walk) negated set ≡ false
  unmet walk none = cases (cases_Bool (occurs (marks_on graph walk) negated set))
    where
      cases : (occurs (marks_on graph walk) negated set ≡ true) ⊎ (occurs (marks_on graph walk) negated set ≡ false)
          → occurs (marks_on graph walk) negated set ≡ false
      cases (inl is) =
          let found = met_by walk is in
          absurd (false≢true (sym (none found.0 found.1) ∙ found.2))
      cases (inr not) = not

  -- what occurs on some edges occurs on more
  pub occurs_more : (xs ys : List ℕ) → ((number : ℕ) → Contains xs number → Contains ys number)
      → occurs (marks_on graph xs) negated set ≡ true → occurs (marks_on graph ys) negated set ≡ true
  occurs_more xs ys among is =
      let found = met_by xs is in
      met_on ys found.0 (among found.0 found.1) found.2

  -- if all edges give one answer, so does a list of some of them
  pub all_alike : (walk : List ℕ) (value : Bool) → 0 < length walk
      → ((number : ℕ) → Contains walk number → meets negated set (graph number).marks ≡ value)
      → occurs (marks_on graph walk) negated set ≡ value
  all_alike [] value longer alike = absurd (omega arith)
  all_alike (first ∷ walk) true longer alike = met_on (first ∷ walk) first (has_first first walk) (alike first (has_first first walk))
  all_alike (first ∷ walk) false longer alike = unmet (first ∷ walk) alike
