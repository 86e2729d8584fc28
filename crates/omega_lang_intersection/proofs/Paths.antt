-- The edges of the first automaton that the edges of a path of a product take: they are a path, and a word that goes
-- along the one goes along the other.
use Rattle.std.proofs.Common.{◌≡◌, ℕ, zero, suc, false, List, [], ◌∷◌, map, get_or, refl, sym, subst}
use Rattle.omega_hoa_automaton.specs.Automaton.{Description, IsAutomaton}
use Rattle.omega_hoa_automaton.specs.Branching.{has_universal_branching}
use Rattle.omega_lang_runs.specs.Lasso.{IsStart, IsStep, Leads, marks_at}
use Rattle.omega_lang_runs.specs.Words.{CanBeTaken}
use Rattle.omega_lang_lasso_word.specs.Fitting.{along}
use Rattle.omega_lang_product.specs.PairGraph.{IsPairGraph}
use Rattle.omega_lang_product.specs.declared.graph.PairGraph.{PairGraph}
use Rattle.omega_lang_word_laws.specs.Graphs.{IsGraphOf}
use Rattle.omega_text.specs.NamedWords.{NamedWord}
use Rattle.omega_lang_word_laws.specs.NamedWords.{part_of}
use Rattle.omega_lang_intersection.specs.private.Named.{IsNamed}
use Rattle.omega_lang_intersection.proofs.AcceptedWords.{HoldSame}
use Rattle.omega_lang_intersection.proofs.Made.{first_at, first_marks, first_start, first_step, first_taken, state_at}

-- what stands at an index, under a function
along_map : {A B : Type 0} (f : A → B) (first : A) (others numbers : List A) (i : ℕ)
    → f (along first others numbers i) ≡ along (f first) (map f others) (map f numbers) i
along_map f first others [] zero = refl
along_map f first others [] (suc i) = along_map f first others others i
along_map f first others (x ∷ xs) zero = refl
along_map f first others (x ∷ xs) (suc i) = along_map f first others xs i

module _ (one other : Description) (automaton : IsAutomaton one) (automaton' : IsAutomaton other)
    (plain : has_universal_branching one ≡ false) (plain' : has_universal_branching other ≡ false)
    (graph : PairGraph) (is : IsPairGraph one other graph) (both : Description) (of : IsGraphOf one other graph is both) (named : IsNamed both) where
  abbrev pub taken : ℕ → ℕ
  taken number = first_at one other automaton automaton' plain plain' graph is both of named number

  abbrev pub state : ℕ → ℕ
  state number = state_at one other automaton automaton' plain plain' graph is both of named number

  step_one : (q number q' next q'' : ℕ) → IsStep both q number q' → IsStep both q' next q'' → IsStep one (state number) (taken number) (state next)
  step_one = first_step one other automaton automaton' plain plain' graph is both of named

  -- a path of the product that an edge follows has one of the first automaton
  pub firsts_lead : (q : ℕ) (numbers : List ℕ) (q' after q'' : ℕ) → Leads both q numbers q' → IsStep both q' after q''
      → Leads one (state (get_or numbers 0 after)) (map taken numbers) (state after)
  firsts_lead q [] q' after q'' leads step = refl
  firsts_lead q (n ∷ []) q' after q'' leads step =
      let P : ℕ → Type 0 = λ s. IsStep both s after q'' in
      (state after, step_one q n leads.0 after q'' leads.1 (subst P (sym leads.2) step), refl)
  firsts_lead q (n ∷ m ∷ ns) q' after q'' leads step = (
    state m,
    step_one q n leads.0 m leads.2.0 leads.1 leads.2.1,
    firsts_lead leads.0 (m ∷ ns) q' after q'' leads.2 step,
  )

  -- and begins in a start if the path does
  pub starts_lead : (q : ℕ) (numbers : List ℕ) (q' after q'' : ℕ) → IsStart both q → Leads both q numbers q' → IsStep both q' after q''
      → IsStart one (state (get_or numbers 0 after))
  starts_lead q [] q' after q'' begins leads step =
      let P : ℕ → Type 0 = λ s. IsStep both s after q'' in
      first_start one other automaton automaton' plain plain' graph is both of named q after q'' begins (subst P (sym leads) step)
  starts_lead q (n ∷ ns) q' after q'' begins leads step =
      first_start one other automaton automaton' plain plain' graph is both of named q n leads.0 begins leads.1

  -- marks below the count of sets
  pub marks_same : (q : ℕ) (numbers : List ℕ) (q' : ℕ) → Leads both q numbers q'
      → HoldSame one.sets (map (marks_at one) (map taken numbers)) (map (marks_at both) numbers)
  marks_same q [] q' leads = tt
  marks_same q (n ∷ ns) q' leads = (
    first_marks one other automaton automaton' plain plain' graph is both of named q n leads.0 leads.1,
    marks_same leads.0 ns q' leads.2,
  )

  -- a word with which the edges of a lasso can be taken is one with which those of the first automaton can be
  pub along_firsts : (first : ℕ) (others numbers : List ℕ) (word : NamedWord)
      → ((i : ℕ) → CanBeTaken both (along first others numbers i) (part_of both.propositions word i))
      → (i : ℕ) → CanBeTaken one (along (taken first) (map taken others) (map taken numbers) i) (part_of one.propositions word i)
  along_firsts first others numbers word can i =
      let P : ℕ → Type 0 = λ n. CanBeTaken one n (part_of one.propositions word i) in
      subst P (along_map taken first others numbers i)
      (first_taken one other automaton automaton' plain plain' graph is both of named (along first others numbers i) word i (can i))
