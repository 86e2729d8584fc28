-- Pairs to which a specification and a strategy come by the same letters: states of the product that are reached.
use Rattle.std.proofs.Common.{◌≡◌, ℕ, ◌<◌, ◌⊎◌, inl, inr, Bool, false, List, [], ◌∷◌, ◌++◌, Contains, refl, sym, subst, ◌∙◌}
use Rattle.omega_hoa_automaton.specs.Automaton.{Description, IsAutomaton}
use Rattle.omega_hoa_automaton.specs.Branching.{has_universal_branching}
use Rattle.omega_hoa_edges.specs.Determinism.{IsDeterministic}
use Rattle.omega_lang_complement.specs.Complement.{IsComplement}
use Rattle.omega_lang_product.specs.PairGraph.{IsPairGraph}
use Rattle.omega_lang_product.specs.Pairs.{Pair, pair_number}
use Rattle.omega_lang_product.specs.declared.graph.PairGraph.{PairGraph}
use Rattle.omega_lang_runs.specs.Lasso.{IsStart, IsStep, Leads, label_of}
use Rattle.omega_lang_runs.proofs.runs.Words.{held_by}
use Rattle.omega_lang_word_laws.specs.Graphs.{IsGraphOf}
use Rattle.omega_lang_word_laws.specs.NamedWords.{part_of}
use Rattle.omega_lang_word_laws.proofs.naming.Named.{allowed_same, named_by, part_named}
use Rattle.omega_synth_check.specs.CounterJudging.{ComeTo, GoesAt, NamedLetter, begin, go_on}
use Rattle.omega_synth_check.specs.Judging.{IsReached}
use Rattle.omega_synth_check.proofs.Joint.{AreBegun, IsApart, IsTogether, apart, begins_with, begun, pairs, tells, together}
use Rattle.omega_synth_check.proofs.Rests.{Lacks, goes_within, own_goes, own_start, rest_goes, rest_start, sink_goes, start_within}

-- one step more
pub leads_on : (a : Description) (from : ℕ) (numbers : List ℕ) (to number next : ℕ) → Leads a from numbers to → IsStep a to number next
    → Leads a from (numbers ++ number ∷ []) next
leads_on a from [] to number next leads step = (next, subst (λ (s : ℕ). IsStep a s number next) (sym leads) step, refl)
leads_on a from (n ∷ numbers) to number next leads step = (leads.0, leads.1, leads_on a leads.0 numbers to number next leads.2 step)

pub reached_on : (a : Description) (state number next : ℕ) → IsReached a state → IsStep a state number next → IsReached a next
reached_on a state number next reached step = record {
  start = reached.start;
  begins = reached.begins;
  numbers = reached.numbers ++ number ∷ [];
  leads = leads_on a reached.start reached.numbers state number next reached.leads step;
}

-- each step is one at some letter
pub step_goes : (a : Description) → IsAutomaton a → (s number to : ℕ) → IsStep a s number to → (letter : NamedLetter) × GoesAt a letter s to
step_goes a automaton s number to step =
    let held = held_by a number (label_of step.edge) step.usable in
    let word : ℕ → ℕ → Bool = λ i. held.0 in
    let letter : NamedLetter = named_by a.propositions word 0 in (
      letter,
      record {
        number = number;
        step = step;
        taken = record {
          edge = step.edge;
          numbered = step.numbered;
          allowed = allowed_same a automaton word (part_of a.propositions (named_by a.propositions word)) (part_named a.propositions automaton.unlike word) number 0 step.edge step.numbered held.1;
        };
      },
    )

module _ (one own rest both : Description) (graph : PairGraph) (automaton : IsAutomaton one) (plain : has_universal_branching one ≡ false)
    (is_own : IsAutomaton own) (deterministic : IsDeterministic own) (complemented : IsComplement own rest) (is_rest : IsAutomaton rest)
    (plain' : has_universal_branching rest ≡ false) (is_both : IsAutomaton both) (is : IsPairGraph one rest graph) (of : IsGraphOf one rest graph is both) where
  abbrev ps : List Pair
  ps = pairs one rest both graph automaton is_rest plain plain' is of

  -- both come to the pair, or the second side is the sink
  abbrev Comes : Pair → Type 0
  Comes pair = (ComeTo one own pair.0 pair.1 × (pair.1 < own.states)) ⊎ (pair.1 ≡ own.states)

  -- a state of the product is such a pair
  pub record IsKnown (p : ℕ) : Type 0 where
    pub pair : Pair
    pub within : Contains ps pair
    pub here : p ≡ pair_number ps pair
    pub comes : Comes pair

  known_start : (p : ℕ) → IsStart both p → IsKnown p
  known_start p begins =
      let b : AreBegun one rest both graph automaton is_rest plain plain' is of p = begun one rest both graph automaton is_rest plain plain' is of p begins in
      record {
        pair = b.pair;
        within = b.within;
        here = b.here;
        comes = go b.pair b.first (rest_start own rest is_own deterministic complemented is_rest b.pair.1 b.second);
      }
    where
      go : (pair : Pair) → IsStart one pair.0 → IsStart own pair.1 ⊎ (pair.1 ≡ own.states) → Comes pair
      go pair first (inl second) = inl (begin pair.0 pair.1 first second, start_within own is_own pair.1 second)
      go pair first (inr sink) = inr sink

  known_step : (p number q : ℕ) → IsKnown p → IsStep both p number q → IsKnown q
  known_step p number q known step =
      let goes = step_goes both is_both p number q step in
      let a : IsApart one rest both graph automaton is_rest plain plain' is of goes.0 p q = apart one rest both graph automaton is_rest plain plain' is of goes.0 p q goes.1 in
      let same : known.pair ≡ a.pair = tells one rest both graph automaton is_rest plain plain' is of known.pair a.pair known.within (sym known.here ∙ a.here) in
      record {
        pair = a.target;
        within = a.within_target;
        here = a.there;
        comes = go goes.0 a.pair a.target a.first a.second (subst Comes same known.comes);
      }
    where
      own_step : (letter : NamedLetter) (pair target : Pair) → GoesAt one letter pair.0 target.0 → ComeTo one own pair.0 pair.1
          → GoesAt own letter pair.1 target.1 ⊎ (Lacks own is_own deterministic letter pair.1 × (target.1 ≡ own.states)) → Comes target
      own_step letter pair target first come (inl second) =
          inl (go_on letter pair.0 pair.1 target.0 target.1 come first second, goes_within own is_own letter pair.1 target.1 second)
      own_step letter pair target first come (inr lost) = inr lost.1

      go : (letter : NamedLetter) (pair target : Pair) → GoesAt one letter pair.0 target.0 → GoesAt rest letter pair.1 target.1 → Comes pair → Comes target
      go letter pair target first second (inl come) =
          own_step letter pair target first come.0 (rest_goes own rest is_own deterministic complemented is_rest letter pair.1 target.1 come.1 second)
      go letter pair target first second (inr sink) =
          inr (sink_goes own rest is_own deterministic complemented is_rest letter target.1 (subst (λ (s : ℕ). GoesAt rest letter s target.1) sink second))

  along : (from : ℕ) (numbers : List ℕ) (to : ℕ) → IsKnown from → Leads both from numbers to → IsKnown to
  along from [] to known leads = subst IsKnown leads known
  along from (number ∷ numbers) to known leads = along leads.0 numbers to (known_step from number leads.0 known leads.1) leads.2

  pub reached_known : (p : ℕ) → IsReached both p → IsKnown p
  reached_known p reached = along reached.start reached.numbers p (known_start reached.start reached.begins) reached.leads

  -- and the pairs to which both come are states of the product that are reached
  pub record IsMetPair (s t : ℕ) : Type 0 where
    pub within : Contains ps (s, t)
    pub reached : IsReached both (pair_number ps (s, t))
    pub below : t < own.states

  pub come_met : (s t : ℕ) → ComeTo one own s t → IsMetPair s t
  come_met _ _ (begin s t first second) =
      let b = begins_with one rest both graph automaton is_rest plain plain' is of s t first (own_start own rest is_own deterministic complemented is_rest t second) in
      record {
        within = b.0;
        reached = record { start = pair_number ps (s, t); begins = b.1; numbers = []; leads = refl };
        below = start_within own is_own t second;
      }
  come_met _ _ (go_on letter s t to also come first second) =
      let met : IsMetPair s t = come_met s t come in
      let on : IsTogether one rest both graph automaton is_rest plain plain' is of letter (s, t) (to, also) =
      together one rest both graph automaton is_rest plain plain' is of letter (s, t) (to, also) met.within first
      (own_goes own rest is_own deterministic complemented is_rest letter t also met.below second) in
      record {
        within = on.within;
        reached = reached_on both (pair_number ps (s, t)) on.goes.number (pair_number ps (to, also)) met.reached on.goes.step;
        below = goes_within own is_own letter t also second;
      }
