-- The automaton of a circuit accepts the circuit's words.
use Rattle.std.proofs.Common.{◌≡◌, ◌⊎◌, inl, inr, ℕ, zero, suc, ◌+◌, ◌/◌, ◌<◌, ◌==◌, ◌&&◌, Bool, true, false, not, cond, List, [], ◌∷◌, ◌++◌, length, map, get_or, refl, sym, ap, ap₂, ◌∙◌, subst, arith, add-one}
use Rattle.std.specs.Prelude.{Contains, Some}
use Rattle.std.specs.List.{range_with_len}
use Rattle.std.proofs.lemmas.List.{get_or-map, get_or_append_left, length-append, length-map}
use Rattle.std.proofs.lemmas.List.Elements.{Contains-push_cases}
use Rattle.std.proofs.lemmas.List.FromFn.{get_or-range_with_len, length-range_with_len}
use Rattle.omega_text.specs.NamedWords.{NamedWord}
use Rattle.omega_hoa_acceptance.specs.Acceptance.{AccTree}
use Rattle.omega_hoa_automaton.specs.Automaton.{BodyEdge, Description}
use Rattle.omega_lang_runs.specs.Lasso.{IsStep, label_of, marks_at}
use Rattle.omega_lang_runs.specs.Runs.{IsRun, Satisfies}
use Rattle.omega_lang_runs.specs.Words.{Allows}
use Rattle.omega_lang_word_laws.specs.NamedWords.{AcceptsNamed, part_of}
use Rattle.omega_circuit.specs.Circuit.{CircuitValue, IsCircuit, is_even}
use Rattle.omega_circuit.specs.Laws.{RunsOnce}
use Rattle.omega_circuit.specs.Rounds.{IsWordOf, literal_value, name_of}
use Rattle.omega_circuit.specs.declared.gate.Gate.{Gate}
use Rattle.omega_circuit.specs.declared.latch.Latch.{Latch}
use Rattle.omega_circuit.specs.declared.symbol.Symbol.{Symbol}
use Rattle.omega_circuit.specs.declared.symbol.SymbolKind.{SymbolKind}
use Rattle.omega_circuit.specs.declared.symbol.SymbolKind.TheVariants.{Input, Output}
use Rattle.omega_circuit.proofs.Definitions.{variables_long}
use Rattle.omega_circuit.proofs.Runs.{circuits_run}
use Rattle.omega_circuit_automaton.specs.CircuitAutomaton.{AcceptsWordsOf}
use Rattle.omega_circuit_automaton.specs.Names.{first_names, proposition_names}
use Rattle.omega_circuit_automaton.specs.declared.ternary.Ternary.{Ternary}
use Rattle.omega_circuit_automaton.specs.declared.ternary.Ternary.TheVariants.{Unknown}
use Rattle.omega_circuit_automaton.specs.private.Automata.{IsAutomatonOf, IsMade, IsTaken}
use Rattle.omega_circuit_automaton.specs.private.Cuts.{Cut, IsCutOf, fits, pattern_of, valuation_at}
use Rattle.omega_circuit_automaton.specs.private.Ternary.{IsRoundOf, Matches, known, latch_values, ternary_at}
use Rattle.omega_circuit_automaton.proofs.Cubes.{and_true, at_fits, fits_alike, fits_at, fits_both}

-- an even literal has the value of its variable
even_value : (held : ℕ → Bool) (literal : ℕ) → is_even literal ≡ true → literal_value held literal ≡ held (literal / 2)
even_value held literal even = ap (λ (b : Bool). cond b (held (literal / 2)) (not (held (literal / 2)))) even

input_even : (c : CircuitValue) (is : IsCircuit c) (k : ℕ) → k < length c.inputs → is_even (get_or c.inputs k 0) ≡ true
input_even c is k small =
    let later : List ℕ = map (λ (latch : Latch). latch.literal) c.latches ++ map (λ (gate : Gate). gate.literal) c.gates in
    ap is_even (sym (get_or_append_left c.inputs later 0 k small))
    ∙ is.definitions.even (suc k) 0 (let e = variables_long c in let m = length-map (0 ∷ (c.inputs ++ later)) (λ n. n / 2) in omega (arith, e, m, small))

-- latches have values, one by one
latches_alike : (latches : List Latch) (one other : Latch → Bool) → ((k : ℕ) (d : Latch) → k < length latches → one (get_or latches k d) ≡ other (get_or latches k d))
    → map one latches ≡ map other latches
latches_alike [] one other same = refl
latches_alike (latch ∷ latches) one other same =
    ap₂ (λ (b : Bool) (bs : List Bool). b ∷ bs) (same 0 latch (omega arith)) (latches_alike latches one other (λ k d within. same (suc k) d (omega (arith, within))))

-- names by their numbers
pub names_long : (kind : SymbolKind) (count : ℕ) (symbols : List Symbol) → length (first_names kind count symbols) ≡ count
names_long kind count symbols = length-map (range_with_len 0 count) (λ position. name_of kind position symbols) ∙ length-range_with_len 0 count

pub name_at : (kind : SymbolKind) (count : ℕ) (symbols : List Symbol) (k : ℕ) → k < count → get_or (first_names kind count symbols) k [] ≡ name_of kind k symbols
name_at kind count symbols k low =
    get_or-map (λ position. name_of kind position symbols) (range_with_len 0 count) k 0 [] (let e = length-range_with_len 0 count in omega (arith, e, low))
    ∙ ap (λ n. name_of kind n symbols) (get_or-range_with_len 0 count k 0 low ∙ (let e : 0 + k ≡ k = omega arith in e))

pub input_name : (c : CircuitValue) (k : ℕ) → k < length c.inputs → get_or (proposition_names c) k [] ≡ name_of Input k c.symbols
input_name c k low =
    get_or_append_left (first_names Input (length c.inputs) c.symbols) (first_names Output (length c.outputs) c.symbols) [] k (let e = names_long Input (length c.inputs) c.symbols in omega (arith, e, low))
    ∙ name_at Input (length c.inputs) c.symbols k low

pub names_count : (c : CircuitValue) → length (proposition_names c) ≡ length c.inputs + length c.outputs
names_count c =
    length-append (first_names Input (length c.inputs) c.symbols) (first_names Output (length c.outputs) c.symbols)
    ∙ ap₂ (λ m n. m + n) (names_long Input (length c.inputs) c.symbols) (names_long Output (length c.outputs) c.symbols)

after : {X : Type 0} (xs ys : List X) (d : X) (k : ℕ) → get_or (xs ++ ys) (length xs + k) d ≡ get_or ys k d
after [] ys d k = ap (λ n. get_or ys n d) (let e : 0 + k ≡ k = omega arith in e)
after (x ∷ xs) ys d k = ap (λ n. get_or (x ∷ (xs ++ ys)) n d) (let e : suc (length xs) + k ≡ suc (length xs + k) = omega arith in e) ∙ after xs ys d k

pub output_name : (c : CircuitValue) (k : ℕ) → k < length c.outputs → get_or (proposition_names c) (length c.inputs + k) [] ≡ name_of Output k c.symbols
output_name c k low =
    ap (λ n. get_or (proposition_names c) (n + k) []) (sym (names_long Input (length c.inputs) c.symbols))
    ∙ after (first_names Input (length c.inputs) c.symbols) (first_names Output (length c.outputs) c.symbols) [] k
    ∙ name_at Output (length c.outputs) c.symbols k low

-- outputs that a letter has
known_matches : (value b : Bool) → Matches (known value) b → b ≡ value
known_matches true b h = h
known_matches false b h = h

matches_known : (value b : Bool) → b ≡ value → Matches (known value) b
matches_known true b h = h
matches_known false b h = h

module _ (c : CircuitValue) (is : IsCircuit c) (valuations : List (List Bool)) (a : Description) (of : IsAutomatonOf c valuations a) (word : NamedWord) where
  letter : ℕ → ℕ → Bool
  letter i = part_of a.propositions word i

  letter_named : (i k : ℕ) → letter i k ≡ word i (get_or (proposition_names c) k [])
  unfolding letter
  letter_named i k = ap (λ (names : List (List ℕ)). word i (get_or names k [])) of.propositions

  -- a round whose inputs are the letter's
  round_of : (i : ℕ) (round : ℕ → Bool) (from : ℕ) (cut : Cut) → IsCutOf c valuations (valuation_at valuations from) cut
      → ((k : ℕ) → k < length c.inputs → round (get_or c.inputs k 0 / 2) ≡ letter i k) → fits cut.cube (letter i) ≡ true
      → fits cut.cube (λ k. round (get_or c.inputs k 0 / 2)) ≡ true
  round_of i round from cut right reads fit =
      fits_alike cut.cube (λ k. round (get_or c.inputs k 0 / 2)) (letter i) (λ k low. reads k (omega (arith, low, right.long))) ∙ fit

  -- the word of a run
  module _ (accepted : AcceptsNamed a word) where
    run : IsRun a accepted.states accepted.edges
    run = accepted.accepting.run

    circuit_run : RunsOnce c letter
    circuit_run = circuits_run c is letter

    abbrev rounds : ℕ → ℕ → Bool
    rounds = circuit_run.rounds

    same_edge : (x y : BodyEdge) → Some x ≡ Some y → x ≡ y
    same_edge x y e = cc

    same_state : (x y : ℕ) → (x ∷ []) ≡ (y ∷ []) → x ≡ y
    same_state x y e = cc

    start_zero : 0 ≡ accepted.states 0
    start_zero = go (Contains-push_cases [] (0 ∷ []) (accepted.states 0 ∷ []) (subst (λ (s : List (List ℕ)). Contains s (accepted.states 0 ∷ [])) of.starts run.begins))
      where
        go : Contains [] (accepted.states 0 ∷ []) ⊎ ((0 ∷ []) ≡ (accepted.states 0 ∷ [])) → 0 ≡ accepted.states 0
        go (inl none) = absurd (omega (arith, none.1))
        go (inr same) = same_state 0 (accepted.states 0) same

    allowed_at : (i : ℕ) → Allows a (accepted.edges i) (label_of (run.steps i).edge) (letter i)
    unfolding letter
    allowed_at i = subst (λ (e : BodyEdge). Allows a (accepted.edges i) (label_of e) (part_of a.propositions word i))
        (same_edge (accepted.taken i).edge (run.steps i).edge (sym (accepted.taken i).numbered ∙ (run.steps i).numbered)) (accepted.taken i).allowed

    -- the state that is met is the valuation of the round's latches
    record IsMet (i : ℕ) : Type 0 where
      low : accepted.states i < length valuations
      latched : latch_values c.latches (rounds i) ≡ valuation_at valuations (accepted.states i)

    take_at : (i : ℕ) → IsMet i → IsTaken c valuations (accepted.states i) (accepted.states (i + 1)) (letter i)
    take_at i met = of.taken (accepted.states i) (accepted.edges i) (accepted.states (i + 1)) (run.steps i) (letter i) met.low (allowed_at i)

    cube_fits : (i : ℕ) (met : IsMet i) (t : IsTaken c valuations (accepted.states i) (accepted.states (i + 1)) (letter i)) → IsRoundOf c (valuation_at valuations (accepted.states i)) t.cut.cube (rounds i)
    cube_fits i met t =
        let whole : (fits t.cut.cube (letter i) && fits (map known t.cut.outputs) (λ k. letter i (length t.cut.cube + k))) ≡ true =
        sym (fits_both t.cut.cube (map known t.cut.outputs) (letter i)) ∙ t.holds in
        record {
          is = circuit_run.run.each i;
          latched = met.latched;
          fits = fits_at t.cut.cube (λ k. rounds i (get_or c.inputs k 0 / 2))
              (round_of i (rounds i) (accepted.states i) t.cut t.right (λ k low. circuit_run.reads i k low)
              (and_true (fits t.cut.cube (letter i)) (fits (map known t.cut.outputs) (λ k. letter i (length t.cut.cube + k))) whole).0);
        }

    met : (i : ℕ) → IsMet i
    met zero = record {
      low = subst (λ n. n < length valuations) start_zero of.some;
      latched = latches_alike c.latches (λ (latch : Latch). rounds 0 (latch.literal / 2)) (λ (latch : Latch). latch.reset == 1) (λ k d within. circuit_run.run.starts k d within)
          ∙ sym of.start ∙ ap (valuation_at valuations) start_zero;
    }
    met (suc i) =
        let before = met i in
        let t = take_at i before in
        let round = cube_fits i before t in
        let next : accepted.states (i + 1) < length valuations = subst (λ n. n < length valuations) t.target t.right.low in
        let latched : latch_values c.latches (rounds (i + 1)) ≡ valuation_at valuations (accepted.states (i + 1)) =
        latches_alike c.latches (λ (latch : Latch). rounds (i + 1) (latch.literal / 2)) (λ (latch : Latch). literal_value (rounds i) latch.next) (λ k d within. circuit_run.run.goes_on i k d within)
        ∙ sym (t.right.ends.nexts_are (rounds i) round) ∙ ap (valuation_at valuations) t.target in
        subst IsMet (add-one i) (record { low = next; latched = latched })

    pub word_of_run : IsWordOf c word
    word_of_run = record {
      rounds = rounds;
      run = circuit_run.run;
      inputs = λ i k low. sym (letter_named i k ∙ ap (word i) (input_name c k low)) ∙ sym (circuit_run.reads i k low) ∙ sym (even_value (rounds i) (get_or c.inputs k 0) (input_even c is k low));
      outputs = λ i k low.
          let t = take_at i (met i) in
          let round = cube_fits i (met i) t in
          let long : k < length t.cut.outputs = omega (arith, low, t.right.ends.outputs_long) in
          let at : Matches (ternary_at (pattern_of t.cut) (length t.cut.cube + k)) (letter i (length t.cut.cube + k)) = fits_at (pattern_of t.cut) (letter i) t.holds (length t.cut.cube + k) in
          let there : ternary_at (pattern_of t.cut) (length t.cut.cube + k) ≡ known (get_or t.cut.outputs k false) =
          after t.cut.cube (map known t.cut.outputs) Unknown k ∙ get_or-map known t.cut.outputs k false Unknown long in
          let value : letter i (length t.cut.cube + k) ≡ get_or t.cut.outputs k false =
          known_matches (get_or t.cut.outputs k false) (letter i (length t.cut.cube + k)) (subst (λ (v : Ternary). Matches v (letter i (length t.cut.cube + k))) there at) in
          sym (letter_named i (length c.inputs + k) ∙ ap (word i) (output_name c k low))
          ∙ ap (λ n. letter i (n + k)) (sym t.right.long) ∙ value
          ∙ ap (λ (bs : List Bool). get_or bs k false) (t.right.ends.outputs_are (rounds i) round)
          ∙ get_or-map (λ literal. literal_value (rounds i) literal) c.outputs k 0 false low;
    }

  -- the run of a word
  module _ (has : IsWordOf c word) where
    record IsAt (i : ℕ) : Type 0 where
      number : ℕ
      low : number < length valuations
      latched : latch_values c.latches (has.rounds i) ≡ valuation_at valuations number

    reads : (i k : ℕ) → k < length c.inputs → has.rounds i (get_or c.inputs k 0 / 2) ≡ letter i k
    reads i k low = sym (even_value (has.rounds i) (get_or c.inputs k 0) (input_even c is k low)) ∙ sym (has.inputs i k low) ∙ sym (letter_named i k ∙ ap (word i) (input_name c k low))

    edge_at : (i : ℕ) (at : IsAt i) → IsMade c valuations a at.number (letter i)
    edge_at i at = of.made at.number (letter i) at.low

    round_at : (i : ℕ) (at : IsAt i) → IsRoundOf c (valuation_at valuations at.number) (edge_at i at).cut.cube (has.rounds i)
    round_at i at = record {
      is = has.run.each i;
      latched = at.latched;
      fits = fits_at (edge_at i at).cut.cube (λ k. has.rounds i (get_or c.inputs k 0 / 2))
          (round_of i (has.rounds i) at.number (edge_at i at).cut (edge_at i at).right (reads i) (edge_at i at).fit);
    }

    go_on : (i : ℕ) → IsAt i → IsAt (suc i)
    go_on i at =
        let m = edge_at i at in
        record {
          number = m.cut.target;
          low = m.right.low;
          latched = subst (λ j. latch_values c.latches (has.rounds j) ≡ valuation_at valuations m.cut.target) (add-one i)
              (latches_alike c.latches (λ (latch : Latch). has.rounds (i + 1) (latch.literal / 2)) (λ (latch : Latch). literal_value (has.rounds i) latch.next) (λ k d within. has.run.goes_on i k d within)
              ∙ sym (m.right.ends.nexts_are (has.rounds i) (round_at i at)));
        }

    at : (i : ℕ) → IsAt i
    at zero = record {
      number = 0;
      low = of.some;
      latched = latches_alike c.latches (λ (latch : Latch). has.rounds 0 (latch.literal / 2)) (λ (latch : Latch). latch.reset == 1) (λ k d within. has.run.starts k d within) ∙ sym of.start;
    }
    at (suc i) = go_on i (at i)

    made_at : (i : ℕ) → IsMade c valuations a (at i).number (letter i)
    made_at i = edge_at i (at i)

    next_is : (i : ℕ) → (made_at i).cut.target ≡ (at (i + 1)).number
    unfolding made_at at edge_at go_on
    next_is i = subst (λ j. (edge_at i (at i)).cut.target ≡ (at j).number) (sym (add-one i)) refl

    step_at : (i : ℕ) → IsStep a (at i).number (made_at i).number (at (i + 1)).number
    step_at i = subst (λ n. IsStep a (at i).number (made_at i).number n) (next_is i) (made_at i).step

    pattern_fits : (i : ℕ) → fits (pattern_of (made_at i).cut) (letter i) ≡ true
    unfolding made_at
    pattern_fits i =
        let m = edge_at i (at i) in
        let round = round_at i (at i) in
        let ends : fits (map known m.cut.outputs) (λ k. letter i (length m.cut.cube + k)) ≡ true =
        at_fits (map known m.cut.outputs) (λ k. letter i (length m.cut.cube + k)) (λ k within.
        let long : k < length m.cut.outputs = omega (arith, within, length-map m.cut.outputs known) in
        let low : k < length c.outputs = omega (arith, long, m.right.ends.outputs_long) in
        let value : letter i (length m.cut.cube + k) ≡ get_or m.cut.outputs k false =
        ap (λ n. letter i (n + k)) m.right.long ∙ letter_named i (length c.inputs + k) ∙ ap (word i) (output_name c k low) ∙ has.outputs i k low
        ∙ sym (ap (λ (bs : List Bool). get_or bs k false) (m.right.ends.outputs_are (has.rounds i) round) ∙ get_or-map (λ literal. literal_value (has.rounds i) literal) c.outputs k 0 false low) in
        subst (λ (v : Ternary). Matches v (letter i (length m.cut.cube + k))) (sym (get_or-map known m.cut.outputs k false Unknown long))
        (matches_known (get_or m.cut.outputs k false) (letter i (length m.cut.cube + k)) value)) in
        fits_both m.cut.cube (map known m.cut.outputs) (letter i) ∙ ap₂ (λ x y. x && y) m.fit ends

    pub run_of_word : AcceptsNamed a word
    unfolding letter at
    run_of_word = record {
      states = λ i. (at i).number;
      edges = λ i. (made_at i).number;
      accepting = record {
        run = record {
          begins = subst (λ (s : List (List ℕ)). Contains s (0 ∷ [])) (sym of.starts) (0, omega arith, refl);
          steps = step_at;
        };
        accepted = subst (λ (formula : AccTree). Satisfies (λ i. marks_at a (made_at i).number) formula) (sym of.acceptance) refl;
      };
      taken = λ i. record {
        edge = (made_at i).step.edge;
        numbered = (made_at i).step.numbered;
        allowed = (made_at i).allows (letter i) (pattern_fits i);
      };
    }

-- exactly the words
pub accepts_words : (c : CircuitValue) (is : IsCircuit c) (valuations : List (List Bool)) (a : Description) → IsAutomatonOf c valuations a → AcceptsWordsOf c a
accepts_words c is valuations a of word = (λ accepted. word_of_run c is valuations a of word accepted, λ has. run_of_word c is valuations a of word has)
