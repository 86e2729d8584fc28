-- A circuit with renumbered variables means the same.
use Rattle.std.proofs.Common.{◌≡◌, ◌⊎◌, inl, inr, ℕ, ◌+◌, ◌/◌, ◌<◌, ◌==◌, Bool, true, false, ◌&&◌, List, length, map, get_or, refl, sym, ap, ap₂, ◌∙◌, subst, arith}
use Rattle.std.proofs.lemmas.List.{ext_get_or, get_or-map, length-map}
use Rattle.std.proofs.lemmas.List.Elements.{All-from_get_or, All-get_or}
use Rattle.omega_circuit.specs.Canonical.{HaveSameValues, MeanTheSame, RunsAs}
use Rattle.omega_circuit.specs.Circuit.{CircuitValue}
use Rattle.omega_circuit.specs.Rounds.{HasLatches, IsCircuitRun, IsRound, IsWordOf, gate_value, literal_value, name_of}
use Rattle.omega_circuit.specs.private.Numbers.{AreNumbered, IsNumbered, gate_at}
use Rattle.omega_circuit.specs.private.Renumbered.{AreLatchesOf, IsGateOf, IsRenumbered, latch_at}
use Rattle.omega_circuit.specs.declared.gate.Gate.{Gate}
use Rattle.omega_circuit.specs.declared.latch.Latch.{Latch}
use Rattle.omega_circuit.specs.declared.symbol.Symbol.{Symbol}
use Rattle.omega_circuit.specs.declared.symbol.SymbolKind.TheVariants.{Input, Output}
use Rattle.omega_circuit.proofs.Places.{one_place, place_before, place_of}
use Rattle.omega_circuit.proofs.Values.{signs_alike}
use Rattle.omega_text.specs.NamedWords.{NamedWord}

abbrev no_gate : Gate
no_gate = record { literal = 0; left = 0; right = 0 }

abbrev no_latch : Latch
no_latch = record { literal = 0; next = 0; reset = 0 }

-- the values of variables are those of their numbers
abbrev Carries : List ℕ → (ℕ → Bool) → (ℕ → Bool) → Type 0
Carries variables held other = (literal number : ℕ) → IsNumbered variables literal number → other (number / 2) ≡ held (literal / 2)

-- and so are the values of literals
carried : (variables : List ℕ) (held other : ℕ → Bool) → Carries variables held other → (literal number : ℕ) → IsNumbered variables literal number
    → literal_value other number ≡ literal_value held literal
carried variables held other carries literal number is = signs_alike other held literal number is.sign (carries literal number is)

and_turned : (a b : Bool) → (a && b) ≡ (b && a)
and_turned true true = refl
and_turned true false = refl
and_turned false true = refl
and_turned false false = refl

-- the value of a gate
gate_carried : (variables : List ℕ) (held other : ℕ → Bool) → Carries variables held other → (gate made : Gate) → IsGateOf variables gate made
    → gate_value other made ≡ gate_value held gate
gate_carried variables held other carries gate made is = go is.operands
  where
    go : (IsNumbered variables gate.left made.left × IsNumbered variables gate.right made.right) ⊎ (IsNumbered variables gate.left made.right × IsNumbered variables gate.right made.left)
        → gate_value other made ≡ gate_value held gate
    go (inl straight) =
        ap₂ (λ (a b : Bool). a && b) (carried variables held other carries gate.left made.left straight.0) (carried variables held other carries gate.right made.right straight.1)
    go (inr turned) =
        ap₂ (λ (a b : Bool). a && b) (carried variables held other carries gate.right made.left turned.1) (carried variables held other carries gate.left made.right turned.0)
        ∙ and_turned (literal_value held gate.right) (literal_value held gate.left)

-- lists of values at numbered literals
values_carried : (variables : List ℕ) (held other : ℕ → Bool) → Carries variables held other → (literals numbers : List ℕ) → AreNumbered variables literals numbers
    → map (λ literal. literal_value held literal) literals ≡ map (λ literal. literal_value other literal) numbers
values_carried variables held other carries literals numbers are =
    let of : ℕ → Bool = λ literal. literal_value held literal in
    let at : ℕ → Bool = λ literal. literal_value other literal in
    ext_get_or false (map of literals) (map at numbers) (length-map literals of ∙ sym are.long ∙ sym (length-map numbers at))
    (λ k within. let small : k < length literals = let e = length-map literals of in omega (arith, within, e) in
    get_or-map of literals k 0 false small
    ∙ sym (carried variables held other carries (get_or literals k 0) (get_or numbers k 0) (are.each k small))
    ∙ sym (get_or-map at numbers k 0 false (let e = are.long in omega (arith, small, e))))

-- and of latches
latches_carried : (variables : List ℕ) (held other : ℕ → Bool) → Carries variables held other → (latches made : List Latch) → AreLatchesOf variables latches made
    → map (λ (latch : Latch). literal_value held latch.literal) latches ≡ map (λ (latch : Latch). literal_value other latch.literal) made
latches_carried variables held other carries latches made are =
    let of : Latch → Bool = λ latch. literal_value held latch.literal in
    let at : Latch → Bool = λ latch. literal_value other latch.literal in
    ext_get_or false (map of latches) (map at made) (length-map latches of ∙ sym are.long ∙ sym (length-map made at))
    (λ k within. let small : k < length latches = let e = length-map latches of in omega (arith, within, e) in
    get_or-map of latches k no_latch false small
    ∙ sym (carried variables held other carries (latch_at latches k).literal (latch_at made k).literal (are.each k small).literal)
    ∙ sym (get_or-map at made k no_latch false (let e = are.long in omega (arith, small, e))))

resets_alike : (variables : List ℕ) (latches made : List Latch) → AreLatchesOf variables latches made
    → map (λ (latch : Latch). latch.reset) latches ≡ map (λ (latch : Latch). latch.reset) made
resets_alike variables latches made are =
    let of : Latch → ℕ = λ latch. latch.reset in
    ext_get_or 0 (map of latches) (map of made) (length-map latches of ∙ sym are.long ∙ sym (length-map made of))
    (λ k within. let small : k < length latches = let e = length-map latches of in omega (arith, within, e) in
    get_or-map of latches k no_latch 0 small ∙ sym (are.each k small).reset ∙ sym (get_or-map of made k no_latch 0 (let e = are.long in omega (arith, small, e))))

module _ (variables : List ℕ) (c d : CircuitValue) (is : IsRenumbered variables c d) where
  -- in one round of each with the same values
  module _ (held other : ℕ → Bool) (carries : Carries variables held other) where
    round_onward : held 0 ≡ false → other 0 ≡ false → IsRound c held → IsRound d other
    round_onward zero other_zero round = record {
      constant = other_zero;
      gates = All-from_get_or (λ (gate : Gate). other (gate.literal / 2) ≡ gate_value other gate) d.gates no_gate (λ j within. made j within (is.gates.sources j within));
    }
      where
        made : (j : ℕ) → j < length d.gates → (k : ℕ) × (k < length c.gates) × IsGateOf variables (gate_at c.gates k) (gate_at d.gates j)
            → other ((gate_at d.gates j).literal / 2) ≡ gate_value other (gate_at d.gates j)
        made j within source =
            carries (gate_at c.gates source.0).literal (gate_at d.gates j).literal source.2.literal
            ∙ All-get_or (λ (gate : Gate). held (gate.literal / 2) ≡ gate_value held gate) c.gates source.0 no_gate source.1 round.gates
            ∙ sym (gate_carried variables held other carries (gate_at c.gates source.0) (gate_at d.gates j) source.2)

    round_back : held 0 ≡ false → IsRound d other → IsRound c held
    round_back zero round = record {
      constant = zero;
      gates = All-from_get_or (λ (gate : Gate). held (gate.literal / 2) ≡ gate_value held gate) c.gates no_gate (λ k within. old k within (is.gates.images k within));
    }
      where
        old : (k : ℕ) → k < length c.gates → (j : ℕ) × (j < length d.gates) × IsGateOf variables (gate_at c.gates k) (gate_at d.gates j)
            → held ((gate_at c.gates k).literal / 2) ≡ gate_value held (gate_at c.gates k)
        old k within image =
            sym (carries (gate_at c.gates k).literal (gate_at d.gates image.0).literal image.2.literal)
            ∙ All-get_or (λ (gate : Gate). other (gate.literal / 2) ≡ gate_value other gate) d.gates image.0 no_gate image.1 round.gates
            ∙ gate_carried variables held other carries (gate_at c.gates k) (gate_at d.gates image.0) image.2

    same_values : HaveSameValues c d held other
    same_values = record {
      inputs = values_carried variables held other carries c.inputs d.inputs is.inputs;
      latches = latches_carried variables held other carries c.latches d.latches is.latches;
      outputs = values_carried variables held other carries c.outputs d.outputs is.outputs;
    }

    -- what latches hold
    latches_onward : (state made_state : Latch → Bool) → ((k : ℕ) → k < length c.latches → state (latch_at c.latches k) ≡ made_state (latch_at d.latches k))
        → HasLatches c held state → HasLatches d other made_state
    latches_onward state made_state same has =
        All-from_get_or (λ (latch : Latch). other (latch.literal / 2) ≡ made_state latch) d.latches no_latch
        (λ k within. let small : k < length c.latches = let e = is.latches.long in omega (arith, within, e) in
        carries (latch_at c.latches k).literal (latch_at d.latches k).literal (is.latches.each k small).literal
        ∙ All-get_or (λ (latch : Latch). held (latch.literal / 2) ≡ state latch) c.latches k no_latch small has
        ∙ same k small)

    latches_back : (state made_state : Latch → Bool) → ((k : ℕ) → k < length c.latches → state (latch_at c.latches k) ≡ made_state (latch_at d.latches k))
        → HasLatches d other made_state → HasLatches c held state
    latches_back state made_state same has =
        All-from_get_or (λ (latch : Latch). held (latch.literal / 2) ≡ state latch) c.latches no_latch
        (λ k small. let within : k < length d.latches = let e = is.latches.long in omega (arith, small, e) in
        sym (carries (latch_at c.latches k).literal (latch_at d.latches k).literal (is.latches.each k small).literal)
        ∙ All-get_or (λ (latch : Latch). other (latch.literal / 2) ≡ made_state latch) d.latches k no_latch within has
        ∙ sym (same k small))

  same_resets : (k : ℕ) → k < length c.latches → ((latch_at c.latches k).reset == 1) ≡ ((latch_at d.latches k).reset == 1)
  same_resets k small = ap (λ (n : ℕ). n == 1) (sym (is.latches.each k small).reset)

  -- in all rounds
  module _ (rounds others : ℕ → ℕ → Bool) (carries : (i : ℕ) → Carries variables (rounds i) (others i)) where
    same_nexts : (i k : ℕ) → k < length c.latches → literal_value (rounds i) (latch_at c.latches k).next ≡ literal_value (others i) (latch_at d.latches k).next
    same_nexts i k small =
        sym (carried variables (rounds i) (others i) (carries i) (latch_at c.latches k).next (latch_at d.latches k).next (is.latches.each k small).next)

    run_onward : ((i : ℕ) → others i 0 ≡ false) → IsCircuitRun c rounds → IsCircuitRun d others
    run_onward zeros run = record {
      each = λ i. round_onward (rounds i) (others i) (carries i) (run.each i).constant (zeros i) (run.each i);
      starts = latches_onward (rounds 0) (others 0) (carries 0) (λ (latch : Latch). latch.reset == 1) (λ (latch : Latch). latch.reset == 1) same_resets run.starts;
      goes_on = λ i. latches_onward (rounds (i + 1)) (others (i + 1)) (carries (i + 1)) (λ (latch : Latch). literal_value (rounds i) latch.next)
          (λ (latch : Latch). literal_value (others i) latch.next) (same_nexts i) (run.goes_on i);
    }

    run_back : ((i : ℕ) → rounds i 0 ≡ false) → IsCircuitRun d others → IsCircuitRun c rounds
    run_back zeros run = record {
      each = λ i. round_back (rounds i) (others i) (carries i) (zeros i) (run.each i);
      starts = latches_back (rounds 0) (others 0) (carries 0) (λ (latch : Latch). latch.reset == 1) (λ (latch : Latch). latch.reset == 1) same_resets run.starts;
      goes_on = λ i. latches_back (rounds (i + 1)) (others (i + 1)) (carries (i + 1)) (λ (latch : Latch). literal_value (rounds i) latch.next)
          (λ (latch : Latch). literal_value (others i) latch.next) (same_nexts i) (run.goes_on i);
    }

  -- the values of numbers from those of variables
  by_number : (ℕ → Bool) → ℕ → Bool
  by_number held number = held (get_or variables number 0)

  number_carries : (held : ℕ → Bool) → Carries variables held (by_number held)
  unfolding by_number
  number_carries held literal number numbered = ap held numbered.variable

  -- and the other way round
  by_variable : (ℕ → Bool) → ℕ → Bool
  by_variable other variable = other (place_of variables variable)

  variable_carries : (other : ℕ → Bool) → Carries variables (by_variable other) other
  unfolding by_variable
  variable_carries other literal number numbered =
      ap other (sym (ap (place_of variables) (sym numbered.variable) ∙ one_place variables (number / 2) is.apart numbered.within))

  onward : RunsAs c d
  unfolding by_number
  onward rounds run = (
    λ i. by_number (rounds i),
    run_onward rounds (λ i. by_number (rounds i)) (λ i. number_carries (rounds i)) (λ i. ap (rounds i) is.constant ∙ (run.each i).constant) run,
    λ i. same_values (rounds i) (by_number (rounds i)) (number_carries (rounds i)),
  )

  zero_place : place_of variables 0 ≡ 0
  zero_place = let e = place_before variables 0 0 is.constant in omega (arith, e)

  turned_values : (held other : ℕ → Bool) → HaveSameValues c d held other → HaveSameValues d c other held
  turned_values held other same = record { inputs = sym same.inputs; latches = sym same.latches; outputs = sym same.outputs }

  back : RunsAs d c
  unfolding by_variable
  back others run = (
    λ i. by_variable (others i),
    run_back (λ i. by_variable (others i)) others (λ i. variable_carries (others i)) (λ i. ap (others i) zero_place ∙ (run.each i).constant) run,
    λ i. turned_values (by_variable (others i)) (others i) (same_values (by_variable (others i)) (others i) (variable_carries (others i))),
  )

-- words of runs with the same values
words_onward : (c d : CircuitValue) → c.symbols ≡ d.symbols → length c.inputs ≡ length d.inputs → length c.outputs ≡ length d.outputs → RunsAs c d
    → (word : NamedWord) → IsWordOf c word → IsWordOf d word
words_onward c d symbols inputs outputs runs word of =
    let made = runs of.rounds of.run in
    record {
      rounds = made.0;
      run = made.1;
      inputs = λ i k within. let small : k < length c.inputs = omega (arith, within, inputs) in
          ap (λ (all : List Symbol). word i (name_of Input k all)) (sym symbols) ∙ of.inputs i k small
          ∙ value_at (of.rounds i) (made.0 i) c.inputs d.inputs (made.2 i).inputs k small within;
      outputs = λ i k within. let small : k < length c.outputs = omega (arith, within, outputs) in
          ap (λ (all : List Symbol). word i (name_of Output k all)) (sym symbols) ∙ of.outputs i k small
          ∙ value_at (of.rounds i) (made.0 i) c.outputs d.outputs (made.2 i).outputs k small within;
    }
  where
    value_at : (held other : ℕ → Bool) (literals numbers : List ℕ) → map (λ literal. literal_value held literal) literals ≡ map (λ literal. literal_value other literal) numbers
        → (k : ℕ) → k < length literals → k < length numbers → literal_value held (get_or literals k 0) ≡ literal_value other (get_or numbers k 0)
    value_at held other literals numbers same k small within =
        sym (get_or-map (λ literal. literal_value held literal) literals k 0 false small)
        ∙ ap (λ (values : List Bool). get_or values k false) same
        ∙ get_or-map (λ literal. literal_value other literal) numbers k 0 false within

-- circuits that run the same way mean the same
pub alike : (c d : CircuitValue) → length c.inputs ≡ length d.inputs → map (λ (latch : Latch). latch.reset) c.latches ≡ map (λ (latch : Latch). latch.reset) d.latches
    → length c.outputs ≡ length d.outputs → length c.gates ≡ length d.gates → c.symbols ≡ d.symbols → RunsAs c d → RunsAs d c → MeanTheSame c d
alike c d inputs resets outputs gates symbols runs runs_back = record {
  inputs = inputs;
  resets = resets;
  outputs = outputs;
  gates = gates;
  symbols = symbols;
  onward = runs;
  back = runs_back;
  words = λ word. (words_onward c d symbols inputs outputs runs word, words_onward d c (sym symbols) (sym inputs) (sym outputs) runs_back word);
}

pub renumbered_means_the_same : (variables : List ℕ) (c d : CircuitValue) → IsRenumbered variables c d → MeanTheSame c d
renumbered_means_the_same variables c d is =
    alike c d (sym is.inputs.long) (resets_alike variables c.latches d.latches is.latches) (sym is.outputs.long) (sym is.gates.long) is.symbols
    (onward variables c d is) (back variables c d is)

-- a circuit means the same as itself
pub means_itself : (c : CircuitValue) → MeanTheSame c c
means_itself c = alike c c refl refl refl refl refl itself itself
  where
    itself : RunsAs c c
    itself rounds run = (rounds, run, λ i. record { inputs = refl; latches = refl; outputs = refl })

pub same_means_the_same : (c d : CircuitValue) → d ≡ c → MeanTheSame c d
same_means_the_same c d same = subst (MeanTheSame c) (sym same) (means_itself c)
