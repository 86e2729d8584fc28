-- the names are parted where the inputs end, and stand on their sides or do not
use Rattle.std.proofs.Common.{◌≡◌, ◌≤◌, ◌∙◌, ℕ, List, length, take, drop, ap, ap₂, subst, sym}
use Rattle.std.proofs.lemmas.Bool.{false≢true}
use Rattle.omega_circuit_automaton.specs.Names.{proposition_names}
use Rattle.omega_answers_circuit.specs.Sides.{AreSided, input_names, output_names}
use Rattle.omega_answers_circuit.proofs.SidesRefused.{sides_refused}
use Rattle.omega_answers_circuit.proofs.SidesTold.{first_are_inputs, inputs_among, last_are_outputs}
use Rattle.omega_answers_circuit.proofs.sides.check_sides.Goals as goal

pub split_at-requires : goal.split_at-requires
split_at-requires c =
    let circuit = c.args.circuit.now in
    let own : c.as_slice.result.now ≡ proposition_names circuit = c.as_slice.ensures.value ∙ c.in_ok-own.ensures.names in
    subst (λ (names : List (List ℕ)). length c.inputs.result.now ≤ length names) (sym own)
    (subst (λ (inputs : List ℕ). length inputs ≤ length (proposition_names circuit)) (sym c.inputs.ensures) (inputs_among circuit))

pub returns-then-are_sided-clause-sided : goal.returns-then-are_sided-clause-sided
returns-then-are_sided-clause-sided c =
    let circuit = c.args.circuit.now in
    let own : c.as_slice.result.now ≡ proposition_names circuit = c.as_slice.ensures.value ∙ c.in_ok-own.ensures.names in
    let count : length c.inputs.result.now ≡ length circuit.inputs = ap (λ (inputs : List ℕ). length inputs) c.inputs.ensures in
    let inputs : c.split_at.result.0.now ≡ input_names circuit =
    c.split_at.ensures.front ∙ (ap₂ (λ (n : ℕ) (names : List (List ℕ)). take n names) count own ∙ first_are_inputs circuit) in
    let outputs : c.split_at.result.1.now ≡ output_names circuit =
    c.split_at.ensures.back ∙ (ap₂ (λ (n : ℕ) (names : List (List ℕ)). drop n names) count own ∙ last_are_outputs circuit) in
    record {
      fit = c.in_ok-own.ensures.fit;
      sided = subst (λ (names : List (List ℕ)). AreSided c.args.names.now c.args.system.now names (output_names circuit)) inputs
          (subst (λ (names : List (List ℕ)). AreSided c.args.names.now c.args.system.now c.split_at.result.0.now names) outputs
          (c.are_sided.ensures.0 c.if-are_sided.true));
    }

pub returns-clause-refused : goal.returns-clause-refused
returns-clause-refused c =
    let circuit = c.args.circuit.now in
    let own : c.as_slice.result.now ≡ proposition_names circuit = c.as_slice.ensures.value ∙ c.in_ok-own.ensures.names in
    let count : length c.inputs.result.now ≡ length circuit.inputs = ap (λ (inputs : List ℕ). length inputs) c.inputs.ensures in
    let inputs : c.split_at.result.0.now ≡ input_names circuit =
    c.split_at.ensures.front ∙ (ap₂ (λ (n : ℕ) (names : List (List ℕ)). take n names) count own ∙ first_are_inputs circuit) in
    let outputs : c.split_at.result.1.now ≡ output_names circuit =
    c.split_at.ensures.back ∙ (ap₂ (λ (n : ℕ) (names : List (List ℕ)). drop n names) count own ∙ last_are_outputs circuit) in
    sides_refused c.args.names.now c.args.system.now circuit c.in_ok-own.ensures.fit
    (λ are. false≢true (sym c.if-are_sided.false ∙ c.are_sided.ensures.1
    (subst (λ (names : List (List ℕ)). AreSided c.args.names.now c.args.system.now names c.split_at.result.1.now) (sym inputs)
    (subst (λ (names : List (List ℕ)). AreSided c.args.names.now c.args.system.now (input_names circuit) names) (sym outputs) are))))
