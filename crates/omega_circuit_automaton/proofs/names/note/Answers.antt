-- the symbol names a position, or one beyond
use Rattle.std.proofs.Common.{◌≡◌, ◌<◌, ◌≤◌, ℕ, List, length, ap, ◌∙◌, arith}
use Rattle.std.specs.Prelude.{slice_set}
use Rattle.omega_circuit.specs.Symbols.{kind_letter}
use Rattle.omega_circuit.proofs.Places.{same_number}
use Rattle.omega_circuit_automaton.proofs.Naming.{names_beyond, names_set}
use Rattle.omega_circuit_automaton.proofs.Words.{names_long}
use Rattle.omega_circuit_automaton.proofs.names.note.Goals as goal

pub returns-in_ok-names-clause-names : goal.returns-in_ok-names-clause-names
returns-in_ok-names-clause-names c = λ count rest before.
    let symbol = c.args.symbol.now in
    let old : List (List ℕ) = c.args.names.now.items in
    let same : kind_letter symbol.kind ≡ kind_letter c.args.kind = omega arith in
    let long : length old ≡ count = ap length before ∙ names_long c.args.kind count rest in
    let small : symbol.position < count = omega (arith, long) in
    ap (λ (name : List ℕ). slice_set old symbol.position name) (c.in_ok-names.ensures ∙ c.as_slice.ensures)
    ∙ ap (λ (names : List (List ℕ)). slice_set names symbol.position symbol.name) before
    ∙ names_set c.args.kind symbol rest count (same_number (kind_letter symbol.kind) (kind_letter c.args.kind) same) small

pub returns-else-at-len-clause-names : goal.returns-else-at-len-clause-names
returns-else-at-len-clause-names c = λ count rest before.
    let symbol = c.args.symbol.now in
    let same : kind_letter symbol.kind ≡ kind_letter c.args.kind = omega arith in
    let long : length c.args.names.now.items ≡ count = ap length before ∙ names_long c.args.kind count rest in
    let beyond : count ≤ symbol.position = omega (arith, long) in
    before ∙ names_beyond c.args.kind symbol rest count (same_number (kind_letter symbol.kind) (kind_letter c.args.kind) same) beyond
