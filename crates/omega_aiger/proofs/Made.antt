-- What each text of the layout makes has: symbols that can be written.
use Rattle.std.proofs.Common.{◌≡◌, inl, inr, ℕ, zero, suc, ◌+◌, ◌<◌, ◌≤◌, List, [], ◌∷◌, ◌++◌, All, length, refl, sym, ap, ◌∙◌, subst, arith}
use Rattle.std.specs.Prelude.{codes, slice_index, sum}
use Rattle.std.specs.List.{Contains}
use Rattle.std.proofs.lemmas.List.{length_push}
use Rattle.std.proofs.lemmas.List.Elements.{All-nil, All-push}
use Rattle.omega_aiger.specs.Deltas.{delta_value, literal_of}
use Rattle.omega_aiger.specs.Forms.{Counts, ascii_body, binary_body, circuit_layout, counts_end, counts_of, counts_then, form_layout, most_symbols, properties_then}
use Rattle.omega_aiger.specs.Layout.{Layout, Spells, byte, delta, either, finish, line, number, rest}
use Rattle.omega_aiger.specs.Lines.{bytes_then, gate_by, gate_deltas, gate_lines, gate_of, latch_lines, latch_of, next_lines, number_lines, reset_end}
use Rattle.omega_aiger.specs.Symbols.{ending, symbol_end, symbol_of, symbols_then}
use Rattle.omega_aiger.specs.BinaryText.{SameCircuitsAreWritable}
use Rattle.omega_aiger.specs.Written.{IsWritable, ReadCircuitsAreWritable, ascii_text}
use Rattle.omega_aiger.proofs.Spelled.{IsSmallSymbol}
use Rattle.omega_circuit.specs.Circuit.{AreNamed, CircuitValue, IsCircuit, positions_of}
use Rattle.omega_circuit.specs.declared.gate.Gate.{Gate}
use Rattle.omega_circuit.specs.declared.latch.Latch.{Latch}
use Rattle.omega_circuit.specs.declared.parts.CircuitParts.{CircuitParts}
use Rattle.omega_circuit.specs.declared.properties.Properties.{Properties}
use Rattle.omega_circuit.specs.declared.symbol.Symbol.{Symbol}
use Rattle.omega_circuit.specs.declared.symbol.SymbolKind.{SymbolKind}
use Rattle.omega_circuit.specs.declared.symbol.SymbolKind.TheVariants.{Bad, Constraint, Fairness, Input, Justice, Latch as OfLatch, Output}
use Rattle.omega_circuit.proofs.FirstFaults.{judged}
use Rattle.omega_text.specs.Limits.{most_number, most_text}
use Rattle.omega_text.specs.declared.refusal.circuit.CircuitFault.TheVariants.{Properties as OfProperties, Symbol as OfSymbol}

-- parts whose symbols can be written, with so few outputs
pub record IsPlainMade (parts : CircuitParts) : Type 0 where
  pub symbols : All IsSmallSymbol parts.symbols
  pub outputs : length parts.outputs ≤ most_number

-- all that texts of the layout make has this
abbrev AllMade : Layout → Type 0
AllMade (finish parts) = IsPlainMade parts
AllMade (rest parts) = IsPlainMade parts
AllMade (byte b next) = AllMade next
AllMade (either b first other) = AllMade first × AllMade other
AllMade (number next) = (n : ℕ) → n ≤ most_number → AllMade (next n)
AllMade (delta next) = (n : ℕ) → AllMade (next n)
AllMade (line next) = (front : List ℕ) → (Contains front 10 → ⊥) → AllMade (next front)

made_has : (layout : Layout) → AllMade layout → (text : List ℕ) (made : CircuitParts) → Spells layout text made → IsPlainMade made
made_has (finish parts) all text made is = subst IsPlainMade is.1 all
made_has (rest parts) all text made is = subst IsPlainMade is all
made_has (byte b next) all text made is = made_has next all is.0 made is.2
made_has (either b first other) all text made (inl is) = made_has first all.0 is.0 made is.2
made_has (either b first other) all text made (inr is) = made_has other all.1 text made is
made_has (number next) all text made is = made_has (next is.0) (all is.0 is.2) is.1 made is.4
made_has (delta next) all text made is = made_has (next (delta_value is.0)) (all (delta_value is.0)) is.1 made is.4
made_has (line next) all text made is = made_has (next is.0) (all is.0 is.2) is.1 made is.4

bytes_made : (bytes : List ℕ) (next : Layout) → AllMade next → AllMade (bytes_then bytes next)
bytes_made [] next all = all
bytes_made (b ∷ bytes) next all = bytes_made bytes next all

-- lines of numbers make as many
numbers_made : (count : ℕ) (read : List ℕ) (next : List ℕ → Layout) → ((more : List ℕ) → length more ≡ length read + count → AllMade (next more)) → AllMade (number_lines count read next)
numbers_made zero read next all = all read (omega arith)
numbers_made (suc count) read next all = λ n small. numbers_made count (read ++ n ∷ []) next (λ more long. all more (let e = length_push read n in omega (arith, e, long)))

reset_made : (next : ℕ → Layout) → ((reset : ℕ) → AllMade (next reset)) → AllMade (reset_end next)
reset_made next all = (λ reset small. all reset, all 0)

latches_made : (count : ℕ) (read : List Latch) (next : List Latch → Layout) → ((more : List Latch) → AllMade (next more)) → AllMade (latch_lines count read next)
latches_made zero read next all = all read
latches_made (suc count) read next all = λ literal small following also.
    reset_made (λ reset. latch_lines count (read ++ latch_of literal following reset ∷ []) next) (λ reset. latches_made count (read ++ latch_of literal following reset ∷ []) next all)

gates_made : (count : ℕ) (read : List Gate) (next : List Gate → Layout) → ((more : List Gate) → AllMade (next more)) → AllMade (gate_lines count read next)
gates_made zero read next all = all read
gates_made (suc count) read next all = λ literal small left also right too. gates_made count (read ++ gate_of literal left right ∷ []) next all

nexts_made : (variable count : ℕ) (read : List Latch) (next : List Latch → Layout) → ((more : List Latch) → AllMade (next more)) → AllMade (next_lines variable count read next)
nexts_made variable zero read next all = all read
nexts_made variable (suc count) read next all = λ following small.
    reset_made (λ reset. next_lines (variable + 1) count (read ++ latch_of (literal_of variable) following reset ∷ []) next)
    (λ reset. nexts_made (variable + 1) count (read ++ latch_of (literal_of variable) following reset ∷ []) next all)

deltas_made : (variable count : ℕ) (read : List Gate) (next : List Gate → Layout) → ((more : List Gate) → AllMade (next more)) → AllMade (gate_deltas variable count read next)
deltas_made variable zero read next all = all read
deltas_made variable (suc count) read next all = λ first second. deltas_made (variable + 1) count (read ++ gate_by (literal_of variable) first second ∷ []) next all

symbol_made : (kind : SymbolKind) (next : Symbol → Layout) → ((symbol : Symbol) → IsSmallSymbol symbol → AllMade (next symbol)) → AllMade (symbol_end kind next)
symbol_made kind next all = λ position small name in_line. all (symbol_of kind position name) (record { own = small; in_line = in_line })

ending_made : (next : Symbol → Layout) (parts : CircuitParts) → ((symbol : Symbol) → IsSmallSymbol symbol → AllMade (next symbol)) → IsPlainMade parts → AllMade (ending next parts)
ending_made next parts all plain = (
  symbol_made Input next all,
  (
    symbol_made OfLatch next all,
    (
      symbol_made Output next all,
      (
        symbol_made Bad next all,
        (
          (plain, symbol_made Constraint next all),
          (
            symbol_made Justice next all,
            (symbol_made Fairness next all, plain),
          ),
        ),
      ),
    ),
  ),
)

symbols_made : (most : ℕ) (read : List Symbol) (made : List Symbol → CircuitParts) → All IsSmallSymbol read → ((more : List Symbol) → All IsSmallSymbol more → IsPlainMade (made more)) → AllMade (symbols_then most read made)
symbols_made zero read made small all = all read small
symbols_made (suc most) read made small all =
    ending_made (λ symbol. symbols_then most (read ++ symbol ∷ []) made) (made read)
    (λ symbol one. symbols_made most (read ++ symbol ∷ []) made (All-push IsSmallSymbol read symbol small one) all) (all read small)

properties_made : (counts : List ℕ) (next : Properties → Layout) → ((properties : Properties) → AllMade (next properties)) → AllMade (properties_then counts next)
unfolding properties_then
properties_made counts next all =
    numbers_made (slice_index counts 0) [] _ (λ bad _. numbers_made (slice_index counts 1) [] _ (λ constraints _. numbers_made (slice_index counts 2) [] _ (λ sizes _.
    numbers_made (sum sizes) [] _ (λ justice _. numbers_made (slice_index counts 3) [] _ (λ fairness _. all _)))))

counts_end_made : (most : ℕ) (read : List ℕ) (next : List ℕ → Layout) → ((more : List ℕ) → AllMade (next more)) → AllMade (counts_end most read next)
counts_end_made zero read next all = all read
counts_end_made (suc most) read next all = (λ n small. counts_end_made most (read ++ n ∷ []) next all, all read)

counts_made : (next : Counts → Layout) → ((counts : Counts) → counts.outputs ≤ most_number → AllMade (next counts)) → AllMade (counts_then next)
unfolding counts_then
counts_made next all = λ most a inputs b latches d outputs e gates f.
    counts_end_made 4 [] (λ properties. next (counts_of most inputs latches outputs gates properties)) (λ properties. all (counts_of most inputs latches outputs gates properties) e)

ascii_made : (counts : Counts) → counts.outputs ≤ most_number → AllMade (ascii_body counts)
unfolding ascii_body
ascii_made counts few =
    numbers_made counts.inputs [] _ (λ inputs _. latches_made counts.latches [] _ (λ latches. numbers_made counts.outputs [] _ (λ outputs long.
    properties_made counts.properties _ (λ properties. gates_made counts.gates [] _ (λ gates. symbols_made most_symbols [] _ (All-nil IsSmallSymbol)
    (λ symbols small. record { symbols = small; outputs = omega (arith, long, few) }))))))

binary_made : (counts : Counts) → counts.outputs ≤ most_number → AllMade (binary_body counts)
unfolding binary_body
binary_made counts few =
    nexts_made (counts.inputs + 1) counts.latches [] _ (λ latches. numbers_made counts.outputs [] _ (λ outputs long.
    properties_made counts.properties _ (λ properties. deltas_made (counts.inputs + counts.latches + 1) counts.gates [] _ (λ gates. symbols_made most_symbols [] _ (All-nil IsSmallSymbol)
    (λ symbols small. record { symbols = small; outputs = omega (arith, long, few) })))))

form_made : AllMade form_layout
unfolding form_layout
form_made = (counts_made binary_body binary_made, bytes_made (codes "ag") (counts_then ascii_body) (counts_made ascii_body ascii_made))

circuit_made : AllMade circuit_layout
unfolding circuit_layout
circuit_made = (bytes_made (codes "EALIZABLE\n") form_layout form_made, form_made)

-- a list without places below 0 is empty
none_below : (xs : List ℕ) → All (λ n. n < 0) xs → xs ≡ []
none_below [] all = refl
none_below (x ∷ xs) all = absurd (let e = all 0 0 (omega arith) in omega (arith, e))

not_there : (kind : SymbolKind) (symbols : List Symbol) (count : ℕ) → count ≡ 0 → AreNamed kind count symbols → positions_of kind symbols ≡ []
not_there kind symbols count none named = none_below (positions_of kind symbols) (subst (λ n. All (λ position. position < n) (positions_of kind symbols)) none named.within)

pub read_writable : ReadCircuitsAreWritable
read_writable text c is short =
    let has = made_has circuit_layout circuit_made text is.parts is.says.spells in
    let without = is.makes.faultless OfProperties in
    let named = is.makes.faultless OfSymbol in
    subst IsWritable (sym is.makes.same) (record {
      circuit = subst IsCircuit is.makes.same ((judged is.parts).circuit c is.makes);
      names = λ k d within. (has.symbols k d within).in_line;
      positions = λ k d within. (has.symbols k d within).own;
      bad = not_there Bad is.parts.symbols (length is.parts.properties.bad) (ap (λ (xs : List ℕ). length xs) without.bad) named.bad;
      constraints = not_there Constraint is.parts.symbols (length is.parts.properties.constraints) (ap (λ (xs : List ℕ). length xs) without.constraints) named.constraints;
      justice = not_there Justice is.parts.symbols (length is.parts.properties.justice_sizes) (ap (λ (xs : List ℕ). length xs) without.justice) named.justice;
      fairness = not_there Fairness is.parts.symbols (length is.parts.properties.fairness) (ap (λ (xs : List ℕ). length xs) without.fairness) named.fairness;
      outputs = has.outputs;
      short = subst (λ (x : CircuitValue). length (ascii_text x) ≤ most_text) is.makes.same short;
    })

-- and so can circuits that mean the same
pub same_writable : SameCircuitsAreWritable
same_writable text c d is circuit same written short =
    let has = made_has circuit_layout circuit_made text is.parts is.says.spells in
    let without = is.makes.faultless OfProperties in
    let named = is.makes.faultless OfSymbol in
    let symbols : is.parts.symbols ≡ d.symbols = ap (λ (x : CircuitValue). x.symbols) (sym is.makes.same) ∙ same.symbols in
    let outputs : length is.parts.outputs ≡ length d.outputs = ap (λ (x : CircuitValue). length x.outputs) (sym is.makes.same) ∙ same.outputs in
    let no_positions : (kind : SymbolKind) → positions_of kind is.parts.symbols ≡ [] → positions_of kind d.symbols ≡ [] = λ kind none. ap (positions_of kind) (sym symbols) ∙ none in
    record {
      circuit = circuit;
      names = subst (λ (l : List Symbol). All (λ (symbol : Symbol). Contains symbol.name 10 → ⊥) l) symbols (λ k d within. (has.symbols k d within).in_line);
      positions = subst (λ (l : List Symbol). All (λ (symbol : Symbol). symbol.position ≤ most_number) l) symbols (λ k d within. (has.symbols k d within).own);
      bad = no_positions Bad (not_there Bad is.parts.symbols (length is.parts.properties.bad) (ap (λ (xs : List ℕ). length xs) without.bad) named.bad);
      constraints = no_positions Constraint (not_there Constraint is.parts.symbols (length is.parts.properties.constraints) (ap (λ (xs : List ℕ). length xs) without.constraints) named.constraints);
      justice = no_positions Justice (not_there Justice is.parts.symbols (length is.parts.properties.justice_sizes) (ap (λ (xs : List ℕ). length xs) without.justice) named.justice);
      fairness = no_positions Fairness (not_there Fairness is.parts.symbols (length is.parts.properties.fairness) (ap (λ (xs : List ℕ). length xs) without.fairness) named.fairness);
      outputs = let o = has.outputs in omega (arith, o, outputs);
      short = short;
    }
