-- The end of a text: symbols and a comment.
use Rattle.std.proofs.Common.{◌≡◌, ℕ, suc, ◌+◌, ◌-◌, ◌<◌, ◌≤◌, List, [], ◌∷◌, ◌++◌, length, get_or, drop, Ok, Err, refl, sym, ap, ◌∙◌, arith}
use Rattle.std.proofs.lemmas.Bool.{ne_eqb}
use Rattle.std.proofs.lemmas.List.{drop_more}
use Rattle.omega_aiger.specs.Forms.{most_symbols}
use Rattle.omega_aiger.specs.Layout.{Layout, either, finish, rest}
use Rattle.omega_aiger.specs.Symbols.{ending, symbol_end, symbols_then}
use Rattle.omega_aiger.specs.private.Outcome.{GoesOn, outcome}
use Rattle.omega_aiger.proofs.Outcomes.{either_skips}
use Rattle.omega_circuit.specs.Symbols.{kind_letter}
use Rattle.omega_circuit.specs.declared.parts.CircuitParts.{CircuitParts}
use Rattle.omega_circuit.specs.declared.symbol.Symbol.{Symbol}
use Rattle.omega_circuit.specs.declared.symbol.SymbolKind.{SymbolKind}
use Rattle.omega_circuit.specs.declared.symbol.SymbolKind.TheVariants.{Bad, Constraint, Fairness, Input, Justice, Latch, Output}
use Rattle.omega_text.specs.Limits.{most_text}
use Rattle.omega_text.specs.declared.refusal.text.TextFault.TheVariants.{Syntax}

-- there are more symbols to come than were read
pub symbols_left : (count : ℕ) → count ≤ most_text → most_symbols - count ≡ suc (most_symbols - (count + 1))
unfolding most_symbols
symbols_left count few = omega (arith, few)

module _ (next : Symbol → Layout) (parts : CircuitParts) (at : ℕ) where
  -- a letter that begins a symbol
  letter : (kind : SymbolKind) (back : List ℕ) → (kind_letter kind ≡ 99 → outcome (either 10 (rest parts) (symbol_end Constraint next)) (at + 1) back ≡ outcome (symbol_end Constraint next) (at + 1) back)
      → outcome (ending next parts) at (kind_letter kind ∷ back) ≡ outcome (symbol_end kind next) (at + 1) back
  letter Input back none = refl
  letter Latch back none = refl
  letter Output back none = refl
  letter Bad back none = refl
  letter Constraint back none = none refl
  letter Justice back none = refl
  letter Fairness back none = refl

  abbrev from_f : Layout
  from_f = either 102 (symbol_end Fairness next) (finish parts)

  abbrev from_j : Layout
  from_j = either 106 (symbol_end Justice next) from_f

  abbrev from_c : Layout
  from_c = either 99 (either 10 (rest parts) (symbol_end Constraint next)) from_j

  abbrev from_b : Layout
  from_b = either 98 (symbol_end Bad next) from_c

  abbrev from_o : Layout
  from_o = either 111 (symbol_end Output next) from_b

  abbrev from_l : Layout
  from_l = either 108 (symbol_end Latch next) from_o

  -- another byte
  no_letter : (c : ℕ) (back : List ℕ) → ((kind : SymbolKind) → kind_letter kind ≡ c → ⊥) → outcome (ending next parts) at (c ∷ back) ≡ Err (Syntax at)
  no_letter c back none =
      either_skips 105 (symbol_end Input next) from_l at (c ∷ back) (ne_eqb c 105 (λ is. none Input (sym is)))
      ∙ either_skips 108 (symbol_end Latch next) from_o at (c ∷ back) (ne_eqb c 108 (λ is. none Latch (sym is)))
      ∙ either_skips 111 (symbol_end Output next) from_b at (c ∷ back) (ne_eqb c 111 (λ is. none Output (sym is)))
      ∙ either_skips 98 (symbol_end Bad next) from_c at (c ∷ back) (ne_eqb c 98 (λ is. none Bad (sym is)))
      ∙ either_skips 99 (either 10 (rest parts) (symbol_end Constraint next)) from_j at (c ∷ back) (ne_eqb c 99 (λ is. none Constraint (sym is)))
      ∙ either_skips 106 (symbol_end Justice next) from_f at (c ∷ back) (ne_eqb c 106 (λ is. none Justice (sym is)))
      ∙ either_skips 102 (symbol_end Fairness next) (finish parts) at (c ∷ back) (ne_eqb c 102 (λ is. none Fairness (sym is)))

module _ (text : List ℕ) (at : ℕ) (within : at < length text) where
  pub symbol_begins : (kind : SymbolKind) → kind_letter kind ≡ get_or text at 0 → (kind_letter kind ≡ 99 → (first other : Layout) → GoesOn text (at + 1) (either 10 first other) (at + 1) other)
      → (next : Symbol → Layout) (parts : CircuitParts) → GoesOn text at (ending next parts) (at + 1) (symbol_end kind next)
  symbol_begins kind is none next parts =
      ap (outcome (ending next parts) at) (drop_more text at 0 within ∙ ap (λ b. b ∷ drop (at + 1) text) (sym is))
      ∙ letter next parts at kind (drop (at + 1) text) (λ constraint. none constraint (rest parts) (symbol_end Constraint next))

  pub none_begins : ((kind : SymbolKind) → kind_letter kind ≡ get_or text at 0 → ⊥) → (next : Symbol → Layout) (parts : CircuitParts)
      → outcome (ending next parts) at (drop at text) ≡ Err (Syntax at)
  none_begins none next parts = ap (outcome (ending next parts) at) (drop_more text at 0 within) ∙ no_letter next parts at (get_or text at 0) (drop (at + 1) text) none

  pub comment_begins : get_or text at 0 ≡ 99 → ((first other : Layout) → GoesOn text (at + 1) (either 10 first other) (at + 1 + 1) first) → (next : Symbol → Layout) (parts : CircuitParts)
      → outcome (ending next parts) at (drop at text) ≡ Ok parts
  comment_begins is feed next parts =
      ap (outcome (ending next parts) at) (drop_more text at 0 within ∙ ap (λ b. b ∷ drop (at + 1) text) is)
      ∙ feed (rest parts) (symbol_end Constraint next)

-- one symbol more may follow
pub one_symbol : (text : List ℕ) (at : ℕ) (read : List Symbol) (made : List Symbol → CircuitParts) → length read ≤ most_text
    → GoesOn text at (symbols_then (most_symbols - length read) read made) at (ending (λ symbol. symbols_then (most_symbols - (length read + 1)) (read ++ symbol ∷ []) made) (made read))
one_symbol text at read made few = ap (λ m. outcome (symbols_then m read made) at (drop at text)) (symbols_left (length read) few)
