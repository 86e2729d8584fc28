-- The names that symbols of names give to positions.
use Rattle.std.proofs.Common.{◌≡◌, ◌∙◌, ℕ, zero, suc, ◌+◌, ◌<◌, ◌==◌, ◌&&◌, Bool, true, false, cond, List, [], ◌∷◌, ◌++◌, length, map, get_or, refl, sym, ap, ap₂, arith}
use Rattle.std.specs.List.{range_with_len}
use Rattle.omega_answers_circuit.specs.WritingLaws.{NamesSides}
use Rattle.omega_circuit.specs.Circuit.{CircuitValue}
use Rattle.omega_circuit.specs.Rounds.{name_of}
use Rattle.omega_circuit.specs.Symbols.{kind_letter}
use Rattle.omega_circuit.specs.declared.symbol.Symbol.{Symbol}
use Rattle.omega_circuit.specs.declared.symbol.SymbolKind.{SymbolKind}
use Rattle.omega_circuit.specs.declared.symbol.SymbolKind.TheVariants.{Input, Output}
use Rattle.omega_circuit.proofs.Places.{other_number, same_number}
use Rattle.omega_circuit_automaton.specs.Names.{first_names}
use Rattle.omega_circuit_encoder.specs.Names.{HasNamesOf, names_of, symbols_from}

module _ (kind : SymbolKind) where
  -- symbols of another kind name none
  passed_over : (other : SymbolKind) → (kind_letter other == kind_letter kind) ≡ false → (first position : ℕ) (names : List (List ℕ)) (rest : List Symbol)
      → name_of kind position (symbols_from other first names ++ rest) ≡ name_of kind position rest
  passed_over other apart first position [] rest = refl
  passed_over other apart first position (name ∷ names) rest =
      ap (λ (b : Bool). cond (b && (first == position)) name (name_of kind position (symbols_from other (first + 1) names ++ rest))) apart
      ∙ passed_over other apart (first + 1) position names rest

  -- symbols of this kind name the positions from the first on
  named_at : (first position k : ℕ) (names : List (List ℕ)) (rest : List Symbol) → position ≡ first + k → k < length names
      → name_of kind position (symbols_from kind first names ++ rest) ≡ get_or names k []
  named_at first position k [] rest is low = absurd (omega (arith, low))
  named_at first position zero (name ∷ names) rest is low =
      ap₂ (λ (a b : Bool). cond (a && b) name (name_of kind position (symbols_from kind (first + 1) names ++ rest)))
      (same_number (kind_letter kind) (kind_letter kind) refl) (same_number first position (omega (arith, is)))
  named_at first position (suc k) (name ∷ names) rest is low =
      ap₂ (λ (a b : Bool). cond (a && b) name (name_of kind position (symbols_from kind (first + 1) names ++ rest)))
      (same_number (kind_letter kind) (kind_letter kind) refl) (other_number first position (λ e. omega (arith, e, is)))
      ∙ named_at (first + 1) position k names rest (omega (arith, is)) (omega (arith, low))

-- a list by its indices
listed_by : (f : ℕ → List ℕ) (names : List (List ℕ)) (first : ℕ) → ((k position : ℕ) → position ≡ first + k → k < length names → f position ≡ get_or names k [])
    → map f (range_with_len first (length names)) ≡ names
listed_by f [] first at = refl
listed_by f (name ∷ names) first at =
    ap₂ (λ (x : List ℕ) (xs : List (List ℕ)). x ∷ xs) (at 0 first (omega arith) (omega arith))
    (listed_by f names (first + 1) (λ k position is low. at (suc k) position (omega (arith, is)) (omega (arith, low))))

-- so the names of a circuit are those of the propositions
pub names_sides : (names : List (List ℕ)) (controlled : List ℕ) (c : CircuitValue) → HasNamesOf names controlled c → NamesSides names controlled c
names_sides names controlled c named =
    let ins : List (List ℕ) = names_of false names controlled in
    let outs : List (List ℕ) = names_of true names controlled in
    let front : List Symbol = symbols_from Input 0 ins in
    let back : List Symbol = symbols_from Output 0 outs in
    record {
      inputs =
          ap₂ (first_names Input) named.inputs named.symbols
          ∙ listed_by (λ (p : ℕ). name_of Input p (front ++ back)) ins 0 (λ k position is low. named_at Input 0 position k ins back is low);
      outputs =
          ap₂ (first_names Output) named.outputs named.symbols
          ∙ listed_by (λ (p : ℕ). name_of Output p (front ++ back)) outs 0 (λ k position is low.
          passed_over Output Input refl 0 position ins back ∙ (ap (name_of Output position) (sym (append_none back)) ∙ named_at Output 0 position k outs [] is low));
    }
  where
    append_none : (xs : List Symbol) → xs ++ [] ≡ xs
    append_none [] = refl
    append_none (x ∷ xs) = ap (λ (rest : List Symbol). x ∷ rest) (append_none xs)
