-- Names of positions, symbol by symbol from the last to the first.
use Rattle.std.proofs.Common.{◌≡◌, ◌⊎◌, inl, inr, ℕ, ◌<◌, ◌≤◌, ◌==◌, ◌&&◌, Bool, true, false, cond, List, [], ◌∷◌, length, get_or, sym, ap, ap₂, ◌∙◌, arith}
use Rattle.std.specs.Prelude.{slice_set}
use Rattle.std.proofs.lemmas.Bool.{cases_lt}
use Rattle.std.proofs.lemmas.List.{ext_get_or, get_or-set_other, get_or-set_same, length-set}
use Rattle.omega_circuit.specs.Rounds.{name_of}
use Rattle.omega_circuit.specs.Symbols.{kind_letter}
use Rattle.omega_circuit.specs.declared.symbol.Symbol.{Symbol}
use Rattle.omega_circuit.specs.declared.symbol.SymbolKind.{SymbolKind}
use Rattle.omega_circuit.proofs.Places.{other_number, same_number}
use Rattle.omega_circuit_automaton.specs.Names.{first_names}
use Rattle.omega_circuit_automaton.proofs.Words.{name_at, names_long}

module _ (kind : SymbolKind) (symbol : Symbol) (rest : List Symbol) where
  abbrev is_kind : Bool
  is_kind = kind_letter symbol.kind == kind_letter kind

  -- a symbol of another kind, or of another position
  other_kind : (position : ℕ) → is_kind ≡ false → name_of kind position (symbol ∷ rest) ≡ name_of kind position rest
  other_kind position other = ap (λ (b : Bool). cond (b && (symbol.position == position)) symbol.name (name_of kind position rest)) other

  other_position : (position : ℕ) → is_kind ≡ true → (symbol.position ≡ position → ⊥) → name_of kind position (symbol ∷ rest) ≡ name_of kind position rest
  other_position position same other =
      ap₂ (λ (a b : Bool). cond (a && b) symbol.name (name_of kind position rest)) same (other_number symbol.position position other)

  own_position : (position : ℕ) → is_kind ≡ true → symbol.position ≡ position → name_of kind position (symbol ∷ rest) ≡ symbol.name
  own_position position same own =
      ap₂ (λ (a b : Bool). cond (a && b) symbol.name (name_of kind position rest)) same (same_number symbol.position position own)

  module _ (count : ℕ) where
    abbrev long : (symbols : List Symbol) → length (first_names kind count symbols) ≡ count
    long symbols = names_long kind count symbols

    same_length : length (first_names kind count rest) ≡ length (first_names kind count (symbol ∷ rest))
    same_length = long rest ∙ sym (long (symbol ∷ rest))

    pub names_other : is_kind ≡ false → first_names kind count rest ≡ first_names kind count (symbol ∷ rest)
    names_other other = ext_get_or [] (first_names kind count rest) (first_names kind count (symbol ∷ rest)) same_length (λ k within.
        let low : k < count = omega (arith, within, long rest) in
        name_at kind count rest k low ∙ sym (other_kind k other) ∙ sym (name_at kind count (symbol ∷ rest) k low))

    pub names_beyond : is_kind ≡ true → count ≤ symbol.position → first_names kind count rest ≡ first_names kind count (symbol ∷ rest)
    names_beyond same beyond = ext_get_or [] (first_names kind count rest) (first_names kind count (symbol ∷ rest)) same_length (λ k within.
        let low : k < count = omega (arith, within, long rest) in
        name_at kind count rest k low ∙ sym (other_position k same (λ e. omega (arith, e, low, beyond))) ∙ sym (name_at kind count (symbol ∷ rest) k low))

    pub names_set : is_kind ≡ true → symbol.position < count → slice_set (first_names kind count rest) symbol.position symbol.name ≡ first_names kind count (symbol ∷ rest)
    names_set same small =
        let old : List (List ℕ) = first_names kind count rest in
        ext_get_or [] (slice_set old symbol.position symbol.name) (first_names kind count (symbol ∷ rest)) (length-set old symbol.position symbol.name ∙ same_length) (λ k within.
        let low : k < count = omega (arith, within, long rest, length-set old symbol.position symbol.name) in
        go k low (cases_eq symbol.position k))
      where
        cases_eq : (x y : ℕ) → (x ≡ y) ⊎ (x ≡ y → ⊥)
        cases_eq x y = elim (cases_lt x y) [
          | inl less ↦ inr (λ e. omega (arith, e, less))
          | inr more ↦ elim (cases_lt y x) [ inl less ↦ inr (λ e. omega (arith, e, less)) | inr also ↦ inl (omega (arith, more, also)) ]
        ]

        go : (k : ℕ) → k < count → (symbol.position ≡ k) ⊎ (symbol.position ≡ k → ⊥)
            → get_or (slice_set (first_names kind count rest) symbol.position symbol.name) k [] ≡ get_or (first_names kind count (symbol ∷ rest)) k []
        go k low (inl own) =
            ap (λ n. get_or (slice_set (first_names kind count rest) symbol.position symbol.name) n []) (sym own)
            ∙ get_or-set_same (first_names kind count rest) symbol.position symbol.name [] (omega (arith, small, long rest))
            ∙ sym (own_position k same own) ∙ sym (name_at kind count (symbol ∷ rest) k low)
        go k low (inr other) =
            get_or-set_other (first_names kind count rest) symbol.position k symbol.name [] (λ e. other (sym e))
            ∙ name_at kind count rest k low ∙ sym (other_position k same other) ∙ sym (name_at kind count (symbol ∷ rest) k low)
