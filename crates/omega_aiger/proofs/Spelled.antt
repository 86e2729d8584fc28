-- The text that is written spells the circuit, line by line.
use Rattle.std.proofs.Common.{inl, inr, ⊎_elim, ℕ, zero, suc, ◌≤◌, ◌==◌, List, [], ◌∷◌, ◌++◌, All, length, decimal, refl, sym, ap, ◌∙◌, subst, arith, append_assoc, length-append}
use Rattle.std.specs.List.{Contains, flat_map}
use Rattle.std.proofs.lemmas.Bool.{eqb-true}
use Rattle.std.proofs.lemmas.List.{append-nil}
use Rattle.omega_aiger.specs.Layout.{Layout, Spells}
use Rattle.omega_aiger.specs.Lines.{gate_lines, latch_lines, number_lines, reset_end}
use Rattle.omega_aiger.specs.Symbols.{ending, symbol_end, symbols_then}
use Rattle.omega_aiger.specs.Written.{gate_text, latch_text, number_text, reset_text, symbol_text}
use Rattle.omega_aiger.proofs.Splits.{no, tells, yes}
use Rattle.omega_circuit.specs.Symbols.{kind_letter}
use Rattle.omega_circuit.specs.declared.gate.Gate.{Gate}
use Rattle.omega_circuit.specs.declared.latch.Latch.{Latch}
use Rattle.omega_circuit.specs.declared.parts.CircuitParts.{CircuitParts}
use Rattle.omega_circuit.specs.declared.symbol.Symbol.{Symbol}
use Rattle.omega_circuit.specs.declared.symbol.SymbolKind.{SymbolKind}
use Rattle.omega_circuit.specs.declared.symbol.SymbolKind.TheVariants.{Bad, Constraint, Fairness, Input, Justice, Latch as OfLatch, Output}
use Rattle.omega_text.specs.Limits.{most_number}

-- what holds of each item holds of the later ones
pub later : {X : Type 0} (P : X → Type 0) (x : X) (xs : List X) → All P (x ∷ xs) → All P xs
later P x xs all k d within = all (suc k) d (omega (arith, within))

pub numbers_spelled : (xs : List ℕ) → All (λ n. n ≤ most_number) xs → (read : List ℕ) (next : List ℕ → Layout) (back : List ℕ) (made : CircuitParts)
    → Spells (next (read ++ xs)) back made → Spells (number_lines (length xs) read next) (flat_map number_text xs ++ back) made
numbers_spelled [] all read next back made is = subst (λ (l : List ℕ). Spells (next l) back made) (append-nil read) is
numbers_spelled (x ∷ xs) all read next back made is = (
  x,
  10 ∷ (flat_map number_text xs ++ back),
  all 0 0 (omega arith),
  append_assoc (number_text x) (flat_map number_text xs) back ∙ append_assoc (decimal x) (10 ∷ []) (flat_map number_text xs ++ back),
  (
    flat_map number_text xs ++ back,
    refl,
    numbers_spelled xs (later (λ n. n ≤ most_number) x xs all) (read ++ x ∷ []) next back made
        (subst (λ (l : List ℕ). Spells (next l) back made) (sym (append_assoc read (x ∷ []) xs)) is),
  ),
)

-- the numbers of a latch are small
pub record IsSmallLatch (latch : Latch) : Type 0 where
  pub own : latch.literal ≤ most_number
  pub following : latch.next ≤ most_number
  pub first : latch.reset ≤ most_number

pub reset_spelled : (reset : ℕ) → reset ≤ most_number → (next : ℕ → Layout) (back : List ℕ) (made : CircuitParts) → Spells (next reset) back made → Spells (reset_end next) (reset_text reset ++ back) made
reset_spelled reset small next back made is = ⊎_elim
    (λ none. inr (back, ap (λ (l : List ℕ). l ++ back) (yes (reset == 0) (10 ∷ []) (32 ∷ (decimal reset ++ 10 ∷ [])) none), subst (λ n. Spells (next n) back made) (eqb-true reset 0 none) is))
    (λ some. inl (
      decimal reset ++ 10 ∷ back,
      ap (λ (l : List ℕ). l ++ back) (no (reset == 0) (10 ∷ []) (32 ∷ (decimal reset ++ 10 ∷ [])) some) ∙ ap (λ (l : List ℕ). 32 ∷ l) (append_assoc (decimal reset) (10 ∷ []) back),
      (reset, 10 ∷ back, small, refl, (back, refl, is)),
    ))
    (tells (reset == 0))

pub latches_spelled : (xs : List Latch) → All IsSmallLatch xs → (read : List Latch) (next : List Latch → Layout) (back : List ℕ) (made : CircuitParts)
    → Spells (next (read ++ xs)) back made → Spells (latch_lines (length xs) read next) (flat_map latch_text xs ++ back) made
latches_spelled [] all read next back made is = subst (λ (l : List Latch). Spells (next l) back made) (append-nil read) is
latches_spelled (x ∷ xs) all read next back made is =
    let small = all 0 x (omega arith) in
    let rest : List ℕ = flat_map latch_text xs ++ back in (
      x.literal,
      32 ∷ (decimal x.next ++ (reset_text x.reset ++ rest)),
      small.own,
      append_assoc (latch_text x) (flat_map latch_text xs) back ∙ append_assoc (decimal x.literal) (32 ∷ (decimal x.next ++ reset_text x.reset)) rest
          ∙ ap (λ (l : List ℕ). decimal x.literal ++ 32 ∷ l) (append_assoc (decimal x.next) (reset_text x.reset) rest),
      (
        decimal x.next ++ (reset_text x.reset ++ rest),
        refl,
        (
          x.next,
          reset_text x.reset ++ rest,
          small.following,
          refl,
          reset_spelled x.reset small.first _ rest made (latches_spelled xs (later IsSmallLatch x xs all) (read ++ x ∷ []) next back made
              (subst (λ (l : List Latch). Spells (next l) back made) (sym (append_assoc read (x ∷ []) xs)) is)),
        ),
      ),
    )

-- the numbers of a gate are small
pub record IsSmallGate (gate : Gate) : Type 0 where
  pub own : gate.literal ≤ most_number
  pub one : gate.left ≤ most_number
  pub other : gate.right ≤ most_number

pub gates_spelled : (xs : List Gate) → All IsSmallGate xs → (read : List Gate) (next : List Gate → Layout) (back : List ℕ) (made : CircuitParts)
    → Spells (next (read ++ xs)) back made → Spells (gate_lines (length xs) read next) (flat_map gate_text xs ++ back) made
gates_spelled [] all read next back made is = subst (λ (l : List Gate). Spells (next l) back made) (append-nil read) is
gates_spelled (x ∷ xs) all read next back made is =
    let small = all 0 x (omega arith) in
    let rest : List ℕ = flat_map gate_text xs ++ back in (
      x.literal,
      32 ∷ (decimal x.left ++ 32 ∷ (decimal x.right ++ 10 ∷ rest)),
      small.own,
      append_assoc (gate_text x) (flat_map gate_text xs) back
          ∙ append_assoc (decimal x.literal) (32 ∷ (decimal x.left ++ 32 ∷ (decimal x.right ++ 10 ∷ []))) rest
          ∙ ap (λ (l : List ℕ). decimal x.literal ++ 32 ∷ l) (append_assoc (decimal x.left) (32 ∷ (decimal x.right ++ 10 ∷ [])) rest
          ∙ ap (λ (l : List ℕ). decimal x.left ++ 32 ∷ l) (append_assoc (decimal x.right) (10 ∷ []) rest)),
      (
        decimal x.left ++ 32 ∷ (decimal x.right ++ 10 ∷ rest),
        refl,
        (
          x.left,
          32 ∷ (decimal x.right ++ 10 ∷ rest),
          small.one,
          refl,
          (
            decimal x.right ++ 10 ∷ rest,
            refl,
            (
              x.right,
              10 ∷ rest,
              small.other,
              refl,
              (
                rest,
                refl,
                gates_spelled xs (later IsSmallGate x xs all) (read ++ x ∷ []) next back made
                    (subst (λ (l : List Gate). Spells (next l) back made) (sym (append_assoc read (x ∷ []) xs)) is),
              ),
            ),
          ),
        ),
      ),
    )

-- a symbol after its letter
letter_spelled : (kind : SymbolKind) (next : Symbol → Layout) (parts : CircuitParts) (back : List ℕ) (made : CircuitParts) → Spells (symbol_end kind next) back made
    → Spells (ending next parts) (kind_letter kind ∷ back) made
letter_spelled Input next parts back made is = inl (back, refl, is)
letter_spelled OfLatch next parts back made is = inr (inl (back, refl, is))
letter_spelled Output next parts back made is = inr (inr (inl (back, refl, is)))
letter_spelled Bad next parts back made is = inr (inr (inr (inl (back, refl, is))))
letter_spelled Constraint next parts back made is = inr (inr (inr (inr (inl (back, refl, inr is)))))
letter_spelled Justice next parts back made is = inr (inr (inr (inr (inr (inl (back, refl, is))))))
letter_spelled Fairness next parts back made is = inr (inr (inr (inr (inr (inr (inl (back, refl, is)))))))

-- a symbol that can be written
pub record IsSmallSymbol (symbol : Symbol) : Type 0 where
  pub own : symbol.position ≤ most_number
  pub in_line : Contains symbol.name 10 → ⊥

pub symbols_spelled : (xs : List Symbol) → All IsSmallSymbol xs → (most : ℕ) → length xs ≤ most → (read : List Symbol) (made : List Symbol → CircuitParts)
    → Spells (symbols_then most read made) (flat_map symbol_text xs) (made (read ++ xs))
symbols_spelled [] all zero few read made = (refl, ap made (sym (append-nil read)))
symbols_spelled [] all (suc most) few read made = inr (inr (inr (inr (inr (inr (inr (refl, ap made (sym (append-nil read)))))))))
symbols_spelled (x ∷ xs) all zero few read made = absurd (omega (arith, few))
symbols_spelled (x ∷ xs) all (suc most) few read made =
    let small = all 0 x (omega arith) in
    let rest : List ℕ = flat_map symbol_text xs in
    letter_spelled x.kind (λ symbol. symbols_then most (read ++ symbol ∷ []) made) (made read) ((decimal x.position ++ 32 ∷ (x.name ++ 10 ∷ [])) ++ rest) (made (read ++ (x ∷ xs))) (
      x.position,
      32 ∷ (x.name ++ 10 ∷ rest),
      small.own,
      append_assoc (decimal x.position) (32 ∷ (x.name ++ 10 ∷ [])) rest ∙ ap (λ (l : List ℕ). decimal x.position ++ 32 ∷ l) (append_assoc x.name (10 ∷ []) rest),
      (
        x.name ++ 10 ∷ rest,
        refl,
        (
          x.name,
          rest,
          small.in_line,
          refl,
          subst (λ (l : List Symbol). Spells (symbols_then most (read ++ x ∷ []) made) rest (made l)) (append_assoc read (x ∷ []) xs)
              (symbols_spelled xs (later IsSmallSymbol x xs all) most (omega (arith, few)) (read ++ x ∷ []) made),
        ),
      ),
    )

-- each symbol has bytes
pub many_bytes : (xs : List Symbol) → length xs ≤ length (flat_map symbol_text xs)
many_bytes [] = omega arith
many_bytes (x ∷ xs) = let e = many_bytes xs in let f = length-append (symbol_text x) (flat_map symbol_text xs) in omega (arith, e, f)
