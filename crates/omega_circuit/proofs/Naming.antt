-- The positions that symbols name, one symbol after the other.
use Rattle.std.proofs.Common.{◌≡◌, ℕ, ◌+◌, ◌<◌, ◌≤◌, ◌==◌, Bool, true, false, cond, List, [], ◌∷◌, ◌++◌, length, get_or, take, drop, refl, sym, ap, ◌∙◌, arith, length-append}
use Rattle.std.specs.Prelude.{nat_eq}
use Rattle.std.specs.List.{Contains}
use Rattle.std.proofs.lemmas.Bool.{false≢true}
use Rattle.std.proofs.lemmas.List.{append-nil, drop_more, get_or_append_left, get_or_at, take-append-drop, take_more}
use Rattle.std.proofs.lemmas.Map.Keys.{apart_from_distinct}
use Rattle.omega_circuit.specs.Circuit.{AreNamed, positions_of}
use Rattle.omega_circuit.specs.Symbols.{kind_letter}
use Rattle.omega_circuit.specs.declared.symbol.Symbol.{Symbol}
use Rattle.omega_circuit.specs.declared.symbol.SymbolKind.{SymbolKind}
use Rattle.omega_circuit.proofs.Places.{contained_at, same_number}

-- the positions of two lists of symbols
pub positions_append : (kind : SymbolKind) (xs ys : List Symbol) → positions_of kind (xs ++ ys) ≡ positions_of kind xs ++ positions_of kind ys
positions_append kind [] ys = refl
positions_append kind (x ∷ xs) ys = go (kind_letter x.kind == kind_letter kind) (positions_append kind xs ys)
  where
    go : (b : Bool) → positions_of kind (xs ++ ys) ≡ positions_of kind xs ++ positions_of kind ys
        → cond b (x.position ∷ positions_of kind (xs ++ ys)) (positions_of kind (xs ++ ys)) ≡ cond b (x.position ∷ positions_of kind xs) (positions_of kind xs) ++ positions_of kind ys
    go true same = ap (λ (l : List ℕ). x.position ∷ l) same
    go false same = same

-- one symbol more: of this kind, or of another
pub positions_one : (kind : SymbolKind) (symbols : List Symbol) (i : ℕ) (d : Symbol) → i < length symbols → (kind_letter (get_or symbols i d).kind == kind_letter kind) ≡ true
    → positions_of kind (take (i + 1) symbols) ≡ positions_of kind (take i symbols) ++ (get_or symbols i d).position ∷ []
positions_one kind symbols i d within same =
    ap (positions_of kind) (take_more symbols i d within)
    ∙ positions_append kind (take i symbols) (get_or symbols i d ∷ [])
    ∙ ap (λ b. positions_of kind (take i symbols) ++ cond b ((get_or symbols i d).position ∷ []) []) same

pub positions_other : (kind : SymbolKind) (symbols : List Symbol) (i : ℕ) (d : Symbol) → i < length symbols → (kind_letter (get_or symbols i d).kind == kind_letter kind) ≡ false
    → positions_of kind (take (i + 1) symbols) ≡ positions_of kind (take i symbols)
positions_other kind symbols i d within apart =
    ap (positions_of kind) (take_more symbols i d within)
    ∙ positions_append kind (take i symbols) (get_or symbols i d ∷ [])
    ∙ ap (λ b. positions_of kind (take i symbols) ++ cond b ((get_or symbols i d).position ∷ []) []) apart
    ∙ append-nil (positions_of kind (take i symbols))

module _ (kind : SymbolKind) (symbols : List Symbol) (i : ℕ) (d : Symbol) (within : i < length symbols)
    (same : (kind_letter (get_or symbols i d).kind == kind_letter kind) ≡ true) where
  -- all positions: those before this symbol, its own, and those after it
  split : positions_of kind symbols ≡ positions_of kind (take i symbols) ++ ((get_or symbols i d).position ∷ positions_of kind (drop (i + 1) symbols))
  split =
      ap (positions_of kind) (sym (take-append-drop i symbols) ∙ ap (λ (l : List Symbol). take i symbols ++ l) (drop_more symbols i d within))
      ∙ positions_append kind (take i symbols) (get_or symbols i d ∷ drop (i + 1) symbols)
      ∙ ap (λ b. positions_of kind (take i symbols) ++ cond b ((get_or symbols i d).position ∷ positions_of kind (drop (i + 1) symbols)) (positions_of kind (drop (i + 1) symbols))) same

  place : ℕ
  place = length (positions_of kind (take i symbols))

  there : get_or (positions_of kind symbols) place 0 ≡ (get_or symbols i d).position
  unfolding place
  there =
      ap (λ (l : List ℕ). get_or l (length (positions_of kind (take i symbols))) 0) split
      ∙ get_or_at (positions_of kind (take i symbols)) (get_or symbols i d).position (positions_of kind (drop (i + 1) symbols)) 0 (length (positions_of kind (take i symbols))) refl

  inside : place < length (positions_of kind symbols)
  unfolding place
  inside =
      let long : length (positions_of kind symbols) ≡ length (positions_of kind (take i symbols) ++ ((get_or symbols i d).position ∷ positions_of kind (drop (i + 1) symbols))) = ap length split in
      omega (arith, long, length-append (positions_of kind (take i symbols)) ((get_or symbols i d).position ∷ positions_of kind (drop (i + 1) symbols)))

  -- a position that is too great
  pub too_great : (count : ℕ) → count ≤ (get_or symbols i d).position → AreNamed kind count symbols → ⊥
  too_great count great are = let low : get_or (positions_of kind symbols) place 0 < count = are.within place 0 inside in omega (arith, low, there, great)

  -- a position that was named before
  pub named_before : (count : ℕ) → Contains (positions_of kind (take i symbols)) (get_or symbols i d).position → AreNamed kind count symbols → ⊥
  unfolding place
  named_before count before are =
      let at = contained_at (positions_of kind (take i symbols)) (get_or symbols i d).position before in
      let early : get_or (positions_of kind symbols) at.0 0 ≡ (get_or symbols i d).position =
      ap (λ (l : List ℕ). get_or l at.0 0) split
      ∙ get_or_append_left (positions_of kind (take i symbols)) ((get_or symbols i d).position ∷ positions_of kind (drop (i + 1) symbols)) 0 at.0 at.1 ∙ at.2 in
      false≢true (sym (apart_from_distinct nat_eq (positions_of kind symbols) at.0 place 0 are.apart at.1 inside)
      ∙ same_number (get_or (positions_of kind symbols) at.0 0) (get_or (positions_of kind symbols) place 0) (early ∙ sym there))
