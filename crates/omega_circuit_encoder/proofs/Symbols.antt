-- Symbols of names, with one more at the end.
use Rattle.std.proofs.Common.{◌≡◌, ℕ, zero, suc, ◌+◌, ◌<◌, List, [], ◌∷◌, ◌++◌, length, take, get_or, refl, ap, sym, ◌∙◌, arith, add-one}
use Rattle.std.proofs.lemmas.List.{length-take-le}
use Rattle.omega_circuit.specs.declared.symbol.Symbol.{Symbol}
use Rattle.omega_circuit.specs.declared.symbol.SymbolKind.{SymbolKind}
use Rattle.omega_circuit_encoder.specs.Names.{symbols_from}

-- the symbol of one name more
symbols_more : (kind : SymbolKind) (position : ℕ) (names : List (List ℕ)) (name : List ℕ)
    → symbols_from kind position (names ++ name ∷ []) ≡ symbols_from kind position names
    ++ record { kind = kind; position = position + length names; name = name } ∷ []
symbols_more kind position [] name =
    let same : position ≡ position + 0 = omega arith in
    ap (λ (p : ℕ). record { kind = kind; position = p; name = name } ∷ []) same
symbols_more kind position (first ∷ names) name =
    let next : ℕ = position + 1 in
    let last : ℕ → Symbol = λ p. record { kind = kind; position = p; name = name } in
    let same : next + length names ≡ position + length (first ∷ names) = omega arith in
    ap (λ (rest : List Symbol). record { kind = kind; position = position; name = first } ∷ rest)
    (symbols_more kind next names name ∙ ap (λ (p : ℕ). symbols_from kind next names ++ last p ∷ []) same)

-- a list up to a place, and what is there
take_suc : (xs : List (List ℕ)) (k : ℕ) → k < length xs → take (suc k) xs ≡ take k xs ++ get_or xs k [] ∷ []
take_suc [] k low = absurd (omega (arith, low))
take_suc (x ∷ xs) zero low = refl
take_suc (x ∷ xs) (suc k) low = ap (λ (rest : List (List ℕ)). x ∷ rest) (take_suc xs k (omega (arith, low)))

-- the symbols up to a place, and that of the name there
pub symbols_take_more : (kind : SymbolKind) (names : List (List ℕ)) (k : ℕ) (before : List Symbol)
    → k < length names
    → before ≡ symbols_from kind 0 (take k names)
    → before ++ record { kind = kind; position = k; name = get_or names k [] } ∷ []
    ≡ symbols_from kind 0 (take (k + 1) names)
symbols_take_more kind names k before low is =
    let front : List (List ℕ) = take k names in
    let last : List ℕ = get_or names k [] in
    let long : length front ≡ k = length-take-le k names (omega (arith, low)) in
    let here : k ≡ 0 + length front = omega (arith, long) in
    let more : take (k + 1) names ≡ front ++ last ∷ [] =
    ap (λ (n : ℕ). take n names) (add-one k) ∙ take_suc names k low in
    let symbol : ℕ → Symbol = λ p. record { kind = kind; position = p; name = last } in
    ap (λ (xs : List Symbol). xs ++ symbol k ∷ []) is
    ∙ (ap (λ (p : ℕ). symbols_from kind 0 front ++ symbol p ∷ []) here
    ∙ (sym (symbols_more kind 0 front last) ∙ ap (symbols_from kind 0) (sym more)))
