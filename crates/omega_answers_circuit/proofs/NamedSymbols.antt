-- Symbols that name inputs and outputs by propositions can be written.
use Rattle.std.proofs.Common.{◌≡◌, ◌∙◌, ℕ, zero, suc, ◌+◌, ◌<◌, ◌≤◌, Bool, true, false, cond, not, List, [], ◌∷◌, ◌++◌, length, get_or, refl, sym, ap, subst, arith}
use Rattle.std.specs.Prelude.{◌||◌, ◌==◌, All, slice_index_or}
use Rattle.std.specs.List.{Contains, filter, list_any, range_with_len}
use Rattle.std.proofs.lemmas.Bool.{false≢true}
use Rattle.std.proofs.lemmas.List.{append-nil, length-map}
use Rattle.std.proofs.lemmas.List.Elements.{All-append, All-cons, All-head, All-map, All-nil, All-tail, All-weaker}
use Rattle.std.proofs.lemmas.List.FromFn.{length-range_with_len}
use Rattle.std.proofs.lemmas.List.Sums.{count_by-le-length, length-filter}
use Rattle.omega_circuit.specs.Circuit.{positions_of}
use Rattle.omega_circuit.specs.Symbols.{kind_letter}
use Rattle.omega_circuit.specs.declared.symbol.Symbol.{Symbol}
use Rattle.omega_circuit.specs.declared.symbol.SymbolKind.{SymbolKind}
use Rattle.omega_circuit_encoder.specs.Names.{IsSymbolName, is_controlled, names_of, propositions_of, symbols_from}

-- ---- names without line feeds

-- a name has none
abbrev pub IsOneLine : List ℕ → Type 0
IsOneLine name = Contains name 10 → ⊥

either_true : (one other : Bool) → other ≡ true → (one || other) ≡ true
either_true true other is = refl
either_true false other is = is

passes : (test : ℕ → Bool) (xs : List ℕ) (k d : ℕ) → k < length xs → test (get_or xs k d) ≡ true → list_any test xs ≡ true
passes test [] k d low is = absurd (omega (arith, low))
passes test (x ∷ xs) zero d low is = ap (λ (b : Bool). b || list_any test xs) is
passes test (x ∷ xs) (suc k) d low is = either_true (test x) (list_any test xs) (passes test xs k d (omega (arith, low)) is)

one_line : (name : List ℕ) → IsSymbolName name → IsOneLine name
one_line name is has =
    let feed : ℕ → Bool = λ byte. byte == 10 in
    let found : feed (get_or name has.0 10) ≡ true = subst (λ (byte : ℕ). feed byte ≡ true) (sym has.2) refl in
    absurd (false≢true (sym is.plain ∙ passes feed name has.0 10 has.1 found))

empty_one_line : IsOneLine []
empty_one_line has = absurd (omega (arith, has.1))

-- the name at a place, or an empty one
line_at : (names : List (List ℕ)) → All IsOneLine names → (p : ℕ) → IsOneLine (slice_index_or names p [])
line_at [] all p = empty_one_line
line_at (name ∷ names) all zero = All-head IsOneLine name names all
line_at (name ∷ names) all (suc p) = line_at names (All-tail IsOneLine name names all) p

-- the names of a side
side_lines : (system : Bool) (names : List (List ℕ)) (controlled : List ℕ) → All IsSymbolName names → All IsOneLine (names_of system names controlled)
side_lines system names controlled all =
    let lines : All IsOneLine names = All-weaker IsSymbolName IsOneLine one_line names all in
    All-map IsOneLine (λ (p : ℕ). slice_index_or names p []) (propositions_of system (length names) controlled) (λ k d low. line_at names lines _)

-- and how many there are
pub side_short : (system : Bool) (names : List (List ℕ)) (controlled : List ℕ) → length (names_of system names controlled) ≤ length names
side_short system names controlled =
    let range : List ℕ = range_with_len 0 (length names) in
    let test : ℕ → Bool = λ p. cond system (is_controlled controlled p) (not (is_controlled controlled p)) in
    let long : length (names_of system names controlled) ≡ length (filter test range) =
    length-map (filter test range) (λ (p : ℕ). slice_index_or names p []) in
    omega (arith, long, length-filter test range, count_by-le-length test range, length-range_with_len 0 (length names))

-- ---- symbols

-- a symbol has no line feed, and a position below an end
abbrev pub IsPlainBelow : ℕ → Symbol → Type 0
IsPlainBelow end symbol = IsOneLine symbol.name × (symbol.position < end)

kind_plain : (kind : SymbolKind) (position : ℕ) (names : List (List ℕ)) (end : ℕ) → position + length names ≤ end → All IsOneLine names
    → All (IsPlainBelow end) (symbols_from kind position names)
kind_plain kind position [] end low all = All-nil (IsPlainBelow end)
kind_plain kind position (name ∷ names) end low all =
    All-cons (IsPlainBelow end) _ (symbols_from kind (position + 1) names) (All-head IsOneLine name names all, omega (arith, low))
    (kind_plain kind (position + 1) names end (omega (arith, low)) (All-tail IsOneLine name names all))

-- the symbols of both sides
pub both_plain : (one other : SymbolKind) (names : List (List ℕ)) (controlled : List ℕ) → All IsSymbolName names
    → All (IsPlainBelow (length names)) (symbols_from one 0 (names_of false names controlled) ++ symbols_from other 0 (names_of true names controlled))
both_plain one other names controlled all =
    All-append (IsPlainBelow (length names)) (symbols_from one 0 (names_of false names controlled)) (symbols_from other 0 (names_of true names controlled))
    (kind_plain one 0 (names_of false names controlled) (length names) (omega (arith, side_short false names controlled)) (side_lines false names controlled all))
    (kind_plain other 0 (names_of true names controlled) (length names) (omega (arith, side_short true names controlled)) (side_lines true names controlled all))

-- symbols of one kind are none of another
kind_apart : (kind other : SymbolKind) → (kind_letter kind == kind_letter other) ≡ false → (position : ℕ) (names : List (List ℕ)) (rest : List Symbol)
    → positions_of other rest ≡ [] → positions_of other (symbols_from kind position names ++ rest) ≡ []
kind_apart kind other apart position [] rest none = none
kind_apart kind other apart position (name ∷ names) rest none =
    ap (λ (b : Bool). cond b (position ∷ positions_of other (symbols_from kind (position + 1) names ++ rest)) (positions_of other (symbols_from kind (position + 1) names ++ rest))) apart
    ∙ kind_apart kind other apart (position + 1) names rest none

-- nor are those of two kinds of a third
pub kinds_apart : (one two other : SymbolKind) → (kind_letter one == kind_letter other) ≡ false → (kind_letter two == kind_letter other) ≡ false
    → (names more : List (List ℕ)) → positions_of other (symbols_from one 0 names ++ symbols_from two 0 more) ≡ []
kinds_apart one two other apart also names more =
    let last : positions_of other (symbols_from two 0 more ++ []) ≡ [] = kind_apart two other also 0 more [] refl in
    kind_apart one other apart 0 names (symbols_from two 0 more)
    (ap (positions_of other) (sym (append-nil (symbols_from two 0 more))) ∙ last)
