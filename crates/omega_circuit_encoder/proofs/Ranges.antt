-- Ranges of numbers with one more at the end, and those of them that pass a test.
use Rattle.std.proofs.Common.{◌≡◌, ℕ, zero, suc, ◌+◌, ◌≤◌, Bool, cond, not, List, [], ◌∷◌, ◌++◌, length, map, ap, sym, ◌∙◌, arith, add-one}
use Rattle.std.specs.List.{filter, range_with_len}
use Rattle.std.specs.Prelude.{slice_index_or}
use Rattle.std.proofs.lemmas.List.{length-map}
use Rattle.std.proofs.lemmas.List.Elements.{filter-append}
use Rattle.std.proofs.lemmas.List.FromFn.{length-range_with_len}
use Rattle.std.proofs.lemmas.List.Sums.{count_by-le-length, length-filter}
use Rattle.omega_circuit_encoder.specs.Names.{is_controlled, names_of, propositions_of}

-- one number more
pub range_more : (a n j : ℕ) → a + n ≡ j → range_with_len a (n + 1) ≡ range_with_len a n ++ j ∷ []
range_more a zero j at = let here : a ≡ j = omega arith in ap (λ (x : ℕ). x ∷ []) here
range_more a (suc n) j at =
    let next : ℕ = a + 1 in
    let rest : range_with_len next (n + 1) ≡ range_with_len next n ++ j ∷ [] = range_more next n j (omega arith) in
    ap (λ (k : ℕ). range_with_len a k) (add-one (suc n))
    ∙ ap (λ (xs : List ℕ). a ∷ xs) (ap (λ (k : ℕ). range_with_len (a + 1) k) (sym (add-one n)) ∙ rest)

-- those of them that pass a test
pub filter_range_more : (p : ℕ → Bool) (n : ℕ)
    → filter p (range_with_len 0 (n + 1)) ≡ filter p (range_with_len 0 n) ++ cond (p n) (n ∷ []) []
filter_range_more p n =
    ap (filter p) (range_more 0 n n (omega arith)) ∙ filter-append p (range_with_len 0 n) (n ∷ [])

-- a number more or none
pub push_range : (p : ℕ → Bool) (n : ℕ) (before : List ℕ) → before ≡ filter p (range_with_len 0 n)
    → before ++ cond (p n) (n ∷ []) [] ≡ filter p (range_with_len 0 (n + 1))
push_range p n before is = ap (λ (x : List ℕ). x ++ cond (p n) (n ∷ []) []) is ∙ sym (filter_range_more p n)

-- no more of a range than it has
pub range_short : (p : ℕ → Bool) (n : ℕ) → length (filter p (range_with_len 0 n)) ≤ n
range_short p n =
    let range : List ℕ = range_with_len 0 n in
    omega (arith, length-filter p range, count_by-le-length p range, length-range_with_len 0 n)

-- no more names are of a side than there are
pub names_short : (system : Bool) (names : List (List ℕ)) (controlled : List ℕ)
    → length (names_of system names controlled) ≤ length names
names_short system names controlled =
    let numbers : List ℕ = propositions_of system (length names) controlled in
    let name : ℕ → List ℕ = λ p. slice_index_or names p [] in
    let test : ℕ → Bool = λ p. cond system (is_controlled controlled p) (not (is_controlled controlled p)) in
    let long : length (map name numbers) ≡ length numbers = length-map numbers name in
    let short : length numbers ≤ length names = range_short test (length names) in
    omega (arith, long, short)
