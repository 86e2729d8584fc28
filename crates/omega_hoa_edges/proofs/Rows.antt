-- What is given for each edge by its index, one edge more at a time, and at an index.
use Rattle.std.proofs.Common.{◌≡◌, ℕ, zero, suc, ◌+◌, ◌<◌, ◌≤◌, List, [], ◌∷◌, ◌++◌, length, take, get_or, slice_get, Option, Some, None, option_map, refl, sym, ap, ap₂, ◌∙◌, arith}
use Rattle.std.proofs.lemmas.Grind.{common_steps}
use Rattle.std.proofs.lemmas.List.{length-take, take_more}
use Rattle.std.proofs.lemmas.Option.{slice_get_read}
use Rattle.omega_hoa_automaton.specs.declared.edge.Edge.{Edge}
use Rattle.omega_hoa_edges.specs.AutomatonLabels.{each_by_index}

module _ {X : Type 0} (given : ℕ → Edge → X) where
  -- one edge after others
  pub each_push : (first : ℕ) (edges : List Edge) (edge : Edge)
      → each_by_index given first (edges ++ edge ∷ []) ≡ each_by_index given first edges ++ given (first + length edges) edge ∷ []
  each_push first [] edge = let e : first ≡ first + 0 = omega arith in ap (λ i. given i edge ∷ []) e
  each_push first (x ∷ edges) edge =
      let e : (first + 1) + length edges ≡ first + length (x ∷ edges) = omega arith in
      ap (λ (rest : List X). given first x ∷ rest)
      (each_push (first + 1) edges edge ∙ ap (λ i. each_by_index given (first + 1) edges ++ given i edge ∷ []) e)

  -- the edge at a place after those before it
  pub each_more : (edges : List Edge) (at : ℕ) (edge : Edge) → at < length edges → edge ≡ get_or edges at edge
      → each_by_index given 0 (take (at + 1) edges) ≡ each_by_index given 0 (take at edges) ++ given at edge ∷ []
  each_more edges at edge below here =
      let long : 0 + length (take at edges) ≡ at = omega (arith, length-take at edges, below) in
      ap (each_by_index given 0) (take_more edges at edge below)
      ∙ ap (λ (e : Edge). each_by_index given 0 (take at edges ++ e ∷ [])) (sym here)
      ∙ each_push 0 (take at edges) edge
      ∙ ap (λ i. each_by_index given 0 (take at edges) ++ given i edge ∷ []) long

  -- what is given for it after what is given for those
  pub each_grown : (edges : List Edge) (at : ℕ) (edge : Edge) (items : List X) (x : X) → at < length edges → edge ≡ get_or edges at edge
      → items ≡ each_by_index given 0 (take at edges) → x ≡ given at edge → items ++ x ∷ [] ≡ each_by_index given 0 (take (at + 1) edges)
  each_grown edges at edge items x below here so_far is =
      ap₂ (λ (ys : List X) (y : X). ys ++ y ∷ []) so_far is ∙ sym (each_more edges at edge below here)

  -- as many as edges
  pub each_length : (first : ℕ) (edges : List Edge) → length (each_by_index given first edges) ≡ length edges
  each_length first [] = refl
  each_length first (x ∷ edges) = ap suc (each_length (first + 1) edges)

  -- the element at an index
  pub each_get : (first : ℕ) (edges : List Edge) (k : ℕ) → slice_get (each_by_index given first edges) k ≡ option_map (given (first + k)) (slice_get edges k)
  each_get first [] k = refl
  each_get first (x ∷ edges) zero = let e : first ≡ first + 0 = omega arith in ap (λ i. Some (given i x)) e
  each_get first (x ∷ edges) (suc k) =
      let e : (first + 1) + k ≡ first + suc k = omega arith in
      each_get (first + 1) edges k ∙ ap (λ i. option_map (given i) (slice_get edges k)) e

  -- the element at an index is the result for the edge there
  pub each_at : (edges : List Edge) (k : ℕ) (x : X) → slice_get (each_by_index given 0 edges) k ≡ Some x
      → (edge : Edge) × ((slice_get edges k ≡ Some edge) × (x ≡ given k edge))
  each_at edges k x e = go (slice_get edges k) refl (sym e ∙ each_get 0 edges k ∙ ap (λ i. option_map (given i) (slice_get edges k)) zero_plus)
    where
      zero_plus : 0 + k ≡ k
      zero_plus = omega arith

      go : (o : Option Edge) → slice_get edges k ≡ o → Some x ≡ option_map (given k) o → (edge : Edge) × ((slice_get edges k ≡ Some edge) × (x ≡ given k edge))
      go None is none = absurd (never none)
        where
          never : Some x ≡ None → ⊥
          never f = cc
      go (Some edge) is some = (edge, (is, same some))
        where
          same : Some x ≡ Some (given k edge) → x ≡ given k edge
          same f = cc

  -- for the edge at an index it is given there
  pub each_there : (edges : List Edge) (k : ℕ) (edge : Edge) → slice_get edges k ≡ Some edge → slice_get (each_by_index given 0 edges) k ≡ Some (given k edge)
  each_there edges k edge e =
      let zero_plus : 0 + k ≡ k = omega arith in
      each_get 0 edges k ∙ ap (λ i. option_map (given i) (slice_get edges k)) zero_plus ∙ ap (option_map (given k)) e

-- a list up to its end is the list
pub take_all : {X : Type 0} (xs : List X) (n : ℕ) → length xs ≤ n → take n xs ≡ xs
take_all xs n past = grind (arith, common_steps)

module _ {X : Type 0} (given : ℕ → Edge → X) where
  -- what is read at an index
  pub each_read : (edges : List Edge) (xs : List X) (at : ℕ) (x : X) (edge : Edge) → xs ≡ each_by_index given 0 edges → at < length xs → x ≡ get_or xs at x
      → at < length edges → edge ≡ get_or edges at edge → x ≡ given at edge
  each_read edges xs at x edge are within here below there =
      same
      (sym (slice_get_read xs (length xs) at x refl within here) ∙ ap (λ (ys : List X). slice_get ys at) are
      ∙ each_there given edges at edge (slice_get_read edges (length edges) at edge refl below there))
    where
      same : Some x ≡ Some (given at edge) → x ≡ given at edge
      same e = cc
