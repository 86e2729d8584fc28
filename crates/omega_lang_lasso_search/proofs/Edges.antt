-- The edges of the graph are those of the automaton.
use Rattle.std.proofs.Common.{◌≡◌, ℕ, zero, suc, ◌<◌, List, [], ◌∷◌, length, get_or, map, Some, None, refl, ap, subst, arith}
use Rattle.std.specs.Prelude.{option_map, slice_get}
use Rattle.std.specs.Option.{unwrap_or}
use Rattle.omega_hoa_automaton.specs.Automaton.{BodyEdge}
use Rattle.omega_graph.specs.declared.edge.Edge.{Edge}
use Rattle.omega_lang_runs.specs.Lasso.{marks_of}
use Rattle.omega_lang_lasso_search.specs.private.Numbering.{ends_in, ends_of, first_of, name_in}

-- an edge of the graph is one of the automaton
pub record StandsFor (names : List ℕ) (edges : List Edge) (number : ℕ) (edge : BodyEdge) : Type 0 where
  pub below : number < length edges
  pub leaves : name_in names (get_or edges number (record { from = 0; to = 0 })).from ≡ edge.source.number
  pub enters : name_in names (get_or edges number (record { from = 0; to = 0 })).to ≡ first_of edge.edge.targets

module _ (names : List ℕ) where
  heads : (x : BodyEdge) (xs : List BodyEdge) (y : Edge) (ys : List Edge) → map (ends_in names) (y ∷ ys) ≡ map ends_of (x ∷ xs) → ends_in names y ≡ ends_of x
  heads x xs y ys same = cc

  tails : (x : BodyEdge) (xs : List BodyEdge) (y : Edge) (ys : List Edge) → map (ends_in names) (y ∷ ys) ≡ map ends_of (x ∷ xs) → map (ends_in names) ys ≡ map ends_of xs
  tails x xs y ys same = cc

  nothing : (edge : BodyEdge) → None ≡ Some edge → ⊥
  nothing edge is = cc

  short : (x : BodyEdge) (xs : List BodyEdge) → map (ends_in names) [] ≡ map ends_of (x ∷ xs) → ⊥
  short x xs same = cc

  long : (y : Edge) (ys : List Edge) → map (ends_in names) (y ∷ ys) ≡ map ends_of [] → ⊥
  long y ys same = cc

  same_one : (x y : BodyEdge) → Some x ≡ Some y → x ≡ y
  same_one x y is = cc

  -- the edge of each number
  pub stands_for : (xs : List BodyEdge) (ys : List Edge) → map (ends_in names) ys ≡ map ends_of xs → (number : ℕ) (edge : BodyEdge)
      → slice_get xs number ≡ Some edge → StandsFor names ys number edge
  stands_for [] ys same number edge here = absurd (nothing edge here)
  stands_for (x ∷ xs) [] same number edge here = absurd (short x xs same)
  stands_for (x ∷ xs) (y ∷ ys) same zero edge here =
      let first = heads x xs y ys same in
      subst (StandsFor names (y ∷ ys) zero) (same_one x edge here)
      (record { below = omega arith; leaves = ap (λ (e : Edge). e.from) first; enters = ap (λ (e : Edge). e.to) first })
  stands_for (x ∷ xs) (y ∷ ys) same (suc number) edge here =
      let rest = stands_for xs ys (tails x xs y ys same) number edge here in
      record { below = let low = rest.below in omega arith; leaves = rest.leaves; enters = rest.enters }

  -- and each number has one
  pub stood_for : (xs : List BodyEdge) (ys : List Edge) → map (ends_in names) ys ≡ map ends_of xs → (number : ℕ) → number < length ys
      → (edge : BodyEdge) × (slice_get xs number ≡ Some edge)
  stood_for xs [] same number below = absurd (omega arith)
  stood_for [] (y ∷ ys) same number below = absurd (long y ys same)
  stood_for (x ∷ xs) (y ∷ ys) same zero below = (x, refl)
  stood_for (x ∷ xs) (y ∷ ys) same (suc number) below = stood_for xs ys (tails x xs y ys same) number (omega arith)

-- the marks of each number
pub rows_are : (xs : List BodyEdge) (number : ℕ) → get_or (map marks_of xs) number [] ≡ unwrap_or (option_map marks_of (slice_get xs number)) []
rows_are [] number = refl
rows_are (x ∷ xs) zero = refl
rows_are (x ∷ xs) (suc number) = rows_are xs number
