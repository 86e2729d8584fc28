-- States that keep their numbers: each number below a bound is its own name.
use Rattle.std.proofs.Common.{◌≡◌, ℕ, ◌+◌, ◌<◌, List, [], ◌∷◌, length, get_or, map, take, All, refl, sym, ap, subst, ◌∙◌, arith}
use Rattle.std.specs.List.{range_with_len}
use Rattle.std.proofs.lemmas.List.FromFn.{get_or-range_with_len, length-range_with_len}
use Rattle.std.proofs.lemmas.List.Elements.{All-head, All-more, All-tail, All-weaker}
use Rattle.omega_graph.specs.Graph.{IsInside, Shape}
use Rattle.omega_graph.specs.declared.edge.Edge.{Edge}
use Rattle.omega_lang_lasso_search.specs.private.Numbering.{AreNamed, IsNamed, ends_in, name_in}

-- the numbers below a bound
abbrev names_below : ℕ → List ℕ
names_below bound = range_with_len 0 bound

name_is : (bound number : ℕ) → number < bound → name_in (names_below bound) number ≡ number
name_is bound number below = get_or-range_with_len 0 bound number 0 below ∙ omega arith

abbrev made : ℕ → ℕ → Edge
made from to = record { from = from; to = to }

ends_are : (bound : ℕ) (edges : List Edge) → All (IsInside bound) edges → map (ends_in (names_below bound)) edges ≡ edges
ends_are bound [] inside = refl
ends_are bound (x ∷ xs) inside =
    let here = All-head (IsInside bound) x xs inside in
    let from = name_is bound x.from here.0 in
    let to = name_is bound x.to here.1 in
    let same : ends_in (names_below bound) x ≡ x = ap (λ (n : ℕ). made n (name_in (names_below bound) x.to)) from ∙ ap (made x.from) to in
    let rest = ends_are bound xs (All-tail (IsInside bound) x xs inside) in
    cc

starts_are : (bound : ℕ) (starts : List ℕ) → All (λ start. start < bound) starts → map (name_in (names_below bound)) starts ≡ starts
starts_are bound [] below = refl
starts_are bound (x ∷ xs) below =
    let here = name_is bound x (All-head (λ start. start < bound) x xs below) in
    let rest = starts_are bound xs (All-tail (λ start. start < bound) x xs below) in
    cc

pub kept_numbers : (starts : List ℕ) (ends : List Edge) (bound : ℕ) (sources : List ℕ) (graph : Shape) → All (λ start. start < bound) starts
    → All (IsInside bound) ends → sources ≡ starts → graph.states ≡ bound → graph.edges ≡ ends
    → (names : List ℕ) × AreNamed starts ends names sources graph
kept_numbers starts ends bound sources graph first inside are counted same = (
  names_below bound,
  record {
    apart = λ p q low high is.
        let count = length-range_with_len 0 bound in
        sym (name_is bound p (omega arith)) ∙ is ∙ name_is bound q (omega arith);
    inside = subst (λ (edges : List Edge). All (IsNamed (names_below bound)) edges) (sym same)
        (All-weaker (IsInside bound) (IsNamed (names_below bound))
        (λ edge is. let count = length-range_with_len 0 bound in let f : edge.from < bound = is.0 in let t : edge.to < bound = is.1 in (omega arith, omega arith)) ends inside);
    ends = ap (map (ends_in (names_below bound))) same ∙ ends_are bound ends inside;
    within = subst (λ (xs : List ℕ). All (λ source. source < length (names_below bound)) xs) (sym are)
        (subst (λ (n : ℕ). All (λ source. source < n) starts) (sym (length-range_with_len 0 bound)) first);
    states = subst (λ (xs : List ℕ). All (λ source. source < graph.states) xs) (sym are)
        (subst (λ (n : ℕ). All (λ source. source < n) starts) (sym counted) first);
    starts_are = ap (map (name_in (names_below bound))) are ∙ starts_are bound starts first;
  },
)

-- a bound that is no less, and a new one
pub bound_more : {X : Type 0} (P : ℕ → X → Type 0) (xs : List X) (index : ℕ) (d : X) (low high : ℕ) → index < length xs → ((x : X) → P low x → P high x)
    → All (P low) (take index xs) → P high (get_or xs index d) → All (P high) (take (index + 1) xs)
bound_more P xs index d low high below weaker so_far here = All-more (P high) xs index d below (All-weaker (P low) (P high) weaker (take index xs) so_far) here
