-- The edges of a state that are to be drawn, edge by edge, and what is drawn of each.
use Rattle.std.proofs.Common.{◌≡◌, ℕ, zero, suc, ◌+◌, ◌<◌, Bool, true, nat_eq, Option, Some, None, List, [], ◌∷◌, length, drop, get_or, sym, ap, refl, ◌∙◌, arith}
use Rattle.std.specs.List.{position_from}
use Rattle.std.specs.Option.{option_eq}
use Rattle.std.proofs.lemmas.List.{drop_more}
use Rattle.omega_hoa_automaton.specs.declared.edge.Edge.{Edge}
use Rattle.omega_hoa_automaton.specs.declared.state.State.{State}
use Rattle.omega_hoa_dot.specs.Arrows.{Drawn, drawn_edge, drawn_from, is_first, shared_target, shares_to}
use Rattle.omega_hoa_dot.specs.declared.role.Role.{Role}
use Rattle.omega_hoa_dot.specs.private.layout.Sharing.{next_to, targets_of}
use Rattle.omega_hoa_dot.proofs.Bodies.{next_left}
use Rattle.omega_hoa_dot.proofs.Shared.{position-map}

module _ (names : List (List ℕ)) (role : ℕ → Role) (first : ℕ) (state : State) where
  -- as many as the edges
  pub length-drawn : (n : ℕ) (edges : List Edge) → length (drawn_from names role first state n edges) ≡ length edges
  length-drawn n [] = refl
  length-drawn n (edge ∷ edges) = ap suc (length-drawn (n + 1) edges)

  -- those from one on
  drop-drawn : (i n : ℕ) (edges : List Edge) → drop i (drawn_from names role first state n edges) ≡ drawn_from names role first state (n + i) (drop i edges)
  drop-drawn zero n edges = let e : n ≡ n + 0 = omega arith in ap (λ m. drawn_from names role first state m edges) e
  drop-drawn (suc i) n [] = refl
  drop-drawn (suc i) n (edge ∷ edges) =
      let e : (n + 1) + i ≡ n + suc i = omega arith in
      drop-drawn i (n + 1) edges ∙ ap (λ m. drawn_from names role first state m (drop i edges)) e

  -- the edge of an index, and those after it
  pub drawn_left : (i : ℕ) (edges : List Edge) (edge : Edge) → i < length edges → edge ≡ get_or edges i edge
      → drop i (drawn_from names role first state 0 edges) ≡ drawn_edge names role first state i edge ∷ drop (i + 1) (drawn_from names role first state 0 edges)
  drawn_left i edges edge below here =
      let e : 0 + i ≡ i = omega arith in
      let f : 0 + (i + 1) ≡ i + 1 = omega arith in
      drop-drawn i 0 edges ∙ ap (λ m. drawn_from names role first state m (drop i edges)) e
      ∙ ap (drawn_from names role first state i) (next_left edges i edge below here)
      ∙ ap (λ list. drawn_edge names role first state i edge ∷ list)
      (sym (drop-drawn (i + 1) 0 edges ∙ ap (λ m. drawn_from names role first state m (drop (i + 1) edges)) f))

  -- the edge of an index
  pub drawn_here : (i : ℕ) (edges : List Edge) (edge : Edge) → i < length edges → edge ≡ get_or edges i edge
      → drawn_edge names role first state i edge ≡ get_or (drawn_from names role first state 0 edges) i (drawn_edge names role first state i edge)
  drawn_here i edges edge below here =
      let drawn : List Drawn = drawn_from names role first state 0 edges in
      let one : Drawn = drawn_edge names role first state i edge in
      heads one (get_or drawn i one) (drop (i + 1) drawn) (drop (i + 1) drawn)
      (sym (drawn_left i edges edge below here) ∙ drop_more drawn i one (omega (arith, below, length-drawn 0 edges)))
    where
      heads : (x y : Drawn) (xs ys : List Drawn) → x ∷ xs ≡ y ∷ ys → x ≡ y
      heads x y xs ys e = cc

-- the first edge that shares an arrow to a state
pub first-drawn : (edges : List Drawn) (target : ℕ) → next_to (targets_of edges) 0 target ≡ position_from (shares_to target) 0 edges
first-drawn edges target = position-map (λ (edge : Drawn). shared_target edge.role edge.targets) (λ (edge : Drawn). edge.lines) target 0 edges

-- whether an edge is that one, as a table has it
pub first_is : (edges : List Drawn) (target index : ℕ) (found : Option ℕ) (first : Bool) → found ≡ next_to (targets_of edges) 0 target
    → first ≡ option_eq nat_eq found (Some index) → first ≡ is_first target edges index
first_is edges target index found first known e = e ∙ ap (λ (o : Option ℕ). option_eq nat_eq o (Some index)) (known ∙ first-drawn edges target)

-- an option that is a number
pub same_index : (found : Option ℕ) (index : ℕ) → option_eq nat_eq found (Some index) ≡ true → found ≡ Some index
same_index None index e = cc
same_index (Some first) index e = let same : first ≡ index = grind arith in ap Some same
