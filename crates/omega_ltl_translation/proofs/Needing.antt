-- The demands of states that are reached are needed for the root.
use Rattle.std.proofs.Common.{◌≡◌, ◌⊎◌, inl, inr, ℕ, Bool, true, false, List, [], ◌∷◌, ◌++◌, refl, sym, subst, ◌∙◌, if◌then◌else◌, arith}
use Rattle.std.specs.Prelude.{Contains, slice_index}
use Rattle.std.proofs.lemmas.List.{get_or_default, length_push}
use Rattle.std.proofs.lemmas.List.Elements.{Contains-append_left, Contains-append_right, Contains-push, Contains-push_cases}
use Rattle.std.proofs.lemmas.List.Quantifiers.{all_pairs_push}
use Rattle.std.proofs.lemmas.List.Sorted.{Contains-permutation, IsPermutation-sym}
use Rattle.omega_ltl_shapes.specs.Graphs.{IsStrong}
use Rattle.omega_ltl_shapes.specs.Shapes.{shape_at}
use Rattle.omega_ltl_shapes.specs.declared.combination.Combination.{Combination}
use Rattle.omega_ltl_shapes.specs.declared.combination.Combination.TheVariants.{Both, Cases, Constant, Either, Literal, Same}
use Rattle.omega_ltl_shapes.specs.declared.shape.Shape.{Shape}
use Rattle.omega_ltl_shapes.specs.declared.shape.Shape.TheVariants.{Fix, Next, Now}
use Rattle.omega_ltl_shapes.specs.declared.term.Term.{Term}
use Rattle.omega_ltl_terms.specs.Closing.{IsClosedSet, IsPart, brings, combination_parts, given_part, kept_part, part_of_part, parts_of}
use Rattle.omega_ltl_terms.specs.Meeting.{AreMet, IsMetBeside, IsStateTooLarge, LeadsTo, many_edge_terms, met_goal, met_stays, met_waits, met_weak, no_set, none_met, one_more_met}
use Rattle.omega_ltl_terms.specs.Needed.{HaveSets, IsNeeded, needed_operand, needed_root, operands, spoken}
use Rattle.omega_ltl_terms.specs.Tables.{AreStrongs}
use Rattle.omega_ltl_terms.specs.Ways.{IsBeside, beside_both, beside_constant, beside_first, beside_left, beside_literal, beside_right, beside_same, beside_second, next_term, nothing, sides}
use Rattle.omega_ltl_translation.specs.PastLimits.{HasManyPromises, IsGraphTooLarge, IsReached, IsStart, large_state, reached_next, reached_start, start_closed, start_false}
use Rattle.omega_ltl_translation.specs.private.Graphs.{LacksNeededSet}

no_item : {X : Type 0} (x : X) → Contains [] x → ⊥
no_item x h = omega (arith, h.1)

only_item : {X : Type 0} (x y : X) → Contains (x ∷ []) y → x ≡ y
only_item x y h = elim (Contains-push_cases [] x y h) [ inl none ↦ absurd (no_item y none) | inr same ↦ same ]

-- parts of a demand are among those that its shape speaks of
spoken_parts : (c : Combination) (e : ℕ) → Contains (combination_parts c) e → Contains (spoken c) e
spoken_parts (Constant value) e h = h
spoken_parts (Literal name negated) e h = h
spoken_parts (Same d) e h = h
spoken_parts (Both c d) e h = h
spoken_parts (Either c d) e h = absurd (no_item e h)
spoken_parts (Cases a b c d) e h = absurd (no_item e h)

kept_spoken : (goal keep : Combination) (e : ℕ) → Contains (kept_part goal keep) e → Contains (spoken keep) e
kept_spoken goal (Constant value) e h = h
kept_spoken goal (Literal name negated) e h = h
kept_spoken goal (Same d) e h = go (brings goal d) h
  where
    go : (b : Bool) → Contains (if b then d ∷ [] else []) e → Contains (d ∷ []) e
    go true k = k
    go false k = absurd (no_item e k)
kept_spoken goal (Both c d) e h = absurd (no_item e h)
kept_spoken goal (Either c d) e h = absurd (no_item e h)
kept_spoken goal (Cases a b c d) e h = absurd (no_item e h)

part_operand : (shape : Shape) (e : ℕ) → Contains (parts_of shape) e → Contains (operands shape) e
part_operand (Now c) e h = spoken_parts c e h
part_operand (Next d) e h = absurd (no_item e h)
part_operand (Fix goal keep strong) e h = Contains-append_right (spoken goal) (spoken keep) e (kept_spoken goal keep e h)

module _ (shapes : List Shape) (root : ℕ) where
  abbrev AllNeeded : List ℕ → Type 0
  AllNeeded demands = (d : ℕ) → Contains demands d → IsNeeded shapes root d

  spoken_needed : (d : ℕ) (c : Combination) → IsNeeded shapes root d → ((e : ℕ) → Contains (spoken c) e → Contains (operands (shape_at shapes d)) e) → AllNeeded (spoken c)
  spoken_needed d c needed within e h = needed_operand d e needed (within e h)

  -- closed demands
  part_needed : (demands : List ℕ) (d : ℕ) → AllNeeded demands → IsPart shapes demands d → IsNeeded shapes root d
  part_needed demands _ all (given_part d h) = all d h
  part_needed demands _ all (part_of_part d e part h) = needed_operand d e (part_needed demands d all part) (part_operand (shape_at shapes d) e h)

  closed_needed : (demands closed : List ℕ) → IsClosedSet shapes demands closed → AllNeeded demands → AllNeeded closed
  closed_needed demands closed is all d h = part_needed demands d all ((is.exact d).0 h).0

  -- a side of a choice
  record IsSideNeeded (side : Term × Combination) : Type 0 where
    beside : AllNeeded (spoken side.1)
    next : AllNeeded side.0.next

  side_needed : (d : ℕ) (shape : Shape) (side : Term × Combination) → shape_at shapes d ≡ shape → IsNeeded shapes root d → Contains (sides d shape) side → IsSideNeeded side
  side_needed d (Now c) side is needed h = subst IsSideNeeded (only_item (nothing, c) side h) (record {
    beside = spoken_needed d c needed (λ e k. subst (λ (s : Shape). Contains (operands s) e) (sym is) k);
    next = λ e k. absurd (no_item e k);
  })
  side_needed d (Next f) side is needed h = subst IsSideNeeded (only_item (next_term f, Constant true) side h) (record {
    beside = λ e k. absurd (no_item e k);
    next = λ e k. needed_operand d e needed (subst (λ (s : Shape). Contains (operands s) e) (sym is) k);
  })
  side_needed d (Fix goal keep strong) side is needed h = elim (Contains-push_cases ((nothing, goal) ∷ []) (next_term d, keep) side h) [
    | inl first ↦ subst IsSideNeeded (only_item (nothing, goal) side first) (record {
      beside = spoken_needed d goal needed (λ e k. subst (λ (s : Shape). Contains (operands s) e) (sym is) (Contains-append_left (spoken goal) (spoken keep) e k));
      next = λ e k. absurd (no_item e k);
    })
    | inr same ↦ subst IsSideNeeded same (record {
      beside = spoken_needed d keep needed (λ e k. subst (λ (s : Shape). Contains (operands s) e) (sym is) (Contains-append_right (spoken goal) (spoken keep) e k));
      next = λ e k. subst (IsNeeded shapes root) (only_item d e k) needed;
    })
  ]

  -- what is fixed beside a term
  beside_needed : (with : Term) (c : Combination) (both : Term) → IsBeside shapes with c both → AllNeeded (spoken c) → AllNeeded with.next → AllNeeded both.next
  beside_needed _ _ _ (beside_constant with) of_c of_with = of_with
  beside_needed _ _ _ (beside_literal with one both name negated is joined) of_c of_with = λ e h. elim ((joined.of_both.next e).0 h) [
    | inl k ↦ of_with e k
    | inr k ↦ absurd (no_item e (subst (λ (l : List ℕ). Contains l e) is.next k))
  ]
  beside_needed _ _ _ (beside_same with way both d side taken beside joined) of_c of_with = λ e h. elim ((joined.of_both.next e).0 h) [
    | inl k ↦ of_with e k
    | inr k ↦ (
        let needed = side_needed d (shape_at shapes d) side refl (of_c d (0, omega arith, refl)) taken in
        beside_needed side.0 side.1 way beside needed.beside needed.next e k
        )
  ]
  beside_needed _ _ _ (beside_both with middle both d e one other) of_c of_with =
      beside_needed middle (Same e) both other (λ f k. of_c f (Contains-append_right (d ∷ []) (e ∷ []) f k))
      (beside_needed with (Same d) middle one (λ f k. of_c f (Contains-append_left (d ∷ []) (e ∷ []) f k)) of_with)
  beside_needed _ _ _ (beside_left with both d e one) of_c of_with = beside_needed with (Same d) both one (λ f k. of_c f (Contains-append_left (d ∷ []) (e ∷ []) f k)) of_with
  beside_needed _ _ _ (beside_right with both d e one) of_c of_with = beside_needed with (Same e) both one (λ f k. of_c f (Contains-append_right (d ∷ []) (e ∷ []) f k)) of_with
  beside_needed _ _ _ (beside_first with both c d e f one) of_c of_with =
      beside_needed with (Both c d) both one (λ g k. of_c g (Contains-append_left (c ∷ d ∷ []) (e ∷ f ∷ []) g k)) of_with
  beside_needed _ _ _ (beside_second with both c d e f one) of_c of_with =
      beside_needed with (Both e f) both one (λ g k. of_c g (Contains-append_right (c ∷ d ∷ []) (e ∷ f ∷ []) g k)) of_with

  -- edges that meet demands
  met_beside_needed : (strongs : List ℕ) (edge : Term) (d : ℕ) (met : Term) → IsMetBeside shapes strongs edge d met → IsNeeded shapes root d → AllNeeded edge.next → AllNeeded met.next
  met_beside_needed strongs edge d met (met_stays meets same) needed all = subst (λ (t : Term). AllNeeded t.next) (sym same) all
  met_beside_needed strongs edge d met (met_weak weak beside) needed all =
      beside_needed edge (Same d) met beside (λ e k. subst (IsNeeded shapes root) (only_item d e k) needed) all
  met_beside_needed strongs edge d met (met_goal goal keep is beside) needed all =
      beside_needed edge goal met beside (spoken_needed d goal needed
      (λ e k. subst (λ (s : Shape). Contains (operands s) e) (sym is) (Contains-append_left (spoken goal) (spoken keep) e k))) all
  met_beside_needed strongs edge d met (met_waits goal keep set waiting is of waits beside) needed all =
      beside_needed waiting keep met beside (spoken_needed d keep needed
      (λ e k. subst (λ (s : Shape). Contains (operands s) e) (sym is) (Contains-append_right (spoken goal) (spoken keep) e k)))
      (λ e k. elim (Contains-push_cases edge.next d e (subst (λ (l : List ℕ). Contains l e) waits.next k)) [
        | inl before ↦ all e before
        | inr same ↦ subst (IsNeeded shapes root) same needed
      ])

  met_needed : (strongs demands : List ℕ) (edge : Term) → AreMet shapes strongs demands edge → AllNeeded demands → AllNeeded edge.next
  met_needed strongs _ _ none_met all = λ e k. absurd (no_item e k)
  met_needed strongs _ _ (one_more_met before d old met are is) all =
      met_beside_needed strongs old d met is (all d (Contains-push before d))
      (met_needed strongs before old are (λ e k. all e (Contains-append_left before (d ∷ []) e k)))

  -- states
  leads_needed : (strongs state next : List ℕ) → LeadsTo shapes strongs state next → AllNeeded state → AllNeeded next
  leads_needed strongs state next leads all =
      closed_needed leads.edge.next next leads.closed (met_needed strongs leads.order leads.edge leads.met
      (λ d k. all d (Contains-permutation leads.order state d (IsPermutation-sym state leads.order leads.same) k)))

  start_needed : (state : List ℕ) → IsStart shapes root state → AllNeeded state
  start_needed _ (start_closed state is) = closed_needed (root ∷ []) state is (λ d k. subst (IsNeeded shapes root) (only_item root d k) needed_root)
  start_needed _ (start_false never) = λ d k. subst (IsNeeded shapes root) (only_item root d k) needed_root

  reached_needed : (strongs state : List ℕ) → IsReached shapes strongs root state → AllNeeded state
  reached_needed strongs _ (reached_start state is) = start_needed state is
  reached_needed strongs _ (reached_next state next before leads) = leads_needed strongs state next leads (reached_needed strongs state before)

  -- a state that is reached is too large
  pub reached_too_large : (strongs state : List ℕ) → IsReached shapes strongs root state → IsStateTooLarge shapes strongs state
      → IsGraphTooLarge shapes strongs root ⊎ LacksNeededSet shapes strongs root
  reached_too_large strongs state reached (many_edge_terms many) = inl (large_state state reached many)
  reached_too_large strongs state reached (no_set d has lacks) = inr (record { demand = d; needed = reached_needed strongs state reached d has; lacks = lacks })

  -- a needed promise without a set is one more than may be
  pub promises_many : (strongs : List ℕ) → AreStrongs shapes strongs → HaveSets shapes root strongs → LacksNeededSet shapes strongs root → HasManyPromises shapes root
  promises_many strongs are have one = record {
    promises = strongs ++ one.demand ∷ [];
    needed = λ d h. elim (Contains-push_cases strongs one.demand d h) [
      | inl before ↦ subst (IsNeeded shapes root) (read d before) (have.needed before.0 before.1)
      | inr same ↦ subst (IsNeeded shapes root) same one.needed
    ];
    strong = λ d h. elim (Contains-push_cases strongs one.demand d h) [
      | inl before ↦ subst (IsStrong shapes) (read d before) (are.strong before.0 before.1)
      | inr same ↦ subst (IsStrong shapes) same one.lacks.strong
    ];
    once = all_pairs_push (λ a b. a ≡ b → ⊥) strongs one.demand
        (λ i j d lt within same. omega (
          arith,
          lt,
          are.once i j (omega (arith, lt, within)) within
              (get_or_default strongs i 0 d (omega (arith, lt, within)) ∙ same ∙ get_or_default strongs j d 0 within),
        ))
        (λ k d below same. one.lacks.none k (record { below = below; is = get_or_default strongs k 0 d below ∙ same }));
    many = omega (arith, length_push strongs one.demand, have.enough one.demand one.needed one.lacks);
  }
    where
      read : (d : ℕ) (h : Contains strongs d) → slice_index strongs h.0 ≡ d
      read d h = get_or_default strongs h.0 0 d h.1 ∙ h.2
