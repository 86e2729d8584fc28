-- the edges of the state with the number
use Rattle.std.proofs.Common.{◌≡◌, ◌⊎◌, inl, inr, ◌<◌, ℕ, List, length, get_or, [], ap, sym, subst, ◌∙◌}
use Rattle.std.specs.Prelude.{Contains}
use Rattle.std.proofs.lemmas.List.{get_or_default}
use Rattle.std.proofs.lemmas.Result.{IfErr-weaker, IfOk-weaker, on_ok_weaker}
use Rattle.omega_ltl_shapes.specs.Graphs.{AreEnough, AreRight}
use Rattle.omega_ltl_shapes.specs.declared.term.Term.{Term}
use Rattle.omega_ltl_terms.specs.Meeting.{IsStateTooLarge, LeadsTo}
use Rattle.omega_ltl_terms.specs.Pieces.{AreEdges}
use Rattle.omega_ltl_terms.proofs.Refused.{large_weaker, passed_on}
use Rattle.omega_ltl_translation.specs.private.Graphs.{AreNumbered, GrowTooMany, IsNext, state_of}
use Rattle.omega_ltl_translation.proofs.Growing.{adds_weaker, grow_weaker}
use Rattle.omega_ltl_translation.proofs.exploring.row_of.Goals as goal

-- what is read is the state with the number
read : (states known : List (List ℕ)) (number : ℕ) (item state : List ℕ) → number < length states → known ≡ states → item ≡ get_or known number item → state ≡ item
    → state ≡ state_of states number
read states known number item state low same here is =
    is ∙ here ∙ ap (λ (xs : List (List ℕ)). get_or xs number item) same ∙ get_or_default states number item [] low

pub edges_of-requires-clause-below : goal.edges_of-requires-clause-below
edges_of-requires-clause-below c =
    let state = read c.args.states.now.items c.as_slice-known.result.now c.args.number c.index-known-number.result c.as_slice.result.now c.requires.low
    c.as_slice-known.ensures.value c.index-known-number.is c.as_slice.ensures in
    λ d h. c.requires.states c.args.number c.requires.low d (subst (λ (s : List ℕ). Contains s d) state h)

pub returns-clause-row : goal.returns-clause-row
returns-clause-row c =
    let state = read c.args.states.now.items c.as_slice-known.result.now c.args.number c.index-known-number.result c.as_slice.result.now c.requires.low
    c.as_slice-known.ensures.value c.index-known-number.is c.as_slice.ensures in
    IfOk-weaker c.numbered.result _ _
    (λ row numbered. record {
      terms = c.in_ok-terms.terms.items;
      right = subst (λ (s : List ℕ). AreRight c.args.tables.now.shapes c.args.tables.now.strongs s c.in_ok-terms.terms.items) state c.in_ok-terms.ensures.right;
      enough = subst (λ (s : List ℕ). AreEnough c.args.tables.now.shapes c.args.tables.now.strongs s c.in_ok-terms.terms.items) state c.in_ok-terms.ensures.enough;
      pieces = subst (λ (s : List ℕ). AreEdges c.args.tables.now.shapes c.args.tables.now.strongs s c.in_ok-terms.terms.items) state c.in_ok-terms.ensures.pieces;
      numbered = subst (λ (xs : List Term). AreNumbered c.numbered.new.states.items xs row) c.as_slice-2.ensures.value numbered;
    })
    c.numbered.ensures.numbered

pub returns-clause-adds : goal.returns-clause-adds
returns-clause-adds c =
    let terms : List Term = c.in_ok-terms.terms.items in
    let shapes = c.args.tables.now.shapes in
    let strongs : List ℕ = c.args.tables.now.strongs in
    let at : List ℕ = state_of c.args.states.now.items c.args.number in
    let state = read c.args.states.now.items c.as_slice-known.result.now c.args.number c.index-known-number.result c.as_slice.result.now c.requires.low
    c.as_slice-known.ensures.value c.index-known-number.is c.as_slice.ensures in
    on_ok_weaker c.numbered.result
    (λ adds. adds_weaker (λ state. (term : Term) × Contains c.as_slice-2.result.now term × (term.next ≡ state)) (IsNext shapes strongs at) c.args.states.now.items c.numbered.new.states.items
    (λ next given.
    let there = subst (λ (xs : List Term). Contains xs given.0) c.as_slice-2.ensures.value given.1 in record {
      leads = subst (λ (s : List ℕ). LeadsTo shapes strongs s next) state (subst (LeadsTo shapes strongs c.as_slice.result.now) given.2 (c.in_ok-terms.ensures.steps given.0 there));
      below = λ d h. (c.in_ok-terms.ensures.right given.0 there).below d (subst (λ (s : List ℕ). Contains s d) (sym given.2) h);
    }) adds)
    c.numbered.ensures.adds

-- the edges are refused, or the states
pub returns-in_err-terms-clause-refused : goal.returns-in_err-terms-clause-refused
returns-in_err-terms-clause-refused c =
    let shapes = c.args.tables.now.shapes in
    let strongs : List ℕ = c.args.tables.now.strongs in
    let at : List ℕ = state_of c.args.states.now.items c.args.number in
    let state = read c.args.states.now.items c.as_slice-known.result.now c.args.number c.index-known-number.result c.as_slice.result.now c.requires.low
    c.as_slice-known.ensures.value c.index-known-number.is c.as_slice.ensures in
    passed_on c.from_residual.result _ _ c.from_residual.ensures.1
    (large_weaker (IsStateTooLarge shapes strongs c.as_slice.result.now) (IsStateTooLarge shapes strongs at ⊎ GrowTooMany (IsNext shapes strongs at) c.args.states.now.items)
    (λ large. inl (subst (IsStateTooLarge shapes strongs) state large)) _ c.in_err-terms.ensures.refused)

pub returns-clause-refused : goal.returns-clause-refused
returns-clause-refused c =
    let shapes = c.args.tables.now.shapes in
    let strongs : List ℕ = c.args.tables.now.strongs in
    let at : List ℕ = state_of c.args.states.now.items c.args.number in
    let state = read c.args.states.now.items c.as_slice-known.result.now c.args.number c.index-known-number.result c.as_slice.result.now c.requires.low
    c.as_slice-known.ensures.value c.index-known-number.is c.as_slice.ensures in
    IfErr-weaker c.numbered.result _ _
    (λ refusal large. large_weaker (GrowTooMany (λ next. (term : Term) × Contains c.as_slice-2.result.now term × (term.next ≡ next)) c.args.states.now.items)
    (IsStateTooLarge shapes strongs at ⊎ GrowTooMany (IsNext shapes strongs at) c.args.states.now.items)
    (λ grow. inr (grow_weaker (λ next. (term : Term) × Contains c.as_slice-2.result.now term × (term.next ≡ next)) (IsNext shapes strongs at) c.args.states.now.items
    (λ next given.
    let there = subst (λ (xs : List Term). Contains xs given.0) c.as_slice-2.ensures.value given.1 in record {
      leads = subst (λ (s : List ℕ). LeadsTo shapes strongs s next) state (subst (LeadsTo shapes strongs c.as_slice.result.now) given.2 (c.in_ok-terms.ensures.steps given.0 there));
      below = λ d h. (c.in_ok-terms.ensures.right given.0 there).below d (subst (λ (s : List ℕ). Contains s d) (sym given.2) h);
    }) grow))
    refusal large)
    c.numbered.ensures.refused
