-- What the complement means, part by part, and its moves by those of the automaton.
use Rattle.std.proofs.Common.{◌≡◌, ◌==◌, ℕ, zero, suc, ◌+◌, ◌-◌, ◌<◌, ◌≤◌, ◌⊎◌, inl, inr, Bool, true, false, not, ◌||◌, List, [], ◌∷◌, ◌++◌, length, slice_get, Option, Some, None, option_map, unwrap_or, Contains, refl, sym, ap, ap₂, subst, ◌∙◌, arith, eqb-true, eq-eqb, true≢false}
use Rattle.std.specs.Prelude.{option_and_then, slice_index_or}
use Rattle.std.specs.List.{AllZip, filter_map, list_any, range_with_len}
use Rattle.std.specs.Option.{option_or}
use Rattle.std.proofs.lemmas.Bool.{cases_lt}
use Rattle.std.proofs.lemmas.List.FromFn.{length-range_with_len}
use Rattle.std.proofs.lemmas.Option.{slice_get-get_or, slice_get_within}
use Rattle.omega_hoa_acceptance.specs.Acceptance.{holds}
use Rattle.omega_hoa_acceptance.specs.Acceptance as acc
use Rattle.omega_hoa_acceptance.specs.Meaning.{acc_meant}
use Rattle.omega_hoa_label.specs.Writing.{label_written}
use Rattle.omega_hoa_acceptance.specs.Writing.{acc_written}
use Rattle.omega_hoa_label_text.specs.Expanding.{Defined, IsExpansion, Meaning}
use Rattle.omega_hoa_label.specs.Label.{LabelTree, truth}
use Rattle.omega_hoa_label.specs.Label as label
use Rattle.omega_hoa_label.specs.Raw.{RawLabelTree}
use Rattle.omega_hoa_automaton.specs.Automaton.{Description, IsAutomaton}
use Rattle.omega_hoa_automaton.specs.Faults.{definitions_of}
use Rattle.omega_hoa_automaton.specs.Items.{acceptance_in, alias_in, first_said, start_in}
use Rattle.omega_hoa_automaton.specs.Meaning.{AreMarksOf, IsEdgeOf, IsLabelOf, IsStateOf, Means}
use Rattle.omega_hoa_automaton.specs.declared.edge.Edge.{Edge}
use Rattle.omega_hoa_automaton.specs.declared.state.State.{State}
use Rattle.omega_hoa_syntax.specs.declared.raw_automaton.RawAutomaton.{RawAutomaton}
use Rattle.omega_hoa_syntax.specs.declared.raw_edge.RawEdge.{RawEdge}
use Rattle.omega_hoa_syntax.specs.declared.raw_item.RawItem.{RawItem}
use Rattle.omega_hoa_syntax.specs.declared.raw_state.RawState.{RawState}
use Rattle.omega_hoa_acceptance.specs.Dual.{dual}
use Rattle.omega_hoa_edges.specs.AutomatonLabels.{labels_at, state_among, state_at}
use Rattle.omega_lang_complement.specs.Written.{IsMissing, IsTurned, IsWrittenComplement, complement_acceptance, further_edges, sink_state, sinks, turned_edge, turned_edges}
use Rattle.omega_hoa_edges.proofs.Full.{any_at}
use Rattle.omega_lang_complement.proofs.Rests.{rest_true}
use Rattle.omega_hoa_edges.proofs.Rows.{each_at, each_there}
use Rattle.omega_hoa_edges.proofs.StateNumbers.{state_number}
use Rattle.omega_acc.proofs.written.Formulas.{acc-means-itself}
use Rattle.omega_acc.proofs.written.Labels.{means-itself}
use Rattle.omega_hoa_edges.specs.Labels.{label_at, valuation_label}
use Rattle.omega_lang_word_laws.proofs.parting.Moves.{IsMove}
use Rattle.omega_lang_word_laws.proofs.parting.Numbered.{get_left, get_right, never_some, same_some, state_is, state_there, zip_left, zip_right}

pub meant_is : (tree meant : LabelTree) → IsExpansion [] (label_written tree) meant → meant ≡ tree
meant_is tree meant is = same_some meant tree (sym is.tree_is ∙ ap (option_map (λ (m : Meaning). m.tree)) (means-itself [] tree).means)

no_label : (l : Option LabelTree) → IsLabelOf [] None l → l ≡ None
no_label None is = refl
no_label (Some tree) is = absurd is

a_label : (tree : LabelTree) (l : Option LabelTree) → IsLabelOf [] (Some (label_written tree)) l → l ≡ Some tree
a_label tree None is = absurd is
a_label tree (Some meant) is = ap Some (meant_is tree meant is)

-- marks by what they hold
abbrev pub HoldSame : List ℕ → List ℕ → Type 0
HoldSame marks others = (set : ℕ) → holds set marks ≡ holds set others

contains_held : (marks : List ℕ) (set : ℕ) → Contains marks set → holds set marks ≡ true
contains_held marks set (k, below, is) =
    any_at (λ mark. mark == set) marks k set (slice_get-get_or marks k set below ∙ ap Some is) (eq-eqb set set refl)

pub held_contains : (marks : List ℕ) (set : ℕ) → holds set marks ≡ true → Contains marks set
held_contains [] set e = absurd (true≢false (sym e))
held_contains (mark ∷ marks) set e = go (mark == set) refl (held_contains marks set) e
  where
    go : (b : Bool) → (mark == set) ≡ b → (holds set marks ≡ true → Contains marks set) → holds set (mark ∷ marks) ≡ true → Contains (mark ∷ marks) set
    go true is rest held = (0, omega arith, eqb-true mark set is)
    go false is rest held =
        let found = rest (later (mark == set) (holds set marks) is held) in (suc found.0, omega (arith, found.1), found.2)
      where
        later : (x y : Bool) → x ≡ false → (x || y) ≡ true → y ≡ true
        later true y f g = absurd (true≢false f)
        later false y f g = g

bool_same : (b c : Bool) → (b ≡ true → c ≡ true) → (c ≡ true → b ≡ true) → b ≡ c
bool_same true c there back = sym (there refl)
bool_same false true there back = absurd (true≢false (sym (back refl)))
bool_same false false there back = refl

hold_written : (written marks : List ℕ) → AreMarksOf written marks → HoldSame marks written
hold_written written marks are set =
    bool_same (holds set marks) (holds set written)
    (λ e. contains_held written set ((are.same set).0 (held_contains marks set e)))
    (λ e. contains_held marks set ((are.same set).1 (held_contains written set e)))

no_marks : (marks : List ℕ) → AreMarksOf [] marks → marks ≡ []
no_marks [] are = refl
no_marks (x ∷ xs) are = absurd (nothing ((are.same x).0 (0, omega arith, refl)))
  where
    nothing : Contains [] x → ⊥
    nothing contained = omega (arith, contained.1)

-- the numbers of a range
pub range_at : (first count k m : ℕ) → slice_get (range_with_len first count) k ≡ Some m → (m ≡ first + k) × (k < count)
range_at first zero k m e = absurd (never_some m e)
range_at first (suc count) zero m e = let is : first ≡ m = same_some first m e in (omega (arith, is), omega arith)
range_at first (suc count) (suc k) m e = let rest = range_at (first + 1) count k m e in (omega (arith, rest.0), omega (arith, rest.1))

range_get : (first count k : ℕ) → k < count → slice_get (range_with_len first count) k ≡ Some (first + k)
range_get first zero k below = absurd (omega arith)
range_get first (suc count) zero below = let e : first ≡ first + 0 = omega arith in ap Some e
range_get first (suc count) (suc k) below =
    let e : (first + 1) + k ≡ first + suc k = omega arith in range_get (first + 1) count k (omega arith) ∙ ap Some e

pub zip_length : {A B : Type 0} (R : A → B → Type 0) (xs : List A) (ys : List B) → AllZip R xs ys → length xs ≡ length ys
zip_length R [] [] all = refl
zip_length R [] (y ∷ ys) all = absurd all
zip_length R (x ∷ xs) [] all = absurd all
zip_length R (x ∷ xs) (y ∷ ys) all = ap suc (zip_length R xs ys all.1)

module _ (a c : Description) (raw : RawAutomaton) (written : IsWrittenComplement a raw) (means : Means raw c) (is_automaton : IsAutomaton c) where
  none : definitions_of raw ≡ []
  none = ap (λ (items : List RawItem). filter_map alias_in items) written.items

  pub starts_are : c.starts ≡ slice_index_or a.starts 0 (a.states ∷ []) ∷ []
  starts_are = means.starts ∙ ap (λ (items : List RawItem). filter_map start_in items) written.items

  meant_acceptance : acc_meant (acc_written (complement_acceptance a written.sink)) ≡ Some c.acceptance
  meant_acceptance =
      sym (ap (λ (items : List RawItem). option_and_then (λ accepted. acc_meant accepted.formula) (first_said acceptance_in items)) written.items) ∙ means.acceptance

  pub acceptance_plain : written.sink ≡ false → c.acceptance ≡ dual a.acceptance
  acceptance_plain e =
      same_some c.acceptance (dual a.acceptance)
      (sym meant_acceptance ∙ ap (λ b. acc_meant (acc_written (complement_acceptance a b))) e ∙ (acc-means-itself (dual a.acceptance)).means)

  pub acceptance_sink : written.sink ≡ true → c.acceptance ≡ acc.disjunction (dual a.acceptance) (acc.inf false a.sets)
  acceptance_sink e =
      same_some c.acceptance (acc.disjunction (dual a.acceptance) (acc.inf false a.sets))
      (sym meant_acceptance ∙ ap (λ b. acc_meant (acc_written (complement_acceptance a b))) e
      ∙ (acc-means-itself (acc.disjunction (dual a.acceptance) (acc.inf false a.sets))).means)

  states_meant : AllZip (IsStateOf []) raw.states c.defined
  states_meant = subst (λ (ds : List Defined). AllZip (IsStateOf ds) raw.states c.defined) none means.defined

  turned_many : length written.turned ≡ a.states
  turned_many = sym (zip_length (λ number. IsTurned (length a.propositions) a.states (state_at a number)) (range_with_len 0 a.states) written.turned written.states) ∙ length-range_with_len 0 a.states

  -- the state of a number as it is written
  pub record IsMeantState (n : ℕ) : Type 0 where
    pub raw_state : RawState
    pub turned : IsTurned (length a.propositions) a.states (state_at a n) raw_state
    pub meant : IsStateOf [] raw_state (state_at c n)

  standing : (n : ℕ) (r : RawState) → slice_get raw.states n ≡ Some r → r.number ≡ n → IsStateOf [] r (state_at c n)
  standing n r at number =
      let found = zip_left (IsStateOf []) raw.states c.defined n r states_meant at in
      let same : state_at c n ≡ found.0 =
      ap (state_among c.defined) (sym (found.1.1.number ∙ number)) ∙ state_is c.defined n found.0 is_automaton.once found.1.0 in
      subst (λ (s : State). IsStateOf [] r s) (sym same) found.1.1

  pub state_meant : (n : ℕ) → n < a.states → IsMeantState n
  state_meant n below =
      let zero_plus : 0 + n ≡ n = omega arith in
      let turned = zip_left (λ number. IsTurned (length a.propositions) a.states (state_at a number)) (range_with_len 0 a.states) written.turned n n written.states
      (range_get 0 a.states n below ∙ ap Some zero_plus) in
      let at : slice_get raw.states n ≡ Some turned.0 =
      ap (λ (rs : List RawState). slice_get rs n) written.body ∙ get_left written.turned (sinks a written.sink) n (omega (arith, below, turned_many)) ∙ turned.1.0 in
      record {
        raw_state = turned.0;
        turned = turned.1.1;
        meant = standing n turned.0 at (turned.1.1.number ∙ state_number a.defined n);
      }

  pub sink_meant : written.sink ≡ true → IsStateOf [] (sink_state a) (state_at c a.states)
  sink_meant e =
      let none_left : a.states - length written.turned ≡ 0 = omega (arith, turned_many) in
      standing a.states (sink_state a)
      (ap (λ (rs : List RawState). slice_get rs a.states) written.body ∙ get_right written.turned (sinks a written.sink) a.states (omega (arith, turned_many))
      ∙ ap (slice_get (sinks a written.sink)) none_left ∙ ap (λ b. slice_get (sinks a b) 0) e) refl

  -- which states have edges
  pub state_within : (n index : ℕ) (edge : Edge) → slice_get (state_at c n).edges index ≡ Some edge → (n < a.states) ⊎ ((n ≡ a.states) × (written.sink ≡ true))
  state_within n index edge e = go (cases_lt there.0 (length written.turned))
    where
      there : (place : ℕ) × (slice_get c.defined place ≡ Some (state_at c n))
      there = state_there c.defined n index edge e

      r : (x : RawState) × ((slice_get raw.states there.0 ≡ Some x) × IsStateOf [] x (state_at c n))
      r = zip_right (IsStateOf []) raw.states c.defined there.0 (state_at c n) states_meant there.1

      number : n ≡ (r.0).number
      number = sym (state_number c.defined n) ∙ r.1.1.number

      following : (b : Bool) (k : ℕ) → written.sink ≡ b → slice_get (sinks a b) k ≡ Some r.0 → (n ≡ a.states) × (written.sink ≡ true)
      following true zero is at = (number ∙ ap (λ (x : RawState). x.number) (sym (same_some (sink_state a) r.0 at)), is)
      following true (suc k) is at = absurd (never_some r.0 at)
      following false k is at = absurd (never_some r.0 at)

      go : (there.0 < length written.turned) ⊎ (length written.turned ≤ there.0) → (n < a.states) ⊎ ((n ≡ a.states) × (written.sink ≡ true))
      go (inl below) =
          let found = zip_right (λ number. IsTurned (length a.propositions) a.states (state_at a number)) (range_with_len 0 a.states) written.turned there.0 r.0 written.states
          (sym (get_left written.turned (sinks a written.sink) there.0 below) ∙ sym (ap (λ (rs : List RawState). slice_get rs there.0) written.body) ∙ r.1.0) in
          let at = range_at 0 a.states there.0 found.0 found.1.0 in
          let is : n ≡ found.0 = number ∙ found.1.1.number ∙ state_number a.defined found.0 in
          inl (omega (arith, at.0, at.1, is))
      go (inr past) =
          inr (following written.sink (there.0 - length written.turned) refl
          (sym (get_right written.turned (sinks a written.sink) there.0 past) ∙ sym (ap (λ (rs : List RawState). slice_get rs there.0) written.body) ∙ r.1.0))

  -- the label and the marks of an edge of a state that has none itself
  labelled : (r : RawState) (s : State) (index : ℕ) (edge : Edge) (l : LabelTree) → r.label ≡ None → IsStateOf [] r s → edge.label ≡ Some l
      → label_at (length c.propositions) s index edge ≡ l
  labelled r s index edge l plain is e =
      ap₂ (λ (x y : Option LabelTree). unwrap_or (option_or x y) (valuation_label index (length c.propositions)))
      (no_label s.label (subst (λ (o : Option RawLabelTree). IsLabelOf [] o s.label) plain is.label)) e

  unmarked : (r : RawState) (s : State) → r.marks ≡ None → IsStateOf [] r s → s.marks ≡ []
  unmarked r s plain is = no_marks s.marks (subst (λ (o : Option (List ℕ)). AreMarksOf (unwrap_or o []) s.marks) plain is.marks)

  -- a move of the complement is one of the automaton, or by a letter that is missing
  abbrev pub IsOwn : ℕ → (ℕ → Bool) → ℕ → List ℕ → Type 0
  IsOwn n held to marks = (own : List ℕ) × (IsMove a n held to own × HoldSame marks own)

  abbrev pub IsLost : ℕ → (ℕ → Bool) → ℕ → Type 0
  IsLost n held to = (list_any (truth held) (labels_at a n) ≡ false) × (to ≡ a.states)

  pub move_is : (n : ℕ) (held : ℕ → Bool) (to : ℕ) (marks : List ℕ) → n < a.states → IsMove c n held to marks → IsOwn n held to marks ⊎ IsLost n held to
  move_is n held to marks below move = go (cases_lt move.index (length (turned_edges (length a.propositions) (state_at a n))))
    where
      m : IsMeantState n
      m = state_meant n below

      re : (x : RawEdge) × ((slice_get (m.raw_state).edges move.index ≡ Some x) × IsEdgeOf [] x move.edge)
      re = zip_right (IsEdgeOf []) (m.raw_state).edges (state_at c n).edges move.index move.edge m.meant.edges move.there

      at : slice_get (turned_edges (length a.propositions) (state_at a n) ++ further_edges a.states m.turned.missing) move.index ≡ Some re.0
      at = sym (ap (λ (es : List RawEdge). slice_get es move.index) m.turned.edges) ∙ re.1.0

      marked : marks ≡ move.edge.marks
      marked = move.marked ∙ ap (λ (ms : List ℕ). ms ++ move.edge.marks) (unmarked m.raw_state (state_at c n) m.turned.marks m.meant)

      lost : (o : Option RawLabelTree) (k : ℕ) → IsMissing (labels_at a n) o → slice_get (further_edges a.states o) k ≡ Some re.0 → IsLost n held to
      lost None k missing e = absurd (never_some re.0 e)
      lost (Some w) (suc k) missing e = absurd (never_some re.0 e)
      lost (Some w) zero missing e =
          let further : RawEdge = record { label = Some w; targets = a.states ∷ []; marks = None } in
          let same : further ≡ re.0 = same_some further re.0 e in
          let is : IsEdgeOf [] further move.edge = subst (λ (x : RawEdge). IsEdgeOf [] x move.edge) (sym same) re.1.1 in
          let rest : LabelTree = missing.1.0 in
          let named : move.edge.label ≡ Some rest = a_label rest move.edge.label (subst (λ (x : RawLabelTree). IsLabelOf [] (Some x) move.edge.label) missing.1.2 is.label) in
          let true_there : truth held rest ≡ true =
          sym (ap (truth held) (labelled m.raw_state (state_at c n) move.index move.edge rest m.turned.label m.meant named)) ∙ move.holds in (
            not_true (list_any (truth held) (labels_at a n)) (sym (rest_true held (labels_at a n) rest missing.1.1) ∙ true_there),
            one_target (sym is.targets ∙ move.enters),
          )
        where
          not_true : (b : Bool) → not b ≡ true → b ≡ false
          not_true true f = sym f
          not_true false f = refl

          one_target : a.states ∷ [] ≡ to ∷ [] → to ≡ a.states
          one_target f = cc

      go : (move.index < length (turned_edges (length a.propositions) (state_at a n))) ⊎ (length (turned_edges (length a.propositions) (state_at a n)) ≤ move.index)
          → IsOwn n held to marks ⊎ IsLost n held to
      go (inl front) =
          let own = each_at (turned_edge (length a.propositions) (state_at a n)) (state_at a n).edges move.index re.0
          (sym (get_left (turned_edges (length a.propositions) (state_at a n)) (further_edges a.states m.turned.missing) move.index front) ∙ at) in
          let l : LabelTree = label_at (length a.propositions) (state_at a n) move.index own.0 in
          let is : IsEdgeOf [] (turned_edge (length a.propositions) (state_at a n) move.index own.0) move.edge =
          subst (λ (x : RawEdge). IsEdgeOf [] x move.edge) own.1.1 re.1.1 in
          let named : move.edge.label ≡ Some l = a_label l move.edge.label is.label in
          inl (
            (state_at a n).marks ++ own.0.marks,
            (
              record {
                index = move.index;
                edge = own.0;
                there = own.1.0;
                holds = sym (ap (truth held) (labelled m.raw_state (state_at c n) move.index move.edge l m.turned.label m.meant named)) ∙ move.holds;
                enters = sym is.targets ∙ move.enters;
                marked = refl;
              },
              λ set. ap (holds set) marked ∙ hold_written ((state_at a n).marks ++ own.0.marks) move.edge.marks is.marks set,
            ),
          )
      go (inr back) =
          inr (lost m.turned.missing (move.index - length (turned_edges (length a.propositions) (state_at a n))) m.turned.is_missing
          (sym (get_right (turned_edges (length a.propositions) (state_at a n)) (further_edges a.states m.turned.missing) move.index back) ∙ at))

  -- the complement has each move of the automaton
  pub own_moves : (n : ℕ) (held : ℕ → Bool) (to : ℕ) (own : List ℕ) → n < a.states → IsMove a n held to own → (marks : List ℕ) × (IsMove c n held to marks × HoldSame marks own)
  own_moves n held to own below move = (
    (state_at c n).marks ++ edge.marks,
    (
      record {
        index = move.index;
        edge = edge;
        there = found.1.0;
        holds = ap (truth held) (labelled m.raw_state (state_at c n) move.index edge l m.turned.label m.meant (a_label l edge.label is.label)) ∙ move.holds;
        enters = is.targets ∙ move.enters;
        marked = refl;
      },
      λ set. ap (λ (ms : List ℕ). holds set (ms ++ edge.marks)) (unmarked m.raw_state (state_at c n) m.turned.marks m.meant)
          ∙ hold_written ((state_at a n).marks ++ move.edge.marks) edge.marks is.marks set ∙ ap (holds set) (sym move.marked),
    ),
  )
    where
      m : IsMeantState n
      m = state_meant n below

      l : LabelTree
      l = label_at (length a.propositions) (state_at a n) move.index move.edge

      turned : RawEdge
      turned = turned_edge (length a.propositions) (state_at a n) move.index move.edge

      front : slice_get (turned_edges (length a.propositions) (state_at a n)) move.index ≡ Some turned
      front = each_there (turned_edge (length a.propositions) (state_at a n)) (state_at a n).edges move.index move.edge move.there

      at : slice_get (m.raw_state).edges move.index ≡ Some turned
      at =
          ap (λ (es : List RawEdge). slice_get es move.index) m.turned.edges
          ∙ get_left (turned_edges (length a.propositions) (state_at a n)) (further_edges a.states m.turned.missing) move.index
          (slice_get_within (turned_edges (length a.propositions) (state_at a n)) move.index turned front)
          ∙ front

      found : (y : Edge) × ((slice_get (state_at c n).edges move.index ≡ Some y) × IsEdgeOf [] turned y)
      found = zip_left (IsEdgeOf []) (m.raw_state).edges (state_at c n).edges move.index turned m.meant.edges at

      edge : Edge
      edge = found.0

      is : IsEdgeOf [] turned edge
      is = found.1.1

  -- and one to the sink at each letter that is missing
  pub lost_moves : (n : ℕ) (held : ℕ → Bool) → n < a.states → list_any (truth held) (labels_at a n) ≡ false → (marks : List ℕ) × IsMove c n held a.states marks
  lost_moves n held below lacks = go m.turned.missing m.turned.is_missing m.turned.edges
    where
      m : IsMeantState n
      m = state_meant n below

      front : List RawEdge
      front = turned_edges (length a.propositions) (state_at a n)

      go : (o : Option RawLabelTree) → IsMissing (labels_at a n) o → (m.raw_state).edges ≡ front ++ further_edges a.states o → (marks : List ℕ) × IsMove c n held a.states marks
      go None missing edges = absurd (missing (held, lacks))
      go (Some w) missing edges =
          let further : RawEdge = record { label = Some w; targets = a.states ∷ []; marks = None } in
          let none_left : length front - length front ≡ 0 = omega arith in
          let at : slice_get (m.raw_state).edges (length front) ≡ Some further =
          ap (λ (es : List RawEdge). slice_get es (length front)) edges ∙ get_right front (further_edges a.states (Some w)) (length front) (omega arith)
          ∙ ap (slice_get (further_edges a.states (Some w))) none_left in
          let found = zip_left (IsEdgeOf []) (m.raw_state).edges (state_at c n).edges (length front) further m.meant.edges at in
          let rest : LabelTree = missing.1.0 in
          let named : found.0.label ≡ Some rest = a_label rest found.0.label (subst (λ (x : RawLabelTree). IsLabelOf [] (Some x) found.0.label) missing.1.2 found.1.1.label) in (
            (state_at c n).marks ++ found.0.marks,
            record {
              index = length front;
              edge = found.0;
              there = found.1.0;
              holds = ap (truth held) (labelled m.raw_state (state_at c n) (length front) found.0 rest m.turned.label m.meant named)
                  ∙ rest_true held (labels_at a n) rest missing.1.1 ∙ ap not lacks;
              enters = found.1.1.targets;
              marked = refl;
            },
          )

  -- the sink keeps each word
  pub sink_moves : (held : ℕ → Bool) → written.sink ≡ true → (marks : List ℕ) × (IsMove c a.states held a.states marks × (holds a.sets marks ≡ true))
  sink_moves held e = (
    (state_at c a.states).marks ++ found.0.marks,
    (
      record {
        index = 0;
        edge = found.0;
        there = found.1.0;
        holds = ap (truth held) (labelled (sink_state a) (state_at c a.states) 0 found.0 (label.constant true) refl s (a_label (label.constant true) found.0.label found.1.1.label));
        enters = found.1.1.targets;
        marked = refl;
      },
      ap (λ (ms : List ℕ). holds a.sets (ms ++ found.0.marks)) (unmarked (sink_state a) (state_at c a.states) refl s)
          ∙ hold_written (a.sets ∷ []) found.0.marks found.1.1.marks a.sets ∙ contains_held (a.sets ∷ []) a.sets (0, omega arith, refl),
    ),
  )
    where
      s : IsStateOf [] (sink_state a) (state_at c a.states)
      s = sink_meant e

      sink_edge : RawEdge
      sink_edge = record { label = Some (label_written (label.constant true)); targets = a.states ∷ []; marks = Some (a.sets ∷ []) }

      found : (y : Edge) × ((slice_get (state_at c a.states).edges 0 ≡ Some y) × IsEdgeOf [] sink_edge y)
      found = zip_left (IsEdgeOf []) (sink_state a).edges (state_at c a.states).edges 0 sink_edge s.edges refl
