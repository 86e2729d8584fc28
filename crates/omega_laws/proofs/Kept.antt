-- The states, starts and edges of a controller's text have the form of what is read back.
use Rattle.std.proofs.Common.{◌≡◌, ℕ, zero, suc, ◌+◌, ◌<◌, ◌≤◌, Bool, true, false, nat_eq, if◌then◌else◌, List, [], ◌∷◌, ◌++◌, length, map, slice_get, Contains, Option, Some, None, refl, sym, ap, subst, ◌∙◌, arith, true≢false}
use Rattle.std.specs.List.{AllByRecursion, filter, flat_map, list_any, range_with_len}
use Rattle.std.specs.Option.{option_or, unwrap_or}
use Rattle.std.proofs.lemmas.Bool.{and_parts, eqb-true, or_from, or_parts}
use Rattle.std.proofs.lemmas.List.{length-map}
use Rattle.std.proofs.lemmas.List.Sums.{length-filter}
use Rattle.omega_hoa_expression.specs.Limits.{most_depth, most_size}
use Rattle.omega_hoa_label.specs.Label.{LabelTree}
use Rattle.omega_hoa_automaton.specs.Automaton.{BodyEdge, Description, edge_at, edges_from, has_repeat}
use Rattle.omega_hoa_automaton.specs.declared.edge.Edge.{Edge}
use Rattle.omega_hoa_automaton.specs.declared.state.State.{State}
use Rattle.omega_hoa_edges.specs.Labels.{label_at, valuation_label}
use Rattle.omega_lang_runs.specs.Lasso.{IsStart}
use Rattle.omega_synth_text.specs.Reaching.{IsReached, TellsReached, begins, goes_on}
use Rattle.omega_synth_text.specs.Winner.{is_kept_edge, kept_edge, kept_edges, kept_state, kept_states, number_of}
use Rattle.omega_answers_synth.proofs.Numbers.{found_at, state_of}
use Rattle.omega_answers_synth.proofs.Ranges.{count_range, has_listed}
use Rattle.omega_laws.proofs.Given.{HasFineLabel, IsGivenEdge, IsGivenState, ListsOne}
use Rattle.omega_laws.proofs.Made.{IsMadeEdge, IsMadeState}
use Rattle.omega_laws.proofs.Valuations.{IsBounded, valuation_bounded}

same_some : {X : Type 0} (x y : X) → Some x ≡ Some y → x ≡ y
same_some x y e = cc

never_some : {X : Type 0} (x : X) → None ≡ Some x → ⊥
never_some x e = cc

-- an edge with its state
abbrev pub body : State → Edge → BodyEdge
body state edge = record { source = state; edge = edge }

-- ---- labels

label_fits : (a : Description) (label : Option LabelTree) (index : ℕ) → HasFineLabel a label
    → IsBounded (length a.propositions) most_depth most_size (unwrap_or label (valuation_label index (length a.propositions)))
label_fits a (Some label) index fine = record { below = fine.label.below; shallow = fine.label.shallow; shallow_written = fine.shallow; small = fine.label.small }
label_fits a None index few =
    let bounded = valuation_bounded (length a.propositions) index in
    record {
      below = bounded.below;
      shallow = omega (arith, bounded.shallow, few);
      shallow_written = omega (arith, bounded.shallow_written, few);
      small = omega (arith, bounded.small, few);
    }

module _ (a : Description) (kept : List ℕ) (reached : ℕ → Bool) (tells : TellsReached a kept reached) where
  abbrev pub states : ℕ
  states = number_of reached a.states

  abbrev pub count : ℕ
  count = length a.propositions

  -- ---- numbers

  -- the number of a state that is reached is below the count
  number_below : (state : ℕ) → state < a.states → reached state ≡ true → number_of reached state < states
  number_below state below there =
      let counted : length (filter reached (range_with_len 0 a.states)) ≡ number_of reached a.states = length-filter reached (range_with_len 0 a.states) in
      omega (arith, (found_at reached a.states state below there).below, counted)

  -- no two have one number
  number_once : (one other : ℕ) → one < a.states → other < a.states → reached one ≡ true → reached other ≡ true → number_of reached one ≡ number_of reached other → one ≡ other
  number_once one other one_below other_below one_there other_there same =
      sym (found_at reached a.states one one_below one_there).is ∙ ap (state_of reached a.states) same ∙ (found_at reached a.states other other_below other_there).is

  pub few_numbers : states ≤ a.states
  few_numbers = count_range reached a.states

  target_made : (targets : List ℕ) (target : ℕ) → targets ≡ target ∷ [] → target < a.states → reached target ≡ true → ListsOne states (map (number_of reached) targets)
  target_made targets target is below there = record {
    target = number_of reached target;
    is = ap (map (number_of reached)) is;
    below = number_below target below there;
  }

  -- ---- starts

  pub starts_made : (starts : List (List ℕ)) → AllByRecursion (ListsOne a.states) starts → ((start : List ℕ) → Contains starts start → Contains a.starts start)
      → AllByRecursion (ListsOne states) (map (λ start. map (number_of reached) start) starts)
  starts_made [] all among = tt
  starts_made (start ∷ starts) all among =
      let begin : IsStart a all.0.target = subst (Contains a.starts) all.0.is (among start (0, omega arith, refl)) in (
        target_made start all.0.target all.0.is all.0.below ((tells all.0.target).1 (begins all.0.target begin)),
        starts_made starts all.1 (λ other has. among other (suc has.0, omega (arith, has.1), has.2)),
      )

  -- ---- edges

  -- edges are those of a state, from this number on
  abbrev StandThere : State → ℕ → List Edge → Type 0
  StandThere state number edges = (k : ℕ) (edge : Edge) → slice_get edges k ≡ Some edge → edge_at a (number + k) ≡ Some (body state edge)

  later_there : (state : State) (number : ℕ) (edge : Edge) (edges : List Edge) → StandThere state number (edge ∷ edges) → StandThere state (suc number) edges
  later_there state number edge edges there k other at =
      (let e : suc number + k ≡ number + suc k = omega arith in ap (edge_at a) e ∙ there (suc k) other at)

  edge_made : (state : State) (index number : ℕ) (edge : Edge) → reached state.number ≡ true → is_kept_edge a kept number ≡ true
      → edge_at a number ≡ Some (body state edge) → IsGivenEdge a state edge → IsMadeEdge count states (kept_edge count reached None state index edge)
  edge_made state index number edge there keeps at given =
      let met : IsReached a kept state.number = (tells state.number).0 there in
      let has : Contains kept number = has_listed kept number (and_parts _ _ keeps).1 in
      let target : ℕ = given.leads.target in
      let onward : reached target ≡ true =
      (tells target).1 (goes_on state.number target met (record {
        number = number;
        edge = body state edge;
        is_kept = has;
        numbered = at;
        leaves = refl;
        enters = given.leads.is;
      })) in
      record {
        tree = label_at count state index edge;
        labelled = refl;
        fits = label_fits a (option_or state.label edge.label) index given.label;
        leads = target_made edge.targets target given.leads.is given.leads.below onward;
        unmarked = refl;
      }

  edges_made : (state : State) → reached state.number ≡ true → (index number : ℕ) (edges : List Edge) → StandThere state number edges → AllByRecursion (IsGivenEdge a state) edges
      → AllByRecursion (IsMadeEdge count states) (kept_edges (is_kept_edge a kept) (kept_edge count reached None state) index number edges)
  edges_made state there index number [] stand given = tt
  edges_made state there index number (edge ∷ edges) stand given =
      go (is_kept_edge a kept number) refl (edges_made state there (suc index) (suc number) edges (later_there state number edge edges stand) given.1)
    where
      rest : List Edge
      rest = kept_edges (is_kept_edge a kept) (kept_edge count reached None state) (suc index) (suc number) edges

      here : edge_at a number ≡ Some (body state edge)
      here = let e : number ≡ number + 0 = omega arith in ap (edge_at a) e ∙ stand 0 edge refl

      go : (b : Bool) → is_kept_edge a kept number ≡ b → AllByRecursion (IsMadeEdge count states) rest
          → AllByRecursion (IsMadeEdge count states) (if b then kept_edge count reached None state index edge ∷ rest else rest)
      go true keeps others = (edge_made state index number edge there keeps here given.0, others)
      go false keeps others = others

  -- ---- states

  abbrev pub stated : ℕ → State → State
  stated = kept_state count (is_kept_edge a kept) reached (λ state. None)

  -- the edges of states are those of the automaton, from this number on
  abbrev AreThere : ℕ → List State → Type 0
  AreThere number some = (k : ℕ) (edge : BodyEdge) → slice_get (flat_map edges_from some) k ≡ Some edge → edge_at a (number + k) ≡ Some edge

  get_right : {X : Type 0} (xs ys : List X) (k : ℕ) → slice_get (xs ++ ys) (length xs + k) ≡ slice_get ys k
  get_right [] ys k = let e : 0 + k ≡ k = omega arith in ap (slice_get ys) e
  get_right (x ∷ xs) ys k = let e : length (x ∷ xs) + k ≡ suc (length xs + k) = omega arith in ap (slice_get (x ∷ (xs ++ ys))) e ∙ get_right xs ys k

  get_left : {X : Type 0} (xs ys : List X) (k : ℕ) (x : X) → slice_get xs k ≡ Some x → slice_get (xs ++ ys) k ≡ Some x
  get_left [] ys k x at = absurd (never_some x at)
  get_left (y ∷ xs) ys zero x at = at
  get_left (y ∷ xs) ys (suc k) x at = get_left xs ys k x at

  edges_there : (state : State) (edges : List Edge) (k : ℕ) (edge : Edge) → slice_get edges k ≡ Some edge
      → slice_get (map (body state) edges) k ≡ Some (body state edge)
  edges_there state [] k edge at = absurd (never_some edge at)
  edges_there state (other ∷ edges) zero edge at = let same : other ≡ edge = same_some other edge at in ap (λ (e : Edge). Some (body state e)) same
  edges_there state (other ∷ edges) (suc k) edge at = edges_there state edges k edge at

  first_there : (number : ℕ) (state : State) (some : List State) → AreThere number (state ∷ some) → StandThere state number state.edges
  first_there number state some there k edge at =
      there k (body state edge) (get_left (edges_from state) (flat_map edges_from some) k (body state edge) (edges_there state state.edges k edge at))

  others_there : (number : ℕ) (state : State) (some : List State) → AreThere number (state ∷ some) → AreThere (number + length state.edges) some
  others_there number state some there k edge at =
      (let long : length (edges_from state) ≡ length state.edges = length-map state.edges (body state) in
      let e : number + length state.edges + k ≡ number + (length (edges_from state) + k) = omega (arith, long) in
      ap (edge_at a) e ∙ there (length (edges_from state) + k) edge (get_right (edges_from state) (flat_map edges_from some) k ∙ at))

  state_made : (number : ℕ) (state : State) → reached state.number ≡ true → StandThere state number state.edges → IsGivenState a state → IsMadeState count states (stated number state)
  state_made number state there stand given = record {
    bare = refl;
    number = number_below state.number given.number there;
    name = given.name;
    unmarked = refl;
    edges = edges_made state there 0 number state.edges stand given.edges;
  }

  states_made : (number : ℕ) (some : List State) → AreThere number some → AllByRecursion (IsGivenState a) some → AllByRecursion (IsMadeState count states) (kept_states stated reached number some)
  states_made number [] there given = tt
  states_made number (state ∷ some) there given =
      go (reached state.number) refl (states_made (number + length state.edges) some (others_there number state some there) given.1)
    where
      rest : List State
      rest = kept_states stated reached (number + length state.edges) some

      go : (b : Bool) → reached state.number ≡ b → AllByRecursion (IsMadeState count states) rest
          → AllByRecursion (IsMadeState count states) (if b then stated number state ∷ rest else rest)
      go true met others = (state_made number state met (first_there number state some there) given.0, others)
      go false met others = others

  pub defined_made : AllByRecursion (IsGivenState a) a.defined → AllByRecursion (IsMadeState count states) (kept_states stated reached 0 a.defined)
  defined_made given = states_made 0 a.defined (λ k edge at. (let e : 0 + k ≡ k = omega arith in ap (edge_at a) e ∙ at)) given

  -- ---- each state once

  abbrev pub number_in : State → ℕ
  number_in state = state.number

  not_eq : (m n : ℕ) → ¬ (m ≡ n) → nat_eq m n ≡ false
  not_eq m n apart = go (nat_eq m n) refl
    where
      go : (b : Bool) → nat_eq m n ≡ b → b ≡ false
      go true same = absurd (apart (eqb-true m n same))
      go false same = refl

  apart_later : (state : ℕ) → state < a.states → reached state ≡ true → (number : ℕ) (some : List State) → AllByRecursion (IsGivenState a) some
      → list_any (λ later. nat_eq later state) (map number_in some) ≡ false
      → list_any (λ later. nat_eq later (number_of reached state)) (map number_in (kept_states stated reached number some)) ≡ false
  apart_later state below there number [] given none = refl
  apart_later state below there number (other ∷ some) given none =
      let parts = or_parts (nat_eq other.number state) (list_any (λ later. nat_eq later state) (map number_in some)) none in
      go parts.0 (reached other.number) refl (apart_later state below there (number + length other.edges) some given.1 parts.1)
    where
      eq_self : (n : ℕ) → nat_eq n n ≡ true
      eq_self n = grind arith

      rest : List State
      rest = kept_states stated reached (number + length other.edges) some

      go : nat_eq other.number state ≡ false → (b : Bool) → reached other.number ≡ b → list_any (λ later. nat_eq later (number_of reached state)) (map number_in rest) ≡ false
          → list_any (λ later. nat_eq later (number_of reached state)) (map number_in (if b then stated number other ∷ rest else rest)) ≡ false
      go unlike true met others =
          or_from _ _
          (not_eq (number_of reached other.number) (number_of reached state) (λ same.
          true≢false (sym (ap (λ (n : ℕ). nat_eq n state) (number_once other.number state given.0.number below met there same) ∙ eq_self state) ∙ unlike)))
          others
      go unlike false met others = others

  made_once : (number : ℕ) (some : List State) → AllByRecursion (IsGivenState a) some → has_repeat nat_eq (map number_in some) ≡ false
      → has_repeat nat_eq (map number_in (kept_states stated reached number some)) ≡ false
  made_once number [] given none = refl
  made_once number (state ∷ some) given none =
      let parts = or_parts (list_any (λ later. nat_eq later state.number) (map number_in some)) (has_repeat nat_eq (map number_in some)) none in
      go parts.0 (reached state.number) refl (made_once (number + length state.edges) some given.1 parts.1)
    where
      rest : List State
      rest = kept_states stated reached (number + length state.edges) some

      go : list_any (λ later. nat_eq later state.number) (map number_in some) ≡ false → (b : Bool) → reached state.number ≡ b → has_repeat nat_eq (map number_in rest) ≡ false
          → has_repeat nat_eq (map number_in (if b then stated number state ∷ rest else rest)) ≡ false
      go apart true met others = or_from _ _ (apart_later state.number given.0.number met (number + length state.edges) some given.1 apart) others
      go apart false met others = others

  pub defined_once : AllByRecursion (IsGivenState a) a.defined → has_repeat nat_eq (map number_in a.defined) ≡ false
      → has_repeat nat_eq (map number_in (kept_states stated reached 0 a.defined)) ≡ false
  defined_once given none = made_once 0 a.defined given none
