-- A controller as it is written is a part of its automaton that keeps the edges.
use Rattle.std.proofs.Common.{◌≡◌, ◌↔◌, ℕ, zero, suc, ◌<◌, Bool, true, ◌&&◌, nat_lt, List, [], ◌∷◌, length, map, get_or, slice_get, All, Contains, Option, Some, None, option_map, refl, sym, ap, ap₂, subst, ◌∙◌, arith}
use Rattle.std.specs.Prelude.{IfSome}
use Rattle.std.specs.List.{filter, flat_map}
use Rattle.std.specs.Option.{unwrap_or}
use Rattle.std.proofs.lemmas.Bool.{and_parts, lt-ltb}
use Rattle.std.proofs.lemmas.List.{get_or-map, length-map}
use Rattle.std.proofs.lemmas.List.Elements.{All-head}
use Rattle.std.proofs.lemmas.Option.{get_or_from_slice_get, slice_get-map, slice_get_within}
use Rattle.omega_hoa_label.specs.Label.{LabelTree, truth}
use Rattle.omega_hoa_satisfiable.specs.Satisfiable.{IsSatisfiable}
use Rattle.omega_hoa_automaton.specs.Automaton.{AreBelow, AreTargets, BodyEdge, Description, IsAutomaton, IsEdge, IsState, edge_at, edges_from}
use Rattle.omega_lang_runs.specs.Laws.{IsIndexLabel}
use Rattle.omega_lang_runs.specs.Lasso.{IsStart, IsStep, Leads, label_of}
use Rattle.omega_lang_runs.specs.Words.{Allows, CanBeTaken, has_bit, index_in}
use Rattle.omega_lang_runs.proofs.Taken.{edges_are_taken_where_true}
use Rattle.omega_hoa_edges.specs.Labels.{label_at, valuation_label}
use Rattle.omega_hoa_edges.proofs.Bits.{valuation_held, valuation_true}
use Rattle.omega_lang_word_laws.proofs.parting.Numbered.{edge_found}
use Rattle.omega_synth_text.specs.Reaching.{TellsReached, begins, goes_on}
use Rattle.omega_synth_text.specs.Winner.{is_kept_edge, number_of, winner}
use Rattle.omega_answers_synth.proofs.Ranges.{has_listed, is_listed}
use Rattle.omega_synth_check.specs.Judging.{IsReached}
use Rattle.omega_synth_check.specs.Laws.{IsKeptEdge, IsKeptPart}
use Rattle.omega_answers_synth.proofs.Numbers.{found_at, state_of}
use Rattle.omega_answers_synth.proofs.Rows.{Row, at_filter, bodies, body_of, filter_at, keeps, number_of_row, numbered, rows_from, version, winner_edges}

same_some : {X : Type 0} (x y : X) → Some x ≡ Some y → x ≡ y
same_some x y e = cc

never_some : {X : Type 0} (x : X) → None ≡ Some x → ⊥
never_some x e = cc

-- what is mapped to one item is one item
single_image : (f : ℕ → ℕ) (xs : List ℕ) (y : ℕ) → map f xs ≡ y ∷ [] → (x : ℕ) × ((xs ≡ x ∷ []) × (f x ≡ y))
single_image f [] y e = absurd (let no : [] ≡ y ∷ [] = e in cc)
single_image f (x ∷ []) y e = (x, (refl, let is : f x ∷ [] ≡ y ∷ [] = e in cc))
single_image f (x ∷ z ∷ xs) y e = absurd (let no : f x ∷ f z ∷ map f xs ≡ y ∷ [] = e in cc)

-- what holds of all holds of each
all_at : {X : Type 0} (P : X → Type 0) (xs : List X) (k : ℕ) (x : X) → All P xs → slice_get xs k ≡ Some x → P x
all_at P xs k x all e = subst P (get_or_from_slice_get xs k x x e) (all k x (slice_get_within xs k x e))

module _ (a : Description) (automaton : IsAutomaton a) (controlled kept : List ℕ) (reached : ℕ → Bool) (tells : TellsReached a kept reached) where
  abbrev part : Description
  part = winner a controlled kept reached (λ state. None)

  abbrev is_kept : ℕ → Bool
  is_kept = is_kept_edge a kept

  abbrev rows : List Row
  rows = rows_from 0 a.defined

  abbrev kept_rows : List Row
  kept_rows = filter (keeps (length a.propositions) is_kept reached) rows

  abbrev own_version : Row → BodyEdge
  own_version = version (length a.propositions) is_kept reached

  -- what the states and the edges of the part stand for
  abbrev state_in : ℕ → ℕ
  state_in = state_of reached a.states

  abbrev edge_in : ℕ → ℕ
  edge_in own = unwrap_or (option_map number_of_row (slice_get kept_rows own)) 0

  -- the label of a valuation is one of its index
  abbrev index_label : ℕ → LabelTree
  index_label number = valuation_label (index_in a.defined number) (length a.propositions)

  is_index_label : (number : ℕ) → IsIndexLabel a number (index_label number)
  is_index_label number held =
      (valuation_held held (index_in a.defined number) (length a.propositions), valuation_true held (index_in a.defined number) (length a.propositions))

  -- ---- edges

  -- a row that is kept
  record IsKeptRow (row : Row) : Type 0 where
    stands : edge_at a (number_of_row row) ≡ Some (body_of row)
    index_is : row.index ≡ index_in a.defined (number_of_row row)
    listed : Contains kept (number_of_row row)
    there : reached row.source.number ≡ true

  row_stands : (k : ℕ) (row : Row) → slice_get rows k ≡ Some row → edge_at a k ≡ Some (body_of row)
  row_stands k row at =
      ap (λ (edges : List BodyEdge). slice_get edges k) (sym (bodies 0 a.defined)) ∙ slice_get-map body_of rows k ∙ ap (option_map body_of) at

  row_kept : (own : ℕ) (row : Row) → slice_get kept_rows own ≡ Some row → IsKeptRow row
  row_kept own row at =
      let found = filter_at (keeps (length a.propositions) is_kept reached) rows own row at in
      let k : ℕ = found.1.0 in
      let passes = and_parts (is_kept (number_of_row row)) (reached row.source.number) found.0 in
      let numbers = numbered 0 a.defined k row found.1.1 in
      let is : number_of_row row ≡ k = numbers.0 ∙ omega arith in
      record {
        stands = ap (edge_at a) is ∙ row_stands k row found.1.1;
        index_is = numbers.1 ∙ ap (index_in a.defined) (sym is);
        listed = has_listed kept (number_of_row row) (and_parts _ _ passes.0).1;
        there = passes.1;
      }

  -- an edge of the part is the version of a row
  record IsOwn (own : ℕ) (be : BodyEdge) : Type 0 where
    row : Row
    at : slice_get kept_rows own ≡ Some row
    is : own_version row ≡ be

  own_edge : (own : ℕ) → edge_at part own ≡ option_map own_version (slice_get kept_rows own)
  own_edge own =
      ap (λ (edges : List BodyEdge). slice_get edges own) (winner_edges (length a.propositions) is_kept reached 0 a.defined)
      ∙ slice_get-map own_version kept_rows own

  own_is : (own : ℕ) (be : BodyEdge) → edge_at part own ≡ Some be → IsOwn own be
  own_is own be e = go (slice_get kept_rows own) refl
    where
      go : (o : Option Row) → slice_get kept_rows own ≡ o → IsOwn own be
      go None at = absurd (never_some be (sym (own_edge own ∙ ap (option_map own_version) at) ∙ e))
      go (Some row) at = record { row = row; at = at; is = same_some (own_version row) be (sym (own_edge own ∙ ap (option_map own_version) at) ∙ e) }

  edge_in_is : (own : ℕ) (row : Row) → slice_get kept_rows own ≡ Some row → edge_in own ≡ number_of_row row
  edge_in_is own row at = ap (λ (o : Option Row). unwrap_or (option_map number_of_row o) 0) at

  -- a kept edge of a state that is reached has a version
  record HasOwn (number : ℕ) (be : BodyEdge) : Type 0 where
    own : ℕ
    row : Row
    at : slice_get kept_rows own ≡ Some row
    number_is : number_of_row row ≡ number
    body_is : body_of row ≡ be

  kept_own : (number : ℕ) (be : BodyEdge) → edge_at a number ≡ Some be → Contains kept number → reached be.source.number ≡ true → HasOwn number be
  kept_own number be stands has there = go (slice_get rows number) refl
    where
      image : (o : Option Row) → slice_get rows number ≡ o → option_map body_of o ≡ Some be
      image o at =
          sym (ap (λ (edges : List BodyEdge). slice_get edges number) (sym (bodies 0 a.defined)) ∙ slice_get-map body_of rows number ∙ ap (option_map body_of) at) ∙ stands

      below : nat_lt number (length (flat_map edges_from a.defined)) ≡ true
      below = lt-ltb number (length (flat_map edges_from a.defined)) (slice_get_within (flat_map edges_from a.defined) number be stands)

      both_true : (x y : Bool) → x ≡ true → y ≡ true → (x && y) ≡ true
      both_true x y e f = ap₂ (λ (x y : Bool). x && y) e f

      go : (o : Option Row) → slice_get rows number ≡ o → HasOwn number be
      go None at = absurd (never_some be (image None at))
      go (Some row) at =
          let is : body_of row ≡ be = same_some (body_of row) be (image (Some row) at) in
          let number_is : number_of_row row ≡ number = (numbered 0 a.defined number row at).0 ∙ omega arith in
          let passes : keeps (length a.propositions) is_kept reached row ≡ true =
          both_true (is_kept (number_of_row row)) (reached row.source.number)
          (ap is_kept number_is ∙ both_true _ _ below (is_listed kept number has))
          (ap (λ (b : BodyEdge). reached b.source.number) is ∙ there) in
          let found = at_filter (keeps (length a.propositions) is_kept reached) rows number row at passes in
          record { own = found.0; row = row; at = found.1; number_is = number_is; body_is = is }

  -- ---- states

  source_state : (number : ℕ) (be : BodyEdge) → edge_at a number ≡ Some be → IsState a be.source
  source_state number be stands =
      let found = edge_found a.defined number be stands in all_at (IsState a) a.defined found.place be.source automaton.states found.source_is

  target_below : (number : ℕ) (be : BodyEdge) (to : ℕ) → edge_at a number ≡ Some be → be.edge.targets ≡ to ∷ [] → to < a.states
  target_below number be to stands enters =
      let found = edge_found a.defined number be stands in
      let edge : IsEdge a be.edge =
      all_at (IsEdge a) be.source.edges (index_in a.defined number) be.edge (source_state number be stands).edges found.edge_is in
      All-head (λ (n : ℕ). n < a.states) to [] (subst (AreBelow a.states) enters edge.targets.below)

  -- a state of the part that has a number is that of a state that is reached
  record IsNumberOf (own : ℕ) : Type 0 where
    state : ℕ
    below : state < a.states
    there : reached state ≡ true
    is : number_of reached state ≡ own

  stands_for : (own : ℕ) → (of : IsNumberOf own) → state_in own ≡ of.state
  stands_for own of = ap state_in (sym of.is) ∙ (found_at reached a.states of.state of.below of.there).is

  default_free : {X : Type 0} (xs : List X) (k : ℕ) (d e : X) → k < length xs → get_or xs k d ≡ get_or xs k e
  default_free [] k d e below = absurd (omega arith)
  default_free (x ∷ xs) zero d e below = refl
  default_free (x ∷ xs) (suc k) d e below = default_free xs k d e (omega arith)

  record IsStartOf (own : ℕ) : Type 0 where
    of : IsNumberOf own
    begins_there : IsStart a of.state

  start_of : (own : ℕ) → IsStart part own → IsStartOf own
  start_of own has =
      let f : List ℕ → List ℕ = λ start. map (number_of reached) start in
      let below : has.0 < length a.starts = omega (arith, has.1, length-map a.starts f) in
      let start : List ℕ = get_or a.starts has.0 [] in
      let image : map (number_of reached) start ≡ own ∷ [] = sym (get_or-map f a.starts has.0 [] (own ∷ []) below) ∙ has.2 in
      let one = single_image (number_of reached) start own image in
      let here : IsStart a one.0 = (has.0, below, default_free a.starts has.0 (one.0 ∷ []) [] below ∙ one.1.0) in
      let targets : AreTargets a start = automaton.starts has.0 [] below in
      record {
        of = record {
          state = one.0;
          below = All-head (λ (n : ℕ). n < a.states) one.0 [] (subst (AreBelow a.states) one.1.0 targets.below);
          there = (tells one.0).1 (begins one.0 here);
          is = one.1.1;
        };
        begins_there = here;
      }

  own_start : (start : ℕ) → IsStart a start → IsStart part (number_of reached start)
  own_start start has =
      let f : List ℕ → List ℕ = λ start. map (number_of reached) start in
      (has.0, omega (arith, has.1, length-map a.starts f), get_or-map f a.starts has.0 (start ∷ []) (number_of reached start ∷ []) has.1 ∙ ap f has.2)

  -- ---- steps

  record IsStepOf (from own to : ℕ) : Type 0 where
    row : Row
    at : slice_get kept_rows own ≡ Some row
    from_is : number_of reached row.source.number ≡ from
    target : ℕ
    enters : row.edge.targets ≡ target ∷ []
    to_is : number_of reached target ≡ to
    usable : IsSatisfiable (label_at (length a.propositions) row.source row.index row.edge)

  step_of : (from own to : ℕ) → IsStep part from own to → IsStepOf from own to
  step_of from own to step =
      let found = own_is own step.edge step.numbered in
      let image : map (number_of reached) found.row.edge.targets ≡ to ∷ [] = ap (λ (b : BodyEdge). b.edge.targets) found.is ∙ step.enters in
      let one = single_image (number_of reached) found.row.edge.targets to image in
      record {
        row = found.row;
        at = found.at;
        from_is = ap (λ (b : BodyEdge). b.source.number) found.is ∙ step.leaves;
        target = one.0;
        enters = one.1.0;
        to_is = one.1.1;
        usable = subst (λ (b : BodyEdge). IfSome (label_of b) IsSatisfiable) (sym found.is) step.usable;
      }

  source_of : (from own to : ℕ) → (is : IsStepOf from own to) → IsNumberOf from
  source_of from own to is =
      let row = row_kept own is.row is.at in
      record { state = is.row.source.number; below = (source_state (number_of_row is.row) (body_of is.row) row.stands).number; there = row.there; is = is.from_is }

  target_of : (from own to : ℕ) → (is : IsStepOf from own to) → IsNumberOf to
  target_of from own to is =
      let row = row_kept own is.row is.at in
      let met = (tells is.row.source.number).0 row.there in
      record {
        state = is.target;
        below = target_below (number_of_row is.row) (body_of is.row) is.target row.stands is.enters;
        there = (tells is.target).1 (goes_on is.row.source.number is.target met (record {
          number = number_of_row is.row;
          edge = body_of is.row;
          is_kept = row.listed;
          numbered = row.stands;
          leaves = refl;
          enters = is.enters;
        }));
        is = is.to_is;
      }

  usable_by : (o : Option LabelTree) (v : LabelTree) → IsSatisfiable (unwrap_or o v) → IfSome o IsSatisfiable
  usable_by None v is = tt
  usable_by (Some label) v is = is

  taken_alike : (own : ℕ) (row : Row) → slice_get kept_rows own ≡ Some row → (letter : ℕ → Bool) → CanBeTaken part own letter ↔ CanBeTaken a (number_of_row row) letter
  taken_alike own row at letter = (
    λ taken.
        (let same : taken.edge ≡ own_version row =
        same_some taken.edge (own_version row) (sym taken.numbered ∙ own_edge own ∙ ap (option_map own_version) at) in
        let is : truth letter own_label ≡ true = subst (λ (b : BodyEdge). Allows part own (label_of b) letter) same taken.allowed in
        truly.1 (sym (ap (truth letter) label_is) ∙ is)),
    λ taken. record {
      edge = own_version row;
      numbered = own_edge own ∙ ap (option_map own_version) at;
      allowed = ap (truth letter) label_is ∙ truly.0 taken;
    },
  )
    where
      is_row : IsKeptRow row
      is_row = row_kept own row at

      own_label : LabelTree
      own_label = label_at (length a.propositions) row.source row.index row.edge

      label_is : own_label ≡ unwrap_or (label_of (body_of row)) (index_label (number_of_row row))
      label_is = ap (λ (index : ℕ). label_at (length a.propositions) row.source index row.edge) is_row.index_is

      truly : CanBeTaken a (number_of_row row) letter ↔ (truth letter (unwrap_or (label_of (body_of row)) (index_label (number_of_row row))) ≡ true)
      truly =
          edges_are_taken_where_true a (number_of_row row) (body_of row) (index_label (number_of_row row)) letter is_row.stands (is_index_label (number_of_row row))

  kept_edge : (from own to : ℕ) → IsStep part from own to → IsKeptEdge a kept part own (state_in from) (edge_in own) (state_in to)
  unfolding step_of source_of single_image target_of
  kept_edge from own to step =
      let is = step_of from own to step in
      let row = row_kept own is.row is.at in
      let left = stands_for from (source_of from own to is) in
      let right = stands_for to (target_of from own to is) in
      let number : edge_in own ≡ number_of_row is.row = edge_in_is own is.row is.at in
      record {
        step = record {
          edge = body_of is.row;
          numbered = ap (edge_at a) number ∙ row.stands;
          usable = usable_by (label_of (body_of is.row)) (valuation_label is.row.index (length a.propositions)) is.usable;
          leaves = sym left;
          enters = is.enters ∙ ap (λ (n : ℕ). n ∷ []) (sym right);
        };
        is_kept = subst (Contains kept) (sym number) row.listed;
        taken = λ letter. subst (λ (n : ℕ). CanBeTaken part own letter ↔ CanBeTaken a n letter) (sym number) (taken_alike own is.row is.at letter);
      }

  -- a state that the part reaches has a number
  lead_number : (from : ℕ) (numbers : List ℕ) (to : ℕ) → Leads part from numbers to → IsNumberOf from → IsNumberOf to
  lead_number from [] to leads of = subst IsNumberOf leads of
  lead_number from (number ∷ numbers) to leads of =
      lead_number leads.0 numbers to leads.2 (target_of from number leads.0 (step_of from number leads.0 leads.1))

  reached_number : (own : ℕ) → IsReached part own → IsNumberOf own
  reached_number own is = lead_number is.start is.numbers own is.leads (start_of is.start is.begins).of

  satisfied : (o : Option LabelTree) (index : ℕ) → IfSome o IsSatisfiable → IsSatisfiable (unwrap_or o (valuation_label index (length a.propositions)))
  satisfied None index is = (has_bit index, valuation_true (has_bit index) index (length a.propositions) (λ p below. refl))
  satisfied (Some label) index is = is

  record HasStep (from number : ℕ) : Type 0 where
    own : ℕ
    next : ℕ
    step : IsStep part from own next
    number_is : edge_in own ≡ number

  has_step : (from number to : ℕ) → IsReached part from → IsStep a (state_in from) number to → Contains kept number → HasStep from number
  has_step from number to met step has =
      let of = reached_number from met in
      let state : state_in from ≡ of.state = stands_for from of in
      let source : step.edge.source.number ≡ of.state = step.leaves ∙ state in
      let own = kept_own number step.edge step.numbered has (ap reached source ∙ of.there) in
      let row = own.row in
      let usable : IfSome (label_of (body_of row)) IsSatisfiable = subst (λ (b : BodyEdge). IfSome (label_of b) IsSatisfiable) (sym own.body_is) step.usable in
      record {
        own = own.own;
        next = number_of reached to;
        step = record {
          edge = own_version row;
          numbered = own_edge own.own ∙ ap (option_map own_version) own.at;
          usable = satisfied (label_of (body_of row)) row.index usable;
          leaves = ap (number_of reached) (ap (λ (b : BodyEdge). b.source.number) own.body_is ∙ source) ∙ of.is;
          enters = ap (map (number_of reached)) (ap (λ (b : BodyEdge). b.edge.targets) own.body_is ∙ step.enters);
        };
        number_is = edge_in_is own.own row own.at ∙ own.number_is;
      }

  pub written_part : IsKeptPart a kept part
  written_part = record {
    state_in = state_in;
    edge_in = edge_in;
    propositions = refl;
    starts = λ own has. (let start = start_of own has in subst (IsStart a) (sym (stands_for own start.of)) start.begins_there);
    has_starts = λ start has. (number_of reached start, own_start start has);
    steps = kept_edge;
    has_steps = λ from number to met step has.
        (let is = has_step from number to met step has in (is.own, (is.next, is.step, is.number_is)));
  }
