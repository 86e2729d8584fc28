-- The lassos of a table are those of each automaton that has it, and each table is that of some automaton.
use Rattle.std.proofs.Common.{◌≡◌, ℕ, zero, suc, ◌<◌, List, [], ◌∷◌, length, map, get_or, Contains, Option, None, Some, option_map, refl, sym, ap, ap₂, subst, ◌∙◌, arith}
use Rattle.std.specs.Prelude.{IfSome, slice_get, slice_index_or}
use Rattle.std.specs.List.{flat_map}
use Rattle.std.specs.Option.{unwrap_or}
use Rattle.std.proofs.lemmas.List.{get_or-map, length-map}
use Rattle.std.proofs.lemmas.List.Elements.{Contains-get_or}
use Rattle.std.proofs.lemmas.Option.{slice_get-map}
use Rattle.omega_hoa_acceptance.specs.Acceptance.{AccTree, accepts, holds}
use Rattle.omega_hoa_automaton.specs.Automaton.{BodyEdge, Description, edges_from, edges_of}
use Rattle.omega_hoa_automaton.specs.declared.state.State.{State}
use Rattle.omega_hoa_label.specs.Label.{LabelTree}
use Rattle.omega_hoa_satisfiable.specs.Satisfiable.{IsSatisfiable}
use Rattle.omega_graph.specs.Graph.{Shape, edge_of}
use Rattle.omega_graph.specs.declared.edge.Edge.{Edge}
use Rattle.omega_lang_runs.specs.Lasso.{IsAcceptingLasso, IsStart, IsStep, Leads, label_of, marks_at, marks_of}
use Rattle.omega_lang_runs.specs.Verdict.{IsVerdict}
use Rattle.omega_lang_runs.specs.declared.verdict.Verdict.{Verdict}
use Rattle.omega_lang_runs.specs.declared.verdict.Verdict.TheVariants.{Empty, Lasso}
use Rattle.omega_lang_lasso_search.specs.TableLassos.{IsTableLasso, IsTableVerdict, LeadIn}
use Rattle.omega_lang_lasso_search.specs.Tabled.{AllAreUsable, IsTabled, ListsOne, ends_of, first_of}
use Rattle.omega_lang_lasso_search.proofs.Walks.{same_acceptance}

some_is : {A : Type 0} (x y : A) → Some x ≡ Some y → x ≡ y
some_is {A} x y e = ap (λ (o : Option A). unwrap_or o x) e

none_is : {A : Type 0} (y : A) → ◌≡◌ {A = Option A} None (Some y) → ⊥
none_is {A} y e = cc

-- what an element of a mapped list is made of
made_of : {A B : Type 0} (f : A → B) (xs : List A) (number : ℕ) (y : B) → slice_get (map f xs) number ≡ Some y
    → (x : A) × (slice_get xs number ≡ Some x) × (f x ≡ y)
made_of f [] number y here = absurd (none_is y here)
made_of f (x ∷ xs) zero y here = (x, refl, some_is (f x) y here)
made_of f (x ∷ xs) (suc number) y here = made_of f xs number y here

module _ (starts : List ℕ) (ends : List Edge) (marks : List (List ℕ)) (formula : AccTree) (a : Description)
    (tabled : IsTabled starts ends marks formula a) (usable : AllAreUsable a) where
  single : ListsOne a
  single = tabled.single

  counted : length starts ≡ length a.starts
  counted = sym (ap length tabled.starts_are) ∙ length-map a.starts first_of

  -- the starts of the table are those of the automaton
  start_of : (state : ℕ) → Contains starts state → IsStart a state
  start_of state has =
      let k : ℕ = has.0 in
      let low : k < length a.starts = omega (arith, has.1, counted) in
      let first : first_of (get_or a.starts k []) ≡ state =
      sym (get_or-map first_of a.starts k [] state low) ∙ ap (λ (list : List ℕ). get_or list k state) tabled.starts_are ∙ has.2 in
      subst (Contains a.starts) (single.starts (get_or a.starts k []) (Contains-get_or a.starts k [] low) ∙ ap (λ (s : ℕ). s ∷ []) first) (Contains-get_or a.starts k [] low)

  start_in : (state : ℕ) → IsStart a state → Contains starts state
  start_in state begins =
      let k : ℕ = begins.0 in (
        k,
        omega (arith, begins.1, counted),
        ap (λ (list : List ℕ). get_or list k state) (sym tabled.starts_are) ∙ get_or-map first_of a.starts k (state ∷ []) state begins.1 ∙ ap first_of begins.2,
      )

  -- so are the steps
  step_of : (from number next : ℕ) → slice_get ends number ≡ Some (edge_of from next) → IsStep a from number next
  step_of from number next here =
      let found = made_of ends_of (edges_of a) number (edge_of from next) (ap (λ (list : List Edge). slice_get list number) tabled.ends_are ∙ here) in
      record {
        edge = found.0;
        numbered = found.1;
        usable = usable number found.0 found.1;
        leaves = ap (λ (e : Edge). e.from) found.2;
        enters = single.edges number found.0 found.1 ∙ ap (λ (e : Edge). e.to ∷ []) found.2;
      }

  step_in : (from number next : ℕ) → IsStep a from number next → slice_get ends number ≡ Some (edge_of from next)
  step_in from number next step =
      sym (ap (λ (list : List Edge). slice_get list number) tabled.ends_are) ∙ slice_get-map ends_of (edges_of a) number
      ∙ ap (option_map ends_of) step.numbered ∙ ap Some (ap₂ edge_of step.leaves (ap first_of step.enters))

  leads_of : (from : ℕ) (numbers : List ℕ) (to : ℕ) → LeadIn ends from numbers to → Leads a from numbers to
  leads_of from [] to leads = leads
  leads_of from (number ∷ numbers) to leads =
      (leads.0, step_of from number leads.0 leads.1, leads_of leads.0 numbers to leads.2)

  leads_in : (from : ℕ) (numbers : List ℕ) (to : ℕ) → Leads a from numbers to → LeadIn ends from numbers to
  leads_in from [] to leads = leads
  leads_in from (number ∷ numbers) to leads =
      (leads.0, step_in from number leads.0 leads.1, leads_in leads.0 numbers to leads.2)

  -- and the marks, as far as the formula goes
  accepts_same : (cycle : List ℕ) → accepts (map (λ number. slice_index_or marks number []) cycle) formula ≡ accepts (map (marks_at a) cycle) a.acceptance
  accepts_same cycle =
      let shape : Shape = record { states = 0; edges = ends } in
      same_acceptance a shape marks tabled.marks_are cycle formula
      ∙ ap (λ (f : AccTree). accepts (map (marks_at a) cycle) f) (sym tabled.formula_is)

  lasso_of : (stem cycle : List ℕ) → IsTableLasso starts ends marks formula stem cycle → IsAcceptingLasso a stem cycle
  lasso_of stem cycle lasso = record {
    lasso = record {
      start = lasso.start;
      loop_state = lasso.loop_state;
      begins = start_of lasso.start lasso.begins;
      stem_leads = leads_of lasso.start stem lasso.loop_state lasso.stem_leads;
      cycle_leads = leads_of lasso.loop_state cycle lasso.loop_state lasso.cycle_leads;
      longer = lasso.longer;
    };
    accepted = sym (accepts_same cycle) ∙ lasso.accepted;
  }

  lasso_in : (stem cycle : List ℕ) → IsAcceptingLasso a stem cycle → IsTableLasso starts ends marks formula stem cycle
  lasso_in stem cycle accepting =
      let l = accepting.lasso in
      record {
        start = l.start;
        loop_state = l.loop_state;
        begins = start_in l.start l.begins;
        stem_leads = leads_in l.start stem l.loop_state l.stem_leads;
        cycle_leads = leads_in l.loop_state cycle l.loop_state l.cycle_leads;
        longer = l.longer;
        accepted = accepts_same cycle ∙ accepting.accepted;
      }

  -- so a verdict on the one is one on the other
  pub on_automaton : (verdict : Verdict) → IsTableVerdict starts ends marks formula verdict → IsVerdict a verdict
  on_automaton Empty none = λ stem cycle lasso. none stem cycle (lasso_in stem cycle lasso)
  on_automaton (Lasso stem cycle) lasso = lasso_of stem cycle lasso

  pub on_table : (verdict : Verdict) → IsVerdict a verdict → IsTableVerdict starts ends marks formula verdict
  on_table Empty none = λ stem cycle lasso. none stem cycle (lasso_of stem cycle lasso)
  on_table (Lasso stem cycle) lasso = lasso_in stem cycle lasso

-- a state for each edge
abbrev state_made : Edge → List ℕ → State
state_made end row = record {
  label = None;
  number = end.from;
  name = None;
  marks = [];
  edges = record { label = None; targets = end.to ∷ []; marks = row } ∷ [];
}

abbrev states_made : List Edge → List (List ℕ) → List State
states_made [] rows = []
states_made (end ∷ ends) [] = []
states_made (end ∷ ends) (row ∷ rows) = state_made end row ∷ states_made ends rows

-- an automaton of a table
abbrev pub automaton_made : List ℕ → List Edge → List (List ℕ) → AccTree → Description
automaton_made starts ends marks formula = record {
  tool = None;
  name = None;
  states = 0;
  starts = map (λ state. state ∷ []) starts;
  propositions = [];
  acc_name = None;
  sets = 0;
  acceptance = formula;
  properties = [];
  unknown = [];
  defined = states_made ends marks;
}

abbrev edges_made : List Edge → List (List ℕ) → List BodyEdge
edges_made ends rows = flat_map edges_from (states_made ends rows)

ends_made : (ends : List Edge) (rows : List (List ℕ)) → length rows ≡ length ends → map ends_of (edges_made ends rows) ≡ ends
ends_made [] rows same = refl
ends_made (end ∷ ends) [] same = absurd (omega (arith, same))
ends_made (end ∷ ends) (row ∷ rows) same = ap (λ (rest : List Edge). end ∷ rest) (ends_made ends rows (omega (arith, same)))

marks_made : (ends : List Edge) (rows : List (List ℕ)) → length rows ≡ length ends → (number : ℕ)
    → slice_index_or rows number [] ≡ unwrap_or (option_map marks_of (slice_get (edges_made ends rows) number)) []
marks_made [] [] same number = refl
marks_made [] (row ∷ rows) same number = absurd (omega (arith, same))
marks_made (end ∷ ends) [] same number = absurd (omega (arith, same))
marks_made (end ∷ ends) (row ∷ rows) same zero = refl
marks_made (end ∷ ends) (row ∷ rows) same (suc number) = marks_made ends rows (omega (arith, same)) number

-- an edge without a label, to one state
abbrev IsPlain : BodyEdge → Type 0
IsPlain edge = (label_of edge ≡ None) × (edge.edge.targets ≡ first_of edge.edge.targets ∷ [])

plain_made : (ends : List Edge) (rows : List (List ℕ)) (number : ℕ) (edge : BodyEdge) → slice_get (edges_made ends rows) number ≡ Some edge → IsPlain edge
plain_made [] rows number edge here = absurd (none_is edge here)
plain_made (end ∷ ends) [] number edge here = absurd (none_is edge here)
plain_made (end ∷ ends) (row ∷ rows) zero edge here = subst IsPlain (some_is _ edge here) (refl, refl)
plain_made (end ∷ ends) (row ∷ rows) (suc number) edge here = plain_made ends rows number edge here

starts_made : (starts : List ℕ) → map first_of (map (λ state. state ∷ []) starts) ≡ starts
starts_made [] = refl
starts_made (state ∷ starts) = ap (λ (rest : List ℕ). state ∷ rest) (starts_made starts)

start_made : (starts : List ℕ) (start : List ℕ) → Contains (map (λ state. state ∷ []) starts) start → start ≡ first_of start ∷ []
start_made starts start has =
    let alone : ℕ → List ℕ = λ state. state ∷ [] in
    let low : has.0 < length starts = omega (arith, has.1, length-map starts alone) in
    let is : start ≡ get_or starts has.0 0 ∷ [] = sym has.2 ∙ get_or-map alone starts has.0 0 start low in
    is ∙ ap alone (sym (ap first_of is))

module _ (starts : List ℕ) (ends : List Edge) (marks : List (List ℕ)) (formula : AccTree) (same : length marks ≡ length ends) where
  pub made_tabled : IsTabled starts ends marks formula (automaton_made starts ends marks formula)
  made_tabled = record {
    single = record {
      starts = start_made starts;
      edges = λ number edge here. (plain_made ends marks number edge here).1;
    };
    starts_are = starts_made starts;
    ends_are = ends_made ends marks same;
    marks_are = λ number set. ap (holds set) (marks_made ends marks same number);
    formula_is = refl;
  }

  pub made_usable : AllAreUsable (automaton_made starts ends marks formula)
  made_usable number edge here =
      subst (λ (label : Option LabelTree). IfSome label IsSatisfiable) (sym (plain_made ends marks number edge here).0) tt
