-- The kept edges that leave states to which kept edges lead: who wins by the kept edges wins by these.
use Rattle.std.proofs.Common.{◌≡◌, ◌↔◌, ℕ, zero, suc, ◌<◌, Bool, true, false, cond, IsTrue, List, [], ◌∷◌, ◌++◌, length, map, get_or, All, Contains, ◌==◌, sym, ap, refl, ◌∙◌, subst, arith}
use Rattle.std.specs.Prelude.{filter}
use Rattle.std.specs.List.{range_with_len}
use Rattle.std.proofs.lemmas.Bool.{eq-eqb, eqb-true}
use Rattle.std.proofs.lemmas.List.{append-nil, get_or-map, length-map}
use Rattle.std.proofs.lemmas.List.Elements.{All-cons, All-head, All-nil, All-tail, Contains-get_or}
use Rattle.std.proofs.lemmas.List.FromFn.{get_or-range_with_len, length-range_with_len}
use Rattle.omega_graph.specs.Graph.{Shape, edge_of, ends_at, listed, marked}
use Rattle.omega_graph.specs.Reaching.{IsReachedAlong, TellReached}
use Rattle.omega_graph.specs.Walks.{IsEdgeWalk}
use Rattle.omega_graph.specs.declared.edge.Edge.{Edge}
use Rattle.omega_synth_rounds.specs.Rounds.{AreAnswers, AreMetAnswers, IsAnswer, IsAnswering, IsAskedIn, IsAsking, IsKeptRound, IsMetEdge, IsReached, IsRoundStep, IsRounds, LeadOn, answers_of, asked_in, edge_at}
use Rattle.omega_synth_rounds.specs.declared.rounds.Rounds.{Rounds}
use Rattle.omega_synth_rounds.proofs.Placing.{in_range, range_has}
use Rattle.omega_synth_realize.specs.private.Met.{AreMetAmong, IsKeptGraph, ends_of, leaves_flagged}
use Rattle.omega_synth_realize.proofs.Chosen.{any_from, any_has, filter_from, filter_has}

-- an edge that answers a question is one of the rounds and leaves a state
pub answer_below : (rounds : Rounds) → IsRounds rounds → (number : ℕ) → IsAnswer rounds number → number < length rounds.edges
answer_below rounds is_rounds number answer = (is_rounds.answers answer.state answer.question number answer.asked answer.answers).0

pub answer_source : (rounds : Rounds) → IsRounds rounds → (number : ℕ) → IsAnswer rounds number → (edge_at rounds number).source < length rounds.states
answer_source rounds is_rounds number answer =
    omega (arith, (is_rounds.answers answer.state answer.question number answer.asked answer.answers).1, answer.asked.below)

item_default : (xs : List ℕ) (k d e : ℕ) → k < length xs → get_or xs k d ≡ get_or xs k e
item_default [] k d e below = absurd (omega arith)
item_default (x ∷ xs) zero d e below = refl
item_default (x ∷ xs) (suc k) d e below = item_default xs k d e (omega arith)

-- a listed number is one of the list, and the other way round
has_listed : (numbers : List ℕ) (k : ℕ) → IsTrue (listed numbers k) → Contains numbers k
has_listed numbers k is =
    let found = any_from (λ other. other == k) numbers is in
    subst (λ (n : ℕ). Contains numbers n) (eqb-true found.0 k found.2) found.1

is_listed : (numbers : List ℕ) (k : ℕ) → Contains numbers k → IsTrue (listed numbers k)
is_listed numbers k has = any_has (λ other. other == k) numbers k has (eq-eqb k k refl)

-- walks of the graph of kept edges
module _ (rounds : Rounds) (start : ℕ) (kept : List ℕ) (below : (number : ℕ) → Contains kept number → number < length rounds.edges)
    (graph : Shape) (is_graph : IsKeptGraph rounds kept graph) (marks : ℕ → List ℕ) where
  abbrev places : List ℕ
  places = range_with_len 0 (length graph.edges)

  edges_counted : length graph.edges ≡ length kept
  edges_counted = ap length is_graph.edges_are ∙ length-map kept (ends_of rounds)

  ends_are : (k : ℕ) → k < length kept → ends_at graph k ≡ ends_of rounds (get_or kept k 0)
  ends_are k within =
      ap (λ (edges : List Edge). get_or edges k (edge_of 0 0)) is_graph.edges_are ∙ get_or-map (ends_of rounds) kept k 0 (edge_of 0 0) within

  -- a walk leads on by kept edges
  lead_on : (walk : List ℕ) (from to : ℕ) → IsEdgeWalk (marked graph marks) (listed places) from walk to
      → (numbers : List ℕ) × All (Contains kept) numbers × LeadOn rounds from numbers to
  lead_on [] from to leads = ([], All-nil (Contains kept), leads)
  lead_on (k ∷ walk) from to leads =
      let within : k < length kept = omega (arith, (in_range 0 (length graph.edges) k (has_listed places k leads.0)).1, edges_counted) in
      let number : ℕ = get_or kept k 0 in
      let has : Contains kept number = Contains-get_or kept k 0 within in
      let ends : ends_at graph k ≡ ends_of rounds number = ends_are k within in
      let rest = lead_on walk (ends_at graph k).to to leads.2 in (
        number ∷ rest.0,
        All-cons (Contains kept) number rest.0 has rest.1,
        (
          (edge_at rounds number).target,
          record { below = below number has; leaves = sym (ap (λ (e : Edge). e.from) ends) ∙ leads.1; enters = refl },
          subst (λ (state : ℕ). LeadOn rounds state rest.0 to) (ap (λ (e : Edge). e.to) ends) rest.2,
        ),
      )

  -- and kept edges that lead on are a walk
  walk_of : (numbers : List ℕ) (from to : ℕ) → All (Contains kept) numbers → LeadOn rounds from numbers to
      → (walk : List ℕ) × IsEdgeWalk (marked graph marks) (listed places) from walk to
  walk_of [] from to all leads = ([], leads)
  walk_of (number ∷ numbers) from to all leads =
      let has : Contains kept number = All-head (Contains kept) number numbers all in
      let k : ℕ = has.0 in
      let step : IsRoundStep rounds from number leads.0 = leads.1 in
      let ends : ends_at graph k ≡ ends_of rounds number =
      ends_are k has.1 ∙ ap (ends_of rounds) (item_default kept k 0 number has.1 ∙ has.2) in
      let rest = walk_of numbers leads.0 to (All-tail (Contains kept) number numbers all) leads.2 in (
        k ∷ rest.0,
        (
          is_listed places k (range_has 0 (length graph.edges) k (omega arith) (omega (arith, has.1, edges_counted))),
          ap (λ (e : Edge). e.from) ends ∙ step.leaves,
          subst (λ (state : ℕ). IsEdgeWalk (marked graph marks) (listed places) state rest.0 to) (sym (ap (λ (e : Edge). e.to) ends ∙ step.enters)) rest.1,
        ),
      )

  -- so the states that it reaches are those to which kept edges lead
  pub reached_along : (sources : List ℕ) → sources ≡ start ∷ [] → (state : ℕ)
      → IsReachedAlong (marked graph marks) (listed places) sources state ↔ IsReached rounds kept start state
  reached_along sources is state = (
    λ along.
        (let source : along.1.source ≡ start = only along.1.source (subst (λ (list : List ℕ). Contains list along.1.source) is along.1.begins) in
        let found = lead_on along.0 along.1.source state along.1.leads in
        record {
          numbers = found.0;
          all_kept = found.1;
          leads = subst (λ (s : ℕ). LeadOn rounds s found.0 state) source found.2;
        }),
    λ reached.
        (let found = walk_of reached.numbers start state reached.all_kept reached.leads in (
          found.0,
          record {
            source = start;
            begins = subst (λ (list : List ℕ). Contains list start) (sym is) (0, omega arith, refl);
            leads = found.1;
          },
        )),
  )
    where
      only : (source : ℕ) → Contains (start ∷ []) source → source ≡ start
      only source (zero, within, here) = sym here
      only source (suc k, within, here) = absurd (omega arith)

-- the edges with a flag are those that leave states to which kept edges lead
pub flagged_met : (rounds : Rounds) → IsRounds rounds → (start : ℕ) (kept : List ℕ) → AreAnswers rounds kept → (graph : Shape)
    → IsKeptGraph rounds kept graph → (edges sources : List ℕ) (flags : List Bool) → edges ≡ range_with_len 0 (length graph.edges) → sources ≡ start ∷ []
    → TellReached graph edges sources flags → AreMetAmong rounds start kept (filter (leaves_flagged rounds flags) kept)
flagged_met rounds is_rounds start kept answers graph is_graph edges sources flags all is tells number =
    let marks : ℕ → List ℕ = λ (k : ℕ). [] in
    let source : ℕ = (edge_at rounds number).source in
    let told = (subst (λ (numbers : List ℕ). TellReached graph numbers sources flags) all tells) marks source in
    let along = reached_along rounds start kept (λ n has. answer_below rounds is_rounds n (answers n has)) graph is_graph marks sources is source in (
      λ has.
          (let both = filter_from (leaves_flagged rounds flags) kept number has in
          (both.0, along.0 (told.0 both.1))),
      λ both. filter_has (leaves_flagged rounds flags) kept number both.0 (told.1 (along.1 both.1)),
    )

-- what is chosen by a test is pushed
pub pushed_if : (wanted : Bool) (numbers : List ℕ) (number : ℕ) → cond wanted (numbers ++ number ∷ []) numbers ≡ numbers ++ cond wanted (number ∷ []) []
pushed_if true numbers number = refl
pushed_if false numbers number = sym (append-nil numbers)

-- winning by them
module _ (rounds : Rounds) (is_rounds : IsRounds rounds) (start : ℕ) (kept met : List ℕ) (are : AreMetAmong rounds start kept met) where
  step_reached : (from number to : ℕ) → IsReached rounds kept start from → Contains kept number → IsRoundStep rounds from number to
      → IsReached rounds kept start to
  step_reached from number to reached has step = record {
    numbers = reached.numbers ++ number ∷ [];
    all_kept = all_more reached.numbers reached.all_kept;
    leads = leads_more start reached.numbers reached.leads;
  }
    where
      all_more : (numbers : List ℕ) → All (Contains kept) numbers → All (Contains kept) (numbers ++ number ∷ [])
      all_more [] all = All-cons (Contains kept) number [] has (All-nil (Contains kept))
      all_more (n ∷ numbers) all =
          All-cons (Contains kept) n (numbers ++ number ∷ []) (All-head (Contains kept) n numbers all)
          (all_more numbers (All-tail (Contains kept) n numbers all))

      leads_more : (s : ℕ) (numbers : List ℕ) → LeadOn rounds s numbers from → LeadOn rounds s (numbers ++ number ∷ []) to
      leads_more s [] leads = (to, subst (λ (state : ℕ). IsRoundStep rounds state number to) (sym leads) step, refl)
      leads_more s (n ∷ numbers) leads = (leads.0, leads.1, leads_more leads.0 numbers leads.2)

  -- kept edges that lead on from a state that is reached are met
  all_met : (from : ℕ) (numbers : List ℕ) (to : ℕ) → IsReached rounds kept start from → All (Contains kept) numbers → LeadOn rounds from numbers to
      → All (Contains met) numbers
  all_met from [] to reached all leads = All-nil (Contains met)
  all_met from (number ∷ numbers) to reached all leads =
      let has : Contains kept number = All-head (Contains kept) number numbers all in
      let step : IsRoundStep rounds from number leads.0 = leads.1 in
      All-cons (Contains met) number numbers
      ((are number).1 (has, subst (λ (state : ℕ). IsReached rounds kept start state) (sym step.leaves) reached))
      (all_met leads.0 numbers to (step_reached from number leads.0 reached has step) (All-tail (Contains kept) number numbers all) leads.2)

  at_start : IsReached rounds kept start start
  at_start = record { numbers = []; all_kept = All-nil (Contains kept); leads = refl }

  reached_met : (state : ℕ) → IsReached rounds kept start state → IsReached rounds met start state
  reached_met state reached = record {
    numbers = reached.numbers;
    all_kept = all_met start reached.numbers state at_start reached.all_kept reached.leads;
    leads = reached.leads;
  }

  all_kept : (numbers : List ℕ) → All (Contains met) numbers → All (Contains kept) numbers
  all_kept [] all = All-nil (Contains kept)
  all_kept (number ∷ numbers) all =
      All-cons (Contains kept) number numbers ((are number).0 (All-head (Contains met) number numbers all)).0
      (all_kept numbers (All-tail (Contains met) number numbers all))

  reached_kept : (state : ℕ) → IsReached rounds met start state → IsReached rounds kept start state
  reached_kept state reached = record { numbers = reached.numbers; all_kept = all_kept reached.numbers reached.all_kept; leads = reached.leads }

  round_kept : (state : ℕ) (cycle : List ℕ) → IsKeptRound rounds met start state cycle → IsKeptRound rounds kept start state cycle
  round_kept state cycle round = record {
    reached = reached_kept state round.reached;
    all_kept = all_kept cycle round.all_kept;
    leads = round.leads;
    longer = round.longer;
  }

  pub answering_met : IsAnswering rounds start kept → IsAnswering rounds start met
  answering_met answering = record {
    answered = λ state question reached asked.
        (let there = reached_kept state reached in
        let found = answering.answered state question there asked in
        let source = (is_rounds.answers state question found.0 asked found.2).1 in (
          found.0,
          (are found.0).1 (found.1, subst (λ (s : ℕ). IsReached rounds kept start s) (sym source) there),
          found.2,
        ));
    even = λ state cycle round. answering.even state cycle (round_kept state cycle round);
  }

  pub asking_met : (asked : List ℕ) → IsAsking rounds start kept asked → IsAsking rounds start met asked
  asking_met asked asking = record {
    asks = λ state reached. asking.asks state (reached_kept state reached);
    keeps = λ state number next reached step.
        (let there = reached_kept state reached in
        let both = asking.keeps state number next there step in (
          λ has. both.0 ((are number).0 has).0,
          λ has. (are number).1 (both.1 has, subst (λ (s : ℕ). IsReached rounds kept start s) (sym step.leaves) there),
        ));
    odd = λ state cycle round. asking.odd state cycle (round_kept state cycle round);
  }

  pub answers_met : AreAnswers rounds kept → AreMetAnswers rounds start met
  answers_met answers number has =
      let both = (are number).0 has in (answers number both.0, reached_met (edge_at rounds number).source both.1)

-- the numbers of a range are below its end
pub all_places : (n : ℕ) → All (λ number. number < n) (range_with_len 0 n)
all_places n k d within =
    omega (arith, get_or-range_with_len 0 n k d (omega (arith, within, length-range_with_len 0 n)), within, length-range_with_len 0 n)

pub start_alone : (start states : ℕ) → start < states → All (λ state. state < states) (start ∷ [])
start_alone start states below = All-cons (λ state. state < states) start [] below (All-nil (λ state. state < states))
