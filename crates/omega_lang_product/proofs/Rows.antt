-- The edges of a state, one more at a time, and the numbers of states and of their first edges in a table.
use Rattle.std.proofs.Common.{◌≡◌, ◌==◌, ℕ, zero, suc, ◌+◌, ◌<◌, ◌≤◌, ◌⊎◌, inl, inr, Bool, true, false, not, cond, nat_eq, nat_lt, if◌then◌else◌, List, [], ◌∷◌, ◌++◌, length, map, take, get_or, Option, Some, None, position, Contains, refl, sym, ap, subst, ◌∙◌, arith, eqb-true, eq-eqb, ltb-true, true≢false}
use Rattle.std.specs.List.{position_or_len}
use Rattle.std.proofs.lemmas.Bool.{cases_lt, lt-ltb}
use Rattle.std.proofs.lemmas.List.{length-map, length-take, map-append, take_more}
use Rattle.std.proofs.lemmas.List.Sums.{sum_by-cons, sum_by_push}
use Rattle.omega_hoa_automaton.specs.declared.edge.Edge.{Edge}
use Rattle.omega_hoa_automaton.specs.declared.state.State.{State}
use Rattle.omega_hoa_automaton.specs.Automaton.{edges_before}
use Rattle.omega_lang_product.specs.Pairs.{name_at}
use Rattle.omega_lang_product.specs.PlainEdges.{View, plain_edge_of, plain_edges_at, plain_edges_from}
use Rattle.omega_lang_product.specs.private.Tables.{AreNumbered, edges_in, firsts_from, row_of}
use Rattle.omega_lang_product.specs.declared.plain_edge.PlainEdge.{PlainEdge}
use Rattle.omega_lang_product.proofs.Membership.{Contains-here, Contains-there}

-- one edge more
from_more : (view : View) (state : State) (first : ℕ) (edges : List Edge) (edge : Edge)
    → plain_edges_from view state first (edges ++ edge ∷ []) ≡ plain_edges_from view state first edges ++ plain_edge_of view state (first + length edges) edge ∷ []
from_more view state first [] edge = let e : first ≡ first + 0 = omega arith in ap (λ i. plain_edge_of view state i edge ∷ []) e
from_more view state first (x ∷ edges) edge =
    let e : (first + 1) + length edges ≡ first + length (x ∷ edges) = omega arith in
    ap (λ (rest : List PlainEdge). plain_edge_of view state first x ∷ rest)
    (from_more view state (first + 1) edges edge
    ∙ ap (λ i. plain_edges_from view state (first + 1) edges ++ plain_edge_of view state i edge ∷ []) e)

pub plain_edges_more : (view : View) (state : State) (edges : List Edge) (at : ℕ) (edge : Edge) → at < length edges → edge ≡ get_or edges at edge
    → plain_edges_from view state 0 (take (at + 1) edges) ≡ plain_edges_from view state 0 (take at edges) ++ plain_edge_of view state at edge ∷ []
plain_edges_more view state edges at edge below here =
    let long : 0 + length (take at edges) ≡ at = omega (arith, length-take at edges, below) in
    ap (plain_edges_from view state 0) (take_more edges at edge below)
    ∙ ap (λ (e : Edge). plain_edges_from view state 0 (take at edges ++ e ∷ [])) (sym here)
    ∙ from_more view state 0 (take at edges) edge
    ∙ ap (λ i. plain_edges_from view state 0 (take at edges) ++ plain_edge_of view state i edge ∷ []) long

-- the row of a state is at its place
turned : (m n : ℕ) (b : Bool) → (m == n) ≡ b → nat_eq n m ≡ b
turned m n true e = eq-eqb n m (sym (eqb-true m n e))
turned m n false e = go (n == m) refl
  where
    go : (b : Bool) → (n == m) ≡ b → b ≡ false
    go true same = absurd (true≢false (sym (eq-eqb m n (sym (eqb-true n m same))) ∙ e))
    go false same = refl

-- what the first state with a number has, or nothing
module _ {X : Type 0} (has : State → X) (nothing : X) where
  abbrev pub first_with : List State → ℕ → X
  first_with [] number = nothing
  first_with (state ∷ states) number = if state.number == number then has state else first_with states number

  at_place : (states : List State) (number : ℕ)
      → first_with states number ≡ get_or (map has states) (position_or_len (nat_eq number) (map (λ (state : State). state.number) states)) nothing
  at_place [] number = refl
  at_place (state ∷ states) number = go (state.number == number) refl (at_place states number)
    where
      go : (b : Bool) → (state.number == number) ≡ b
          → first_with states number ≡ get_or (map has states) (position_or_len (nat_eq number) (map (λ (state : State). state.number) states)) nothing
          → (if state.number == number then has state else first_with states number)
          ≡ get_or (has state ∷ map has states)
          (cond (not (nat_eq number state.number)) (1 + position_or_len (nat_eq number) (map (λ (state : State). state.number) states)) 0) nothing
      go true e rest =
          ap (λ b. if b then has state else first_with states number) e
          ∙ ap (λ b. get_or (has state ∷ map has states)
          (cond (not b) (1 + position_or_len (nat_eq number) (map (λ (state : State). state.number) states)) 0) nothing) (sym (turned state.number number true e))
      go false e rest =
          let k : ℕ = position_or_len (nat_eq number) (map (λ (state : State). state.number) states) in
          let more : suc k ≡ 1 + k = omega arith in
          ap (λ b. if b then has state else first_with states number) e ∙ rest
          ∙ ap (λ i. get_or (has state ∷ map has states) i nothing) more
          ∙ ap (λ b. get_or (has state ∷ map has states) (cond (not b) (1 + k) 0) nothing) (sym (turned state.number number false e))

some_place : (b : Bool) (p place : ℕ) → cond b (Some p) None ≡ Some place → p ≡ place
some_place true p place e = cc
some_place false p place e = absurd (none e)
  where
    none : None ≡ Some place → ⊥
    none e = cc

none_place : (b : Bool) (p : ℕ) → cond b (Some p) None ≡ None → b ≡ false
none_place true p e = absurd (none e)
  where
    none : Some p ≡ None → ⊥
    none e = cc
none_place false p e = refl

past_end : {X : Type 0} (xs : List X) (i : ℕ) (d : X) → length xs ≤ i → get_or xs i d ≡ d
past_end [] i d past = refl
past_end (x ∷ xs) zero d past = absurd (omega arith)
past_end (x ∷ xs) (suc i) d past = past_end xs i d (omega arith)

-- it is found by the place of the number
module _ {X : Type 0} (has : State → X) (nothing : X) (states : List State) (numbers : List ℕ) (number : ℕ) (are : numbers ≡ map (λ (state : State). state.number) states) where
  pub found_first : (place : ℕ) → position (nat_eq number) numbers ≡ Some place → first_with has nothing states number ≡ get_or (map has states) place nothing
  found_first place found =
      let p : position_or_len (nat_eq number) numbers ≡ place = some_place (nat_lt (position_or_len (nat_eq number) numbers) (length numbers)) (position_or_len (nat_eq number) numbers) place found in
      at_place has nothing states number
      ∙ ap (λ ns. get_or (map has states) (position_or_len (nat_eq number) ns) nothing) (sym are) ∙ ap (λ i. get_or (map has states) i nothing) p

  pub missing_first : position (nat_eq number) numbers ≡ None → first_with has nothing states number ≡ nothing
  missing_first missing = go (cases_lt (position_or_len (nat_eq number) numbers) (length numbers))
    where
      long : length (map has states) ≡ length numbers
      long = length-map states has ∙ sym (length-map states (λ (state : State). state.number)) ∙ sym (ap length are)

      go : (position_or_len (nat_eq number) numbers < length numbers) ⊎ (length numbers ≤ position_or_len (nat_eq number) numbers) → first_with has nothing states number ≡ nothing
      go (inl below) =
          absurd (true≢false (sym (lt-ltb (position_or_len (nat_eq number) numbers) (length numbers) below)
          ∙ none_place (nat_lt (position_or_len (nat_eq number) numbers) (length numbers)) (position_or_len (nat_eq number) numbers) missing))
      go (inr past) =
          at_place has nothing states number
          ∙ ap (λ ns. get_or (map has states) (position_or_len (nat_eq number) ns) nothing) (sym are)
          ∙ past_end (map has states) (position_or_len (nat_eq number) numbers) nothing (omega (arith, past, long))

-- what the table says
row_first : (view : View) (states : List State) (number : ℕ) → plain_edges_at view states number ≡ first_with (row_of view) [] states number
row_first view [] number = refl
row_first view (state ∷ states) number = ap (λ (rest : List PlainEdge). if state.number == number then row_of view state else rest) (row_first view states number)

pub row_found : (view : View) (states : List State) (numbers firsts : List ℕ) (number place : ℕ) → AreNumbered states numbers firsts
    → position (nat_eq number) numbers ≡ Some place → plain_edges_at view states number ≡ get_or (map (row_of view) states) place []
row_found view states numbers firsts number place are found =
    row_first view states number ∙ found_first (row_of view) [] states numbers number are.numbers_are place found

pub row_missing : (view : View) (states : List State) (numbers firsts : List ℕ) (number : ℕ) → AreNumbered states numbers firsts
    → position (nat_eq number) numbers ≡ None → plain_edges_at view states number ≡ []
row_missing view states numbers firsts number are missing =
    row_first view states number ∙ missing_first (row_of view) [] states numbers number are.numbers_are missing

-- the name of a state is at its place
name_first : (states : List State) (number : ℕ) → name_at states number ≡ first_with (λ (state : State). state.name) None states number
name_first [] number = refl
name_first (state ∷ states) number = ap (λ (rest : Option (List ℕ)). if state.number == number then state.name else rest) (name_first states number)

module _ (states : List State) (numbers : List ℕ) (number : ℕ) (are : numbers ≡ map (λ (state : State). state.number) states) where
  pub name_found : (place : ℕ) → position (nat_eq number) numbers ≡ Some place → name_at states number ≡ get_or (map (λ (state : State). state.name) states) place None
  name_found place found = name_first states number ∙ found_first (λ (state : State). state.name) None states numbers number are place found

  pub name_missing : position (nat_eq number) numbers ≡ None → name_at states number ≡ None
  name_missing missing = name_first states number ∙ missing_first (λ (state : State). state.name) None states numbers number are missing

-- the number of the first edge of a state is at its place
some_below : (b : Bool) (p place : ℕ) → cond b (Some p) None ≡ Some place → b ≡ true
some_below true p place e = refl
some_below false p place e = absurd (none e)
  where
    none : None ≡ Some place → ⊥
    none e = cc

at_first : (states : List State) (number count : ℕ) → position_or_len (nat_eq number) (map (λ (state : State). state.number) states) < length states
    → get_or (firsts_from count states) (position_or_len (nat_eq number) (map (λ (state : State). state.number) states)) 0 ≡ count + edges_before states number
at_first [] number count below = absurd (omega (arith, below))
at_first (state ∷ states) number count below = go (state.number == number) refl (λ inside. at_first states number (count + length state.edges) inside)
  where
    place : ℕ
    place = position_or_len (nat_eq number) (map (λ (state : State). state.number) states)

    firsts : List ℕ
    firsts = count ∷ firsts_from (count + length state.edges) states

    go : (b : Bool) → (state.number == number) ≡ b
        → (place < length states → get_or (firsts_from (count + length state.edges) states) place 0 ≡ (count + length state.edges) + edges_before states number)
        → get_or firsts (cond (not (nat_eq number state.number)) (1 + place) 0) 0
        ≡ count + (if state.number == number then 0 else length state.edges + edges_before states number)
    go true e rest =
        let sum : count ≡ count + 0 = omega arith in
        ap (λ b. get_or firsts (cond (not b) (1 + place) 0) 0) (turned state.number number true e)
        ∙ sum ∙ ap (λ b. count + (if b then 0 else length state.edges + edges_before states number)) (sym e)
    go false e rest =
        let more : 1 + place ≡ suc place = omega arith in
        let here : cond (not (nat_eq number state.number)) (1 + place) 0 ≡ 1 + place = ap (λ b. cond (not b) (1 + place) 0) (turned state.number number false e) in
        let sum : (count + length state.edges) + edges_before states number ≡ count + (length state.edges + edges_before states number) = omega arith in
        ap (λ n. get_or firsts n 0) (here ∙ more)
        ∙ rest (omega (arith, below, here))
        ∙ sum ∙ ap (λ b. count + (if b then 0 else length state.edges + edges_before states number)) (sym e)

pub first_found : (states : List State) (numbers firsts : List ℕ) (number place : ℕ) → AreNumbered states numbers firsts
    → position (nat_eq number) numbers ≡ Some place → get_or firsts place 0 ≡ edges_before states number
first_found states numbers firsts number place are found =
    let p : position_or_len (nat_eq number) numbers ≡ place = some_place (nat_lt (position_or_len (nat_eq number) numbers) (length numbers)) (position_or_len (nat_eq number) numbers) place found in
    let below : position_or_len (nat_eq number) numbers < length numbers =
    ltb-true (position_or_len (nat_eq number) numbers) (length numbers) (some_below (nat_lt (position_or_len (nat_eq number) numbers) (length numbers)) (position_or_len (nat_eq number) numbers) place found) in
    let same : position_or_len (nat_eq number) numbers ≡ position_or_len (nat_eq number) (map (λ (state : State). state.number) states) =
    ap (position_or_len (nat_eq number)) are.numbers_are in
    let long : length numbers ≡ length states = ap length are.numbers_are ∙ length-map states (λ (state : State). state.number) in
    let none : 0 + edges_before states number ≡ edges_before states number = omega arith in
    ap (λ n. get_or firsts n 0) (sym p ∙ same)
    ∙ ap (λ (fs : List ℕ). get_or fs (position_or_len (nat_eq number) (map (λ (state : State). state.number) states)) 0) are.firsts_are
    ∙ at_first states number 0 (omega (arith, below, same, long)) ∙ none

-- one state more
firsts_more : (count : ℕ) (states : List State) (state : State) → firsts_from count (states ++ state ∷ []) ≡ firsts_from count states ++ (count + edges_in states) ∷ []
firsts_more count [] state = let e : count ≡ count + 0 = omega arith in ap (λ n. n ∷ []) e
firsts_more count (x ∷ states) state =
    let sum : (count + length x.edges) + edges_in states ≡ count + edges_in (x ∷ states) = omega (arith, sum_by-cons (λ (s : State). length s.edges) x states) in
    ap (λ (rest : List ℕ). count ∷ rest)
    (firsts_more (count + length x.edges) states state
    ∙ ap (λ n. firsts_from (count + length x.edges) states ++ n ∷ []) sum)

pub edges_more : (states : List State) (at : ℕ) (state : State) → at < length states → state ≡ get_or states at state
    → edges_in (take (at + 1) states) ≡ edges_in (take at states) + length state.edges
edges_more states at state below here =
    ap edges_in (take_more states at state below ∙ ap (λ (s : State). take at states ++ s ∷ []) (sym here))
    ∙ sum_by_push (λ (s : State). length s.edges) (take at states) state

pub numbered_more : (states : List State) (at : ℕ) (state : State) (numbers firsts : List ℕ) (first : ℕ)
    → at < length states → state ≡ get_or states at state → AreNumbered (take at states) numbers firsts → first ≡ edges_in (take at states)
    → AreNumbered (take (at + 1) states) (numbers ++ state.number ∷ []) (firsts ++ first ∷ [])
numbered_more states at state numbers firsts first below here are counted =
    let more : take (at + 1) states ≡ take at states ++ state ∷ [] = take_more states at state below ∙ ap (λ (s : State). take at states ++ s ∷ []) (sym here) in
    let next : first ≡ 0 + edges_in (take at states) = omega (arith, counted) in
    record {
      numbers_are = ap (λ (ns : List ℕ). ns ++ state.number ∷ []) are.numbers_are ∙ sym (map-append (λ (s : State). s.number) (take at states) (state ∷ [])) ∙ ap (map (λ (s : State). s.number)) (sym more);
      firsts_are = ap (λ (fs : List ℕ). fs ++ first ∷ []) are.firsts_are ∙ ap (λ n. firsts_from 0 (take at states) ++ n ∷ []) next
          ∙ sym (firsts_more 0 (take at states) state) ∙ ap (firsts_from 0) (sym more);
    }

-- an edge is among those of its state
row_from : (view : View) (state : State) (first : ℕ) (edges : List Edge) (k : ℕ) (edge : Edge) → k < length edges → edge ≡ get_or edges k edge
    → Contains (plain_edges_from view state first edges) (plain_edge_of view state (first + k) edge)
row_from view state first [] k edge below here = absurd (omega (arith, below))
row_from view state first (x ∷ edges) zero edge below here =
    let index : first ≡ first + 0 = omega arith in
    let P : PlainEdge → Type 0 = λ t. Contains (plain_edges_from view state first (x ∷ edges)) t in
    subst P (ap (plain_edge_of view state first) (sym here) ∙ ap (λ i. plain_edge_of view state i edge) index)
    (Contains-here (plain_edge_of view state first x) (plain_edges_from view state (first + 1) edges))
row_from view state first (x ∷ edges) (suc k) edge below here =
    let index : (first + 1) + k ≡ first + suc k = omega arith in
    let P : PlainEdge → Type 0 = λ t. Contains (plain_edges_from view state first (x ∷ edges)) t in
    subst P (ap (λ i. plain_edge_of view state i edge) index)
    (Contains-there (plain_edge_of view state first x) (plain_edge_of view state ((first + 1) + k) edge) (plain_edges_from view state (first + 1) edges)
    (row_from view state (first + 1) edges k edge (omega (arith, below)) here))

pub row_contains : (view : View) (state : State) (at : ℕ) (edge : Edge) → at < length state.edges → edge ≡ get_or state.edges at edge
    → Contains (plain_edges_from view state 0 state.edges) (plain_edge_of view state at edge)
row_contains view state at edge below here =
    let index : 0 + at ≡ at = omega arith in
    let P : PlainEdge → Type 0 = λ t. Contains (plain_edges_from view state 0 state.edges) t in
    subst P (ap (λ i. plain_edge_of view state i edge) index) (row_from view state 0 state.edges at edge below here)
