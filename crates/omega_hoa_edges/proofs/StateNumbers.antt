-- The state of a number, by its place among the numbers of states.
use Rattle.std.proofs.Common.{◌≡◌, ◌==◌, ℕ, zero, suc, ◌+◌, ◌<◌, ◌≤◌, ◌⊎◌, inl, inr, Bool, true, false, not, cond, nat_eq, nat_lt, if◌then◌else◌, List, [], ◌∷◌, length, map, get_or, Option, Some, None, position, refl, sym, ap, ◌∙◌, arith, eqb-true, eq-eqb, true≢false}
use Rattle.std.specs.List.{position_or_len}
use Rattle.std.specs.Option.{unwrap_or}
use Rattle.std.specs.Prelude.{IfNone, IfSome}
use Rattle.std.proofs.lemmas.Bool.{cases_lt, lt-ltb, ltb-true}
use Rattle.std.proofs.lemmas.List.{length-map}
use Rattle.std.proofs.lemmas.Option.{cond_some}
use Rattle.omega_hoa_automaton.specs.declared.state.State.{State}
use Rattle.omega_hoa_edges.specs.AutomatonLabels.{state_among, undefined}

turned : (m n : ℕ) (b : Bool) → (m == n) ≡ b → nat_eq n m ≡ b
turned m n true e = eq-eqb n m (sym (eqb-true m n e))
turned m n false e = go (n == m) refl
  where
    go : (b : Bool) → (n == m) ≡ b → b ≡ false
    go true same = absurd (true≢false (sym (eq-eqb m n (sym (eqb-true n m same))) ∙ e))
    go false same = refl

at_place : (states : List State) (number : ℕ)
    → state_among states number ≡ get_or states (position_or_len (nat_eq number) (map (λ (state : State). state.number) states)) (undefined number)
at_place [] number = refl
at_place (state ∷ states) number = go (state.number == number) refl (at_place states number)
  where
    go : (b : Bool) → (state.number == number) ≡ b
        → state_among states number ≡ get_or states (position_or_len (nat_eq number) (map (λ (state : State). state.number) states)) (undefined number)
        → (if state.number == number then state else state_among states number)
        ≡ get_or (state ∷ states) (cond (not (nat_eq number state.number)) (1 + position_or_len (nat_eq number) (map (λ (state : State). state.number) states)) 0) (undefined number)
    go true e rest =
        ap (λ b. if b then state else state_among states number) e
        ∙ ap (λ b. get_or (state ∷ states) (cond (not b) (1 + position_or_len (nat_eq number) (map (λ (state : State). state.number) states)) 0) (undefined number)) (sym (turned state.number number true e))
    go false e rest =
        let k : ℕ = position_or_len (nat_eq number) (map (λ (state : State). state.number) states) in
        let more : suc k ≡ 1 + k = omega arith in
        ap (λ b. if b then state else state_among states number) e ∙ rest
        ∙ ap (λ i. get_or (state ∷ states) i (undefined number)) more
        ∙ ap (λ b. get_or (state ∷ states) (cond (not b) (1 + k) 0) (undefined number)) (sym (turned state.number number false e))

some_place : (b : Bool) (p place : ℕ) → cond b (Some p) None ≡ Some place → p ≡ place
some_place true p place e = cc
some_place false p place e = absurd (none e)
  where
    none : None ≡ Some place → ⊥
    none e = cc

none_place : (b : Bool) (p : ℕ) → cond b (Some p) None ≡ None → b ≡ false
none_place true p e = absurd (none e)
  where
    none : Some p ≡ None → ⊥
    none e = cc
none_place false p e = refl

past_end : {X : Type 0} (xs : List X) (i : ℕ) (d : X) → length xs ≤ i → get_or xs i d ≡ d
past_end [] i d past = refl
past_end (x ∷ xs) zero d past = absurd (omega arith)
past_end (x ∷ xs) (suc i) d past = past_end xs i d (omega arith)

-- the state at the place of its number
pub state_found : (states : List State) (numbers : List ℕ) (number place : ℕ) → numbers ≡ map (λ (state : State). state.number) states
    → position (nat_eq number) numbers ≡ Some place → state_among states number ≡ get_or states place (undefined number)
state_found states numbers number place are found =
    let p : position_or_len (nat_eq number) numbers ≡ place = some_place (nat_lt (position_or_len (nat_eq number) numbers) (length numbers)) (position_or_len (nat_eq number) numbers) place found in
    at_place states number
    ∙ ap (λ ns. get_or states (position_or_len (nat_eq number) ns) (undefined number)) (sym are) ∙ ap (λ i. get_or states i (undefined number)) p

-- a number that is not listed
pub state_missing : (states : List State) (numbers : List ℕ) (number : ℕ) → numbers ≡ map (λ (state : State). state.number) states
    → position (nat_eq number) numbers ≡ None → state_among states number ≡ undefined number
state_missing states numbers number are missing = go (cases_lt (position_or_len (nat_eq number) numbers) (length numbers))
  where
    long : length states ≡ length numbers
    long = sym (length-map states (λ (state : State). state.number)) ∙ sym (ap length are)

    go : (position_or_len (nat_eq number) numbers < length numbers) ⊎ (length numbers ≤ position_or_len (nat_eq number) numbers) → state_among states number ≡ undefined number
    go (inl below) =
        absurd (true≢false (sym (lt-ltb (position_or_len (nat_eq number) numbers) (length numbers) below)
        ∙ none_place (nat_lt (position_or_len (nat_eq number) numbers) (length numbers)) (position_or_len (nat_eq number) numbers) missing))
    go (inr past) =
        at_place states number
        ∙ ap (λ ns. get_or states (position_or_len (nat_eq number) ns) (undefined number)) (sym are)
        ∙ past_end states (position_or_len (nat_eq number) numbers) (undefined number) (omega (arith, past, long))

-- the state of a number has it
pub state_number : (states : List State) (number : ℕ) → (state_among states number).number ≡ number
state_number [] number = refl
state_number (state ∷ states) number = go (state.number == number) refl (state_number states number)
  where
    go : (b : Bool) → (state.number == number) ≡ b → (state_among states number).number ≡ number → (if state.number == number then state else state_among states number).number ≡ number
    go true e rest = ap (λ b. (if b then state else state_among states number).number) e ∙ eqb-true state.number number e
    go false e rest = ap (λ b. (if b then state else state_among states number).number) e ∙ rest

-- an element does not depend on the default
same_default : {X : Type 0} (xs : List X) (i : ℕ) (d e : X) → i < length xs → get_or xs i d ≡ get_or xs i e
same_default [] i d e below = absurd (omega arith)
same_default (x ∷ xs) zero d e below = refl
same_default (x ∷ xs) (suc i) d e below = same_default xs i d e (omega arith)

-- the state at the place of a number has this number
pub state_placed : (states : List State) (numbers : List ℕ) (number place : ℕ) (state : State) → numbers ≡ map (λ (state : State). state.number) states
    → position (nat_eq number) numbers ≡ Some place → state ≡ get_or states place state → state ≡ state_among states number
state_placed states numbers number place state are found here =
    let both = cond_some (nat_lt (position_or_len (nat_eq number) numbers) (length numbers)) (position_or_len (nat_eq number) numbers) place found in
    let below : position_or_len (nat_eq number) numbers < length numbers = ltb-true (position_or_len (nat_eq number) numbers) (length numbers) both.0 in
    let long : length states ≡ length numbers = sym (length-map states (λ (state : State). state.number)) ∙ sym (ap length are) in
    let within : place < length states = omega (arith, below, long, both.1) in
    here ∙ same_default states place state (undefined number) within ∙ sym (state_found states numbers number place are found)

-- the state that is found, or the one that stands for a number that the body does not define
pub found_or : {R S : Type 0} (value : R → S) (found : Option R) (spare : R) (is undefined_state : S) → IfSome found (λ r. value r ≡ is)
    → IfNone found (is ≡ undefined_state) → value spare ≡ undefined_state → value (unwrap_or found spare) ≡ is
found_or value (Some r) spare is undefined_state some none e = some
found_or value None spare is undefined_state some none e = e ∙ sym none
