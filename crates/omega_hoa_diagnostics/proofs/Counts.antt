-- The count of states of an automaton that mentions a state beyond it.
use Rattle.std.proofs.Common.{◌≡◌, ℕ, ◌<◌, Bool, true, ◌||◌, ◌⊎◌, nat_le, inl, inr, Option, Some, None, unwrap_or, List, [], ◌∷◌, ap, sym, ◌∙◌, subst, arith}
use Rattle.std.specs.List.{AllByRecursion, list_any}
use Rattle.std.proofs.lemmas.Bool.{leb-true, or_cases}
use Rattle.omega_text.specs.Limits.{most_number}
use Rattle.omega_hoa_syntax.specs.Grammar.{IsConj, IsRawEdge, IsRawItem, IsRawState}
use Rattle.omega_hoa_syntax.specs.declared.raw_automaton.RawAutomaton.{RawAutomaton}
use Rattle.omega_hoa_syntax.specs.declared.raw_edge.RawEdge.{RawEdge}
use Rattle.omega_hoa_syntax.specs.declared.raw_item.RawItem.{RawItem}
use Rattle.omega_hoa_syntax.specs.declared.raw_item.RawItem.TheVariants as item
use Rattle.omega_hoa_syntax.specs.declared.raw_state.RawState.{RawState}
use Rattle.omega_hoa_automaton.specs.Faults.{are_out_of_range, count_above, greatest_of, has_state_out_of_range, is_out_of_range, item_bound, mentioned_count, passes, state_bound, state_count}
use Rattle.omega_hoa_automaton.specs.Items.{first_said, start_in, states_in}

-- if a number is not below a count, the greatest is not
numbers_bound : (count : ℕ) (numbers : List ℕ) → list_any (nat_le count) numbers ≡ true → count < count_above numbers
numbers_bound count [] some = absurd (cc)
numbers_bound count (n ∷ numbers) some =
    elim (or_cases (nat_le count n) (list_any (nat_le count) numbers) some) [
      | inl here ↦ omega (arith, leb-true count n here)
      | inr later ↦ omega (arith, numbers_bound count numbers later)
    ]

-- the same of states that are listed, at least one
listed_bound : (count : ℕ) (states : List ℕ) → IsConj states → are_out_of_range count states ≡ true → count < count_above states
listed_bound count [] some beyond = absurd (omega (arith, some))
listed_bound count (state ∷ states) some beyond = numbers_bound count (state ∷ states) beyond

-- if an element is beyond a count, what is given for it is greater, and so is the greatest of what is given
greatest_bound : {X : Type 0} (Valid : X → Type 0) (test : X → Bool) (given : X → ℕ) (count : ℕ) (xs : List X)
    → ((x : X) → Valid x → test x ≡ true → count < given x) → AllByRecursion Valid xs → list_any test xs ≡ true → count < greatest_of given xs
greatest_bound Valid test given count [] one valid some = absurd (cc)
greatest_bound Valid test given count (x ∷ xs) one valid some =
    elim (or_cases (test x) (list_any test xs) some) [
      | inl here ↦ omega (arith, one x valid.0 here)
      | inr later ↦ omega (arith, greatest_bound Valid test given count xs one valid.1 later)
    ]

item_beyond : (count : ℕ) (it : RawItem) → IsRawItem it → passes (are_out_of_range count) (start_in it) ≡ true → count < item_bound it
item_beyond count (item.States n) valid some = absurd (cc)
item_beyond count (item.Start states) valid some = listed_bound count states valid some
item_beyond count (item.Propositions n names) valid some = absurd (cc)
item_beyond count (item.Alias name body) valid some = absurd (cc)
item_beyond count (item.Acceptance n tree) valid some = absurd (cc)
item_beyond count (item.AccName name) valid some = absurd (cc)
item_beyond count (item.Tool first second) valid some = absurd (cc)
item_beyond count (item.Name bytes) valid some = absurd (cc)
item_beyond count (item.Properties words) valid some = absurd (cc)
item_beyond count (item.Unknown name values) valid some = absurd (cc)

state_beyond : (count : ℕ) (state : RawState) → IsRawState state → is_out_of_range count state ≡ true → count < state_bound state
state_beyond count state valid some =
    elim (or_cases (nat_le count state.number) (list_any (λ (edge : RawEdge). are_out_of_range count edge.targets) state.edges) some) [
      | inl here ↦ omega (arith, leb-true count state.number here)
      | inr later ↦
          let edges = greatest_bound IsRawEdge (λ (edge : RawEdge). are_out_of_range count edge.targets) (λ (edge : RawEdge). count_above edge.targets) count state.edges
          (λ edge conj beyond. listed_bound count edge.targets conj beyond) valid later in
          omega (arith, edges)
    ]

-- a state that is beyond the mentioned ones is the greatest number of a text
mentioned_is_most : (raw : RawAutomaton) → AllByRecursion IsRawItem raw.items → AllByRecursion IsRawState raw.states
    → list_any (λ (it : RawItem). passes (are_out_of_range (mentioned_count raw)) (start_in it)) raw.items ≡ true
    ⊎ (list_any (is_out_of_range (mentioned_count raw)) raw.states ≡ true)
    → mentioned_count raw ≡ most_number
unfolding mentioned_count
mentioned_is_most raw items states (inl started) =
    let beyond = greatest_bound IsRawItem (λ (it : RawItem). passes (are_out_of_range (mentioned_count raw)) (start_in it)) item_bound (mentioned_count raw) raw.items
    (item_beyond (mentioned_count raw)) items started in
    omega (arith, beyond)
mentioned_is_most raw items states (inr listed) =
    let beyond = greatest_bound IsRawState (is_out_of_range (mentioned_count raw)) state_bound (mentioned_count raw) raw.states
    (state_beyond (mentioned_count raw)) states listed in
    omega (arith, beyond)

-- without a stated count, an automaton that mentions a state beyond its count has the greatest number as its count
pub count_is : (raw : RawAutomaton) (stated : Option ℕ) → AllByRecursion IsRawItem raw.items → AllByRecursion IsRawState raw.states
    → has_state_out_of_range raw ≡ true → stated ≡ first_said states_in raw.items → unwrap_or stated most_number ≡ state_count raw
unfolding has_state_out_of_range
count_is raw (Some count) items states some said = ap (λ o. unwrap_or o (mentioned_count raw)) said
count_is raw None items states some said =
    let e : state_count raw ≡ mentioned_count raw = ap (λ o. unwrap_or o (mentioned_count raw)) (sym said) in
    let P : ℕ → Type 0 = λ count.
    (list_any (λ (it : RawItem). passes (are_out_of_range count) (start_in it)) raw.items || list_any (is_out_of_range count) raw.states) ≡ true in
    sym (e ∙ mentioned_is_most raw items states (or_cases _ _ (subst P e some)))
