-- The least of the faults that apply.
use Rattle.std.proofs.Common.{◌≡◌, ℕ, zero, suc, ◌<◌, ◌⊎◌, inl, inr, Bool, true, false, cond, List, [], ◌∷◌, length, get_or, Contains, Some, None, refl, ap, sym, ◌∙◌, arith, lit<}
use Rattle.std.specs.List.{find}
use Rattle.omega_text.specs.Refusal.{automaton_number}
use Rattle.omega_text.specs.declared.refusal.automaton.AutomatonFault.{AutomatonFault}
use Rattle.omega_text.specs.declared.refusal.automaton.AutomatonFault.TheVariants.{AcceptanceAtom, Alias, Expansion, ImplicitCount, MissingAcceptance, MixedLabels, Proposition, RepeatedHeader, SetRange, StateRange, StateTwice, TooDeep, UnknownHeader, Version}
use Rattle.omega_hoa_automaton.specs.Faults.{faults}

-- faults that have a lesser number each than all later ones
abbrev AreRising : List AutomatonFault → Type 0
AreRising [] = Unit {0}
AreRising (x ∷ xs) = ((m : AutomatonFault) → Contains xs m → automaton_number x < automaton_number m) × AreRising xs

-- what is at a place is the first item or a later one
at_place : (x : AutomatonFault) (xs : List AutomatonFault) (m : AutomatonFault) (k : ℕ) → k < length (x ∷ xs) → get_or (x ∷ xs) k m ≡ m → (x ≡ m) ⊎ Contains xs m
at_place x xs m zero within is = inl is
at_place x xs m (suc k) within is = inr (k, omega arith, is)

-- a fault that is there is the first or a later one
first_or_later : (x : AutomatonFault) (xs : List AutomatonFault) (m : AutomatonFault) → Contains (x ∷ xs) m → (x ≡ m) ⊎ Contains xs m
first_or_later x xs m has = at_place x xs m has.0 has.1 has.2

-- what is found passes, and what has a lesser number does not
abbrev IsLeast : (AutomatonFault → Bool) → List AutomatonFault → AutomatonFault → Type 0
IsLeast test xs fault =
    (test fault ≡ true) × ((other : AutomatonFault) → Contains xs other → automaton_number other < automaton_number fault → test other ≡ false)

-- the first passes
least_first : (test : AutomatonFault → Bool) (x : AutomatonFault) (xs : List AutomatonFault) (fault : AutomatonFault)
    → AreRising (x ∷ xs) → test x ≡ true → x ≡ fault → IsLeast test (x ∷ xs) fault
least_first test x xs fault rising passes is = (
  ap test (sym is) ∙ passes,
  λ other has below. elim (first_or_later x xs other has) [
    | inl same ↦ (let e : automaton_number other ≡ automaton_number fault = ap automaton_number (sym same ∙ is) in absurd (omega arith))
    | inr later ↦ (let e : automaton_number x ≡ automaton_number fault = ap automaton_number is in absurd (omega (arith, rising.0 other later)))
  ],
)

-- the first does not pass
least_later : (test : AutomatonFault → Bool) (x : AutomatonFault) (xs : List AutomatonFault) (fault : AutomatonFault)
    → test x ≡ false → IsLeast test xs fault → IsLeast test (x ∷ xs) fault
least_later test x xs fault fails least = (
  least.0,
  λ other has below. elim (first_or_later x xs other has)
      [ inl same ↦ ap test (sym same) ∙ fails | inr later ↦ least.1 other later below ],
)

-- what is found is the least that passes
found_least : (test : AutomatonFault → Bool) (xs : List AutomatonFault) (fault : AutomatonFault) → AreRising xs → find test xs ≡ Some fault → IsLeast test xs fault
found_least test [] fault rising found = absurd (none_some fault found)
  where
    none_some : (fault : AutomatonFault) → None ≡ Some fault → ⊥
    none_some fault e = cc
found_least test (x ∷ xs) fault rising found = by_test (test x) refl (found_least test xs fault rising.1) found
  where
    by_test : (b : Bool) → test x ≡ b → (find test xs ≡ Some fault → IsLeast test xs fault) → cond b (Some x) (find test xs) ≡ Some fault → IsLeast test (x ∷ xs) fault
    by_test true passes least e = least_first test x xs fault rising passes (let same : x ≡ fault = cc in same)
    by_test false fails least e = least_later test x xs fault fails (least e)

-- if nothing is found nothing passes
found_none : (test : AutomatonFault → Bool) (xs : List AutomatonFault) → find test xs ≡ None → (other : AutomatonFault) → Contains xs other → test other ≡ false
found_none test [] found other has = absurd (omega (arith, has.1))
found_none test (x ∷ xs) found other has = by_test (test x) refl (λ e h. found_none test xs e other h) found
  where
    by_test : (b : Bool) → test x ≡ b → (find test xs ≡ None → Contains xs other → test other ≡ false) → cond b (Some x) (find test xs) ≡ None → test other ≡ false
    by_test true passes none e = absurd (let no : ⊥ = cc in no)
    by_test false fails none e = elim (first_or_later x xs other has) [ inl same ↦ ap test (sym same) ∙ fails | inr later ↦ none e later ]

-- each fault is one of the faults
there : (fault : AutomatonFault) → Contains faults fault
there Version = (0, lit< tt, refl)
there RepeatedHeader = (1, lit< tt, refl)
there MissingAcceptance = (2, lit< tt, refl)
there UnknownHeader = (3, lit< tt, refl)
there StateRange = (4, lit< tt, refl)
there SetRange = (5, lit< tt, refl)
there Proposition = (6, lit< tt, refl)
there Alias = (7, lit< tt, refl)
there StateTwice = (8, lit< tt, refl)
there MixedLabels = (9, lit< tt, refl)
there ImplicitCount = (10, lit< tt, refl)
there AcceptanceAtom = (11, lit< tt, refl)
there TooDeep = (12, lit< tt, refl)
there Expansion = (13, lit< tt, refl)

-- the first of all faults is below the others, if the next is and the others are above the next
below_next : (x y : AutomatonFault) (ys : List AutomatonFault) → automaton_number x < automaton_number y → AreRising (y ∷ ys) → AreRising (x ∷ y ∷ ys)
below_next x y ys less rising = (
  (λ m has. elim (first_or_later y ys m has) [
    | inl same ↦ (let e : automaton_number y ≡ automaton_number m = ap automaton_number same in omega arith)
    | inr later ↦ omega (arith, rising.0 m later)
  ]),
  rising,
)

-- the last fault
last_rises : (x : AutomatonFault) → AreRising (x ∷ [])
last_rises x = ((λ m has. absurd (omega (arith, has.1))), tt)

-- the faults rise
faults_rise : AreRising faults
faults_rise =
    below_next Version RepeatedHeader (MissingAcceptance ∷ UnknownHeader ∷ StateRange ∷ SetRange ∷ Proposition ∷ Alias ∷ StateTwice ∷ MixedLabels ∷ ImplicitCount ∷ AcceptanceAtom ∷ TooDeep ∷ Expansion ∷ []) (lit< tt)
    (below_next RepeatedHeader MissingAcceptance (UnknownHeader ∷ StateRange ∷ SetRange ∷ Proposition ∷ Alias ∷ StateTwice ∷ MixedLabels ∷ ImplicitCount ∷ AcceptanceAtom ∷ TooDeep ∷ Expansion ∷ []) (lit< tt)
    (below_next MissingAcceptance UnknownHeader (StateRange ∷ SetRange ∷ Proposition ∷ Alias ∷ StateTwice ∷ MixedLabels ∷ ImplicitCount ∷ AcceptanceAtom ∷ TooDeep ∷ Expansion ∷ []) (lit< tt)
    (below_next UnknownHeader StateRange (SetRange ∷ Proposition ∷ Alias ∷ StateTwice ∷ MixedLabels ∷ ImplicitCount ∷ AcceptanceAtom ∷ TooDeep ∷ Expansion ∷ []) (lit< tt)
    (below_next StateRange SetRange (Proposition ∷ Alias ∷ StateTwice ∷ MixedLabels ∷ ImplicitCount ∷ AcceptanceAtom ∷ TooDeep ∷ Expansion ∷ []) (lit< tt)
    (below_next SetRange Proposition (Alias ∷ StateTwice ∷ MixedLabels ∷ ImplicitCount ∷ AcceptanceAtom ∷ TooDeep ∷ Expansion ∷ []) (lit< tt)
    (below_next Proposition Alias (StateTwice ∷ MixedLabels ∷ ImplicitCount ∷ AcceptanceAtom ∷ TooDeep ∷ Expansion ∷ []) (lit< tt)
    (below_next Alias StateTwice (MixedLabels ∷ ImplicitCount ∷ AcceptanceAtom ∷ TooDeep ∷ Expansion ∷ []) (lit< tt)
    (below_next StateTwice MixedLabels (ImplicitCount ∷ AcceptanceAtom ∷ TooDeep ∷ Expansion ∷ []) (lit< tt)
    (below_next MixedLabels ImplicitCount (AcceptanceAtom ∷ TooDeep ∷ Expansion ∷ []) (lit< tt)
    (below_next ImplicitCount AcceptanceAtom (TooDeep ∷ Expansion ∷ []) (lit< tt)
    (below_next AcceptanceAtom TooDeep (Expansion ∷ []) (lit< tt)
    (below_next TooDeep Expansion [] (lit< tt)
    (last_rises Expansion)))))))))))))

-- what is found among the faults is the least that passes
pub fault_is_least : (test : AutomatonFault → Bool) (fault : AutomatonFault) → find test faults ≡ Some fault
    → (test fault ≡ true) × ((other : AutomatonFault) → automaton_number other < automaton_number fault → test other ≡ false)
fault_is_least test fault found =
    let least = found_least test faults fault faults_rise found in
    (least.0, λ other below. least.1 other (there other) below)

-- if nothing is found among the faults none passes
pub no_fault_passes : (test : AutomatonFault → Bool) (other : AutomatonFault) → find test faults ≡ None → test other ≡ false
no_fault_passes test other found = found_none test faults found other (there other)
