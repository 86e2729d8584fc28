-- Where something comes twice, the first that does is found.
use Rattle.std.proofs.Common.{◌≡◌, Bool, true, false, ◌||◌, cond, nat_eq, Option, Some, None, is_some, List, [], ◌∷◌, ◌++◌, append_assoc, map, refl, sym, ◌∙◌, subst}
use Rattle.std.specs.List.{list_any}
use Rattle.std.proofs.lemmas.Bool.{false≢true}
use Rattle.omega_hoa_syntax.specs.declared.raw_automaton.RawAutomaton.{RawAutomaton}
use Rattle.omega_hoa_syntax.specs.declared.raw_state.RawState.{RawState}
use Rattle.omega_hoa_automaton.specs.Automaton.{has_repeat}
use Rattle.omega_hoa_automaton.specs.Faults.{has_state_twice}
use Rattle.omega_hoa_diagnostics.specs.Finding.{first_repeat}
use Rattle.omega_hoa_diagnostics.specs.States.{first_state_twice}

-- neither of two tests holds
pub neither : (a b : Bool) → (a || b) ≡ false → (a ≡ false) × (b ≡ false)
neither true b h = absurd (false≢true (sym h))
neither false b h = (refl, h)

pub either_fails : (a b : Bool) → a ≡ false → b ≡ false → (a || b) ≡ false
either_fails true b first second = absurd (false≢true (sym first))
either_fails false b first second = second

-- what is found where a test holds was not found: the test fails, and nothing is found later
pub not_found : {X : Type 0} (b : Bool) (x : X) (later : Option X) → cond b (Some x) later ≡ None → (b ≡ false) × (later ≡ None)
not_found true x later e = absurd (cc)
not_found false x later e = (refl, e)

-- a test that no element passes fails in the middle
pub middle_fails : {X : Type 0} (test : X → Bool) (front : List X) (x : X) (back : List X) → list_any test (front ++ x ∷ back) ≡ false → test x ≡ false
middle_fails test [] x back none = (neither (test x) (list_any test back) none).0
middle_fails test (y ∷ front) x back none = middle_fails test front x back (neither (test y) (list_any test (front ++ x ∷ back)) none).1

-- without a repeat no element is the same as one that was before
unlike : {X : Type 0} (same : X → X → Bool) (front : List X) (x : X) (back xs : List X) → first_repeat same (front ++ x ∷ back) xs ≡ None
    → list_any (λ (later : X). same later x) xs ≡ false
unlike {X = X} same front x back [] none = refl
unlike {X = X} same front x back (y ∷ xs) none =
    let first = not_found (list_any (same y) (front ++ x ∷ back)) y (first_repeat same ((front ++ x ∷ back) ++ y ∷ []) xs) none in
    let more = subst (λ before. first_repeat same before xs ≡ None) (append_assoc front (x ∷ back) (y ∷ [])) first.1 in
    either_fails (same y x) (list_any (λ (later : X). same later x) xs) (middle_fails (same y) front x back first.0) (unlike same front x (back ++ y ∷ []) xs more)

-- if no repeat is found there is none
pub none_repeats : {X : Type 0} (same : X → X → Bool) (before xs : List X) → first_repeat same before xs ≡ None → has_repeat same xs ≡ false
none_repeats {X = X} same before [] none = refl
none_repeats {X = X} same before (x ∷ xs) none =
    let first = not_found (list_any (same x) before) x (first_repeat same (before ++ x ∷ []) xs) none in
    either_fails (list_any (λ (later : X). same later x) xs) (has_repeat same xs) (unlike same before x [] xs first.1) (none_repeats same (before ++ x ∷ []) xs first.1)

-- what is not none is there
pub is_there : {X : Type 0} (o : Option X) → (o ≡ None → ⊥) → is_some o ≡ true
is_there None there = absurd (there refl)
is_there (Some x) there = refl

-- a number that comes twice is found
pub twice_is_found : (raw : RawAutomaton) → has_state_twice raw ≡ true → is_some (first_state_twice raw.states) ≡ true
unfolding has_state_twice
twice_is_found raw twice =
    is_there (first_state_twice raw.states)
    (λ none. false≢true (sym (none_repeats nat_eq [] (map (λ (state : RawState). state.number) raw.states) none) ∙ twice))
