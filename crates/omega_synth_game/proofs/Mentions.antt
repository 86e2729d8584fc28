-- What lists of propositions mention, and that a label's truth rests on what it mentions.
use Rattle.std.proofs.Common.{◌≡◌, ◌==◌, ℕ, zero, suc, inl, inr, Bool, true, false, cond, not, ◌&&◌, ◌||◌, List, [], ◌∷◌, ◌++◌, Contains, sym, ap, refl, ◌∙◌, append_assoc, arith}
use Rattle.std.specs.Prelude.{filter}
use Rattle.std.specs.List.{flat_map, list_any}
use Rattle.std.proofs.lemmas.Bool.{cond_both, eq-eqb, eqb-true, false≢true, or_cases, or_from, or_left, or_parts, or_right}
use Rattle.std.proofs.lemmas.List.Folds.{list_any-append}
use Rattle.omega_hoa_label.specs.Label.{LabelTree, conjunction, constant, disjunction, negation, proposition, propositions, truth}
use Rattle.omega_hoa_satisfiable.specs.Satisfiable.{each_once}

abbrev pub among : ℕ → List ℕ → Bool
among number numbers = list_any (λ other. other == number) numbers

pub among-left : (number : ℕ) (left right : List ℕ) → among number left ≡ true → among number (left ++ right) ≡ true
among-left number [] right is = absurd (false≢true is)
among-left number (next ∷ left) right is = elim (or_cases (next == number) (among number left) is) [
  | inl here ↦ or_left (next == number) (among number (left ++ right)) here
  | inr there ↦ or_right (next == number) (among number (left ++ right)) (among-left number left right there)
]

pub among-right : (number : ℕ) (left right : List ℕ) → among number right ≡ true → among number (left ++ right) ≡ true
among-right number [] right is = is
among-right number (next ∷ left) right is = or_right (next == number) (among number (left ++ right)) (among-right number left right is)

-- a label's truth rests on its propositions alone
pub truth_agrees : (one other : ℕ → Bool) (tree : LabelTree) → ((number : ℕ) → among number (propositions tree) ≡ true → one number ≡ other number)
    → truth one tree ≡ truth other tree
truth_agrees one other (constant value) agree = refl
truth_agrees one other (proposition number) agree = agree number (or_left (number == number) false (eq-eqb number number refl))
truth_agrees one other (negation part) agree = ap not (truth_agrees one other part agree)
truth_agrees one other (conjunction left right) agree =
    ap (λ b. b && truth one right) (truth_agrees one other left (λ number is. agree number (among-left number (propositions left) (propositions right) is)))
    ∙ ap (λ b. truth other left && b) (truth_agrees one other right (λ number is. agree number (among-right number (propositions left) (propositions right) is)))
truth_agrees one other (disjunction left right) agree =
    ap (λ b. b || truth one right) (truth_agrees one other left (λ number is. agree number (among-left number (propositions left) (propositions right) is)))
    ∙ ap (λ b. truth other left || b) (truth_agrees one other right (λ number is. agree number (among-right number (propositions left) (propositions right) is)))

-- what is seen stays, and each number of a list is kept
pub seen_kept : (number : ℕ) (seen rest : List ℕ) → among number seen ≡ true → among number (each_once seen rest) ≡ true
seen_kept number seen [] is = is
seen_kept number seen (next ∷ rest) is =
    seen_kept number (cond (among next seen) seen (seen ++ next ∷ [])) rest
    (cond_both (among next seen) seen (seen ++ next ∷ []) (λ numbers. among number numbers ≡ true) (λ old. is) (λ new. among-left number seen (next ∷ []) is))

pub each_kept : (number : ℕ) (seen rest : List ℕ) → among number rest ≡ true → among number (each_once seen rest) ≡ true
each_kept number seen [] is = absurd (false≢true is)
each_kept number seen (next ∷ rest) is = elim (or_cases (next == number) (among number rest) is) [
  | inl here ↦
      seen_kept number (cond (among next seen) seen (seen ++ next ∷ [])) rest
      (cond_both (among next seen) seen (seen ++ next ∷ []) (λ numbers. among number numbers ≡ true)
      (λ old. ap (λ n. among n seen) (sym (eqb-true next number here)) ∙ old)
      (λ new. among-right number seen (next ∷ []) (or_left (next == number) false here)))
  | inr there ↦ each_kept number (cond (among next seen) seen (seen ++ next ∷ [])) rest there
]

-- what is in neither list is not kept
pub none_once : (number : ℕ) (seen rest : List ℕ) → among number seen ≡ false → among number rest ≡ false → among number (each_once seen rest) ≡ false
none_once number seen [] old new = old
none_once number seen (next ∷ rest) old new =
    let parts = or_parts (next == number) (among number rest) new in
    none_once number (cond (among next seen) seen (seen ++ next ∷ [])) rest
    (cond_both (among next seen) seen (seen ++ next ∷ []) (λ numbers. among number numbers ≡ false) (λ there. old)
    (λ more. list_any-append (λ other. other == number) seen (next ∷ [])
    ∙ or_from (among number seen) (among number (next ∷ [])) old (or_from (next == number) false parts.0 refl)))
    parts.1

-- numbers that are not among some come behind them
pub once_behind : (front seen rest : List ℕ) → ((number : ℕ) → among number rest ≡ true → among number front ≡ false)
    → each_once (front ++ seen) rest ≡ front ++ each_once seen rest
once_behind front seen [] off = refl
once_behind front seen (next ∷ rest) off =
    let new : among next front ≡ false = off next (or_left (next == next) (among next rest) (eq-eqb next next refl)) in
    let same : among next (front ++ seen) ≡ among next seen =
    list_any-append (λ other. other == next) front seen ∙ ap (λ b. b || among next seen) new in
    ap (λ list. each_once list rest) (ap (λ b. cond b (front ++ seen) ((front ++ seen) ++ next ∷ [])) same ∙ behind (among next seen))
    ∙ once_behind front (cond (among next seen) seen (seen ++ next ∷ [])) rest (λ number is. off number (or_right (next == number) (among number rest) is))
  where
    behind : (b : Bool) → cond b (front ++ seen) ((front ++ seen) ++ next ∷ []) ≡ front ++ cond b seen (seen ++ next ∷ [])
    behind true = refl
    behind false = append_assoc front seen (next ∷ [])

-- what fails a test is not among those that pass, and what passes it is
pub none_passing : (test : ℕ → Bool) (number : ℕ) (numbers : List ℕ) → test number ≡ false → among number (filter test numbers) ≡ false
none_passing test number [] fails = refl
none_passing test number (x ∷ xs) fails = step (test x) (x == number) refl refl (none_passing test number xs fails)
  where
    step : (b same : Bool) → test x ≡ b → (x == number) ≡ same → among number (filter test xs) ≡ false
        → among number (cond b (x ∷ filter test xs) (filter test xs)) ≡ false
    step false same passes_is same_is rest = rest
    step true true passes_is same_is rest = absurd (false≢true (sym fails ∙ ap test (sym (eqb-true x number same_is)) ∙ passes_is))
    step true false passes_is same_is rest = ap (λ b. b || among number (filter test xs)) same_is ∙ rest

pub passing : (test : ℕ → Bool) (number : ℕ) (numbers : List ℕ) → among number numbers ≡ true → among number (filter test numbers) ≡ test number
passing test number [] is = absurd (false≢true is)
passing test number (next ∷ rest) is =
    go (next == number) (test next) refl refl (λ later. passing test number rest later) (λ fails. none_passing test number rest fails)
  where
    go : (same passes : Bool) → (next == number) ≡ same → test next ≡ passes
        → (among number rest ≡ true → among number (filter test rest) ≡ test number)
        → (test number ≡ false → among number (filter test rest) ≡ false)
        → among number (cond (test next) (next ∷ filter test rest) (filter test rest)) ≡ test number
    go true true same_is passes_is later none =
        ap (λ b. among number (cond b (next ∷ filter test rest) (filter test rest))) passes_is
        ∙ or_left (next == number) (among number (filter test rest)) same_is ∙ sym passes_is ∙ ap test (eqb-true next number same_is)
    go true false same_is passes_is later none =
        let fails : test number ≡ false = ap test (sym (eqb-true next number same_is)) ∙ passes_is in
        ap (λ b. among number (cond b (next ∷ filter test rest) (filter test rest))) passes_is ∙ none fails ∙ sym fails
    go false true same_is passes_is later none =
        ap (λ b. among number (cond b (next ∷ filter test rest) (filter test rest))) passes_is
        ∙ ap (λ b. b || among number (filter test rest)) same_is ∙ later (sym (ap (λ b. b || among number rest) same_is) ∙ is)
    go false false same_is passes_is later none =
        ap (λ b. among number (cond b (next ∷ filter test rest) (filter test rest))) passes_is
        ∙ later (sym (ap (λ b. b || among number rest) same_is) ∙ is)

pub among_flat : (f : ℕ → List ℕ) (numbers : List ℕ) (number p : ℕ) → Contains numbers number → among p (f number) ≡ true
    → among p (flat_map f numbers) ≡ true
among_flat f [] number p has is = absurd (omega (arith, has.1))
among_flat f (x ∷ xs) number p (zero, below, here) is =
    among-left p (f x) (flat_map f xs) (ap (λ n. among p (f n)) here ∙ is)
among_flat f (x ∷ xs) number p (suc k, below, here) is =
    among-right p (f x) (flat_map f xs) (among_flat f xs number p (k, omega arith, here) is)
