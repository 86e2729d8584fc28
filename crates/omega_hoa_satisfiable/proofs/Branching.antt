-- The open branches of a search: the assumptions, and the pending branches.
use Rattle.std.proofs.Common.{◌≡◌, ℕ, Bool, true, false, not, ◌&&◌, ◌||◌, cond, nat_eq, List, [], ◌∷◌, ◌++◌, Option, Some, None, take, inl, inr, ap, refl, subst, sym, ◌∙◌, arith, eq-eqb, length-append}
use Rattle.std.proofs.Math.Bool.{beq}
use Rattle.std.proofs.lemmas.Bool.Decides.{eqb_tells}
use Rattle.std.proofs.lemmas.List.{take-append-le}
use Rattle.std.specs.Cmp.{first_so, second_so}
use Rattle.std.specs.List.{AllByRecursion, IsDistinct}
use Rattle.std.specs.Map.{keys_of, lookup}
use Rattle.omega_hoa_satisfiable.specs.declared.branches.Later.{Later}
use Rattle.omega_hoa_satisfiable.specs.private.Leading.{is_as}
use Rattle.omega_hoa_satisfiable.specs.private.Pending.{IsFree, IsPending, fits, fits_one, pending_lead}

and-true : (holds : Bool) → (holds && true) ≡ holds
and-true true = refl
and-true false = refl

and-assoc : (one other third : Bool) → (one && (other && third)) ≡ ((one && other) && third)
and-assoc true other third = refl
and-assoc false other third = refl

-- one more assumption
pub fits-more : (held : ℕ → Bool) (assumed : List (ℕ × Bool)) (proposition : ℕ) (value : Bool)
    → fits held (assumed ++ (proposition, value) ∷ []) ≡ (fits held assumed && is_as value (held proposition))
fits-more held [] proposition value = and-true (is_as value (held proposition))
fits-more held (one ∷ rest) proposition value =
    ap (λ others. is_as one.1 (held one.0) && others) (fits-more held rest proposition value)
    ∙ and-assoc (is_as one.1 (held one.0)) (fits held rest) (is_as value (held proposition))

-- branches stay pending under more assumptions
pub IsPending-more : (assumed more : List (ℕ × Bool)) (later : List Later) → IsPending assumed later → IsPending (assumed ++ more) later
IsPending-more assumed more [] is = tt
IsPending-more assumed more (next ∷ rest) is =
    let same : take next.count (assumed ++ more) ≡ take next.count assumed = take-append-le next.count assumed more is.0 in (
      omega (arith, is.0, length-append assumed more),
      subst (λ front. IsFree front next.extra) (sym same) is.1,
      subst (λ front. IsPending front rest) (sym same) is.2,
    )

pending_lead-more : (held onward : ℕ → Bool) (assumed more : List (ℕ × Bool)) (later : List Later) → IsPending assumed later
    → pending_lead held onward (assumed ++ more) later ≡ pending_lead held onward assumed later
pending_lead-more held onward assumed more [] is = refl
pending_lead-more held onward assumed more (next ∷ rest) is =
    ap (λ front. ((fits held front && fits_one held next.extra) && onward next.place) || pending_lead held onward front rest)
    (take-append-le next.count assumed more is.0)

-- what all branches do once one more value is assumed
pub assumed-more : (held onward : ℕ → Bool) (now : Bool) (assumed : List (ℕ × Bool)) (proposition : ℕ) (value : Bool) (later : List Later) → IsPending assumed later
    → ((fits held (assumed ++ (proposition, value) ∷ []) && now) || pending_lead held onward (assumed ++ (proposition, value) ∷ []) later)
    ≡ ((fits held assumed && (is_as value (held proposition) && now)) || pending_lead held onward assumed later)
assumed-more held onward now assumed proposition value later is =
    (λ i. (fits-more held assumed proposition value i && now) || pending_lead-more held onward assumed ((proposition, value) ∷ []) later is i)
    ∙ ap (λ front. front || pending_lead held onward assumed later) (sym (and-assoc (fits held assumed) (is_as value (held proposition)) now))

deferred-once : (fitting now more place others : Bool)
    → ((fitting && now) || (((fitting && more) && place) || others)) ≡ ((fitting && (now || (more && place))) || others)
deferred-once true true more place others = refl
deferred-once true false more place others = refl
deferred-once false now more place others = refl

-- what all branches do once one is added
pub pending-more : (held onward : ℕ → Bool) (now : Bool) (assumed front : List (ℕ × Bool)) (place : ℕ) (extra : Option (ℕ × Bool)) (later : List Later) → front ≡ assumed
    → ((fits held assumed && now) || (((fits held front && fits_one held extra) && onward place) || pending_lead held onward front later))
    ≡ ((fits held assumed && (now || (fits_one held extra && onward place))) || pending_lead held onward assumed later)
pending-more held onward now assumed front place extra later same =
    ap (λ some. (fits held assumed && now) || (((fits held some && fits_one held extra) && onward place) || pending_lead held onward some later)) same
    ∙ deferred-once (fits held assumed) now (fits_one held extra) (onward place) (pending_lead held onward assumed later)

-- what all branches do once the search backtracks
pub resumed : (fitting front more place others : Bool)
    → ((front && (more && place)) || others) ≡ ((fitting && false) || (((front && more) && place) || others))
resumed true true more place others = refl
resumed true false more place others = refl
resumed false true more place others = refl
resumed false false more place others = refl

-- nothing is left where the last branch fails
pub nothing-left : (fitting : Bool) → ((fitting && false) || false) ≡ false
nothing-left true = refl
nothing-left false = refl

-- a value that is assumed
fits-value : (held : ℕ → Bool) (assumed : List (ℕ × Bool)) (proposition : ℕ) (value : Bool)
    → lookup (nat_eq proposition) assumed ≡ Some value → fits held assumed ≡ true → is_as value (held proposition) ≡ true
fits-value held [] proposition value found fit = cc
fits-value held (one ∷ rest) proposition value found fit =
    let first : is_as one.1 (held one.0) ≡ true = first_so (is_as one.1 (held one.0)) (fits held rest) fit in
    let others : fits held rest ≡ true = second_so (is_as one.1 (held one.0)) (fits held rest) fit in
    elim (eqb_tells proposition one.0) [
      | inl reported ↦
          let is : Some one.1 ≡ Some value = sym (ap (λ here. cond here (Some one.1) (lookup (nat_eq proposition) rest)) reported.0) ∙ found in
          let at : proposition ≡ one.0 = reported.1 in
          let same : one.1 ≡ value = cc in
          subst (λ v. is_as v (held proposition) ≡ true) same (subst (λ p. is_as one.1 (held p) ≡ true) (sym at) first)
      | inr reported ↦
          fits-value held rest proposition value
          (sym (ap (λ here. cond here (Some one.1) (lookup (nat_eq proposition) rest)) reported.0) ∙ found) others
    ]

where-fitting : (fitting one other others : Bool) → (fitting ≡ true → one ≡ other) → ((fitting && one) || others) ≡ ((fitting && other) || others)
where-fitting true one other others same = ap (λ now. now || others) (same refl)
where-fitting false one other others same = refl

as-both : (sign value truth : Bool) → is_as value truth ≡ true → is_as sign truth ≡ is_as sign value
as-both sign true true is = refl
as-both sign false false is = refl
as-both sign true false is = cc
as-both sign false true is = cc

-- a value that is another one than wanted, or the same
pub as-another : (sign value : Bool) → not (beq value sign) ≡ true → is_as sign value ≡ false
as-another true true apart = cc
as-another true false apart = refl
as-another false true apart = refl
as-another false false apart = cc

pub as-same : (sign value : Bool) → not (beq value sign) ≡ false → is_as sign value ≡ true
as-same true true same = refl
as-same true false same = cc
as-same false true same = cc
as-same false false same = refl

-- a literal that fails under what is assumed
pub fails-now : (held onward : ℕ → Bool) (assumed : List (ℕ × Bool)) (later : List Later) (proposition : ℕ) (sign value : Bool) (next otherwise : ℕ)
    → lookup (nat_eq proposition) assumed ≡ Some value → is_as sign value ≡ false
    → ((fits held assumed && onward otherwise) || pending_lead held onward assumed later)
    ≡ ((fits held assumed && ((is_as sign (held proposition) && onward next) || onward otherwise)) || pending_lead held onward assumed later)
fails-now held onward assumed later proposition sign value next otherwise found not_so =
    where-fitting (fits held assumed) (onward otherwise) ((is_as sign (held proposition) && onward next) || onward otherwise) (pending_lead held onward assumed later)
    (λ fit.
    let no : is_as sign (held proposition) ≡ false =
    as-both sign value (held proposition) (fits-value held assumed proposition value found fit) ∙ not_so in
    ap (λ here. (here && onward next) || onward otherwise) (sym no))

-- a literal that holds under what is assumed
pub holds-now : (held onward : ℕ → Bool) (assumed : List (ℕ × Bool)) (later : List Later) (proposition : ℕ) (sign value : Bool) (next otherwise : ℕ)
    → lookup (nat_eq proposition) assumed ≡ Some value → is_as sign value ≡ true
    → ((fits held assumed && (onward next || onward otherwise)) || pending_lead held onward assumed later)
    ≡ ((fits held assumed && ((is_as sign (held proposition) && onward next) || onward otherwise)) || pending_lead held onward assumed later)
holds-now held onward assumed later proposition sign value next otherwise found so =
    where-fitting (fits held assumed) (onward next || onward otherwise) ((is_as sign (held proposition) && onward next) || onward otherwise) (pending_lead held onward assumed later)
    (λ fit.
    let yes : is_as sign (held proposition) ≡ true =
    as-both sign value (held proposition) (fits-value held assumed proposition value found fit) ∙ so in
    ap (λ here. (here && onward next) || onward otherwise) (sym yes))

-- what leads on from elsewhere also does from the next place
pub whole-now : (next otherwise : Bool) → (otherwise ≡ true → next ≡ true) → next ≡ (next || otherwise)
whole-now true otherwise whole = refl
whole-now false true whole = whole refl
whole-now false false whole = refl

-- a literal that is tried, and elsewhere need not hold
pub tried-whole : (sign truth next otherwise : Bool) → (otherwise ≡ true → next ≡ true)
    → ((is_as sign truth && next) || (is_as (not sign) truth && otherwise)) ≡ ((is_as sign truth && next) || otherwise)
tried-whole true true true otherwise whole = refl
tried-whole true true false true whole = whole refl
tried-whole true true false false whole = refl
tried-whole true false next otherwise whole = refl
tried-whole false false true otherwise whole = refl
tried-whole false false false true whole = whole refl
tried-whole false false false false whole = refl
tried-whole false true next otherwise whole = refl

-- the value of a proposition that is found or not
abbrev value_of : Option Bool → Bool
value_of None = false
value_of (Some value) = value

-- the valuation of what is assumed
abbrev pub valuation : List (ℕ × Bool) → ℕ → Bool
valuation assumed proposition = value_of (lookup (nat_eq proposition) assumed)

absent : (key : ℕ) (assumed : List (ℕ × Bool)) → AllByRecursion (λ other. nat_eq key other ≡ false) (keys_of assumed) → lookup (nat_eq key) assumed ≡ None
absent key [] all = refl
absent key (one ∷ rest) all =
    ap (λ here. cond here (Some one.1) (lookup (nat_eq key) rest)) all.0 ∙ absent key rest all.1

as-itself : (value truth : Bool) → truth ≡ value → is_as value truth ≡ true
as-itself true truth same = same
as-itself false truth same = ap not same

has-all : (held : ℕ → Bool) (assumed : List (ℕ × Bool)) → IsDistinct nat_eq (keys_of assumed)
    → ((key : ℕ) (value : Bool) → lookup (nat_eq key) assumed ≡ Some value → held key ≡ value) → fits held assumed ≡ true
unfolding IsDistinct
has-all held [] distinct has = refl
has-all held (one ∷ rest) distinct has =
    let first : is_as one.1 (held one.0) ≡ true =
    as-itself one.1 (held one.0)
    (has one.0 one.1 (ap (λ here. cond here (Some one.1) (lookup (nat_eq one.0) rest)) (eq-eqb one.0 one.0 refl))) in
    let others : fits held rest ≡ true =
    has-all held rest distinct.1
    (λ key value found.
    elim (eqb_tells key one.0) [
      | inl reported ↦
          let none : lookup (nat_eq key) rest ≡ None = ap (λ k. lookup (nat_eq k) rest) reported.1 ∙ absent one.0 rest distinct.0 in
          let no : Some value ≡ None = sym found ∙ none in
          cc
      | inr reported ↦ has key value (ap (λ here. cond here (Some one.1) (lookup (nat_eq key) rest)) reported.0 ∙ found)
    ]) in
    λ i. first i && others i

-- it has what is assumed
pub fits-valuation : (assumed : List (ℕ × Bool)) → IsDistinct nat_eq (keys_of assumed) → fits (valuation assumed) assumed ≡ true
fits-valuation assumed distinct = has-all (valuation assumed) assumed distinct (λ key value found. ap value_of found)
