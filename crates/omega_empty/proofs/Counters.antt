-- Round the counters: marks that bring a counter back hold every set exactly if the greatest of their priorities is
-- even.
use Rattle.std.proofs.Common.{◌≡◌, ◌≢◌, ◌↔◌, ℕ, ◌+◌, ◌%◌, ◌<◌, ◌≤◌, ◌⊎◌, inl, inr, true, false, eqb, List, [], ◌∷◌, length, map, All, sym, ap, refl, ◌∙◌, arith}
use Rattle.std.specs.Prelude.{IsTrue}
use Rattle.std.proofs.lemmas.Bool.{cases_Bool, cases_lt, cases_eq, both_ways, eq-eqb, ne_eqb, or_parts, true_from_ne_false}
use Rattle.omega_hoa_parity_kind.specs.Priority.{greatest_number, priority_of}
use Rattle.omega_hoa_parity_kind.specs.declared.kind.ParityKind.{ParityKind}
use Rattle.omega_hoa_acceptance.specs.Acceptance.{AccTree, accepts, holds, occurs}
use Rattle.omega_hoa_acceptance.specs.Kind.{buchi_formula, parity_formula}
use Rattle.omega_hoa_acceptance.specs.KindLaws.{BuchiIsEverySet, ParityIsPriority}
use Rattle.omega_hoa_acceptance.specs.declared.kind.AccKind.{AccKind}
use Rattle.omega_hoa_acceptance.specs.declared.kind.AccKind.TheVariants.{Parity, GenBuchi}
use Rattle.omega_empty.specs.Counters.{counter_after, counters, priority_at_counter}

-- the counter after marks, one after the other
abbrev pub counter_after_marks : AccKind → ℕ → List (List ℕ) → ℕ
counter_after_marks kind counter [] = counter
counter_after_marks kind counter (marks ∷ rest) = counter_after_marks kind (counter_after kind counter marks) rest

-- the priorities of marks, one after the other
abbrev pub priorities_from : AccKind → ℕ → List (List ℕ) → List ℕ
priorities_from kind counter [] = []
priorities_from kind counter (marks ∷ rest) =
    priority_at_counter kind counter marks ∷ priorities_from kind (counter_after kind counter marks) rest

-- what marks do at one of `sets` counters: the last goes round, another goes on, or it stays
pub data Turn (sets counter : ℕ) (marks : List ℕ) : Type 0 where
  round : holds counter marks ≡ true → counter + 1 ≡ sets → counter_after (GenBuchi sets) counter marks ≡ 0
      → priority_at_counter (GenBuchi sets) counter marks ≡ 2 → Turn sets counter marks
  on : holds counter marks ≡ true → counter + 1 ≢ sets → counter_after (GenBuchi sets) counter marks ≡ counter + 1
      → priority_at_counter (GenBuchi sets) counter marks ≡ 1 → Turn sets counter marks
  stays : holds counter marks ≡ false → counter_after (GenBuchi sets) counter marks ≡ counter
      → priority_at_counter (GenBuchi sets) counter marks ≡ 1 → Turn sets counter marks

-- one of them it does
turn : (sets counter : ℕ) (marks : List ℕ) → Turn sets counter marks
turn sets counter marks = go (cases_Bool (holds counter marks)) (cases_eq (counter + 1) sets)
  where
    go : (holds counter marks ≡ true) ⊎ (holds counter marks ≡ false) → (counter + 1 ≡ sets) ⊎ (counter + 1 ≡ sets → ⊥) → Turn sets counter marks
    go (inl held) (inl last) =
        let test : eqb (counter + 1) sets ≡ true = eq-eqb (counter + 1) sets last in round held last (rw (held, test) refl) (rw (held, test) refl)
    go (inl held) (inr before) =
        let test : eqb (counter + 1) sets ≡ false = ne_eqb (counter + 1) sets before in on held before (rw (held, test) refl) (rw (held, test) refl)
    go (inr lacked) last = stays lacked (rw lacked refl) (rw lacked refl)

-- the counters stay below their count
pub counter_after_below : (kind : AccKind) (counter : ℕ) (marks : List ℕ) → counter < counters kind → counter_after kind counter marks < counters kind
counter_after_below (Parity kind) counter marks below = below
counter_after_below (GenBuchi sets) counter marks below = go (turn sets counter marks)
  where
    go : Turn sets counter marks → counter_after (GenBuchi sets) counter marks < sets
    go (round held last after priority) = omega (arith, after)
    go (on held before after priority) = omega (arith, after)
    go (stays lacked after priority) = omega (arith, after)

pub counter_after_marks_below : (kind : AccKind) (counter : ℕ) (forever : List (List ℕ)) → counter < counters kind → counter_after_marks kind counter forever < counters kind
counter_after_marks_below kind counter [] below = below
counter_after_marks_below kind counter (marks ∷ rest) below =
    counter_after_marks_below kind (counter_after kind counter marks) rest (counter_after_below kind counter marks below)

-- if no marks hold a set, a counter up to it does not pass it, and one above it goes round at most once
data Waits (sets set counter : ℕ) (forever : List (List ℕ)) : Type 0 where
  below : counter ≤ set → counter_after_marks (GenBuchi sets) counter forever ≤ set
      → greatest_number (priorities_from (GenBuchi sets) counter forever) ≤ 1 → Waits sets set counter forever
  passed : set < counter → counter_after_marks (GenBuchi sets) counter forever ≤ set → Waits sets set counter forever
  above : set < counter → counter ≤ counter_after_marks (GenBuchi sets) counter forever
      → greatest_number (priorities_from (GenBuchi sets) counter forever) ≤ 1 → Waits sets set counter forever

waits : (sets set counter : ℕ) (forever : List (List ℕ)) → set < sets → counter < sets → occurs forever false set ≡ false
    → Waits sets set counter forever
waits sets set counter [] set_below counter_below lacked = go (cases_lt set counter)
  where
    go : (set < counter) ⊎ (counter ≤ set) → Waits sets set counter []
    go (inl less) = above less (omega arith) (omega arith)
    go (inr least) = below least least (omega arith)
waits sets set counter (marks ∷ rest) set_below counter_below lacked =
    let parts = or_parts (holds set marks) (occurs rest false set) lacked in
    go parts.0 (turn sets counter marks)
    (waits sets set (counter_after (GenBuchi sets) counter marks) rest set_below
    (counter_after_below (GenBuchi sets) counter marks counter_below) parts.1)
  where
    different : holds set marks ≡ false → holds counter marks ≡ true → set < counter_after (GenBuchi sets) counter marks
        → counter_after (GenBuchi sets) counter marks ≡ counter + 1 → set < counter
    different here held less after =
        elim (cases_eq set counter) [
          | inl same ↦ absurd (both_ways (holds set marks) here (ap (λ n. holds n marks) same ∙ held))
          | inr other ↦ omega arith
        ]

    go : holds set marks ≡ false → Turn sets counter marks → Waits sets set (counter_after (GenBuchi sets) counter marks) rest
        → Waits sets set counter (marks ∷ rest)
    go here (round held last after priority) (below least end most) =
        elim (cases_lt set counter) [
          | inl less ↦ passed less end
          | inr least' ↦ absurd (both_ways (holds set marks) here (let e : set ≡ counter = omega arith in ap (λ n. holds n marks) e ∙ held))
        ]
    go here (round held last after priority) (passed less end) = absurd (omega arith)
    go here (round held last after priority) (above less end most) = absurd (omega arith)
    go here (on held before after priority) (below least end most) =
        below (omega arith) end (omega arith)
    go here (on held before after priority) (passed less end) =
        passed (different here held less after) end
    go here (on held before after priority) (above less end most) =
        above (different here held less after) (omega arith) (omega arith)
    go here (stays lacks after priority) (below least end most) = below (omega arith) end (omega arith)
    go here (stays lacks after priority) (passed less end) = passed (omega arith) end
    go here (stays lacks after priority) (above less end most) = above (omega arith) (omega arith) (omega arith)

-- the counter goes round, or it goes on, or it is as before and its set is not held
data Goes (sets counter : ℕ) (forever : List (List ℕ)) : Type 0 where
  round : greatest_number (priorities_from (GenBuchi sets) counter forever) ≡ 2 → Goes sets counter forever
  on : counter < counter_after_marks (GenBuchi sets) counter forever → Goes sets counter forever
  rests : occurs forever false counter ≡ false → Goes sets counter forever

-- no priority is above 2
priorities_low : (sets counter : ℕ) (forever : List (List ℕ)) → greatest_number (priorities_from (GenBuchi sets) counter forever) ≤ 2
priorities_low sets counter [] = omega arith
priorities_low sets counter (marks ∷ rest) = go (turn sets counter marks) (priorities_low sets (counter_after (GenBuchi sets) counter marks) rest)
  where
    go : Turn sets counter marks → greatest_number (priorities_from (GenBuchi sets) (counter_after (GenBuchi sets) counter marks) rest) ≤ 2
        → greatest_number (priorities_from (GenBuchi sets) counter (marks ∷ rest)) ≤ 2
    go (round held last after priority) low = omega arith
    go (on held before after priority) low = omega arith
    go (stays lacks after priority) low = omega arith

-- each priority is at least 1
priorities_high : (sets counter : ℕ) (forever : List (List ℕ)) → 0 < length forever → 1 ≤ greatest_number (priorities_from (GenBuchi sets) counter forever)
priorities_high sets counter [] longer = absurd (omega arith)
priorities_high sets counter (marks ∷ rest) longer = go (turn sets counter marks)
  where
    go : Turn sets counter marks → 1 ≤ greatest_number (priorities_from (GenBuchi sets) counter (marks ∷ rest))
    go (round held last after priority) = omega arith
    go (on held before after priority) = omega arith
    go (stays lacks after priority) = omega arith

-- unless the counter goes round, it does not fall
rising : (sets counter : ℕ) (forever : List (List ℕ)) → (greatest_number (priorities_from (GenBuchi sets) counter forever) ≡ 2)
    ⊎ (counter ≤ counter_after_marks (GenBuchi sets) counter forever)
rising sets counter [] = inr (omega arith)
rising sets counter (marks ∷ rest) =
    go (turn sets counter marks) (rising sets (counter_after (GenBuchi sets) counter marks) rest)
    (priorities_low sets (counter_after (GenBuchi sets) counter marks) rest)
  where
    go : Turn sets counter marks
        → (greatest_number (priorities_from (GenBuchi sets) (counter_after (GenBuchi sets) counter marks) rest) ≡ 2)
        ⊎ (counter_after (GenBuchi sets) counter marks ≤ counter_after_marks (GenBuchi sets) (counter_after (GenBuchi sets) counter marks) rest)
        → greatest_number (priorities_from (GenBuchi sets) (counter_after (GenBuchi sets) counter marks) rest) ≤ 2
        → (greatest_number (priorities_from (GenBuchi sets) counter (marks ∷ rest)) ≡ 2) ⊎ (counter ≤ counter_after_marks (GenBuchi sets) counter (marks ∷ rest))
    go (round held last after priority) later low = inl (omega arith)
    go (on held before after priority) (inl went) low = inl (omega arith)
    go (on held before after priority) (inr rose) low = inr (omega arith)
    go (stays lacks after priority) (inl went) low = inl (omega arith)
    go (stays lacks after priority) (inr rose) low = inr (omega arith)

goes : (sets counter : ℕ) (forever : List (List ℕ)) → Goes sets counter forever
goes sets counter [] = rests refl
goes sets counter (marks ∷ rest) =
    go (turn sets counter marks) (goes sets (counter_after (GenBuchi sets) counter marks) rest)
    (priorities_low sets (counter_after (GenBuchi sets) counter marks) rest) (rising sets (counter_after (GenBuchi sets) counter marks) rest)
  where
    go : Turn sets counter marks → Goes sets (counter_after (GenBuchi sets) counter marks) rest
        → greatest_number (priorities_from (GenBuchi sets) (counter_after (GenBuchi sets) counter marks) rest) ≤ 2
        → (greatest_number (priorities_from (GenBuchi sets) (counter_after (GenBuchi sets) counter marks) rest) ≡ 2)
        ⊎ (counter_after (GenBuchi sets) counter marks ≤ counter_after_marks (GenBuchi sets) (counter_after (GenBuchi sets) counter marks) rest)
        → Goes sets counter (marks ∷ rest)
    go (round held last after priority) later low rises = round (omega arith)
    go (on held before after priority) later low (inl went) = round (omega arith)
    go (on held before after priority) later low (inr rose) = on (omega arith)
    go (stays lacks after priority) (round went) low rises = round (omega arith)
    go (stays lacks after priority) (on rose) low rises = on (omega arith)
    go (stays lacks after priority) (rests lacked) low rises = rests (rw lacks (ap (occurs rest false) (sym after) ∙ lacked))

-- marks that bring the counter back: if the greatest priority is even, each set occurs
every_set_occurs : (sets counter : ℕ) (forever : List (List ℕ)) → 0 < length forever → counter < sets
    → counter_after_marks (GenBuchi sets) counter forever ≡ counter → greatest_number (priorities_from (GenBuchi sets) counter forever) % 2 ≡ 0
    → (set : ℕ) → set < sets → occurs forever false set ≡ true
every_set_occurs sets counter forever longer counter_below back even set set_below =
    true_from_ne_false (occurs forever false set)
    (λ lacked. go (waits sets set counter forever set_below counter_below lacked) (priorities_high sets counter forever longer))
  where
    low : greatest_number (priorities_from (GenBuchi sets) counter forever) ≤ 1 → 1 ≤ greatest_number (priorities_from (GenBuchi sets) counter forever) → ⊥
    low most least =
        let one : greatest_number (priorities_from (GenBuchi sets) counter forever) ≡ 1 = omega arith in
        let odd : 1 % 2 ≡ 0 = ap (λ n. n % 2) (sym one) ∙ even in cc

    go : Waits sets set counter forever → 1 ≤ greatest_number (priorities_from (GenBuchi sets) counter forever) → ⊥
    go (below least end most) high = low most high
    go (passed less end) high = omega arith
    go (above less end most) high = low most high

-- and if each set occurs, the greatest priority is 2
goes_round : (sets counter : ℕ) (forever : List (List ℕ)) → counter_after_marks (GenBuchi sets) counter forever ≡ counter
    → occurs forever false counter ≡ true → greatest_number (priorities_from (GenBuchi sets) counter forever) % 2 ≡ 0
goes_round sets counter forever back held = go (goes sets counter forever)
  where
    go : Goes sets counter forever → greatest_number (priorities_from (GenBuchi sets) counter forever) % 2 ≡ 0
    go (round went) = ap (λ n. n % 2) went
    go (on rose) = absurd (omega arith)
    go (rests lacked) = absurd (both_ways (occurs forever false counter) lacked held)

-- for a parity kind the counter says nothing
parity_priorities : (kind : ParityKind) (counter : ℕ) (forever : List (List ℕ))
    → priorities_from (Parity kind) counter forever ≡ map (priority_of kind) forever
parity_priorities kind counter [] = refl
parity_priorities kind counter (marks ∷ rest) = ap (λ list. priority_of kind marks ∷ list) (parity_priorities kind counter rest)

-- the formula of a kind
abbrev pub formula_of : AccKind → AccTree
formula_of (Parity kind) = parity_formula kind
formula_of (GenBuchi sets) = buchi_formula sets

-- marks for which a kind has priorities
abbrev pub AreWithin : AccKind → List (List ℕ) → Type 0
AreWithin (Parity kind) forever = All (λ marks. All (λ mark. mark < kind.count) marks) forever
AreWithin (GenBuchi sets) forever = Unit {0}

-- marks that bring the counter back are accepted exactly if the greatest of their priorities is even
pub closed_accepts : ParityIsPriority → BuchiIsEverySet → (kind : AccKind) (counter : ℕ) (forever : List (List ℕ))
    → 0 < length forever → AreWithin kind forever → counter < counters kind → counter_after_marks kind counter forever ≡ counter
    → IsTrue (accepts forever (formula_of kind)) ↔ (greatest_number (priorities_from kind counter forever) % 2 ≡ 0)
closed_accepts parity buchi (Parity kind) counter forever longer within counter_below back =
    let law = parity kind forever longer within in
    let same = parity_priorities kind counter forever in
    (λ accepted. ap (λ list. greatest_number list % 2) same ∙ law.0 accepted, λ even. law.1 (ap (λ list. greatest_number list % 2) (sym same) ∙ even))
closed_accepts parity buchi (GenBuchi sets) counter forever longer within counter_below back =
    let law = buchi sets forever in (
      λ accepted. goes_round sets counter forever back (law.0 accepted counter counter_below),
      λ even. law.1 (every_set_occurs sets counter forever longer counter_below back even),
    )
