-- The lanes of words in which literals hold, and what they say of a label that is a conjunction of them.
use Rattle.std.proofs.Common.{◌≡◌, ◌==◌, inl, inr, ℕ, ◌+◌, ◌-◌, ◌*◌, ◌/◌, ◌%◌, ◌^◌, ◌<◌, ◌≤◌, Bool, true, false, ap, arith, bit_and, bit_xor, eq-eqb, eqb, eqb-true, min, refl, subst, sym, ◌∙◌, w64}
use Rattle.std.specs.Int.{bit_at, bit_not}
use Rattle.std.proofs.lemmas.Bool.{cases_Bool, cases_lt, cond-false, cond-true, false≢true}
use Rattle.std.proofs.lemmas.Nat.{and_le_l, shr-shr}
use Rattle.std.proofs.lemmas.Nat.Bits.{bit_at-lt, bit_at_above, bit_at_and, bit_at_cat_high, bit_at_cat_low, bit_at_not, bit_at_ones, bit_at_xor}
use Rattle.omega_hoa_label.specs.Label.{LabelTree, truth}
use Rattle.omega_hoa_satisfiable.specs.Literals.{AreLiteralsOf, FailAt, HoldAt}
use Rattle.omega_hoa_satisfiable.specs.Tables.{MentionsLow, valuation}
use Rattle.omega_hoa_satisfiable.specs.declared.literals.Literals.{Literals}
use Rattle.omega_hoa_satisfiable.specs.private.LiteralLanes.{AgreeAt, AreAgreeing, hold_in, lanes_if, lanes_in}
use Rattle.omega_hoa_satisfiable.specs.private.ReadCubes.{AreMetAt}
use Rattle.omega_hoa_satisfiable.specs.private.Words.{mask, ones}
use Rattle.omega_hoa_satisfiable.proofs.TruthTables.{both-true, true-both}
use Rattle.omega_hoa_satisfiable.proofs.Valuations.{mask-bit}
use Rattle.omega_hoa_satisfiable.proofs.WideTables.{AreTruths}
use Rattle.omega_hoa_satisfiable.proofs.WordLemmas.{lane-off, lane-on, on-and}

-- ---- bits

all-on : (lane : ℕ) → lane < 64 → valuation ones lane ≡ true
all-on lane within = ap (λ bit. eqb bit 1) (bit_at_ones 64 lane within)

-- a bit that is not set is 0
off : (word p : ℕ) → valuation word p ≡ false → bit_at word p ≡ 0
off word p is = elim (cases_lt (bit_at word p) 1) [
  | inl less ↦ omega (arith, less)
  | inr more ↦ absurd (false≢true (sym is ∙ eq-eqb (bit_at word p) 1 (omega (arith, more, bit_at-lt word p))))
]

unset : (word p : ℕ) → bit_at word p ≡ 0 → valuation word p ≡ false
unset word p is = ap (λ bit. eqb bit 1) is

-- a bit of the complement of a mask
other-bit : (word lane : ℕ) → lane < 64 → bit_at (bit_xor word ones) lane ≡ (bit_at word lane + 1) % 2
other-bit word lane within = bit_at_xor word ones lane ∙ ap (λ bit. (bit_at word lane + bit) % 2) (bit_at_ones 64 lane within)

-- ---- the first six propositions

-- lanes that are limited by a literal that may be there
limited : (bits p word lane : ℕ) → lane < 64 → valuation (lanes_if bits p word) lane ≡ true → valuation bits p ≡ true → valuation word lane ≡ true
limited bits p word lane within is set = sym (ap (λ w. valuation w lane) (cond-true (valuation bits p) word ones set)) ∙ is

unlimited : (bits p word lane : ℕ) → lane < 64 → (valuation bits p ≡ true → valuation word lane ≡ true) → valuation (lanes_if bits p word) lane ≡ true
unlimited bits p word lane within is = elim (cases_Bool (valuation bits p)) [
  | inl set ↦ ap (λ w. valuation w lane) (cond-true (valuation bits p) word ones set) ∙ is set
  | inr none ↦ ap (λ w. valuation w lane) (cond-false (valuation bits p) word ones none) ∙ all-on lane within
]

-- the literals of one proposition more
pub agree-more : (literals : Literals) (p lanes : ℕ) → p < 6 → AreAgreeing literals p lanes
    → AreAgreeing literals (p + 1) (bit_and lanes (bit_and (lanes_if literals.held p (mask p)) (lanes_if literals.unheld p (bit_xor (mask p) ones))))
agree-more literals p lanes low are = record { only = only; all = all }
  where
    held : ℕ
    held = lanes_if literals.held p (mask p)

    unheld : ℕ
    unheld = lanes_if literals.unheld p (bit_xor (mask p) ones)

    only : (lane : ℕ) → lane < 64 → valuation (bit_and lanes (bit_and held unheld)) lane ≡ true → AgreeAt literals (p + 1) lane
    only lane within is =
        let first = both-true (valuation lanes lane) (valuation (bit_and held unheld) lane) (sym (on-and lanes (bit_and held unheld) lane) ∙ is) in
        let second = both-true (valuation held lane) (valuation unheld lane) (sym (on-and held unheld lane) ∙ first.1) in
        let before = are.only lane within first.0 in
        record {
          held = λ q below set. elim (cases_lt q p) [
            | inl less ↦ before.held q less set
            | inr past ↦
                let same : p ≡ q = omega (arith, past, below) in
                subst (λ at. valuation lane at ≡ true) same
                (sym (mask-bit p lane low within)
                ∙ limited literals.held p (mask p) lane within second.0 (subst (λ at. valuation literals.held at ≡ true) (sym same) set))
          ];
          unheld = λ q below set. elim (cases_lt q p) [
            | inl less ↦ before.unheld q less set
            | inr past ↦
                let same : p ≡ q = omega (arith, past, below) in
                let other = limited literals.unheld p (bit_xor (mask p) ones) lane within second.1 (subst (λ at. valuation literals.unheld at ≡ true) (sym same) set) in
                let none : bit_at (mask p) lane ≡ 0 =
                omega (arith, eqb-true (bit_at (bit_xor (mask p) ones) lane) 1 other, other-bit (mask p) lane within, bit_at-lt (mask p) lane) in
                subst (λ at. valuation lane at ≡ false) same (sym (mask-bit p lane low within) ∙ unset (mask p) lane none)
          ];
        }

    all : (lane : ℕ) → lane < 64 → AgreeAt literals (p + 1) lane → valuation (bit_and lanes (bit_and held unheld)) lane ≡ true
    all lane within agree =
        let before = are.all lane within (record { held = λ q below. agree.held q (omega (arith, below)); unheld = λ q below. agree.unheld q (omega (arith, below)) }) in
        let here : p < p + 1 = omega arith in
        let first = unlimited literals.held p (mask p) lane within (λ set. mask-bit p lane low within ∙ agree.held p here set) in
        let second = unlimited literals.unheld p (bit_xor (mask p) ones) lane within
        (λ set.
        let none = off (mask p) lane (mask-bit p lane low within ∙ agree.unheld p here set) in
        eq-eqb (bit_at (bit_xor (mask p) ones) lane) 1 (omega (arith, other-bit (mask p) lane within, none))) in
        on-and lanes (bit_and held unheld) lane
        ∙ true-both (valuation lanes lane) (valuation (bit_and held unheld) lane) before
        (on-and held unheld lane ∙ true-both (valuation held lane) (valuation unheld lane) first second)

-- no literal limits any lane
pub agree-none : (literals : Literals) → AreAgreeing literals 0 ones
agree-none literals = record {
  only = λ lane within is. record { held = λ p below. absurd (omega (arith, below)); unheld = λ p below. absurd (omega (arith, below)) };
  all = λ lane within agree. all-on lane within;
}

-- ---- all propositions

-- the bits of a valuation are those of its lane and then those of its block
low-bit : (number p : ℕ) → p < 6 → valuation number p ≡ valuation (number % 64) p
low-bit number p low =
    let split : number ≡ number / 64 * 2 ^ 6 + number % 64 = omega arith in
    ap (λ n. valuation n p) split ∙ ap (λ bit. eqb bit 1) (bit_at_cat_low (number / 64) 6 (number % 64) p low)

high-bit : (number p : ℕ) → 6 ≤ p → bit_at number p ≡ bit_at (number / 64) (p - 6)
high-bit number p high =
    let split : number ≡ number / 64 * 2 ^ 6 + number % 64 = omega arith in
    let within : number % 64 < 2 ^ 6 = omega arith in
    ap (λ n. bit_at n p) split ∙ bit_at_cat_high (number / 64) 6 (number % 64) p within high

shifted-bit : (word p : ℕ) → 6 ≤ p → bit_at (word / 2 ^ 6) (p - 6) ≡ bit_at word p
shifted-bit word p high =
    let sum : 6 + (p - 6) ≡ p = omega (arith, high) in
    ap (λ n. n % 2) (shr-shr word 6 (p - 6)) ∙ ap (λ at. bit_at word at) sum

-- a word without bits is 0
no-bits : (word : ℕ) → word < 2 ^ 64 → ((lane : ℕ) → lane < 64 → valuation word lane ≡ false) → (word == 0) ≡ true
no-bits word within none = elim (cases_Bool (word == 0)) [
  | inl is ↦ is
  | inr some ↦
      let lane = lane-on word (λ e. false≢true (sym some ∙ eq-eqb word 0 e)) within in
      absurd (false≢true (sym (none lane.0 lane.1.0) ∙ lane.1.1))
]

-- a part of a word is a word
small-of : (word mask : ℕ) → word < 2 ^ 64 → bit_and word mask < 2 ^ 64
small-of word mask within = omega (arith, and_le_l word mask, within)

pub same-bool : (a b : Bool) → (a ≡ true → b ≡ true) → (b ≡ true → a ≡ true) → a ≡ b
same-bool true b there back = sym (there refl)
same-bool false true there back = back refl
same-bool false false there back = refl

module _ (literals : Literals) (lanes : ℕ) (held-within : literals.held < 2 ^ 64) (unheld-within : literals.unheld < 2 ^ 64) (agree : AreAgreeing literals 6 lanes) (number : ℕ) (bound : number < 4096) where
  inside : number % 64 < 64
  inside = omega arith

  small : number / 64 < 64
  small = omega (arith, bound)

  big : number / 64 < 2 ^ 64
  big = omega (arith, small)

  -- the bits of the two masks
  abbrev held-mask : ℕ
  held-mask = bit_and (literals.held / 2 ^ 6) (bit_not w64 (number / 64))

  abbrev unheld-mask : ℕ
  unheld-mask = bit_and (literals.unheld / 2 ^ 6) (number / 64)

  held-bit : (q : ℕ) → q < 64 → bit_at held-mask q ≡ min (bit_at (literals.held / 2 ^ 6) q) (1 - bit_at (number / 64) q)
  held-bit q below =
      bit_at_and (literals.held / 2 ^ 6) (bit_not w64 (number / 64)) q
      ∙ ap (λ bit. min (bit_at (literals.held / 2 ^ 6) q) bit) (bit_at_not w64 (number / 64) q big below)

  unheld-bit : (q : ℕ) → bit_at unheld-mask q ≡ min (bit_at (literals.unheld / 2 ^ 6) q) (bit_at (number / 64) q)
  unheld-bit q = bit_at_and (literals.unheld / 2 ^ 6) (number / 64) q

  held-there : held-mask ≡ 0 → AgreeAt literals 6 (number % 64) → HoldAt literals.held (valuation number)
  held-there none low p set = elim (cases_lt p 6) [
    | inl less ↦ low-bit number p less ∙ low.held p less set
    | inr past ↦ elim (cases_lt p 64) [
      | inl below ↦
          let q-below : p - 6 < 64 = omega (arith, below) in
          let zero-bit : bit_at held-mask (p - 6) ≡ 0 = ap (λ w. bit_at w (p - 6)) none ∙ off 0 (p - 6) (lane-off (p - 6)) in
          eq-eqb (bit_at number p) 1
          (omega (
            arith,
            zero-bit,
            held-bit (p - 6) q-below,
            shifted-bit literals.held p past,
            eqb-true (bit_at literals.held p) 1 set,
            high-bit number p past,
            bit_at-lt (number / 64) (p - 6),
          ))
      | inr beyond ↦ absurd (omega (arith, eqb-true (bit_at literals.held p) 1 set, bit_at_above literals.held 64 p held-within beyond))
    ]
  ]

  unheld-there : unheld-mask ≡ 0 → AgreeAt literals 6 (number % 64) → FailAt literals.unheld (valuation number)
  unheld-there none low p set = elim (cases_lt p 6) [
    | inl less ↦ low-bit number p less ∙ low.unheld p less set
    | inr past ↦
        let zero-bit : bit_at unheld-mask (p - 6) ≡ 0 = ap (λ w. bit_at w (p - 6)) none ∙ off 0 (p - 6) (lane-off (p - 6)) in
        unset number p
        (omega (
          arith,
          zero-bit,
          unheld-bit (p - 6),
          shifted-bit literals.unheld p past,
          eqb-true (bit_at literals.unheld p) 1 set,
          high-bit number p past,
          bit_at-lt (number / 64) (p - 6),
        ))
  ]

  -- in the lane of a valuation they hold at it
  pub lane-met : valuation (lanes_in literals lanes (number / 64)) (number % 64) ≡ true → AreMetAt literals (valuation number)
  lane-met is = elim (cases_Bool (hold_in literals (number / 64))) [
    | inl hold ↦
        let on-lanes = sym (ap (λ w. valuation w (number % 64)) (cond-true (hold_in literals (number / 64)) lanes 0 hold)) ∙ is in
        let low = agree.only (number % 64) inside on-lanes in
        let both = both-true (held-mask == 0) (unheld-mask == 0) hold in
        (held-there (eqb-true held-mask 0 both.0) low, unheld-there (eqb-true unheld-mask 0 both.1) low)
    | inr none ↦
        absurd (false≢true (sym (lane-off (number % 64)) ∙ (ap (λ w. valuation w (number % 64)) (sym (cond-false (hold_in literals (number / 64)) lanes 0 none)) ∙ is)))
  ]

  held-none : HoldAt literals.held (valuation number) → (q : ℕ) → q < 64 → valuation held-mask q ≡ false
  held-none met q below =
      let past : 6 ≤ q + 6 = omega arith in
      let at : (q + 6) - 6 ≡ q = omega arith in
      let moved : bit_at (literals.held / 2 ^ 6) q ≡ bit_at literals.held (q + 6) =
      ap (bit_at (literals.held / 2 ^ 6)) (sym at) ∙ shifted-bit literals.held (q + 6) past in
      let block : bit_at number (q + 6) ≡ bit_at (number / 64) q = high-bit number (q + 6) past ∙ ap (bit_at (number / 64)) at in
      unset held-mask q (elim (cases_Bool (valuation literals.held (q + 6))) [
        | inl set ↦ omega (arith, held-bit q below, eqb-true (bit_at number (q + 6)) 1 (met (q + 6) set), block)
        | inr none ↦ omega (arith, held-bit q below, off literals.held (q + 6) none, moved)
      ])

  unheld-none : FailAt literals.unheld (valuation number) → (q : ℕ) → q < 64 → valuation unheld-mask q ≡ false
  unheld-none met q below =
      let past : 6 ≤ q + 6 = omega arith in
      let at : (q + 6) - 6 ≡ q = omega arith in
      let moved : bit_at (literals.unheld / 2 ^ 6) q ≡ bit_at literals.unheld (q + 6) =
      ap (bit_at (literals.unheld / 2 ^ 6)) (sym at) ∙ shifted-bit literals.unheld (q + 6) past in
      let block : bit_at number (q + 6) ≡ bit_at (number / 64) q = high-bit number (q + 6) past ∙ ap (bit_at (number / 64)) at in
      unset unheld-mask q (elim (cases_Bool (valuation literals.unheld (q + 6))) [
        | inl set ↦ omega (arith, unheld-bit q, off number (q + 6) (met (q + 6) set), block)
        | inr none ↦ omega (arith, unheld-bit q, off literals.unheld (q + 6) none, moved)
      ])

  held-small : held-mask < 2 ^ 64
  held-small = small-of (literals.held / 2 ^ 6) (bit_not w64 (number / 64)) (omega (arith, held-within))

  unheld-small : unheld-mask < 2 ^ 64
  unheld-small = small-of (literals.unheld / 2 ^ 6) (number / 64) (omega (arith, unheld-within))

  -- and the other way round
  pub met-lane : AreMetAt literals (valuation number) → valuation (lanes_in literals lanes (number / 64)) (number % 64) ≡ true
  met-lane met =
      let both : hold_in literals (number / 64) ≡ true =
      true-both (held-mask == 0) (unheld-mask == 0) (no-bits held-mask held-small (held-none met.0)) (no-bits unheld-mask unheld-small (unheld-none met.1)) in
      ap (λ w. valuation w (number % 64)) (cond-true (hold_in literals (number / 64)) lanes 0 both)
      ∙ agree.all (number % 64) inside (record {
        held = λ p low set. sym (low-bit number p low) ∙ met.0 p set;
        unheld = λ p low set. sym (low-bit number p low) ∙ met.1 p set;
      })

-- in the lane of a valuation all literals hold exactly if the label is true there
pub literal-truths : (tree : LabelTree) (literals : Literals) (lanes : ℕ) → MentionsLow tree → AreLiteralsOf tree literals → literals.held < 2 ^ 64 → literals.unheld < 2 ^ 64
    → AreAgreeing literals 6 lanes → AreTruths (lanes_in literals lanes) tree
literal-truths tree literals lanes mentions are held-within unheld-within agree = record {
  low = mentions;
  agrees = λ number bound.
      same-bool (valuation (lanes_in literals lanes (number / 64)) (number % 64)) (truth (valuation number) tree)
      (λ is. (are (valuation number)).1 (lane-met literals lanes held-within unheld-within agree number bound is))
      (λ holds. met-lane literals lanes held-within unheld-within agree number bound ((are (valuation number)).0 holds));
}
