-- What a lane of a word says: in it each proposition is as in the lane's letter, so that the lanes of a letter with all
-- choices of the system's propositions together say whether the label can answer the letter.
use Rattle.std.proofs.Common.{◌≡◌, ℕ, zero, suc, ◌+◌, ◌-◌, ◌*◌, ◌/◌, ◌%◌, ◌^◌, ◌<◌, inl, inr, Bool, true, false, cond, eqb, ltb, ◌||◌, List, [], ◌∷◌, ◌++◌, length, max, sym, ap, ap₂, refl, ◌∙◌, arith, add-zero, append-nil, eq-eqb, lt-ltb, mul_assoc, mul_comm, pow-suc}
use Rattle.std.specs.Int.{bit_at}
use Rattle.std.specs.Prelude.{bit_or, filter}
use Rattle.std.proofs.lemmas.Bool.{agree_below_at, cases_Bool, cases_lt, cond-false, cond-true, cond_both, eqb-true, false≢true, le-ltb, or_from, or_left, or_parts, or_right}
use Rattle.std.proofs.lemmas.Nat.Bits.{bit_at-lt, bit_at-suc, bit_at_cat_high, bit_at_cat_low, bit_at_lowest, bit_at_or}
use Rattle.std.proofs.lemmas.List.Folds.{list_any-append}
use Rattle.omega_hoa_label.specs.Label.{LabelTree, propositions}
use Rattle.omega_hoa_satisfiable.specs.Satisfiable.{each_once}
use Rattle.omega_hoa_satisfiable.specs.private.Words.{mask, pattern, word_among, word_of, word_of_truth}
use Rattle.omega_hoa_satisfiable.proofs.WordLemmas.{held_in, on, on-truth, on-word_of}
use Rattle.omega_synth_game.specs.Answering.{CanAnswer}
use Rattle.omega_synth_controllers.specs.Strategies.{is_controlled}
use Rattle.omega_synth_game.specs.private.Lanes.{AreApart, AreInputsFor, is_one_of}
use Rattle.omega_synth_game.specs.Letters.{holds_in, letter_numbered}
use Rattle.omega_synth_game.proofs.AllInputs.{once_apart}
use Rattle.omega_synth_game.proofs.Mentions.{among-left, among-right, each_kept, none_once, none_passing, once_behind, passing, truth_agrees}
use Rattle.omega_synth_game.proofs.Restricting.{among as contained, uncontrolled}

-- bit i of a mask is its bit of i
mask-bit : (place lane : ℕ) → place < 6 → lane < 64 → on (mask place) lane ≡ on lane place
mask-bit zero lane low within = agree_below_at (λ i. on (mask 0) i) (λ i. on i 0) 64 lane refl within
mask-bit (suc zero) lane low within = agree_below_at (λ i. on (mask 1) i) (λ i. on i 1) 64 lane refl within
mask-bit (suc (suc zero)) lane low within = agree_below_at (λ i. on (mask 2) i) (λ i. on i 2) 64 lane refl within
mask-bit (suc (suc (suc zero))) lane low within = agree_below_at (λ i. on (mask 3) i) (λ i. on i 3) 64 lane refl within
mask-bit (suc (suc (suc (suc zero)))) lane low within = agree_below_at (λ i. on (mask 4) i) (λ i. on i 4) 64 lane refl within
mask-bit (suc (suc (suc (suc (suc zero))))) lane low within = agree_below_at (λ i. on (mask 5) i) (λ i. on i 5) 64 lane refl within
mask-bit (suc (suc (suc (suc (suc (suc place)))))) lane low within = absurd (omega arith)

-- a lane has the bit of its letter's number
pattern-bit : (number place : ℕ) → on (pattern (number / 64) place) (number % 64) ≡ on number place
pattern-bit number place =
    let split : number ≡ number / 64 * 2 ^ 6 + number % 64 = omega arith in
    let within : number % 64 < 64 = omega arith in
    elim (cases_lt place 6) [
      | inl low ↦
          ap (λ word. on word (number % 64)) (cond-true (ltb place 6) (mask place) (word_of_truth (on (number / 64) (place - 6))) (lt-ltb place 6 low))
          ∙ (mask-bit place (number % 64) low within
          ∙ (ap (λ bit. eqb bit 1) (sym (bit_at_cat_low (number / 64) 6 (number % 64) place low)) ∙ ap (λ n. on n place) (sym split)))
      | inr high ↦
          ap (λ word. on word (number % 64)) (cond-false (ltb place 6) (mask place) (word_of_truth (on (number / 64) (place - 6))) (le-ltb place 6 high))
          ∙ (on-truth (on (number / 64) (place - 6)) (number % 64) within
          ∙ (ap (λ bit. eqb bit 1) (sym (bit_at_cat_high (number / 64) 6 (number % 64) place within high)) ∙ ap (λ n. on n place) (sym split)))
    ]

-- what is not one of the inputs does not hold in a letter over them
absent_fails : (inputs : List ℕ) (number p : ℕ) → is_one_of inputs p ≡ false → holds_in (letter_numbered inputs number) p ≡ false
absent_fails [] number p none = refl
absent_fails (next ∷ rest) number p none =
    let parts = or_parts (eqb next p) (is_one_of rest p) none in
    cond_both (eqb (number % 2) 1) (next ∷ letter_numbered rest (number / 2)) (letter_numbered rest (number / 2)) (λ letter. holds_in letter p ≡ false)
    (λ odd. or_from (eqb next p) (holds_in (letter_numbered rest (number / 2)) p) parts.0 (absent_fails rest (number / 2) p parts.1))
    (λ even. absent_fails rest (number / 2) p parts.1)

held_first : (odd : Bool) (next p : ℕ) (letter : List ℕ) → eqb next p ≡ true → holds_in letter p ≡ false → holds_in (cond odd (next ∷ letter) letter) p ≡ odd
held_first true next p letter here none = or_left (eqb next p) (holds_in letter p) here
held_first false next p letter here none = none

held_rest : (odd : Bool) (next p : ℕ) (letter : List ℕ) → eqb next p ≡ false → holds_in (cond odd (next ∷ letter) letter) p ≡ holds_in letter p
held_rest true next p letter other = ap (λ b. b || holds_in letter p) other
held_rest false next p letter other = refl

-- an input's word has in a lane whether it holds in the lane's letter
pub input_lane : (whole place : ℕ) (inputs : List ℕ) (number p : ℕ) → ((more : ℕ) → bit_at whole (place + more) ≡ bit_at number more) → AreApart inputs
    → is_one_of inputs p ≡ true → on (word_among (whole / 64) place inputs p) (whole % 64) ≡ holds_in (letter_numbered inputs number) p
input_lane whole place [] number p bits apart is = absurd (false≢true is)
input_lane whole place (next ∷ rest) number p bits apart is =
    elim (cases_Bool (eqb next p)) [
      | inl here ↦
          ap (λ word. on word (whole % 64)) (cond-true (eqb next p) (pattern (whole / 64) place) (word_among (whole / 64) (suc place) rest p) here)
          ∙ (pattern-bit whole place
          ∙ (ap (λ n. on whole n) (sym (add-zero place))
          ∙ (ap (λ bit. eqb bit 1) (bits 0 ∙ bit_at_lowest number)
          ∙ sym (held_first (eqb (number % 2) 1) next p (letter_numbered rest (number / 2)) here
          (absent_fails rest (number / 2) p (ap (is_one_of rest) (sym (eqb-true next p here)) ∙ apart.0))))))
      | inr other ↦
          ap (λ word. on word (whole % 64)) (cond-false (eqb next p) (pattern (whole / 64) place) (word_among (whole / 64) (suc place) rest p) other)
          ∙ (input_lane whole (suc place) rest (number / 2) p
          (λ more.
          let moved : suc place + more ≡ place + suc more = omega arith in
          ap (bit_at whole) moved ∙ (bits (suc more) ∙ bit_at-suc number more))
          apart.1 (sym (ap (λ b. b || is_one_of rest p) other) ∙ is)
          ∙ sym (held_rest (eqb (number % 2) 1) next p (letter_numbered rest (number / 2)) other))
    ]

-- ---- letters over the inputs and behind them other propositions

cond_append : (odd : Bool) (next : ℕ) (xs ys : List ℕ) → cond odd (next ∷ (xs ++ ys)) (xs ++ ys) ≡ cond odd (next ∷ xs) xs ++ ys
cond_append true next xs ys = refl
cond_append false next xs ys = refl

-- the number of a letter over both has the digits of the first and then those of the other
pub joined_letter : (inputs free : List ℕ) (number choice : ℕ) → number < 2 ^ length inputs
    → letter_numbered (inputs ++ free) (number + 2 ^ length inputs * choice) ≡ letter_numbered inputs number ++ letter_numbered free choice
joined_letter [] free number choice within =
    let same : number + 1 * choice ≡ choice = omega (arith, within) in
    ap (letter_numbered free) same
joined_letter (input ∷ inputs) free number choice within =
    let whole : ℕ = number + 2 ^ length (input ∷ inputs) * choice in
    let grown = pow-suc 2 (length inputs) in
    let product : 2 ^ length (input ∷ inputs) * choice ≡ 2 * (2 ^ length inputs * choice) =
    ap (λ q. q * choice) (grown ∙ mul_comm (2 ^ length inputs) 2) ∙ mul_assoc 2 (2 ^ length inputs) choice in
    let digit : whole % 2 ≡ number % 2 = omega (arith, product) in
    let half : whole / 2 ≡ number / 2 + 2 ^ length inputs * choice = omega (arith, product) in
    let below : number / 2 < 2 ^ length inputs = omega (arith, within, grown) in
    let rest : letter_numbered (inputs ++ free) (whole / 2) ≡ letter_numbered inputs (number / 2) ++ letter_numbered free choice =
    ap (letter_numbered (inputs ++ free)) half ∙ joined_letter inputs free (number / 2) choice below in
    ap (λ d. cond (eqb d 1) (input ∷ letter_numbered (inputs ++ free) (whole / 2)) (letter_numbered (inputs ++ free) (whole / 2))) digit
    ∙ (ap (λ list. cond (eqb (number % 2) 1) (input ∷ list) list) rest
    ∙ cond_append (eqb (number % 2) 1) input (letter_numbered inputs (number / 2)) (letter_numbered free choice))

-- lists without a number in common
apart_joined : (xs ys : List ℕ) → AreApart xs → AreApart ys → ((p : ℕ) → is_one_of xs p ≡ true → is_one_of ys p ≡ false) → AreApart (xs ++ ys)
apart_joined [] ys first second off = second
apart_joined (x ∷ xs) ys first second off = (
  list_any-append (λ q. eqb q x) xs ys
      ∙ or_from (is_one_of xs x) (is_one_of ys x) first.0 (off x (or_left (eqb x x) (is_one_of xs x) (eq-eqb x x refl))),
  apart_joined xs ys first.1 second (λ p is. off p (or_right (eqb x p) (is_one_of xs p) is)),
)

or_false : (b : Bool) → (b || false) ≡ b
or_false true = refl
or_false false = refl

outside : (b own given : Bool) → (b ≡ true → ⊥) → given ≡ cond b own given
outside true own given free = absurd (free refl)
outside false own given free = refl

module _ (controlled inputs : List ℕ) (label : LabelTree) (are : AreInputsFor controlled inputs label) where
  -- the system's propositions that the label mentions
  abbrev pub free_of : List ℕ
  free_of = each_once [] (filter (is_controlled controlled) (propositions label))

  not_free : (p : ℕ) → is_controlled controlled p ≡ false → is_one_of free_of p ≡ false
  not_free p off =
      none_once p [] (filter (is_controlled controlled) (propositions label)) refl (none_passing (is_controlled controlled) p (propositions label) off)

  not_input : (p : ℕ) → is_controlled controlled p ≡ true → is_one_of inputs p ≡ false
  not_input p held = elim (cases_Bool (is_one_of inputs p)) [
    | inl is ↦ absurd (false≢true (sym (are.given p is) ∙ held))
    | inr off ↦ off
  ]

  free_mentioned : (p : ℕ) → is_controlled controlled p ≡ true → is_one_of (propositions label) p ≡ true → is_one_of free_of p ≡ true
  free_mentioned p held mentioned =
      each_kept p [] (filter (is_controlled controlled) (propositions label)) (passing (is_controlled controlled) p (propositions label) mentioned ∙ held)

  all_apart : AreApart (inputs ++ free_of)
  all_apart =
      apart_joined inputs free_of are.apart (once_apart [] (filter (is_controlled controlled) (propositions label)) tt) (λ p is. not_free p (are.given p is))

  -- they come behind the inputs
  pub atoms_are : each_once inputs (filter (is_controlled controlled) (propositions label)) ≡ inputs ++ free_of
  atoms_are =
      ap (λ list. each_once list (filter (is_controlled controlled) (propositions label))) (sym (append-nil inputs))
      ∙ once_behind inputs [] (filter (is_controlled controlled) (propositions label)) (λ p is. elim (cases_Bool (is_controlled controlled p)) [
        | inl held ↦ not_input p held
        | inr off ↦ absurd (false≢true (sym (none_passing (is_controlled controlled) p (propositions label) off) ∙ is))
      ])

  -- a lane of a block, whose letter over the inputs and these propositions is one over the inputs and a choice
  module _ (number choice block lane : ℕ) (within : number < 2 ^ length inputs) (low : lane < 64)
      (at : block * 64 + lane ≡ number + 2 ^ length inputs * choice) where
    abbrev given : ℕ → Bool
    given = holds_in (letter_numbered inputs number)

    abbrev own : ℕ → Bool
    own = holds_in (letter_numbered free_of choice)

    abbrev words : ℕ → ℕ
    words = word_among block 0 (inputs ++ free_of)

    word_bit : (p : ℕ) → is_one_of (inputs ++ free_of) p ≡ true → on (words p) lane ≡ (given p || own p)
    word_bit p one_of =
        let whole : ℕ = block * 64 + lane in
        let quotient : whole / 64 ≡ block = omega (arith, low) in
        let remainder : whole % 64 ≡ lane = omega (arith, low) in
        ap₂ (λ b l. on (word_among b 0 (inputs ++ free_of) p) l) (sym quotient) (sym remainder)
        ∙ (input_lane whole 0 (inputs ++ free_of) whole p (λ more. (let moved : 0 + more ≡ more = omega arith in ap (bit_at whole) moved)) all_apart one_of
        ∙ (ap (λ n. holds_in (letter_numbered (inputs ++ free_of) n) p) at
        ∙ (ap (λ (list : List ℕ). holds_in list p) (joined_letter inputs free_of number choice within)
        ∙ list_any-append (λ q. eqb q p) (letter_numbered inputs number) (letter_numbered free_of choice))))

    chosen_bit : (p : ℕ) → is_controlled controlled p ≡ true → is_one_of (propositions label) p ≡ true → on (words p) lane ≡ own p
    chosen_bit p held mentioned =
        word_bit p (among-right p inputs free_of (free_mentioned p held mentioned))
        ∙ ap (λ b. b || own p) (absent_fails inputs number p (not_input p held))

    input_bit : (p : ℕ) → is_controlled controlled p ≡ false → is_one_of (propositions label) p ≡ true → on (words p) lane ≡ given p
    input_bit p off mentioned =
        word_bit p (among-left p inputs free_of (are.covers p off mentioned))
        ∙ (ap (λ b. given p || b) (absent_fails free_of choice p (not_free p off)) ∙ or_false (given p))

    -- a lane that is set shows a letter
    pub lane_answers : on (word_of words label) lane ≡ true → CanAnswer controlled label given
    lane_answers is =
        record {
          letter = λ p. cond (is_controlled controlled p) (own p) (given p);
          agrees = λ p free. outside (is_controlled controlled p) (own p) (given p) (λ held. free (contained controlled p held));
          holds =
              truth_agrees (λ p. cond (is_controlled controlled p) (own p) (given p)) (held_in words lane) label
              (λ p mentioned. elim (cases_Bool (is_controlled controlled p)) [
                | inl held ↦ cond-true (is_controlled controlled p) (own p) (given p) held ∙ sym (chosen_bit p held mentioned)
                | inr off ↦ cond-false (is_controlled controlled p) (own p) (given p) off ∙ sym (input_bit p off mentioned)
              ])
              ∙ (sym (on-word_of words label lane low) ∙ is);
        }

    -- a letter sets the lane of its choice
    pub answer_lane : (can : CanAnswer controlled label given) → letter_numbered free_of choice ≡ filter can.letter free_of → on (word_of words label) lane ≡ true
    answer_lane can chosen =
        on-word_of words label lane low
        ∙ (truth_agrees (held_in words lane) can.letter label
        (λ p mentioned. elim (cases_Bool (is_controlled controlled p)) [
          | inl held ↦
              chosen_bit p held mentioned
              ∙ (ap (λ (letter : List ℕ). holds_in letter p) chosen ∙ passing can.letter p free_of (free_mentioned p held mentioned))
          | inr off ↦ input_bit p off mentioned ∙ can.agrees p (uncontrolled controlled p off)
        ])
        ∙ can.holds)

on-or-bits : (p q : ℕ) → p < 2 → q < 2 → eqb (max p q) 1 ≡ (eqb p 1 || eqb q 1)
on-or-bits zero zero a b = refl
on-or-bits zero (suc zero) a b = refl
on-or-bits (suc zero) zero a b = refl
on-or-bits (suc zero) (suc zero) a b = refl
on-or-bits (suc (suc p)) q a b = absurd (omega arith)
on-or-bits zero (suc (suc q)) a b = absurd (omega arith)
on-or-bits (suc zero) (suc (suc q)) a b = absurd (omega arith)

-- a lane of two words together
pub on-or : (one other lane : ℕ) → on (bit_or one other) lane ≡ (on one lane || on other lane)
on-or one other lane =
    ap (λ bit. eqb bit 1) (bit_at_or one other lane) ∙ on-or-bits (bit_at one lane) (bit_at other lane) (bit_at-lt one lane) (bit_at-lt other lane)
