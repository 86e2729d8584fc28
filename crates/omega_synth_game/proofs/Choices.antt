-- The words of blocks laid on one another: what the lanes of a letter with all choices say.
use Rattle.std.proofs.Common.{◌≡◌, ◌↔◌, ℕ, ◌+◌, ◌-◌, ◌*◌, ◌/◌, ◌%◌, ◌^◌, ◌<◌, ◌≤◌, inl, inr, true, eqb, List, ◌++◌, length, sym, ap, refl, ◌∙◌, subst, arith, div-lt_iff_lt-mul, mod-lt, mul-add, mul-le-mul_left, mul-one, mul-zero, mul_assoc, mul_comm, mul_right_comm}
use Rattle.std.specs.Prelude.{bit_or}
use Rattle.std.proofs.Math.Nat.{div-div-eq-div-mul}
use Rattle.std.proofs.Math.Pow.{pow_mono}
use Rattle.std.proofs.lemmas.Bool.{cases_eq, cases_lt, false≢true, or_cases, or_left, or_right}
use Rattle.std.proofs.lemmas.Nat.{div-add-mod', pow-add, pow_pos}
use Rattle.omega_hoa_label.specs.Label.{LabelTree}
use Rattle.omega_hoa_satisfiable.specs.private.Words.{word_among, word_of}
use Rattle.omega_hoa_satisfiable.proofs.WordLemmas.{lane-off, on}
use Rattle.omega_synth_game.specs.private.Lanes.{AreInputsFor, IsAnswerWord, IsFolded}
use Rattle.omega_synth_game.proofs.LaneWords.{answer_lane, free_of, lane_answers, on-or}
use Rattle.omega_synth_game.proofs.Lettering.{numbered}

-- ---- words together

module _ (part : ℕ → ℕ) where
  -- a lane is set exactly if it is in one of the first words
  abbrev pub IsJoined : ℕ → ℕ → Type 0
  IsJoined end word =
      (lane : ℕ) → (on word lane ≡ true) ↔ ((turn : ℕ) × (turn < end) × (on (part turn) lane ≡ true))

  pub joined_none : IsJoined 0 0
  joined_none lane = (λ is. absurd (false≢true (sym (lane-off lane) ∙ is)), λ found. absurd (omega (arith, found.1)))

  pub joined_more : (end word next : ℕ) → next ≡ part end → IsJoined end word → IsJoined (end + 1) (bit_or word next)
  joined_more end word next is joined lane = (
    λ set. elim (or_cases (on word lane) (on next lane) (sym (on-or word next lane) ∙ set)) [
      | inl old ↦ let found = (joined lane).0 old in (found.0, omega (arith, found.1), found.2)
      | inr new ↦ (end, omega arith, ap (λ w. on w lane) (sym is) ∙ new)
    ],
    λ found. on-or word next lane ∙ elim (cases_eq found.0 end) [
      | inl last ↦ or_right (on word lane) (on next lane) (ap (λ w. on w lane) is ∙ (ap (λ n. on (part n) lane) (sym last) ∙ found.2))
      | inr apart ↦ or_left (on word lane) (on next lane) ((joined lane).1 (found.0, omega (arith, found.1, apart), found.2))
    ],
  )

-- ---- a word folded

-- a word moved down
on-moved : (word by lane : ℕ) → on (word / 2 ^ by) lane ≡ on word (by + lane)
on-moved word by lane =
    ap (λ n. eqb (n % 2) 1) (div-div-eq-div-mul word (2 ^ by) (2 ^ lane) ∙ ap (λ n. word / n) (sym (pow-add 2 by lane)))

pub folded_none : (letters word : ℕ) → IsFolded letters 1 word word
folded_none letters word lane = (
  λ set. (0, omega arith, ap (λ n. on word n) (here 0 refl) ∙ set),
  λ found. ap (λ n. on word n) (sym (here found.0 (omega (arith, found.1)))) ∙ found.2,
)
  where
    here : (share : ℕ) → share ≡ 0 → lane + letters * share ≡ lane
    here share none = let nothing : letters * share ≡ 0 = ap (λ n. letters * n) none ∙ mul-zero letters in omega (arith, nothing)

-- the lanes laid on those that come by all shares before them
pub folded_more : (letters shares by word now : ℕ) → by ≡ letters * shares → IsFolded letters shares word now
    → IsFolded letters (shares * 2) word (bit_or now (now / 2 ^ by))
folded_more letters shares by word now by_is are lane = (
  λ set. elim (or_cases (on now lane) (on (now / 2 ^ by) lane) (sym (on-or now (now / 2 ^ by) lane) ∙ set)) [
    | inl old ↦ let found = (are lane).0 old in (found.0, omega (arith, found.1), found.2)
    | inr new ↦
        let found = (are (by + lane)).0 (sym (on-moved now by lane) ∙ new) in
        let split : letters * (shares + found.0) ≡ letters * shares + letters * found.0 = mul-add letters shares found.0 in
        let moved : by + lane + letters * found.0 ≡ lane + letters * (shares + found.0) = omega (arith, by_is, split) in
        (shares + found.0, omega (arith, found.1), ap (λ n. on word n) (sym moved) ∙ found.2)
  ],
  λ found. on-or now (now / 2 ^ by) lane ∙ elim (cases_lt found.0 shares) [
    | inl low ↦ or_left (on now lane) (on (now / 2 ^ by) lane) ((are lane).1 (found.0, low, found.2))
    | inr high ↦
        let parts : found.0 ≡ shares + (found.0 - shares) = omega (arith, high) in
        let split : letters * found.0 ≡ letters * shares + letters * (found.0 - shares) =
        ap (λ n. letters * n) parts ∙ mul-add letters shares (found.0 - shares) in
        let moved : by + lane + letters * (found.0 - shares) ≡ lane + letters * found.0 = omega (arith, by_is, split) in
        or_right (on now lane) (on (now / 2 ^ by) lane)
        (on-moved now by lane ∙ (are (by + lane)).1 (found.0 - shares, omega (arith, found.1, high), ap (λ n. on word n) moved ∙ found.2))
  ],
)

-- ---- blocks of letters over the inputs and the system's propositions

-- 64 lanes have the letters over the inputs, or letters over some inputs as often as the lanes have room for
lanes_filled : (count : ℕ) → 2 ^ (count - 6) * 64 ≡ 2 ^ count * 2 ^ (6 - count)
lanes_filled count =
    let same : count - 6 + 6 ≡ count + (6 - count) = omega arith in
    sym (pow-add 2 (count - 6) 6) ∙ (ap (λ n. 2 ^ n) same ∙ pow-add 2 count (6 - count))

module _ (count block lane share turn : ℕ) where
  -- the number of a letter in a later block
  pub number_is : (block + turn * 2 ^ (count - 6)) * 64 + (lane + 2 ^ count * share) ≡ block * 64 + lane + 2 ^ count * (share + 2 ^ (6 - count) * turn)
  number_is =
      let split = mul-add (2 ^ count) share (2 ^ (6 - count) * turn) in
      let scaled : 2 ^ count * (2 ^ (6 - count) * turn) ≡ turn * 2 ^ (count - 6) * 64 =
      sym (mul_assoc (2 ^ count) (2 ^ (6 - count)) turn)
      ∙ (ap (λ n. n * turn) (sym (lanes_filled count))
      ∙ (mul_right_comm (2 ^ (count - 6)) 64 turn ∙ ap (λ n. n * 64) (mul_comm (2 ^ (count - 6)) turn))) in
      omega (arith, split, scaled)

  -- a lane that has the letter of an earlier one
  pub lane_low : lane < 64 → block * 64 + lane < 2 ^ count → share < 2 ^ (6 - count) → lane + 2 ^ count * share < 64
  lane_low low within below = elim (cases_lt count 6) [
    | inl few ↦
        let same : count + (6 - count) ≡ 6 = omega (arith, few) in
        let whole : 2 ^ count * 2 ^ (6 - count) ≡ 64 = sym (pow-add 2 count (6 - count)) ∙ ap (λ n. 2 ^ n) same in
        let scaled : 2 ^ count * (share + 1) ≤ 2 ^ count * 2 ^ (6 - count) = mul-le-mul_left (2 ^ count) (omega (arith, below)) in
        let split : 2 ^ count * (share + 1) ≡ 2 ^ count * share + 2 ^ count = mul-add (2 ^ count) share 1 ∙ ap (λ n. 2 ^ count * share + n) (mul-one (2 ^ count)) in
        omega (arith, scaled, whole, split, within)
    | inr many ↦
        let same : 6 - count ≡ 0 = omega (arith, many) in
        let one : 2 ^ (6 - count) ≡ 1 = ap (λ n. 2 ^ n) same in
        let none : share ≡ 0 = omega (arith, below, one) in
        let nothing : 2 ^ count * share ≡ 0 = ap (λ n. 2 ^ count * n) none ∙ mul-zero (2 ^ count) in
        omega (arith, low, nothing)
  ]

module _ (controlled inputs : List ℕ) (label : LabelTree) (are : AreInputsFor controlled inputs label) (block : ℕ) where
  abbrev free : List ℕ
  free = free_of controlled inputs label are

  -- the word of a later block
  abbrev pub block_word : ℕ → ℕ
  block_word turn = word_of (word_among (block + turn * 2 ^ (length inputs - 6)) 0 (inputs ++ free)) label

  -- the words of all blocks, folded, say which letters the label can answer
  pub folded_answers : (turns word folded : ℕ) → turns ≡ 2 ^ (length free - (6 - length inputs)) → IsJoined block_word turns word
      → IsFolded (2 ^ length inputs) (2 ^ (6 - length inputs)) word folded → IsAnswerWord controlled inputs block label folded
  folded_answers turns word folded turns_is joined is_folded lane low within = (
    λ set.
        (let shared = (is_folded lane).0 set in
        let share : ℕ = shared.0 in
        let found = (joined (lane + 2 ^ length inputs * share)).0 shared.2 in
        let turn : ℕ = found.0 in
        lane_answers controlled inputs label are (block * 64 + lane) (share + 2 ^ (6 - length inputs) * turn) (block + turn * 2 ^ (length inputs - 6))
        (lane + 2 ^ length inputs * share) within (lane_low (length inputs) block lane share turn low within shared.1)
        (number_is (length inputs) block lane share turn) found.2),
    λ can.
        (let shares : ℕ = 2 ^ (6 - length inputs) in
        let chosen = numbered can.letter free in
        let choice : ℕ = chosen.0 in
        let share : ℕ = choice % shares in
        let turn : ℕ = choice / shares in
        let some : 0 < shares = pow_pos (6 - length inputs) in
        let share_low : share < shares = mod-lt choice some in
        let grown : 2 ^ length free ≤ 2 ^ (length free - (6 - length inputs)) * shares =
        subst (λ (n : ℕ). 2 ^ length free ≤ n) (pow-add 2 (length free - (6 - length inputs)) (6 - length inputs)) (pow_mono (omega arith)) in
        let turn_low : turn < 2 ^ (length free - (6 - length inputs)) = (div-lt_iff_lt-mul some).1 (omega (arith, chosen.1, grown)) in
        let parts : share + shares * turn ≡ choice = omega (arith, div-add-mod' choice shares, mul_comm shares turn) in
        (is_folded lane).1 (
          share,
          share_low,
          (joined (lane + 2 ^ length inputs * share)).1 (
            turn,
            omega (arith, turn_low, turns_is),
            answer_lane controlled inputs label are (block * 64 + lane) choice (block + turn * 2 ^ (length inputs - 6)) (lane + 2 ^ length inputs * share) within
                (lane_low (length inputs) block lane share turn low within share_low)
                (number_is (length inputs) block lane share turn ∙ ap (λ n. block * 64 + lane + 2 ^ length inputs * n) parts) can chosen.2,
          ),
        )),
  )
