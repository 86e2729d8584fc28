-- Labels that are apart in each block of letters are exclusive.
use Rattle.std.proofs.Common.{◌≡◌, ℕ, zero, suc, ◌+◌, ◌-◌, if◌then◌else◌, ◌/◌, ◌%◌, ◌^◌, ◌<◌, inl, inr, Bool, true, false, eqb, ◌&&◌, List, [], ◌∷◌, length, min, get_or, Option, Some, None, sym, ap, refl, ◌∙◌, subst, arith}
use Rattle.std.specs.Int.{bit_at}
use Rattle.std.specs.Prelude.{bit_and, bit_or, filter, slice_get}
use Rattle.std.specs.Option.{option_or, unwrap_or}
use Rattle.std.proofs.lemmas.Bool.{and_parts, cases_eq, false≢true, or_left, or_right}
use Rattle.std.proofs.lemmas.Nat.Bits.{bit_at-lt, bit_at_and}
use Rattle.std.proofs.lemmas.Option.{slice_get_within}
use Rattle.omega_hoa_label.specs.Label.{LabelTree, propositions, truth}
use Rattle.omega_hoa_satisfiable.specs.Satisfiable.{each_once}
use Rattle.omega_hoa_satisfiable.specs.private.Words.{word_among}
use Rattle.omega_hoa_satisfiable.proofs.Valuations.{block-lt}
use Rattle.omega_hoa_satisfiable.proofs.WordLemmas.{held_in, lane-off, on, on-word_of}
use Rattle.omega_hoa_automaton.specs.Automaton.{Description}
use Rattle.omega_hoa_automaton.specs.declared.edge.Edge.{Edge}
use Rattle.omega_hoa_automaton.specs.declared.state.State.{State}
use Rattle.omega_hoa_edges.specs.Labels.{label_at, valuation_label}
use Rattle.omega_hoa_edges.specs.Determinism.{AreExclusiveBelow}
use Rattle.omega_hoa_edges.specs.AutomatonLabels.{labels_of, state_among, undefined}
use Rattle.omega_hoa_edges.specs.Letters.{AreExclusive, IsPair}
use Rattle.omega_hoa_edges.proofs.Rows.{each_at}
use Rattle.omega_synth_game.specs.Classes.{input_mentions}
use Rattle.omega_synth_game.specs.private.Exclusive.{AreApartIn, AreMentionedBelow, HasLabelAt, block_word}
use Rattle.omega_synth_game.specs.private.Lanes.{is_one_of, is_set}
use Rattle.omega_synth_game.specs.Letters.{holds_in, letter_numbered}
use Rattle.omega_synth_game.proofs.AllInputs.{once_apart}
use Rattle.omega_synth_game.proofs.LaneWords.{input_lane, on-or}
use Rattle.omega_synth_game.proofs.Lettering.{numbered}
use Rattle.omega_synth_game.proofs.Mentions.{each_kept, passing, seen_kept, truth_agrees}

on-and-bits : (p q : ℕ) → p < 2 → q < 2 → eqb (min p q) 1 ≡ (eqb p 1 && eqb q 1)
on-and-bits zero zero a b = refl
on-and-bits zero (suc zero) a b = refl
on-and-bits (suc zero) zero a b = refl
on-and-bits (suc zero) (suc zero) a b = refl
on-and-bits (suc (suc p)) q a b = absurd (omega arith)
on-and-bits zero (suc (suc q)) a b = absurd (omega arith)
on-and-bits (suc zero) (suc (suc q)) a b = absurd (omega arith)

both_on : (x y : Bool) → x ≡ true → y ≡ true → (x && y) ≡ true
both_on true true p q = refl
both_on true false p q = q
both_on false y p q = p

-- words without a lane in common
pub none_common : (one other lane : ℕ) → bit_and one other ≡ 0 → on one lane ≡ true → on other lane ≡ true → ⊥
none_common one other lane none first second =
    false≢true (sym (lane-off lane) ∙ (ap (λ w. on w lane) (sym none)
    ∙ (ap (λ bit. eqb bit 1) (bit_at_and one other lane)
    ∙ (on-and-bits (bit_at one lane) (bit_at other lane) (bit_at-lt one lane) (bit_at-lt other lane) ∙ both_on (on one lane) (on other lane) first second))))

same_some : {X : Type 0} (o : Option X) (x y : X) → o ≡ Some x → o ≡ Some y → x ≡ y
same_some o x y p q = inner (sym p ∙ q)
  where
    inner : Some x ≡ Some y → x ≡ y
    inner e = cc

-- an edge has one label
pub one_label : (state : State) (at : ℕ) (one other : LabelTree) → HasLabelAt state at one → HasLabelAt state at other → one ≡ other
one_label state at one other first second =
    let edge_same : first.edge ≡ second.edge = same_some (slice_get state.edges at) first.edge second.edge first.there second.there in
    same_some second.edge.label one other (ap (λ (e : Edge). e.label) (sym edge_same) ∙ first.labelled) second.labelled

-- one edge more of a block, which has no lane in common with those before it
module _ (mentioned : List ℕ) (block : ℕ) (state : State) (end : ℕ) (label : LabelTree) (has : HasLabelAt state end label) (word seen : ℕ)
    (word_is : word ≡ block_word mentioned block label) where
  pub apart_more : bit_and word seen ≡ 0
      → ((at lane : ℕ) (one : LabelTree) → at < end → HasLabelAt state at one → is_set (block_word mentioned block one) lane ≡ true → is_set seen lane ≡ true)
      → AreApartIn mentioned block state end → AreApartIn mentioned block state (end + 1)
  apart_more none covered apart first second lane one other less below low has_one has_other on_one on_other = elim (cases_eq second end) [
    | inl last ↦
        let here : HasLabelAt state second label = subst (λ (n : ℕ). HasLabelAt state n label) (sym last) has in
        let same : other ≡ label = one_label state second other label has_other here in
        none_common word seen lane none (ap (λ w. is_set w lane) word_is ∙ (ap (λ (t : LabelTree). is_set (block_word mentioned block t) lane) (sym same) ∙ on_other))
        (covered first lane one (omega (arith, less, last)) has_one on_one)
    | inr before ↦ apart first second lane one other less (omega (arith, below, before)) low has_one has_other on_one on_other
  ]

  pub covered_more : ((at lane : ℕ) (one : LabelTree) → at < end → HasLabelAt state at one → is_set (block_word mentioned block one) lane ≡ true → is_set seen lane ≡ true)
      → (at lane : ℕ) (one : LabelTree) → at < end + 1 → HasLabelAt state at one → is_set (block_word mentioned block one) lane ≡ true
      → is_set (bit_or seen word) lane ≡ true
  covered_more covered at lane one below has_one on_one = on-or seen word lane ∙ elim (cases_eq at end) [
    | inl last ↦
        let here : HasLabelAt state at label = subst (λ (n : ℕ). HasLabelAt state n label) (sym last) has in
        or_right (on seen lane) (on word lane)
        (ap (λ w. is_set w lane) word_is ∙ (ap (λ (t : LabelTree). is_set (block_word mentioned block t) lane) (sym (one_label state at one label has_one here)) ∙ on_one))
    | inr before ↦ or_left (on seen lane) (on word lane) (covered at lane one (omega (arith, below, before)) has_one on_one)
  ]

-- the propositions of one label more
pub mentioned_more : (mentioned : List ℕ) (state : State) (end : ℕ) (label : LabelTree) → HasLabelAt state end label → AreMentionedBelow mentioned state end
    → AreMentionedBelow (each_once mentioned (input_mentions [] label)) state (end + 1)
mentioned_more mentioned state end label has are = record {
  apart = once_apart mentioned (input_mentions [] label) are.apart;
  labelled = λ at below. elim (cases_eq at end) [
    | inl last ↦ (label, subst (λ (n : ℕ). HasLabelAt state n label) (sym last) has)
    | inr before ↦ are.labelled at (omega (arith, below, before))
  ];
  covers = λ at one p below has_one one_of. elim (cases_eq at end) [
    | inl last ↦
        let here : HasLabelAt state at label = subst (λ (n : ℕ). HasLabelAt state n label) (sym last) has in
        let same : one ≡ label = one_label state at one label has_one here in
        each_kept p mentioned (input_mentions [] label)
        (passing (λ q. true) p (propositions label) (ap (λ (t : LabelTree). is_one_of (propositions t) p) (sym same) ∙ one_of))
    | inr before ↦ seen_kept p mentioned (input_mentions [] label) (are.covers at one p (omega (arith, below, before)) has_one one_of)
  ];
}

pub none_mentioned : (state : State) → AreMentionedBelow [] state 0
none_mentioned state = record {
  apart = tt;
  labelled = λ at below. absurd (omega (arith, below));
  covers = λ at label p below. absurd (omega (arith, below));
}

-- labels that are apart in each block are exclusive
module _ (mentioned : List ℕ) (state : State) (are : AreMentionedBelow mentioned state (length state.edges)) (plain : state.label ≡ None)
    (apart : (block : ℕ) → block < 2 ^ (length mentioned - 6) → AreApartIn mentioned block state (length state.edges)) where
  -- the label at an index
  has_label : (count at : ℕ) (label : LabelTree) → slice_get (labels_of count state) at ≡ Some label → (at < length state.edges) × HasLabelAt state at label
  has_label count at label is =
      let found = each_at (label_at count state) state.edges at label is in
      let below : at < length state.edges = slice_get_within state.edges at found.0 found.1.0 in
      let own = are.labelled at below in
      let edge_same : own.1.edge ≡ found.0 = same_some (slice_get state.edges at) own.1.edge found.0 own.1.there found.1.0 in
      let its : found.0.label ≡ Some own.0 = ap (λ (e : Edge). e.label) (sym edge_same) ∙ own.1.labelled in
      let label_is : label ≡ own.0 =
      found.1.1
      ∙ (ap (λ (o : Option LabelTree). unwrap_or (option_or o found.0.label) (valuation_label at count)) plain
      ∙ ap (λ (o : Option LabelTree). unwrap_or o (valuation_label at count)) its) in (
        below,
        subst (λ (t : LabelTree). HasLabelAt state at t) (sym label_is) own.1,
      )

  -- the lane of a letter at which a label is true
  lane_true : (held : ℕ → Bool) (at : ℕ) (label : LabelTree) → at < length state.edges → HasLabelAt state at label → truth held label ≡ true
      → (number : ℕ) → letter_numbered mentioned number ≡ filter held mentioned → is_set (block_word mentioned (number / 64) label) (number % 64) ≡ true
  lane_true held at label below has is number letter =
      let low : number % 64 < 64 = omega arith in
      on-word_of (word_among (number / 64) 0 mentioned) label (number % 64) low
      ∙ (truth_agrees (held_in (word_among (number / 64) 0 mentioned) (number % 64)) held label
      (λ p one_of.
      input_lane number 0 mentioned number p (λ more. (let moved : 0 + more ≡ more = omega arith in ap (bit_at number) moved)) are.apart
      (are.covers at label p below has one_of)
      ∙ (ap (λ (list : List ℕ). holds_in list p) letter ∙ passing held p mentioned (are.covers at label p below has one_of)))
      ∙ is)

  pub exclusive : (count : ℕ) → AreExclusive (labels_of count state)
  exclusive count clash =
      let one : LabelTree = clash.0 in
      let other : LabelTree = clash.1.0 in
      let pair : IsPair (labels_of count state) one other = clash.1.1 in
      let held : ℕ → Bool = clash.1.2.0 in
      let parts = and_parts (truth held one) (truth held other) clash.1.2.1 in
      let first = has_label count pair.first one pair.first_is in
      let second = has_label count pair.second other pair.second_is in
      let letter = numbered held mentioned in
      let low : letter.0 % 64 < 64 = omega arith in
      apart (letter.0 / 64) (block-lt (length mentioned) letter.0 letter.1) pair.first pair.second (letter.0 % 64) one other pair.in_order second.0 low first.1 second.1
      (lane_true held pair.first one first.0 first.1 parts.0 letter.0 letter.2)
      (lane_true held pair.second other second.0 second.1 parts.1 letter.0 letter.2)

-- a state that is not defined has no labels
undefined_apart : (count number : ℕ) → AreExclusive (labels_of count (undefined number))
undefined_apart count number clash = absurd (let below = slice_get_within {A = LabelTree} [] clash.1.1.second clash.1.0 clash.1.1.second_is in omega arith)

-- so all states are exclusive if those that are defined are
pub states_apart : (a : Description) → ((place : ℕ) → place < length a.defined → (count : ℕ) → AreExclusive (labels_of count (get_or a.defined place (undefined 0))))
    → AreExclusiveBelow a a.states
states_apart a each number below = go a.defined (λ place within. each place within (length a.propositions))
  where
    go : (states : List State) → ((place : ℕ) → place < length states → AreExclusive (labels_of (length a.propositions) (get_or states place (undefined 0))))
        → AreExclusive (labels_of (length a.propositions) (state_among states number))
    go [] all = undefined_apart (length a.propositions) number
    go (state ∷ states) all = step (eqb state.number number) (all 0 (omega arith)) (go states (λ place within. all (suc place) (omega (arith, within))))
      where
        step : (here : Bool) → AreExclusive (labels_of (length a.propositions) state) → AreExclusive (labels_of (length a.propositions) (state_among states number))
            → AreExclusive (labels_of (length a.propositions) (if here then state else state_among states number))
        step true first rest = first
        step false first rest = rest
