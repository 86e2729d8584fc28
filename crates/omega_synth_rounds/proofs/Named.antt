-- Names of nodes, and that games with names have the faults of those without.
use Rattle.std.proofs.Common.{◌≡◌, ◌==◌, ℕ, ◌+◌, ◌-◌, ◌^◌, ◌<◌, ◌≤◌, ◌%◌, inl, inr, Bool, cond, List, [], ◌∷◌, ◌++◌, length, map, nat_lt, Option, Some, None, Result, Ok, Err, sym, ap, refl, ◌∙◌, subst, arith}
use Rattle.std.specs.Prelude.{IfErr, OnOk, codes, decimal, slice_index_or, sum_by}
use Rattle.std.specs.List.{All, list_any, range_with_len}
use Rattle.std.proofs.lemmas.Bool.{cases_eq, cases_lt, eq-eqb, le-ltb, lt-ltb, ne_eqb}
use Rattle.std.proofs.lemmas.Fmt.{decimal_by_steps}
use Rattle.std.proofs.lemmas.List.Sums.{sum_by-cons}
use Rattle.std.proofs.lemmas.List.Elements.{All-append, All-from_recursion}
use Rattle.omega_text.specs.Cases.{never, or_game, or_memory}
use Rattle.omega_text.specs.declared.refusal.Refusal.{Refusal}
use Rattle.omega_text.specs.declared.refusal.game.GameFault.{GameFault}
use Rattle.omega_game_values.specs.Building.{IsBuildRefusal, game_fault_of, has_duplicate, has_undefined, listed_successors, specified_times}
use Rattle.omega_game_values.specs.Game.{IsNameByte, Node}
use Rattle.omega_game_values.specs.Limits.{most_nodes}
use Rattle.omega_game_values.specs.declared.node_spec.NodeSpec.{NodeSpec}
use Rattle.omega_synth_rounds.specs.Naming.{IsNodeName, edge_name, edge_named, question_named, sink_named, state_name, state_named}
use Rattle.omega_synth_rounds.specs.Rounds.{IsAskedIn, IsRounds, range_at}
use Rattle.omega_synth_rounds.specs.RoundsGame.{FitsAGame, IsRoundsRefusal, edge_place, node_count, node_for, question_place, sink_place}
use Rattle.omega_synth_rounds.specs.declared.rounds.QuestionRange.{QuestionRange}
use Rattle.omega_synth_rounds.specs.declared.rounds.Rounds.{Rounds}
use Rattle.omega_synth_rounds.specs.private.Naming.{AreStatesBelow, AreStatesOf, named_node, node_name, question_name, state_of}
use Rattle.omega_synth_rounds.proofs.Making.{made_fits, made_refused}
use Rattle.omega_synth_rounds.proofs.Placing.{IsPlace, of_edge, of_question, of_sink, of_state, place_of}

-- the states of questions
module _ (rounds : Rounds) where
  pub states_none : (states : List ℕ) → length states ≡ length rounds.questions → AreStatesBelow rounds states 0
  states_none states entries = record { entries = entries; each = λ state question below asked. absurd (omega (arith, below)) }

  pub states_more : (before after : List ℕ) (count : ℕ) (range : QuestionRange) → count < length rounds.states
      → range ≡ range_at rounds count → AreStatesBelow rounds before count → length after ≡ length before
      → ((question : ℕ) → range.first ≤ question → question < range.end → slice_index_or after question 0 ≡ count)
      → ((question : ℕ) → question < range.first → slice_index_or after question 0 ≡ slice_index_or before question 0)
      → ((question : ℕ) → range.end ≤ question → slice_index_or after question 0 ≡ slice_index_or before question 0)
      → AreStatesBelow rounds after (count + 1)
  states_more before after count range low range_is are entries within below_it past_it = record {
    entries = entries ∙ are.entries;
    each = λ state question below asked. elim (cases_lt question range.first) [
      | inl early ↦ kept state question below asked (below_it question early) (λ e. omega (arith, early, first_at state question asked e))
      | inr from ↦ elim (cases_lt question range.end) [
        | inl high ↦ subst (λ (s : ℕ). IsAskedIn rounds s question) (sym (within question from high)) (here question from high)
        | inr past ↦ kept state question below asked (past_it question past) (λ e. omega (arith, past, end_at state question asked e))
      ]
    ];
  }
    where
      first_at : (state question : ℕ) → IsAskedIn rounds state question → state ≡ count → range.first ≤ question
      first_at state question asked e = subst (λ (r : QuestionRange). r.first ≤ question) (ap (range_at rounds) e ∙ sym range_is) asked.from

      end_at : (state question : ℕ) → IsAskedIn rounds state question → state ≡ count → question < range.end
      end_at state question asked e = subst (λ (r : QuestionRange). question < r.end) (ap (range_at rounds) e ∙ sym range_is) asked.until

      kept : (state question : ℕ) → state < count + 1 → IsAskedIn rounds state question
          → slice_index_or after question 0 ≡ slice_index_or before question 0 → (state ≡ count → ⊥)
          → IsAskedIn rounds (state_of after question) question
      kept state question below asked same other = elim (cases_eq state count) [
        | inl e ↦ absurd (other e)
        | inr apart ↦ subst (λ (s : ℕ). IsAskedIn rounds s question) (sym same) (are.each state question (omega arith) asked)
      ]

      here : (question : ℕ) → range.first ≤ question → question < range.end → IsAskedIn rounds count question
      here question from high = record {
        below = low;
        from = subst (λ (r : QuestionRange). r.first ≤ question) range_is from;
        until = subst (λ (r : QuestionRange). question < r.end) range_is high;
      }

  pub states_all : IsRounds rounds → (states : List ℕ) → AreStatesBelow rounds states (length rounds.states) → AreStatesOf rounds states
  states_all is_rounds states are = record {
    entries = are.entries;
    each = λ question below.
        let owner = is_rounds.owned question below in
        are.each owner.0 question owner.1.below owner.1;
  }

  -- which name each place has
  name_at_state : (states : List ℕ) (state : ℕ) → state < length rounds.states → node_name rounds states state ≡ state_name state
  name_at_state states state below = rw (lt-ltb state (length rounds.states) below) refl

  name_at_edge : (states : List ℕ) (number : ℕ) → number < length rounds.edges → node_name rounds states (edge_place rounds number) ≡ edge_name number
  name_at_edge states number below =
      let back : length rounds.states + number - length rounds.states ≡ number = omega arith in
      rw (
        le-ltb (length rounds.states + number) (length rounds.states) (omega arith),
        lt-ltb (length rounds.states + number) (sink_place rounds) (omega arith),
        back,
      ) refl

  name_at_sink : (states : List ℕ) → node_name rounds states (sink_place rounds) ≡ codes "sink"
  name_at_sink states =
      rw (
        le-ltb (sink_place rounds) (length rounds.states) (omega arith),
        le-ltb (sink_place rounds) (sink_place rounds) (omega arith),
        eq-eqb (sink_place rounds) (sink_place rounds) refl,
      ) refl

  name_at_question : (states : List ℕ) (question : ℕ) → node_name rounds states (question_place rounds question) ≡ question_name rounds states question
  name_at_question states question =
      let back : sink_place rounds + 1 + question - (sink_place rounds + 1) ≡ question = omega arith in
      rw (
        le-ltb (sink_place rounds + 1 + question) (length rounds.states) (omega arith),
        le-ltb (sink_place rounds + 1 + question) (sink_place rounds) (omega arith),
        ne_eqb (sink_place rounds + 1 + question) (sink_place rounds) (λ same. omega arith),
        back,
      ) refl

  named_at : (states : List ℕ) → AreStatesOf rounds states → (v : ℕ) → IsPlace rounds v → IsNodeName rounds v (node_name rounds states v)
  named_at states are v (of_state below) =
      subst (IsNodeName rounds v) (sym (name_at_state states v below)) (state_named v below)
  named_at states are v (of_edge number below is) =
      subst (λ (w : ℕ). IsNodeName rounds w (node_name rounds states w)) (sym is)
      (subst (IsNodeName rounds (edge_place rounds number)) (sym (name_at_edge states number below)) (edge_named number below))
  named_at states are v (of_sink is) =
      subst (λ (w : ℕ). IsNodeName rounds w (node_name rounds states w)) (sym is)
      (subst (IsNodeName rounds (sink_place rounds)) (sym (name_at_sink states)) sink_named)
  named_at states are v (of_question question below is) =
      subst (λ (w : ℕ). IsNodeName rounds w (node_name rounds states w)) (sym is)
      (subst (IsNodeName rounds (question_place rounds question)) (sym (name_at_question states question))
      (question_named (state_of states question) question (are.each question below)))

  pub name_is : (states : List ℕ) → AreStatesOf rounds states → (v : ℕ) → v < node_count rounds → IsNodeName rounds v (node_name rounds states v)
  name_is states are v below = named_at states are v (place_of rounds v below)

-- names have allowed bytes alone
decimal_bytes : (n : ℕ) → n < 2 ^ 64 → All IsNameByte (decimal n)
decimal_bytes n small = decimal_by_steps (λ m ds. All IsNameByte ds) one more n small
  where
    digit : (d : ℕ) → d < 10 → All IsNameByte ((48 + d) ∷ [])
    digit d below = All-from_recursion IsNameByte ((48 + d) ∷ []) ((omega arith, omega arith, λ e. omega (arith, e)), tt)

    one : (d : ℕ) → d < 10 → All IsNameByte ((48 + d) ∷ [])
    one d below = digit d below

    more : (m : ℕ) (ds : List ℕ) → 10 ≤ m → All IsNameByte ds → All IsNameByte (ds ++ (48 + m % 10) ∷ [])
    more m ds large all = All-append IsNameByte ds ((48 + m % 10) ∷ []) all (digit (m % 10) (omega arith))

byte : (b : ℕ) → 35 ≤ b → b ≤ 126 → IsNameByte b
byte b low high = (omega arith, high, λ e. omega (arith, low, e))

blank : IsNameByte 32
blank = (omega arith, omega arith, λ e. omega (arith, e))

state_word : All IsNameByte (codes "state ")
state_word = All-from_recursion IsNameByte (codes "state ") (
  byte 115 (omega arith) (omega arith),
  (
    byte 116 (omega arith) (omega arith),
    (
      byte 97 (omega arith) (omega arith),
      (
        byte 116 (omega arith) (omega arith),
        (
          byte 101 (omega arith) (omega arith),
          (blank, tt),
        ),
      ),
    ),
  ),
)

edge_word : All IsNameByte (codes "edge ")
edge_word = All-from_recursion IsNameByte (codes "edge ") (
  byte 101 (omega arith) (omega arith),
  (
    byte 100 (omega arith) (omega arith),
    (
      byte 103 (omega arith) (omega arith),
      (
        byte 101 (omega arith) (omega arith),
        (blank, tt),
      ),
    ),
  ),
)

sink_word : All IsNameByte (codes "sink")
sink_word = All-from_recursion IsNameByte (codes "sink") (
  byte 115 (omega arith) (omega arith),
  (
    byte 105 (omega arith) (omega arith),
    (
      byte 110 (omega arith) (omega arith),
      (byte 107 (omega arith) (omega arith), tt),
    ),
  ),
)

class_word : All IsNameByte (codes " class ")
class_word = All-from_recursion IsNameByte (codes " class ") (
  blank,
  (
    byte 99 (omega arith) (omega arith),
    (
      byte 108 (omega arith) (omega arith),
      (
        byte 97 (omega arith) (omega arith),
        (
          byte 115 (omega arith) (omega arith),
          (
            byte 115 (omega arith) (omega arith),
            (blank, tt),
          ),
        ),
      ),
    ),
  ),
)

name_allowed : (rounds : Rounds) → IsRounds rounds → (place : ℕ) (name : List ℕ) → node_count rounds ≤ most_nodes → IsNodeName rounds place name → All IsNameByte name
name_allowed rounds is_rounds place name fits (state_named state below) =
    All-append IsNameByte (codes "state ") (decimal state) state_word (decimal_bytes state (omega (arith, fits, below)))
name_allowed rounds is_rounds place name fits (edge_named number below) =
    All-append IsNameByte (codes "edge ") (decimal number) edge_word (decimal_bytes number (omega (arith, fits, below)))
name_allowed rounds is_rounds place name fits sink_named = sink_word
name_allowed rounds is_rounds place name fits (question_named state question asked) =
    let index : ℕ = question - (range_at rounds state).first in
    All-append IsNameByte (state_name state) (codes " class " ++ decimal index)
    (All-append IsNameByte (codes "state ") (decimal state) state_word (decimal_bytes state (omega (arith, fits, asked.below))))
    (All-append IsNameByte (codes " class ") (decimal index) class_word
    (decimal_bytes index (omega (arith, fits, asked.until, is_rounds.within state asked.below))))

pub name_bytes : (rounds : Rounds) → IsRounds rounds → (states : List ℕ) → AreStatesOf rounds states → node_count rounds ≤ most_nodes → (place : ℕ)
    → place < node_count rounds → All IsNameByte (node_name rounds states place)
name_bytes rounds is_rounds states are fits place below = name_allowed rounds is_rounds place (node_name rounds states place) fits (name_is rounds states are place below)

-- specifications with the same identifiers and the same successors
abbrev Alike : List NodeSpec → List NodeSpec → Type 0
Alike [] [] = Unit {0}
Alike [] (y ∷ ys) = ⊥
Alike (x ∷ xs) [] = ⊥
Alike (x ∷ xs) (y ∷ ys) = (x.id ≡ y.id) × (x.successors ≡ y.successors) × Alike xs ys

any_alike : (p q : NodeSpec → Bool) → ((x y : NodeSpec) → x.id ≡ y.id → x.successors ≡ y.successors → p x ≡ q y) → (xs ys : List NodeSpec)
    → Alike xs ys → list_any p xs ≡ list_any q ys
any_alike p q same [] [] are = refl
any_alike p q same [] (y ∷ ys) are = absurd are
any_alike p q same (x ∷ xs) [] are = absurd are
any_alike p q same (x ∷ xs) (y ∷ ys) (id, successors, rest) = rw (same x y id successors, any_alike p q same xs ys rest) refl

times_alike : (xs ys : List NodeSpec) (id : ℕ) → Alike xs ys → specified_times xs id ≡ specified_times ys id
times_alike [] [] id are = refl
times_alike [] (y ∷ ys) id are = absurd are
times_alike (x ∷ xs) [] id are = absurd are
times_alike (x ∷ xs) (y ∷ ys) id (same, successors, rest) =
    let one : NodeSpec → ℕ = λ (spec : NodeSpec). cond (spec.id == id) 1 0 in
    sum_by-cons one x xs
    ∙ ap (λ i. cond (i == id) 1 0 + sum_by one xs) same
    ∙ ap (λ n. one y + n) (times_alike xs ys id rest)
    ∙ sym (sum_by-cons one y ys)

listed_alike : (xs ys : List NodeSpec) → Alike xs ys → listed_successors xs ≡ listed_successors ys
listed_alike [] [] are = refl
listed_alike [] (y ∷ ys) are = absurd are
listed_alike (x ∷ xs) [] are = absurd are
listed_alike (x ∷ xs) (y ∷ ys) (id, successors, rest) =
    let count : NodeSpec → ℕ = λ (spec : NodeSpec). length spec.successors in
    sum_by-cons count x xs
    ∙ ap (λ (list : List ℕ). length list + sum_by count xs) successors
    ∙ ap (λ n. count y + n) (listed_alike xs ys rest)
    ∙ sym (sum_by-cons count y ys)

length_alike : (xs ys : List NodeSpec) → Alike xs ys → length xs ≡ length ys
length_alike [] [] are = refl
length_alike [] (y ∷ ys) are = absurd are
length_alike (x ∷ xs) [] are = absurd are
length_alike (x ∷ xs) (y ∷ ys) (id, successors, rest) = rw (length_alike xs ys rest) refl

fault_alike : (xs ys : List NodeSpec) → Alike xs ys → game_fault_of xs ≡ game_fault_of ys
fault_alike xs ys are = rw (duplicate, undefined, length_alike xs ys are, listed_alike xs ys are) refl
  where
    duplicate : has_duplicate xs ≡ has_duplicate ys
    duplicate =
        any_alike (λ spec. nat_lt 1 (specified_times xs spec.id)) (λ spec. nat_lt 1 (specified_times ys spec.id))
        (λ x y id successors. ap (nat_lt 1) (ap (specified_times xs) id ∙ times_alike xs ys y.id are)) xs ys are

    undefined : has_undefined xs ≡ has_undefined ys
    undefined =
        any_alike (λ spec. list_any (λ successor. specified_times xs successor == 0) spec.successors)
        (λ spec. list_any (λ successor. specified_times ys successor == 0) spec.successors)
        (λ x y id successors.
        ap (list_any (λ successor. specified_times xs successor == 0)) successors
        ∙ any_same y.successors) xs ys are
      where
        any_same : (list : List ℕ) → list_any (λ successor. specified_times xs successor == 0) list ≡ list_any (λ successor. specified_times ys successor == 0) list
        any_same [] = refl
        any_same (one ∷ rest) = rw (times_alike xs ys one are, any_same rest) refl

named_alike : (rounds : Rounds) (states places : List ℕ) → Alike (map (named_node rounds states) places) (map (node_for rounds) places)
named_alike rounds states [] = tt
named_alike rounds states (place ∷ places) = (refl, refl, named_alike rounds states places)

pub named_refused : (rounds : Rounds) → IsRounds rounds → (states : List ℕ) (r : Result (List Node) Refusal) (specs : List NodeSpec) (count : ℕ)
    → node_count rounds ≤ most_nodes → specs ≡ map (named_node rounds states) (range_with_len 0 count) → count ≡ node_count rounds
    → IfErr r (IsBuildRefusal specs) → IfErr r (IsRoundsRefusal rounds)
named_refused rounds is_rounds states r specs count fits is all refused =
    let named : List NodeSpec = map (named_node rounds states) (range_with_len 0 count) in
    let plain : List NodeSpec = map (node_for rounds) (range_with_len 0 count) in
    made_refused rounds is_rounds r plain count fits refl all
    (unnamed_refused r named plain (fault_alike named plain (named_alike rounds states (range_with_len 0 count)))
    (subst (λ (s : List NodeSpec). IfErr r (IsBuildRefusal s)) is refused))
  where
    unnamed_refused : (r : Result (List Node) Refusal) (xs ys : List NodeSpec) → game_fault_of xs ≡ game_fault_of ys
        → IfErr r (IsBuildRefusal xs) → IfErr r (IsBuildRefusal ys)
    unnamed_refused r xs ys same refused =
        subst (λ (f : Option GameFault). IfErr r (or_game (λ fault. f ≡ Some fault) (or_memory never))) same refused

-- without a fault it fits
pub named_fits : (rounds : Rounds) → IsRounds rounds → (states : List ℕ) (r : Result (List Node) Refusal) (specs : List NodeSpec) (count : ℕ)
    → node_count rounds ≤ most_nodes → specs ≡ map (named_node rounds states) (range_with_len 0 count) → count ≡ node_count rounds
    → OnOk r (game_fault_of specs ≡ None) → OnOk r (FitsAGame rounds)
named_fits rounds is_rounds states r specs count fits is all faultless =
    let named : List NodeSpec = map (named_node rounds states) (range_with_len 0 count) in
    let plain : List NodeSpec = map (node_for rounds) (range_with_len 0 count) in
    made_fits rounds is_rounds r plain count fits refl all
    (subst (λ (f : Option GameFault). OnOk r (f ≡ None))
    (ap game_fault_of is ∙ fault_alike named plain (named_alike rounds states (range_with_len 0 count))) faultless)

-- what an answer makes of a list is the same as what is wanted
pub on_ok_same : {X E : Type 0} (r : Result X E) (new made wanted : List NodeSpec) → OnOk r (new ≡ made) → made ≡ wanted → OnOk r (new ≡ wanted)
on_ok_same (Ok x) new made wanted is same = is ∙ same
on_ok_same (Err e) new made wanted is same = tt
