-- The questions of one state more.
use Rattle.std.proofs.Common.{◌≡◌, ℕ, zero, suc, ◌+◌, ◌-◌, ◌<◌, ◌≤◌, inl, inr, Bool, false, All, List, [], ◌∷◌, ◌++◌, length, get_or, sym, ap, refl, ◌∙◌, subst, arith, length-append}
use Rattle.std.specs.List.Sorted.{IsStrictlyIncreasing}
use Rattle.std.proofs.Math.Seq.{get_or-append_seam}
use Rattle.std.proofs.lemmas.Bool.{cases_eq, cases_lt}
use Rattle.std.proofs.lemmas.List.{flat_map_more, get_or-append-add, get_or_append_left}
use Rattle.std.proofs.lemmas.List.Concat.{length-flat_map}
use Rattle.std.proofs.lemmas.List.Sums.{sum_by-cons}
use Rattle.std.proofs.lemmas.Option.{slice_get_within}
use Rattle.omega_text.specs.declared.refusal.Refusal.{Refusal}
use Rattle.omega_text.specs.declared.refusal.Refusal.TheVariants.{Automaton, Circuit, Game, Io, Memory, Task, Text}
use Rattle.omega_hoa_automaton.specs.Automaton.{Description, edges_of}
use Rattle.omega_game_values.specs.Limits.{most_nodes}
use Rattle.omega_lang_runs.specs.Places.{ArePlaces}
use Rattle.omega_lang_runs.specs.declared.place.EdgePlace.{EdgePlace}
use Rattle.omega_synth_rounds.specs.Extracting.{HaveSameNumbers}
use Rattle.omega_synth_rounds.specs.Rounds.{no_range}
use Rattle.omega_synth_rounds.specs.declared.rounds.QuestionRange.{QuestionRange}
use Rattle.omega_synth_controllers.specs.Controllers.{Answers}
use Rattle.omega_synth_game.specs.Answering.{AreAnswersAmong}
use Rattle.omega_synth_game.specs.Classes.{AreEdgesFrom, IsFirstLetter}
use Rattle.omega_synth_game.specs.Making.{AllLeave, AreClasses, AreClassesOf, AreQuestionsOf, HasManyQuestions, HaveFewInputs, IsQuestionsOfRefusal, IsRoundsOfRefusal, class_count, ranges_from}
use Rattle.omega_synth_game.specs.private.Making.{AreAskedInTurn, AreStatesAsked, IsInRange, StatesLeave, range_of}
use Rattle.omega_synth_game.specs.Letters.{holds_in, letter_of}
use Rattle.omega_synth_game.proofs.Those.{those_members, those_rising}

same_default : (xs : List ℕ) (k : ℕ) (d e : ℕ) → k < length xs → get_or xs k d ≡ get_or xs k e
same_default [] k d e below = absurd (omega arith)
same_default (x ∷ xs) zero d e below = refl
same_default (x ∷ xs) (suc k) d e below = same_default xs k d e (omega arith)

-- edges that leave a state have places
pub leave_below : (a : Description) (places : List EdgePlace) (state : ℕ) (numbers : List ℕ) → ArePlaces a places → AllLeave a state numbers
    → All (λ number. number < length places) numbers
leave_below a places state numbers are leave k d below =
    let number : ℕ = get_or numbers k d in
    let leaving = leave number (k, below, same_default numbers k number d below) in
    omega (arith, are.all, slice_get_within (edges_of a) number leaving.edge leaving.numbered)

module _ (a : Description) (controlled : List ℕ) where
  moved : (one other letter its answers same : List ℕ) → one ≡ other → letter ≡ its → answers ≡ same
      → AreAnswersAmong a controlled one (holds_in letter) answers → AreAnswersAmong a controlled other (holds_in its) same
  moved one other letter its answers same p q r are =
      subst (λ (list : List ℕ). AreAnswersAmong a controlled other (holds_in its) list) r
      (subst (λ (l : List ℕ). AreAnswersAmong a controlled other (holds_in l) answers) q
      (subst (λ (list : List ℕ). AreAnswersAmong a controlled list (holds_in letter) answers) p are))

  moved_given : (one other answers same : List ℕ) (given : ℕ → Bool) → one ≡ other → answers ≡ same → AreAnswersAmong a controlled one given answers
      → AreAnswersAmong a controlled other given same
  moved_given one other answers same given p r are =
      subst (λ (list : List ℕ). AreAnswersAmong a controlled other given list) r
      (subst (λ (list : List ℕ). AreAnswersAmong a controlled list given answers) p are)

  moved_first : (one other letter its : List ℕ) → one ≡ other → letter ≡ its → IsFirstLetter a controlled one letter → IsFirstLetter a controlled other its
  moved_first one other letter its p q first =
      subst (λ (l : List ℕ). IsFirstLetter a controlled other l) q (subst (λ (list : List ℕ). IsFirstLetter a controlled list letter) p first)

  module _ (leaving : List (List ℕ)) (index : ℕ) (ranges : List QuestionRange) (letters answers : List (List ℕ))
      (are : AreStatesAsked a controlled leaving index ranges letters answers)
      (numbers : List ℕ) (here : numbers ≡ get_or leaving index []) (rises : IsStrictlyIncreasing numbers) (ls fresh : List (List ℕ))
      (of : AreQuestionsOf a controlled numbers ls fresh) where
    abbrev next : QuestionRange
    next = record { first = length answers; end = length answers + length fresh }

    abbrev longer : List QuestionRange
    longer = ranges ++ next ∷ []

    old_range : (s : ℕ) → s < index → range_of ranges s ≡ range_of longer s
    old_range s below = sym (get_or_append_left ranges (next ∷ []) no_range s (omega (arith, below, are.entries)))

    new_range : (s : ℕ) → s ≡ index → next ≡ range_of longer s
    new_range s same =
        sym (ap (λ n. get_or longer n no_range) (same ∙ sym are.entries) ∙ get_or-append_seam ranges next [] no_range)

    old_answer : (q : ℕ) → q < length answers → get_or answers q [] ≡ get_or (answers ++ fresh) q []
    old_answer q below = sym (get_or_append_left answers fresh [] q below)

    old_letter : (q : ℕ) → q < length answers → letter_of letters q ≡ letter_of (letters ++ ls) q
    old_letter q below = sym (get_or_append_left letters ls [] q (omega (arith, below, are.paired)))

    new_answer : (k q : ℕ) → q ≡ length answers + k → get_or fresh k [] ≡ get_or (answers ++ fresh) q []
    new_answer k q is = sym (ap (λ n. get_or (answers ++ fresh) n []) is ∙ get_or-append-add answers fresh k [])

    new_letter : (k q : ℕ) → q ≡ length answers + k → letter_of ls k ≡ letter_of (letters ++ ls) q
    new_letter k q is = sym (ap (λ n. get_or (letters ++ ls) n []) (is ∙ ap (λ n. n + k) are.paired) ∙ get_or-append-add letters ls k [])

    some_question : 0 < length fresh
    some_question = let found = of.every (λ p. false) in omega (arith, found.1, of.answered.entries)

    same_numbers : (one other its same : List ℕ) → one ≡ its → other ≡ same → HaveSameNumbers its same → HaveSameNumbers one other
    same_numbers one other its same p q have =
        subst (λ (list : List ℕ). HaveSameNumbers list other) (sym p) (subst (λ (list : List ℕ). HaveSameNumbers its list) (sym q) have)

    in_old : (s q : ℕ) → s < index → IsInRange (range_of longer s) q → IsInRange (range_of ranges s) q
    in_old s q below inside = subst (λ (range : QuestionRange). IsInRange range q) (sym (old_range s below)) inside

    in_new : (s q : ℕ) → s ≡ index → IsInRange (range_of longer s) q → IsInRange next q
    in_new s q same inside = subst (λ (range : QuestionRange). IsInRange range q) (sym (new_range s same)) inside

    pub states_more : AreStatesAsked a controlled leaving (index + 1) longer (letters ++ ls) (answers ++ fresh)
    states_more = record {
      entries = length-append ranges (next ∷ []) ∙ omega (arith, are.entries);
      paired = omega (arith, length-append answers fresh, length-append letters ls, are.paired, of.answered.entries);
      some = λ s below. elim (cases_eq s index) [
        | inl same ↦ omega (arith, ap (λ (r : QuestionRange). r.first) (new_range s same), ap (λ (r : QuestionRange). r.end) (new_range s same), some_question)
        | inr apart ↦
            let earlier : s < index = omega (arith, below, apart) in
            omega (arith, ap (λ (r : QuestionRange). r.first) (old_range s earlier), ap (λ (r : QuestionRange). r.end) (old_range s earlier), are.some s earlier)
      ];
      within = λ s below. elim (cases_eq s index) [
        | inl same ↦ omega (arith, ap (λ (r : QuestionRange). r.end) (new_range s same), length-append answers fresh)
        | inr apart ↦
            let earlier : s < index = omega (arith, below, apart) in
            omega (arith, ap (λ (r : QuestionRange). r.end) (old_range s earlier), are.within s earlier, length-append answers fresh)
      ];
      owned = λ q below. elim (cases_lt q (length answers)) [
        | inl early ↦
            let found = are.owned q early in
            (found.0, omega (arith, found.1), subst (λ (range : QuestionRange). IsInRange range q) (old_range found.0 found.1) found.2)
        | inr late ↦
            (index, omega arith, subst (λ (range : QuestionRange). IsInRange range q) (new_range index refl) (omega (arith, late), omega (arith, below, length-append answers fresh)))
      ];
      each = λ s q below inside. elim (cases_eq s index) [
        | inl same ↦
            let own : IsInRange next q = in_new s q same inside in
            let k : ℕ = q - length answers in
            let is : q ≡ length answers + k = omega (arith, own.0) in
            moved numbers (get_or leaving s []) (letter_of ls k) (letter_of (letters ++ ls) q) (get_or fresh k []) (get_or (answers ++ fresh) q [])
            (here ∙ ap (λ n. get_or leaving n []) (sym same)) (new_letter k q is) (new_answer k q is)
            (those_members (λ n. Answers a controlled n (holds_in (letter_of ls k))) numbers (get_or fresh k [])
            (of.answered.each k (omega (arith, own.0, own.1, of.answered.entries))))
        | inr apart ↦
            let earlier : s < index = omega (arith, below, apart) in
            let own : IsInRange (range_of ranges s) q = in_old s q earlier inside in
            let early : q < length answers = omega (arith, own.1, are.within s earlier) in
            moved (get_or leaving s []) (get_or leaving s []) (letter_of letters q) (letter_of (letters ++ ls) q) (get_or answers q []) (get_or (answers ++ fresh) q [])
            refl (old_letter q early) (old_answer q early) (are.each s q earlier own)
      ];
      every = λ s given below. elim (cases_eq s index) [
        | inl same ↦
            let found = of.every given in
            let q : ℕ = length answers + found.0 in (
              q,
              subst (λ (range : QuestionRange). IsInRange range q) (new_range s same) (omega arith, omega (arith, found.1, of.answered.entries)),
              moved_given numbers (get_or leaving s []) (get_or fresh found.0 []) (get_or (answers ++ fresh) q []) given
                  (here ∙ ap (λ n. get_or leaving n []) (sym same)) (new_answer found.0 q refl) found.2,
            )
        | inr apart ↦
            let earlier : s < index = omega (arith, below, apart) in
            let found = are.every s given earlier in
            let early : found.0 < length answers = omega (arith, found.1.1, are.within s earlier) in (
              found.0,
              subst (λ (range : QuestionRange). IsInRange range found.0) (old_range s earlier) found.1,
              moved_given (get_or leaving s []) (get_or leaving s []) (get_or answers found.0 []) (get_or (answers ++ fresh) found.0 []) given
                  refl (old_answer found.0 early) found.2,
            )
      ];
      apart = λ s one other below in_one in_other have. elim (cases_eq s index) [
        | inl same ↦
            let own_one : IsInRange next one = in_new s one same in_one in
            let own_other : IsInRange next other = in_new s other same in_other in
            let i : ℕ = one - length answers in
            let j : ℕ = other - length answers in
            let one_is : one ≡ length answers + i = omega (arith, own_one.0) in
            let other_is : other ≡ length answers + j = omega (arith, own_other.0) in
            let equal : i ≡ j =
            of.apart i j (omega (arith, own_one.0, own_one.1)) (omega (arith, own_other.0, own_other.1))
            (same_numbers (get_or fresh i []) (get_or fresh j []) (get_or (answers ++ fresh) one []) (get_or (answers ++ fresh) other [])
            (new_answer i one one_is) (new_answer j other other_is) have) in
            omega (arith, one_is, other_is, equal)
        | inr apart ↦
            let earlier : s < index = omega (arith, below, apart) in
            let own_one : IsInRange (range_of ranges s) one = in_old s one earlier in_one in
            let own_other : IsInRange (range_of ranges s) other = in_old s other earlier in_other in
            are.apart s one other earlier own_one own_other
            (same_numbers (get_or answers one []) (get_or answers other []) (get_or (answers ++ fresh) one []) (get_or (answers ++ fresh) other [])
            (old_answer one (omega (arith, own_one.1, are.within s earlier))) (old_answer other (omega (arith, own_other.1, are.within s earlier))) have)
      ];
      least = λ s q below inside. elim (cases_eq s index) [
        | inl same ↦
            let own : IsInRange next q = in_new s q same inside in
            let k : ℕ = q - length answers in
            let is : q ≡ length answers + k = omega (arith, own.0) in
            moved_first numbers (get_or leaving s []) (letter_of ls k) (letter_of (letters ++ ls) q)
            (here ∙ ap (λ n. get_or leaving n []) (sym same)) (new_letter k q is)
            (of.least k (omega (arith, own.0, own.1, of.answered.entries)))
        | inr apart ↦
            let earlier : s < index = omega (arith, below, apart) in
            let own : IsInRange (range_of ranges s) q = in_old s q earlier inside in
            moved_first (get_or leaving s []) (get_or leaving s []) (letter_of letters q) (letter_of (letters ++ ls) q)
            refl (old_letter q (omega (arith, own.1, are.within s earlier))) (are.least s q earlier own)
      ];
      rising = λ q below. elim (cases_lt q (length answers)) [
        | inl early ↦ subst IsStrictlyIncreasing (old_answer q early) (are.rising q early)
        | inr late ↦
            let k : ℕ = q - length answers in
            let asked : k < length ls = omega (arith, late, below, length-append answers fresh, of.answered.entries) in
            subst IsStrictlyIncreasing (new_answer k q (omega (arith, late)))
            (those_rising (λ n. Answers a controlled n (holds_in (letter_of ls k))) numbers (get_or fresh k []) rises (of.answered.each k asked))
      ];
    }

    pub states_at : (rs : List QuestionRange) (its xs : List (List ℕ)) → rs ≡ longer → its ≡ letters ++ ls → xs ≡ answers ++ fresh
        → AreStatesAsked a controlled leaving (index + 1) rs its xs
    states_at rs its xs p q r =
        subst (λ (list : List (List ℕ)). AreStatesAsked a controlled leaving (index + 1) rs its list) (sym r)
        (subst (λ (list : List (List ℕ)). AreStatesAsked a controlled leaving (index + 1) rs list (answers ++ fresh)) (sym q)
        (subst (λ (list : List QuestionRange). AreStatesAsked a controlled leaving (index + 1) list (letters ++ ls) (answers ++ fresh)) (sym p) states_more))

-- a range of so many questions
abbrev pub range_with : ℕ → ℕ → QuestionRange
range_with first count = record { first = first; end = first + count }

-- the range of one state more
ranges_more : (first : ℕ) (classes : List (List (List ℕ))) (fresh : List (List ℕ))
    → ranges_from first (classes ++ fresh ∷ []) ≡ ranges_from first classes ++ range_with (first + class_count classes) (length fresh) ∷ []
ranges_more first [] fresh =
    let same : first ≡ first + class_count [] = omega arith in
    ap (λ n. range_with n (length fresh) ∷ []) same
ranges_more first (here ∷ rest) fresh =
    let next : ℕ = first + length here in
    let same : next + class_count rest ≡ first + class_count (here ∷ rest) =
    omega (arith, sum_by-cons (λ (those : List (List ℕ)). length those) here rest) in
    ap (λ (list : List QuestionRange). range_with first (length here) ∷ list)
    (ranges_more next rest fresh ∙ ap (λ n. ranges_from next rest ++ range_with n (length fresh) ∷ []) same)

-- the classes of one state more
pub turn_more : (a : Description) (controlled : List ℕ) (leaving : List (List ℕ)) (index : ℕ) (ranges : List QuestionRange) (answers : List (List ℕ))
    (numbers : List ℕ) (ls fresh : List (List ℕ)) → AreAskedInTurn a controlled leaving index ranges answers → numbers ≡ get_or leaving index []
    → AreQuestionsOf a controlled numbers ls fresh → HaveFewInputs a controlled numbers
    → (rs : List QuestionRange) → rs ≡ ranges ++ range_with (length answers) (length fresh) ∷ []
    → (xs : List (List ℕ)) → xs ≡ answers ++ fresh → AreAskedInTurn a controlled leaving (index + 1) rs xs
turn_more a controlled leaving index ranges answers numbers ls fresh are here of few rs rs_is xs xs_is =
    let counted : length answers ≡ 0 + class_count are.classes =
    ap length are.listed ∙ length-flat_map (λ (those : List (List ℕ)). those) are.classes ∙ omega arith in
    record {
      classes = are.classes ++ fresh ∷ [];
      entries = length-append are.classes (fresh ∷ []) ∙ omega (arith, are.entries);
      each = λ state below. elim (cases_eq state index) [
        | inl same ↦
            let last : fresh ≡ get_or (are.classes ++ fresh ∷ []) state [] =
            sym (ap (λ n. get_or (are.classes ++ fresh ∷ []) n []) (same ∙ sym are.entries) ∙ get_or-append_seam are.classes fresh [] []) in
            subst (λ (classes : List (List ℕ)). AreClasses a controlled (get_or leaving state []) classes) last
            (subst (λ (list : List ℕ). AreClasses a controlled list fresh) (here ∙ ap (λ n. get_or leaving n []) (sym same))
            (record { letters = ls; questions = of; few = few }))
        | inr apart ↦
            let earlier : state < index = omega (arith, below, apart) in
            subst (λ (classes : List (List ℕ)). AreClasses a controlled (get_or leaving state []) classes)
            (sym (get_or_append_left are.classes (fresh ∷ []) [] state (omega (arith, earlier, are.entries)))) (are.each state earlier)
      ];
      listed = xs_is ∙ ap (λ (list : List (List ℕ)). list ++ fresh) are.listed ∙ flat_map_more (λ (those : List (List ℕ)). those) [] are.classes fresh;
      ranged =
          rs_is ∙ ap (λ (list : List QuestionRange). list ++ range_with (length answers) (length fresh) ∷ []) are.ranged
          ∙ ap (λ n. ranges_from 0 are.classes ++ range_with n (length fresh) ∷ []) counted ∙ sym (ranges_more 0 are.classes fresh);
    }

pub turn_none : (a : Description) (controlled : List ℕ) (leaving : List (List ℕ)) → AreAskedInTurn a controlled leaving 0 [] []
turn_none a controlled leaving = record {
  classes = [];
  entries = refl;
  each = λ state below. absurd (omega (arith, below));
  listed = refl;
  ranged = refl;
}

item_is : (xs : List (List ℕ)) (k : ℕ) (d e : List ℕ) → k < length xs → get_or xs k d ≡ get_or xs k e
item_is [] k d e below = absurd (omega arith)
item_is (x ∷ xs) zero d e below = refl
item_is (x ∷ xs) (suc k) d e below = item_is xs k d e (omega arith)

-- the numbers listed for a state
pub listed : (leaving : List (List ℕ)) (index : ℕ) (item numbers : List ℕ) → index < length leaving → item ≡ get_or leaving index item → numbers ≡ item
    → numbers ≡ get_or leaving index []
listed leaving index item numbers below here is = is ∙ here ∙ item_is leaving index item [] below

-- the classes of the first states
classes_of : (a : Description) (controlled : List ℕ) (leaving : List (List ℕ)) (states : ℕ) (ranges : List QuestionRange) (answers : List (List ℕ))
    → StatesLeave a leaving → states ≤ length leaving → (are : AreAskedInTurn a controlled leaving states ranges answers)
    → AreClassesOf a controlled are.classes
classes_of a controlled leaving states ranges answers leave within are state below =
    let early : state < states = omega (arith, below, are.entries) in
    record { numbers = get_or leaving state []; leave = leave.1 state (omega (arith, early, within)); are = are.each state early }

counted : (a : Description) (controlled : List ℕ) (leaving : List (List ℕ)) (states : ℕ) (ranges : List QuestionRange) (answers : List (List ℕ))
    → (are : AreAskedInTurn a controlled leaving states ranges answers) → length answers ≡ class_count are.classes
counted a controlled leaving states ranges answers are = ap length are.listed ∙ length-flat_map (λ (those : List (List ℕ)). those) are.classes

-- the first states have too many questions
pub many : (a : Description) (controlled : List ℕ) (leaving : List (List ℕ)) (states : ℕ) (ranges : List QuestionRange) (answers : List (List ℕ))
    → StatesLeave a leaving → states ≤ length leaving → AreAskedInTurn a controlled leaving states ranges answers → most_nodes < length answers
    → HasManyQuestions a controlled
many a controlled leaving states ranges answers leave within are more = record {
  classes = are.classes;
  few = omega (arith, are.entries, leave.0, within);
  each = classes_of a controlled leaving states ranges answers leave within are;
  many = omega (arith, more, counted a controlled leaving states ranges answers are);
}

-- what hinders the questions of the next state hinders the rounds
pub state_unmade : (a : Description) (controlled : List ℕ) (leaving : List (List ℕ)) (states : ℕ) (ranges : List QuestionRange) (answers : List (List ℕ))
    (numbers : List ℕ) (e : Refusal) → StatesLeave a leaving → states < length leaving → AreAskedInTurn a controlled leaving states ranges answers
    → length answers ≤ most_nodes → numbers ≡ get_or leaving states [] → IsQuestionsOfRefusal a controlled numbers e → IsRoundsOfRefusal a controlled e
state_unmade a controlled leaving states ranges answers numbers e leave within are few here refused = go e refused
  where
    go : (e : Refusal) → IsQuestionsOfRefusal a controlled numbers e → IsRoundsOfRefusal a controlled e
    go (Task fault) asking = record {
      before = are.classes;
      below = omega (arith, are.entries, within, leave.0);
      each = classes_of a controlled leaving states ranges answers leave (omega (arith, within)) are;
      fit = omega (arith, few, counted a controlled leaving states ranges answers are);
      numbers = numbers;
      leave = subst (λ (n : ℕ). AreEdgesFrom a n numbers) (sym are.entries)
          (subst (λ (list : List ℕ). AreEdgesFrom a states list) (sym here) (leave.1 states within));
      asking = asking;
    }
    go Memory asking = asking
    go (Text fault) asking = absurd asking
    go (Game fault) asking = absurd asking
    go (Circuit fault) asking = absurd asking
    go (Automaton fault) asking = absurd asking
    go Io asking = absurd asking

-- before any state
pub states_none : (a : Description) (controlled : List ℕ) (leaving : List (List ℕ)) → AreStatesAsked a controlled leaving 0 [] [] []
states_none a controlled leaving = record {
  entries = refl;
  paired = refl;
  some = λ s below. absurd (omega (arith, below));
  within = λ s below. absurd (omega (arith, below));
  owned = λ q below. absurd (omega (arith, below));
  each = λ s q below inside. absurd (omega (arith, below));
  every = λ s given below. absurd (omega (arith, below));
  apart = λ s one other below in_one in_other have. absurd (omega (arith, below));
  least = λ s q below inside. absurd (omega (arith, below));
  rising = λ q below. absurd (omega (arith, below));
}
