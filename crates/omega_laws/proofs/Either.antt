-- The union of two automata accepts what one of them accepts.
use Rattle.std.proofs.Common.{◌≡◌, ◌↔◌, ◌⊎◌, ℕ, ◌+◌, ◌<◌, ◌≤◌, inl, inr, Bool, true, false, cond, Option, Some, None, List, [], ◌∷◌, length, Contains, refl, sym, ap, subst, ◌∙◌, arith}
use Rattle.std.specs.List.{position_or_len}
use Rattle.std.specs.Str.{bytes_eq}
use Rattle.std.proofs.lemmas.List.{length-map}
use Rattle.std.proofs.lemmas.List.Elements.{All-contains, Contains-append_cases, Contains-append_left, Contains-append_right}
use Rattle.omega_hoa_acceptance.specs.Acceptance.{AccTree, holds}
use Rattle.omega_hoa_automaton.specs.Automaton.{AreTargets, Description, IsAutomaton, sets_of}
use Rattle.omega_lang_product.specs.Acceptance.{moved_after}
use Rattle.omega_lang_product.specs.Joining.{joined_names, part_of_word, places_among}
use Rattle.omega_lang_product.specs.Pairs.{first_view, second_view}
use Rattle.omega_lang_product.proofs.Membership.{Contains-here}
use Rattle.omega_lang_runs.specs.Lasso.{IsStart, marks_at}
use Rattle.omega_lang_runs.specs.Runs.{Satisfies}
use Rattle.omega_lang_runs.specs.Words.{IsAccepted}
use Rattle.omega_lang_union.specs.Parts.{Part, moved, starts_in}
use Rattle.omega_lang_union.specs.Sharing.{AreAlike, IsSharing, guard_of, guard_sets, guarded, holds_unmarked, separate_sets, shared_sets, union_acceptance}
use Rattle.omega_lang_union.specs.Union.{first_part, second_part, united}
use Rattle.omega_lang_union.specs.declared.sharing.Sharing.{Sharing}
use Rattle.omega_lang_union.proofs.Rising.{first_is_above, second_is_above}
use Rattle.omega_lang_word_laws.proofs.meeting.Lists.{contains_map, map_contains}
use Rattle.omega_lang_word_laws.proofs.meeting.Marks.{moved_nowhere}
use Rattle.omega_laws.specs.Unions.{UnionsAcceptEither}
use Rattle.omega_laws.proofs.Formulas.{guarded_never, guarded_off, guarded_on}
use Rattle.omega_laws.proofs.Marks.{guard_held, none_held, satisfied_back, satisfied_on}
use Rattle.omega_laws.proofs.UnionMoved.{IsOneMoved, marks_in, one_moved}
use Rattle.omega_laws.proofs.States.{first_state, second_state}
use Rattle.omega_laws.proofs.UnionWords.{accepted_back, accepted_on, marks_below}

-- the number of a guard
guard_number : (number set : ℕ) (b : Bool) → cond b (Some number) None ≡ Some set → set ≡ number
guard_number number set true is = cc
guard_number number set false is = absurd (none is)
  where
    none : ◌≡◌ {A = Option ℕ} None (Some set) → ⊥
    none e = cc

one_guard : (number : ℕ) (f : AccTree) → holds_unmarked f ≡ true → length (guard_sets (guard_of number f)) ≡ 1
one_guard number f is = ap (λ (b : Bool). length (guard_sets (cond b (Some number) None))) is

-- a start, moved
module _ (part : Part) (starts : List (List ℕ)) where
  start_there : (state : ℕ) → Contains starts (state ∷ []) → Contains (starts_in part starts) ((part.states + state) ∷ [])
  start_there state has = contains_map (moved part.states) starts (state ∷ []) has

  record IsStartFrom (to : ℕ) : Type 0 where
    pub start : ℕ
    pub is : to ≡ part.states + start
    pub has : Contains starts (start ∷ [])

  start_from : (to : ℕ) → Contains (starts_in part starts) (to ∷ []) → IsStartFrom to
  start_from to has =
      let from = map_contains (moved part.states) starts (to ∷ []) has in
      let one : IsOneMoved part.states from.0 to = one_moved part.states from.0 to from.2 in
      record { start = one.number; is = one.is; has = subst (Contains starts) one.alone from.1 }

pub start_low : (x : Description) → IsAutomaton x → (state : ℕ) → IsStart x state → state < x.states
start_low x automaton state begins =
    All-contains (λ n. n < x.states) (state ∷ []) state (All-contains (AreTargets x) x.starts (state ∷ []) automaton.starts begins).below (Contains-here state [])

formula_low : (x : Description) → IsAutomaton x → (set : ℕ) → Contains (sets_of x.acceptance) set → set < x.sets
formula_low x automaton set has = All-contains (λ n. n < x.sets) (sets_of x.acceptance) set automaton.sets has

module _ (one other : Description) (automaton : IsAutomaton one) (automaton' : IsAutomaton other) where
  -- what marks in the first part satisfy
  module _ (low : ℕ → List ℕ) (below : (i m : ℕ) → Contains (low i) m → m < one.sets) where
    abbrev in_first : Sharing → ℕ → List ℕ
    in_first sharing i = marks_in (first_part sharing one other) (low i)

    module _ (sharing : Sharing) (is : IsSharing one other sharing) where
      own_on : Satisfies low one.acceptance → Satisfies (in_first sharing) one.acceptance
      own_on h =
          subst (λ (f : AccTree). Satisfies (in_first sharing) f) (moved_nowhere one.acceptance)
          (satisfied_on (first_part sharing one other) one.sets (first_is_above one other sharing is) low below one.acceptance (formula_low one automaton) h)

      own_back : Satisfies (in_first sharing) one.acceptance → Satisfies low one.acceptance
      own_back h =
          satisfied_back (first_part sharing one other) one.sets (first_is_above one other sharing is) low below one.acceptance (formula_low one automaton)
          (subst (λ (f : AccTree). Satisfies (in_first sharing) f) (sym (moved_nowhere one.acceptance)) h)

    first_on : (sharing : Sharing) → IsSharing one other sharing → Satisfies low one.acceptance → Satisfies (in_first sharing) (union_acceptance sharing one other)
    first_on sharing (inl (alike, is)) h =
        let P : Sharing → Type 0 = λ s. Satisfies (in_first s) (union_acceptance s one other) in
        subst P (sym is) (own_on (shared_sets one) (inl (alike, refl)) h)
    first_on sharing (inr (apart, is)) h =
        let s : Sharing = separate_sets one other in
        let P : Sharing → Type 0 = λ s. Satisfies (in_first s) (union_acceptance s one other) in
        subst P (sym is)
        (inl (guarded_on (in_first s) s.first one.acceptance
        (guard_held (first_part s one other) one.sets (first_is_above one other s (inr (apart, refl))) low below)
        (own_on s (inr (apart, refl)) h)))

    first_back : (sharing : Sharing) → IsSharing one other sharing → Satisfies (in_first sharing) (union_acceptance sharing one other) → Satisfies low one.acceptance
    first_back sharing (inl (alike, is)) h =
        let P : Sharing → Type 0 = λ s. Satisfies (in_first s) (union_acceptance s one other) in
        own_back (shared_sets one) (inl (alike, refl)) (subst P is h)
    first_back sharing (inr (apart, is)) h =
        let P : Sharing → Type 0 = λ s. Satisfies (in_first s) (union_acceptance s one other) in
        go (subst P is h)
      where
        s : Sharing
        s = separate_sets one other

        sharing_is : IsSharing one other s
        sharing_is = inr (apart, refl)

        never : (set : ℕ) → (one.sets ≤ set) → (s.first ≡ Some set → ⊥) → (i : ℕ) → holds set (in_first s i) ≡ false
        never set past out =
            let far : 0 + one.sets ≤ set = omega (arith, past) in
            none_held (first_part s one other) one.sets (first_is_above one other s sharing_is) low below set (inr far) out

        go : Satisfies (in_first s) (union_acceptance s one other) → Satisfies low one.acceptance
        go (inl own) = own_back s sharing_is (guarded_off (in_first s) s.first one.acceptance own)
        go (inr theirs) =
            absurd (guarded_never (in_first s) (one.sets + other.sets + length (guard_sets s.first)) one.sets other.acceptance
            (λ set has. never (one.sets + set) (omega arith)
            (λ is.
            (let same : one.sets + set ≡ one.sets + other.sets = guard_number (one.sets + other.sets) (one.sets + set) (holds_unmarked one.acceptance) is in
            let small : set < other.sets = formula_low other automaton' set has in
            absurd (omega (arith, same, small)))))
            (λ unmarked. never (one.sets + other.sets + length (guard_sets s.first)) (omega arith)
            (λ is.
            (let same : one.sets + other.sets + length (guard_sets s.first) ≡ one.sets + other.sets =
            guard_number (one.sets + other.sets) (one.sets + other.sets + length (guard_sets s.first)) (holds_unmarked one.acceptance) is in
            let longer : length (guard_sets s.first) ≡ 1 = ap (λ (g : Option ℕ). length (guard_sets g)) is in
            absurd (omega (arith, same, longer)))))
            theirs)

  -- what marks in the second part satisfy
  module _ (low : ℕ → List ℕ) (below : (i m : ℕ) → Contains (low i) m → m < other.sets) where
    abbrev in_second : Sharing → ℕ → List ℕ
    in_second sharing i = marks_in (second_part sharing one other) (low i)

    module _ (sharing : Sharing) (is : IsSharing one other sharing) where
      other_on : Satisfies low other.acceptance → Satisfies (in_second sharing) (moved_after sharing.before other.acceptance)
      other_on h = satisfied_on (second_part sharing one other) other.sets (second_is_above one other sharing is) low below other.acceptance (formula_low other automaton') h

      other_back : Satisfies (in_second sharing) (moved_after sharing.before other.acceptance) → Satisfies low other.acceptance
      other_back h = satisfied_back (second_part sharing one other) other.sets (second_is_above one other sharing is) low below other.acceptance (formula_low other automaton') h

    shared_formula : AreAlike one other → moved_after 0 other.acceptance ≡ one.acceptance
    shared_formula alike = moved_nowhere other.acceptance ∙ sym alike.1

    second_on : (sharing : Sharing) → IsSharing one other sharing → Satisfies low other.acceptance → Satisfies (in_second sharing) (union_acceptance sharing one other)
    second_on sharing (inl (alike, is)) h =
        let P : Sharing → Type 0 = λ s. Satisfies (in_second s) (union_acceptance s one other) in
        subst P (sym is)
        (subst (λ (f : AccTree). Satisfies (in_second (shared_sets one)) f) (shared_formula alike) (other_on (shared_sets one) (inl (alike, refl)) h))
    second_on sharing (inr (apart, is)) h =
        let s : Sharing = separate_sets one other in
        let P : Sharing → Type 0 = λ s. Satisfies (in_second s) (union_acceptance s one other) in
        subst P (sym is)
        (inr (guarded_on (in_second s) s.second (moved_after one.sets other.acceptance)
        (guard_held (second_part s one other) other.sets (second_is_above one other s (inr (apart, refl))) low below)
        (other_on s (inr (apart, refl)) h)))

    second_back : (sharing : Sharing) → IsSharing one other sharing → Satisfies (in_second sharing) (union_acceptance sharing one other) → Satisfies low other.acceptance
    second_back sharing (inl (alike, is)) h =
        let P : Sharing → Type 0 = λ s. Satisfies (in_second s) (union_acceptance s one other) in
        other_back (shared_sets one) (inl (alike, refl))
        (subst (λ (f : AccTree). Satisfies (in_second (shared_sets one)) f) (sym (shared_formula alike)) (subst P is h))
    second_back sharing (inr (apart, is)) h =
        let P : Sharing → Type 0 = λ s. Satisfies (in_second s) (union_acceptance s one other) in
        go (subst P is h)
      where
        s : Sharing
        s = separate_sets one other

        sharing_is : IsSharing one other s
        sharing_is = inr (apart, refl)

        never : (set : ℕ) → (set < one.sets) ⊎ (one.sets + other.sets ≤ set) → (s.second ≡ Some set → ⊥) → (i : ℕ) → holds set (in_second s i) ≡ false
        never set outside out = none_held (second_part s one other) other.sets (second_is_above one other s sharing_is) low below set outside out

        go : Satisfies (in_second s) (union_acceptance s one other) → Satisfies low other.acceptance
        go (inr own) = other_back s sharing_is (guarded_off (in_second s) s.second (moved_after one.sets other.acceptance) own)
        go (inl theirs) =
            absurd (guarded_never (in_second s) (one.sets + other.sets) 0 one.acceptance
            (λ set has.
            (let small : set < one.sets = formula_low one automaton set has in
            never (0 + set) (inl (omega (arith, small)))
            (λ is.
            (let same : 0 + set ≡ one.sets + other.sets + length (guard_sets s.first) =
            guard_number (one.sets + other.sets + length (guard_sets s.first)) (0 + set) (holds_unmarked other.acceptance) is in
            absurd (omega (arith, same, small))))))
            (λ unmarked. never (one.sets + other.sets) (inr (omega arith))
            (λ is.
            (let same : one.sets + other.sets ≡ one.sets + other.sets + length (guard_sets s.first) =
            guard_number (one.sets + other.sets + length (guard_sets s.first)) (one.sets + other.sets) (holds_unmarked other.acceptance) is in
            let longer : length (guard_sets s.first) ≡ 1 = one_guard (one.sets + other.sets) one.acceptance unmarked in
            absurd (omega (arith, same, longer)))))
            (subst (λ (f : AccTree). Satisfies (in_second s) (guarded s.first f)) (sym (moved_nowhere one.acceptance)) theirs))

  -- both directions, for the union itself
  module _ (sharing : Sharing) (is : IsSharing one other sharing) (u_automaton : IsAutomaton (united sharing one other)) (word : ℕ → ℕ → Bool) where
    abbrev first : Part
    first = first_part sharing one other

    abbrev second : Part
    second = second_part sharing one other

    abbrev u : Description
    u = united sharing one other

    abbrev joined : List (List ℕ)
    joined = joined_names one.propositions other.propositions

    long : (names : List (List ℕ)) → length (places_among joined names) ≡ length names
    long names = length-map names (λ (name : List ℕ). position_or_len (bytes_eq name) joined)

    from_first : IsAccepted one (part_of_word first.places word) → IsAccepted u word
    from_first accepted =
        let begins = accepted.accepting.run.begins in
        accepted_on one u first (long one.propositions) (first_state sharing one other) automaton u_automaton word accepted (start_low one automaton (accepted.states 0) begins)
        (Contains-append_left (starts_in first one.starts) (starts_in second other.starts) ((first.states + accepted.states 0) ∷ []) (start_there first one.starts (accepted.states 0) begins))
        (first_on (λ i. marks_at one (accepted.edges i)) (λ i. marks_below one automaton (accepted.edges i)) sharing is accepted.accepting.accepted)

    from_second : IsAccepted other (part_of_word second.places word) → IsAccepted u word
    from_second accepted =
        let begins = accepted.accepting.run.begins in
        accepted_on other u second (long other.propositions) (λ number below. second_state sharing one other automaton number) automaton' u_automaton word accepted (start_low other automaton' (accepted.states 0) begins)
        (Contains-append_right (starts_in first one.starts) (starts_in second other.starts) ((second.states + accepted.states 0) ∷ []) (start_there second other.starts (accepted.states 0) begins))
        (second_on (λ i. marks_at other (accepted.edges i)) (λ i. marks_below other automaton' (accepted.edges i)) sharing is accepted.accepting.accepted)

    of_either : IsAccepted u word → IsAccepted one (part_of_word first.places word) ⊎ IsAccepted other (part_of_word second.places word)
    of_either accepted =
        go (Contains-append_cases (starts_in first one.starts) (starts_in second other.starts) (accepted.states 0 ∷ []) accepted.accepting.run.begins)
      where
        in_one : IsStartFrom first one.starts (accepted.states 0) → IsAccepted one (part_of_word first.places word)
        in_one from =
            accepted_back one u first (long one.propositions) (first_state sharing one other) automaton u_automaton word accepted from.start from.is (start_low one automaton from.start from.has) from.has
            (λ low below h. first_back low below sharing is h)

        in_other : IsStartFrom second other.starts (accepted.states 0) → IsAccepted other (part_of_word second.places word)
        in_other from =
            accepted_back other u second (long other.propositions) (λ number below. second_state sharing one other automaton number) automaton' u_automaton word accepted from.start from.is
            (start_low other automaton' from.start from.has) from.has
            (λ low below h. second_back low below sharing is h)

        go : Contains (starts_in first one.starts) (accepted.states 0 ∷ []) ⊎ Contains (starts_in second other.starts) (accepted.states 0 ∷ [])
            → IsAccepted one (part_of_word first.places word) ⊎ IsAccepted other (part_of_word second.places word)
        go (inl has) = inl (in_one (start_from first one.starts (accepted.states 0) has))
        go (inr has) = inr (in_other (start_from second other.starts (accepted.states 0) has))

    same_words : IsAccepted u word ↔ (IsAccepted one (part_of_word first.places word) ⊎ IsAccepted other (part_of_word second.places word))
    same_words = (of_either, λ either. elim either [ inl accepted ↦ from_first accepted | inr accepted ↦ from_second accepted ])

pub accepted_by_one : UnionsAcceptEither
accepted_by_one one other a word automaton automaton' u_automaton plain plain' union =
    let P : Description → Type 0 = λ d. IsAutomaton d
    → (IsAccepted d word ↔ (IsAccepted one (part_of_word (first_view one other).places word) ⊎ IsAccepted other (part_of_word (second_view one other).places word))) in
    subst P (sym union.is) (λ auto. same_words one other automaton automaton' union.sharing union.shared auto word) u_automaton
