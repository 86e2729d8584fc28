-- Lists of terms to which others are added.
use Rattle.std.proofs.Common.{◌≡◌, ◌⊎◌, inl, inr, ◌<◌, ◌≤◌, ◌+◌, ◌-◌, ℕ, List, [], ◌∷◌, ◌++◌, length, get_or, set}
use Rattle.std.proofs.Common.{drop, take, take-append-drop, ap, sym, subst, ◌∙◌, arith}
use Rattle.std.specs.Prelude.{Contains}
use Rattle.std.specs.List.{swap_remove}
use Rattle.std.proofs.lemmas.Bool.{cases_eq, cases_lt}
use Rattle.std.proofs.lemmas.List.{get_or-set_other, get_or-set_same, get_or-take, get_or_default, length-set}
use Rattle.std.proofs.lemmas.List.{length-take-le, length_push}
use Rattle.std.proofs.lemmas.List.Quantifiers.{all_pairs_push}
use Rattle.std.proofs.lemmas.List.Elements.{Contains-append_cases, Contains-append_left}
use Rattle.std.proofs.lemmas.List.Elements.{Contains-append_right, Contains-get_or, Contains-push}
use Rattle.std.proofs.lemmas.List.Elements.{Contains-push_cases}
use Rattle.std.proofs.lemmas.List.Sorted.{Contains-permutation, IsPermutation-swap_remove, IsPermutation-sym}
use Rattle.std.specs.List.Sorted.{IsPermutation}
use Rattle.omega_ltl_shapes.specs.Demands.{Valuation}
use Rattle.omega_ltl_shapes.specs.Graphs.{IsGood}
use Rattle.omega_ltl_shapes.specs.Terms.{AreContradictory, IsWithin}
use Rattle.omega_ltl_shapes.specs.declared.shape.Shape.{Shape}
use Rattle.omega_ltl_shapes.specs.declared.term.Term.{Term}
use Rattle.omega_ltl_terms.specs.Adding.{AddsMinimal, AreApart, HasGood, HasRoom, HasWithin, IsApart}
use Rattle.omega_ltl_terms.specs.Adding.{Keeps}
use Rattle.omega_ltl_terms.specs.Products.{AddsJoins, AddsPairs}
use Rattle.omega_ltl_terms.specs.Ways.{IsJoined}
use Rattle.omega_ltl_terms.proofs.Within.{good_agree, good_both, has_good_within}
use Rattle.omega_ltl_terms.proofs.Within.{within_itself, within_more}

pub keeps_itself : (terms : List Term) → Keeps terms terms
keeps_itself terms = record { apart = λ a. a; roomy = λ r. r; within = λ room term h. (term, h, within_itself term) }

pub keeps_more : (old mid new : List Term) → Keeps old mid → Keeps mid new → Keeps old new
keeps_more old mid new a b = record {
  apart = λ x. b.apart (a.apart x);
  roomy = λ r. a.roomy (b.roomy r);
  within = λ room term h.
      let one = a.within (b.roomy room) term h in
      let two = b.within room one.0 one.1 in
      (two.0, two.1, within_more two.0 one.0 term two.2 one.2);
}

pub has_good_kept : {shapes : List Shape} (strongs : List ℕ) (v : Valuation shapes) (i : ℕ) (old new : List Term)
    → HasRoom new → Keeps old new → HasGood strongs v i old → HasGood strongs v i new
has_good_kept strongs v i old new room k has = has_good_within strongs v i new has.0 (k.within room has.0 has.1) has.2

-- what the first items have
pub contains_taken : (terms : List Term) (count : ℕ) (t : Term) → Contains (take count terms) t → Contains terms t
contains_taken terms count t h = subst (λ (xs : List Term). Contains xs t) (take-append-drop count terms) (Contains-append_left (take count terms) (drop count terms) t h)

-- one item
pub only_one : (term other : Term) → Contains (term ∷ []) other → term ≡ other
only_one term other h = elim (Contains-push_cases [] term other h) [ inl none ↦ absurd (omega (arith, none.1)) | inr same ↦ same ]

pub one_within : (one term : Term) → IsWithin one term → HasWithin (one ∷ []) term
one_within one term w = (one, Contains-push [] one, w)

pub good_of_one : {shapes : List Shape} (strongs : List ℕ) (v : Valuation shapes) (i : ℕ) (term : Term)
    → HasGood strongs v i (term ∷ []) → IsGood strongs v i term
good_of_one strongs v i term has = subst (λ (t : Term). IsGood strongs v i t) (sym (only_one term has.0 has.1)) has.2

pub has_within_left : (xs ys : List Term) (term : Term) → HasWithin xs term → HasWithin (xs ++ ys) term
has_within_left xs ys term has = (has.0, Contains-append_left xs ys has.0 has.1, has.2)

-- what is pushed if two terms do not contradict each other
pub joined_one : (with term joined : Term) (old new : List Term) → IsJoined with term joined → AddsMinimal joined old new
    → AddsJoins with (term ∷ []) old new
joined_one with term joined old new is a = record {
  keeps = a.keeps;
  only = λ t h. elim (a.only t h) [
    | inl there ↦ inl there
    | inr same ↦ inr (term, Contains-push [] term, subst (IsJoined with term) (sym same) is)
  ];
  good = λ room shapes strongs v i x y. has_good_within strongs v i new joined (a.added room)
      (good_both strongs v i with term joined is.of_both x (good_of_one strongs v i term y));
}

pub joined_none : (with term : Term) (old : List Term) → AreContradictory with.cube term.cube → AddsJoins with (term ∷ []) old old
joined_none with term old c = record {
  keeps = keeps_itself old;
  only = λ t h. inl h;
  good = λ room shapes strongs v i a b. absurd (good_agree strongs v i with term c a (good_of_one strongs v i term b));
}

pub joins_none : (with : Term) (old : List Term) → AddsJoins with [] old old
joins_none with old = record {
  keeps = keeps_itself old;
  only = λ t h. inl h;
  good = λ room shapes strongs v i a b. absurd (omega (arith, b.1.1));
}

pub joins_more : (with : Term) (xs ys old mid new : List Term) → AddsJoins with xs old mid → AddsJoins with ys mid new → AddsJoins with (xs ++ ys) old new
joins_more with xs ys old mid new a b = record {
  keeps = keeps_more old mid new a.keeps b.keeps;
  only = λ t h. elim (b.only t h) [
    | inl between ↦ elim (a.only t between) [ inl there ↦ inl there | inr new ↦ inr (new.0, Contains-append_left xs ys new.0 new.1, new.2) ]
    | inr new ↦ inr (new.0, Contains-append_right xs ys new.0 new.1, new.2)
  ];
  good = λ room shapes strongs v i one some. elim (Contains-append_cases xs ys some.0 some.1) [
    | inl here ↦ has_good_kept strongs v i mid new room b.keeps (a.good (b.keeps.roomy room) shapes strongs v i one (some.0, here, some.2))
    | inr here ↦ b.good room shapes strongs v i one (some.0, here, some.2)
  ];
}

-- over the limit nothing more is added
pub joins_full : (with : Term) (xs ys old new : List Term) → ((t : Term) → Contains xs t → Contains ys t) → (HasRoom new → ⊥) → AddsJoins with xs old new
    → AddsJoins with ys old new
joins_full with xs ys old new some full a = record {
  keeps = a.keeps;
  only = λ t h. elim (a.only t h) [ inl there ↦ inl there | inr new ↦ inr (new.0, some new.0 new.1, new.2) ];
  good = λ room. absurd (full room);
}

pub pairs_none : (with : Term) (seconds old : List Term) → AddsPairs with [] seconds old old
pairs_none with seconds old = record {
  keeps = keeps_itself old;
  only = λ t h. inl h;
  good = λ room shapes strongs v i a b c. absurd (omega (arith, b.1.1));
}

pub pairs_more : (with : Term) (xs ys seconds old mid new : List Term) → AddsPairs with xs seconds old mid → AddsPairs with ys seconds mid new
    → AddsPairs with (xs ++ ys) seconds old new
pairs_more with xs ys seconds old mid new a b = record {
  keeps = keeps_more old mid new a.keeps b.keeps;
  only = λ t h. elim (b.only t h) [
    | inl between ↦ elim (a.only t between) [
      | inl there ↦ inl there
      | inr new ↦ inr (new.0, (new.1.0, Contains-append_left xs ys new.1.0 new.1.1, new.1.2), new.2)
    ]
    | inr new ↦ inr (new.0, (new.1.0, Contains-append_right xs ys new.1.0 new.1.1, new.1.2), new.2)
  ];
  good = λ room shapes strongs v i one some others. elim (Contains-append_cases xs ys some.0 some.1) [
    | inl here ↦ has_good_kept strongs v i mid new room b.keeps (a.good (b.keeps.roomy room) shapes strongs v i one (some.0, here, some.2) others)
    | inr here ↦ b.good room shapes strongs v i one (some.0, here, some.2) others
  ];
}

pub pairs_full : (with : Term) (xs ys seconds old new : List Term) → ((t : Term) → Contains xs t → Contains ys t) → (HasRoom new → ⊥)
    → AddsPairs with xs seconds old new → AddsPairs with ys seconds old new
pairs_full with xs ys seconds old new some full a = record {
  keeps = a.keeps;
  only = λ t h. elim (a.only t h) [ inl there ↦ inl there | inr new ↦ inr (new.0, (new.1.0, some new.1.0 new.1.1, new.1.2), new.2) ];
  good = λ room. absurd (full room);
}

-- pairs with one first term that joins
pub pairs_one : (with first joined : Term) (seconds old new : List Term) → IsJoined with first joined → AddsJoins joined seconds old new
    → AddsPairs with (first ∷ []) seconds old new
pairs_one with first joined seconds old new is a = record {
  keeps = a.keeps;
  only = λ t h. elim (a.only t h) [
    | inl there ↦ inl there
    | inr new ↦ inr (joined, (first, Contains-push [] first, is), new)
  ];
  good = λ room shapes strongs v i one some others.
      a.good room shapes strongs v i (good_both strongs v i with first joined is.of_both one (good_of_one strongs v i first some)) others;
}

pub pairs_apart : (with first : Term) (seconds old : List Term) → AreContradictory with.cube first.cube → AddsPairs with (first ∷ []) seconds old old
pairs_apart with first seconds old c = record {
  keeps = keeps_itself old;
  only = λ t h. inl h;
  good = λ room shapes strongs v i one some others. absurd (good_agree strongs v i with first c one (good_of_one strongs v i first some));
}

-- a term is not added if one within it is there, or if the list is full
pub minimal_there : (old : List Term) (term : Term) → (HasRoom old → HasWithin old term) → AddsMinimal term old old
minimal_there old term has = record { keeps = keeps_itself old; added = has; only = λ t h. inl h; short = omega arith }

apart_pushed : (xs : List Term) (term : Term) → AreApart xs → ((t : Term) → Contains xs t → IsApart t term) → AreApart (xs ++ term ∷ [])
apart_pushed xs term apart new = all_pairs_push IsApart xs term apart (λ k d low. new (get_or xs k d) (Contains-get_or xs k d low))

-- else those that it is within are dropped
pub minimal_pushed : (old mid : List Term) (term : Term) → HasRoom old → (HasWithin old term → ⊥) → ((t : Term) → Contains mid t → Contains old t)
    → ((t : Term) → Contains mid t → IsWithin term t → ⊥)
    → ((t : Term) → Contains old t → Contains mid t ⊎ IsWithin term t) → (AreApart old → AreApart mid) → length mid ≤ length old
    → AddsMinimal term old (mid ++ term ∷ [])
minimal_pushed old mid term room none from above kept apart short = record {
  keeps = record {
    apart = λ a. apart_pushed mid term (apart a) (λ t h. (λ w. none (t, from t h, w), above t h));
    roomy = λ r. room;
    within = λ r t h. elim (kept t h) [
      | inl stays ↦ (t, Contains-append_left mid (term ∷ []) t stays, within_itself t)
      | inr over ↦ (term, Contains-push mid term, over)
    ];
  };
  added = λ r. (term, Contains-push mid term, within_itself term);
  only = λ t h. elim (Contains-push_cases mid term t h) [ inl there ↦ inl (from t there) | inr same ↦ inr (sym same) ];
  short = omega (arith, short, length_push mid term);
}

front_cases : (x : Term) (xs : List Term) (t : Term) → Contains (x ∷ xs) t → (x ≡ t) ⊎ Contains xs t
front_cases x xs t h = elim (Contains-append_cases (x ∷ []) xs t h) [ inl one ↦ inl (only_one x t one) | inr rest ↦ inr rest ]

-- two reads of one item
same_read : (xs : List Term) (i : ℕ) (one other : Term) → i < length xs → one ≡ get_or xs i one → other ≡ get_or xs i other → one ≡ other
same_read xs i one other low a b = a ∙ get_or_default xs i one other low ∙ sym b

-- what is there was there, and what was there is there or above a term; the first ones are not above it
pub record DropsAbove (term : Term) (at : ℕ) (old new : List Term) : Type 0 where
  pub from : (other : Term) → Contains new other → Contains old other
  pub kept : (other : Term) → Contains old other → Contains new other ⊎ IsWithin term other
  pub apart : AreApart old → AreApart new
  pub short : length new ≤ length old
  pub below : (i : ℕ) (d : Term) → i < at → IsWithin term (get_or new i d) → ⊥

pub drops_none : (term : Term) (old : List Term) → DropsAbove term 0 old old
drops_none term old = record { from = λ t h. h; kept = λ t h. inl h; apart = λ a. a; short = omega arith; below = λ i d low. absurd (omega arith) }

-- one that is not above the term stays
pub drops_same : (term : Term) (at : ℕ) (old new : List Term) (read : Term) → read ≡ get_or new at read → at < length new → (IsWithin term read → ⊥)
    → DropsAbove term at old new → DropsAbove term (at + 1) old new
drops_same term at old new read is low none drops = record {
  from = drops.from;
  kept = drops.kept;
  apart = drops.apart;
  short = drops.short;
  below = λ i d under w. elim (cases_lt i at) [
    | inl before ↦ drops.below i d before w
    | inr reached ↦ (let same : i ≡ at = omega arith in
        none (subst (IsWithin term) (ap (λ (n : ℕ). get_or new n d) same ∙ get_or_default new at d read low ∙ sym is) w))
  ];
}

-- the last item takes the place of one that is dropped
module _ (old : List Term) (i : ℕ) (x : Term) (low : i < length old) where
  moved_long : length (swap_remove old i x) + 1 ≡ length old
  moved_long = omega (
    arith,
    length-take-le (length old - 1) (set old i (get_or old (length old - 1) x))
        (omega (arith, length-set old i (get_or old (length old - 1) x))),
    low,
  )

  other_place : (k : ℕ) (d : Term) → k < length (swap_remove old i x) → (k ≡ i → ⊥) → get_or (swap_remove old i x) k d ≡ get_or old k d
  other_place k d under other = get_or-take (length old - 1) (set old i (get_or old (length old - 1) x)) k d (omega (arith, moved_long, under)) ∙ get_or-set_other old i k (get_or old (length old - 1) x) d other

  last_place : (k : ℕ) (d : Term) → k < length (swap_remove old i x) → k ≡ i → get_or (swap_remove old i x) k d ≡ get_or old (length old - 1) d
  last_place k d under same = get_or-take (length old - 1) (set old i (get_or old (length old - 1) x)) k d (omega (arith, moved_long, under)) ∙ ap (λ (n : ℕ). get_or (set old i (get_or old (length old - 1) x)) n d) same
      ∙ get_or-set_same old i (get_or old (length old - 1) x) d low ∙ get_or_default old (length old - 1) x d (omega (arith, low))

  apart_moved : AreApart old → AreApart (swap_remove old i x)
  apart_moved apart j k d less under = elim (cases_eq j i) [
    | inl first ↦ elim (cases_eq k i) [
      | inl second ↦ absurd (omega (arith, first, second, less))
      | inr other ↦ (let pair = apart k (length old - 1) d (omega (arith, moved_long, under)) (omega (arith, low)) in
          rw (last_place j d low_j first, other_place k d under other) (pair.1, pair.0))
    ]
    | inr apart_j ↦ elim (cases_eq k i) [
      | inl second ↦ rw (other_place j d low_j apart_j, last_place k d under second) (apart j (length old - 1) d (omega (arith, moved_long, less, under)) (omega (arith, low)))
      | inr other ↦ rw (other_place j d low_j apart_j, other_place k d under other) (apart j k d less (omega (arith, moved_long, under)))
    ]
  ]
    where
      low_j : j < length (swap_remove old i x)
      low_j = omega (arith, less, under)

-- the first items before the place stay
moved_before : (old : List Term) (i : ℕ) (x : Term) (k : ℕ) (d : Term) → i < length old → k < i → k < length (swap_remove old i x) → get_or (swap_remove old i x) k d ≡ get_or old k d
moved_before old i x k d low before under = other_place old i x low k d under (λ same. omega (arith, same, before))

-- one that is above the term is dropped
pub drops_more : (term : Term) (first old new : List Term) (i : ℕ) (read x : Term) → i < length old → read ≡ get_or old i read → x ≡ get_or old i x
    → new ≡ swap_remove old i x → IsWithin term read → DropsAbove term i first old → DropsAbove term i first new
drops_more term first old new i read x low a b is above drops = record {
  from = λ t h. drops.from t (Contains-permutation (x ∷ new) old t (IsPermutation-sym old (x ∷ new) moved) (Contains-append_right (x ∷ []) new t h));
  kept = λ t h. elim (drops.kept t h) [
    | inl there ↦ elim (front_cases x new t (Contains-permutation old (x ∷ new) t moved there)) [
      | inl same ↦ inr (subst (IsWithin term) (same_read old i read x low a b ∙ same) above)
      | inr rest ↦ inl rest
    ]
    | inr within ↦ inr within
  ];
  apart = λ all. subst AreApart (sym is) (apart_moved old i x low (drops.apart all));
  short = omega (arith, drops.short, ap length is, moved_long old i x low);
  below = λ k d before w. elim (cases_lt k (length new)) [
    | inl under ↦ drops.below k d before (subst (IsWithin term) (ap (λ (l : List Term). get_or l k d) is
        ∙ moved_before old i x k d low before (subst (λ (l : List Term). k < length l) is under)) w)
    | inr past ↦ absurd (omega (arith, past, before, low, ap length is, moved_long old i x low))
  ];
}
  where
    moved : IsPermutation old (x ∷ new)
    moved = subst (λ (xs : List Term). IsPermutation old (x ∷ xs)) (sym is) (IsPermutation-swap_remove old i x low b)

-- at the end of the list none is above the term
pub none_above : (term : Term) (at : ℕ) (old new : List Term) → length new ≤ at → DropsAbove term at old new → (t : Term) → Contains new t → IsWithin term t → ⊥
none_above term at old new end drops t h w = drops.below h.0 t (omega (arith, h.1, end)) (subst (IsWithin term) (sym h.2) w)
