-- Reading parts as long as they follow.
use Rattle.std.proofs.Common.{◌≡◌, ℕ, Bool, true, false, List, [], ◌∷◌, ◌++◌, append_assoc, append-nil, refl, sym, ap, ◌∙◌, subst, Option, Some, None, Result, Ok, Err}
use Rattle.std.specs.Prelude.{IfOk, IfSome}
use Rattle.std.specs.List.{AllByRecursion}
use Rattle.omega_hoa_expression.specs.Unread.{IsUnread}
use Rattle.omega_hoa_expression.specs.Symbols.{EndsThere}
use Rattle.omega_hoa_syntax.proofs.BegunLemmas.{regrouped, spelled}
use Rattle.omega_hoa_syntax.proofs.SpellingLemmas.{first_then, next_clash, next_is, next_may}
use Rattle.omega_hoa_syntax.proofs.StepLemmas.{after_step, is_through, may_through, passes_after, passes_here, passes_then, unread_then, with_next}
use Rattle.omega_hoa_syntax.specs.Grammar.{each, optional_row}
use Rattle.omega_hoa_syntax.specs.private.steps.Joining.{Joins, each_joins}
use Rattle.omega_hoa_syntax.specs.private.steps.Reading.{EndsList, Given, IsBegun, IsUnwritten, IsWritten, NextIs, NextMayBe, Passes}
use Rattle.omega_hoa_syntax.specs.Symbols.{ReadsSymbols, AutomatonSymbol, Tokens}
use Rattle.omega_hoa_syntax.specs.First.{FirstIs}
use Rattle.omega_text.specs.declared.hoa.kind.HoaKind.{HoaKind}
use Rattle.omega_text.specs.declared.refusal.Refusal.{Refusal}

-- parts that are still to be read, after those that were read
pub record Remains {X : Type 0} (Is : X → Type 0) (row : X → List AutomatonSymbol → List AutomatonSymbol) (values all : List X) (now : Tokens) (others : List AutomatonSymbol) (rest : Tokens) : Type 0 where
  pub more : List X
  pub joined : values ≡ all ++ more
  pub are : AllByRecursion Is more
  pub spells : ReadsSymbols now (each row more others) rest

-- whatever was written as parts began with these, and the others remain
abbrev pub LeavesRemains : {X : Type 0} → (X → Type 0) → (X → List AutomatonSymbol → List AutomatonSymbol) → (HoaKind → Type 0) → List X → (tokens left : Tokens) → Type 0
LeavesRemains {X} Is row Last all tokens left =
    (values : List X) (others : List AutomatonSymbol) (rest : Tokens) → AllByRecursion Is values → FirstIs Last others → ReadsSymbols tokens (each row values others) rest
    → Remains Is row values all left others rest

-- these parts were read, and whatever was written goes through here
pub record IsReadTo {X : Type 0} (Is : X → Type 0) (row : X → List AutomatonSymbol → List AutomatonSymbol) (Last : HoaKind → Type 0) (old : Tokens) (all : List X) (now : Tokens) : Type 0 where
  pub given : Given (AllByRecursion Is) (each row) old now all
  pub remains : Passes (LeavesRemains Is row Last all) old now

-- what is known of a part
pub record IsPart {X : Type 0} (Is : X → Type 0) (row : X → List AutomatonSymbol → List AutomatonSymbol) (begins : HoaKind → Bool) (May : HoaKind → Type 0) : Type 0 where
  pub begun : (it : X) (others : List AutomatonSymbol) → Is it → FirstIs (λ kind. begins kind ≡ true) (row it others)
  pub joins : (it : X) → Joins (row it)
  pub follows : (kind : HoaKind) → begins kind ≡ true → May kind

-- nothing was read
pub read_none : {X : Type 0} (Is : X → Type 0) (row : X → List AutomatonSymbol → List AutomatonSymbol) (Last : HoaKind → Type 0) (old : Tokens) → IsReadTo Is row Last old [] old
read_none Is row Last old = record {
  given = record { is = tt; spells = λ others rest spells. spells };
  remains = record {
    front = [];
    split = refl;
    holds = λ left agree values others rest are last spells. record { more = values; joined = refl; are = are; spells = spells };
  };
}

AllByRecursion-snoc : {X : Type 0} (Is : X → Type 0) (all : List X) (it : X) → AllByRecursion Is all → Is it → AllByRecursion Is (all ++ it ∷ [])
AllByRecursion-snoc Is [] it are is = (is, tt)
AllByRecursion-snoc Is (first ∷ more) it are is = (are.0, AllByRecursion-snoc Is more it are.1 is)

each-append : {X : Type 0} (row : X → List AutomatonSymbol → List AutomatonSymbol) (all more : List X) (others : List AutomatonSymbol) → each row (all ++ more) others ≡ each row all (each row more others)
each-append row [] more others = refl
each-append row (first ∷ all) more others = ap (row first) (each-append row all more others)

-- what follows a part in a list of parts
pub follows_part : {X : Type 0} (Is : X → Type 0) (row : X → List AutomatonSymbol → List AutomatonSymbol) (begins : HoaKind → Bool) (May : HoaKind → Type 0) → IsPart Is row begins May
    → (more : List X) (others : List AutomatonSymbol) → AllByRecursion Is more → FirstIs (EndsList begins May) others → FirstIs May (each row more others)
follows_part Is row begins May part [] others are last = first_then (EndsList begins May) May others (λ kind holds. holds.1) last
follows_part Is row begins May part (next ∷ more) others are last =
    first_then (λ kind. begins kind ≡ true) May (row next (each row more others)) part.follows (part.begun next (each row more others) are.0)

-- some parts and then one more
remains_after : {X : Type 0} (Is : X → Type 0) (row : X → List AutomatonSymbol → List AutomatonSymbol) (begins : HoaKind → Bool) (May : HoaKind → Type 0) → IsPart Is row begins May
    → (middle left : Tokens) (all : List X) (it : X) (values : List X) (others : List AutomatonSymbol) (rest : Tokens) → NextIs (λ kind. begins kind ≡ true) middle
    → IsWritten Is row (FirstIs May) it middle left → FirstIs (EndsList begins May) others → Remains Is row values all middle others rest → Remains Is row values (all ++ it ∷ []) left others rest
remains_after {X} Is row begins May part middle left all it values others rest next finds last remains =
    let through : (more : List X) → values ≡ all ++ more → AllByRecursion Is more → ReadsSymbols middle (each row more others) rest → Remains Is row values (all ++ it ∷ []) left others rest =
    λ more. (elim more as (λ more. values ≡ all ++ more → AllByRecursion Is more → ReadsSymbols middle (each row more others) rest → Remains Is row values (all ++ it ∷ []) left others rest) [
      | [] ↦ λ joined are spells. absurd (next_clash begins middle next
          (next_may (λ kind. begins kind ≡ false) middle (next_is (λ kind. begins kind ≡ false) others middle rest (first_then (EndsList begins May) (λ kind. begins kind ≡ false) others (λ kind holds. holds.0) last) spells)))
      | wanted ∷ more ↦ λ joined are spells.
          let found = finds wanted (each row more others) rest are.0 (follows_part Is row begins May part more others are.1 last) spells in
          record {
            more = more;
            joined = joined ∙ (ap (λ one. all ++ one ∷ more) (sym found.0) ∙ sym (append_assoc all (it ∷ []) more));
            are = are.1;
            spells = found.1;
          }
    ])
    in through remains.more remains.joined remains.are remains.spells

-- one part more was read
pub read_more : {X : Type 0} (Is : X → Type 0) (row : X → List AutomatonSymbol → List AutomatonSymbol) (begins : HoaKind → Bool) (May : HoaKind → Type 0) → IsPart Is row begins May
    → (old now new : Tokens) (all : List X) (it : X) → IsReadTo Is row (EndsList begins May) old all now → NextIs (λ kind. begins kind ≡ true) now
    → Given Is row now new it → Passes (IsWritten Is row (FirstIs May) it) now new
    → IsReadTo Is row (EndsList begins May) old (all ++ it ∷ []) new
read_more {X} Is row begins May part old now new all it read next given finds =
    let begun = passes_here (NextIs (λ kind. begins kind ≡ true)) now (λ others. is_through (λ kind. begins kind ≡ true) now others next) in
    record {
      given = record {
        is = AllByRecursion-snoc Is all it read.given.is given.is;
        spells = λ others rest spells. subst (λ symbols. ReadsSymbols old symbols rest) (sym (each-append row all (it ∷ []) others)) (read.given.spells (row it others) rest (given.spells others rest spells));
      };
      remains = passes_then _ (LeavesRemains Is row (EndsList begins May) (all ++ it ∷ [])) old new (passes_after _ _ old now new read.remains (passes_after _ _ now now new begun finds))
          (λ tokens left t values others rest are last spells.
          remains_after Is row begins May part t.second.middle left all it values others rest t.second.first.1 t.second.second last
          (subst (λ middle. Remains Is row values all middle others rest) t.second.first.0 (t.first values others rest are last spells)));
    }

-- no part follows any more
nothing_remains : {X : Type 0} (Is : X → Type 0) (row : X → List AutomatonSymbol → List AutomatonSymbol) (begins : HoaKind → Bool) (May : HoaKind → Type 0) → IsPart Is row begins May
    → (left : Tokens) (all values : List X) (others : List AutomatonSymbol) (rest : Tokens) → NextMayBe (λ kind. begins kind ≡ false) left
    → Remains Is row values all left others rest → (all ≡ values) × ReadsSymbols left others rest
nothing_remains {X} Is row begins May part left all values others rest may remains =
    let through : (more : List X) → values ≡ all ++ more → AllByRecursion Is more → ReadsSymbols left (each row more others) rest → (all ≡ values) × ReadsSymbols left others rest =
    λ more. (elim more as (λ more. values ≡ all ++ more → AllByRecursion Is more → ReadsSymbols left (each row more others) rest → (all ≡ values) × ReadsSymbols left others rest) [
      | [] ↦ λ joined are spells. (sym (joined ∙ append-nil all), spells)
      | wanted ∷ more ↦ λ joined are spells.
          absurd (next_clash begins left (next_is (λ kind. begins kind ≡ true) (row wanted (each row more others)) left rest (part.begun wanted (each row more others) are.0) spells) may)
    ])
    in through remains.more remains.joined remains.are remains.spells

pub read_all : {X : Type 0} (Is : X → Type 0) (row : X → List AutomatonSymbol → List AutomatonSymbol) (begins : HoaKind → Bool) (May : HoaKind → Type 0) → IsPart Is row begins May
    → (old now : Tokens) (all : List X) → IsReadTo Is row (EndsList begins May) old all now → NextMayBe (λ kind. begins kind ≡ false) now
    → Passes (IsWritten (AllByRecursion Is) (each row) (FirstIs (EndsList begins May)) all) old now
read_all {X} Is row begins May part old now all read may =
    let ended = passes_here (NextMayBe (λ kind. begins kind ≡ false)) now (λ others. may_through (λ kind. begins kind ≡ false) now others may) in
    passes_then _ (IsWritten (AllByRecursion Is) (each row) (FirstIs (EndsList begins May)) all) old now (passes_after _ _ old now now read.remains ended)
    (λ tokens left t values others rest are last spells.
    nothing_remains Is row begins May part left all values others rest t.second.1
    (subst (λ middle. Remains Is row values all middle others rest) t.second.0 (t.first values others rest are last spells)))

-- a part that follows is what remains, and so nothing is read if it is not
nothing_goes_on : {X : Type 0} (Is : X → Type 0) (row : X → List AutomatonSymbol → List AutomatonSymbol) (begins : HoaKind → Bool) (May : HoaKind → Type 0) → IsPart Is row begins May
    → (middle : Tokens) (all values : List X) (others : List AutomatonSymbol) (rest : Tokens) → NextIs (λ kind. begins kind ≡ true) middle
    → IsUnwritten Is row (FirstIs May) middle → FirstIs (EndsList begins May) others → Remains Is row values all middle others rest → ⊥
nothing_goes_on {X} Is row begins May part middle all values others rest next none last remains =
    let through : (more : List X) → AllByRecursion Is more → ReadsSymbols middle (each row more others) rest → ⊥ =
    λ more. (elim more as (λ more. AllByRecursion Is more → ReadsSymbols middle (each row more others) rest → ⊥) [
      | [] ↦ λ are spells. next_clash begins middle next
          (next_may (λ kind. begins kind ≡ false) middle (next_is (λ kind. begins kind ≡ false) others middle rest (first_then (EndsList begins May) (λ kind. begins kind ≡ false) others (λ kind holds. holds.0) last) spells))
      | wanted ∷ more ↦ λ are spells. none wanted (each row more others) rest are.0 (follows_part Is row begins May part more others are.1 last) spells
    ])
    in through remains.more remains.are remains.spells

-- the parts that were read, and one more that is begun, begin a list of parts
parts_begun : {X : Type 0} (Is : X → Type 0) (row : X → List AutomatonSymbol → List AutomatonSymbol) (old now front : Tokens) (all : List X) → ((it : X) → Joins (row it)) → old ≡ front ++ now
    → Given (AllByRecursion Is) (each row) old now all → (before left : Tokens) → now ≡ before ++ left → IsBegun Is row before → IsBegun (AllByRecursion Is) (each row) (front ++ before)
parts_begun Is row old now front all joins split given [] left here begun = record {
  more = [];
  it = all;
  is = given.is;
  spells = λ left others rest ends spells.
      subst (λ tokens. ReadsSymbols (tokens ++ left) (each row all others) rest) (sym (append-nil (front ++ []) ∙ append-nil front))
      (spelled (each row all) old now front (each_joins row joins all) split given.spells left others rest (λ e. ends) spells);
}
parts_begun Is row old now front all joins split given (next ∷ before) left here begun = record {
  more = begun.more;
  it = all ++ begun.it ∷ [];
  is = AllByRecursion-snoc Is all begun.it given.is begun.is;
  spells = λ left others rest ends spells.
      subst (λ symbols. ReadsSymbols (((front ++ next ∷ before) ++ begun.more) ++ left) symbols rest) (sym (each-append row all (begun.it ∷ []) others))
      (subst (λ tokens. ReadsSymbols tokens (each row all (row begun.it others)) rest) (regrouped front (next ∷ before) begun.more left)
      (spelled (each row all) old now front (each_joins row joins all) split given.spells (((next ∷ before) ++ begun.more) ++ left) (row begun.it others) rest
      (λ e. subst EndsThere here e) (begun.spells left others rest ends spells)));
}

pub read_failed : {X : Type 0} (Is : X → Type 0) (row : X → List AutomatonSymbol → List AutomatonSymbol) (begins : HoaKind → Bool) (May : HoaKind → Type 0) → IsPart Is row begins May
    → (old now : Tokens) (all : List X) (length : ℕ) (refusal : Refusal) → IsReadTo Is row (EndsList begins May) old all now → NextIs (λ kind. begins kind ≡ true) now
    → IsUnread (IsUnwritten Is row (FirstIs May)) (IsBegun Is row) now length refusal
    → IsUnread (IsUnwritten (AllByRecursion Is) (each row) (FirstIs (EndsList begins May))) (IsBegun (AllByRecursion Is) (each row)) old length refusal
read_failed {X} Is row begins May part old now all length refusal read next none =
    unread_then _ (IsUnwritten (AllByRecursion Is) (each row) (FirstIs (EndsList begins May))) (IsBegun (AllByRecursion Is) (each row)) (IsBegun (AllByRecursion Is) (each row)) old length refusal
    (after_step _ _ (IsBegun Is row) (IsBegun (AllByRecursion Is) (each row)) old now length refusal read.remains
    (parts_begun Is row old now read.remains.front all part.joins read.remains.split read.given)
    (with_next (λ kind. begins kind ≡ true) (IsUnwritten Is row (FirstIs May)) (IsBegun Is row) now length refusal next none))
    (λ tokens t values others rest are last spells.
    nothing_goes_on Is row begins May part t.middle all values others rest t.second.0 t.second.1 last (t.first values others rest are last spells))
    (λ before begun. begun)

-- no part follows
part_absent : {X : Type 0} (Is : X → Type 0) (row : X → List AutomatonSymbol → List AutomatonSymbol) (begins : HoaKind → Bool) (May : HoaKind → Type 0) → IsPart Is row begins May
    → (now : Tokens) → NextMayBe (λ kind. begins kind ≡ false) now
    → (it : Option X) (others : List AutomatonSymbol) (rest : Tokens) → IfSome it Is → ReadsSymbols now (optional_row row it others) rest → (None ≡ it) × ReadsSymbols now others rest
part_absent Is row begins May part now may None others rest is spells = (refl, spells)
part_absent Is row begins May part now may (Some it) others rest is spells =
    absurd (next_clash begins now (next_is (λ kind. begins kind ≡ true) (row it others) now rest (part.begun it others is) spells) may)

pub absent_found : {X : Type 0} (Is : X → Type 0) (row : X → List AutomatonSymbol → List AutomatonSymbol) (begins : HoaKind → Bool) (May : HoaKind → Type 0) → IsPart Is row begins May
    → (now : Tokens) → NextMayBe (λ kind. begins kind ≡ false) now → Passes (IsWritten (λ it. IfSome it Is) (optional_row row) (FirstIs (EndsList begins May)) None) now now
absent_found Is row begins May part now may =
    passes_then _ (IsWritten (λ it. IfSome it Is) (optional_row row) (FirstIs (EndsList begins May)) None) now now
    (passes_here (NextMayBe (λ kind. begins kind ≡ false)) now (λ others. may_through (λ kind. begins kind ≡ false) now others may))
    (λ tokens left t it others rest is last spells.
    part_absent Is row begins May part left t.1 it others rest is (subst (λ here. ReadsSymbols here (optional_row row it others) rest) t.0 spells))

-- a part follows, and so what is known of it is known
pub part_there : {X : Type 0} (Is : X → Type 0) (row : X → List AutomatonSymbol → List AutomatonSymbol) (begins : HoaKind → Bool) (May : HoaKind → Type 0)
    → (now : Tokens) → NextIs (λ kind. begins kind ≡ true) now → (Wanted : Option X → Type 0) (others : List AutomatonSymbol) (rest : Tokens) → FirstIs (EndsList begins May) others
    → ((it : X) → Is it → FirstIs May others → ReadsSymbols now (row it others) rest → Wanted (Some it))
    → (it : Option X) → IfSome it Is → ReadsSymbols now (optional_row row it others) rest → Wanted it
part_there Is row begins May now next Wanted others rest last finds None is spells =
    absurd (next_clash begins now next
    (next_may (λ kind. begins kind ≡ false) now (next_is (λ kind. begins kind ≡ false) others now rest (first_then (EndsList begins May) (λ kind. begins kind ≡ false) others (λ kind holds. holds.0) last) spells)))
part_there Is row begins May now next Wanted others rest last finds (Some it) is spells =
    finds it is (first_then (EndsList begins May) May others (λ kind holds. holds.1) last) spells

pub there_found : {X : Type 0} (Is : X → Type 0) (row : X → List AutomatonSymbol → List AutomatonSymbol) (begins : HoaKind → Bool) (May : HoaKind → Type 0)
    → (now new : Tokens) (value : X) → NextIs (λ kind. begins kind ≡ true) now → Passes (IsWritten Is row (FirstIs May) value) now new
    → Passes (IsWritten (λ it. IfSome it Is) (optional_row row) (FirstIs (EndsList begins May)) (Some value)) now new
there_found {X} Is row begins May now new value next finds =
    passes_then _ (IsWritten (λ it. IfSome it Is) (optional_row row) (FirstIs (EndsList begins May)) (Some value)) now new
    (passes_after _ _ now now new (passes_here (NextIs (λ kind. begins kind ≡ true)) now (λ others. is_through (λ kind. begins kind ≡ true) now others next)) finds)
    (λ tokens left t it others rest is last spells.
    part_there Is row begins May t.middle t.first.1 (λ it. (Some value ≡ it) × ReadsSymbols left others rest) others rest last
    (λ it is follow spells. let found = t.second it others rest is follow spells in (ap Some found.0, found.1))
    it is (subst (λ here. ReadsSymbols here (optional_row row it others) rest) t.first.0 spells))

pub there_unread : {X : Type 0} (Is : X → Type 0) (row : X → List AutomatonSymbol → List AutomatonSymbol) (begins : HoaKind → Bool) (May : HoaKind → Type 0)
    → (now : Tokens) (length : ℕ) (refusal : Refusal) → NextIs (λ kind. begins kind ≡ true) now → IsUnread (IsUnwritten Is row (FirstIs May)) (IsBegun Is row) now length refusal
    → IsUnread (IsUnwritten (λ it. IfSome it Is) (optional_row row) (FirstIs (EndsList begins May))) (IsBegun (λ it. IfSome it Is) (optional_row row)) now length refusal
there_unread {X} Is row begins May now length refusal next none =
    unread_then _ (IsUnwritten (λ it. IfSome it Is) (optional_row row) (FirstIs (EndsList begins May))) (IsBegun Is row) (IsBegun (λ it. IfSome it Is) (optional_row row)) now length refusal
    (with_next (λ kind. begins kind ≡ true) (IsUnwritten Is row (FirstIs May)) (IsBegun Is row) now length refusal next none)
    (λ tokens t it others rest is last spells.
    part_there Is row begins May tokens t.0 (λ it. ⊥) others rest last
    (λ it is follow spells. t.1 it others rest is follow spells)
    it is spells)
    (λ before begun. record { more = begun.more; it = Some begun.it; is = begun.is; spells = begun.spells })

-- what holds of what was read holds of it in another way
pub given_then : {X : Type 0} (result : Result X Refusal) (Is Was : X → Type 0) → ((it : X) → Was it → Is it) → IfOk result Was → IfOk result Is
given_then (Ok it) Is Was then given = then it given
given_then (Err refusal) Is Was then given = tt
