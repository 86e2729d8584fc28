-- Places at which tokens begin.
use Rattle.std.proofs.lemmas.List.{map-append}
use Rattle.std.proofs.Common.{◌≡◌, ℕ, ◌+◌, ◌-◌, ◌<◌, ◌≤◌, List, [], ◌∷◌, ◌++◌, length, map, codes, refl, sym, ap, subst, ◌∙◌, arith, append_assoc, append-nil}
use Rattle.omega_text.specs.Cases.{or_memory}
use Rattle.omega_text.specs.Cursor.{next_place}
use Rattle.omega_text.specs.Cut.{Cuts}
use Rattle.omega_text.specs.Format.{GoesOneWay}
use Rattle.omega_text.specs.Lexeme.{Lexeme}
use Rattle.omega_text.specs.hoa.Format.{hoa_format}
use Rattle.omega_text.specs.declared.hoa.kind.HoaKind.{HoaKind}
use Rattle.omega_text.specs.declared.hoa.kind.HoaKind.TheVariants.{End}
use Rattle.omega_text.specs.declared.hoa.kind.HoaKind.TheVariants as kind
use Rattle.omega_text.specs.declared.refusal.Refusal.{Refusal}
use Rattle.omega_text.specs.declared.refusal.Refusal.TheVariants.{Automaton as AutomatonRefusal, Memory, Text}
use Rattle.omega_text.specs.declared.refusal.text.TextFault.TheVariants.{Syntax}
use Rattle.omega_hoa_expression.proofs.ClosingLemmas.{plain}
use Rattle.omega_hoa_expression.proofs.UnreadLemmas.{first_is_one}
use Rattle.omega_hoa_expression.specs.Unread.{AgreeThroughNext, IsFirstUnread}
use Rattle.omega_hoa_syntax.proofs.BegunLemmas.{headed, header_first, sign_first, word_first}
use Rattle.omega_hoa_syntax.specs.Grammar.{BeginsAutomaton, ReadsNoAutomaton}
use Rattle.omega_hoa_syntax.specs.Symbols.{sign, word}
use Rattle.omega_hoa.specs.Segment.{IsNoRaw, IsRawOf, IsSegmentFault, IsFirstUnwritten}
use Rattle.omega_hoa.specs.Stream.{IsSegment, is_end}
use Rattle.omega_hoa.specs.private.Places.{IsPartFault, IsPartUnread, counted_from}
use Rattle.omega_hoa.proofs.Cutting.{moved}
use Rattle.omega_text.proofs.formats.Cutting.{cuts_forward, cuts_split}
use Rattle.omega_hoa.proofs.FirstEnds.{first_end, open_unended, segment_split}
use Rattle.omega_hoa.proofs.Writing.{whole_ends}
use Rattle.omega_hoa.proofs.Written.{AreLike, none_same, raw_same, same_moved}

-- where no automaton begins with the tokens through one, they are none's
pub through_none : (lexemes : List (Lexeme HoaKind)) (at : ℕ) → IsFirstUnwritten lexemes at → IsNoRaw lexemes
through_none lexemes at is = λ raw written. is.unwritten is.rest raw (subst (λ ls. IsRawOf ls raw) is.split written)

-- a segment that is no automaton's begins none
extended_none : (lexemes : List (Lexeme HoaKind)) → IsSegment End lexemes → IsNoRaw lexemes → (more : List (Lexeme HoaKind)) → IsNoRaw (lexemes ++ more)
extended_none lexemes segment none more = λ raw written.
    let end = whole_ends raw (lexemes ++ more) [] written.spells in
    let parts = first_end segment.inside end.front more [] segment.last end.last (open_unended segment.inside segment.before) end.unended (ap is_end segment.ends) (ap is_end end.ends)
    (sym (segment_split End lexemes more segment) ∙ end.split) in
    none raw (subst (λ ls. IsRawOf ls raw) (ap (λ ls. lexemes ++ ls) parts.following ∙ append-nil lexemes) written)

-- some automaton begins with no token
nothing_begun : BeginsAutomaton []
nothing_begun = (
  headed (codes "HOA") ∷ plain kind.Identifier ∷ plain kind.Body ∷ plain kind.End ∷ [],
  record { version = []; items = []; states = [] },
  record {
    items = tt;
    states = tt;
    spells = header_first (codes "HOA") (plain kind.Identifier ∷ plain kind.Body ∷ plain kind.End ∷ []) (word [] ∷ sign kind.Body ∷ sign kind.End ∷ []) []
        (word_first (plain kind.Body ∷ plain kind.End ∷ []) (sign kind.Body ∷ sign kind.End ∷ []) []
        (sign_first kind.Body (plain kind.End ∷ []) (sign kind.End ∷ []) [] (sign_first kind.End [] [] [] refl)));
  },
)

-- a segment that is no automaton's has a first token through which none begins
module _ (lexemes : List (Lexeme HoaKind)) (segment : IsSegment End lexemes) (none : IsNoRaw lexemes) where
  -- no automaton begins with all of them
  unbegun : (before : List (Lexeme HoaKind)) → lexemes ≡ before → BeginsAutomaton before → ⊥
  unbegun before same begun = extended_none lexemes segment none begun.0 begun.1 (subst (λ ls. IsRawOf (ls ++ begun.0) begun.1) (sym same) begun.2)

  first_after : (before rest : List (Lexeme HoaKind)) → lexemes ≡ before ++ rest → BeginsAutomaton before → ((place : ℕ) → IsFirstUnwritten lexemes place → ⊥) → ⊥
  first_after before [] split begun never = unbegun before (split ∙ append-nil before) begun
  first_after before (token ∷ rest) split begun never =
      let through : BeginsAutomaton (before ++ token ∷ []) → ⊥ =
      λ more. first_after (before ++ token ∷ []) rest (split ∙ sym (append_assoc before (token ∷ []) rest)) more never in
      never token.span.start (record {
        before = before;
        token = token;
        rest = rest;
        split = split;
        there = refl;
        begun = begun;
        unwritten = λ more raw written. through (more, raw, subst (λ ls. IsRawOf ls raw) (sym (append_assoc before (token ∷ []) more)) written);
      })

  -- it is refused at that one
  pub segment_refused : ((place : ℕ) → IsFirstUnwritten lexemes place → ⊥) → ⊥
  segment_refused never = first_after [] lexemes refl nothing_begun never

-- the first place at which it is seen that nothing is read of a segment is that of one of its tokens
pub first_within : (lexemes : List (Lexeme HoaKind)) (length at : ℕ) → IsSegment End lexemes → IsFirstUnread ReadsNoAutomaton BeginsAutomaton lexemes length at → IsFirstUnwritten lexemes at
first_within lexemes length at segment is =
    let token_there : (left : List (Lexeme HoaKind)) → lexemes ≡ is.before ++ left → at ≡ next_place left length
    → ((others : List (Lexeme HoaKind)) → AgreeThroughNext left others → ReadsNoAutomaton (is.before ++ others)) → IsFirstUnwritten lexemes at =
    λ left. (elim left as (λ left. lexemes ≡ is.before ++ left → at ≡ next_place left length
    → ((others : List (Lexeme HoaKind)) → AgreeThroughNext left others → ReadsNoAutomaton (is.before ++ others)) → IsFirstUnwritten lexemes at) [
      | [] ↦ λ split there unread.
          absurd (unbegun lexemes segment (λ raw written. unread [] refl raw [] (subst (λ ls. IsRawOf ls raw) split written)) is.before (split ∙ append-nil is.before) is.begun)
      | token ∷ rest ↦ λ split there unread. record {
        before = is.before;
        token = token;
        rest = rest;
        split = split;
        there = there;
        begun = is.begun;
        unwritten = λ more raw written. unread (token ∷ more) (more, refl) raw [] written;
      }
    ])
    in token_there is.left is.split is.there is.unread

unread_there : (lexemes : List (Lexeme HoaKind)) (at : ℕ) → IsFirstUnwritten lexemes at → IsFirstUnread IsNoRaw BeginsAutomaton lexemes 0 at
unread_there lexemes at is = record {
  before = is.before;
  left = is.token ∷ is.rest;
  split = is.split;
  there = is.there;
  begun = is.begun;
  unread = λ others agree. subst (λ ls. IsNoRaw (is.before ++ ls)) (sym agree.1) (is.unwritten agree.0);
}

-- there is one such place
pub first_one : (lexemes : List (Lexeme HoaKind)) (at place : ℕ) → IsFirstUnwritten lexemes at → IsFirstUnwritten lexemes place → at ≡ place
first_one lexemes at place here there =
    first_is_one IsNoRaw BeginsAutomaton lexemes 0 at place (λ before begun none. none begun.0 begun.1 begun.2) (unread_there lexemes at here) (unread_there lexemes place there)

-- tokens with one among them that is counted from another place
like_self : (lexemes : List (Lexeme HoaKind)) → AreLike lexemes lexemes
like_self [] = tt
like_self (lexeme ∷ lexemes) = (record { kind = refl; value = refl; bytes = refl }, like_self lexemes)

like_counted : (begins : ℕ) (front more : List (Lexeme HoaKind)) (token : Lexeme HoaKind) → AreLike (front ++ token ∷ more) (map (counted_from begins) front ++ counted_from begins token ∷ more)
like_counted begins [] more token = (record { kind = refl; value = refl; bytes = refl }, like_self more)
like_counted begins (lexeme ∷ front) more token = (record { kind = refl; value = refl; bytes = refl }, like_counted begins front more token)

like_front : (begins : ℕ) (front more : List (Lexeme HoaKind)) → AreLike (front ++ more) (map (counted_from begins) front ++ more)
like_front begins [] more = like_self more
like_front begins (lexeme ∷ front) more = (record { kind = refl; value = refl; bytes = refl }, like_front begins front more)

-- counted from another place
pub through_counted : (begins : ℕ) (lexemes : List (Lexeme HoaKind)) (at : ℕ) → IsFirstUnwritten lexemes at → IsFirstUnwritten (map (counted_from begins) lexemes) (at + begins)
through_counted begins lexemes at is = record {
  before = map (counted_from begins) is.before;
  token = counted_from begins is.token;
  rest = map (counted_from begins) is.rest;
  split = ap (map (counted_from begins)) is.split ∙ map-append (counted_from begins) is.before (is.token ∷ is.rest);
  there = ap (λ n. n + begins) is.there;
  begun = (is.begun.0, is.begun.1, raw_same (is.before ++ is.begun.0) (map (counted_from begins) is.before ++ is.begun.0) is.begun.1 (like_front begins is.before is.begun.0) is.begun.2);
  unwritten = λ more. none_same (is.before ++ is.token ∷ more) (map (counted_from begins) is.before ++ counted_from begins is.token ∷ more) (like_counted begins is.before more is.token) (is.unwritten more);
}

-- the tokens of a part, counted from where it begins, are those of the text
counted_one : (base : ℕ) (lexeme : Lexeme HoaKind) → base ≤ lexeme.span.start → lexeme.span.start ≤ lexeme.span.end → counted_from base (moved base lexeme) ≡ lexeme
counted_one base lexeme following forward =
    let make : ℕ → ℕ → Lexeme HoaKind = λ start end. record { kind = lexeme.kind; text = lexeme.text; value = lexeme.value; span = record { start = start; end = end } } in
    ap (λ start. make start ((lexeme.span.end - base) + base)) (let e : (lexeme.span.start - base) + base ≡ lexeme.span.start = omega arith in e)
    ∙ ap (λ end. make lexeme.span.start end) (let e : (lexeme.span.end - base) + base ≡ lexeme.span.end = omega arith in e)

counted_back : GoesOneWay hoa_format → (source : List ℕ) (base from end : ℕ) (lexemes : List (Lexeme HoaKind)) → base ≤ from → Cuts hoa_format source from lexemes end
    → map (counted_from base) (map (moved base) lexemes) ≡ lexemes
counted_back exact source base from end [] following cuts = refl
counted_back exact source base from end (lexeme ∷ lexemes) following cuts =
    let place = exact.following source from lexeme cuts.0 in
    let one = counted_one base lexeme (omega (arith, following, place.forward)) (omega (arith, place.nonempty)) in
    let more = counted_back exact source base lexeme.span.end end lexemes (omega (arith, following, place.forward, place.nonempty)) cuts.1 in
    ap (λ first. first ∷ map (counted_from base) (map (moved base) lexemes)) one ∙ ap (λ others. lexeme ∷ others) more

-- a place of a part is that of the text
pub start_back : GoesOneWay hoa_format → (source : List ℕ) (base from end : ℕ) (lexemes : List (Lexeme HoaKind)) → base ≤ from → Cuts hoa_format source from lexemes end → (at : ℕ)
    → IsFirstUnwritten (map (counted_from base) (map (moved base) lexemes)) at → IsFirstUnwritten lexemes at
start_back exact source base from end lexemes following cuts at is =
    subst (λ ls. IsFirstUnwritten ls at) (counted_back exact source base from end lexemes following cuts) is

-- a token among others begins within its text, after those before it
pub within_text : GoesOneWay hoa_format → (source : List ℕ) (from end : ℕ) (before rest : List (Lexeme HoaKind)) (token : Lexeme HoaKind) → from ≤ length source → Cuts hoa_format source from (before ++ token ∷ rest) end
    → (from ≤ token.span.start) × (token.span.start < length source)
within_text exact source from end before rest token inside cuts =
    let parts = cuts_split hoa_format source from end before (token ∷ rest) cuts in
    let onward = cuts_forward hoa_format exact source from parts.0 before inside parts.1 in
    let place = exact.following source parts.0 token parts.2.0 in
    (omega (arith, onward.0, place.forward), omega (arith, place.nonempty, place.within))

-- the fault of a part is that of the tokens of the text
module _ (begins : ℕ) (lexemes : List (Lexeme HoaKind)) (back : (at : ℕ) → IsFirstUnwritten (map (counted_from begins) (map (moved begins) lexemes)) at → IsFirstUnwritten lexemes at) where
  pub fault_here : (refusal : Refusal) → IsPartFault begins (map (moved begins) lexemes) refusal → or_memory (IsSegmentFault lexemes) refusal
  fault_here (Text (Syntax at)) is = back at is
  fault_here (Text fault) is = absurd is
  fault_here (AutomatonRefusal said) is = record { raw = is.raw; written = raw_same (map (moved begins) lexemes) lexemes is.raw (same_moved begins lexemes) is.written; has = is.has }
  fault_here Memory is = tt
  fault_here refusal is = absurd is

  pub unread_here : (refusal : Refusal) → IsPartUnread begins (map (moved begins) lexemes) refusal → or_memory (IsSegmentFault lexemes) refusal
  unread_here (Text (Syntax at)) is = back at is
  unread_here (Text fault) is = absurd is
  unread_here Memory is = tt
  unread_here refusal is = absurd is
