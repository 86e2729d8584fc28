-- Texts of one segment, and those that are none.
use Rattle.std.proofs.Common.{◌≡◌, ℕ, ◌-◌, ◌≤◌, List, [], ◌∷◌, length, map, take, refl, sym, ap, subst, ◌∙◌, inl, inr, arith, append-nil}
use Rattle.std.proofs.lemmas.List.{length-take-le}
use Rattle.std.specs.Prelude.{Result, Ok, Err, IfErr, IfOk}
use Rattle.omega_text.specs.Cases.{or_memory}
use Rattle.omega_text.specs.Cut.{Cuts, IsCut, IsFault}
use Rattle.omega_text.specs.Format.{GoesOneWay}
use Rattle.omega_text.specs.Lexeme.{Lexeme}
use Rattle.omega_text.specs.Limits.{most_text}
use Rattle.omega_text.specs.hoa.Format.{hoa_format}
use Rattle.omega_text.specs.declared.hoa.kind.HoaKind.{HoaKind}
use Rattle.omega_text.specs.declared.hoa.kind.HoaKind.TheVariants.{End}
use Rattle.omega_text.specs.declared.refusal.Refusal.{Refusal}
use Rattle.omega_text.specs.declared.refusal.Refusal.TheVariants.{Automaton as AutomatonRefusal, Circuit, Game, Io, Memory, Task, Text}
use Rattle.omega_text.specs.declared.refusal.text.TextFault.{TextFault}
use Rattle.omega_text.specs.declared.refusal.text.TextFault.TheVariants.{Syntax}
use Rattle.omega_hoa.specs.Alone.{AreRefused, HasNoSegmentAt, IsAutomatonRefusal, IsAutomatonText, IsInGrammar}
use Rattle.omega_hoa_syntax.specs.declared.raw_automaton.RawAutomaton.{RawAutomaton}
use Rattle.omega_hoa_automaton.specs.Automaton.{Description}
use Rattle.omega_hoa.specs.Segment.{IsAutomatonOf, IsRawOf, IsSegmentFault, IsFirstUnwritten}
use Rattle.omega_hoa.specs.private.Places.{IsPartUnread, counted_from}
use Rattle.omega_hoa.proofs.Places.{unread_here}
use Rattle.omega_hoa.specs.Stream.{IsOpen, IsSegment}
use Rattle.omega_hoa.specs.private.outlines.Outline.{BeginsAborted, BeginsStray, HasFollowed, HasOutline, HasWhole, IsWhole}
use Rattle.omega_hoa.specs.declared.outline.TextOutline.TheVariants.{Empty, Stray, Open, Aborted}
use Rattle.omega_hoa.proofs.Cutting.{cuts_last, moved, part_cut}
use Rattle.omega_hoa.proofs.Written.{automaton_same, raw_same, same_moved}
use Rattle.omega_text.proofs.formats.Cutting.{cuts_forward, cuts_split}

-- a fact of the value that a call answers, from another
pub ok_says : {A E : Type 0} (result : Result A E) (Says Wanted : A → Type 0) → ((value : A) → Says value → Wanted value) → IfOk result Says → IfOk result Wanted
ok_says (Ok value) Says Wanted follows says = follows value says
ok_says (Err error) Says Wanted follows says = tt

-- and of the error
pub err_says : {A E : Type 0} (result : Result A E) (Says Wanted : E → Type 0) → ((error : E) → Says error → Wanted error) → IfErr result Says → IfErr result Wanted
err_says (Ok value) Says Wanted follows says = tt
err_says (Err error) Says Wanted follows says = follows error says

-- memory, or another case in place of one
pub memory_says : (Says Wanted : Refusal → Type 0) (refusal : Refusal) → (Says refusal → Wanted refusal) → or_memory Says refusal → or_memory Wanted refusal
memory_says Says Wanted Memory follows says = tt
memory_says Says Wanted (Text fault) follows says = follows says
memory_says Says Wanted (Game fault) follows says = follows says
memory_says Says Wanted (Circuit fault) follows says = follows says
memory_says Says Wanted (AutomatonRefusal fault) follows says = follows says
memory_says Says Wanted (Task fault) follows says = follows says
memory_says Says Wanted Io follows says = follows says

-- a case, if memory is one too
pub of_memory : (Says : Refusal → Type 0) (refusal : Refusal) → Says refusal → or_memory Says refusal
of_memory Says Memory says = tt
of_memory Says (Text fault) says = says
of_memory Says (Game fault) says = says
of_memory Says (Circuit fault) says = says
of_memory Says (AutomatonRefusal fault) says = says
of_memory Says (Task fault) says = says
of_memory Says Io says = says

-- such tokens are a segment
pub segment_of : (lexemes : List (Lexeme HoaKind)) (end : ℕ) → IsWhole lexemes end → IsSegment End lexemes
segment_of lexemes end whole = record { inside = whole.inside; last = whole.last; split = whole.split; before = whole.begun; ends = whole.ends }

-- they end where they are said to
ends_there : (source : List ℕ) (lexemes : List (Lexeme HoaKind)) (end to : ℕ) → IsWhole lexemes end → Cuts hoa_format source 0 lexemes to → Cuts hoa_format source 0 lexemes end
ends_there source lexemes end to whole cuts =
    let parts = cuts_last hoa_format source 0 to whole.inside whole.last (subst (λ ls. Cuts hoa_format source 0 ls to) whole.split cuts) in
    subst (λ n. Cuts hoa_format source 0 lexemes n) (sym (whole.there ∙ parts.3)) cuts

-- the tokens of a whole text
pub whole_cuts : (source : List ℕ) (end : ℕ) → (has : HasWhole source end) → Cuts hoa_format source 0 has.lexemes end
whole_cuts source end has = ends_there source has.lexemes end has.cut.end has.is has.cut.cuts

-- the tokens of a segment that others follow
pub followed_cuts : (source : List ℕ) (end at : ℕ) → (has : HasFollowed source end at) → Cuts hoa_format source 0 has.is.front end
followed_cuts source end at has =
    let parts = cuts_split hoa_format source 0 has.cut.end has.is.front (has.is.next ∷ has.is.rest) (subst (λ ls. Cuts hoa_format source 0 ls has.cut.end) has.is.split has.cut.cuts) in
    ends_there source has.is.front end parts.0 has.is.whole parts.1

-- the front of a text up to a token's end has the tokens that are there
pub front_cut : GoesOneWay hoa_format → (source : List ℕ) (end : ℕ) (front : List (Lexeme HoaKind)) → Cuts hoa_format source 0 front end → IsCut hoa_format (take end source) (map (moved 0) front)
front_cut exact source end front cuts =
    let same : end - 0 ≡ end = omega arith in
    subst (λ n. IsCut hoa_format (take n source) (map (moved 0) front)) same (part_cut exact source 0 end front (omega arith) cuts)

-- it is so long
pub front_long : GoesOneWay hoa_format → (source : List ℕ) (end : ℕ) (front : List (Lexeme HoaKind)) → Cuts hoa_format source 0 front end → end ≡ length (take end source)
front_long exact source end front cuts =
    let forward = cuts_forward hoa_format exact source 0 end front (omega arith) cuts in
    sym (length-take-le end source forward.1)

-- a text is refused by its tokens
pub tokens_refused : (source : List ℕ) (lexemes : List (Lexeme HoaKind)) (refusal : Refusal) → length source ≤ most_text → IsCut hoa_format source lexemes → AreRefused (length source) lexemes refusal
    → IsAutomatonRefusal source refusal
tokens_refused source lexemes refusal short cut refused = inr (short, inr (lexemes, cut, refused))

-- a text is refused by a fault of tokens
pub fault_refused : (source : List ℕ) (fault : TextFault) → length source ≤ most_text → IsFault hoa_format source fault → IsAutomatonRefusal source (Text fault)
fault_refused source fault short faults = inr (short, inl (fault, refl, faults))

-- the value of a whole text
pub whole_value : (source : List ℕ) (end : ℕ) (automaton : Description) → (has : HasWhole source end) → length source ≤ most_text → IsAutomatonOf (map (moved 0) has.lexemes) automaton
    → IsAutomatonText source automaton
whole_value source end automaton has short value = record {
  short = short;
  lexemes = has.lexemes;
  cut = has.cut;
  segment = segment_of has.lexemes end has.is;
  value = automaton_same (map (moved 0) has.lexemes) has.lexemes automaton (same_moved 0 has.lexemes) value;
}

-- its refusal
pub whole_refused : (source : List ℕ) (end : ℕ) (refusal : Refusal) → (has : HasWhole source end) → length source ≤ most_text → IsSegmentFault has.lexemes refusal
    → IsAutomatonRefusal source refusal
whole_refused source end refusal has short fault = tokens_refused source has.lexemes refusal short has.cut (inr (record {
  segment = has.lexemes;
  rest = [];
  split = sym (append-nil has.lexemes);
  whole = segment_of has.lexemes end has.is;
  refused = inl (fault, inr refl);
}))

-- the refusal of a segment that others follow, by its syntax
pub own_refused : (source : List ℕ) (end at : ℕ) (refusal : Refusal) → (has : HasFollowed source end at) → length source ≤ most_text
    → ((place : ℕ) → IsFirstUnwritten (map (counted_from 0) (map (moved 0) has.is.front)) place → IsFirstUnwritten has.is.front place) → IsPartUnread 0 (map (moved 0) has.is.front) refusal → or_memory (IsAutomatonRefusal source) refusal
own_refused source end at Memory has short back unread = tt
own_refused source end at (Text (Syntax place)) has short back unread = tokens_refused source has.lexemes (Text (Syntax place)) short has.cut (inr (record {
  segment = has.is.front;
  rest = has.is.next ∷ has.is.rest;
  split = has.is.split;
  whole = segment_of has.is.front end has.is.whole;
  refused = inl (unread_here 0 has.is.front back (Text (Syntax place)) unread, inl refl);
}))
own_refused source end at (Text fault) has short back unread = absurd unread
own_refused source end at refusal has short back unread = absurd unread

-- and by what follows it
pub next_refused : (source : List ℕ) (end at : ℕ) → (has : HasFollowed source end at) → length source ≤ most_text → IsInGrammar has.is.front → IsAutomatonRefusal source (Text (Syntax at))
next_refused source end at has short in_grammar = tokens_refused source has.lexemes (Text (Syntax at)) short has.cut (inr (record {
  segment = has.is.front;
  rest = has.is.next ∷ has.is.rest;
  split = has.is.split;
  whole = segment_of has.is.front end has.is.whole;
  refused = inr (in_grammar, (has.is.next, has.is.rest, refl, ap (λ n. Text (Syntax n)) has.is.there));
}))

-- a segment that was read is in the grammar
pub read_in_grammar : (lexemes : List (Lexeme HoaKind)) (raw : RawAutomaton) → IsRawOf (map (moved 0) lexemes) raw → IsInGrammar lexemes
read_in_grammar lexemes raw written = (raw, raw_same (map (moved 0) lexemes) lexemes raw (same_moved 0 lexemes) written)

module _ (source : List ℕ) (short : length source ≤ most_text) where
  -- the refusal of tokens without a segment
  none_refused : (lexemes : List (Lexeme HoaKind)) (at : ℕ) → IsCut hoa_format source lexemes → HasNoSegmentAt (length source) lexemes at → IsAutomatonRefusal source (Text (Syntax at))
  none_refused lexemes at cut none = tokens_refused source lexemes (Text (Syntax at)) short cut (inl (at, refl, none))

  -- of no token
  pub empty_refused : HasOutline source Empty → IsAutomatonRefusal source (Text (Syntax (length source)))
  empty_refused has = none_refused has.lexemes (length source) has.cut (inl (has.is, refl))

  -- of a first token that opens none
  pub stray_refused : (at : ℕ) → HasOutline source (Stray at) → IsAutomatonRefusal source (Text (Syntax at))
  stray_refused at has = let is : BeginsStray has.lexemes at = has.is in none_refused has.lexemes at has.cut (inr (inl (is.first, is.rest, is.split, is.other, is.there)))

  -- of a segment without end
  pub open_refused : HasOutline source Open → IsAutomatonRefusal source (Text (Syntax (length source)))
  open_refused has = let is : IsOpen has.lexemes = has.is in none_refused has.lexemes (length source) has.cut (inr (inr (inl (is, refl))))

  -- of an aborted one
  pub aborted_refused : (at : ℕ) → HasOutline source (Aborted at) → IsAutomatonRefusal source (Text (Syntax at))
  aborted_refused at has = let is : BeginsAborted has.lexemes at = has.is in
      none_refused has.lexemes at has.cut (inr (inr (inr (is.inside, is.last, is.rest, is.split, is.begun, is.aborts, is.there))))
