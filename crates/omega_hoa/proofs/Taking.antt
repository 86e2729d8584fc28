-- The next token of a stream: its place, and the segments with it.
use Rattle.std.proofs.Common.{◌≡◌, ℕ, ◌+◌, ◌-◌, ◌≤◌, ◌⊎◌, true, false, Some, List, [], ◌∷◌, ◌++◌, length, map, take, drop, refl, sym, ap, subst, ◌∙◌, inl, inr, arith, append_assoc, append-nil, length-drop}
use Rattle.std.proofs.lemmas.List.{drop-drop, drop-append-le, take-append-le}
use Rattle.omega_text.specs.Cases.{or_memory}
use Rattle.omega_text.specs.Cut.{Cuts, IsCut}
use Rattle.omega_text.specs.Format.{GoesOneWay}
use Rattle.omega_text.specs.Lexeme.{Lexeme}
use Rattle.omega_text.specs.hoa.Cut.{Follows}
use Rattle.omega_text.specs.hoa.Format.{hoa_format}
use Rattle.omega_text.specs.hoa.Pieces.{lexeme_in}
use Rattle.omega_text.specs.declared.hoa.kind.HoaKind.{HoaKind}
use Rattle.omega_text.specs.declared.hoa.kind.HoaKind.TheVariants.{End, Abort}
use Rattle.omega_text.specs.declared.hoa.placed.PlacedToken.{PlacedToken}
use Rattle.omega_text.specs.declared.refusal.Refusal.{Refusal}
use Rattle.omega_text.specs.declared.refusal.Refusal.TheVariants.{Automaton as AutomatonRefusal, Circuit, Game, Io, Memory, Task, Text}
use Rattle.omega_text.specs.declared.refusal.text.TextFault.TheVariants.{Syntax}
use Rattle.omega_hoa.specs.Feeding.{IsDivided, IsRest}
use Rattle.omega_hoa_automaton.specs.Automaton.{Description}
use Rattle.omega_hoa.specs.Segment.{IsAutomatonOf, IsSegmentFault}
use Rattle.omega_hoa.specs.Stream.{IsItemOf, IsOpen, IsSegment, IsStreamFault, Opens, is_end}
use Rattle.omega_hoa.specs.private.Places.{IsPartFault}
use Rattle.omega_hoa.specs.private.dividing.Next.{IsNextDivision, IsRefusedNow, IsWindow}
use Rattle.omega_hoa.specs.declared.division.Division.{Division}
use Rattle.omega_hoa.specs.declared.item.Item.{Item}
use Rattle.omega_hoa.specs.declared.item.Item.TheVariants.{Automaton as AutomatonItem, Aborted}
use Rattle.omega_hoa.proofs.Cutting.{cuts_last, moved, part, part_cut}
use Rattle.omega_hoa.proofs.Dividing.{ended, open_push, opened, segment_moved, stream_push}
use Rattle.omega_hoa.proofs.Places.{start_back, fault_here}
use Rattle.omega_hoa.proofs.Written.{automaton_same, same_moved}
use Rattle.omega_text.proofs.formats.Cutting.{cuts_end, cuts_forward, cuts_split}

-- memory, or the other cases
pub memory_or : (Holds : Refusal → Type 0) (refusal : Refusal) → or_memory Holds refusal → (refusal ≡ Memory) ⊎ Holds refusal
memory_or Holds Memory is = inl refl
memory_or Holds (Text fault) is = inr is
memory_or Holds (Game fault) is = inr is
memory_or Holds (Circuit fault) is = inr is
memory_or Holds (AutomatonRefusal fault) is = inr is
memory_or Holds (Task fault) is = inr is
memory_or Holds Io is = inr is

-- bytes in a window are those of the text
pub window_bytes : (bytes : List ℕ) (first : ℕ) (seen : List ℕ) (start end : ℕ) → IsWindow bytes first seen → first ≤ start → start ≤ end → end ≤ length seen
    → take (end - start) (drop (start - first) bytes) ≡ part seen start end
window_bytes bytes first seen start end window from forward within =
    let count = end - start in
    let place : first + (start - first) ≡ start = omega arith in
    let long : count ≤ length (drop start seen) = omega (arith, length-drop start seen) in
    ap (λ all. take count (drop (start - first) all)) window.is
    ∙ ap (take count) (drop-drop (start - first) first (seen ++ window.following) ∙ ap (λ n. drop n (seen ++ window.following)) place
    ∙ drop-append-le start seen window.following (omega arith))
    ∙ take-append-le count (drop start seen) window.following long

-- a token after whole segments and a rest
pub record IsAfter (source : List ℕ) (front rest : List (Lexeme HoaKind)) (begins : ℕ) (last : Lexeme HoaKind) : Type 0 where
  pub middle : ℕ
  pub before : Cuts hoa_format source 0 (front ++ rest) middle
  pub inside : Cuts hoa_format source begins rest middle
  pub follows : Follows source middle last
  pub whole : Cuts hoa_format source 0 ((front ++ rest) ++ last ∷ []) last.span.end
  pub segment : Cuts hoa_format source begins (rest ++ last ∷ []) last.span.end

module _ (exact : GoesOneWay hoa_format) (bytes : List ℕ) (first : ℕ) (division : Division) (token : PlacedToken) (seen : List ℕ) (lexemes : List (Lexeme HoaKind)) (items : List Item)
    (next : IsNextDivision bytes first division (Some token) seen lexemes items) where
  -- the tokens and the next, parted
  split_next : next.divided.front ++ (next.divided.rest ++ lexeme_in seen token ∷ []) ≡ lexemes ++ lexeme_in seen token ∷ []
  split_next = sym (append_assoc next.divided.front next.divided.rest (lexeme_in seen token ∷ [])) ∙ ap (λ all. all ++ lexeme_in seen token ∷ []) (sym next.divided.split)

  -- the place of the next token
  pub following : (more : List ℕ) → IsAfter (seen ++ more) next.divided.front next.divided.rest division.begins (lexeme_in seen token)
  following more =
      let source = seen ++ more in
      let last = lexeme_in seen token in
      let front = next.divided.front in
      let rest = next.divided.rest in
      let cut = next.cuts more in
      let whole = subst (λ all. Cuts hoa_format source 0 (all ++ last ∷ []) cut.0) next.divided.split cut.1 in
      let parts = cuts_last hoa_format source 0 cut.0 (front ++ rest) last whole in
      let halves = cuts_split hoa_format source 0 parts.0 front rest parts.1 in
      let from = cuts_end hoa_format source 0 halves.0 division.begins front halves.1 (next.divided.cuts more) in
      let all = cuts_split hoa_format source 0 cut.0 front (rest ++ last ∷ []) (subst (λ ls. Cuts hoa_format source 0 ls cut.0) (append_assoc front rest (last ∷ [])) whole) in
      let begin = cuts_end hoa_format source 0 all.0 division.begins front all.1 (next.divided.cuts more) in
      record {
        middle = parts.0;
        before = parts.1;
        inside = subst (λ n. Cuts hoa_format source n rest parts.0) from halves.2;
        follows = parts.2;
        whole = subst (λ n. Cuts hoa_format source 0 ((front ++ rest) ++ last ∷ []) n) (sym parts.3) whole;
        segment = subst (λ n. Cuts hoa_format source division.begins (rest ++ last ∷ []) n) (sym parts.3) (subst (λ n. Cuts hoa_format source n (rest ++ last ∷ []) cut.0) begin all.2);
      }

  -- it is after the whole segments, within the text
  pub next_place : (division.begins ≤ token.span.start) × (token.span.start ≤ token.span.end) × (token.span.end ≤ length seen) × (division.begins ≤ length seen)
  next_place =
      let there = following [] in
      let source = seen ++ [] in
      let long : length source ≡ length seen = ap length (append-nil seen) in
      let whole = cuts_forward hoa_format exact source 0 division.begins next.divided.front (omega arith) (next.divided.cuts []) in
      let inside = cuts_forward hoa_format exact source division.begins there.middle next.divided.rest whole.1 there.inside in
      let place = exact.following source there.middle (lexeme_in seen token) there.follows in
      (omega (arith, inside.0, place.forward), omega (arith, place.nonempty), omega (arith, long, place.within), omega (arith, long, whole.1))

  -- its bytes, if they are given
  pub next_text : take (token.span.end - token.span.start) (drop (token.span.start - first) bytes) ≡ (lexeme_in seen token).text
  next_text = let place = next_place in
      window_bytes bytes first seen token.span.start token.span.end next.window (omega (arith, next.from, place.0)) place.1 place.2

  -- the token is within the bytes
  pub next_within : token.span.end ≤ first + length bytes
  next_within = let place = next_place in let window = next.window in omega (arith, place.2, window.within)

  -- outside segments no token is left after the whole ones
  nothing_after : division.inside ≡ false → next.divided.rest ≡ []
  nothing_after outside = subst (λ inside. IsRest inside next.divided.rest) outside next.divided.following

  -- inside one, the tokens left are an open segment
  pub open_after : division.inside ≡ true → IsOpen next.divided.rest
  open_after inside = subst (λ is. IsRest is next.divided.rest) inside next.divided.following

  -- it begins a segment
  pub begun : division.inside ≡ false → Opens (lexeme_in seen token) → IsDivided seen (lexemes ++ lexeme_in seen token ∷ []) items division.begins true
  begun outside opens = record {
    front = next.divided.front;
    rest = lexeme_in seen token ∷ [];
    split = sym split_next ∙ ap (λ rest. next.divided.front ++ (rest ++ lexeme_in seen token ∷ [])) (nothing_after outside);
    before = next.divided.before;
    following = opened (lexeme_in seen token) opens;
    cuts = next.divided.cuts;
  }

  -- outside segments it is refused if it is another
  pub stray : division.inside ≡ false → (Opens (lexeme_in seen token) → ⊥) → (more : List ℕ) → IsStreamFault (seen ++ more) items (Text (Syntax token.span.start))
  stray outside other more = let there = following more in record {
    front = next.divided.front;
    rest = next.divided.rest;
    from = there.middle;
    cuts = there.before;
    before = next.divided.before;
    refused = inl (nothing_after outside, (lexeme_in seen token, there.follows, other, refl));
  }

  -- inside a segment it is one token more
  pub gone_on : division.inside ≡ true → is_end token.kind ≡ false → IsDivided seen (lexemes ++ lexeme_in seen token ∷ []) items division.begins true
  gone_on inside no_end = record {
    front = next.divided.front;
    rest = next.divided.rest ++ lexeme_in seen token ∷ [];
    split = sym split_next;
    before = next.divided.before;
    following = open_push next.divided.rest (lexeme_in seen token) (open_after inside) no_end;
    cuts = next.divided.cuts;
  }

  -- it ends a segment, which has an item
  pub closed : (item : Item) → IsItemOf (next.divided.rest ++ lexeme_in seen token ∷ []) item → IsDivided seen (lexemes ++ lexeme_in seen token ∷ []) (items ++ item ∷ []) token.span.end false
  closed item of = record {
    front = next.divided.front ++ (next.divided.rest ++ lexeme_in seen token ∷ []);
    rest = [];
    split = sym split_next ∙ sym (append-nil (next.divided.front ++ (next.divided.rest ++ lexeme_in seen token ∷ [])));
    before = stream_push next.divided.front (next.divided.rest ++ lexeme_in seen token ∷ []) items item next.divided.before of;
    following = refl;
    cuts = λ more. subst (λ ls. Cuts hoa_format (seen ++ more) 0 ls token.span.end) (append_assoc next.divided.front next.divided.rest (lexeme_in seen token ∷ [])) (following more).whole;
  }

  -- an aborted segment has its item
  pub aborted : division.inside ≡ true → token.kind ≡ Abort → IsItemOf (next.divided.rest ++ lexeme_in seen token ∷ []) Aborted
  aborted inside is = ended next.divided.rest (lexeme_in seen token) Abort (open_after inside) is

  -- the segment's bytes are cut into its tokens, with their places counted from its beginning
  pub segment_cut : IsCut hoa_format (take (token.span.end - division.begins) (drop (division.begins - first) bytes)) (map (moved division.begins) (next.divided.rest ++ lexeme_in seen token ∷ []))
  segment_cut =
      let place = next_place in
      let all = next.divided.rest ++ lexeme_in seen token ∷ [] in
      let cuts = subst (λ source. Cuts hoa_format source division.begins all token.span.end) (append-nil seen) (following []).segment in
      subst (λ source. IsCut hoa_format source (map (moved division.begins) all))
      (sym (window_bytes bytes first seen division.begins token.span.end next.window next.from (omega (arith, place.0, place.1)) place.2))
      (part_cut exact seen division.begins token.span.end all place.3 cuts)

  -- an automaton that was read of these bytes is the segment's item
  pub automaton_item : (automaton : Description) → division.inside ≡ true → token.kind ≡ End
      → ((ls : List (Lexeme HoaKind)) → IsCut hoa_format (take (token.span.end - division.begins) (drop (division.begins - first) bytes)) ls → IsSegment End ls → IsAutomatonOf ls automaton)
      → IsItemOf (next.divided.rest ++ lexeme_in seen token ∷ []) (AutomatonItem automaton)
  automaton_item automaton inside is reads =
      let all = next.divided.rest ++ lexeme_in seen token ∷ [] in (
        ended next.divided.rest (lexeme_in seen token) End (open_after inside) is,
        automaton_same (map (moved division.begins) all) all automaton (same_moved division.begins all)
            (reads (map (moved division.begins) all) segment_cut (segment_moved division.begins End all (ended next.divided.rest (lexeme_in seen token) End (open_after inside) is))),
      )

  -- a fault that was read of these bytes refuses the text
  pub segment_refused : (refusal : Refusal) → division.inside ≡ true → token.kind ≡ End
      → ((ls : List (Lexeme HoaKind)) → IsCut hoa_format (take (token.span.end - division.begins) (drop (division.begins - first) bytes)) ls → IsSegment End ls → IsPartFault division.begins ls refusal)
      → IsRefusedNow seen items refusal
  segment_refused refusal inside is reads =
      let all = next.divided.rest ++ lexeme_in seen token ∷ [] in
      let segment = ended next.divided.rest (lexeme_in seen token) End (open_after inside) is in
      let back = start_back exact (seen ++ []) division.begins division.begins token.span.end all (omega arith) (following []).segment in
      elim (memory_or (IsSegmentFault all) refusal
      (fault_here division.begins all back refusal (reads (map (moved division.begins) all) segment_cut (segment_moved division.begins End all segment)))) [
        | inl memory ↦ inl memory
        | inr fault ↦ inr (λ more. record {
          front = next.divided.front;
          rest = all;
          from = token.span.end;
          cuts = subst (λ ls. Cuts hoa_format (seen ++ more) 0 ls token.span.end) (append_assoc next.divided.front next.divided.rest (lexeme_in seen token ∷ [])) (following more).whole;
          before = next.divided.before;
          refused = inr (inr (segment, fault));
        })
      ]

-- a kind that is no mark of a segment's end
pub no_end : (kind : HoaKind) → (kind ≡ End → ⊥) → (kind ≡ Abort → ⊥) → is_end kind ≡ false
no_end End end abort = absurd (end refl)
no_end Abort end abort = absurd (abort refl)
no_end kind end abort = refl
