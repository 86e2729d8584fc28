-- Segments token by token.
use Rattle.std.proofs.Common.{◌≡◌, ℕ, false, List, [], ◌∷◌, ◌++◌, map, refl, sym, ap, ◌∙◌, append_assoc, append-nil}
use Rattle.omega_text.specs.Lexeme.{Lexeme}
use Rattle.omega_text.specs.declared.hoa.kind.HoaKind.{HoaKind}
use Rattle.omega_hoa.specs.Stream.{IsItemOf, IsOpen, IsSegment, IsStream, NoneEnds, Opens, is_end}
use Rattle.omega_hoa.specs.declared.item.Item.{Item}
use Rattle.omega_hoa.proofs.Cutting.{moved}

-- a segment after segments
pub stream_push : (front segment : List (Lexeme HoaKind)) (items : List Item) (item : Item) → IsStream front items → IsItemOf segment item
    → IsStream (front ++ segment) (items ++ item ∷ [])
stream_push front segment [] item stream of = (segment, [], ap (λ lexemes. lexemes ++ segment) stream ∙ sym (append-nil segment), of, refl)
stream_push front segment (first ∷ items) item stream of = (
  stream.0,
  stream.1 ++ segment,
  ap (λ lexemes. lexemes ++ segment) stream.2 ∙ append_assoc stream.0 stream.1 segment,
  stream.3,
  stream_push stream.1 segment items item stream.4 of,
)

-- one more token that ends no segment
none_ends_push : (lexemes : List (Lexeme HoaKind)) (last : Lexeme HoaKind) → NoneEnds lexemes → is_end last.kind ≡ false → NoneEnds (lexemes ++ last ∷ [])
none_ends_push [] last none no_end = (no_end, tt)
none_ends_push (lexeme ∷ lexemes) last none no_end = (none.0, none_ends_push lexemes last none.1 no_end)

-- a segment begins
pub opened : (first : Lexeme HoaKind) → Opens first → IsOpen (first ∷ [])
opened first opens = record { first = first; rest = []; split = refl; opens = opens; unended = tt }

-- a segment goes on
pub open_push : (lexemes : List (Lexeme HoaKind)) (last : Lexeme HoaKind) → IsOpen lexemes → is_end last.kind ≡ false → IsOpen (lexemes ++ last ∷ [])
open_push lexemes last begun no_end = record {
  first = begun.first;
  rest = begun.rest ++ last ∷ [];
  split = ap (λ all. all ++ last ∷ []) begun.split;
  opens = begun.opens;
  unended = none_ends_push begun.rest last begun.unended no_end;
}

-- a segment ends
pub ended : (lexemes : List (Lexeme HoaKind)) (last : Lexeme HoaKind) (mark : HoaKind) → IsOpen lexemes → last.kind ≡ mark → IsSegment mark (lexemes ++ last ∷ [])
ended lexemes last mark begun ends = record { inside = lexemes; last = last; split = refl; before = begun; ends = ends }

-- the tokens of a segment, counted from another place, are one
none_ends_moved : (base : ℕ) (lexemes : List (Lexeme HoaKind)) → NoneEnds lexemes → NoneEnds (map (moved base) lexemes)
none_ends_moved base [] none = tt
none_ends_moved base (lexeme ∷ lexemes) none = (none.0, none_ends_moved base lexemes none.1)

map_append : (base : ℕ) (front : List (Lexeme HoaKind)) (last : Lexeme HoaKind) → map (moved base) (front ++ last ∷ []) ≡ map (moved base) front ++ moved base last ∷ []
map_append base [] last = refl
map_append base (first ∷ front) last = ap (λ all. moved base first ∷ all) (map_append base front last)

pub segment_moved : (base : ℕ) (mark : HoaKind) (lexemes : List (Lexeme HoaKind)) → IsSegment mark lexemes → IsSegment mark (map (moved base) lexemes)
segment_moved base mark lexemes segment = record {
  inside = map (moved base) segment.inside;
  last = moved base segment.last;
  split = ap (map (moved base)) segment.split ∙ map_append base segment.inside segment.last;
  before = record {
    first = moved base segment.before.first;
    rest = map (moved base) segment.before.rest;
    split = ap (map (moved base)) segment.before.split;
    opens = record { kind = segment.before.opens.kind; text = segment.before.opens.text };
    unended = none_ends_moved base segment.before.rest segment.before.unended;
  };
  ends = segment.ends;
}
