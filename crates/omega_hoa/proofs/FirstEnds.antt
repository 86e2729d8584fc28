-- The first mark that ends a segment parts tokens in one way.
use Rattle.std.proofs.Common.{◌≡◌, true, false, List, [], ◌∷◌, ◌++◌, refl, sym, ap, subst, ◌∙◌, append_assoc}
use Rattle.omega_text.specs.Lexeme.{Lexeme}
use Rattle.omega_text.specs.declared.hoa.kind.HoaKind.{HoaKind}
use Rattle.omega_hoa.specs.Stream.{IsOpen, IsSegment, NoneEnds, Opens, is_end}

-- tokens parted twice at the first mark are parted alike
pub record PartedAlike (inside front : List (Lexeme HoaKind)) (last end : Lexeme HoaKind) (rest others : List (Lexeme HoaKind)) : Type 0 where
  pub before : inside ≡ front
  pub mark : last ≡ end
  pub following : rest ≡ others

-- no token that ends a segment is one that ends none
no_mark : (one end : Lexeme HoaKind) → is_end one.kind ≡ false → one ≡ end → is_end end.kind ≡ true → ⊥
no_mark one end none same is = let e : false ≡ true = sym none ∙ ap (λ lexeme. is_end lexeme.kind) same ∙ is in cc

pub first_end : (inside front rest others : List (Lexeme HoaKind)) (last end : Lexeme HoaKind) → NoneEnds inside → NoneEnds front → is_end last.kind ≡ true → is_end end.kind ≡ true
    → inside ++ last ∷ rest ≡ front ++ end ∷ others → PartedAlike inside front last end rest others
first_end [] [] rest others last end none unended is ends same = record { before = refl; mark = cc; following = cc }
first_end [] (first ∷ front) rest others last end none unended is ends same = absurd (no_mark first last unended.0 (let e : first ≡ last = cc in e) is)
first_end (one ∷ inside) [] rest others last end none unended is ends same = absurd (no_mark one end none.0 (let e : one ≡ end = cc in e) ends)
first_end (one ∷ inside) (first ∷ front) rest others last end none unended is ends same =
    let head : one ≡ first = cc in
    let tail : inside ++ last ∷ rest ≡ front ++ end ∷ others = cc in
    let parts = first_end inside front rest others last end none.1 unended.1 is ends tail in
    record { before = ap (λ it. it ∷ inside) head ∙ ap (λ all. first ∷ all) parts.before; mark = parts.mark; following = parts.following }

-- tokens without a mark are parted by none
pub never_ended : (inside front others : List (Lexeme HoaKind)) (end : Lexeme HoaKind) → NoneEnds inside → is_end end.kind ≡ true → inside ≡ front ++ end ∷ others → ⊥
never_ended [] [] others end none ends same = cc
never_ended [] (first ∷ front) others end none ends same = cc
never_ended (one ∷ inside) [] others end none ends same = no_mark one end none.0 (let e : one ≡ end = cc in e) ends
never_ended (one ∷ inside) (first ∷ front) others end none ends same =
    never_ended inside front others end none.1 ends (let tail : inside ≡ front ++ end ∷ others = cc in tail)

-- none of the tokens of a segment so far ends it
pub open_unended : (lexemes : List (Lexeme HoaKind)) → IsOpen lexemes → NoneEnds lexemes
open_unended lexemes begun = subst NoneEnds (sym begun.split) (ap is_end begun.opens.kind, begun.unended)

-- a segment, its end apart
pub segment_split : (mark : HoaKind) (segment rest : List (Lexeme HoaKind)) → (is : IsSegment mark segment) → segment ++ rest ≡ is.inside ++ is.last ∷ rest
segment_split mark segment rest is = ap (λ all. all ++ rest) is.split ∙ append_assoc is.inside (is.last ∷ []) rest

-- two segments at the front of the same tokens are one, with the same mark and the same tokens after
pub record SegmentsAreOne (mark other : HoaKind) (segment front rest others : List (Lexeme HoaKind)) : Type 0 where
  pub same : segment ≡ front
  pub following : rest ≡ others
  pub marks : mark ≡ other

pub segments_one : (mark other : HoaKind) (segment front rest others : List (Lexeme HoaKind)) → is_end mark ≡ true → is_end other ≡ true → IsSegment mark segment → IsSegment other front
    → segment ++ rest ≡ front ++ others → SegmentsAreOne mark other segment front rest others
segments_one mark other segment front rest others is ends one two same =
    let parts = first_end one.inside two.inside rest others one.last two.last (open_unended one.inside one.before) (open_unended two.inside two.before)
    (ap is_end one.ends ∙ is) (ap is_end two.ends ∙ ends)
    (sym (segment_split mark segment rest one) ∙ same ∙ segment_split other front others two) in
    record {
      same = one.split ∙ ap (λ all. all ++ one.last ∷ []) parts.before ∙ ap (λ last. two.inside ++ last ∷ []) parts.mark ∙ sym two.split;
      following = parts.following;
      marks = sym one.ends ∙ ap (λ last. last.kind) parts.mark ∙ two.ends;
    }

-- a segment so far begins with no whole one
pub open_is_no_segment : (lexemes segment rest : List (Lexeme HoaKind)) (mark : HoaKind) → is_end mark ≡ true → IsOpen lexemes → IsSegment mark segment → lexemes ≡ segment ++ rest → ⊥
open_is_no_segment lexemes segment rest mark is begun whole same =
    never_ended lexemes whole.inside rest whole.last (open_unended lexemes begun) (ap is_end whole.ends ∙ is) (same ∙ segment_split mark segment rest whole)

-- a segment begins with `HOA:`
pub segment_opens : (mark : HoaKind) (segment rest : List (Lexeme HoaKind)) → IsSegment mark segment
    → (first : Lexeme HoaKind) × (others : List (Lexeme HoaKind)) × (segment ++ rest ≡ first ∷ others) × Opens first
segment_opens mark segment rest is = (
  is.before.first,
  is.before.rest ++ is.last ∷ rest,
  segment_split mark segment rest is ∙ ap (λ all. all ++ is.last ∷ rest) is.before.split,
  is.before.opens,
)
