-- The texts of parts on a stack, and how a text is made from its end.
use Rattle.std.specs.Prelude.{ℕ, List, [], ◌∷◌, ◌++◌, Option, Some, None, min, nat_lt}
use Rattle.omega_hoa_expression.specs.Writing.{Text, atom_text, bracketed}
use Rattle.omega_hoa_expression.specs.declared.backward.Backward.{Backward}
use Rattle.omega_hoa_expression.specs.declared.signs.Sign.{Sign}
use Rattle.omega_hoa_expression.specs.declared.signs.Sign.TheVariants.{Open}
use Rattle.omega_hoa_expression.specs.declared.signs.Sign.TheVariants as sign

-- the text on top, or the empty text if there is none
abbrev pub top_text : List Text → Text
top_text [] = atom_text []
top_text (text ∷ texts) = text

-- the texts below the top
abbrev pub texts_below : List Text → List Text
texts_below [] = []
texts_below (text ∷ texts) = texts

-- how a sign is written
abbrev pub sign_byte : Sign → ℕ
sign_byte Open = 40
sign_byte sign.Not = 33
sign_byte sign.And = 38
sign_byte sign.Or = 124

-- the bytes of the text on top, in parentheses if it binds less tightly than is wanted,
-- which is never more tightly than an atom
abbrev pub top_bytes : ℕ → List Text → List ℕ
top_bytes rank texts = bracketed (nat_lt (top_text texts).rank (min rank 3)) (top_text texts).bytes

-- the text before a part that is written, if these signs are pending and these texts are the parts before it
abbrev pub before_text : List Sign → List Text → List ℕ
before_text [] texts = []
before_text (Open ∷ signs) texts = before_text signs texts ++ 40 ∷ []
before_text (sign.Not ∷ signs) texts = before_text signs texts ++ 33 ∷ []
before_text (sign.And ∷ signs) texts =
    before_text signs (texts_below texts) ++ (top_bytes 2 texts ++ 38 ∷ [])
before_text (sign.Or ∷ signs) texts =
    before_text signs (texts_below texts) ++ (top_bytes 1 texts ++ 124 ∷ [])

-- what is still to be written, if a part that binds as tightly as this is wanted, or none
abbrev pub left_text : Option ℕ → List Sign → List Text → List ℕ
left_text None signs texts = before_text signs []
left_text (Some rank) signs texts = before_text signs (texts_below texts) ++ top_bytes rank texts

-- the whole text, if these texts are the parts that come
abbrev pub whole_text : Backward → List Text → List ℕ
whole_text backward texts = left_text backward.wanted backward.waiting texts ++ backward.bytes
