-- How the words of a label are made from its last node to its first.
use Rattle.std.specs.Prelude.{ℕ, nat_lt, if◌then◌else◌, List, [], ◌∷◌}
use Rattle.std.specs.Prelude.{◌++◌, Option, None, Some, get_or, codes}
use Rattle.std.specs.List.{flat_map}
use Rattle.omega_hoa_label.specs.Label.{LabelTree}
use Rattle.omega_hoa_label.specs.declared.label.LabelNode.{LabelNode}
use Rattle.omega_hoa_label.specs.declared.label.LabelNode.TheVariants as node
use Rattle.omega_lang_lasso_word.specs.Letters.{enclosed, label_words}
use Rattle.omega_lang_lasso_word.specs.Names.{name_text}
use Rattle.omega_lang_lasso_word.specs.declared.signs.Above.{Above}
use Rattle.omega_lang_lasso_word.specs.declared.signs.Above.TheVariants as above
use Rattle.omega_lang_lasso_word.specs.declared.signs.Infix.{Infix}
use Rattle.omega_lang_lasso_word.specs.declared.signs.FormulaSign.{FormulaSign}
use Rattle.omega_lang_lasso_word.specs.declared.signs.FormulaSign.TheVariants as sign
use Rattle.omega_lang_lasso_word.specs.declared.signs.Waiting.{Waiting}
use Rattle.omega_lang_lasso_word.specs.declared.signs.Waiting.TheVariants.{Part, Written}

-- the words of a part, and how tightly its top operator binds: 0 for `|`, 1 for `&`, 2 for the rest
pub record Words : Type 0 where
  pub level : ℕ
  pub words : List ℕ

-- the part on top, or one without words if there is none
abbrev pub top_words : List Words → Words
top_words [] = record { level = 2; words = [] }
top_words (part ∷ parts) = part

-- the parts below the top
abbrev pub words_below : List Words → List Words
words_below [] = []
words_below (part ∷ parts) = parts

-- how tightly an operator above a part binds: 0 for none or `|`, 1 for `&`, 2 for `!`
abbrev pub tightness_of : Above → ℕ
tightness_of above.Loose = 0
tightness_of above.And = 1
tightness_of above.Not = 2

-- the words of a part below an operator of this tightness
abbrev pub words_at : ℕ → Words → List ℕ
words_at tightness part = enclosed (nat_lt part.level tightness) part.words

-- a part without parts
abbrev pub atom_words : List ℕ → Words
atom_words words = record { level = 2; words = words }

-- two parts and their operator, which binds this tightly
abbrev pub joined_words : ℕ → List ℕ → List Words → List Words
joined_words level operator parts =
    record {
      level = level;
      words = words_at level (top_words (words_below parts))
          ++ (operator ++ words_at level (top_words parts));
    } ∷ words_below (words_below parts)

-- the labels after the first of a conjunction, `&` before each
abbrev pub further_words : List (List ℕ) → List LabelTree → List ℕ
further_words names labels = flat_map (λ label. codes " & " ++ label_words 1 names label) labels

-- the parts that a node leaves of those before it; an alias and parentheses, which no label has, have no words
abbrev pub words_with : List (List ℕ) → List Words → LabelNode → List Words
words_with names parts (node.Constant value) =
    atom_words (if value then codes "1" else codes "0") ∷ parts
words_with names parts (node.Proposition number) =
    atom_words (name_text (get_or names number [])) ∷ parts
words_with names parts node.Not =
    atom_words (codes "!" ++ words_at 2 (top_words parts)) ∷ words_below parts
words_with names parts node.And = joined_words 1 (codes " & ") parts
words_with names parts node.Or = joined_words 0 (codes " | ") parts
words_with names parts (node.Alias count) = atom_words [] ∷ parts
words_with names parts node.Group = atom_words [] ∷ parts

-- the parts that nodes leave of those before them
abbrev pub words_after : List (List ℕ) → List Words → List LabelNode → List Words
words_after names parts [] = parts
words_after names parts (next ∷ nodes) = words_after names (words_with names parts next) nodes

-- how a sign is written
abbrev pub sign_words : List (List ℕ) → FormulaSign → List ℕ
sign_words names (sign.Constant value) = if value then codes "1" else codes "0"
sign_words names (sign.Name number) = name_text (get_or names number [])
sign_words names sign.Not = codes "!"
sign_words names sign.And = codes " & "
sign_words names sign.Or = codes " | "
sign_words names sign.Open = codes "("
sign_words names sign.Close = codes ")"

-- how signs are written
abbrev pub signs_words : List (List ℕ) → List FormulaSign → List ℕ
signs_words names [] = []
signs_words names (next ∷ signs) = sign_words names next ++ signs_words names signs

-- the words of what is waiting, the last first, if these are the parts that come; a missing part has none
abbrev pub words_before : List (List ℕ) → List Waiting → List Words → List ℕ
words_before names [] parts = []
words_before names (Written next ∷ waiting) parts =
    words_before names waiting parts ++ sign_words names next
words_before names (Part over ∷ waiting) [] = words_before names waiting []
words_before names (Part over ∷ waiting) (part ∷ parts) =
    words_before names waiting parts ++ words_at (tightness_of over) part

-- what is waiting, if a part below this operator is wanted, or none
abbrev pub wanting : Option Above → List Waiting → List Waiting
wanting None waiting = waiting
wanting (Some over) waiting = Part over ∷ waiting

-- the whole words, if these are the parts that come
abbrev pub whole_words : List (List ℕ) → Infix → List Words → List ℕ
whole_words names text parts = words_before names text.waiting parts ++ signs_words names text.signs
