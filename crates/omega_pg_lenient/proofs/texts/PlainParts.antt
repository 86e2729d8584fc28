-- What stands for comments, names and other bytes.
use Rattle.std.proofs.Common.{◌≡◌, ℕ, ◌⊎◌, inl, inr, Bool, true, false, List, [], ◌∷◌, ◌++◌, map, get_or, drop, refl, ap, sym, ◌∙◌, subst, append_assoc}
use Rattle.std.specs.Prelude.{not, ◌==◌, ◌&&◌, ◌||◌, if◌then◌else◌}
use Rattle.std.specs.List.{AllPass}
use Rattle.std.proofs.lemmas.Bool.{ne_eqb, or_parts}
use Rattle.std.proofs.lemmas.List.Elements.{All-head, All-tail}
use Rattle.omega_pg_lenient.specs.Parts.{BlockCommentsAreBlank, IsInLine, LineCommentsAreBlank, LoneSlashesStay, NamesAreShown, OtherBytesStay, UnclosedCommentsStay, blanks}
use Rattle.omega_pg_lenient.specs.Plain.{after, after_slash, is_closed, plain_from, shown, shown_in_name}
use Rattle.omega_pg_lenient.specs.declared.context.Context.{Context}
use Rattle.omega_pg_lenient.specs.declared.context.Context.TheVariants.{Block, Closing, Line, Name, Opening, Outside, Unclosed}

-- the bytes that are left, where the context after the first is known
plain_after : (context next : Context) (byte : ℕ) (rest : List ℕ) → after context byte rest ≡ next
    → plain_from context (byte ∷ rest) ≡ shown context next byte ∷ plain_from next rest
plain_after context next byte rest is = ap (λ c. shown context c byte ∷ plain_from c rest) is

-- a test that fails, for its answer
apart : (test : Bool) → not test ≡ true → test ≡ false
apart false e = refl
apart true e = cc

-- in a comment that ends with its line
line_part : (inside rest : List ℕ) → IsInLine inside → plain_from Line (inside ++ 10 ∷ rest) ≡ blanks inside ++ 32 ∷ plain_from Outside rest
line_part [] rest all = refl
line_part (byte ∷ inside) rest all =
    plain_after Line Line byte (inside ++ 10 ∷ rest)
    (ap (λ t. if t then Outside else Line) (apart (byte == 10) (All-head (λ b. not (b == 10) ≡ true) byte inside all)))
    ∙ ap (λ list. 32 ∷ list) (line_part inside rest (All-tail (λ b. not (b == 10) ≡ true) byte inside all))

line_end : (inside : List ℕ) → IsInLine inside → plain_from Line inside ≡ blanks inside
line_end [] all = refl
line_end (byte ∷ inside) all =
    plain_after Line Line byte inside
    (ap (λ t. if t then Outside else Line) (apart (byte == 10) (All-head (λ b. not (b == 10) ≡ true) byte inside all)))
    ∙ ap (λ list. 32 ∷ list) (line_end inside (All-tail (λ b. not (b == 10) ≡ true) byte inside all))

line_by : (comment inside rest : List ℕ) → (comment ≡ 47 ∷ 47 ∷ inside) ⊎ (comment ≡ 35 ∷ inside) → IsInLine inside
    → (plain_from Outside (comment ++ 10 ∷ rest) ≡ blanks comment ++ 32 ∷ plain_from Outside rest) × (plain_from Outside comment ≡ blanks comment)
line_by comment inside rest (inl is) all =
    subst (λ text. (plain_from Outside (text ++ 10 ∷ rest) ≡ blanks text ++ 32 ∷ plain_from Outside rest) × (plain_from Outside text ≡ blanks text)) (sym is)
    (ap (λ list. 32 ∷ 32 ∷ list) (line_part inside rest all), ap (λ list. 32 ∷ 32 ∷ list) (line_end inside all))
line_by comment inside rest (inr is) all =
    subst (λ text. (plain_from Outside (text ++ 10 ∷ rest) ≡ blanks text ++ 32 ∷ plain_from Outside rest) × (plain_from Outside text ≡ blanks text)) (sym is)
    (ap (λ list. 32 ∷ list) (line_part inside rest all), ap (λ list. 32 ∷ list) (line_end inside all))

pub line_comments_blank : LineCommentsAreBlank
line_comments_blank comment rest line = line_by comment line.0 rest line.1 line.2

-- `*/` follows
or_right : (one other : Bool) → other ≡ true → (one || other) ≡ true
or_right true other e = refl
or_right false other e = e

closes : (inside rest : List ℕ) → is_closed (inside ++ 42 ∷ 47 ∷ rest) ≡ true
closes [] rest = refl
closes (byte ∷ inside) rest = or_right (byte == 42 && get_or (inside ++ 42 ∷ 47 ∷ rest) 0 0 == 47) (is_closed (inside ++ 42 ∷ 47 ∷ rest)) (closes inside rest)

-- what follows a byte inside is the same whether or not the slash is there
next_same : (inside rest : List ℕ) → get_or (inside ++ 42 ∷ 47 ∷ rest) 0 0 ≡ get_or (inside ++ 42 ∷ []) 0 0
next_same [] rest = refl
next_same (byte ∷ inside) rest = refl

-- in a comment that `*/` ends
block_part : (inside rest : List ℕ) → is_closed (inside ++ 42 ∷ []) ≡ false
    → plain_from Block (inside ++ 42 ∷ 47 ∷ rest) ≡ blanks inside ++ 32 ∷ 32 ∷ plain_from Outside rest
block_part [] rest open_still = refl
block_part (byte ∷ inside) rest open_still =
    let parts = or_parts (byte == 42 && get_or (inside ++ 42 ∷ []) 0 0 == 47) (is_closed (inside ++ 42 ∷ [])) open_still in
    plain_after Block Block byte (inside ++ 42 ∷ 47 ∷ rest)
    (ap (λ t. if t then Closing else Block) (ap (λ n. byte == 42 && n == 47) (next_same inside rest) ∙ parts.0))
    ∙ ap (λ list. 32 ∷ list) (block_part inside rest parts.1)

pub block_comments_blank : BlockCommentsAreBlank
block_comments_blank comment rest block =
    let inside = block.0 in
    subst (λ text. plain_from Outside (text ++ rest) ≡ blanks text ++ plain_from Outside rest) (sym block.1)
    (ap (λ list. plain_from Outside (47 ∷ 42 ∷ list)) (append_assoc inside (42 ∷ 47 ∷ []) rest)
    ∙ plain_after Outside Opening 47 (42 ∷ (inside ++ 42 ∷ 47 ∷ rest)) (ap (λ t. if t then Opening else Unclosed) (closes inside rest))
    ∙ ap (λ list. 32 ∷ 32 ∷ list) (block_part inside rest block.2 ∙ spread inside))
  where
    spread : (xs : List ℕ) → blanks xs ++ 32 ∷ 32 ∷ plain_from Outside rest ≡ blanks (xs ++ 42 ∷ 47 ∷ []) ++ plain_from Outside rest
    spread [] = refl
    spread (x ∷ xs) = ap (λ list. 32 ∷ list) (spread xs)

-- in a name
name_part : (name rest : List ℕ) → AllPass (λ byte. not (byte == 34)) name
    → plain_from Name (name ++ 34 ∷ rest) ≡ map shown_in_name name ++ 34 ∷ plain_from Outside rest
name_part [] rest all = refl
name_part (byte ∷ name) rest all =
    plain_after Name Name byte (name ++ 34 ∷ rest)
    (ap (λ t. if t then Outside else Name) (apart (byte == 34) (All-head (λ b. not (b == 34) ≡ true) byte name all)))
    ∙ ap (λ list. shown_in_name byte ∷ list) (name_part name rest (All-tail (λ b. not (b == 34) ≡ true) byte name all))

pub names_shown : NamesAreShown
names_shown name rest all = ap (λ list. 34 ∷ list) (name_part name rest all)

-- another byte
pub others_stay : OtherBytesStay
others_stay byte rest quote mark slash =
    plain_after Outside Outside byte rest
    (ap (λ t. if t then Name else if byte == 35 then Line else if byte == 47 then after_slash rest else Outside) (ne_eqb byte 34 quote)
    ∙ ap (λ t. if t then Line else if byte == 47 then after_slash rest else Outside) (ne_eqb byte 35 mark)
    ∙ ap (λ t. if t then after_slash rest else Outside) (ne_eqb byte 47 slash))

-- a slash alone
pub slashes_stay : LoneSlashesStay
slashes_stay rest slash star =
    plain_after Outside Outside 47 rest
    (ap (λ t. if t then Line else if get_or rest 0 0 == 42 then (if is_closed (drop 1 rest) then Opening else Unclosed) else Outside) (ne_eqb (get_or rest 0 0) 47 slash)
    ∙ ap (λ t. if t then (if is_closed (drop 1 rest) then Opening else Unclosed) else Outside) (ne_eqb (get_or rest 0 0) 42 star))

-- the rest of a text after a comment that nothing ends
rest_stays : (bytes : List ℕ) → plain_from Unclosed bytes ≡ bytes
rest_stays [] = refl
rest_stays (byte ∷ bytes) = ap (λ list. byte ∷ list) (rest_stays bytes)

pub unclosed_stay : UnclosedCommentsStay
unclosed_stay rest open_still =
    plain_after Outside Unclosed 47 (42 ∷ rest) (ap (λ t. if t then Opening else Unclosed) open_still)
    ∙ ap (λ list. 47 ∷ 42 ∷ list) (rest_stays rest)
