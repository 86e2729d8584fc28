-- Canonical texts are read: each of their tokens is cut, and they are the symbols of the formula.
use Rattle.std.proofs.Common.{◌≡◌, ℕ, zero, suc, ◌+◌, ◌-◌, ◌<◌, ◌≤◌, ◌⊎◌, inl, inr, ◌==◌, ◌&&◌, not, Bool}
use Rattle.std.proofs.Common.{true, false, Option, Some, None, List, [], ◌∷◌, ◌++◌, length, map, take, drop}
use Rattle.std.proofs.Common.{get_or, refl, ap, ap₂, sym, ◌∙◌, subst, arith, codes, append_assoc, append-nil}
use Rattle.std.proofs.Common.{length-append, length-drop, if◌then◌else◌}
use Rattle.std.specs.Prelude.{option_map, slice_index}
use Rattle.std.specs.List.{AllByRecursion, list_all, prefix_len}
use Rattle.std.specs.Option.{is_some, option_or}
use Rattle.std.specs.Str.{bytes_eq, str_eq_ignore_ascii_case}
use Rattle.std.proofs.lemmas.Bool.{and_parts, cases_Bool, eqb-true, not-true}
use Rattle.std.proofs.lemmas.List.{drop-drop, drop_at, get_or-drop, map-append, take_at}
use Rattle.omega_text.specs.Bytes.{is_digit, is_letter, is_white}
use Rattle.omega_text.specs.Cut.{Cuts}
use Rattle.omega_text.specs.Forms.{between_quotes}
use Rattle.omega_text.specs.Lexeme.{Lexeme, lexeme_at}
use Rattle.omega_text.specs.pg.Cut.{IsGap}
use Rattle.omega_text.proofs.pg_texts.Gaps.{no_gap}
use Rattle.omega_ltl_formula.specs.Formula.{FormulaTree, binary, constant as constant_tree, name as name_tree}
use Rattle.omega_ltl_formula.specs.Formula.{names_in, unary}
use Rattle.omega_ltl_formula.specs.declared.operators.BinaryOperator.{BinaryOperator}
use Rattle.omega_ltl_formula.specs.declared.operators.BinaryOperator.TheVariants.{And, Iff, Implies, Or}
use Rattle.omega_ltl_formula.specs.declared.operators.BinaryOperator.TheVariants.{Release, StrongRelease}
use Rattle.omega_ltl_formula.specs.declared.operators.BinaryOperator.TheVariants.{Until, WeakUntil, Xor}
use Rattle.omega_ltl_formula.specs.declared.operators.UnaryOperator.{UnaryOperator}
use Rattle.omega_ltl_formula.specs.declared.operators.UnaryOperator.TheVariants.{Finally, Globally, Next, Not}
use Rattle.omega_ltl_text.specs.Cut.{formula_format}
use Rattle.omega_ltl_text.specs.Grammar.{IsGrouped, RawFormula, bare, raw_binary, raw_constant, raw_group}
use Rattle.omega_ltl_text.specs.Grammar.{raw_name, raw_symbols, raw_unary, tightness}
use Rattle.omega_ltl_text.specs.Laws.{WrittenFormulasAreRead}
use Rattle.omega_ltl_text.specs.Symbols.{FormulaSymbol, before, between, closing, constant, formula_symbol_of}
use Rattle.omega_ltl_text.specs.Symbols.{name as name_symbol, opening, symbol}
use Rattle.omega_ltl_text.specs.Tokens.{Front, front, front_operator, front_quoted, front_sign, front_token}
use Rattle.omega_ltl_text.specs.Tokens.{front_word, goes_on, letter_operator, quoted_count, word_kind}
use Rattle.omega_ltl_text.specs.Written.{HasQuotableNames, IsQuotable, begins_with_operator, binary_text}
use Rattle.omega_ltl_text.specs.Written.{enclosed, formula_text, is_binary, is_name, name_text, space_after}
use Rattle.omega_ltl_text.specs.Written.{stands_bare, unary_text}
use Rattle.omega_ltl_text.specs.declared.kind.FormulaKind.{FormulaKind}
use Rattle.omega_ltl_text.specs.declared.kind.FormulaKind.TheVariants.{Binary, CloseParenthesis, Constant}
use Rattle.omega_ltl_text.specs.declared.kind.FormulaKind.TheVariants.{Name, OpenParenthesis, QuotedName}
use Rattle.omega_ltl_text.specs.declared.kind.FormulaKind.TheVariants.{Unary}
use Rattle.omega_ltl_text.proofs.Absorbing.{levels}
use Rattle.omega_ltl_text.proofs.Quotables.{more_after}

-- the formula as its canonical text has it
abbrev grouped : Bool → RawFormula → RawFormula
grouped within raw = if within then raw_group raw else raw

abbrev written : FormulaTree → RawFormula
written (constant_tree value) = raw_constant value
written (name_tree bytes) = raw_name bytes
written (unary op part) = raw_unary op (grouped (is_binary part) (written part))
written (binary op left right) = raw_binary op (grouped (is_binary left) (written left)) (grouped (is_binary right) (written right))

grouped_bare : (within : Bool) (raw : RawFormula) → bare (grouped within raw) ≡ bare raw
grouped_bare true raw = refl
grouped_bare false raw = refl

written_bare : (tree : FormulaTree) → bare (written tree) ≡ tree
written_bare (constant_tree value) = refl
written_bare (name_tree bytes) = refl
written_bare (unary op part) = ap (unary op) (grouped_bare (is_binary part) (written part) ∙ written_bare part)
written_bare (binary op left right) = ap₂ (binary op)
    (grouped_bare (is_binary left) (written left) ∙ written_bare left) (grouped_bare (is_binary right) (written right) ∙ written_bare right)

grouped_grouped : (within : Bool) (raw : RawFormula) → IsGrouped raw → IsGrouped (grouped within raw)
grouped_grouped true raw is = is
grouped_grouped false raw is = is

-- an operand binds as tight as parentheses
operand_tight : (tree : FormulaTree) → tightness (grouped (is_binary tree) (written tree)) ≡ 5
operand_tight (constant_tree value) = refl
operand_tight (name_tree bytes) = refl
operand_tight (unary op part) = refl
operand_tight (binary op left right) = refl

written_grouped : (tree : FormulaTree) → IsGrouped (written tree)
written_grouped (constant_tree value) = tt
written_grouped (name_tree bytes) = tt
written_grouped (unary op part) = (
  grouped_grouped (is_binary part) (written part) (written_grouped part),
  (let e = operand_tight part in omega (arith, e)),
)
written_grouped (binary op left right) = (
  grouped_grouped (is_binary left) (written left) (written_grouped left),
  grouped_grouped (is_binary right) (written right) (written_grouped right),
  (let e = operand_tight left in let most = (levels op).most_left in omega (arith, e, most)),
  (let e = operand_tight right in let most = (levels op).most_right in omega (arith, e, most)),
)

-- what follows a formula in a canonical text: nothing, a space or a closing parenthesis
data Stops : List ℕ → Type 0 where
  ended : Stops []
  spaced : (rest : List ℕ) → Stops (32 ∷ rest)
  closed : (rest : List ℕ) → Stops (41 ∷ rest)

-- symbols are cut from a place on, after white space, as far as a text goes
record IsCutAt (source : List ℕ) (from to : ℕ) (symbols : List FormulaSymbol) : Type 0 where
  lexemes : List (Lexeme FormulaKind)
  cuts : Cuts formula_format source from lexemes to
  are : map formula_symbol_of lexemes ≡ symbols

-- the symbols of a text, whatever white space comes before it, and whatever comes behind it that stops it
abbrev IsCutInto : List ℕ → (List ℕ → Type 0) → List FormulaSymbol → Type 0
IsCutInto text Behind symbols = (source : List ℕ) (from : ℕ) (space rest : List ℕ) → list_all is_white space ≡ true → Behind rest
    → from ≤ length source → drop from source ≡ space ++ (text ++ rest) → IsCutAt source from (from + length space + length text) symbols

-- white bytes are a gap
white_at : (space rest : List ℕ) (k d : ℕ) → list_all is_white space ≡ true → k < length space → is_white (get_or (space ++ rest) k d) ≡ true
white_at [] rest k d white below = absurd (omega (arith, below))
white_at (byte ∷ space) rest zero d white below = (and_parts (is_white byte) (list_all is_white space) white).0
white_at (byte ∷ space) rest (suc k) d white below =
    white_at space rest k d (and_parts (is_white byte) (list_all is_white space) white).1 (omega (arith, below))

space_gap : (source : List ℕ) (from : ℕ) (space rest : List ℕ) → list_all is_white space ≡ true → from ≤ length source → drop from source ≡ space ++ rest
    → IsGap source from (from + length space)
space_gap source from space rest white inside split =
    let left = length-drop from source in
    let long : length (drop from source) ≡ length space + length rest = ap length split ∙ length-append space rest in
    record {
      forward = omega arith;
      within = omega (arith, left, long, inside);
      white = λ k d low high.
          let place : from + (k - from) ≡ k = omega (arith, low) in
          ap (λ n. is_white (get_or source n d)) (sym place)
          ∙ (ap is_white (sym (get_or-drop from source (k - from) d))
          ∙ (ap (λ (l : List ℕ). is_white (get_or l (k - from) d)) split
          ∙ white_at space rest (k - from) d white (omega (arith, low, high))));
    }

-- what is left behind a front
left_behind : (source : List ℕ) (from : ℕ) (text rest : List ℕ) → drop from source ≡ text ++ rest → drop (from + length text) source ≡ rest
left_behind source from text rest split =
    sym (drop-drop (length text) from source) ∙ (ap (drop (length text)) split ∙ drop_at text rest (length text) refl)

within_behind : (source : List ℕ) (from : ℕ) (text rest : List ℕ) → from ≤ length source → drop from source ≡ text ++ rest → from + length text ≤ length source
within_behind source from text rest inside split =
    let left = length-drop from source in
    let long : length (drop from source) ≡ length text + length rest = ap length split ∙ length-append text rest in
    omega (arith, left, long, inside)

-- one token
one_token : (text : List ℕ) (kind : FormulaKind) (Behind : List ℕ → Type 0)
    → ((rest : List ℕ) → Behind rest → front_token (text ++ rest) ≡ Some (front kind (length text))) → IsCutInto text Behind (symbol kind text ∷ [])
one_token text kind Behind token source from space rest white stops inside split =
    let place : ℕ = from + length space in
    let behind : drop (from + length space) source ≡ text ++ rest = left_behind source from space (text ++ rest) split in
    let own : text ≡ take (length text) (drop (from + length space) source) =
    sym (take_at text rest (length text) refl) ∙ ap (take (length text)) (sym behind) in
    record {
      lexemes = lexeme_at (from + length space) kind 0 text ∷ [];
      cuts = (
        record {
          gap = space_gap source from space (text ++ rest) white inside split;
          token = ap front_token behind ∙ token rest stops;
          text = own;
          value = refl;
          end = refl;
        },
        refl,
      );
      are = refl;
    }

-- cuts one after the other
cuts_append : (source : List ℕ) (from middle to : ℕ) (front back : List (Lexeme FormulaKind)) → Cuts formula_format source from front middle
    → Cuts formula_format source middle back to → Cuts formula_format source from (front ++ back) to
cuts_append source from middle to [] back first second = subst (λ n. Cuts formula_format source n back to) (sym first) second
cuts_append source from middle to (lexeme ∷ lexemes) back first second =
    (first.0, cuts_append source lexeme.span.end middle to lexemes back first.1 second)

-- two texts, with white space between
two_texts : (one space other : List ℕ) (Middle Behind : List ℕ → Type 0) (first second : List FormulaSymbol) → list_all is_white space ≡ true
    → IsCutInto one Middle first → IsCutInto other Behind second → ((rest : List ℕ) → Behind rest → Middle (space ++ (other ++ rest)))
    → IsCutInto (one ++ (space ++ other)) Behind (first ++ second)
two_texts one space other Middle Behind first second between_white cut_one cut_other meets source from before_all rest white stops inside split =
    let spread : drop from source ≡ before_all ++ (one ++ (space ++ (other ++ rest))) =
    split ∙ ap (λ (l : List ℕ). before_all ++ l) (append_assoc one (space ++ other) rest ∙ ap (λ (l : List ℕ). one ++ l) (append_assoc space other rest)) in
    let middle : ℕ = from + length before_all + length one in
    let left = cut_one source from before_all (space ++ (other ++ rest)) white (meets rest stops) inside spread in
    let behind_space = left_behind source from before_all (one ++ (space ++ (other ++ rest))) spread in
    let within_space = within_behind source from before_all (one ++ (space ++ (other ++ rest))) inside spread in
    let behind_one = left_behind source (from + length before_all) one (space ++ (other ++ rest)) behind_space in
    let within_one = within_behind source (from + length before_all) one (space ++ (other ++ rest)) within_space behind_space in
    let right = cut_other source (from + length before_all + length one) space rest between_white stops within_one behind_one in
    let long_one = length-append one (space ++ other) in
    let long_other = length-append space other in
    let ends : from + length before_all + length one + length space + length other ≡ from + length before_all + length (one ++ (space ++ other)) =
    omega (arith, long_one, long_other) in
    record {
      lexemes = left.lexemes ++ right.lexemes;
      cuts = subst (Cuts formula_format source from (left.lexemes ++ right.lexemes)) ends
          (cuts_append source from (from + length before_all + length one) (from + length before_all + length one + length space + length other)
          left.lexemes right.lexemes left.cuts right.cuts);
      are = map-append formula_symbol_of left.lexemes right.lexemes ∙ ap₂ ◌++◌ left.are right.are;
    }

-- texts that do not begin with a closing parenthesis, and are not empty
record Begins (text : List ℕ) : Type 0 where
  first : ℕ
  others : List ℕ
  is : text ≡ first ∷ others
  no_close : (first == 41) ≡ false

begins_more : (text rest : List ℕ) → Begins text → Begins (text ++ rest)
begins_more text rest b = record { first = b.first; others = b.others ++ rest; is = ap (λ (l : List ℕ). l ++ rest) b.is; no_close = b.no_close }

-- the sign `(`, if `)` does not follow at once
after_open : Bool → List ℕ → Option Front
after_open closes others = option_or
    (option_map (λ (kind : FormulaKind). front kind (length (40 ∷ 0 ∷ take 1 others)))
    (option_or (if closes && bytes_eq (take 1 others) [] then Some (Unary Next) else None) None))
    (option_or (option_map (λ (kind : FormulaKind). front kind 2) (option_or (if closes && true then Some (Unary Next) else None) None))
    (Some (front OpenParenthesis 1)))

open_alone : (first : ℕ) (others : List ℕ) → (first == 41) ≡ false → front_token (40 ∷ first ∷ others) ≡ Some (front OpenParenthesis 1)
unfolding after_open
open_alone first others no_close = ap (λ (closes : Bool). after_open closes others) no_close

open_token : (rest : List ℕ) → Begins rest → front_token (codes "(" ++ rest) ≡ Some (front OpenParenthesis (length (codes "(")))
open_token rest b = subst (λ (l : List ℕ). front_token (40 ∷ l) ≡ Some (front OpenParenthesis 1)) (sym b.is) (open_alone b.first b.others b.no_close)

-- the sign `)`
close_token : (rest : List ℕ) → Stops rest → front_token (codes ")" ++ rest) ≡ Some (front CloseParenthesis (length (codes ")")))
close_token rest stops = elim stops as (λ l s. front_token (codes ")" ++ l) ≡ Some (front CloseParenthesis (length (codes ")")))) [
  | ended ↦ refl
  | spaced more ↦ refl
  | closed more ↦ refl
]

-- constants
true_token : (rest : List ℕ) → Stops rest → front_token (codes "1" ++ rest) ≡ Some (front (Constant true) (length (codes "1")))
true_token rest stops = elim stops as (λ l s. front_token (codes "1" ++ l) ≡ Some (front (Constant true) (length (codes "1")))) [
  | ended ↦ refl
  | spaced more ↦ refl
  | closed more ↦ refl
]

false_token : (rest : List ℕ) → Stops rest → front_token (codes "0" ++ rest) ≡ Some (front (Constant false) (length (codes "0")))
false_token rest stops = elim stops as (λ l s. front_token (codes "0" ++ l) ≡ Some (front (Constant false) (length (codes "0")))) [
  | ended ↦ refl
  | spaced more ↦ refl
  | closed more ↦ refl
]

-- operators of one operand, before what follows them
abbrev AfterUnary : UnaryOperator → List ℕ → Type 0
AfterUnary Not rest = Begins rest
AfterUnary Next rest = ((more : List ℕ) × (rest ≡ 32 ∷ more)) ⊎ ((more : List ℕ) × (rest ≡ 40 ∷ more))
AfterUnary Finally rest = ((more : List ℕ) × (rest ≡ 32 ∷ more)) ⊎ ((more : List ℕ) × (rest ≡ 40 ∷ more))
AfterUnary Globally rest = ((more : List ℕ) × (rest ≡ 32 ∷ more)) ⊎ ((more : List ℕ) × (rest ≡ 40 ∷ more))

unary_token : (op : UnaryOperator) (rest : List ℕ) → AfterUnary op rest → front_token (unary_text op ++ rest) ≡ Some (front (Unary op) (length (unary_text op)))
unary_token Not rest after = subst (λ (l : List ℕ). front_token (33 ∷ l) ≡ Some (front (Unary Not) 1)) (sym after.is) refl
unary_token Next rest (inl after) = subst (λ (l : List ℕ). front_token (88 ∷ l) ≡ Some (front (Unary Next) 1)) (sym after.1) refl
unary_token Next rest (inr after) = subst (λ (l : List ℕ). front_token (88 ∷ l) ≡ Some (front (Unary Next) 1)) (sym after.1) refl
unary_token Finally rest (inl after) = subst (λ (l : List ℕ). front_token (70 ∷ l) ≡ Some (front (Unary Finally) 1)) (sym after.1) refl
unary_token Finally rest (inr after) = subst (λ (l : List ℕ). front_token (70 ∷ l) ≡ Some (front (Unary Finally) 1)) (sym after.1) refl
unary_token Globally rest (inl after) = subst (λ (l : List ℕ). front_token (71 ∷ l) ≡ Some (front (Unary Globally) 1)) (sym after.1) refl
unary_token Globally rest (inr after) = subst (λ (l : List ℕ). front_token (71 ∷ l) ≡ Some (front (Unary Globally) 1)) (sym after.1) refl

-- operators of two operands, before a space
abbrev AfterBinary : List ℕ → Type 0
AfterBinary rest = (more : List ℕ) × (rest ≡ 32 ∷ more)

binary_spaced : (op : BinaryOperator) (more : List ℕ) → front_token (binary_text op ++ 32 ∷ more) ≡ Some (front (Binary op) (length (binary_text op)))
binary_spaced And more = refl
binary_spaced Or more = refl
binary_spaced Xor more = refl
binary_spaced Implies more = refl
binary_spaced Iff more = refl
binary_spaced Until more = refl
binary_spaced Release more = refl
binary_spaced WeakUntil more = refl
binary_spaced StrongRelease more = refl

binary_token : (op : BinaryOperator) (rest : List ℕ) → AfterBinary rest → front_token (binary_text op ++ rest) ≡ Some (front (Binary op) (length (binary_text op)))
binary_token op rest after =
    subst (λ (l : List ℕ). front_token (binary_text op ++ l) ≡ Some (front (Binary op) (length (binary_text op)))) (sym after.1) (binary_spaced op after.0)

-- words end where they are stopped
word_stops : (word rest : List ℕ) → list_all goes_on word ≡ true → Stops rest → prefix_len goes_on (word ++ rest) ≡ length word
word_stops [] rest all stops = elim stops as (λ l s. prefix_len goes_on l ≡ 0) [ ended ↦ refl | spaced more ↦ refl | closed more ↦ refl ]
word_stops (byte ∷ word) rest all stops =
    let parts = and_parts (goes_on byte) (list_all goes_on word) all in
    ap (λ (b : Bool). if b then 1 + prefix_len goes_on (word ++ rest) else 0) parts.0
    ∙ (ap (λ n. 1 + n) (word_stops word rest parts.1 stops) ∙ (let e : 1 + length word ≡ suc (length word) = omega arith in e))

-- what a name without quotes is
record IsBareName (name : List ℕ) : Type 0 where
  letter : is_letter (slice_index name 0) ≡ true
  all : list_all goes_on name ≡ true
  no_operator : begins_with_operator name ≡ false
  kind : word_kind name ≡ Name

kind_is_name : (kind : FormulaKind) → is_name kind ≡ true → kind ≡ Name
kind_is_name Name is = refl
kind_is_name (Constant value) is = absurd (let clash : false ≡ true = is in cc)
kind_is_name QuotedName is = absurd (let clash : false ≡ true = is in cc)
kind_is_name (Unary op) is = absurd (let clash : false ≡ true = is in cc)
kind_is_name (Binary op) is = absurd (let clash : false ≡ true = is in cc)
kind_is_name OpenParenthesis is = absurd (let clash : false ≡ true = is in cc)
kind_is_name CloseParenthesis is = absurd (let clash : false ≡ true = is in cc)

bare_name : (name : List ℕ) → stands_bare name ≡ true → IsBareName name
bare_name name is =
    let outer = and_parts ((is_letter (slice_index name 0) && list_all goes_on name) && not (begins_with_operator name)) (is_name (word_kind name)) is in
    let inner = and_parts (is_letter (slice_index name 0) && list_all goes_on name) (not (begins_with_operator name)) outer.0 in
    let first = and_parts (is_letter (slice_index name 0)) (list_all goes_on name) inner.0 in
    record {
      letter = first.0;
      all = first.1;
      no_operator = not-true (begins_with_operator name) inner.1;
      kind = kind_is_name (word_kind name) outer.1;
    }

-- no operator is at the front of it
no_operator_there : (digit own_digit shorter : Bool) (found : Option UnaryOperator) → (is_some found && not own_digit) ≡ false → (own_digit ≡ true → digit ≡ true)
    → (if digit then None else option_map (λ (operator : UnaryOperator). if shorter then front (Constant false) 5 else front (Unary operator) 1) found) ≡ None
no_operator_there true own_digit shorter found none same = refl
no_operator_there false own_digit shorter None none same = refl
no_operator_there false true shorter (Some operator) none same = absurd (let clash : false ≡ true = same refl in cc)
no_operator_there false false shorter (Some operator) none same = absurd (let clash : true ≡ false = none in cc)

bare_token : (name rest : List ℕ) → IsBareName name → Stops rest → front_token (name ++ rest) ≡ Some (front Name (length name))
bare_token [] rest is stops = absurd (let clash : false ≡ true = is.letter in cc)
bare_token (byte ∷ name) rest is stops =
    ap (λ (b : Bool). if b then option_or (front_operator (byte ∷ name ++ rest)) (Some (front_word (byte ∷ name ++ rest)))
    else (if byte == 34 then front_quoted (byte ∷ name ++ rest) else front_sign (byte ∷ name ++ rest))) is.letter
    ∙ (ap (λ (o : Option Front). option_or o (Some (front_word (byte ∷ name ++ rest)))) none
    ∙ ap Some (ap (λ n. front (word_kind (take n (byte ∷ name ++ rest))) n) long
    ∙ ap (λ (k : FormulaKind). front k (length (byte ∷ name))) (ap word_kind (take_at (byte ∷ name) rest (length (byte ∷ name)) refl) ∙ is.kind)))
  where
    long : prefix_len goes_on (byte ∷ name ++ rest) ≡ length (byte ∷ name)
    long = word_stops (byte ∷ name) rest is.all stops

    next_digit : (word : List ℕ) → is_digit (slice_index (byte ∷ word) 1) ≡ true → is_digit (slice_index (byte ∷ word ++ rest) 1) ≡ true
    next_digit [] e = absurd (let clash : false ≡ true = e in cc)
    next_digit (second ∷ word) e = e

    none : front_operator (byte ∷ name ++ rest) ≡ None
    none = no_operator_there (is_digit (slice_index (byte ∷ name ++ rest) 1)) (is_digit (slice_index (byte ∷ name) 1))
        (str_eq_ignore_ascii_case (take 5 (byte ∷ name ++ rest)) (codes "false")) (letter_operator byte) is.no_operator (next_digit name)

-- a name in quotes
quoted_token : (name rest : List ℕ) → IsQuotable name → front_token ((34 ∷ (name ++ 34 ∷ [])) ++ rest) ≡ Some (front QuotedName (length (34 ∷ (name ++ 34 ∷ []))))
quoted_token name rest is =
    let long = length-append name (34 ∷ []) in
    let count : suc (suc (length name)) ≡ length (34 ∷ (name ++ 34 ∷ [])) = omega (arith, long) in
    ap (option_map (λ (n : ℕ). front QuotedName (suc n))) (ap (quoted_count false) (append_assoc name (34 ∷ []) rest) ∙ more_after false name rest is)
    ∙ ap (λ n. Some (front QuotedName n)) count

between_is : (name : List ℕ) → between_quotes (34 ∷ (name ++ 34 ∷ [])) ≡ name
between_is name =
    let long = length-append name (34 ∷ []) in
    let count : length (34 ∷ (name ++ 34 ∷ [])) - 2 ≡ length name = omega (arith, long) in
    ap (λ n. take n (name ++ 34 ∷ [])) count ∙ take_at name (34 ∷ []) (length name) refl

-- names are cut into one symbol
name_cut : (bytes : List ℕ) → IsQuotable bytes → IsCutInto (name_text bytes) Stops (name_symbol bytes ∷ [])
name_cut bytes quotable = go (stands_bare bytes) refl
  where
    go : (b : Bool) → stands_bare bytes ≡ b → IsCutInto (if b then bytes else codes "\"" ++ (bytes ++ codes "\"")) Stops (name_symbol bytes ∷ [])
    go true is = one_token bytes Name Stops (λ rest stops. bare_token bytes rest (bare_name bytes is) stops)
    go false is = subst (λ (own : List ℕ). IsCutInto (34 ∷ (bytes ++ 34 ∷ [])) Stops (name_symbol own ∷ [])) (between_is bytes)
        (one_token (34 ∷ (bytes ++ 34 ∷ [])) QuotedName Stops (λ rest stops. quoted_token bytes rest quotable))

-- what texts begin with
letter_no_close : (byte : ℕ) → is_letter byte ≡ true → (byte == 41) ≡ false
letter_no_close byte letter = go (cases_Bool (byte == 41))
  where
    go : ((byte == 41) ≡ true) ⊎ ((byte == 41) ≡ false) → (byte == 41) ≡ false
    go (inl same) = absurd (let clash : true ≡ false = sym letter ∙ ap is_letter (eqb-true byte 41 same) in cc)
    go (inr apart) = apart

bare_begins : (name : List ℕ) → IsBareName name → Begins name
bare_begins [] is = absurd (let clash : false ≡ true = is.letter in cc)
bare_begins (byte ∷ name) is = record { first = byte; others = name; is = refl; no_close = letter_no_close byte is.letter }

name_begins : (bytes : List ℕ) → Begins (name_text bytes)
name_begins bytes = go (stands_bare bytes) refl
  where
    go : (b : Bool) → stands_bare bytes ≡ b → Begins (if b then bytes else codes "\"" ++ (bytes ++ codes "\""))
    go true is = bare_begins bytes (bare_name bytes is)
    go false is = record { first = 34; others = bytes ++ 34 ∷ []; is = refl; no_close = refl }

constant_begins : (value : Bool) → Begins (if value then codes "1" else codes "0")
constant_begins true = record { first = 49; others = []; is = refl; no_close = refl }
constant_begins false = record { first = 48; others = []; is = refl; no_close = refl }

unary_begins : (op : UnaryOperator) (rest : List ℕ) → Begins (unary_text op ++ rest)
unary_begins Not rest = record { first = 33; others = rest; is = refl; no_close = refl }
unary_begins Next rest = record { first = 88; others = rest; is = refl; no_close = refl }
unary_begins Finally rest = record { first = 70; others = rest; is = refl; no_close = refl }
unary_begins Globally rest = record { first = 71; others = rest; is = refl; no_close = refl }

enclosed_begins : (within : Bool) (text : List ℕ) → Begins text → Begins (enclosed within text)
enclosed_begins true text begins = record { first = 40; others = text ++ 41 ∷ []; is = refl; no_close = refl }
enclosed_begins false text begins = begins

text_begins : (tree : FormulaTree) → Begins (formula_text tree)
text_begins (constant_tree value) = constant_begins value
text_begins (name_tree bytes) = name_begins bytes
text_begins (unary op part) = unary_begins op (space_after op (is_binary part) ++ enclosed (is_binary part) (formula_text part))
text_begins (binary op left right) = begins_more (enclosed (is_binary left) (formula_text left)) _
    (enclosed_begins (is_binary left) (formula_text left) (text_begins left))

-- parentheses round a text
group_cut : (text : List ℕ) (symbols : List FormulaSymbol) → Begins text → IsCutInto text Stops symbols
    → IsCutInto (codes "(" ++ (text ++ codes ")")) Stops (opening ∷ (symbols ++ closing ∷ []))
group_cut text symbols begins cut =
    two_texts (codes "(") [] (text ++ codes ")") Begins Stops (opening ∷ []) (symbols ++ closing ∷ []) refl
    (one_token (codes "(") OpenParenthesis Begins open_token)
    (two_texts text [] (codes ")") Stops Stops symbols (closing ∷ []) refl cut (one_token (codes ")") CloseParenthesis Stops close_token)
    (λ rest stops. closed rest))
    (λ rest stops. begins_more (text ++ codes ")") rest (begins_more text (codes ")") begins))

operand_cut : (within : Bool) (text : List ℕ) (raw : RawFormula) → Begins text → IsCutInto text Stops (raw_symbols raw)
    → IsCutInto (enclosed within text) Stops (raw_symbols (grouped within raw))
operand_cut true text raw begins cut = group_cut text (raw_symbols raw) begins cut
operand_cut false text raw begins cut = cut

-- an operator of one operand, and its operand
space_white : (op : UnaryOperator) (within : Bool) → list_all is_white (space_after op within) ≡ true
space_white Not within = refl
space_white Next true = refl
space_white Next false = refl
space_white Finally true = refl
space_white Finally false = refl
space_white Globally true = refl
space_white Globally false = refl

unary_meets : (op : UnaryOperator) (within : Bool) (text rest : List ℕ) → Begins text → AfterUnary op (space_after op within ++ (enclosed within text ++ rest))
unary_meets Not within text rest begins = begins_more (enclosed within text) rest (enclosed_begins within text begins)
unary_meets Next true text rest begins = inr ((text ++ 41 ∷ []) ++ rest, refl)
unary_meets Next false text rest begins = inl (text ++ rest, refl)
unary_meets Finally true text rest begins = inr ((text ++ 41 ∷ []) ++ rest, refl)
unary_meets Finally false text rest begins = inl (text ++ rest, refl)
unary_meets Globally true text rest begins = inr ((text ++ 41 ∷ []) ++ rest, refl)
unary_meets Globally false text rest begins = inl (text ++ rest, refl)

-- names of the parts
all_front : (xs ys : List (List ℕ)) → AllByRecursion IsQuotable (xs ++ ys) → AllByRecursion IsQuotable xs × AllByRecursion IsQuotable ys
all_front [] ys all = (tt, all)
all_front (x ∷ xs) ys all = let rest = all_front xs ys all.1 in ((all.0, rest.0), rest.1)

-- each canonical text is cut into the symbols of its formula
constant_cut : (value : Bool) → IsCutInto (if value then codes "1" else codes "0") Stops (constant value ∷ [])
constant_cut true = one_token (codes "1") (Constant true) Stops true_token
constant_cut false = one_token (codes "0") (Constant false) Stops false_token

text_cut : (tree : FormulaTree) → HasQuotableNames tree → IsCutInto (formula_text tree) Stops (raw_symbols (written tree))
text_cut (constant_tree value) quotable = constant_cut value
text_cut (name_tree bytes) quotable = name_cut bytes quotable.0
text_cut (unary op part) quotable =
    two_texts (unary_text op) (space_after op (is_binary part)) (enclosed (is_binary part) (formula_text part)) (AfterUnary op) Stops
    (before op ∷ []) (raw_symbols (grouped (is_binary part) (written part))) (space_white op (is_binary part))
    (one_token (unary_text op) (Unary op) (AfterUnary op) (unary_token op))
    (operand_cut (is_binary part) (formula_text part) (written part) (text_begins part) (text_cut part quotable))
    (λ rest stops. unary_meets op (is_binary part) (formula_text part) rest (text_begins part))
text_cut (binary op left right) quotable =
    let parts = all_front (names_in left) (names_in right) quotable in
    two_texts (enclosed (is_binary left) (formula_text left)) (codes " ") (binary_text op ++ (codes " " ++ enclosed (is_binary right) (formula_text right)))
    Stops Stops (raw_symbols (grouped (is_binary left) (written left))) (between op ∷ raw_symbols (grouped (is_binary right) (written right))) refl
    (operand_cut (is_binary left) (formula_text left) (written left) (text_begins left) (text_cut left parts.0))
    (two_texts (binary_text op) (codes " ") (enclosed (is_binary right) (formula_text right)) AfterBinary Stops
    (between op ∷ []) (raw_symbols (grouped (is_binary right) (written right))) refl
    (one_token (binary_text op) (Binary op) AfterBinary (binary_token op))
    (operand_cut (is_binary right) (formula_text right) (written right) (text_begins right) (text_cut right parts.1))
    (λ rest stops. (enclosed (is_binary right) (formula_text right) ++ rest, refl)))
    (λ rest stops. spaced ((binary_text op ++ (codes " " ++ enclosed (is_binary right) (formula_text right))) ++ rest))

-- so it is read
pub written_read : WrittenFormulasAreRead
written_read tree within quotable short =
    let text : List ℕ = formula_text tree in
    let cut = text_cut tree quotable (formula_text tree) 0 [] [] refl ended (omega arith) (sym (append-nil (formula_text tree))) in
    let all : 0 + 0 + length (formula_text tree) ≡ length (formula_text tree) = omega arith in
    record {
      says = record {
        short = short;
        writes = record {
          lexemes = cut.lexemes;
          cut = record {
            end = 0 + 0 + length (formula_text tree);
            cuts = cut.cuts;
            rest = subst (λ n. IsGap (formula_text tree) n (length (formula_text tree))) (sym all)
                (no_gap (formula_text tree) (length (formula_text tree)) (omega arith));
          };
          text = record { raw = written tree; spelled = cut.are; grouped = written_grouped tree; bare_is = written_bare tree };
        };
      };
      within = within;
    }
