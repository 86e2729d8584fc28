-- Where no acceptance formula is read.
use Rattle.std.proofs.Common.{◌≡◌, ℕ, suc, true, false, List, [], ◌∷◌, ◌++◌, map, ap, refl, sym, ◌∙◌, subst}
use Rattle.std.proofs.lemmas.List.{map-append}
use Rattle.omega_hoa_acceptance.specs.Reading.{BeginsAcc, ReadsAcc, ReadsNoAcc, formula_symbols}
use Rattle.omega_hoa_acceptance.specs.Raw.{RawAccTree, atom, conjunction, constant, disjunction, group}
use Rattle.omega_hoa_expression.specs.Symbols.{EndsThere, IsNoOperator, ExpressionSymbol, disjunctive, seen_as, sign, expression_symbol_of, word}
use Rattle.omega_hoa_expression.specs.declared.pending.Pending.{Pending}
use Rattle.omega_hoa_expression.specs.declared.pending.Pending.TheVariants.{Open}
use Rattle.omega_hoa_acceptance.specs.declared.raw.RawAccNode.{RawAccNode}
use Rattle.omega_hoa_acceptance.specs.private.layout.Building.{Before, Has, Wants, anded, before_pending, before_symbols, opened, ored, start}
use Rattle.omega_hoa_acceptance.specs.private.layout.States.{BeginsSet, IsStuck, IsThrough, NameState, barred, ended, entered, failed, go, had, named, numbered, run, wanted}
use Rattle.omega_hoa_expression.specs.Passing.{NextIsNot, Passed}
use Rattle.omega_hoa_acceptance.proofs.BeginLemmas.{begun_had, begun_named, begun_wanted, opens}
use Rattle.omega_hoa_acceptance.proofs.ReadingLemmas.{has_is_free}
use Rattle.omega_hoa_expression.proofs.PassingLemmas.{GoOnNone, GoesOnNone, go_on_others}
use Rattle.omega_hoa_expression.proofs.PendingLemmas.{IsFree, IsParenthesis, free_open, top}
use Rattle.omega_hoa_expression.proofs.UnreadLemmas.{first_after, first_next}
use Rattle.omega_hoa_expression.specs.Unread.{AgreeThroughNext, IsFirstUnread, IsUnread}
use Rattle.omega_text.specs.Cursor.{next_place}
use Rattle.omega_text.specs.Lexeme.{Lexeme}
use Rattle.omega_text.specs.declared.hoa.kind.HoaKind.{HoaKind}
use Rattle.omega_text.specs.declared.hoa.kind.HoaKind.TheVariants as kind
use Rattle.omega_text.specs.declared.refusal.Refusal.{Refusal}

run-append : (state : NameState) (symbols more : List ExpressionSymbol) → run state (symbols ++ more) ≡ run (run state symbols) more
run-append state [] more = refl
run-append state (symbol ∷ symbols) more = run-append (go state symbol) symbols more

run-failed : (symbols : List ExpressionSymbol) → run failed symbols ≡ failed
run-failed [] = refl
run-failed (symbol ∷ symbols) = run-failed symbols

run-ended : (symbols : List ExpressionSymbol) → run ended symbols ≡ ended
run-ended [] = refl
run-ended (symbol ∷ symbols) = run-ended symbols

-- a formula is gone through as an atom is
run-formula : (count : ℕ) (tree : RawAccTree) → run (wanted count) (formula_symbols tree) ≡ had count
run-formula count (constant true) = refl
run-formula count (constant false) = refl
run-formula count (atom name true set) = refl
run-formula count (atom name false set) = refl
run-formula count (conjunction left right) =
    run-append (wanted count) (formula_symbols left) (sign kind.And ∷ formula_symbols right)
    ∙ (ap (λ state. run state (sign kind.And ∷ formula_symbols right)) (run-formula count left) ∙ run-formula count right)
run-formula count (disjunction left right) =
    run-append (wanted count) (formula_symbols left) (sign kind.Or ∷ formula_symbols right)
    ∙ (ap (λ state. run state (sign kind.Or ∷ formula_symbols right)) (run-formula count left) ∙ run-formula count right)
run-formula count (group part) =
    run-append (wanted (suc count)) (formula_symbols part) (sign kind.CloseParenthesis ∷ [])
    ∙ ap (λ state. run state (sign kind.CloseParenthesis ∷ [])) (run-formula (suc count) part)

run-before : (before : Before) → run (wanted 0) (before_symbols before) ≡ wanted (opens before)
run-before start = refl
run-before (opened before) =
    run-append (wanted 0) (before_symbols before) (sign kind.OpenParenthesis ∷ [])
    ∙ ap (λ state. run state (sign kind.OpenParenthesis ∷ [])) (run-before before)
run-before (anded before left) =
    run-append (wanted 0) (before_symbols before) (formula_symbols left ++ sign kind.And ∷ [])
    ∙ (ap (λ state. run state (formula_symbols left ++ sign kind.And ∷ [])) (run-before before)
    ∙ (run-append (wanted (opens before)) (formula_symbols left) (sign kind.And ∷ [])
    ∙ ap (λ state. run state (sign kind.And ∷ [])) (run-formula (opens before) left)))
run-before (ored before left) =
    run-append (wanted 0) (before_symbols before) (formula_symbols left ++ sign kind.Or ∷ [])
    ∙ (ap (λ state. run state (formula_symbols left ++ sign kind.Or ∷ [])) (run-before before)
    ∙ (run-append (wanted (opens before)) (formula_symbols left) (sign kind.Or ∷ [])
    ∙ ap (λ state. run state (sign kind.Or ∷ [])) (run-formula (opens before) left)))

-- what was passed has been gone through
run-passed : (whole left : List (Lexeme HoaKind)) (symbols : List ExpressionSymbol) → Passed whole symbols left
    → run (wanted 0) (map expression_symbol_of whole) ≡ run (run (wanted 0) symbols) (map expression_symbol_of left)
run-passed whole left symbols passed =
    ap (λ all. run (wanted 0) (map expression_symbol_of all)) passed.split
    ∙ (ap (run (wanted 0)) (map-append expression_symbol_of passed.front left)
    ∙ (run-append (wanted 0) (map expression_symbol_of passed.front) (map expression_symbol_of left)
    ∙ ap (λ front. run (run (wanted 0) front) (map expression_symbol_of left)) passed.spells))

ended-kind : (sort : HoaKind) (value : ℕ) (text : List ℕ) → IsNoOperator sort → go (had 0) (seen_as sort value text) ≡ ended
ended-kind kind.And value text none = absurd none
ended-kind kind.Or value text none = absurd none
ended-kind other value text none = refl

through-rest : (rest : List (Lexeme HoaKind)) → EndsThere rest → IsThrough (run (had 0) (map expression_symbol_of rest))
through-rest [] ends = tt
through-rest (lexeme ∷ rest) ends =
    subst IsThrough (sym (ap (λ state. run state (map expression_symbol_of rest)) (ended-kind lexeme.kind lexeme.value lexeme.text ends) ∙ run-ended (map expression_symbol_of rest))) tt

through-reads : (tokens : List (Lexeme HoaKind)) (tree : RawAccTree) (rest : List (Lexeme HoaKind)) → ReadsAcc tokens tree rest
    → IsThrough (run (wanted 0) (map expression_symbol_of tokens))
through-reads tokens tree rest reads =
    subst IsThrough
    (sym (run-passed tokens rest (formula_symbols tree) (record { front = reads.front; split = reads.split; spells = reads.spells }) ∙ ap (λ state. run state (map expression_symbol_of rest)) (run-formula 0 tree)))
    (through-rest rest reads.ends)

-- no part begins with a token of this kind
abbrev pub BeginsNone : HoaKind → Type 0
BeginsNone kind.Identifier = ⊥
BeginsNone kind.True = ⊥
BeginsNone kind.False = ⊥
BeginsNone kind.OpenParenthesis = ⊥
BeginsNone other = Unit {0}

failed-kind : (sort : HoaKind) (count value : ℕ) (text : List ℕ) → BeginsNone sort → go (wanted count) (seen_as sort value text) ≡ failed
failed-kind kind.Identifier count value text none = absurd none
failed-kind kind.True count value text none = absurd none
failed-kind kind.False count value text none = absurd none
failed-kind kind.OpenParenthesis count value text none = absurd none
failed-kind other count value text none = refl

stuck-kind : (sort : HoaKind) (count value : ℕ) (text : List ℕ) → GoesOnNone sort → go (had (suc count)) (seen_as sort value text) ≡ failed
stuck-kind kind.And count value text none = absurd none
stuck-kind kind.Or count value text none = absurd none
stuck-kind kind.CloseParenthesis count value text none = absurd none
stuck-kind other count value text none = refl

-- the tokens begin with no part
abbrev pub BeginNone : List (Lexeme HoaKind) → Type 0
BeginNone [] = Unit {0}
BeginNone (lexeme ∷ rest) = BeginsNone lexeme.kind

not-through-wanted : (left : List (Lexeme HoaKind)) (count : ℕ) → BeginNone left → IsThrough (run (wanted count) (map expression_symbol_of left)) → ⊥
not-through-wanted [] count none through = through
not-through-wanted (lexeme ∷ rest) count none through =
    subst IsThrough (ap (λ state. run state (map expression_symbol_of rest)) (failed-kind lexeme.kind count lexeme.value lexeme.text none) ∙ run-failed (map expression_symbol_of rest)) through

not-through-had : (left : List (Lexeme HoaKind)) (count : ℕ) → GoOnNone left → IsThrough (run (had (suc count)) (map expression_symbol_of left)) → ⊥
not-through-had [] count none through = through
not-through-had (lexeme ∷ rest) count none through =
    subst IsThrough (ap (λ state. run state (map expression_symbol_of rest)) (stuck-kind lexeme.kind count lexeme.value lexeme.text none) ∙ run-failed (map expression_symbol_of rest)) through

-- where a part is wanted and none can be gone through, nothing is read
stuck_wanted : (whole left : List (Lexeme HoaKind)) (nodes : List RawAccNode) (names : List ℕ) (pending : List Pending)
    → Wants whole left nodes names pending → IsStuck wanted left → ReadsNoAcc whole
stuck_wanted whole left nodes names pending wants stuck tree rest reads =
    stuck (opens wants.before)
    (subst IsThrough (run-passed whole left (before_symbols wants.before) wants.passed ∙ ap (λ state. run state (map expression_symbol_of left)) (run-before wants.before)) (through-reads whole tree rest reads))

-- a part is wanted as well before other tokens
wants_before : (whole left others : List (Lexeme HoaKind)) (nodes : List RawAccNode) (names : List ℕ) (pending : List Pending)
    → (wants : Wants whole left nodes names pending) → Wants (wants.passed.front ++ others) others nodes names pending
wants_before whole left others nodes names pending wants = record {
  before = wants.before;
  sound = wants.sound;
  flat = wants.flat;
  named = wants.named;
  pends = wants.pends;
  passed = record { front = wants.passed.front; split = refl; spells = wants.passed.spells };
}

begin_through : (left others : List (Lexeme HoaKind)) → AgreeThroughNext left others → BeginNone left → BeginNone others
begin_through [] others agree none = subst BeginNone (sym agree) tt
begin_through (lexeme ∷ rest) others agree none = subst BeginNone (sym agree.1) none

-- where a part is wanted and none begins, nothing is read through the next token
pub none_wanted : (whole left : List (Lexeme HoaKind)) (nodes : List RawAccNode) (names : List ℕ) (pending : List Pending) (length place : ℕ)
    → place ≡ next_place left length → Wants whole left nodes names pending → BeginNone left → IsFirstUnread ReadsNoAcc BeginsAcc whole length place
none_wanted whole left nodes names pending length place there wants none =
    first_next ReadsNoAcc BeginsAcc whole wants.passed.front left length place wants.passed.split there
    (begun_wanted wants.before wants.passed.front wants.sound wants.passed.spells)
    (λ others agree. stuck_wanted (wants.passed.front ++ others) others nodes names pending (wants_before whole left others nodes names pending wants)
    (λ count. not-through-wanted others count (begin_through left others agree none)))

unclosed_before : (before : Before) (whole left : List (Lexeme HoaKind)) (rest : List Pending) (part : RawAccTree)
    → Open ∷ rest ≡ before_pending before → Passed whole (before_symbols before ++ formula_symbols part) left → GoOnNone left → ReadsNoAcc whole
unclosed_before start whole left rest part pends passed none tree following reads = absurd (subst (λ p. IsParenthesis (top p)) pends tt)
unclosed_before (anded before other) whole left rest part pends passed none tree following reads = absurd (subst (λ p. IsParenthesis (top p)) pends tt)
unclosed_before (ored before other) whole left rest part pends passed none tree following reads = absurd (subst (λ p. IsParenthesis (top p)) pends tt)
unclosed_before (opened before) whole left rest part pends passed none tree following reads =
    not-through-had left (opens before) none
    (subst IsThrough
    (run-passed whole left (before_symbols (opened before) ++ formula_symbols part) passed
    ∙ ap (λ state. run state (map expression_symbol_of left))
    (run-append (wanted 0) (before_symbols (opened before)) (formula_symbols part)
    ∙ (ap (λ state. run state (formula_symbols part)) (run-before (opened before)) ∙ run-formula (suc (opens before)) part)))
    (through-reads whole tree following reads))

go_through : (left others : List (Lexeme HoaKind)) → AgreeThroughNext left others → GoOnNone left → GoOnNone others
go_through [] others agree none = subst GoOnNone (sym agree) tt
go_through (lexeme ∷ rest) others agree none = subst GoOnNone (sym agree.1) none

-- where a parenthesis is open and neither an operator nor `)` follows, nothing is read through the next token
none_closed : (whole left : List (Lexeme HoaKind)) (depth : ℕ) (nodes : List RawAccNode) (names : List ℕ) (rest : List Pending) (length place : ℕ)
    → place ≡ next_place left length → Has disjunctive whole left depth nodes names (Open ∷ rest) → GoOnNone left → IsFirstUnread ReadsNoAcc BeginsAcc whole length place
none_closed whole left depth nodes names rest length place there has none =
    first_next ReadsNoAcc BeginsAcc whole has.passed.front left length place has.passed.split there
    (begun_had has.before disjunctive has.part has.passed.front has.is has.fits has.sound has.passed.spells)
    (λ others agree. unclosed_before has.before (has.passed.front ++ others) others rest has.part has.pends
    (record { front = has.passed.front; split = refl; spells = has.passed.spells }) (go_through left others agree none))

-- a kind that begins no part
pub begins_others : (sort : HoaKind) → (sort ≡ kind.Identifier → ⊥) → (sort ≡ kind.True → ⊥) → (sort ≡ kind.False → ⊥) → (sort ≡ kind.OpenParenthesis → ⊥) → BeginsNone sort
begins_others kind.Identifier a b c d = a refl
begins_others kind.True a b c d = b refl
begins_others kind.False a b c d = c refl
begins_others kind.OpenParenthesis a b c d = d refl
begins_others other a b c d = tt

-- a parenthesis waits, and nothing that goes on follows
pub unclosed_none : (whole old same left final : List (Lexeme HoaKind)) (depth : ℕ) (nodes : List RawAccNode) (names : List ℕ) (pending : List Pending) (first : Pending) (rest : List Pending) (length long place : ℕ)
    → same ≡ old → NextIsNot kind.And old → left ≡ same → NextIsNot kind.Or same → final ≡ left → NextIsNot kind.CloseParenthesis left → pending ≡ first ∷ rest
    → long ≡ length → place ≡ next_place final long → Has disjunctive whole old depth nodes names pending → IsFirstUnread ReadsNoAcc BeginsAcc whole length place
unclosed_none whole old same left final depth nodes names pending first rest length long place stays not_and rests not_or ends not_close waits text there has =
    let free = subst IsFree waits (has_is_free whole old depth nodes names pending has) in
    none_closed whole old depth nodes names rest length place
    (there ∙ (ap (λ tokens. next_place tokens long) (ends ∙ (rests ∙ stays)) ∙ ap (λ l. next_place old l) text))
    (subst (Has disjunctive whole old depth nodes names) (waits ∙ ap (λ p. p ∷ rest) (free_open first rest free)) has)
    (go_on_others old not_and (subst (NextIsNot kind.Or) stays not_or) (subst (NextIsNot kind.CloseParenthesis) (rests ∙ stays) not_close))

-- no part of an atom follows
stuck-named : (sort : HoaKind) (count value : ℕ) (text : List ℕ) → (sort ≡ kind.OpenParenthesis → ⊥) → go (named count) (seen_as sort value text) ≡ failed
stuck-named kind.OpenParenthesis count value text not = absurd (not refl)
stuck-named other count value text not = refl

stuck-entered : (sort : HoaKind) (count value : ℕ) (text : List ℕ) → (sort ≡ kind.Not → ⊥) → (sort ≡ kind.Int → ⊥) → go (entered count) (seen_as sort value text) ≡ failed
stuck-entered kind.Not count value text not_bar not_number = absurd (not_bar refl)
stuck-entered kind.Int count value text not_bar not_number = absurd (not_number refl)
stuck-entered other count value text not_bar not_number = refl

stuck-barred : (sort : HoaKind) (count value : ℕ) (text : List ℕ) → (sort ≡ kind.Int → ⊥) → go (barred count) (seen_as sort value text) ≡ failed
stuck-barred kind.Int count value text not = absurd (not refl)
stuck-barred other count value text not = refl

stuck-numbered : (sort : HoaKind) (count value : ℕ) (text : List ℕ) → (sort ≡ kind.CloseParenthesis → ⊥) → go (numbered count) (seen_as sort value text) ≡ failed
stuck-numbered kind.CloseParenthesis count value text not = absurd (not refl)
stuck-numbered other count value text not = refl

-- what fails at once is stuck
failed-stuck : (state : NameState) (rest : List (Lexeme HoaKind)) (lexeme : Lexeme HoaKind) → go state (expression_symbol_of lexeme) ≡ failed
    → IsThrough (run state (map expression_symbol_of (lexeme ∷ rest))) → ⊥
failed-stuck state rest lexeme fails through =
    subst IsThrough (ap (λ next. run next (map expression_symbol_of rest)) fails ∙ run-failed (map expression_symbol_of rest)) through

-- no `(` follows
pub IsStuck-named : (left : List (Lexeme HoaKind)) → NextIsNot kind.OpenParenthesis left → IsStuck named left
IsStuck-named [] not count through = through
IsStuck-named (lexeme ∷ rest) not count through =
    failed-stuck (named count) rest lexeme (stuck-named lexeme.kind count lexeme.value lexeme.text not) through

-- neither `!` nor a set follows
pub IsStuck-entered : (left : List (Lexeme HoaKind)) → NextIsNot kind.Not left → NextIsNot kind.Int left → IsStuck entered left
IsStuck-entered [] not_bar not_number count through = through
IsStuck-entered (lexeme ∷ rest) not_bar not_number count through =
    failed-stuck (entered count) rest lexeme (stuck-entered lexeme.kind count lexeme.value lexeme.text not_bar not_number) through

-- no set follows
pub IsStuck-barred : (left : List (Lexeme HoaKind)) → NextIsNot kind.Int left → IsStuck barred left
IsStuck-barred [] not count through = through
IsStuck-barred (lexeme ∷ rest) not count through =
    failed-stuck (barred count) rest lexeme (stuck-barred lexeme.kind count lexeme.value lexeme.text not) through

-- no `)` follows
pub IsStuck-numbered : (left : List (Lexeme HoaKind)) → NextIsNot kind.CloseParenthesis left → IsStuck numbered left
IsStuck-numbered [] not count through = through
IsStuck-numbered (lexeme ∷ rest) not count through =
    failed-stuck (numbered count) rest lexeme (stuck-numbered lexeme.kind count lexeme.value lexeme.text not) through

-- what is stuck after a token is stuck before it
IsStuck-following : (lexeme : Lexeme HoaKind) (others : List (Lexeme HoaKind)) (symbol : ExpressionSymbol) (before following : ℕ → NameState)
    → expression_symbol_of lexeme ≡ symbol → ((count : ℕ) → go (before count) symbol ≡ following count) → IsStuck following others → IsStuck before (lexeme ∷ others)
IsStuck-following lexeme others symbol before following is goes stuck count through =
    stuck count
    (subst IsThrough (ap (λ one. run (go (before count) one) (map expression_symbol_of others)) is ∙ ap (λ state. run state (map expression_symbol_of others)) (goes count)) through)

-- and it is first seen at the same place
pub unread_following : (IsBegun IsMoreBegun : List (Lexeme HoaKind) → Type 0) (old new : List (Lexeme HoaKind)) (lexeme : Lexeme HoaKind) (symbol : ExpressionSymbol) (before following : ℕ → NameState) (length : ℕ) (refusal : Refusal)
    → old ≡ lexeme ∷ new → expression_symbol_of lexeme ≡ symbol → ((count : ℕ) → go (before count) symbol ≡ following count)
    → ((front : List (Lexeme HoaKind)) → IsMoreBegun front → IsBegun (lexeme ∷ front))
    → IsUnread (IsStuck following) IsMoreBegun new length refusal → IsUnread (IsStuck before) IsBegun old length refusal
unread_following IsBegun IsMoreBegun old new lexeme symbol before following length refusal next is goes begins unread =
    first_after (IsStuck before) (IsStuck following) IsBegun IsMoreBegun old (lexeme ∷ []) new length refusal next
    (λ others. IsStuck-following lexeme others symbol before following is goes) begins unread

-- where the name of an atom is passed and no set in parentheses follows, nothing is read
pub unread_named : (whole old left : List (Lexeme HoaKind)) (lexeme : Lexeme HoaKind) (text : List ℕ) (nodes : List RawAccNode) (names : List ℕ) (pending : List Pending) (length : ℕ) (refusal : Refusal)
    → Wants whole old nodes names pending → old ≡ lexeme ∷ left → expression_symbol_of lexeme ≡ word text
    → IsUnread (IsStuck named) (BeginsSet []) left length refusal → IsUnread ReadsNoAcc BeginsAcc whole length refusal
unread_named whole old left lexeme text nodes names pending length refusal wants next is unread =
    first_after ReadsNoAcc (IsStuck wanted) BeginsAcc (λ before. BeginsAcc (wants.passed.front ++ before)) whole wants.passed.front old length refusal wants.passed.split
    (λ others. stuck_wanted (wants.passed.front ++ others) others nodes names pending (wants_before whole old others nodes names pending wants))
    (λ before begun. begun)
    (unread_following (λ before. BeginsAcc (wants.passed.front ++ before)) (BeginsSet []) old left lexeme (word text) wanted named length refusal next is (λ count. refl)
    (λ front. begun_named wants.before wants.passed.front front lexeme text wants.sound wants.passed.spells is) unread)
