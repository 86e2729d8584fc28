-- Acceptance formulas built from their tokens.
use Rattle.std.proofs.Common.{◌≡◌, ℕ, ◌+◌, List, [], ◌∷◌, ◌++◌, max, min, ap, append_assoc, refl, sym, ◌∙◌, subst, arith}
use Rattle.omega_hoa_expression.specs.Limits.{past_depth}
use Rattle.omega_hoa_acceptance.specs.Reading.{IsAccOf, ReadsAcc, formula_symbols}
use Rattle.omega_hoa_acceptance.specs.Raw.{RawAccTree, atom, conjunction, constant, disjunction, group}
use Rattle.omega_hoa_expression.specs.Symbols.{EndsThere, Rank, ExpressionSymbol, conjunctive, disjunctive, seen_as, sign, expression_symbol_of, unary}
use Rattle.omega_hoa_expression.specs.declared.pending.Pending.{Pending}
use Rattle.omega_hoa_expression.specs.declared.pending.Pending.TheVariants.{And, Not, Open, Or}
use Rattle.omega_hoa_acceptance.specs.declared.raw.RawAccNode.{RawAccNode}
use Rattle.omega_hoa_acceptance.specs.declared.raw.RawAccNode.TheVariants as node
use Rattle.omega_hoa_acceptance.specs.private.layout.Building.{Before, FitsAfter, Has, IsOpenBefore, Wants, anded, before_names, before_nodes, before_pending, before_symbols, capped, opened, ored, start}
use Rattle.omega_hoa_expression.specs.Passing.{NextIsNot, Passed, PassesOne}
use Rattle.omega_hoa_acceptance.specs.private.layout.Raw.{atom_names, raw_acc_postfix}
use Rattle.omega_hoa_expression.proofs.PassingLemmas.{enclosed_list, end_others, followed_lists, joined_lists, passed_next, passed_same, passed_then}
use Rattle.omega_hoa_expression.proofs.PendingLemmas.{IsBar, IsConjunct, IsDisjunct, IsFree, IsLoose, IsNothing, IsParenthesis, below, free_open, kept, top}
use Rattle.omega_hoa_acceptance.proofs.BeginLemmas.{conjunctive_is, fits_unary, unary_is}
use Rattle.omega_text.specs.Lexeme.{Lexeme}
use Rattle.omega_text.specs.declared.hoa.kind.HoaKind.{HoaKind}
use Rattle.omega_text.specs.declared.hoa.kind.HoaKind.TheVariants as kind

-- nothing has been read
pub wants_first : (whole : List (Lexeme HoaKind)) → Wants whole whole [] [] []
wants_first whole = record {
  before = start;
  sound = tt;
  flat = refl;
  named = refl;
  pends = refl;
  passed = record { front = []; split = refl; spells = refl };
}

-- `(` is passed
pub wants_opened : (whole old left : List (Lexeme HoaKind)) (lexeme : Lexeme HoaKind) (nodes : List RawAccNode) (names : List ℕ) (pending : List Pending)
    → Wants whole old nodes names pending → old ≡ lexeme ∷ left → expression_symbol_of lexeme ≡ sign kind.OpenParenthesis
    → Wants whole left nodes names (Open ∷ pending)
wants_opened whole old left lexeme nodes names pending wants next is = record {
  before = opened wants.before;
  sound = wants.sound;
  flat = wants.flat;
  named = wants.named;
  pends = ap (λ more. Open ∷ more) wants.pends;
  passed = passed_next whole old left lexeme _ _ _ wants.passed next is refl;
}

-- a formula without parts
abbrev pub IsLeaf : RawAccTree → Type 0
IsLeaf (constant value) = Unit {0}
IsLeaf (atom name negated set) = Unit {0}
IsLeaf other = ⊥

leaf_is : (tree : RawAccTree) (rank : Rank) → IsLeaf tree → IsAccOf rank tree
leaf_is (constant value) rank leaf = tt
leaf_is (atom name negated set) rank leaf = tt
leaf_is (conjunction left right) rank leaf = absurd leaf
leaf_is (disjunction left right) rank leaf = absurd leaf
leaf_is (group part) rank leaf = absurd leaf

leaf_capped : (tree : RawAccTree) → IsLeaf tree → 1 ≡ capped tree
leaf_capped (constant value) leaf = refl
leaf_capped (atom name negated set) leaf = refl
leaf_capped (conjunction left right) leaf = absurd leaf
leaf_capped (disjunction left right) leaf = absurd leaf
leaf_capped (group part) leaf = absurd leaf

-- a constant or an atom is passed
pub has_leaf : (whole middle left : List (Lexeme HoaKind)) (lexeme : Lexeme HoaKind) (nodes : List RawAccNode) (names : List ℕ) (pending : List Pending)
    (tree : RawAccTree) (more : List ExpressionSymbol) (all_nodes : List RawAccNode) (all_names : List ℕ) (all_pending : List Pending) (old : List (Lexeme HoaKind))
    → IsLeaf tree → old ≡ lexeme ∷ middle → formula_symbols tree ≡ expression_symbol_of lexeme ∷ more → Passed middle more left
    → all_nodes ≡ nodes ++ raw_acc_postfix tree → all_names ≡ names ++ atom_names tree → all_pending ≡ pending
    → Wants whole old nodes names pending → Has unary whole left 1 all_nodes all_names all_pending
has_leaf whole middle left lexeme nodes names pending tree more all_nodes all_names all_pending old leaf next spells following flat named pends wants = record {
  before = wants.before;
  part = tree;
  is = leaf_is tree unary leaf;
  fits = fits_unary wants.before;
  sound = wants.sound;
  deep = leaf_capped tree leaf;
  flat = flat ∙ ap (λ front. front ++ raw_acc_postfix tree) wants.flat;
  named = named ∙ ap (λ front. front ++ atom_names tree) wants.named;
  pends = pends ∙ wants.pends;
  passed = passed_same whole left _ _
      (passed_then whole middle left _ _ (passed_next whole old middle lexeme _ _ _ wants.passed next refl refl) following)
      (ap (λ symbols. before_symbols wants.before ++ symbols) spells ∙ sym (append_assoc (before_symbols wants.before) (expression_symbol_of lexeme ∷ []) more));
}

-- a part after `&`
conjoined_before : (before : Before) (whole left : List (Lexeme HoaKind)) (depth other deeper : ℕ) (nodes : List RawAccNode) (names : List ℕ) (rest : List Pending) (part : RawAccTree)
    → IsAccOf unary part → IsOpenBefore before → depth ≡ capped part → deeper ≡ min (max depth other + 1) past_depth → nodes ≡ before_nodes before ++ raw_acc_postfix part
    → names ≡ before_names before ++ atom_names part → And other ∷ rest ≡ before_pending before → Passed whole (before_symbols before ++ formula_symbols part) left
    → Has conjunctive whole left deeper (nodes ++ node.And ∷ []) names rest
conjoined_before start whole left depth other deeper nodes names rest part is sound deep more flat named pends passed = absurd (subst (λ p. IsConjunct (top p)) pends tt)
conjoined_before (opened before) whole left depth other deeper nodes names rest part is sound deep more flat named pends passed = absurd (subst (λ p. IsConjunct (top p)) pends tt)
conjoined_before (ored before first) whole left depth other deeper nodes names rest part is sound deep more flat named pends passed = absurd (subst (λ p. IsConjunct (top p)) pends tt)
conjoined_before (anded before first) whole left depth other deeper nodes names rest part is sound deep more flat named pends passed =
    let first_deep : other ≡ capped first = ap kept pends in
    record {
      before = before;
      part = conjunction first part;
      is = (tt, (sound.0, is));
      fits = sound.1.0;
      sound = sound.1.1;
      deep = omega (arith, deep, more, first_deep);
      flat = ap (λ front. front ++ node.And ∷ []) flat ∙ followed_lists (before_nodes before) (raw_acc_postfix first) (raw_acc_postfix part) node.And;
      named = named ∙ append_assoc (before_names before) (atom_names first) (atom_names part);
      pends = ap below pends;
      passed = passed_same whole left _ _ passed (joined_lists (before_symbols before) (formula_symbols first) (formula_symbols part) (sign kind.And));
    }

pub has_conjoined : (whole left : List (Lexeme HoaKind)) (depth other deeper : ℕ) (nodes all : List RawAccNode) (names : List ℕ) (pending rest : List Pending)
    → pending ≡ And other ∷ rest → all ≡ nodes ++ node.And ∷ [] → deeper ≡ min (max depth other + 1) past_depth
    → Has unary whole left depth nodes names pending → Has conjunctive whole left deeper all names rest
has_conjoined whole left depth other deeper nodes all names pending rest waits ended more has =
    subst (λ final. Has conjunctive whole left deeper final names rest) (sym ended)
    (conjoined_before has.before whole left depth other deeper nodes names rest has.part has.is has.sound has.deep more has.flat has.named (sym waits ∙ has.pends) has.passed)

-- a part after `|`
disjoined_before : (before : Before) (whole left : List (Lexeme HoaKind)) (depth other deeper : ℕ) (nodes : List RawAccNode) (names : List ℕ) (rest : List Pending) (part : RawAccTree)
    → IsAccOf conjunctive part → IsOpenBefore before → depth ≡ capped part → deeper ≡ min (max depth other + 1) past_depth → nodes ≡ before_nodes before ++ raw_acc_postfix part
    → names ≡ before_names before ++ atom_names part → Or other ∷ rest ≡ before_pending before → Passed whole (before_symbols before ++ formula_symbols part) left
    → Has disjunctive whole left deeper (nodes ++ node.Or ∷ []) names rest
disjoined_before start whole left depth other deeper nodes names rest part is sound deep more flat named pends passed = absurd (subst (λ p. IsDisjunct (top p)) pends tt)
disjoined_before (opened before) whole left depth other deeper nodes names rest part is sound deep more flat named pends passed = absurd (subst (λ p. IsDisjunct (top p)) pends tt)
disjoined_before (anded before first) whole left depth other deeper nodes names rest part is sound deep more flat named pends passed = absurd (subst (λ p. IsDisjunct (top p)) pends tt)
disjoined_before (ored before first) whole left depth other deeper nodes names rest part is sound deep more flat named pends passed =
    let first_deep : other ≡ capped first = ap kept pends in
    record {
      before = before;
      part = disjunction first part;
      is = (tt, (sound.0, is));
      fits = sound.1.0;
      sound = sound.1.1;
      deep = omega (arith, deep, more, first_deep);
      flat = ap (λ front. front ++ node.Or ∷ []) flat ∙ followed_lists (before_nodes before) (raw_acc_postfix first) (raw_acc_postfix part) node.Or;
      named = named ∙ append_assoc (before_names before) (atom_names first) (atom_names part);
      pends = ap below pends;
      passed = passed_same whole left _ _ passed (joined_lists (before_symbols before) (formula_symbols first) (formula_symbols part) (sign kind.Or));
    }

pub has_disjoined : (whole left : List (Lexeme HoaKind)) (depth other deeper : ℕ) (nodes all : List RawAccNode) (names : List ℕ) (pending rest : List Pending)
    → pending ≡ Or other ∷ rest → all ≡ nodes ++ node.Or ∷ [] → deeper ≡ min (max depth other + 1) past_depth
    → Has conjunctive whole left depth nodes names pending → Has disjunctive whole left deeper all names rest
has_disjoined whole left depth other deeper nodes all names pending rest waits ended more has =
    subst (λ final. Has disjunctive whole left deeper final names rest) (sym ended)
    (disjoined_before has.before whole left depth other deeper nodes names rest has.part has.is has.sound has.deep more has.flat has.named (sym waits ∙ has.pends) has.passed)

fits_loose : (before : Before) → IsLoose (before_pending before) → FitsAfter conjunctive before
fits_loose start loose = tt
fits_loose (opened before) loose = tt
fits_loose (anded before left) loose = loose
fits_loose (ored before left) loose = tt

fits_free : (before : Before) → IsFree (before_pending before) → FitsAfter disjunctive before
fits_free start free = tt
fits_free (opened before) free = tt
fits_free (anded before left) free = free
fits_free (ored before left) free = free

-- a unary part that no `!` or `&` waits for
pub has_loose : (whole left : List (Lexeme HoaKind)) (depth : ℕ) (nodes : List RawAccNode) (names : List ℕ) (pending : List Pending)
    → Has unary whole left depth nodes names pending → IsLoose pending → Has conjunctive whole left depth nodes names pending
has_loose whole left depth nodes names pending has loose = record {
  before = has.before;
  part = has.part;
  is = unary_is has.part conjunctive has.is;
  fits = fits_loose has.before (subst IsLoose has.pends loose);
  sound = has.sound;
  deep = has.deep;
  flat = has.flat;
  named = has.named;
  pends = has.pends;
  passed = has.passed;
}

-- a part that no operator waits for
pub has_free : (whole left : List (Lexeme HoaKind)) (depth : ℕ) (nodes : List RawAccNode) (names : List ℕ) (pending : List Pending)
    → Has conjunctive whole left depth nodes names pending → IsFree pending → Has disjunctive whole left depth nodes names pending
has_free whole left depth nodes names pending has free = record {
  before = has.before;
  part = has.part;
  is = conjunctive_is has.part has.is;
  fits = fits_free has.before (subst IsFree has.pends free);
  sound = has.sound;
  deep = has.deep;
  flat = has.flat;
  named = has.named;
  pends = has.pends;
  passed = has.passed;
}

-- no `!` or `&` waits for an and-expression
loose_of : (before : Before) → FitsAfter conjunctive before → IsLoose (before_pending before)
loose_of start fits = tt
loose_of (opened before) fits = tt
loose_of (anded before left) fits = fits
loose_of (ored before left) fits = tt

pub has_is_loose : (whole left : List (Lexeme HoaKind)) (depth : ℕ) (nodes : List RawAccNode) (names : List ℕ) (pending : List Pending)
    → Has conjunctive whole left depth nodes names pending → IsLoose pending
has_is_loose whole left depth nodes names pending has = subst IsLoose (sym has.pends) (loose_of has.before has.fits)

-- only a parenthesis waits for an or-expression
free_of : (before : Before) → FitsAfter disjunctive before → IsFree (before_pending before)
free_of start fits = tt
free_of (opened before) fits = tt
free_of (anded before left) fits = fits
free_of (ored before left) fits = fits

pub has_is_free : (whole left : List (Lexeme HoaKind)) (depth : ℕ) (nodes : List RawAccNode) (names : List ℕ) (pending : List Pending)
    → Has disjunctive whole left depth nodes names pending → IsFree pending
has_is_free whole left depth nodes names pending has = subst IsFree (sym has.pends) (free_of has.before has.fits)

-- `&` is passed after a part
pub wants_conjunct : (whole old left : List (Lexeme HoaKind)) (lexeme : Lexeme HoaKind) (depth : ℕ) (nodes : List RawAccNode) (names : List ℕ) (pending : List Pending)
    → Has conjunctive whole old depth nodes names pending → old ≡ lexeme ∷ left → expression_symbol_of lexeme ≡ sign kind.And
    → Wants whole left nodes names (And depth ∷ pending)
wants_conjunct whole old left lexeme depth nodes names pending has next is = record {
  before = anded has.before has.part;
  sound = (has.is, (has.fits, has.sound));
  flat = has.flat;
  named = has.named;
  pends = ap (λ d. And d ∷ pending) has.deep ∙ ap (λ more. And (capped has.part) ∷ more) has.pends;
  passed = passed_next whole old left lexeme _ _ _ has.passed next is (sym (append_assoc (before_symbols has.before) (formula_symbols has.part) (sign kind.And ∷ [])));
}

-- `|` is passed after a part
pub wants_disjunct : (whole old left : List (Lexeme HoaKind)) (lexeme : Lexeme HoaKind) (depth : ℕ) (nodes : List RawAccNode) (names : List ℕ) (pending : List Pending)
    → Has disjunctive whole old depth nodes names pending → old ≡ lexeme ∷ left → expression_symbol_of lexeme ≡ sign kind.Or
    → Wants whole left nodes names (Or depth ∷ pending)
wants_disjunct whole old left lexeme depth nodes names pending has next is = record {
  before = ored has.before has.part;
  sound = (has.is, (has.fits, has.sound));
  flat = has.flat;
  named = has.named;
  pends = ap (λ d. Or d ∷ pending) has.deep ∙ ap (λ more. Or (capped has.part) ∷ more) has.pends;
  passed = passed_next whole old left lexeme _ _ _ has.passed next is (sym (append_assoc (before_symbols has.before) (formula_symbols has.part) (sign kind.Or ∷ [])));
}

grouped_before : (before : Before) (whole old left : List (Lexeme HoaKind)) (lexeme : Lexeme HoaKind) (depth deeper : ℕ) (nodes : List RawAccNode) (names : List ℕ) (rest : List Pending) (part : RawAccTree)
    → IsAccOf disjunctive part → IsOpenBefore before → depth ≡ capped part → deeper ≡ min (depth + 1) past_depth → nodes ≡ before_nodes before ++ raw_acc_postfix part
    → names ≡ before_names before ++ atom_names part → Open ∷ rest ≡ before_pending before → Passed whole (before_symbols before ++ formula_symbols part) old
    → old ≡ lexeme ∷ left → expression_symbol_of lexeme ≡ sign kind.CloseParenthesis
    → Has unary whole left deeper (nodes ++ node.Group ∷ []) names rest
grouped_before start whole old left lexeme depth deeper nodes names rest part is sound deep more flat named pends passed next closes = absurd (subst (λ p. IsParenthesis (top p)) pends tt)
grouped_before (anded before other) whole old left lexeme depth deeper nodes names rest part is sound deep more flat named pends passed next closes = absurd (subst (λ p. IsParenthesis (top p)) pends tt)
grouped_before (ored before other) whole old left lexeme depth deeper nodes names rest part is sound deep more flat named pends passed next closes = absurd (subst (λ p. IsParenthesis (top p)) pends tt)
grouped_before (opened before) whole old left lexeme depth deeper nodes names rest part is sound deep more flat named pends passed next closes = record {
  before = before;
  part = group part;
  is = is;
  fits = fits_unary before;
  sound = sound;
  deep = omega (arith, deep, more);
  flat = ap (λ front. front ++ node.Group ∷ []) flat ∙ append_assoc (before_nodes before) (raw_acc_postfix part) (node.Group ∷ []);
  named = named;
  pends = ap below pends;
  passed = passed_next whole old left lexeme _ _ _ passed next closes (enclosed_list (before_symbols before) (formula_symbols part) (sign kind.OpenParenthesis) (sign kind.CloseParenthesis));
}

pub has_grouped : (whole old left : List (Lexeme HoaKind)) (lexeme : Lexeme HoaKind) (depth deeper : ℕ) (nodes all : List RawAccNode) (names : List ℕ) (pending rest : List Pending)
    → pending ≡ Open ∷ rest → all ≡ nodes ++ node.Group ∷ [] → deeper ≡ min (depth + 1) past_depth
    → old ≡ lexeme ∷ left → expression_symbol_of lexeme ≡ sign kind.CloseParenthesis
    → Has disjunctive whole old depth nodes names pending → Has unary whole left deeper all names rest
has_grouped whole old left lexeme depth deeper nodes all names pending rest waits ended more next closes has =
    subst (λ final. Has unary whole left deeper final names rest) (sym ended)
    (grouped_before has.before whole old left lexeme depth deeper nodes names rest has.part has.is has.sound has.deep more has.flat has.named (sym waits ∙ has.pends) has.passed next closes)

-- with nothing left open the whole is read
pub record IsRead (whole left : List (Lexeme HoaKind)) (depth : ℕ) (nodes : List RawAccNode) (names : List ℕ) : Type 0 where
  pub tree : RawAccTree
  pub reads : ReadsAcc whole tree left
  pub flat : nodes ≡ raw_acc_postfix tree
  pub named : names ≡ atom_names tree
  pub deep : depth ≡ capped tree

read_before : (before : Before) (whole left : List (Lexeme HoaKind)) (depth : ℕ) (nodes : List RawAccNode) (names : List ℕ) (part : RawAccTree)
    → IsAccOf disjunctive part → depth ≡ capped part → nodes ≡ before_nodes before ++ raw_acc_postfix part
    → names ≡ before_names before ++ atom_names part → [] ≡ before_pending before → Passed whole (before_symbols before ++ formula_symbols part) left → EndsThere left
    → IsRead whole left depth nodes names
read_before (opened before) whole left depth nodes names part is deep flat named pends passed ends = absurd (subst (λ p. IsNothing (top p)) pends tt)
read_before (anded before other) whole left depth nodes names part is deep flat named pends passed ends = absurd (subst (λ p. IsNothing (top p)) pends tt)
read_before (ored before other) whole left depth nodes names part is deep flat named pends passed ends = absurd (subst (λ p. IsNothing (top p)) pends tt)
read_before start whole left depth nodes names part is deep flat named pends passed ends = record {
  tree = part;
  reads = record { front = passed.front; split = passed.split; spells = passed.spells; is = is; ends = ends };
  flat = flat;
  named = named;
  deep = deep;
}

pub has_read : (whole left : List (Lexeme HoaKind)) (depth : ℕ) (nodes : List RawAccNode) (names : List ℕ)
    → Has disjunctive whole left depth nodes names [] → EndsThere left → IsRead whole left depth nodes names
has_read whole left depth nodes names has ends =
    read_before has.before whole left depth nodes names has.part has.is has.deep has.flat has.named has.pends has.passed ends

-- `&` is passed and waits
pub after_and : (whole old left : List (Lexeme HoaKind)) (depth : ℕ) (nodes : List RawAccNode) (names : List ℕ) (pending more : List Pending)
    → PassesOne kind.And old left → more ≡ And depth ∷ pending → Has conjunctive whole old depth nodes names pending → Wants whole left nodes names more
after_and whole old left depth nodes names pending more one pushed has =
    subst (Wants whole left nodes names) (sym pushed)
    (wants_conjunct whole old left one.lexeme depth nodes names pending has one.next (ap (λ k. seen_as k one.lexeme.value one.lexeme.text) one.is))

-- `|` is passed and waits
pub after_or : (whole old same left : List (Lexeme HoaKind)) (depth : ℕ) (nodes : List RawAccNode) (names : List ℕ) (pending more : List Pending)
    → same ≡ old → PassesOne kind.Or same left → more ≡ Or depth ∷ pending → Has disjunctive whole old depth nodes names pending → Wants whole left nodes names more
after_or whole old same left depth nodes names pending more stays one pushed has =
    subst (Wants whole left nodes names) (sym pushed)
    (wants_disjunct whole old left one.lexeme depth nodes names pending has (sym stays ∙ one.next) (ap (λ k. seen_as k one.lexeme.value one.lexeme.text) one.is))

-- nothing waits, and no operator follows
pub whole_read : (whole old same left : List (Lexeme HoaKind)) (depth : ℕ) (nodes : List RawAccNode) (names : List ℕ) (pending : List Pending)
    → same ≡ old → NextIsNot kind.And old → left ≡ same → NextIsNot kind.Or same → pending ≡ []
    → Has disjunctive whole old depth nodes names pending → IsRead whole left depth nodes names
whole_read whole old same left depth nodes names pending stays not_and rests not_or none has =
    let at_left : left ≡ old = rests ∙ stays in
    has_read whole left depth nodes names
    (subst (Has disjunctive whole left depth nodes names) none (subst (λ l. Has disjunctive whole l depth nodes names pending) (sym at_left) has))
    (subst EndsThere (sym at_left) (end_others old not_and (subst (NextIsNot kind.Or) stays not_or)))

-- a parenthesis waits, and `)` is passed
pub after_close : (whole old same still left : List (Lexeme HoaKind)) (depth deeper : ℕ) (nodes all : List RawAccNode) (names : List ℕ) (pending : List Pending) (first : Pending) (rest : List Pending)
    → same ≡ old → still ≡ same → PassesOne kind.CloseParenthesis still left → pending ≡ first ∷ rest → all ≡ nodes ++ node.Group ∷ [] → deeper ≡ min (depth + 1) past_depth
    → Has disjunctive whole old depth nodes names pending → Has unary whole left deeper all names rest
after_close whole old same still left depth deeper nodes all names pending first rest stays rests one waits joined more has =
    let free = subst IsFree waits (has_is_free whole old depth nodes names pending has) in
    has_grouped whole old left one.lexeme depth deeper nodes all names pending rest
    (waits ∙ ap (λ p. p ∷ rest) (free_open first rest free)) joined more
    (sym (rests ∙ stays) ∙ one.next) (ap (λ k. seen_as k one.lexeme.value one.lexeme.text) one.is) has

-- no `!` is pending
never_bar : (before : Before) → IsBar (top (before_pending before)) → ⊥
never_bar start bar = bar
never_bar (opened before) bar = bar
never_bar (anded before left) bar = bar
never_bar (ored before left) bar = bar

loose_pending : (pending : Pending) (rest : List Pending) (before : Before)
    → pending ∷ rest ≡ before_pending before → ((depth : ℕ) → pending ≡ And depth → ⊥) → IsLoose (pending ∷ rest)
loose_pending Open rest before is not_and = tt
loose_pending Not rest before is not_and = never_bar before (subst (λ p. IsBar (top p)) is tt)
loose_pending (And depth) rest before is not_and = not_and depth refl
loose_pending (Or depth) rest before is not_and = tt

-- what waits for a part, and not with `&`
pub has_others : (whole left : List (Lexeme HoaKind)) (depth : ℕ) (nodes : List RawAccNode) (names : List ℕ) (pending : Pending) (rest : List Pending)
    → Has unary whole left depth nodes names (pending ∷ rest) → ((kept : ℕ) → pending ≡ And kept → ⊥) → IsLoose (pending ∷ rest)
has_others whole left depth nodes names pending rest has not_and = loose_pending pending rest has.before has.pends not_and
