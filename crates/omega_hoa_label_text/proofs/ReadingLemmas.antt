-- Labels built from their tokens.
use Rattle.std.proofs.Common.{◌≡◌, ℕ, ◌+◌, zero, suc, Bool, true, false, List, [], ◌∷◌, ◌++◌, map, max, min, ap, append-nil, append_assoc, if◌then◌else◌, MatchBool, refl, sym, ◌∙◌, subst, arith}
use Rattle.std.proofs.lemmas.List.{map-append}
use Rattle.omega_hoa_expression.specs.Limits.{past_depth}
use Rattle.omega_hoa_label.specs.Raw.{RawLabelTree, alias, conjunction, constant, disjunction, group, negation, proposition}
use Rattle.omega_hoa_label_text.specs.Reading.{BeginsLabel, IsOf, Reads, ReadsNoLabel, label_symbols}
use Rattle.omega_hoa_expression.specs.Symbols.{EndsThere, IsNoOperator, Rank, ExpressionSymbol, conjunctive, disjunctive, name, number, seen_as, sign, expression_symbol_of, truth_kind, unary}
use Rattle.omega_hoa_expression.specs.declared.pending.Pending.{Pending}
use Rattle.omega_hoa_expression.specs.declared.pending.Pending.TheVariants.{And, Not, Open, Or}
use Rattle.omega_hoa_label.specs.declared.label.LabelNode.{LabelNode}
use Rattle.omega_hoa_label.specs.declared.label.LabelNode.TheVariants as node
use Rattle.omega_hoa_label_text.specs.private.Building.{Before, FitsAfter, Has, IsOpenBefore, Wants, anded, before_names, before_nodes, before_pending, before_symbols, capped, denied, literal, literal_depth, opened, ored, start}
use Rattle.omega_hoa_expression.specs.Passing.{NextIsNot, Passed, PassesNumber, PassesOne}
use Rattle.omega_hoa_label.specs.Postfix.{AreOf, alias_names, raw_postfix}
use Rattle.omega_hoa_expression.proofs.PassingLemmas.{GoOnNone, GoesOnNone, enclosed_list, end_others, followed_lists, go_on_others, joined_lists, passed_next, passed_same}
use Rattle.omega_hoa_expression.proofs.PendingLemmas.{IsBar, IsConjunct, IsDisjunct, IsFree, IsLoose, IsNothing, IsParenthesis, below, free_open, kept, top}
use Rattle.omega_hoa_expression.proofs.UnreadLemmas.{first_next}
use Rattle.omega_hoa_expression.specs.Unread.{AgreeThroughNext, IsFirstUnread}
use Rattle.omega_hoa_label_text.proofs.BeginLemmas.{begun_had, begun_wanted, conjunctive_is, fits_unary, opens, unary_is}
use Rattle.omega_text.specs.Cursor.{next_place}
use Rattle.omega_text.specs.Lexeme.{Lexeme}
use Rattle.omega_text.specs.declared.hoa.kind.HoaKind.{HoaKind}
use Rattle.omega_text.specs.declared.hoa.kind.HoaKind.TheVariants as kind

-- nothing has been read
pub wants_first : (whole : List (Lexeme HoaKind)) → Wants whole whole [] [] []
wants_first whole = record {
  before = start;
  sound = tt;
  flat = refl;
  named = refl;
  pends = refl;
  passed = record { front = []; split = refl; spells = refl };
}

-- `(` is passed
pub wants_opened : (whole old left : List (Lexeme HoaKind)) (lexeme : Lexeme HoaKind) (nodes : List LabelNode) (names : List ℕ) (pending : List Pending)
    → Wants whole old nodes names pending → old ≡ lexeme ∷ left → expression_symbol_of lexeme ≡ sign kind.OpenParenthesis
    → Wants whole left nodes names (Open ∷ pending)
wants_opened whole old left lexeme nodes names pending wants next is = record {
  before = opened wants.before;
  sound = wants.sound;
  flat = wants.flat;
  named = wants.named;
  pends = ap (λ more. Open ∷ more) wants.pends;
  passed = passed_next whole old left lexeme _ _ _ wants.passed next is refl;
}

-- `!` is passed
pub wants_denied : (whole old left : List (Lexeme HoaKind)) (lexeme : Lexeme HoaKind) (nodes : List LabelNode) (names : List ℕ) (pending : List Pending)
    → Wants whole old nodes names pending → old ≡ lexeme ∷ left → expression_symbol_of lexeme ≡ sign kind.Not
    → Wants whole left nodes names (Not ∷ pending)
wants_denied whole old left lexeme nodes names pending wants next is = record {
  before = denied wants.before;
  sound = wants.sound;
  flat = wants.flat;
  named = wants.named;
  pends = ap (λ more. Not ∷ more) wants.pends;
  passed = passed_next whole old left lexeme _ _ _ wants.passed next is refl;
}

-- a label of one symbol
pub data IsAtom : RawLabelTree → ExpressionSymbol → Type 0 where
  truth : (value : Bool) → IsAtom (constant value) (sign (truth_kind value))
  numbered : (value : ℕ) → IsAtom (proposition value) (number value)
  called : (text : List ℕ) → IsAtom (alias text) (name text)

-- a number is the symbol of its value
numbered_as : (lexeme : Lexeme HoaKind) (value : ℕ) → lexeme.kind ≡ kind.Int → lexeme.value ≡ value → IsAtom (proposition value) (expression_symbol_of lexeme)
numbered_as lexeme value is same =
    subst (IsAtom (proposition value)) (sym (ap (λ k. seen_as k lexeme.value lexeme.text) is ∙ ap number same)) (numbered value)

atom_spelled : (tree : RawLabelTree) (symbol : ExpressionSymbol) → IsAtom tree symbol → label_symbols tree ≡ symbol ∷ []
atom_spelled tree symbol (truth value) = refl
atom_spelled tree symbol (numbered value) = refl
atom_spelled tree symbol (called text) = refl

atom_is : (tree : RawLabelTree) (symbol : ExpressionSymbol) (rank : Rank) → IsAtom tree symbol → IsOf rank tree
atom_is tree symbol rank (truth value) = tt
atom_is tree symbol rank (numbered value) = tt
atom_is tree symbol rank (called text) = tt

atom_capped : (tree : RawLabelTree) (symbol : ExpressionSymbol) → IsAtom tree symbol → 1 ≡ capped tree
atom_capped tree symbol (truth value) = refl
atom_capped tree symbol (numbered value) = refl
atom_capped tree symbol (called text) = refl

-- an atom is passed
pub has_atom : (whole old left : List (Lexeme HoaKind)) (lexeme : Lexeme HoaKind) (nodes : List LabelNode) (names : List ℕ) (pending : List Pending)
    (tree : RawLabelTree) (all_nodes : List LabelNode) (all_names : List ℕ) (all_pending : List Pending)
    → old ≡ lexeme ∷ left → IsAtom tree (expression_symbol_of lexeme)
    → all_nodes ≡ nodes ++ raw_postfix tree → all_names ≡ names ++ alias_names tree → all_pending ≡ pending
    → Wants whole old nodes names pending → Has unary whole left 1 all_nodes all_names all_pending
has_atom whole old left lexeme nodes names pending tree all_nodes all_names all_pending next is flat named pends wants = record {
  before = wants.before;
  part = tree;
  is = atom_is tree (expression_symbol_of lexeme) unary is;
  fits = fits_unary wants.before;
  sound = wants.sound;
  deep = atom_capped tree (expression_symbol_of lexeme) is;
  flat = flat ∙ ap (λ front. front ++ raw_postfix tree) wants.flat;
  named = named ∙ ap (λ front. front ++ alias_names tree) wants.named;
  pends = pends ∙ wants.pends;
  passed = passed_next whole old left lexeme _ _ _ wants.passed next refl (ap (λ symbols. before_symbols wants.before ++ symbols) (atom_spelled tree (expression_symbol_of lexeme) is));
}

-- `!` and a part
negated_before : (before : Before) (whole left : List (Lexeme HoaKind)) (depth deeper : ℕ) (nodes : List LabelNode) (names : List ℕ) (rest : List Pending) (part : RawLabelTree)
    → IsOf unary part → IsOpenBefore before → depth ≡ capped part → deeper ≡ min (depth + 1) past_depth → nodes ≡ before_nodes before ++ raw_postfix part
    → names ≡ before_names before ++ alias_names part → Not ∷ rest ≡ before_pending before → Passed whole (before_symbols before ++ label_symbols part) left
    → Has unary whole left deeper (nodes ++ node.Not ∷ []) names rest
negated_before start whole left depth deeper nodes names rest part is sound deep more flat named pends passed = absurd (subst (λ p. IsBar (top p)) pends tt)
negated_before (opened before) whole left depth deeper nodes names rest part is sound deep more flat named pends passed = absurd (subst (λ p. IsBar (top p)) pends tt)
negated_before (anded before other) whole left depth deeper nodes names rest part is sound deep more flat named pends passed = absurd (subst (λ p. IsBar (top p)) pends tt)
negated_before (ored before other) whole left depth deeper nodes names rest part is sound deep more flat named pends passed = absurd (subst (λ p. IsBar (top p)) pends tt)
negated_before (denied before) whole left depth deeper nodes names rest part is sound deep more flat named pends passed = record {
  before = before;
  part = negation part;
  is = is;
  fits = fits_unary before;
  sound = sound;
  deep = omega (arith, deep, more);
  flat = ap (λ front. front ++ node.Not ∷ []) flat ∙ append_assoc (before_nodes before) (raw_postfix part) (node.Not ∷ []);
  named = named;
  pends = ap below pends;
  passed = passed_same whole left _ _ passed (sym (append_assoc (before_symbols before) (sign kind.Not ∷ []) (label_symbols part)));
}

pub has_negated : (whole left : List (Lexeme HoaKind)) (depth deeper : ℕ) (nodes all : List LabelNode) (names : List ℕ) (pending rest : List Pending)
    → pending ≡ Not ∷ rest → all ≡ nodes ++ node.Not ∷ [] → deeper ≡ min (depth + 1) past_depth
    → Has unary whole left depth nodes names pending → Has unary whole left deeper all names rest
has_negated whole left depth deeper nodes all names pending rest waits ended more has =
    subst (λ final. Has unary whole left deeper final names rest) (sym ended)
    (negated_before has.before whole left depth deeper nodes names rest has.part has.is has.sound has.deep more has.flat has.named (sym waits ∙ has.pends) has.passed)

-- a part after `&`
conjoined_before : (before : Before) (whole left : List (Lexeme HoaKind)) (depth other deeper : ℕ) (nodes : List LabelNode) (names : List ℕ) (rest : List Pending) (part : RawLabelTree)
    → IsOf unary part → IsOpenBefore before → depth ≡ capped part → deeper ≡ min (max depth other + 1) past_depth → nodes ≡ before_nodes before ++ raw_postfix part
    → names ≡ before_names before ++ alias_names part → And other ∷ rest ≡ before_pending before → Passed whole (before_symbols before ++ label_symbols part) left
    → Has conjunctive whole left deeper (nodes ++ node.And ∷ []) names rest
conjoined_before start whole left depth other deeper nodes names rest part is sound deep more flat named pends passed = absurd (subst (λ p. IsConjunct (top p)) pends tt)
conjoined_before (opened before) whole left depth other deeper nodes names rest part is sound deep more flat named pends passed = absurd (subst (λ p. IsConjunct (top p)) pends tt)
conjoined_before (denied before) whole left depth other deeper nodes names rest part is sound deep more flat named pends passed = absurd (subst (λ p. IsConjunct (top p)) pends tt)
conjoined_before (ored before first) whole left depth other deeper nodes names rest part is sound deep more flat named pends passed = absurd (subst (λ p. IsConjunct (top p)) pends tt)
conjoined_before (anded before first) whole left depth other deeper nodes names rest part is sound deep more flat named pends passed =
    let first_deep : other ≡ capped first = ap kept pends in
    record {
      before = before;
      part = conjunction first part;
      is = (tt, (sound.0, is));
      fits = sound.1.0;
      sound = sound.1.1;
      deep = omega (arith, deep, more, first_deep);
      flat = ap (λ front. front ++ node.And ∷ []) flat ∙ followed_lists (before_nodes before) (raw_postfix first) (raw_postfix part) node.And;
      named = named ∙ append_assoc (before_names before) (alias_names first) (alias_names part);
      pends = ap below pends;
      passed = passed_same whole left _ _ passed (joined_lists (before_symbols before) (label_symbols first) (label_symbols part) (sign kind.And));
    }

pub has_conjoined : (whole left : List (Lexeme HoaKind)) (depth other deeper : ℕ) (nodes all : List LabelNode) (names : List ℕ) (pending rest : List Pending)
    → pending ≡ And other ∷ rest → all ≡ nodes ++ node.And ∷ [] → deeper ≡ min (max depth other + 1) past_depth
    → Has unary whole left depth nodes names pending → Has conjunctive whole left deeper all names rest
has_conjoined whole left depth other deeper nodes all names pending rest waits ended more has =
    subst (λ final. Has conjunctive whole left deeper final names rest) (sym ended)
    (conjoined_before has.before whole left depth other deeper nodes names rest has.part has.is has.sound has.deep more has.flat has.named (sym waits ∙ has.pends) has.passed)

-- a part after `|`
disjoined_before : (before : Before) (whole left : List (Lexeme HoaKind)) (depth other deeper : ℕ) (nodes : List LabelNode) (names : List ℕ) (rest : List Pending) (part : RawLabelTree)
    → IsOf conjunctive part → IsOpenBefore before → depth ≡ capped part → deeper ≡ min (max depth other + 1) past_depth → nodes ≡ before_nodes before ++ raw_postfix part
    → names ≡ before_names before ++ alias_names part → Or other ∷ rest ≡ before_pending before → Passed whole (before_symbols before ++ label_symbols part) left
    → Has disjunctive whole left deeper (nodes ++ node.Or ∷ []) names rest
disjoined_before start whole left depth other deeper nodes names rest part is sound deep more flat named pends passed = absurd (subst (λ p. IsDisjunct (top p)) pends tt)
disjoined_before (opened before) whole left depth other deeper nodes names rest part is sound deep more flat named pends passed = absurd (subst (λ p. IsDisjunct (top p)) pends tt)
disjoined_before (denied before) whole left depth other deeper nodes names rest part is sound deep more flat named pends passed = absurd (subst (λ p. IsDisjunct (top p)) pends tt)
disjoined_before (anded before first) whole left depth other deeper nodes names rest part is sound deep more flat named pends passed = absurd (subst (λ p. IsDisjunct (top p)) pends tt)
disjoined_before (ored before first) whole left depth other deeper nodes names rest part is sound deep more flat named pends passed =
    let first_deep : other ≡ capped first = ap kept pends in
    record {
      before = before;
      part = disjunction first part;
      is = (tt, (sound.0, is));
      fits = sound.1.0;
      sound = sound.1.1;
      deep = omega (arith, deep, more, first_deep);
      flat = ap (λ front. front ++ node.Or ∷ []) flat ∙ followed_lists (before_nodes before) (raw_postfix first) (raw_postfix part) node.Or;
      named = named ∙ append_assoc (before_names before) (alias_names first) (alias_names part);
      pends = ap below pends;
      passed = passed_same whole left _ _ passed (joined_lists (before_symbols before) (label_symbols first) (label_symbols part) (sign kind.Or));
    }

pub has_disjoined : (whole left : List (Lexeme HoaKind)) (depth other deeper : ℕ) (nodes all : List LabelNode) (names : List ℕ) (pending rest : List Pending)
    → pending ≡ Or other ∷ rest → all ≡ nodes ++ node.Or ∷ [] → deeper ≡ min (max depth other + 1) past_depth
    → Has conjunctive whole left depth nodes names pending → Has disjunctive whole left deeper all names rest
has_disjoined whole left depth other deeper nodes all names pending rest waits ended more has =
    subst (λ final. Has disjunctive whole left deeper final names rest) (sym ended)
    (disjoined_before has.before whole left depth other deeper nodes names rest has.part has.is has.sound has.deep more has.flat has.named (sym waits ∙ has.pends) has.passed)

fits_loose : (before : Before) → IsLoose (before_pending before) → FitsAfter conjunctive before
fits_loose start loose = tt
fits_loose (opened before) loose = tt
fits_loose (denied before) loose = loose
fits_loose (anded before left) loose = loose
fits_loose (ored before left) loose = tt

fits_free : (before : Before) → IsFree (before_pending before) → FitsAfter disjunctive before
fits_free start free = tt
fits_free (opened before) free = tt
fits_free (denied before) free = free
fits_free (anded before left) free = free
fits_free (ored before left) free = free

-- a unary part that no `!` or `&` waits for
pub has_loose : (whole left : List (Lexeme HoaKind)) (depth : ℕ) (nodes : List LabelNode) (names : List ℕ) (pending : List Pending)
    → Has unary whole left depth nodes names pending → IsLoose pending → Has conjunctive whole left depth nodes names pending
has_loose whole left depth nodes names pending has loose = record {
  before = has.before;
  part = has.part;
  is = unary_is has.part conjunctive has.is;
  fits = fits_loose has.before (subst IsLoose has.pends loose);
  sound = has.sound;
  deep = has.deep;
  flat = has.flat;
  named = has.named;
  pends = has.pends;
  passed = has.passed;
}

-- a part that no operator waits for
pub has_free : (whole left : List (Lexeme HoaKind)) (depth : ℕ) (nodes : List LabelNode) (names : List ℕ) (pending : List Pending)
    → Has conjunctive whole left depth nodes names pending → IsFree pending → Has disjunctive whole left depth nodes names pending
has_free whole left depth nodes names pending has free = record {
  before = has.before;
  part = has.part;
  is = conjunctive_is has.part has.is;
  fits = fits_free has.before (subst IsFree has.pends free);
  sound = has.sound;
  deep = has.deep;
  flat = has.flat;
  named = has.named;
  pends = has.pends;
  passed = has.passed;
}

-- no `!` or `&` waits for an and-expression
loose_of : (before : Before) → FitsAfter conjunctive before → IsLoose (before_pending before)
loose_of start fits = tt
loose_of (opened before) fits = tt
loose_of (denied before) fits = fits
loose_of (anded before left) fits = fits
loose_of (ored before left) fits = tt

pub has_is_loose : (whole left : List (Lexeme HoaKind)) (depth : ℕ) (nodes : List LabelNode) (names : List ℕ) (pending : List Pending)
    → Has conjunctive whole left depth nodes names pending → IsLoose pending
has_is_loose whole left depth nodes names pending has = subst IsLoose (sym has.pends) (loose_of has.before has.fits)

-- only a parenthesis waits for an or-expression
free_of : (before : Before) → FitsAfter disjunctive before → IsFree (before_pending before)
free_of start fits = tt
free_of (opened before) fits = tt
free_of (denied before) fits = fits
free_of (anded before left) fits = fits
free_of (ored before left) fits = fits

pub has_is_free : (whole left : List (Lexeme HoaKind)) (depth : ℕ) (nodes : List LabelNode) (names : List ℕ) (pending : List Pending)
    → Has disjunctive whole left depth nodes names pending → IsFree pending
has_is_free whole left depth nodes names pending has = subst IsFree (sym has.pends) (free_of has.before has.fits)

-- `&` is passed after a part
pub wants_conjunct : (whole old left : List (Lexeme HoaKind)) (lexeme : Lexeme HoaKind) (depth : ℕ) (nodes : List LabelNode) (names : List ℕ) (pending : List Pending)
    → Has conjunctive whole old depth nodes names pending → old ≡ lexeme ∷ left → expression_symbol_of lexeme ≡ sign kind.And
    → Wants whole left nodes names (And depth ∷ pending)
wants_conjunct whole old left lexeme depth nodes names pending has next is = record {
  before = anded has.before has.part;
  sound = (has.is, (has.fits, has.sound));
  flat = has.flat;
  named = has.named;
  pends = ap (λ d. And d ∷ pending) has.deep ∙ ap (λ more. And (capped has.part) ∷ more) has.pends;
  passed = passed_next whole old left lexeme _ _ _ has.passed next is (sym (append_assoc (before_symbols has.before) (label_symbols has.part) (sign kind.And ∷ [])));
}

-- `|` is passed after a part
pub wants_disjunct : (whole old left : List (Lexeme HoaKind)) (lexeme : Lexeme HoaKind) (depth : ℕ) (nodes : List LabelNode) (names : List ℕ) (pending : List Pending)
    → Has disjunctive whole old depth nodes names pending → old ≡ lexeme ∷ left → expression_symbol_of lexeme ≡ sign kind.Or
    → Wants whole left nodes names (Or depth ∷ pending)
wants_disjunct whole old left lexeme depth nodes names pending has next is = record {
  before = ored has.before has.part;
  sound = (has.is, (has.fits, has.sound));
  flat = has.flat;
  named = has.named;
  pends = ap (λ d. Or d ∷ pending) has.deep ∙ ap (λ more. Or (capped has.part) ∷ more) has.pends;
  passed = passed_next whole old left lexeme _ _ _ has.passed next is (sym (append_assoc (before_symbols has.before) (label_symbols has.part) (sign kind.Or ∷ [])));
}

grouped_before : (before : Before) (whole old left : List (Lexeme HoaKind)) (lexeme : Lexeme HoaKind) (depth deeper : ℕ) (nodes : List LabelNode) (names : List ℕ) (rest : List Pending) (part : RawLabelTree)
    → IsOf disjunctive part → IsOpenBefore before → depth ≡ capped part → deeper ≡ min (depth + 1) past_depth → nodes ≡ before_nodes before ++ raw_postfix part
    → names ≡ before_names before ++ alias_names part → Open ∷ rest ≡ before_pending before → Passed whole (before_symbols before ++ label_symbols part) old
    → old ≡ lexeme ∷ left → expression_symbol_of lexeme ≡ sign kind.CloseParenthesis
    → Has unary whole left deeper (nodes ++ node.Group ∷ []) names rest
grouped_before start whole old left lexeme depth deeper nodes names rest part is sound deep more flat named pends passed next closes = absurd (subst (λ p. IsParenthesis (top p)) pends tt)
grouped_before (denied before) whole old left lexeme depth deeper nodes names rest part is sound deep more flat named pends passed next closes = absurd (subst (λ p. IsParenthesis (top p)) pends tt)
grouped_before (anded before other) whole old left lexeme depth deeper nodes names rest part is sound deep more flat named pends passed next closes = absurd (subst (λ p. IsParenthesis (top p)) pends tt)
grouped_before (ored before other) whole old left lexeme depth deeper nodes names rest part is sound deep more flat named pends passed next closes = absurd (subst (λ p. IsParenthesis (top p)) pends tt)
grouped_before (opened before) whole old left lexeme depth deeper nodes names rest part is sound deep more flat named pends passed next closes = record {
  before = before;
  part = group part;
  is = is;
  fits = fits_unary before;
  sound = sound;
  deep = omega (arith, deep, more);
  flat = ap (λ front. front ++ node.Group ∷ []) flat ∙ append_assoc (before_nodes before) (raw_postfix part) (node.Group ∷ []);
  named = named;
  pends = ap below pends;
  passed = passed_next whole old left lexeme _ _ _ passed next closes (enclosed_list (before_symbols before) (label_symbols part) (sign kind.OpenParenthesis) (sign kind.CloseParenthesis));
}

pub has_grouped : (whole old left : List (Lexeme HoaKind)) (lexeme : Lexeme HoaKind) (depth deeper : ℕ) (nodes all : List LabelNode) (names : List ℕ) (pending rest : List Pending)
    → pending ≡ Open ∷ rest → all ≡ nodes ++ node.Group ∷ [] → deeper ≡ min (depth + 1) past_depth
    → old ≡ lexeme ∷ left → expression_symbol_of lexeme ≡ sign kind.CloseParenthesis
    → Has disjunctive whole old depth nodes names pending → Has unary whole left deeper all names rest
has_grouped whole old left lexeme depth deeper nodes all names pending rest waits ended more next closes has =
    subst (λ final. Has unary whole left deeper final names rest) (sym ended)
    (grouped_before has.before whole old left lexeme depth deeper nodes names rest has.part has.is has.sound has.deep more has.flat has.named (sym waits ∙ has.pends) has.passed next closes)

-- with nothing left open the whole is read
pub record IsRead (whole left : List (Lexeme HoaKind)) (depth : ℕ) (nodes : List LabelNode) (names : List ℕ) : Type 0 where
  pub tree : RawLabelTree
  pub reads : Reads whole tree left
  pub flat : nodes ≡ raw_postfix tree
  pub named : names ≡ alias_names tree
  pub deep : depth ≡ capped tree

read_before : (before : Before) (whole left : List (Lexeme HoaKind)) (depth : ℕ) (nodes : List LabelNode) (names : List ℕ) (part : RawLabelTree)
    → IsOf disjunctive part → depth ≡ capped part → nodes ≡ before_nodes before ++ raw_postfix part
    → names ≡ before_names before ++ alias_names part → [] ≡ before_pending before → Passed whole (before_symbols before ++ label_symbols part) left → EndsThere left
    → IsRead whole left depth nodes names
read_before (opened before) whole left depth nodes names part is deep flat named pends passed ends = absurd (subst (λ p. IsNothing (top p)) pends tt)
read_before (denied before) whole left depth nodes names part is deep flat named pends passed ends = absurd (subst (λ p. IsNothing (top p)) pends tt)
read_before (anded before other) whole left depth nodes names part is deep flat named pends passed ends = absurd (subst (λ p. IsNothing (top p)) pends tt)
read_before (ored before other) whole left depth nodes names part is deep flat named pends passed ends = absurd (subst (λ p. IsNothing (top p)) pends tt)
read_before start whole left depth nodes names part is deep flat named pends passed ends = record {
  tree = part;
  reads = record { front = passed.front; split = passed.split; spells = passed.spells; is = is; ends = ends };
  flat = flat;
  named = named;
  deep = deep;
}

pub has_read : (whole left : List (Lexeme HoaKind)) (depth : ℕ) (nodes : List LabelNode) (names : List ℕ)
    → Has disjunctive whole left depth nodes names [] → EndsThere left → IsRead whole left depth nodes names
has_read whole left depth nodes names has ends =
    read_before has.before whole left depth nodes names has.part has.is has.deep has.flat has.named has.pends has.passed ends

-- how far a label has been gone through, with this many parentheses open
pub data State : Type 0 where
  wanted : ℕ → State
  had : ℕ → State
  ended : State
  failed : State

abbrev go : State → ExpressionSymbol → State
go (wanted count) (number value) = had count
go (wanted count) (name text) = had count
go (wanted count) (sign kind.True) = had count
go (wanted count) (sign kind.False) = had count
go (wanted count) (sign kind.Not) = wanted count
go (wanted count) (sign kind.OpenParenthesis) = wanted (suc count)
go (wanted count) other = failed
go (had count) (sign kind.And) = wanted count
go (had count) (sign kind.Or) = wanted count
go (had zero) other = ended
go (had (suc count)) (sign kind.CloseParenthesis) = had count
go (had (suc count)) other = failed
go ended other = ended
go failed other = failed

abbrev run : State → List ExpressionSymbol → State
run state [] = state
run state (symbol ∷ symbols) = run (go state symbol) symbols

run-append : (state : State) (symbols more : List ExpressionSymbol) → run state (symbols ++ more) ≡ run (run state symbols) more
run-append state [] more = refl
run-append state (symbol ∷ symbols) more = run-append (go state symbol) symbols more

run-failed : (symbols : List ExpressionSymbol) → run failed symbols ≡ failed
run-failed [] = refl
run-failed (symbol ∷ symbols) = run-failed symbols

run-ended : (symbols : List ExpressionSymbol) → run ended symbols ≡ ended
run-ended [] = refl
run-ended (symbol ∷ symbols) = run-ended symbols

-- a label is gone through as an atom is
run-label : (count : ℕ) (tree : RawLabelTree) → run (wanted count) (label_symbols tree) ≡ had count
run-label count (constant true) = refl
run-label count (constant false) = refl
run-label count (proposition value) = refl
run-label count (alias text) = refl
run-label count (negation part) = run-label count part
run-label count (conjunction left right) =
    run-append (wanted count) (label_symbols left) (sign kind.And ∷ label_symbols right)
    ∙ (ap (λ state. run state (sign kind.And ∷ label_symbols right)) (run-label count left) ∙ run-label count right)
run-label count (disjunction left right) =
    run-append (wanted count) (label_symbols left) (sign kind.Or ∷ label_symbols right)
    ∙ (ap (λ state. run state (sign kind.Or ∷ label_symbols right)) (run-label count left) ∙ run-label count right)
run-label count (group part) =
    run-append (wanted (suc count)) (label_symbols part) (sign kind.CloseParenthesis ∷ [])
    ∙ ap (λ state. run state (sign kind.CloseParenthesis ∷ [])) (run-label (suc count) part)

run-before : (before : Before) → run (wanted 0) (before_symbols before) ≡ wanted (opens before)
run-before start = refl
run-before (opened before) =
    run-append (wanted 0) (before_symbols before) (sign kind.OpenParenthesis ∷ [])
    ∙ ap (λ state. run state (sign kind.OpenParenthesis ∷ [])) (run-before before)
run-before (denied before) =
    run-append (wanted 0) (before_symbols before) (sign kind.Not ∷ [])
    ∙ ap (λ state. run state (sign kind.Not ∷ [])) (run-before before)
run-before (anded before left) =
    run-append (wanted 0) (before_symbols before) (label_symbols left ++ sign kind.And ∷ [])
    ∙ (ap (λ state. run state (label_symbols left ++ sign kind.And ∷ [])) (run-before before)
    ∙ (run-append (wanted (opens before)) (label_symbols left) (sign kind.And ∷ [])
    ∙ ap (λ state. run state (sign kind.And ∷ [])) (run-label (opens before) left)))
run-before (ored before left) =
    run-append (wanted 0) (before_symbols before) (label_symbols left ++ sign kind.Or ∷ [])
    ∙ (ap (λ state. run state (label_symbols left ++ sign kind.Or ∷ [])) (run-before before)
    ∙ (run-append (wanted (opens before)) (label_symbols left) (sign kind.Or ∷ [])
    ∙ ap (λ state. run state (sign kind.Or ∷ [])) (run-label (opens before) left)))

-- what was passed has been gone through
run-passed : (whole left : List (Lexeme HoaKind)) (symbols : List ExpressionSymbol) → Passed whole symbols left
    → run (wanted 0) (map expression_symbol_of whole) ≡ run (run (wanted 0) symbols) (map expression_symbol_of left)
run-passed whole left symbols passed =
    ap (λ all. run (wanted 0) (map expression_symbol_of all)) passed.split
    ∙ (ap (run (wanted 0)) (map-append expression_symbol_of passed.front left)
    ∙ (run-append (wanted 0) (map expression_symbol_of passed.front) (map expression_symbol_of left)
    ∙ ap (λ front. run (run (wanted 0) front) (map expression_symbol_of left)) passed.spells))

-- a label has been gone through
abbrev IsThrough : State → Type 0
IsThrough (had zero) = Unit {0}
IsThrough ended = Unit {0}
IsThrough other = ⊥

ended-kind : (kind : HoaKind) (value : ℕ) (text : List ℕ) → IsNoOperator kind → go (had 0) (seen_as kind value text) ≡ ended
ended-kind kind.And value text none = absurd none
ended-kind kind.Or value text none = absurd none
ended-kind other value text none = refl

through-rest : (rest : List (Lexeme HoaKind)) → EndsThere rest → IsThrough (run (had 0) (map expression_symbol_of rest))
through-rest [] ends = tt
through-rest (lexeme ∷ rest) ends =
    subst IsThrough (sym (ap (λ state. run state (map expression_symbol_of rest)) (ended-kind lexeme.kind lexeme.value lexeme.text ends) ∙ run-ended (map expression_symbol_of rest))) tt

through-reads : (tokens : List (Lexeme HoaKind)) (tree : RawLabelTree) (rest : List (Lexeme HoaKind)) → Reads tokens tree rest
    → IsThrough (run (wanted 0) (map expression_symbol_of tokens))
through-reads tokens tree rest reads =
    subst IsThrough
    (sym (run-passed tokens rest (label_symbols tree) (record { front = reads.front; split = reads.split; spells = reads.spells }) ∙ ap (λ state. run state (map expression_symbol_of rest)) (run-label 0 tree)))
    (through-rest rest reads.ends)

-- no part begins with a token of this kind
abbrev pub BeginsNone : HoaKind → Type 0
BeginsNone kind.AliasName = ⊥
BeginsNone kind.Int = ⊥
BeginsNone kind.True = ⊥
BeginsNone kind.False = ⊥
BeginsNone kind.Not = ⊥
BeginsNone kind.OpenParenthesis = ⊥
BeginsNone other = Unit {0}

failed-kind : (kind : HoaKind) (count value : ℕ) (text : List ℕ) → BeginsNone kind → go (wanted count) (seen_as kind value text) ≡ failed
failed-kind kind.AliasName count value text none = absurd none
failed-kind kind.True count value text none = absurd none
failed-kind kind.False count value text none = absurd none
failed-kind kind.Int count value text none = absurd none
failed-kind kind.Not count value text none = absurd none
failed-kind kind.OpenParenthesis count value text none = absurd none
failed-kind other count value text none = refl

stuck-kind : (kind : HoaKind) (count value : ℕ) (text : List ℕ) → GoesOnNone kind → go (had (suc count)) (seen_as kind value text) ≡ failed
stuck-kind kind.And count value text none = absurd none
stuck-kind kind.Or count value text none = absurd none
stuck-kind kind.CloseParenthesis count value text none = absurd none
stuck-kind other count value text none = refl

-- the tokens begin with no part
abbrev pub BeginNone : List (Lexeme HoaKind) → Type 0
BeginNone [] = Unit {0}
BeginNone (lexeme ∷ rest) = BeginsNone lexeme.kind

not-through-wanted : (left : List (Lexeme HoaKind)) (count : ℕ) → BeginNone left → IsThrough (run (wanted count) (map expression_symbol_of left)) → ⊥
not-through-wanted [] count none through = through
not-through-wanted (lexeme ∷ rest) count none through =
    subst IsThrough (ap (λ state. run state (map expression_symbol_of rest)) (failed-kind lexeme.kind count lexeme.value lexeme.text none) ∙ run-failed (map expression_symbol_of rest)) through

not-through-had : (left : List (Lexeme HoaKind)) (count : ℕ) → GoOnNone left → IsThrough (run (had (suc count)) (map expression_symbol_of left)) → ⊥
not-through-had [] count none through = through
not-through-had (lexeme ∷ rest) count none through =
    subst IsThrough (ap (λ state. run state (map expression_symbol_of rest)) (stuck-kind lexeme.kind count lexeme.value lexeme.text none) ∙ run-failed (map expression_symbol_of rest)) through

-- where a part is wanted and none begins, nothing is read
nothing_wanted : (whole left : List (Lexeme HoaKind)) (nodes : List LabelNode) (names : List ℕ) (pending : List Pending)
    → Wants whole left nodes names pending → BeginNone left → ReadsNoLabel whole
nothing_wanted whole left nodes names pending wants none tree rest reads =
    not-through-wanted left (opens wants.before) none
    (subst IsThrough (run-passed whole left (before_symbols wants.before) wants.passed ∙ ap (λ state. run state (map expression_symbol_of left)) (run-before wants.before)) (through-reads whole tree rest reads))

-- a part is wanted as well before other tokens
wants_before : (whole left others : List (Lexeme HoaKind)) (nodes : List LabelNode) (names : List ℕ) (pending : List Pending)
    → (wants : Wants whole left nodes names pending) → Wants (wants.passed.front ++ others) others nodes names pending
wants_before whole left others nodes names pending wants = record {
  before = wants.before;
  sound = wants.sound;
  flat = wants.flat;
  named = wants.named;
  pends = wants.pends;
  passed = record { front = wants.passed.front; split = refl; spells = wants.passed.spells };
}

begin_through : (left others : List (Lexeme HoaKind)) → AgreeThroughNext left others → BeginNone left → BeginNone others
begin_through [] others agree none = subst BeginNone (sym agree) tt
begin_through (lexeme ∷ rest) others agree none = subst BeginNone (sym agree.1) none

-- and it is seen at the next token
pub none_wanted : (whole left : List (Lexeme HoaKind)) (nodes : List LabelNode) (names : List ℕ) (pending : List Pending) (length place : ℕ)
    → place ≡ next_place left length → Wants whole left nodes names pending → BeginNone left → IsFirstUnread ReadsNoLabel BeginsLabel whole length place
none_wanted whole left nodes names pending length place there wants none =
    first_next ReadsNoLabel BeginsLabel whole wants.passed.front left length place wants.passed.split there
    (begun_wanted wants.before wants.passed.front wants.sound wants.passed.spells)
    (λ others agree. nothing_wanted (wants.passed.front ++ others) others nodes names pending (wants_before whole left others nodes names pending wants) (begin_through left others agree none))

unclosed_before : (before : Before) (whole left : List (Lexeme HoaKind)) (rest : List Pending) (part : RawLabelTree)
    → Open ∷ rest ≡ before_pending before → Passed whole (before_symbols before ++ label_symbols part) left → GoOnNone left → ReadsNoLabel whole
unclosed_before start whole left rest part pends passed none tree following reads = absurd (subst (λ p. IsParenthesis (top p)) pends tt)
unclosed_before (denied before) whole left rest part pends passed none tree following reads = absurd (subst (λ p. IsParenthesis (top p)) pends tt)
unclosed_before (anded before other) whole left rest part pends passed none tree following reads = absurd (subst (λ p. IsParenthesis (top p)) pends tt)
unclosed_before (ored before other) whole left rest part pends passed none tree following reads = absurd (subst (λ p. IsParenthesis (top p)) pends tt)
unclosed_before (opened before) whole left rest part pends passed none tree following reads =
    not-through-had left (opens before) none
    (subst IsThrough
    (run-passed whole left (before_symbols (opened before) ++ label_symbols part) passed
    ∙ ap (λ state. run state (map expression_symbol_of left))
    (run-append (wanted 0) (before_symbols (opened before)) (label_symbols part)
    ∙ (ap (λ state. run state (label_symbols part)) (run-before (opened before)) ∙ run-label (suc (opens before)) part)))
    (through-reads whole tree following reads))

go_through : (left others : List (Lexeme HoaKind)) → AgreeThroughNext left others → GoOnNone left → GoOnNone others
go_through [] others agree none = subst GoOnNone (sym agree) tt
go_through (lexeme ∷ rest) others agree none = subst GoOnNone (sym agree.1) none

-- where a parenthesis is open and neither an operator nor `)` follows, nothing is read through the next token
none_closed : (whole left : List (Lexeme HoaKind)) (depth : ℕ) (nodes : List LabelNode) (names : List ℕ) (rest : List Pending) (length place : ℕ)
    → place ≡ next_place left length → Has disjunctive whole left depth nodes names (Open ∷ rest) → GoOnNone left → IsFirstUnread ReadsNoLabel BeginsLabel whole length place
none_closed whole left depth nodes names rest length place there has none =
    first_next ReadsNoLabel BeginsLabel whole has.passed.front left length place has.passed.split there
    (begun_had has.before disjunctive has.part has.passed.front has.is has.fits has.sound has.passed.spells)
    (λ others agree. unclosed_before has.before (has.passed.front ++ others) others rest has.part has.pends
    (record { front = has.passed.front; split = refl; spells = has.passed.spells }) (go_through left others agree none))

-- a kind that begins no part
pub begins_others : (sort : HoaKind) → (sort ≡ kind.AliasName → ⊥) → (sort ≡ kind.True → ⊥) → (sort ≡ kind.False → ⊥) → (sort ≡ kind.Int → ⊥) → (sort ≡ kind.Not → ⊥) → (sort ≡ kind.OpenParenthesis → ⊥) → BeginsNone sort
begins_others kind.AliasName a b c d e f = a refl
begins_others kind.True a b c d e f = b refl
begins_others kind.False a b c d e f = c refl
begins_others kind.Int a b c d e f = d refl
begins_others kind.Not a b c d e f = e refl
begins_others kind.OpenParenthesis a b c d e f = f refl
begins_others other a b c d e f = tt

-- `&` is passed and waits
pub after_and : (whole old left : List (Lexeme HoaKind)) (depth : ℕ) (nodes : List LabelNode) (names : List ℕ) (pending more : List Pending)
    → PassesOne kind.And old left → more ≡ And depth ∷ pending → Has conjunctive whole old depth nodes names pending → Wants whole left nodes names more
after_and whole old left depth nodes names pending more one pushed has =
    subst (Wants whole left nodes names) (sym pushed)
    (wants_conjunct whole old left one.lexeme depth nodes names pending has one.next (ap (λ k. seen_as k one.lexeme.value one.lexeme.text) one.is))

-- `|` is passed and waits
pub after_or : (whole old same left : List (Lexeme HoaKind)) (depth : ℕ) (nodes : List LabelNode) (names : List ℕ) (pending more : List Pending)
    → same ≡ old → PassesOne kind.Or same left → more ≡ Or depth ∷ pending → Has disjunctive whole old depth nodes names pending → Wants whole left nodes names more
after_or whole old same left depth nodes names pending more stays one pushed has =
    subst (Wants whole left nodes names) (sym pushed)
    (wants_disjunct whole old left one.lexeme depth nodes names pending has (sym stays ∙ one.next) (ap (λ k. seen_as k one.lexeme.value one.lexeme.text) one.is))

-- nothing waits, and no operator follows
pub whole_read : (whole old same left : List (Lexeme HoaKind)) (depth : ℕ) (nodes : List LabelNode) (names : List ℕ) (pending : List Pending)
    → same ≡ old → NextIsNot kind.And old → left ≡ same → NextIsNot kind.Or same → pending ≡ []
    → Has disjunctive whole old depth nodes names pending → IsRead whole left depth nodes names
whole_read whole old same left depth nodes names pending stays not_and rests not_or none has =
    let at_left : left ≡ old = rests ∙ stays in
    has_read whole left depth nodes names
    (subst (Has disjunctive whole left depth nodes names) none (subst (λ l. Has disjunctive whole l depth nodes names pending) (sym at_left) has))
    (subst EndsThere (sym at_left) (end_others old not_and (subst (NextIsNot kind.Or) stays not_or)))

-- a parenthesis waits, and nothing that goes on follows
pub unclosed_none : (whole old same left final : List (Lexeme HoaKind)) (depth : ℕ) (nodes : List LabelNode) (names : List ℕ) (pending : List Pending) (first : Pending) (rest : List Pending) (length long place : ℕ)
    → same ≡ old → NextIsNot kind.And old → left ≡ same → NextIsNot kind.Or same → final ≡ left → NextIsNot kind.CloseParenthesis left → pending ≡ first ∷ rest
    → long ≡ length → place ≡ next_place final long → Has disjunctive whole old depth nodes names pending → IsFirstUnread ReadsNoLabel BeginsLabel whole length place
unclosed_none whole old same left final depth nodes names pending first rest length long place stays not_and rests not_or ends not_close waits text there has =
    let free = subst IsFree waits (has_is_free whole old depth nodes names pending has) in
    none_closed whole old depth nodes names rest length place
    (there ∙ (ap (λ tokens. next_place tokens long) (ends ∙ (rests ∙ stays)) ∙ ap (λ l. next_place old l) text))
    (subst (Has disjunctive whole old depth nodes names) (waits ∙ ap (λ p. p ∷ rest) (free_open first rest free)) has)
    (go_on_others old not_and (subst (NextIsNot kind.Or) stays not_or) (subst (NextIsNot kind.CloseParenthesis) (rests ∙ stays) not_close))

-- a parenthesis waits, and `)` is passed
pub after_close : (whole old same still left : List (Lexeme HoaKind)) (depth deeper : ℕ) (nodes all : List LabelNode) (names : List ℕ) (pending : List Pending) (first : Pending) (rest : List Pending)
    → same ≡ old → still ≡ same → PassesOne kind.CloseParenthesis still left → pending ≡ first ∷ rest → all ≡ nodes ++ node.Group ∷ [] → deeper ≡ min (depth + 1) past_depth
    → Has disjunctive whole old depth nodes names pending → Has unary whole left deeper all names rest
after_close whole old same still left depth deeper nodes all names pending first rest stays rests one waits joined more has =
    let free = subst IsFree waits (has_is_free whole old depth nodes names pending has) in
    has_grouped whole old left one.lexeme depth deeper nodes all names pending rest
    (waits ∙ ap (λ p. p ∷ rest) (free_open first rest free)) joined more
    (sym (rests ∙ stays) ∙ one.next) (ap (λ k. seen_as k one.lexeme.value one.lexeme.text) one.is) has

-- `&` and a proposition are passed, with `!` between them or not
pub has_literal : (negated : Bool) (whole old first next left : List (Lexeme HoaKind)) (depth deeper value : ℕ) (nodes all : List LabelNode) (names same : List ℕ) (pending rest : List Pending)
    → PassesOne kind.And old first → MatchBool negated (PassesOne kind.Not first next) (next ≡ first) → PassesNumber value next left
    → all ≡ (nodes ++ literal negated value) ++ node.And ∷ [] → deeper ≡ min (max (literal_depth negated) depth + 1) past_depth → same ≡ names → rest ≡ pending
    → Has conjunctive whole old depth nodes names pending → Has conjunctive whole left deeper all same rest
has_literal true whole old first next left depth deeper value nodes all names same pending rest one not_one passes flat deep named waits has =
    let wants = after_and whole old first depth nodes names pending _ one refl has in
    let denied = wants_denied whole first next not_one.lexeme nodes names _ wants not_one.next (ap (λ k. seen_as k not_one.lexeme.value not_one.lexeme.text) not_one.is) in
    let atom = has_atom whole next left passes.lexeme nodes names _ (proposition value) (nodes ++ node.Proposition value ∷ []) names _ passes.next (numbered_as passes.lexeme value passes.is passes.value_is) refl (sym (append-nil names)) refl denied in
    let unary = has_negated whole left 1 2 (nodes ++ node.Proposition value ∷ []) (nodes ++ literal true value) names _ _ refl (sym (append_assoc nodes (node.Proposition value ∷ []) (node.Not ∷ []))) refl atom in
    subst (λ n. Has conjunctive whole left deeper all n rest) (sym named)
    (subst (λ p. Has conjunctive whole left deeper all names p) (sym waits)
    (has_conjoined whole left 2 depth deeper (nodes ++ literal true value) all names _ pending refl flat deep unary))
has_literal false whole old first next left depth deeper value nodes all names same pending rest one same_place passes flat deep named waits has =
    let wants = after_and whole old first depth nodes names pending _ one refl has in
    let atom = has_atom whole first left passes.lexeme nodes names _ (proposition value) (nodes ++ node.Proposition value ∷ []) names _ (sym same_place ∙ passes.next) (numbered_as passes.lexeme value passes.is passes.value_is) refl (sym (append-nil names)) refl wants in
    subst (λ n. Has conjunctive whole left deeper all n rest) (sym named)
    (subst (λ p. Has conjunctive whole left deeper all names p) (sym waits)
    (has_conjoined whole left 1 depth deeper (nodes ++ literal false value) all names _ pending refl flat deep atom))

-- `&` is passed and waits, and after it `!` or not
pub after_and_not : (negated : Bool) (whole old first next place : List (Lexeme HoaKind)) (depth : ℕ) (nodes all : List LabelNode) (names same : List ℕ) (pending more : List Pending)
    → PassesOne kind.And old first → MatchBool negated (PassesOne kind.Not first next) (next ≡ first) → place ≡ next
    → all ≡ nodes → same ≡ names → more ≡ (if negated then Not ∷ And depth ∷ pending else And depth ∷ pending)
    → Has conjunctive whole old depth nodes names pending → Wants whole place all same more
after_and_not true whole old first next place depth nodes all names same pending more one not_one at flat named waits has =
    let wants = after_and whole old first depth nodes names pending _ one refl has in
    subst (λ p. Wants whole p all same more) (sym at) (subst (λ n. Wants whole next n same more) (sym flat) (subst (λ n. Wants whole next nodes n more) (sym named) (subst (Wants whole next nodes names) (sym waits)
    (wants_denied whole first next not_one.lexeme nodes names _ wants not_one.next (ap (λ k. seen_as k not_one.lexeme.value not_one.lexeme.text) not_one.is)))))
after_and_not false whole old first next place depth nodes all names same pending more one same_place at flat named waits has =
    let wants = after_and whole old first depth nodes names pending _ one refl has in
    subst (λ p. Wants whole p all same more) (sym at) (subst (λ n. Wants whole next n same more) (sym flat) (subst (λ n. Wants whole next nodes n more) (sym named) (subst (Wants whole next nodes names) (sym waits)
    (subst (λ place. Wants whole place nodes names (And depth ∷ pending)) (sym same_place) wants))))

-- what is made of the nodes and names of a label is that label
pub reads-made : (tokens rest : List (Lexeme HoaKind)) (tree : RawLabelTree) (nodes : List LabelNode) (names : List ℕ)
    → Reads tokens tree rest → AreOf tree nodes names
    → (label : RawLabelTree) → ((other : RawLabelTree) → AreOf other nodes names → label ≡ other) → Reads tokens label rest
reads-made tokens rest tree nodes names reads are label is = subst (λ of. Reads tokens of rest) (sym (is tree are)) reads
