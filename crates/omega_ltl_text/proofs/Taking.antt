-- What a reader becomes by one symbol.
use Rattle.std.proofs.Common.{◌≡◌, ℕ, ◌+◌, ◌<◌, ◌≤◌, ◌⊎◌, inl, inr, Bool, true, false, Option, Some, None}
use Rattle.std.proofs.Common.{List, [], ◌∷◌, ◌++◌, length, Result, Ok, Err, IfErr, IfOk, reverse, refl, ap}
use Rattle.std.proofs.Common.{ap₂, sym, ◌∙◌, subst, arith, if◌then◌else◌}
use Rattle.std.specs.Prelude.{IsSome, option_to_list}
use Rattle.std.specs.List.{AllByRecursion}
use Rattle.std.specs.Option.{is_some}
use Rattle.std.proofs.lemmas.Bool.{le-leb}
use Rattle.std.proofs.lemmas.List.{length-map, length-reverse, nil_from_length}
use Rattle.omega_text.specs.declared.refusal.Refusal.{Refusal}
use Rattle.omega_text.specs.declared.refusal.Refusal.TheVariants.{Automaton, Circuit, Game, Io, Memory, Task, Text}
use Rattle.omega_ltl_formula.specs.Building.{Adds, IsFormulaRefusal, IsLarge}
use Rattle.omega_ltl_formula.specs.Formula.{FormulaTree, binary, constant as constant_tree, formula_depth}
use Rattle.omega_ltl_formula.specs.Formula.{formula_size, unary}
use Rattle.omega_ltl_formula.specs.Limits.{most_formula_names, most_formula_nodes}
use Rattle.omega_ltl_formula.specs.Table.{FormulaTable, NumberedFormula, numbered, tree_at, tree_of}
use Rattle.omega_ltl_formula.specs.declared.operators.BinaryOperator.{BinaryOperator}
use Rattle.omega_ltl_text.specs.Grammar.{least_left, level}
use Rattle.omega_ltl_text.specs.Symbols.{FormulaSymbol, between, closing, constant, symbol}
use Rattle.omega_ltl_text.specs.declared.kind.FormulaKind.{FormulaKind}
use Rattle.omega_ltl_text.specs.declared.kind.FormulaKind.TheVariants.{Constant}
use Rattle.omega_ltl_text.specs.declared.pending.Pending.{Pending}
use Rattle.omega_ltl_text.specs.declared.pending.Pending.TheVariants.{Binary, Parenthesis, Unary}
use Rattle.omega_ltl_text.specs.private.Reader.{Goes, HasFewNodes, IsAmong, IsOuter, IsRefusedFormula}
use Rattle.omega_ltl_text.specs.private.Reader.{ReaderState, Reduces, frame_of, frames_of, name_in}
use Rattle.omega_ltl_text.specs.private.Reader.{outer_symbol, reader_of, sizes_waiting, state_of, with_some}
use Rattle.omega_ltl_text.specs.private.Reading.{Frame, alone, awaiting, closed_by, ended, infixed, opened}
use Rattle.omega_ltl_text.specs.private.Reading.{prefixed, reading, reduced, step_wanted, whole}
use Rattle.omega_ltl_text.proofs.Reductions.{frames_kept, frames_push, sizes_kept, sizes_push}

-- an atom, where an operand is wanted
module _ (table new : FormulaTable) (pending : List Pending) (tree : FormulaTree) (number : ℕ) (sign : FormulaSymbol)
    (waiting : AllByRecursion (IsAmong (length table.nodes)) pending) (added : Adds table new tree number) (one : formula_size tree ≡ 1)
    (wants : (frames : List Frame) → step_wanted frames sign ≡ Some (reading frames (Some tree)))
    (named : new.names ≡ with_some table.names (name_in sign)) where
  at_none : Goes true (reader_of table pending None) sign (reader_of new pending (Some number))
  at_none = (
    wants (frames_of table pending)
        ∙ ap₂ (λ (frames : List Frame) (t : FormulaTree). Some (reading frames (Some t))) (sym (frames_kept table new added.kept pending waiting)) (sym added.there),
    named,
    λ few.
        let sizes = sizes_kept table new added.kept pending waiting in
        let size : formula_size (tree_at new number) ≡ 1 = ap formula_size added.there ∙ one in
        omega (arith, few, sizes, size, added.at_most_one),
  )

  pub atom_goes : (old : ReaderState) (current : Option ℕ) → reader_of table pending current ≡ old → old.current ≡ None
      → Goes true old sign (reader_of new pending (Some number))
  atom_goes old current view wanted =
      let none : current ≡ None = ap (λ (r : ReaderState). r.current) view ∙ wanted in
      subst (λ (r : ReaderState). Goes true r sign (reader_of new pending (Some number)))
      (ap (reader_of table pending) (sym none) ∙ view) at_none

-- a constant
pub constant_goes : (table new : FormulaTable) (pending : List Pending) (value : Bool) (number : ℕ) (old : ReaderState) (current : Option ℕ)
    (kind : FormulaKind) (text : List ℕ) → AllByRecursion (IsAmong (length table.nodes)) pending → Adds table new (constant_tree value) number
    → new.names ≡ table.names → reader_of table pending current ≡ old → old.current ≡ None → kind ≡ Constant value
    → Goes true old (symbol kind text) (reader_of new pending (Some number))
constant_goes table new pending value number old current kind text waiting added named view wanted is =
    subst (λ (k : FormulaKind). Goes true old (symbol k text) (reader_of new pending (Some number))) (sym is)
    (atom_goes table new pending (constant_tree value) number (constant value) waiting added refl (λ frames. refl) named old current view wanted)

-- a parenthesis or an operator of one operand
outer_none : (table : FormulaTable) (pending : List Pending) (next : Pending) → IsOuter next
    → Goes true (reader_of table pending None) (outer_symbol next) (reader_of table (pending ++ next ∷ []) None)
outer_none table pending Parenthesis outer = (
  ap (λ (frames : List Frame). Some (reading frames None)) (sym (frames_push table pending Parenthesis)),
  refl,
  λ few. let sizes = sizes_push table pending Parenthesis in omega (arith, few, sizes),
)
outer_none table pending (Unary op) outer = (
  ap (λ (frames : List Frame). Some (reading frames None)) (sym (frames_push table pending (Unary op))),
  refl,
  λ few. let sizes = sizes_push table pending (Unary op) in omega (arith, few, sizes),
)
outer_none table pending (Binary op left) outer = absurd outer

pub outer_goes : (table : FormulaTable) (pending pushed : List Pending) (next : Pending) (old : ReaderState) (current : Option ℕ) → IsOuter next
    → reader_of table pending current ≡ old → old.current ≡ None → pushed ≡ pending ++ next ∷ []
    → Goes true old (outer_symbol next) (reader_of table pushed current)
outer_goes table pending pushed next old current outer view wanted pushed_is =
    let none : current ≡ None = ap (λ (r : ReaderState). r.current) view ∙ wanted in
    subst (λ (r : ReaderState). Goes true r (outer_symbol next) (reader_of table pushed current)) (ap (reader_of table pending) (sym none) ∙ view)
    (subst (λ (o : Option ℕ). Goes true (reader_of table pending None) (outer_symbol next) (reader_of table pushed o)) (sym none)
    (subst (λ (l : List Pending). Goes true (reader_of table pending None) (outer_symbol next) (reader_of table l None)) (sym pushed_is)
    (outer_none table pending next outer)))

-- what operators that have taken their operands leave
reduced_is : (least : ℕ) (table new : FormulaTable) (pending rest : List Pending) (tree number : ℕ) → Reduces least (reader_of table pending (Some tree)) new rest number
    → reduced least (frames_of table pending) (tree_at table tree) ≡ (frames_of new rest, tree_at new number)
reduced_is least table new pending rest tree number reduces =
    let both : Some (reduced least (frames_of table pending) (tree_at table tree)) ≡ Some (frames_of new rest, tree_at new number) = reduces.same in
    cc

-- an operator of two operands
operator_some : (table new : FormulaTable) (pending rest : List Pending) (tree number : ℕ) (op : BinaryOperator)
    → Reduces (least_left op) (reader_of table pending (Some tree)) new rest number
    → Goes true (reader_of table pending (Some tree)) (between op) (reader_of new (rest ++ Binary op number ∷ []) None)
operator_some table new pending rest tree number op reduces = (
  ap (λ (both : List Frame × FormulaTree). Some (awaiting op both)) (reduced_is (least_left op) table new pending rest tree number reduces)
      ∙ ap (λ (frames : List Frame). Some (reading frames None)) (sym (frames_push new rest (Binary op number))),
  reduces.names,
  λ few.
      let sizes = sizes_push new rest (Binary op number) in
      let less = reduces.few few in
      omega (arith, sizes, less),
)

-- a reader whose operand is complete
some_goes : (taken : Bool) (table : FormulaTable) (pending : List Pending) (tree : ℕ) (old next : ReaderState) (current : Option ℕ) (sign : FormulaSymbol)
    → reader_of table pending current ≡ old → old.current ≡ Some tree → Goes taken (reader_of table pending (Some tree)) sign next → Goes taken old sign next
some_goes taken table pending tree old next current sign view complete goes =
    let some : current ≡ Some tree = ap (λ (r : ReaderState). r.current) view ∙ complete in
    subst (λ (r : ReaderState). Goes taken r sign next) (ap (reader_of table pending) (sym some) ∙ view) goes

pub operator_goes : (table new : FormulaTable) (pending rest pushed : List Pending) (tree number : ℕ) (op : BinaryOperator) (old : ReaderState) (current : Option ℕ)
    → reader_of table pending current ≡ old → old.current ≡ Some tree → Reduces (least_left op) (reader_of table pending (Some tree)) new rest number
    → pushed ≡ rest ++ Binary op number ∷ [] → Goes true old (between op) (reader_of new pushed None)
operator_goes table new pending rest pushed tree number op old current view complete reduces pushed_is =
    some_goes true table pending tree old (reader_of new pushed None) current (between op) view complete
    (subst (λ (l : List Pending). Goes true (reader_of table pending (Some tree)) (between op) (reader_of new l None)) (sym pushed_is)
    (operator_some table new pending rest tree number op reduces))

-- after all operators there is nothing left but a parenthesis
abbrev pub OnTop : List Frame → Type 0
OnTop [] = Unit {0}
OnTop (opened ∷ frames) = Unit {0}
OnTop (prefixed op ∷ frames) = ⊥
OnTop (infixed left op ∷ frames) = ⊥

pub top_left : (frames : List Frame) (tree : FormulaTree) → OnTop (reduced 0 frames tree).0
top_left [] tree = tt
top_left (opened ∷ frames) tree = tt
top_left (prefixed op ∷ frames) tree = top_left frames (unary op tree)
top_left (infixed left op ∷ frames) tree =
    subst (λ (b : Bool). OnTop (if b then reduced 0 frames (binary op left tree) else (infixed left op ∷ frames, tree)).0) (sym (le-leb 0 (level op) (omega arith)))
    (top_left frames (binary op left tree))

-- a closing parenthesis
close_last : (table new : FormulaTable) (pending now : List Pending) (last : Pending) (tree number : ℕ)
    → Reduces 0 (reader_of table pending (Some tree)) new (now ++ last ∷ []) number → OnTop (frame_of new last ∷ frames_of new now)
    → Goes true (reader_of table pending (Some tree)) closing (reader_of new now (Some number))
close_last table new pending now Parenthesis tree number reduces top = (
  ap closed_by (reduced_is 0 table new pending (now ++ Parenthesis ∷ []) tree number reduces)
      ∙ ap (λ (frames : List Frame). closed_by (frames, tree_at new number)) (frames_push new now Parenthesis),
  reduces.names,
  λ few.
      let sizes = sizes_push new now Parenthesis in
      let less = reduces.few few in
      omega (arith, sizes, less),
)
close_last table new pending now (Unary op) tree number reduces top = absurd top
close_last table new pending now (Binary op left) tree number reduces top = absurd top

close_some : (table new : FormulaTable) (pending rest now : List Pending) (popped : Option Pending) (tree number : ℕ)
    → Reduces 0 (reader_of table pending (Some tree)) new rest number → rest ≡ now ++ option_to_list popped → (is_some popped ≡ false → rest ≡ [])
    → Goes (is_some popped) (reader_of table pending (Some tree)) closing (reader_of new now (Some number))
close_some table new pending rest now None tree number reduces split empty =
    ap closed_by (reduced_is 0 table new pending rest tree number reduces)
    ∙ ap (λ (l : List Pending). closed_by (frames_of new l, tree_at new number)) (empty refl)
close_some table new pending rest now (Some last) tree number reduces split empty =
    let own = subst (λ (l : List Pending). Reduces 0 (reader_of table pending (Some tree)) new l number) split reduces in
    let is = reduced_is 0 table new pending (now ++ last ∷ []) tree number own in
    close_last table new pending now last tree number own
    (subst OnTop (frames_push new now last)
    (subst (λ (both : List Frame × FormulaTree). OnTop both.0) is (top_left (frames_of table pending) (tree_at table tree))))

pub close_goes : (table new : FormulaTable) (pending rest now : List Pending) (popped : Option Pending) (tree number : ℕ) (old : ReaderState) (current : Option ℕ)
    → reader_of table pending current ≡ old → old.current ≡ Some tree → Reduces 0 (reader_of table pending (Some tree)) new rest number
    → rest ≡ now ++ option_to_list popped → (is_some popped ≡ false → rest ≡ []) → Goes (is_some popped) old closing (reader_of new now (Some number))
close_goes table new pending rest now popped tree number old current view complete reduces split empty =
    some_goes (is_some popped) table pending tree old (reader_of new now (Some number)) current closing view complete
    (close_some table new pending rest now popped tree number reduces split empty)

-- the end of a formula
nothing_waits : (table : FormulaTable) (rest : List Pending) (tree : FormulaTree) → IsSome (alone (frames_of table rest) tree) → frames_of table rest ≡ []
nothing_waits table rest tree some = go (frames_of table rest) some
  where
    go : (frames : List Frame) → IsSome (alone frames tree) → frames ≡ []
    go [] is = refl
    go (frame ∷ frames) is = absurd (let clash : false ≡ true = is in cc)

none_waits : (table : FormulaTable) (rest : List Pending) → frames_of table rest ≡ [] → rest ≡ []
none_waits table rest none =
    let mapped = length-map (reverse rest) (frame_of table) in
    let turned = length-reverse rest in
    let zero : length (frames_of table rest) ≡ 0 = ap length none in
    nil_from_length rest (omega (arith, mapped, turned, zero))

module _ (reader : ReaderState) (table new : FormulaTable) (pending rest : List Pending) (current : Option ℕ) (tree root : ℕ)
    (view : reader_of table pending current ≡ reader) (complete : current ≡ Some tree)
    (reduces : Reduces 0 (reader_of table pending (Some tree)) new rest root) (whole_one : IsSome (ended (state_of reader))) where
  same_reader : reader_of table pending (Some tree) ≡ reader
  same_reader = ap (reader_of table pending) (sym complete) ∙ view

  ended_is : ended (state_of reader) ≡ alone (frames_of new rest) (tree_at new root)
  ended_is = ap (λ (r : ReaderState). ended (state_of r)) (sym same_reader) ∙ ap whole (reduced_is 0 table new pending rest tree root reduces)

  nothing_left : frames_of new rest ≡ []
  nothing_left = nothing_waits new rest (tree_at new root) (ap is_some (sym ended_is) ∙ whole_one)

  ended_root : ended (state_of reader) ≡ Some (tree_at new root)
  ended_root = ended_is ∙ ap (λ (frames : List Frame). alone frames (tree_at new root)) nothing_left

  pub finish_formula : (result : Result NumberedFormula Refusal) → IfOk result (λ formula. formula ≡ numbered new.names new.nodes root)
      → IfOk result (λ formula. ended (state_of reader) ≡ Some (tree_of formula))
  finish_formula (Ok formula) made = ended_root ∙ ap (λ (f : NumberedFormula). Some (tree_of f)) (sym made)
  finish_formula (Err refusal) made = tt

  few_left : HasFewNodes reader → length new.nodes ≤ formula_size (tree_at new root)
  few_left few =
      let left : length new.nodes ≤ sizes_waiting new rest + formula_size (tree_at new root) = reduces.few (subst HasFewNodes (sym same_reader) few) in
      let none : sizes_waiting new rest ≡ 0 = ap (sizes_waiting new) (none_waits new rest nothing_left) in
      omega (arith, left, none)

  pub finish_nodes : HasFewNodes reader → (result : Result NumberedFormula Refusal) → IfOk result (λ formula. formula ≡ numbered new.names new.nodes root)
      → IfOk result (λ formula. length formula.table.nodes ≤ formula_size (tree_of formula))
  finish_nodes few (Ok formula) made = subst (λ (f : NumberedFormula). length f.table.nodes ≤ formula_size (tree_of f)) (sym made) (few_left few)
  finish_nodes few (Err refusal) made = tt

  names_left : length new.names ≡ length reader.table.names
  names_left = ap length reduces.names ∙ ap (λ (r : ReaderState). length r.table.names) view

  large_left : HasFewNodes reader → (other : FormulaTree) → tree_at new root ≡ other → IsLarge (numbered new.names new.nodes root)
      → (most_formula_nodes < formula_size other) ⊎ (most_formula_names < length reader.table.names)
  large_left few other same (inl large) = let e = ap formula_size same in inl (omega (arith, large, e))
  large_left few other same (inr (inl many)) =
      let e = ap formula_size same in
      let left = few_left few in
      inl (omega (arith, many, e, left))
  large_left few other same (inr (inr named)) = inr (omega (arith, named, names_left))

  refusal_is : HasFewNodes reader → (refusal : Refusal) → IsFormulaRefusal (numbered new.names new.nodes root) refusal → (other : FormulaTree)
      → tree_at new root ≡ other → IsRefusedFormula other (length reader.table.names) refusal
  refusal_is few (Automaton fault) why other same = (why.0, let e = ap formula_depth same in omega (arith, why.1, e))
  refusal_is few (Task fault) why other same = (why.0, (let e = ap formula_depth same in omega (arith, why.1, e)), large_left few other same why.2)
  refusal_is few (Text fault) why other same = why
  refusal_is few (Game fault) why other same = why
  refusal_is few (Circuit fault) why other same = why
  refusal_is few Memory why other same = why
  refusal_is few Io why other same = why

  pub finish_refused : HasFewNodes reader → (result : Result NumberedFormula Refusal) → IfErr result (IsFormulaRefusal (numbered new.names new.nodes root))
      → IfErr result (λ refusal. (other : FormulaTree) → ended (state_of reader) ≡ Some other → IsRefusedFormula other (length reader.table.names) refusal)
  finish_refused few (Ok formula) why = tt
  finish_refused few (Err refusal) why = λ other ends.
      refusal_is few refusal why other (let both : Some (tree_at new root) ≡ Some other = sym ended_root ∙ ends in cc)
