-- A formula's depth and size, as they are measured.
use Rattle.std.proofs.Common.{◌≡◌, ℕ, ◌+◌, ◌<◌, ◌≤◌, inl, inr, Bool, true, false, ◌&&◌, ◌||◌, not}
use Rattle.std.proofs.Common.{Option, Some, None, List, [], ◌∷◌, ◌++◌, map, max, reverse}
use Rattle.std.proofs.Common.{Result, Ok, Err, IfOk, refl, ap, sym, ◌∙◌, subst, arith, if◌then◌else◌}
use Rattle.std.specs.Prelude.{IfSome, OnOk, nat_le, option_map, option_to_list}
use Rattle.std.specs.List.{list_any}
use Rattle.std.specs.Option.{is_some}
use Rattle.std.proofs.lemmas.List.{reverse-append}
use Rattle.std.proofs.lemmas.List.Folds.{list_any-append}
use Rattle.omega_text.specs.Lexeme.{Lexeme}
use Rattle.omega_text.specs.Reading.{IsWholeOrUnfinished, TakesOrRefuses}
use Rattle.omega_text.specs.Syntax.{TokensBegin, TokensComplete}
use Rattle.omega_text.specs.declared.refusal.Refusal.{Refusal}
use Rattle.omega_ltl_formula.specs.Formula.{FormulaTree, binary, formula_depth, formula_size, unary}
use Rattle.omega_ltl_formula.specs.Limits.{most_formula_depth, most_formula_nodes}
use Rattle.omega_ltl_formula.specs.declared.operators.BinaryOperator.{BinaryOperator}
use Rattle.omega_ltl_text.specs.Grammar.{formula_syntax, least_left, level}
use Rattle.omega_ltl_text.specs.Symbols.{FormulaSymbol, before, between, closing, constant}
use Rattle.omega_ltl_text.specs.Symbols.{formula_symbol_of, name, opening, symbol}
use Rattle.omega_ltl_text.specs.declared.kind.FormulaKind.{FormulaKind}
use Rattle.omega_ltl_text.specs.declared.measurer.FormulaMeasurer.{FormulaMeasurer}
use Rattle.omega_ltl_text.specs.declared.waiting.Waiting.{Waiting}
use Rattle.omega_ltl_text.specs.declared.waiting.Waiting.TheVariants.{Binary}
use Rattle.omega_ltl_text.specs.private.Measuring.{DepthState, HasMeasured, Measures, MovesTo, binds_depth}
use Rattle.omega_ltl_text.specs.private.Measuring.{capped}
use Rattle.omega_ltl_text.specs.private.Measuring.{depth_joined, depth_of, depth_step, depth_step_at}
use Rattle.omega_ltl_text.specs.private.Measuring.{depth_wanted}
use Rattle.omega_ltl_text.specs.private.Measuring.{depths, depths_awaiting, depths_closed, depths_closed_by}
use Rattle.omega_ltl_text.specs.private.Measuring.{depths_in}
use Rattle.omega_ltl_text.specs.private.Measuring.{depths_of, is_open, reduced_depth, size_frames, size_read}
use Rattle.omega_ltl_text.specs.private.Measuring.{symbol_size, waiting_of}
use Rattle.omega_ltl_text.specs.private.Reader.{IsStopped}
use Rattle.omega_ltl_text.specs.private.Reading.{Frame, ReadState, alone, closed, ended, ended_at}
use Rattle.omega_ltl_text.specs.private.Reading.{initial}
use Rattle.omega_ltl_text.specs.private.Reading.{infixed, opened, prefixed, reading, reduced, step, step_at}
use Rattle.omega_ltl_text.proofs.Deciding.{refused_from_run, run_taken}
use Rattle.omega_ltl_text.proofs.Reductions.{is_opened, whole_unless_open}
use Rattle.omega_ltl_text.proofs.Steps.{judged_from_run}
use Rattle.omega_ltl_text.proofs.Taking.{OnTop, top_left}

-- how depths are counted
capped_next : (depth : ℕ) → capped (capped depth + 1) ≡ capped (depth + 1)
capped_next depth = omega arith

capped_joined : (left right : ℕ) → capped (max (capped left) (capped right) + 1) ≡ capped (max left right + 1)
capped_joined left right = omega arith

-- what waits last comes first
waits_push : (rest : List Waiting) (last : Waiting) → reverse (rest ++ last ∷ []) ≡ last ∷ reverse rest
waits_push rest last = reverse-append rest (last ∷ [])

-- one operator that binds has taken its last operand
pub depth_further : (least : ℕ) (items rest : List Waiting) (last : Waiting) (depth joined : ℕ) (whole : List Waiting × ℕ)
    → items ≡ rest ++ last ∷ [] → binds_depth least last ≡ true → joined ≡ depth_joined last depth
    → reduced_depth least (reverse items) depth ≡ whole → reduced_depth least (reverse rest) joined ≡ whole
depth_further least items rest last depth joined whole split bound joined_is was =
    ap (reduced_depth least (reverse rest)) joined_is
    ∙ (sym (ap (λ (b : Bool). if b then reduced_depth least (reverse rest) (depth_joined last depth) else (last ∷ reverse rest, depth)) bound)
    ∙ (sym (ap (λ (l : List Waiting). reduced_depth least l depth) (ap reverse split ∙ waits_push rest last))
    ∙ was))

-- none that binds is left
pub depth_stops : (least : ℕ) (items : List Waiting) (depth : ℕ) → IsStopped (binds_depth least) items
    → reduced_depth least (reverse items) depth ≡ (reverse items, depth)
depth_stops least items depth (inl none) =
    subst (λ (l : List Waiting). reduced_depth least (reverse l) depth ≡ (reverse l, depth)) (sym none) refl
depth_stops least items depth (inr last) =
    subst (λ (l : List Waiting). reduced_depth least l depth ≡ (l, depth)) (sym (ap reverse last.1.1 ∙ waits_push last.1.0 last.0))
    (ap (λ (b : Bool). if b then reduced_depth least (reverse last.1.0) (depth_joined last.0 depth) else (last.0 ∷ reverse last.1.0, depth)) last.2)

-- operators take depths as they take formulas
reduced_alike : (least : ℕ) (frames : List Frame) (tree : FormulaTree) → reduced_depth least (map waiting_of frames) (depth_of tree)
    ≡ (map waiting_of (reduced least frames tree).0, depth_of (reduced least frames tree).1)
reduced_alike least [] tree = refl
reduced_alike least (opened ∷ frames) tree = refl
reduced_alike least (prefixed op ∷ frames) tree =
    ap (reduced_depth least (map waiting_of frames)) (capped_next (formula_depth tree)) ∙ reduced_alike least frames (unary op tree)
reduced_alike least (infixed left op ∷ frames) tree = go (nat_le least (level op)) (reduced_alike least frames (binary op left tree))
  where
    go : (b : Bool) → reduced_depth least (map waiting_of frames) (depth_of (binary op left tree))
        ≡ (map waiting_of (reduced least frames (binary op left tree)).0, depth_of (reduced least frames (binary op left tree)).1)
        → (if b then reduced_depth least (map waiting_of frames) (depth_joined (Binary op (depth_of left)) (depth_of tree))
        else (Binary op (depth_of left) ∷ map waiting_of frames, depth_of tree))
        ≡ (
          map waiting_of (if b then reduced least frames (binary op left tree) else (infixed left op ∷ frames, tree)).0,
          depth_of (if b then reduced least frames (binary op left tree) else (infixed left op ∷ frames, tree)).1,
        )
    go true rest = ap (reduced_depth least (map waiting_of frames)) (capped_joined (formula_depth left) (formula_depth tree)) ∙ rest
    go false rest = refl

-- and leave as many atoms and operators
reduced_size : (least : ℕ) (frames : List Frame) (tree : FormulaTree)
    → size_frames (reduced least frames tree).0 + formula_size (reduced least frames tree).1 ≡ size_frames frames + formula_size tree
reduced_size least [] tree = refl
reduced_size least (opened ∷ frames) tree = refl
reduced_size least (prefixed op ∷ frames) tree =
    let rest : size_frames (reduced least frames (unary op tree)).0 + formula_size (reduced least frames (unary op tree)).1
    ≡ size_frames frames + (formula_size tree + 1) = reduced_size least frames (unary op tree) in
    omega (arith, rest)
reduced_size least (infixed left op ∷ frames) tree = go (nat_le least (level op)) (reduced_size least frames (binary op left tree))
  where
    go : (b : Bool) → size_frames (reduced least frames (binary op left tree)).0 + formula_size (reduced least frames (binary op left tree)).1
        ≡ size_frames frames + (formula_size left + formula_size tree + 1)
        → size_frames (if b then reduced least frames (binary op left tree) else (infixed left op ∷ frames, tree)).0
        + formula_size (if b then reduced least frames (binary op left tree) else (infixed left op ∷ frames, tree)).1
        ≡ size_frames (infixed left op ∷ frames) + formula_size tree
    go true rest = omega (arith, rest)
    go false rest = refl

-- a closing parenthesis
closed_alike : (frames : List Frame) (tree : FormulaTree) → OnTop frames
    → depths_closed (map waiting_of frames) (depth_of tree) ≡ option_map depths_in (closed frames tree)
closed_alike [] tree top = refl
closed_alike (opened ∷ frames) tree top = refl
closed_alike (prefixed op ∷ frames) tree top = absurd top
closed_alike (infixed left op ∷ frames) tree top = absurd top

closed_size : (frames : List Frame) (tree : FormulaTree) (total : ℕ) → size_frames frames + formula_size tree ≡ total
    → IfSome (closed frames tree) (λ next. size_read next ≡ total + 0)
closed_size [] tree total is = tt
closed_size (opened ∷ frames) tree total is = omega (arith, is)
closed_size (prefixed op ∷ frames) tree total is = tt
closed_size (infixed left op ∷ frames) tree total is = tt

-- a symbol leads from the depths of a state to those of the next
step_alike : (frames : List Frame) (current : Option FormulaTree) (sign : FormulaSymbol)
    → depth_step_at (map waiting_of frames) (option_map depth_of current) sign ≡ option_map depths_in (step_at frames current sign)
step_alike frames None (constant value) = refl
step_alike frames None (name bytes) = refl
step_alike frames None (before op) = refl
step_alike frames None opening = refl
step_alike frames None (between op) = refl
step_alike frames None closing = refl
step_alike frames (Some tree) (constant value) = refl
step_alike frames (Some tree) (name bytes) = refl
step_alike frames (Some tree) (before op) = refl
step_alike frames (Some tree) opening = refl
step_alike frames (Some tree) (between op) =
    ap (λ (both : List Waiting × ℕ). Some (depths_awaiting op both)) (reduced_alike (least_left op) frames tree)
step_alike frames (Some tree) closing =
    ap depths_closed_by (reduced_alike 0 frames tree)
    ∙ closed_alike (reduced 0 frames tree).0 (reduced 0 frames tree).1 (top_left frames tree)

-- and adds itself, if it is an atom or an operator
step_size : (frames : List Frame) (current : Option FormulaTree) (sign : FormulaSymbol)
    → IfSome (step_at frames current sign) (λ next. size_read next ≡ size_read (reading frames current) + symbol_size sign)
step_size frames None (constant value) = omega arith
step_size frames None (name bytes) = omega arith
step_size frames None (before op) = omega arith
step_size frames None opening = omega arith
step_size frames None (between op) = tt
step_size frames None closing = tt
step_size frames (Some tree) (constant value) = tt
step_size frames (Some tree) (name bytes) = tt
step_size frames (Some tree) (before op) = tt
step_size frames (Some tree) opening = tt
step_size frames (Some tree) (between op) =
    let both = reduced (least_left op) frames tree in
    let same : size_frames both.0 + formula_size both.1 ≡ size_frames frames + formula_size tree = reduced_size (least_left op) frames tree in
    omega (arith, same)
step_size frames (Some tree) closing =
    closed_size (reduced 0 frames tree).0 (reduced 0 frames tree).1 (size_frames frames + formula_size tree) (reduced_size 0 frames tree)

-- a token that is taken is measured, and one that is refused ends what begins a text
module _ (start measurer next : FormulaMeasurer) (lexemes : List (Lexeme FormulaKind)) (lexeme : Lexeme FormulaKind)
    (has : HasMeasured start lexemes measurer) where
  there : option_map depths_in (step has.state (formula_symbol_of lexeme)) ≡ depth_step (depths_of measurer) (formula_symbol_of lexeme)
  there = sym (step_alike has.state.frames has.state.current (formula_symbol_of lexeme))
      ∙ ap (λ (d : DepthState). depth_step d (formula_symbol_of lexeme)) has.measures.alike

  measured_next : (after : Option ReadState) → step has.state (formula_symbol_of lexeme) ≡ after
      → IfSome after (λ state. size_read state ≡ size_read has.state + symbol_size (formula_symbol_of lexeme))
      → option_map depths_in after ≡ Some (depths_of next) → next.size ≤ measurer.size + symbol_size (formula_symbol_of lexeme)
      → HasMeasured start (lexemes ++ lexeme ∷ []) next
  measured_next None is grown same fewer = absurd (let clash : ◌≡◌ {A = Option DepthState} None (Some (depths_of next)) = same in cc)
  measured_next (Some state) is grown same fewer = record {
    state = state;
    runs = run_taken lexemes lexeme has.state has.runs ∙ is;
    measures = record {
      alike = let both : Some (depths_in state) ≡ Some (depths_of next) = same in cc;
      fewer = let less = has.measures.fewer in omega (arith, grown, less, fewer);
    };
  }

  refused_next : (after : Option ReadState) → option_map depths_in after ≡ None → after ≡ None
  refused_next None same = refl
  refused_next (Some state) same = absurd (let clash : ◌≡◌ {A = Option DepthState} (Some (depths_in state)) None = same in cc)

  measured_on : (taken : Bool) → MovesTo taken (depth_step (depths_of measurer) (formula_symbol_of lexeme)) (depths_of next)
      → next.size ≤ measurer.size + symbol_size (formula_symbol_of lexeme)
      → TakesOrRefuses taken (TokensBegin formula_syntax) (λ all. HasMeasured start all next) lexemes lexeme
  measured_on true moves fewer =
      measured_next (step has.state (formula_symbol_of lexeme)) refl (step_size has.state.frames has.state.current (formula_symbol_of lexeme))
      (there ∙ moves) fewer
  measured_on false moves fewer =
      refused_from_run lexemes lexeme has.state has.runs (refused_next (step has.state (formula_symbol_of lexeme)) (there ∙ moves))

-- the same of a call
pub measured_on_all : (result : Result Bool Refusal) (measurer next : FormulaMeasurer) (lexeme : Lexeme FormulaKind)
    → IfOk result (λ taken. MovesTo taken (depth_step (depths_of measurer) (formula_symbol_of lexeme)) (depths_of next))
    → OnOk result (next.size ≤ measurer.size + symbol_size (formula_symbol_of lexeme))
    → IfOk result (λ taken. (start : FormulaMeasurer) (lexemes : List (Lexeme FormulaKind)) → HasMeasured start lexemes measurer
    → TakesOrRefuses taken (TokensBegin formula_syntax) (λ all. HasMeasured start all next) lexemes lexeme)
measured_on_all (Err refusal) measurer next lexeme moves fewer = tt
measured_on_all (Ok taken) measurer next lexeme moves fewer = λ start lexemes has. measured_on start measurer next lexemes lexeme has taken moves fewer

-- tokens are a formula if an operand is complete and no parenthesis is open
any_alike : (frames : List Frame) → list_any is_opened frames ≡ list_any is_open (map waiting_of frames)
any_alike [] = refl
any_alike (opened ∷ frames) = refl
any_alike (prefixed op ∷ frames) = any_alike frames
any_alike (infixed left op ∷ frames) = any_alike frames

any_reverse : (waiting : List Waiting) → list_any is_open (reverse waiting) ≡ list_any is_open waiting
any_reverse [] = refl
any_reverse (next ∷ waiting) =
    ap (list_any is_open) (reverse-append (next ∷ []) waiting)
    ∙ (list_any-append is_open (reverse waiting) (next ∷ [])
    ∙ (swap (is_open next) (list_any is_open (reverse waiting))
    ∙ ap (λ (b : Bool). is_open next || b) (any_reverse waiting)))
  where
    swap : (a b : Bool) → (b || (a || false)) ≡ (a || b)
    swap true true = refl
    swap true false = refl
    swap false true = refl
    swap false false = refl

ended_if : (frames : List Frame) (current : Option FormulaTree)
    → is_some (ended_at frames current) ≡ (is_some (option_map depth_of current) && not (list_any is_open (map waiting_of frames)))
ended_if frames None = refl
ended_if frames (Some tree) = whole_unless_open frames tree ∙ ap not (any_alike frames)

pub measured_end : (done : Bool) (start measurer : FormulaMeasurer) (lexemes : List (Lexeme FormulaKind))
    → done ≡ (is_some measurer.depth && not (list_any is_open measurer.waiting.items)) → HasMeasured start lexemes measurer
    → IsWholeOrUnfinished done (TokensBegin formula_syntax) (TokensComplete formula_syntax) lexemes
measured_end done start measurer lexemes done_is has =
    judged_from_run done has.state lexemes has.runs (λ yes. same ∙ yes, λ yes. sym same ∙ yes)
  where
    same : is_some (ended has.state) ≡ done
    same = ended_if has.state.frames has.state.current
        ∙ (ap (λ (d : DepthState). is_some d.depth && not (list_any is_open d.waiting)) has.measures.alike
        ∙ (ap (λ (b : Bool). is_some measurer.depth && not b) (any_reverse measurer.waiting.items)
        ∙ sym done_is))

-- a token at the begin of an operand
pub wanted_moves : (old : FormulaMeasurer) (kind sign : FormulaKind) (text : List ℕ) (after : DepthState) → old.depth ≡ None → kind ≡ sign
    → depth_wanted (reverse old.waiting.items) (symbol sign text) ≡ Some after → depth_step (depths_of old) (symbol kind text) ≡ Some after
wanted_moves old kind sign text after none is moves =
    ap (λ (d : Option ℕ). depth_step_at (reverse old.waiting.items) d (symbol kind text)) none
    ∙ (ap (λ (k : FormulaKind). depth_wanted (reverse old.waiting.items) (symbol k text)) is ∙ moves)

-- what begins an operand waits
pub waits_last : (items pushed : List Waiting) (last : Waiting) (depth : Option ℕ) → depth ≡ None → pushed ≡ items ++ last ∷ []
    → Some (depths (last ∷ reverse items) None) ≡ Some (depths (reverse pushed) depth)
waits_last items pushed last depth none pushed_is =
    ap (λ (l : List Waiting). Some (depths l None)) (sym (ap reverse pushed_is ∙ waits_push items last))
    ∙ ap (λ (d : Option ℕ). Some (depths (reverse pushed) d)) (sym none)

-- an operator of two operands
pub operator_moves : (old : FormulaMeasurer) (operand left least : ℕ) (rest pushed : List Waiting) (op : BinaryOperator) → old.depth ≡ Some operand
    → least ≡ least_left op → reduced_depth least (reverse old.waiting.items) operand ≡ (reverse rest, left) → pushed ≡ rest ++ Binary op left ∷ []
    → depth_step (depths_of old) (between op) ≡ Some (depths (reverse pushed) None)
operator_moves old operand left least rest pushed op some least_is reduced_is pushed_is =
    ap (λ (d : Option ℕ). depth_step_at (reverse old.waiting.items) d (between op)) some
    ∙ (ap (λ (n : ℕ). Some (depths_awaiting op (reduced_depth n (reverse old.waiting.items) operand))) (sym least_is)
    ∙ (ap (λ (both : List Waiting × ℕ). Some (depths_awaiting op both)) reduced_is
    ∙ ap (λ (l : List Waiting). Some (depths l None)) (sym (ap reverse pushed_is ∙ waits_push rest (Binary op left)))))

-- a closing parenthesis
pub close_moves : (old : FormulaMeasurer) (operand inside : ℕ) (rest now : List Waiting) (popped : Option Waiting) → old.depth ≡ Some operand
    → reduced_depth 0 (reverse old.waiting.items) operand ≡ (reverse rest, inside) → rest ≡ now ++ option_to_list popped
    → (is_some popped ≡ false → rest ≡ []) → MovesTo (is_some popped) (depth_step (depths_of old) closing) (depths (reverse now) (Some inside))
close_moves old operand inside rest now popped some reduced_is split empty = go popped split empty
  where
    closes : depth_step (depths_of old) closing ≡ depths_closed (reverse rest) inside
    closes = ap (λ (d : Option ℕ). depth_step_at (reverse old.waiting.items) d closing) some ∙ ap depths_closed_by reduced_is

    go : (last : Option Waiting) → rest ≡ now ++ option_to_list last → (is_some last ≡ false → rest ≡ [])
        → MovesTo (is_some last) (depth_step (depths_of old) closing) (depths (reverse now) (Some inside))
    go None is none = closes ∙ ap (λ (l : List Waiting). depths_closed (reverse l) inside) (none refl)
    go (Some last) is none = closes ∙ ap (λ (l : List Waiting). depths_closed l inside) (ap reverse is ∙ waits_push now last)

-- a whole formula is as deep as it was measured, and no smaller
alone_is : (frames : List Frame) (tree other : FormulaTree) → alone frames tree ≡ Some other → (frames ≡ []) × (tree ≡ other)
alone_is [] tree other is = (refl, let both : Some tree ≡ Some other = is in cc)
alone_is (frame ∷ frames) tree other is = absurd (let clash : ◌≡◌ {A = Option FormulaTree} None (Some other) = is in cc)

module _ (measurer : FormulaMeasurer) (tree : FormulaTree) (operand depth : ℕ) (rest : List Waiting) (some : measurer.depth ≡ Some operand)
    (reduced_is : reduced_depth 0 (reverse measurer.waiting.items) operand ≡ (reverse rest, depth)) where
  measured_at : (frames : List Frame) (current : Option FormulaTree) → Measures measurer (reading frames current) → ended_at frames current ≡ Some tree
      → (depth ≡ depth_of tree) × (measurer.size ≤ formula_size tree)
  measured_at frames None measures ends = absurd (let clash : ◌≡◌ {A = Option FormulaTree} None (Some tree) = ends in cc)
  measured_at frames (Some own) measures ends =
      let left = alone_is (reduced 0 frames own).0 (reduced 0 frames own).1 tree ends in
      let operand_is : depth_of own ≡ operand =
      let both : Some (depth_of own) ≡ Some operand = ap (λ (d : DepthState). d.depth) measures.alike ∙ some in cc in
      let waiting_is : map waiting_of frames ≡ reverse measurer.waiting.items = ap (λ (d : DepthState). d.waiting) measures.alike in
      let both = sym (reduced_alike 0 frames own) ∙ (ap (λ (l : List Waiting). reduced_depth 0 l (depth_of own)) waiting_is
      ∙ (ap (reduced_depth 0 (reverse measurer.waiting.items)) operand_is ∙ reduced_is)) in
      let size : size_frames (reduced 0 frames own).0 + formula_size (reduced 0 frames own).1 ≡ size_frames frames + formula_size own =
      reduced_size 0 frames own in
      let none : size_frames (reduced 0 frames own).0 ≡ 0 = ap size_frames left.0 in
      let same : formula_size (reduced 0 frames own).1 ≡ formula_size tree = ap formula_size left.1 in
      let less : measurer.size ≤ size_frames frames + formula_size own = measures.fewer in
      (sym (ap (λ (b : List Waiting × ℕ). b.1) both) ∙ ap depth_of left.1, omega (arith, size, none, same, less))

  pub deep_measured : most_formula_depth < depth → (state : ReadState) → Measures measurer state → ended state ≡ Some tree
      → most_formula_depth < formula_depth tree
  deep_measured deep state measures ends =
      let is = (measured_at state.frames state.current measures ends).0 in
      omega (arith, is, deep)

  pub shallow_measured : depth ≤ most_formula_depth → (state : ReadState) → Measures measurer state → ended state ≡ Some tree
      → formula_depth tree ≤ most_formula_depth
  shallow_measured shallow state measures ends =
      let is = (measured_at state.frames state.current measures ends).0 in
      omega (arith, is, shallow)

  pub large_measured : most_formula_nodes < measurer.size → (state : ReadState) → Measures measurer state → ended state ≡ Some tree
      → most_formula_nodes < formula_size tree
  large_measured large state measures ends =
      let less = (measured_at state.frames state.current measures ends).1 in
      omega (arith, less, large)

-- a new measurer has measured no token
pub measured_at_first : (measurer : FormulaMeasurer) → depths_of measurer ≡ depths [] None → measurer.size ≡ 0 → HasMeasured measurer [] measurer
measured_at_first measurer depths_are size_is = record {
  state = initial;
  runs = refl;
  measures = record { alike = sym depths_are; fewer = omega (arith, size_is) };
}
