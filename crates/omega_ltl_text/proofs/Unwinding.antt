-- Symbols that are run are those of what waits and of a formula that is written so; at an end they are a formula.
use Rattle.std.proofs.Common.{◌≡◌, ℕ, ◌≤◌, Bool, true, false, Option, Some, None, List, [], ◌∷◌, ◌++◌, refl}
use Rattle.std.proofs.Common.{ap, ap₂, sym, ◌∙◌, subst, arith, append_assoc, append-nil, nat_le}
use Rattle.std.proofs.Common.{if◌then◌else◌}
use Rattle.std.specs.Prelude.{option_and_then}
use Rattle.std.proofs.lemmas.Bool.{leb-false, leb-true}
use Rattle.omega_ltl_formula.specs.Formula.{FormulaTree, binary, constant as constant_tree, name as name_tree}
use Rattle.omega_ltl_formula.specs.declared.operators.BinaryOperator.{BinaryOperator}
use Rattle.omega_ltl_formula.specs.declared.operators.UnaryOperator.{UnaryOperator}
use Rattle.omega_ltl_text.specs.Grammar.{IsGrouped, RawFormula, SpellsFormula, bare, least_left, level}
use Rattle.omega_ltl_text.specs.Grammar.{raw_binary, raw_constant, raw_group, raw_name, raw_symbols}
use Rattle.omega_ltl_text.specs.Grammar.{raw_unary, tightness}
use Rattle.omega_ltl_text.specs.Symbols.{FormulaSymbol, before, between, closing, constant, name, opening}
use Rattle.omega_ltl_text.specs.private.Reading.{Frame, ReadState, alone, awaiting, closed_by, ended, infixed}
use Rattle.omega_ltl_text.specs.private.Reading.{initial, opened, prefixed, reading, reduced, run, step}
use Rattle.omega_ltl_text.specs.private.Reading.{step_after}
use Rattle.omega_ltl_text.proofs.Absorbing.{Admits, levels, takes_or_stays}
use Rattle.omega_ltl_text.proofs.Runs.{run_step}

-- what waits, as it is written
data RawFrame : Type 0 where
  raw_opened : RawFrame
  raw_prefixed : UnaryOperator → RawFrame
  raw_infixed : RawFormula → BinaryOperator → RawFrame

-- the same without parentheses
abbrev bare_frame : RawFrame → Frame
bare_frame raw_opened = opened
bare_frame (raw_prefixed op) = prefixed op
bare_frame (raw_infixed left op) = infixed (bare left) op

abbrev bare_frames : List RawFrame → List Frame
bare_frames [] = []
bare_frames (frame ∷ frames) = bare_frame frame ∷ bare_frames frames

-- the symbols of what waits, the last behind the others
abbrev frame_symbols : RawFrame → List FormulaSymbol
frame_symbols raw_opened = opening ∷ []
frame_symbols (raw_prefixed op) = before op ∷ []
frame_symbols (raw_infixed left op) = raw_symbols left ++ between op ∷ []

abbrev symbols_waiting : List RawFrame → List FormulaSymbol
symbols_waiting [] = []
symbols_waiting (frame ∷ frames) = symbols_waiting frames ++ frame_symbols frame

-- a left operand binds tight enough, and its operator may stand there
abbrev IsPlacedIn : List Frame → RawFrame → Type 0
IsPlacedIn frames raw_opened = Unit {0}
IsPlacedIn frames (raw_prefixed op) = Unit {0}
IsPlacedIn frames (raw_infixed left op) = IsGrouped left × (least_left op ≤ tightness left) × Admits frames (level op)

abbrev ArePlaced : List RawFrame → Type 0
ArePlaced [] = Unit {0}
ArePlaced (frame ∷ frames) = IsPlacedIn (bare_frames frames) frame × ArePlaced frames

-- what binds as tight as parentheses may stand anywhere
admits_tight : (frames : List Frame) → Admits frames 5
admits_tight [] = tt
admits_tight (opened ∷ frames) = tt
admits_tight (prefixed op ∷ frames) = omega arith
admits_tight (infixed left op ∷ frames) = (levels op).most_right

-- a formula that is complete, behind what waits
record IsUnwound (symbols : List FormulaSymbol) (frames : List Frame) (tree : FormulaTree) : Type 0 where
  waiting : List RawFrame
  raw : RawFormula
  frames_are : bare_frames waiting ≡ frames
  tree_is : bare raw ≡ tree
  spelled : symbols ≡ symbols_waiting waiting ++ raw_symbols raw
  placed : ArePlaced waiting
  grouped : IsGrouped raw
  admitted : Admits frames (tightness raw)

-- the operators that bind so tight take it
record IsTaken (least : ℕ) (symbols : List FormulaSymbol) (both : List Frame × FormulaTree) : Type 0 where
  unwound : IsUnwound symbols both.0 both.1
  tight : least ≤ tightness unwound.raw
  stopped : (op : BinaryOperator) → least ≡ least_left op → Admits both.0 (level op)

module _ (least : ℕ) (symbols : List FormulaSymbol) where
  -- step by step
  taken : (waiting : List RawFrame) (raw : RawFormula) → symbols ≡ symbols_waiting waiting ++ raw_symbols raw → ArePlaced waiting → IsGrouped raw
      → Admits (bare_frames waiting) (tightness raw) → least ≤ tightness raw → least ≤ 5
      → IsTaken least symbols (reduced least (bare_frames waiting) (bare raw))
  taken [] raw spelled placed grouped admitted tight most = record {
    unwound = record { waiting = []; raw = raw; frames_are = refl; tree_is = refl; spelled = spelled; placed = tt; grouped = grouped; admitted = tt };
    tight = tight;
    stopped = λ op e. tt;
  }
  taken (raw_opened ∷ waiting) raw spelled placed grouped admitted tight most = record {
    unwound = record { waiting = raw_opened ∷ waiting; raw = raw; frames_are = refl; tree_is = refl; spelled = spelled; placed = placed; grouped = grouped; admitted = tt };
    tight = tight;
    stopped = λ op e. tt;
  }
  taken (raw_prefixed op ∷ waiting) raw spelled placed grouped admitted tight most =
      taken waiting (raw_unary op raw) (spelled ∙ append_assoc (symbols_waiting waiting) (before op ∷ []) (raw_symbols raw)) placed.1 (grouped, admitted)
      (admits_tight (bare_frames waiting)) most most
  taken (raw_infixed left op ∷ waiting) raw spelled placed grouped admitted tight most =
      go (nat_le least (level op)) refl (λ respelled within.
      taken waiting (raw_binary op left raw) respelled placed.1 (placed.0.0, grouped, placed.0.1, admitted) placed.0.2 within most)
    where
      respelled : symbols ≡ symbols_waiting waiting ++ raw_symbols (raw_binary op left raw)
      respelled = spelled
          ∙ append_assoc (symbols_waiting waiting) (raw_symbols left ++ between op ∷ []) (raw_symbols raw)
          ∙ ap (λ (rest : List FormulaSymbol). symbols_waiting waiting ++ rest) (append_assoc (raw_symbols left) (between op ∷ []) (raw_symbols raw))

      go : (b : Bool) → nat_le least (level op) ≡ b
          → (symbols ≡ symbols_waiting waiting ++ raw_symbols (raw_binary op left raw) → least ≤ level op
          → IsTaken least symbols (reduced least (bare_frames waiting) (binary op (bare left) (bare raw))))
          → IsTaken least symbols (if b then reduced least (bare_frames waiting) (binary op (bare left) (bare raw)) else (infixed (bare left) op ∷ bare_frames waiting, bare raw))
      go true within further = further respelled (leb-true least (level op) within)
      go false past further = record {
        unwound = record { waiting = raw_infixed left op ∷ waiting; raw = raw; frames_are = refl; tree_is = refl; spelled = spelled; placed = placed; grouped = grouped; admitted = admitted };
        tight = tight;
        stopped = λ next e. takes_or_stays op next (let below = leb-false least (level op) past in omega (arith, below, e));
      }

-- the same of what was unwound
taken_from : (least : ℕ) (symbols : List FormulaSymbol) (frames : List Frame) (tree : FormulaTree) (is : IsUnwound symbols frames tree)
    → least ≤ tightness is.raw → least ≤ 5 → IsTaken least symbols (reduced least frames tree)
taken_from least symbols frames tree is tight most =
    subst (λ (f : List Frame). IsTaken least symbols (reduced least f tree)) is.frames_are
    (subst (λ (t : FormulaTree). IsTaken least symbols (reduced least (bare_frames is.waiting) t)) is.tree_is
    (taken least symbols is.waiting is.raw is.spelled is.placed is.grouped
    (subst (λ (f : List Frame). Admits f (tightness is.raw)) (sym is.frames_are) is.admitted) tight most))

-- the symbols of a state: what waits, and perhaps a complete formula, which is an atom or in parentheses
record IsWanted (symbols : List FormulaSymbol) (frames : List Frame) : Type 0 where
  waiting : List RawFrame
  frames_are : bare_frames waiting ≡ frames
  spelled : symbols ≡ symbols_waiting waiting
  placed : ArePlaced waiting

record IsComplete (symbols : List FormulaSymbol) (frames : List Frame) (tree : FormulaTree) : Type 0 where
  unwound : IsUnwound symbols frames tree
  tight : tightness unwound.raw ≡ 5

abbrev IsReached : List FormulaSymbol → List Frame → Option FormulaTree → Type 0
IsReached symbols frames None = IsWanted symbols frames
IsReached symbols frames (Some tree) = IsComplete symbols frames tree

-- an atom, after what waits
atom_reached : (symbols : List FormulaSymbol) (symbol : FormulaSymbol) (frames : List Frame) (raw : RawFormula) → IsWanted symbols frames → raw_symbols raw ≡ symbol ∷ []
    → IsGrouped raw → tightness raw ≡ 5 → IsComplete (symbols ++ symbol ∷ []) frames (bare raw)
atom_reached symbols symbol frames raw is spells grouped tight = record {
  unwound = record {
    waiting = is.waiting;
    raw = raw;
    frames_are = is.frames_are;
    tree_is = refl;
    spelled = ap₂ ◌++◌ is.spelled (sym spells);
    placed = is.placed;
    grouped = grouped;
    admitted = subst (Admits frames) (sym tight) (admits_tight frames);
  };
  tight = tight;
}

-- one thing more that waits
frame_reached : (symbols : List FormulaSymbol) (symbol : FormulaSymbol) (frames : List Frame) (frame : RawFrame) → IsWanted symbols frames → frame_symbols frame ≡ symbol ∷ []
    → IsPlacedIn frames frame → IsWanted (symbols ++ symbol ∷ []) (bare_frame frame ∷ frames)
frame_reached symbols symbol frames frame is spells placed = record {
  waiting = frame ∷ is.waiting;
  frames_are = ap (λ (f : List Frame). bare_frame frame ∷ f) is.frames_are;
  spelled = ap₂ ◌++◌ is.spelled (sym spells);
  placed = (subst (λ (f : List Frame). IsPlacedIn f frame) (sym is.frames_are) placed, is.placed);
}

-- an operator after a complete formula
operator_reached : (symbols : List FormulaSymbol) (op : BinaryOperator) (both : List Frame × FormulaTree) → IsTaken (least_left op) symbols both
    → IsWanted (symbols ++ between op ∷ []) (infixed both.1 op ∷ both.0)
operator_reached symbols op both is =
    let u = is.unwound in
    record {
      waiting = raw_infixed u.raw op ∷ u.waiting;
      frames_are = ap₂ (λ (t : FormulaTree) (f : List Frame). infixed t op ∷ f) u.tree_is u.frames_are;
      spelled = ap (λ (s : List FormulaSymbol). s ++ between op ∷ []) u.spelled ∙ append_assoc (symbols_waiting u.waiting) (raw_symbols u.raw) (between op ∷ []);
      placed = (
        (u.grouped, is.tight, subst (λ (f : List Frame). Admits f (level op)) (sym u.frames_are) (is.stopped op refl)),
        u.placed,
      );
    }

-- what waits last, as it is written
opened_last : (waiting : List RawFrame) (frames : List Frame) → bare_frames waiting ≡ opened ∷ frames
    → (rest : List RawFrame) × (waiting ≡ raw_opened ∷ rest) × (bare_frames rest ≡ frames)
opened_last [] frames e = absurd (let clash : ◌≡◌ {A = List Frame} [] (opened ∷ frames) = e in cc)
opened_last (raw_opened ∷ waiting) frames e = (waiting, refl, cc)
opened_last (raw_prefixed op ∷ waiting) frames e = absurd (cc)
opened_last (raw_infixed left op ∷ waiting) frames e = absurd (cc)

-- a parenthesis after a complete formula
group_reached : (symbols : List FormulaSymbol) (frames : List Frame) (tree : FormulaTree) → IsUnwound symbols (opened ∷ frames) tree
    → IsComplete (symbols ++ closing ∷ []) frames tree
group_reached symbols frames tree u =
    let last = opened_last u.waiting frames u.frames_are in
    record {
      unwound = record {
        waiting = last.0;
        raw = raw_group u.raw;
        frames_are = last.2;
        tree_is = u.tree_is;
        spelled = ap (λ (s : List FormulaSymbol). s ++ closing ∷ []) (u.spelled ∙ ap (λ (w : List RawFrame). symbols_waiting w ++ raw_symbols u.raw) last.1)
            ∙ append_assoc (symbols_waiting last.0 ++ opening ∷ []) (raw_symbols u.raw) (closing ∷ [])
            ∙ append_assoc (symbols_waiting last.0) (opening ∷ []) (raw_symbols u.raw ++ closing ∷ []);
        placed = (subst ArePlaced last.1 u.placed).1;
        grouped = u.grouped;
        admitted = admits_tight frames;
      };
      tight = refl;
    }

-- the state after `)`
closed_reached : (symbols : List FormulaSymbol) (frames : List Frame) (tree : FormulaTree) (next : ReadState) → IsUnwound symbols frames tree
    → closed_by (frames, tree) ≡ Some next → IsReached (symbols ++ closing ∷ []) next.frames next.current
closed_reached symbols [] tree next u e = absurd (let clash : ◌≡◌ {A = Option ReadState} None (Some next) = e in cc)
closed_reached symbols (opened ∷ frames) tree next u e =
    let same : reading frames (Some tree) ≡ next = cc in
    subst (λ (s : ReadState). IsReached (symbols ++ closing ∷ []) s.frames s.current) same (group_reached symbols frames tree u)
closed_reached symbols (prefixed op ∷ frames) tree next u e = absurd (let clash : ◌≡◌ {A = Option ReadState} None (Some next) = e in cc)
closed_reached symbols (infixed left op ∷ frames) tree next u e = absurd (let clash : ◌≡◌ {A = Option ReadState} None (Some next) = e in cc)

-- one symbol more leads to the next state
wanted_step : (symbols : List FormulaSymbol) (frames : List Frame) (symbol : FormulaSymbol) (next : ReadState) → IsWanted symbols frames
    → step (reading frames None) symbol ≡ Some next → IsReached (symbols ++ symbol ∷ []) next.frames next.current
wanted_step symbols frames (constant value) next is e =
    let same : reading frames (Some (constant_tree value)) ≡ next = cc in
    subst (λ (s : ReadState). IsReached (symbols ++ constant value ∷ []) s.frames s.current) same
    (atom_reached symbols (constant value) frames (raw_constant value) is refl tt refl)
wanted_step symbols frames (name bytes) next is e =
    let same : reading frames (Some (name_tree bytes)) ≡ next = cc in
    subst (λ (s : ReadState). IsReached (symbols ++ name bytes ∷ []) s.frames s.current) same
    (atom_reached symbols (name bytes) frames (raw_name bytes) is refl tt refl)
wanted_step symbols frames (before op) next is e =
    let same : reading (prefixed op ∷ frames) None ≡ next = cc in
    subst (λ (s : ReadState). IsReached (symbols ++ before op ∷ []) s.frames s.current) same
    (frame_reached symbols (before op) frames (raw_prefixed op) is refl tt)
wanted_step symbols frames opening next is e =
    let same : reading (opened ∷ frames) None ≡ next = cc in
    subst (λ (s : ReadState). IsReached (symbols ++ opening ∷ []) s.frames s.current) same
    (frame_reached symbols opening frames raw_opened is refl tt)
wanted_step symbols frames (between op) next is e = absurd (let clash : ◌≡◌ {A = Option ReadState} None (Some next) = e in cc)
wanted_step symbols frames closing next is e = absurd (let clash : ◌≡◌ {A = Option ReadState} None (Some next) = e in cc)

complete_step : (symbols : List FormulaSymbol) (frames : List Frame) (tree : FormulaTree) (symbol : FormulaSymbol) (next : ReadState) → IsComplete symbols frames tree
    → step_after frames tree symbol ≡ Some next → IsReached (symbols ++ symbol ∷ []) next.frames next.current
complete_step symbols frames tree (constant value) next is e = absurd (let clash : ◌≡◌ {A = Option ReadState} None (Some next) = e in cc)
complete_step symbols frames tree (name bytes) next is e = absurd (let clash : ◌≡◌ {A = Option ReadState} None (Some next) = e in cc)
complete_step symbols frames tree (before op) next is e = absurd (let clash : ◌≡◌ {A = Option ReadState} None (Some next) = e in cc)
complete_step symbols frames tree opening next is e = absurd (let clash : ◌≡◌ {A = Option ReadState} None (Some next) = e in cc)
complete_step symbols frames tree (between op) next is e =
    let same : awaiting op (reduced (least_left op) frames tree) ≡ next = cc in
    let most = (levels op).most_left in
    subst (λ (s : ReadState). IsReached (symbols ++ between op ∷ []) s.frames s.current) same
    (operator_reached symbols op (reduced (least_left op) frames tree)
    (taken_from (least_left op) symbols frames tree is.unwound (omega (arith, most, is.tight)) most))
complete_step symbols frames tree closing next is e =
    closed_reached symbols (reduced 0 frames tree).0 (reduced 0 frames tree).1 next
    (taken_from 0 symbols frames tree is.unwound (omega arith) (omega arith)).unwound e

reached_step : (symbols : List FormulaSymbol) (frames : List Frame) (current : Option FormulaTree) (symbol : FormulaSymbol) (next : ReadState)
    → IsReached symbols frames current → step (reading frames current) symbol ≡ Some next → IsReached (symbols ++ symbol ∷ []) next.frames next.current
reached_step symbols frames None symbol next is e = wanted_step symbols frames symbol next is e
reached_step symbols frames (Some tree) symbol next is e = complete_step symbols frames tree symbol next is e

-- and so do symbols
reached_run : (front symbols : List FormulaSymbol) (state last : ReadState) → IsReached front state.frames state.current → run state symbols ≡ Some last
    → IsReached (front ++ symbols) last.frames last.current
reached_run front [] state last is e =
    let same : state ≡ last = cc in
    subst (λ (l : List FormulaSymbol). IsReached l last.frames last.current) (sym (append-nil front))
    (subst (λ (s : ReadState). IsReached front s.frames s.current) same is)
reached_run front (symbol ∷ symbols) state last is e = go (step state symbol) refl (reached_run (front ++ symbol ∷ []) symbols)
  where
    go : (o : Option ReadState) → step state symbol ≡ o
        → ((next end : ReadState) → IsReached (front ++ symbol ∷ []) next.frames next.current → run next symbols ≡ Some end
        → IsReached ((front ++ symbol ∷ []) ++ symbols) end.frames end.current)
        → IsReached (front ++ symbol ∷ symbols) last.frames last.current
    go None stopped further = absurd (let clash : ◌≡◌ {A = Option ReadState} None (Some last) = sym (ap (option_and_then (λ (next : ReadState). run next symbols)) stopped) ∙ e in cc)
    go (Some next) on further =
        subst (λ (l : List FormulaSymbol). IsReached l last.frames last.current) (append_assoc front (symbol ∷ []) symbols)
        (further next last (reached_step front state.frames state.current symbol next is on) (sym (run_step state next symbol symbols on) ∙ e))

-- a formula that is alone at an end
alone_unwound : (symbols : List FormulaSymbol) (frames : List Frame) (tree end : FormulaTree) → IsUnwound symbols frames tree → alone frames tree ≡ Some end
    → SpellsFormula symbols end
alone_unwound symbols [] tree end u e = go u.waiting u.frames_are u.spelled
  where
    go : (waiting : List RawFrame) → bare_frames waiting ≡ [] → symbols ≡ symbols_waiting waiting ++ raw_symbols u.raw → SpellsFormula symbols end
    go [] none spelled = record { raw = u.raw; spelled = spelled; grouped = u.grouped; bare_is = u.tree_is ∙ cc }
    go (frame ∷ waiting) none spelled = absurd (let clash : ◌≡◌ {A = List Frame} (bare_frame frame ∷ bare_frames waiting) [] = none in cc)
alone_unwound symbols (frame ∷ frames) tree end u e = absurd (let clash : ◌≡◌ {A = Option FormulaTree} None (Some end) = e in cc)

-- symbols that are run to an end are a formula
pub run_spells : (symbols : List FormulaSymbol) (state : ReadState) (tree : FormulaTree) → run initial symbols ≡ Some state → ended state ≡ Some tree
    → SpellsFormula symbols tree
run_spells symbols state tree runs ends =
    go state.frames state.current (reached_run [] symbols initial state (record { waiting = []; frames_are = refl; spelled = refl; placed = tt }) runs) ends
  where
    go : (frames : List Frame) (current : Option FormulaTree) → IsReached symbols frames current → ended (reading frames current) ≡ Some tree → SpellsFormula symbols tree
    go frames None is e = absurd (let clash : ◌≡◌ {A = Option FormulaTree} None (Some tree) = e in cc)
    go frames (Some complete) is e =
        alone_unwound symbols (reduced 0 frames complete).0 (reduced 0 frames complete).1 tree
        (taken_from 0 symbols frames complete is.unwound (omega arith) (omega arith)).unwound e
