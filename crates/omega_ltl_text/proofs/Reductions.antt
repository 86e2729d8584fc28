-- Operators that take their last operands, in a table that grows.
use Rattle.std.proofs.Common.{◌≡◌, ℕ, ◌+◌, ◌<◌, ◌≤◌, ◌⊎◌, inl, inr, ◌&&◌, ◌||◌, not, Bool, true, false}
use Rattle.std.proofs.Common.{Option, Some, None, List, [], ◌∷◌, ◌++◌, length, map, reverse, take, ◌-◌, ◌↔◌}
use Rattle.std.proofs.Common.{refl, ap, ap₂, sym, ◌∙◌, subst, arith, if◌then◌else◌}
use Rattle.std.specs.List.{AllByRecursion, list_any}
use Rattle.std.specs.Option.{is_some}
use Rattle.std.specs.Prelude.{IsSome}
use Rattle.std.proofs.lemmas.Bool.{cases_lt, le-leb}
use Rattle.std.proofs.lemmas.List.{length_push, map-append, nil_from_length, reverse-append, take_at}
use Rattle.omega_ltl_formula.specs.Building.{Adds}
use Rattle.omega_ltl_formula.specs.Formula.{FormulaTree, binary, formula_size, unary}
use Rattle.omega_ltl_formula.specs.Table.{FormulaTable, tree_at}
use Rattle.omega_ltl_text.specs.Grammar.{level}
use Rattle.omega_ltl_text.specs.declared.pending.Pending.{Pending}
use Rattle.omega_ltl_text.specs.declared.pending.Pending.TheVariants.{Binary, Parenthesis, Unary}
use Rattle.omega_ltl_text.specs.private.Reader.{ComesTo, HasFewNodes, IsAmong, IsReading, IsStopped}
use Rattle.omega_ltl_text.specs.private.Reader.{ReaderState, Reduces, binds, frame_of, frames_of}
use Rattle.omega_ltl_text.specs.private.Reader.{is_parenthesis, joined, reader_of, size_waiting}
use Rattle.omega_ltl_text.specs.private.Reader.{sizes_waiting, state_of}
use Rattle.omega_ltl_text.specs.private.Reading.{Frame, ended, infixed, opened, prefixed, reduced, whole}
use Rattle.omega_ltl_text.proofs.Elements.{all_rest}

-- what waits last comes first
pub frames_push : (table : FormulaTable) (rest : List Pending) (last : Pending) → frames_of table (rest ++ last ∷ []) ≡ frame_of table last ∷ frames_of table rest
frames_push table rest last = ap (map (frame_of table)) (reverse-append rest (last ∷ []))

-- what waits first comes last
frames_cons : (table : FormulaTable) (first : Pending) (rest : List Pending) → frames_of table (first ∷ rest) ≡ frames_of table rest ++ frame_of table first ∷ []
frames_cons table first rest =
    ap (map (frame_of table)) (reverse-append (first ∷ []) rest) ∙ map-append (frame_of table) (reverse rest) (first ∷ [])

-- numbers of nodes are those of more nodes
pub among_more : (count more : ℕ) (last : Pending) → count ≤ more → IsAmong count last → IsAmong more last
among_more count more Parenthesis longer is = tt
among_more count more (Unary op) longer is = tt
among_more count more (Binary op left) longer is = omega (arith, longer, is)

pub all_among_more : (count more : ℕ) (pending : List Pending) → count ≤ more → AllByRecursion (IsAmong count) pending → AllByRecursion (IsAmong more) pending
all_among_more count more [] longer all = tt
all_among_more count more (next ∷ pending) longer all = (among_more count more next longer all.0, all_among_more count more pending longer all.1)

pub sizes_push : (table : FormulaTable) (rest : List Pending) (last : Pending) → sizes_waiting table (rest ++ last ∷ []) ≡ sizes_waiting table rest + size_waiting table last
sizes_push table [] last = omega arith
sizes_push table (next ∷ rest) last = let more = sizes_push table rest last in omega (arith, more)

-- a table grows, and what waits stays the same
module _ (old new : FormulaTable) (kept : (k : ℕ) → k < length old.nodes → tree_at new k ≡ tree_at old k) where
  frame_kept : (last : Pending) → IsAmong (length old.nodes) last → frame_of new last ≡ frame_of old last
  frame_kept Parenthesis is = refl
  frame_kept (Unary op) is = refl
  frame_kept (Binary op left) is = ap (λ (t : FormulaTree). infixed t op) (kept left is)

  pub frames_kept : (pending : List Pending) → AllByRecursion (IsAmong (length old.nodes)) pending → frames_of new pending ≡ frames_of old pending
  frames_kept [] all = refl
  frames_kept (next ∷ pending) all =
      frames_cons new next pending
      ∙ (ap₂ (λ (l : List Frame) (f : Frame). l ++ f ∷ []) (frames_kept pending all.1) (frame_kept next all.0)
      ∙ sym (frames_cons old next pending))

  size_kept : (last : Pending) → IsAmong (length old.nodes) last → size_waiting new last ≡ size_waiting old last
  size_kept Parenthesis is = refl
  size_kept (Unary op) is = refl
  size_kept (Binary op left) is = ap formula_size (kept left is)

  pub sizes_kept : (pending : List Pending) → AllByRecursion (IsAmong (length old.nodes)) pending → sizes_waiting new pending ≡ sizes_waiting old pending
  sizes_kept [] all = refl
  sizes_kept (next ∷ pending) all = ap₂ ◌+◌ (size_kept next all.0) (sizes_kept pending all.1)

-- what binds takes its last operand
taken_by : (least : ℕ) (table : FormulaTable) (frames : List Frame) (last : Pending) (tree : FormulaTree) → binds least last ≡ true
    → reduced least (frame_of table last ∷ frames) tree ≡ reduced least frames (joined table last tree)
taken_by least table frames Parenthesis tree is = absurd (let clash : false ≡ true = is in cc)
taken_by least table frames (Unary op) tree is = refl
taken_by least table frames (Binary op left) tree is =
    ap (λ (b : Bool). if b then reduced least frames (joined table (Binary op left) tree) else (infixed (tree_at table left) op ∷ frames, tree)) is

-- and has an operator more
size_joined : (least : ℕ) (table : FormulaTable) (last : Pending) (tree : FormulaTree) → binds least last ≡ true
    → formula_size (joined table last tree) ≡ size_waiting table last + formula_size tree + 1
size_joined least table Parenthesis tree is = absurd (let clash : false ≡ true = is in cc)
size_joined least table (Unary op) tree is = omega arith
size_joined least table (Binary op left) tree is = refl

-- one operator that binds has taken its last operand
pub comes_further : (least : ℕ) (old : ReaderState) (table new : FormulaTable) (pending rest : List Pending) (last : Pending) (tree number : ℕ)
    → ComesTo least old table pending tree → pending ≡ rest ++ last ∷ [] → binds least last ≡ true
    → Adds table new (joined table last (tree_at table tree)) number → new.names ≡ table.names → ComesTo least old new rest number
comes_further least old table new pending rest last tree number comes split bound added named = record {
  reads = record {
    waiting = all_among_more (length table.nodes) (length new.nodes) rest added.longer others;
    complete = added.within;
  };
  same = comes.same ∙ ap Some (
      ap (λ (p : List Pending). reduced least (frames_of table p) (tree_at table tree)) split
      ∙ (ap (λ (f : List Frame). reduced least f (tree_at table tree)) (frames_push table rest last)
      ∙ (taken_by least table (frames_of table rest) last (tree_at table tree) bound
      ∙ ap₂ (reduced least) (sym (frames_kept table new added.kept rest others)) (sym added.there))));
  names = named ∙ comes.names;
  few = λ few.
      let before : length table.nodes ≤ sizes_waiting table (rest ++ last ∷ []) + formula_size (tree_at table tree) =
      subst (λ (p : List Pending). HasFewNodes (reader_of table p (Some tree))) split (comes.few few) in
      let sizes = sizes_push table rest last in
      let same = sizes_kept table new added.kept rest others in
      let size : formula_size (tree_at new number) ≡ size_waiting table last + formula_size (tree_at table tree) + 1 =
      ap formula_size added.there ∙ size_joined least table last (tree_at table tree) bound in
      omega (arith, before, sizes, same, size, added.at_most_one);
  longer = omega (arith, comes.longer, added.longer);
}
  where
    others : AllByRecursion (IsAmong (length table.nodes)) rest
    others = all_rest (IsAmong (length table.nodes)) pending rest last split comes.reads.waiting

-- where the last does not bind, nothing is taken
not_taken : (least : ℕ) (table : FormulaTable) (frames : List Frame) (last : Pending) (tree : FormulaTree) → binds least last ≡ false
    → reduced least (frame_of table last ∷ frames) tree ≡ (frame_of table last ∷ frames, tree)
not_taken least table frames Parenthesis tree is = refl
not_taken least table frames (Unary op) tree is = absurd (let clash : true ≡ false = is in cc)
not_taken least table frames (Binary op left) tree is =
    ap (λ (b : Bool). if b then reduced least frames (joined table (Binary op left) tree) else (infixed (tree_at table left) op ∷ frames, tree)) is

pub stopped_there : (least : ℕ) (table : FormulaTable) (pending : List Pending) (tree : FormulaTree) → IsStopped (binds least) pending
    → reduced least (frames_of table pending) tree ≡ (frames_of table pending, tree)
stopped_there least table pending tree (inl none) = subst (λ (p : List Pending). reduced least (frames_of table p) tree ≡ (frames_of table p, tree)) (sym none) refl
stopped_there least table pending tree (inr last) =
    subst (λ (p : List Pending). reduced least (frames_of table p) tree ≡ (frames_of table p, tree)) (sym last.1.1)
    (subst (λ (f : List Frame). reduced least f tree ≡ (f, tree)) (sym (frames_push table last.1.0 last.0))
    (not_taken least table (frames_of table last.1.0) last.0 tree last.2))

-- so it has come to an end
pub comes_to_end : (least : ℕ) (old : ReaderState) (table : FormulaTable) (pending : List Pending) (number : ℕ) → ComesTo least old table pending number
    → IsStopped (binds least) pending → Reduces least old table pending number
comes_to_end least old table pending number comes stopped = record {
  reads = comes.reads;
  same = comes.same ∙ ap Some (stopped_there least table pending (tree_at table number) stopped);
  names = comes.names;
  few = comes.few;
}

-- at first it is where it is
pub comes_at_first : (least : ℕ) (table : FormulaTable) (pending : List Pending) (number : ℕ) → IsReading (reader_of table pending (Some number))
    → ComesTo least (reader_of table pending (Some number)) table pending number
comes_at_first least table pending number reads = record {
  reads = reads;
  same = refl;
  names = refl;
  few = λ few. few;
  longer = omega arith;
}

-- a formula is whole at the end if no parenthesis is open
abbrev pub is_opened : Frame → Bool
is_opened opened = true
is_opened (prefixed op) = false
is_opened (infixed left op) = false

pub whole_unless_open : (frames : List Frame) (tree : FormulaTree) → is_some (whole (reduced 0 frames tree)) ≡ not (list_any is_opened frames)
whole_unless_open [] tree = refl
whole_unless_open (opened ∷ frames) tree = refl
whole_unless_open (prefixed op ∷ frames) tree = whole_unless_open frames (unary op tree)
whole_unless_open (infixed left op ∷ frames) tree =
    ap (λ (b : Bool). is_some (whole (if b then reduced 0 frames (binary op left tree) else (infixed left op ∷ frames, tree))))
    (le-leb 0 (level op) (omega arith))
    ∙ whole_unless_open frames (binary op left tree)

or_swap : (a b c : Bool) → (a || (b || c)) ≡ (b || (a || c))
or_swap true true c = refl
or_swap true false c = refl
or_swap false true c = refl
or_swap false false c = refl

any_push : (frames : List Frame) (last : Frame) → list_any is_opened (frames ++ last ∷ []) ≡ (is_opened last || list_any is_opened frames)
any_push [] last = refl
any_push (frame ∷ frames) last =
    ap (λ (b : Bool). is_opened frame || b) (any_push frames last) ∙ or_swap (is_opened frame) (is_opened last) (list_any is_opened frames)

opened_alike : (table : FormulaTable) (next : Pending) → is_opened (frame_of table next) ≡ is_parenthesis next
opened_alike table Parenthesis = refl
opened_alike table (Unary op) = refl
opened_alike table (Binary op left) = refl

any_opened : (table : FormulaTable) (pending : List Pending) → list_any is_opened (frames_of table pending) ≡ list_any is_parenthesis pending
any_opened table [] = refl
any_opened table (next ∷ pending) =
    ap (list_any is_opened) (frames_cons table next pending)
    ∙ (any_push (frames_of table pending) (frame_of table next)
    ∙ ap₂ ◌||◌ (opened_alike table next) (any_opened table pending))

pub ended_unless_open : (table : FormulaTable) (pending : List Pending) (current : Option ℕ)
    → is_some (ended (state_of (reader_of table pending current))) ≡ (is_some current && not (list_any is_parenthesis pending))
ended_unless_open table pending None = refl
ended_unless_open table pending (Some number) =
    whole_unless_open (frames_of table pending) (tree_at table number) ∙ ap not (any_opened table pending)

-- what is left without the last
pub popped_rest : {X : Type 0} (items lent now rest : List X) (last : X) (count : ℕ) → lent ≡ rest ++ last ∷ [] → lent ≡ items → length lent ≡ count
    → now ≡ take (count - 1) items → items ≡ now ++ last ∷ []
popped_rest {X} items lent now rest last count split same long now_is =
    let size : length lent ≡ length rest + 1 = ap length split ∙ length_push rest last in
    let less : count - 1 ≡ length rest = omega (arith, size, long) in
    let rest_is : now ≡ rest = now_is ∙ (ap₂ (λ (n : ℕ) (l : List X). take n l) less (sym same ∙ split) ∙ take_at rest (last ∷ []) (length rest) refl) in
    sym same ∙ (split ∙ ap (λ (l : List X). l ++ last ∷ []) (sym rest_is))

-- nothing was there
pub empty_popped : {X : Type 0} (items : List X) (count : ℕ) (popped : Option X) → count ≡ length items → (IsSome popped) ↔ (0 < count) → is_some popped ≡ false → items ≡ []
empty_popped {X} items count popped long variant none = nil_from_length items (go (cases_lt 0 count))
  where
    go : (0 < count) ⊎ (count ≤ 0) → length items ≡ 0
    go (inl more) = absurd (let clash : true ≡ false = sym (variant.1 more) ∙ none in cc)
    go (inr zero) = omega (arith, long, zero)
