-- The refusal of specifications whose identifiers rise, and of those without a fault.
use Rattle.std.proofs.Common.{◌≡◌, ℕ, ◌+◌, ◌-◌, ◌<◌, ◌≤◌, Bool, true, false, not, Some, None, List, [], ◌∷◌, length, map, get_or, sum_by, refl, sym, ◌∙◌, ap, subst, arith, inl, inr}
use Rattle.std.proofs.Math.Path.{fun_ext}
use Rattle.std.specs.List.{list_all}
use Rattle.std.specs.List.Sorted.{IsStrictlyIncreasing}
use Rattle.std.proofs.lemmas.Bool.{cases_lt, lt-ltb, le-ltb}
use Rattle.std.proofs.lemmas.List.{length-map}
use Rattle.std.proofs.lemmas.List.Sums.{sum_by-cons}
use Rattle.omega_text.specs.declared.refusal.Refusal.{Refusal}
use Rattle.omega_text.specs.declared.refusal.Refusal.TheVariants.{Automaton, Circuit, Game, Io, Memory, Task, Text}
use Rattle.omega_text.specs.declared.refusal.game.GameFault.TheVariants.{DuplicateNode, UndefinedSuccessor, TooManyEdges, TooManyNodes}
use Rattle.omega_text.specs.Limits.{most_number}
use Rattle.omega_game_values.specs.Limits.{most_nodes, most_successors}
use Rattle.omega_game_values.specs.declared.player.Player.{Player}
use Rattle.omega_game_values.specs.declared.node_spec.NodeSpec.{NodeSpec}
use Rattle.omega_game_values.specs.Building.{IsBuildRefusal, game_fault_of, has_duplicate, has_undefined, listed_successors}
use Rattle.omega_game_values.specs.private.layout.Collected.{AreCollected, ids_of}
use Rattle.omega_game_values.specs.private.layout.Columns.{Columns, AreEven, collected, columns_of, identifiers_of, specs_of, spec_in}
use Rattle.omega_game_values.specs.private.layout.Resolving.{is_defined, resolved_in}
use Rattle.omega_game_values.proofs.building.Collecting.{length-specs_of, get_or-specs_of, ids-specs_of, successors-specs_of}
use Rattle.omega_game_values.proofs.building.Duplicates.{no_duplicate, has_undefined-not}
use Rattle.omega_game_values.proofs.building.Resolved.{AreResolved}
use Rattle.omega_game_values.proofs.layout.Columns.{length-listed}
use Rattle.omega_game_values.proofs.building.Resolutions.{rises_by}

-- the sum of a function of each element
sum_by-map : {X Y : Type 0} (f : Y → ℕ) (g : X → Y) (xs : List X) → sum_by f (map g xs) ≡ sum_by (λ x. f (g x)) xs
sum_by-map f g [] = refl
sum_by-map f g (x ∷ xs) = sum_by-cons f (g x) (map g xs) ∙ ap (λ n. f (g x) + n) (sum_by-map f g xs) ∙ sym (sum_by-cons (λ y. f (g y)) x xs)

-- there are as many places as identifiers
pub sum_by-places : (ids : List ℕ) (lists places : List (List ℕ)) → places ≡ map (map (resolved_in ids)) lists → sum_by (λ list. length list) places ≡ sum_by (λ list. length list) lists
sum_by-places ids lists places placed =
    ap (sum_by (λ list. length list)) placed ∙ sum_by-map (λ list. length list) (map (resolved_in ids)) lists
    ∙ ap (λ f. sum_by f lists) (fun_ext (λ list. length-map list (resolved_in ids)))

-- the parts of the refusal of specifications whose identifiers rise
pub record KnowsFault (specs : List NodeSpec) (ids : List ℕ) (lists : List (List ℕ)) : Type 0 where
  pub undefined : list_all (λ list. list_all (is_defined ids) list) lists ≡ false → game_fault_of specs ≡ Some UndefinedSuccessor
  pub nodes : list_all (λ list. list_all (is_defined ids) list) lists ≡ true → most_nodes < length ids → game_fault_of specs ≡ Some TooManyNodes
  pub edges : list_all (λ list. list_all (is_defined ids) list) lists ≡ true → length ids ≤ most_nodes → most_successors < sum_by (λ list. length list) lists → game_fault_of specs ≡ Some TooManyEdges
  pub none : list_all (λ list. list_all (is_defined ids) list) lists ≡ true → length ids ≤ most_nodes → sum_by (λ list. length list) lists ≤ most_successors → game_fault_of specs ≡ None

-- the refusal of specifications whose identifiers rise
pub knows_fault : (columns : Columns) (specs : List NodeSpec) → specs_of columns ≡ specs → AreEven columns → IsStrictlyIncreasing columns.identifiers → KnowsFault specs columns.identifiers columns.successors
knows_fault columns specs is even rises = record {
  undefined = λ missing. rw (once, undefined_is, missing) refl;
  nodes = λ all many. rw (once, undefined_is, all, count, lt-ltb most_nodes (length columns.identifiers) many) refl;
  edges = λ all few many. rw (once, undefined_is, all, count, le-ltb most_nodes (length columns.identifiers) few, edge_sum, lt-ltb most_successors (sum_by (λ list. length list) columns.successors) many) refl;
  none = λ all few few_edges. rw (once, undefined_is, all, count, le-ltb most_nodes (length columns.identifiers) few, edge_sum, le-ltb most_successors (sum_by (λ list. length list) columns.successors) few_edges) refl;
}
  where
    ids_are : ids_of specs ≡ columns.identifiers
    ids_are = ap ids_of (sym is) ∙ ids-specs_of columns

    lists_are : map (λ (spec : NodeSpec). spec.successors) specs ≡ columns.successors
    lists_are = ap (map (λ (spec : NodeSpec). spec.successors)) (sym is) ∙ successors-specs_of columns even

    once : has_duplicate specs ≡ false
    once = no_duplicate specs (subst IsStrictlyIncreasing (sym ids_are) rises)

    undefined_is : has_undefined specs ≡ not (list_all (λ list. list_all (is_defined columns.identifiers) list) columns.successors)
    undefined_is = has_undefined-not specs columns.identifiers columns.successors ids_are lists_are

    count : length specs ≡ length columns.identifiers
    count = ap length (sym is) ∙ length-specs_of columns

    edge_sum : listed_successors specs ≡ sum_by (λ list. length list) columns.successors
    edge_sum = sym (sum_by-map (λ (list : List ℕ). length list) (λ (spec : NodeSpec). spec.successors) specs) ∙ ap (sum_by (λ list. length list)) lists_are

-- specifications in order of which one identifier is not greater than the one before have a duplicate
pub duplicate_refused : (specs : List NodeSpec) (none : NodeSpec) → has_duplicate specs ≡ true → game_fault_of specs ≡ Some DuplicateNode
duplicate_refused specs none twice = rw twice refl

-- identifiers within the greatest number that rise are few
pub few_listed : (columns : Columns) (listed : List ℕ) → AreCollected columns → IsStrictlyIncreasing columns.identifiers → 0 < length columns.identifiers
    → identifiers_of (length columns.identifiers) listed ≡ columns.identifiers → length listed ≤ most_number + 1
unfolding spec_in
few_listed columns listed kept rises some are = elim (cases_lt 0 (length listed)) [
  | inl l ↦ let size : length listed ≡ length columns.identifiers = sym (length-listed (length columns.identifiers) listed l) ∙ ap length are in
      let last : ℕ = length columns.identifiers - 1 in
      let great : get_or columns.identifiers 0 0 + last ≤ get_or columns.identifiers (0 + last) 0 = rises_by columns.identifiers rises 0 last (omega arith) in
      let at : 0 + last ≡ last = omega arith in
      let above : last ≤ get_or columns.identifiers last 0 = subst (λ (m : ℕ). last ≤ get_or columns.identifiers m 0) at (omega arith) in
      let bound : get_or columns.identifiers last 0 ≤ most_number =
      subst (λ (spec : NodeSpec). spec.id ≤ most_number) (get_or-specs_of columns last (spec_in columns 0) (omega arith)) (kept.well_formed last (spec_in columns 0) (omega (arith, length-specs_of columns))).id in
      omega arith
  | inr l ↦ omega arith
]

-- the columns of the game are those of the specifications with places for identifiers
pub columns_same : (ids listed ranks : List ℕ) (owners : List Player) (places quoted : List (List ℕ)) → length ranks ≡ length ids → identifiers_of (length ids) listed ≡ ids
    → columns_of listed ranks owners places quoted ≡ collected ids ranks owners places quoted
columns_same ids listed ranks owners places quoted size are =
    let here : identifiers_of (length ranks) listed ≡ ids = ap (λ n. identifiers_of n listed) size ∙ are in
    ap (λ (xs : List ℕ). collected xs ranks owners places quoted) here

-- what resolving the successors says, in the words of the code
pub record Resolution (ids slice keys : List ℕ) (n : ℕ) (lists places : List (List ℕ)) (flag : Bool) : Type 0 where
  pub count : n ≡ length ids
  pub value : slice ≡ ids
  pub listed : identifiers_of (length slice) keys ≡ slice
  pub defined : flag ≡ list_all (λ list. list_all (is_defined (identifiers_of n keys)) list) lists
  pub placed : places ≡ map (map (resolved_in (identifiers_of n keys))) lists

-- the identifiers are those listed
pub ids_known : (ids slice keys : List ℕ) (n : ℕ) → n ≡ length ids → slice ≡ ids → identifiers_of (length slice) keys ≡ slice → identifiers_of n keys ≡ ids
ids_known ids slice keys n count value listed =
    ap (λ m. identifiers_of m keys) (count ∙ ap length (sym value)) ∙ listed ∙ value

-- the flag says whether each successor has a place
pub flag_is : (ids slice keys : List ℕ) (n : ℕ) (lists places : List (List ℕ)) (flag : Bool) → Resolution ids slice keys n lists places flag
    → list_all (λ list. list_all (is_defined ids) list) lists ≡ flag
flag_is ids slice keys n lists places flag r =
    sym (r.defined ∙ ap (λ (xs : List ℕ). list_all (λ list. list_all (is_defined xs) list) lists) (ids_known ids slice keys n r.count r.value r.listed))

-- where it says so, the successors are resolved
pub AreResolved-from : (ids slice keys : List ℕ) (n : ℕ) (lists places : List (List ℕ)) (flag : Bool) → Resolution ids slice keys n lists places flag → flag ≡ true → AreResolved ids lists places
AreResolved-from ids slice keys n lists places flag r true' = record {
  defined = flag_is ids slice keys n lists places flag r ∙ true';
  placed = r.placed ∙ ap (λ (xs : List ℕ). map (map (resolved_in xs)) lists) (ids_known ids slice keys n r.count r.value r.listed);
}

-- specifications without a fault are refused for want of memory alone
pub memory_alone : (specs : List NodeSpec) (refusal : Refusal) → game_fault_of specs ≡ None → IsBuildRefusal specs refusal → refusal ≡ Memory
memory_alone specs (Text fault) none is = absurd is
memory_alone specs (Game fault) none is = absurd (cc)
memory_alone specs (Automaton fault) none is = absurd is
memory_alone specs (Circuit fault) none is = absurd is
memory_alone specs (Task fault) none is = absurd is
memory_alone specs Memory none is = refl
memory_alone specs Io none is = absurd is
