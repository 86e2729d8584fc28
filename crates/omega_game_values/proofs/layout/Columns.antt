-- The nodes that columns stand for, read entry by entry.
use Rattle.std.proofs.Common.{◌≡◌, ℕ, ◌+◌, ◌<◌, ◌≤◌, Bool, inl, inr, Option, Some, None, ◌==◌, List, [], ◌∷◌, length, map, get_or, sum_by, refl, sym, ◌∙◌, ap, arith, zero-add}
use Rattle.std.specs.List.{range_with_len, position, position_or_len}
use Rattle.std.proofs.lemmas.Bool.Decides.{eqb_tells}
use Rattle.std.proofs.lemmas.Bool.{ne_eqb, eq-eqb, lt-ltb, le-ltb}
use Rattle.std.proofs.lemmas.List.{same_lists, get_or-map, get_or_default, length-map}
use Rattle.std.proofs.lemmas.List.Sums.{sum_by-cons, position_or_len_is}
use Rattle.std.proofs.lemmas.List.FromFn.{length-range_with_len, get_or-range_with_len, length-map-range_with_len, get_or-map-range_with_len}
use Rattle.omega_game_values.specs.declared.player.Player.{Player}
use Rattle.omega_game_values.specs.declared.player.Player.TheVariants.{Zero}
use Rattle.omega_game_values.specs.Game.{Node, no_node, node_at, priority_at, owner_at, successors_at, identifiers, priorities, successor_count}
use Rattle.omega_game_values.specs.private.layout.Columns.{Columns, AreEven, node_in, nodes_of, name_in_column, identifiers_of}

-- there is a node for each identifier
pub length-nodes_of : (columns : Columns) → length (nodes_of columns) ≡ length columns.identifiers
unfolding nodes_of
length-nodes_of columns = length-map-range_with_len (node_in columns) 0 (length columns.identifiers)

-- the node at a place
pub node_at-nodes_of : (columns : Columns) (v : ℕ) → v < length columns.identifiers → get_or (nodes_of columns) v no_node ≡ node_in columns v
unfolding nodes_of
node_at-nodes_of columns v h = get_or-map-range_with_len (node_in columns) 0 (length columns.identifiers) v v no_node h (omega arith)

-- the node at a place, by any default
pub get_or-nodes_of : (columns : Columns) (v : ℕ) (d : Node) → v < length columns.identifiers → get_or (nodes_of columns) v d ≡ node_in columns v
unfolding nodes_of
get_or-nodes_of columns v d h = get_or-map-range_with_len (node_in columns) 0 (length columns.identifiers) v v d h (omega arith)

-- a column read off the nodes
pub map-nodes_of : {X : Type 0} (columns : Columns) (part : Node → X) (xs : List X) (d : X) → length xs ≡ length columns.identifiers
    → ((v : ℕ) → v < length columns.identifiers → part (node_in columns v) ≡ get_or xs v d) → map part (nodes_of columns) ≡ xs
map-nodes_of columns part xs d size same =
    same_lists _ _ (length-map (nodes_of columns) part ∙ length-nodes_of columns ∙ sym size)
    (λ k e h. let within : k < length columns.identifiers = omega (arith, length-map (nodes_of columns) part, length-nodes_of columns) in
    get_or-map part (nodes_of columns) k no_node e (omega (arith, length-nodes_of columns))
    ∙ ap part (node_at-nodes_of columns k within) ∙ same k within ∙ get_or_default xs k d e (omega arith))

-- the identifiers of the nodes
pub identifiers-nodes_of : (columns : Columns) → identifiers (nodes_of columns) ≡ columns.identifiers
unfolding node_in
identifiers-nodes_of columns = map-nodes_of columns (λ node. node.identifier) columns.identifiers 0 refl (λ v h. refl)

-- the priorities of the nodes
pub priorities-nodes_of : (columns : Columns) → AreEven columns → priorities (nodes_of columns) ≡ columns.priorities
unfolding node_in
priorities-nodes_of columns even = map-nodes_of columns (λ node. node.priority) columns.priorities 0 even.priorities_even (λ v h. refl)

-- the successors of the nodes
pub successors-nodes_of : (columns : Columns) → AreEven columns → map (λ node. node.successors) (nodes_of columns) ≡ columns.successors
unfolding node_in
successors-nodes_of columns even = map-nodes_of columns (λ node. node.successors) columns.successors [] even.successors_even (λ v h. refl)

-- a sum over what a function makes of each element
sum_by-map : {X Y : Type 0} (f : Y → ℕ) (g : X → Y) (xs : List X) → sum_by f (map g xs) ≡ sum_by (λ x. f (g x)) xs
sum_by-map f g [] = refl
sum_by-map f g (x ∷ xs) = sum_by-cons f (g x) (map g xs) ∙ ap (λ n. f (g x) + n) (sum_by-map f g xs) ∙ sym (sum_by-cons (λ y. f (g y)) x xs)

-- the successors are listed in the column
pub edge_count-nodes_of : (columns : Columns) → AreEven columns → successor_count (nodes_of columns) ≡ sum_by (λ list. length list) columns.successors
edge_count-nodes_of columns even =
    sym (sum_by-map (λ list. length list) (λ node. node.successors) (nodes_of columns)) ∙ ap (sum_by (λ list. length list)) (successors-nodes_of columns even)

-- there are as many identifiers as places, or as are listed
pub length-identifiers_of : (n : ℕ) (listed : List ℕ) → (0 < length listed → length listed ≡ n) → length (identifiers_of n listed) ≡ n
unfolding identifiers_of
length-identifiers_of n [] h = length-range_with_len 0 n
length-identifiers_of n (id ∷ others) h = h (omega arith)

-- the identifiers at a place
pub get_or-identifiers_of : (n : ℕ) (listed : List ℕ) (v : ℕ) → v < n → get_or listed v v ≡ get_or (identifiers_of n listed) v v
unfolding identifiers_of
get_or-identifiers_of n [] v h = sym (get_or-range_with_len 0 n v v h ∙ zero-add v)
get_or-identifiers_of n (id ∷ others) v h = refl

-- a place of the nodes has an entry in each column
pub place_within : (columns : Columns) (nodes : List Node) (v : ℕ) → nodes_of columns ≡ nodes → v < length nodes → v < length columns.identifiers
place_within columns nodes v is h = omega (arith, length-nodes_of columns, ap length is)

-- the node at a place is that of the columns
pub node_is : (columns : Columns) (nodes : List Node) (v : ℕ) → nodes_of columns ≡ nodes → v < length nodes → node_at nodes v ≡ node_in columns v
node_is columns nodes v is h =
    ap (λ (list : List Node). get_or list v no_node) (sym is) ∙ node_at-nodes_of columns v (place_within columns nodes v is h)

-- what is read from the identifiers is the node's
pub identifier_is : (columns : Columns) (nodes : List Node) (v x : ℕ) → nodes_of columns ≡ nodes → v < length nodes → x ≡ get_or columns.identifiers v v → x ≡ (node_at nodes v).identifier
unfolding node_in
identifier_is columns nodes v x is h read =
    read ∙ get_or_default columns.identifiers v v 0 (place_within columns nodes v is h) ∙ sym (ap (λ (node : Node). node.identifier) (node_is columns nodes v is h))

-- what is read from the priorities is the node's
pub priority_is : (columns : Columns) (nodes : List Node) (v x : ℕ) → AreEven columns → nodes_of columns ≡ nodes → v < length nodes → x ≡ get_or columns.priorities v x → x ≡ priority_at nodes v
unfolding node_in
priority_is columns nodes v x even is h read =
    read ∙ get_or_default columns.priorities v x 0 (omega (arith, place_within columns nodes v is h, even.priorities_even)) ∙ sym (ap (λ (node : Node). node.priority) (node_is columns nodes v is h))

-- what is read from the owners is the node's
pub owner_is : (columns : Columns) (nodes : List Node) (v : ℕ) (x : Player) → AreEven columns → nodes_of columns ≡ nodes → v < length nodes → x ≡ get_or columns.owners v x → x ≡ owner_at nodes v
unfolding node_in
owner_is columns nodes v x even is h read =
    read ∙ get_or_default columns.owners v x Zero (omega (arith, place_within columns nodes v is h, even.owners_even)) ∙ sym (ap (λ (node : Node). node.owner) (node_is columns nodes v is h))

-- what is read from the successors is the node's
pub successors_are : (columns : Columns) (nodes : List Node) (v : ℕ) (xs : List ℕ) → nodes_of columns ≡ nodes → v < length nodes → xs ≡ get_or columns.successors v [] → xs ≡ successors_at nodes v
unfolding node_in
successors_are columns nodes v xs is h read = read ∙ sym (ap (λ (node : Node). node.successors) (node_is columns nodes v is h))

-- what is read from the names is the node's
pub name_is : (columns : Columns) (nodes : List Node) (v : ℕ) (x : Option (List ℕ)) → nodes_of columns ≡ nodes → v < length nodes → x ≡ name_in_column (get_or columns.quoted v []) → x ≡ (node_at nodes v).name
unfolding node_in
name_is columns nodes v x is h read = read ∙ sym (ap (λ (node : Node). node.name) (node_is columns nodes v is h))

-- where identifiers are listed, there is one for each node
pub length-listed : (n : ℕ) (listed : List ℕ) → 0 < length listed → length (identifiers_of n listed) ≡ length listed
unfolding identifiers_of
length-listed n [] h = absurd (omega arith)
length-listed n (id ∷ others) h = refl

-- the number of nodes
pub length_is : (columns : Columns) (nodes : List Node) → nodes_of columns ≡ nodes → length nodes ≡ length columns.identifiers
length_is columns nodes is = ap length (sym is) ∙ length-nodes_of columns

-- the identifiers of the nodes
pub identifiers_are : (columns : Columns) (nodes : List Node) → nodes_of columns ≡ nodes → identifiers nodes ≡ columns.identifiers
identifiers_are columns nodes is = ap identifiers (sym is) ∙ identifiers-nodes_of columns

-- an identifier among those from 0 to n - 1 stands at its own place
pub position-range_with_len : (n id : ℕ) → id < n → position (λ x. x == id) (range_with_len 0 n) ≡ Some id
position-range_with_len n id h =
    let first : position_or_len (λ x. x == id) (range_with_len 0 n) ≡ id =
    position_or_len_is (λ x. x == id) (range_with_len 0 n) id 0 (omega (arith, length-range_with_len 0 n))
    (λ k l. ne_eqb (get_or (range_with_len 0 n) k 0) id (λ e. absurd (omega (arith, e, get_or-range_with_len 0 n k 0 (omega arith)))))
    (λ l. eq-eqb (get_or (range_with_len 0 n) id 0) id (get_or-range_with_len 0 n id 0 h ∙ zero-add id)) in
    rw (first, length-range_with_len, lt-ltb id n h) refl

-- one of n or more does not stand among them
pub position_past : (n id : ℕ) → n ≤ id → position (λ x. x == id) (range_with_len 0 n) ≡ None
position_past n id h =
    let none : position_or_len (λ x. x == id) (range_with_len 0 n) ≡ n =
    position_or_len_is (λ x. x == id) (range_with_len 0 n) n 0 (omega (arith, length-range_with_len 0 n))
    (λ k l. ne_eqb (get_or (range_with_len 0 n) k 0) id (λ e. absurd (omega (arith, e, get_or-range_with_len 0 n k 0 l))))
    (λ l. absurd (omega (arith, length-range_with_len 0 n))) in
    rw (none, length-range_with_len, le-ltb n n (omega arith)) refl

-- a test of equality, from either side
pub eqb_flip : (a b : ℕ) → (a == b) ≡ (b == a)
eqb_flip a b = elim (eqb_tells a b) [ inl t ↦ t.0 ∙ sym (eq-eqb b a (sym t.1)) | inr t ↦ t.0 ∙ sym (ne_eqb b a (λ e. t.1 (sym e))) ]

-- two tests that agree pass first at the same place
pub position_agree : {X : Type 0} (p q : X → Bool) (xs : List X) → ((x : X) → p x ≡ q x) → position p xs ≡ position q xs
position_agree p q xs same = ap (λ test. position test xs) (λ i x. same x i)

-- where identifiers are listed, they are those
pub identifiers_listed : (n : ℕ) (listed : List ℕ) → 0 < length listed → identifiers_of n listed ≡ listed
unfolding identifiers_of
identifiers_listed n [] h = absurd (omega arith)
identifiers_listed n (id ∷ others) h = refl

-- where none is listed, they are the places
pub identifiers_unlisted : (n : ℕ) (listed : List ℕ) → length listed ≡ 0 → identifiers_of n listed ≡ range_with_len 0 n
unfolding identifiers_of
identifiers_unlisted n [] h = refl
identifiers_unlisted n (id ∷ others) h = absurd (omega arith)

-- where an identifier stands among those listed
pub position_listed : (n : ℕ) (listed : List ℕ) (id : ℕ) → 0 < length listed → position (λ k. id == k) listed ≡ position (λ x. x == id) (identifiers_of n listed)
position_listed n listed id h =
    position_agree (λ k. id == k) (λ x. x == id) listed (λ x. eqb_flip id x) ∙ sym (ap (position (λ x. x == id)) (identifiers_listed n listed h))
