-- Specifications of the nodes of a game, added one part after another.
use Rattle.std.proofs.Common.{◌≡◌, ℕ, ◌+◌, ◌<◌, ◌≤◌, Bool, true, false, cond, Option, Some, None, List, [], ◌∷◌, ◌++◌, length, map, filter, take, get_or, All, IfSome, refl, sym, ap, ◌∙◌, subst, arith}
use Rattle.std.proofs.lemmas.List.{take_more, map-append, append-nil}
use Rattle.std.proofs.lemmas.List.Elements.{Contains-get_or, filter-append}
use Rattle.std.proofs.lemmas.List.FromFn.{map-range_with_len_more}
use Rattle.std.specs.List.{range_with_len}
use Rattle.omega_text.specs.Limits.{most_number}
use Rattle.omega_game_values.specs.declared.node_spec.NodeSpec.{NodeSpec}
use Rattle.omega_game_values.specs.Game.{Node, IsGame, IsWithinLimits, IsNameByte, node_at, no_node, successors_at}
use Rattle.omega_game_values.specs.Building.{specified, with_last, with_name, with_successor}
use Rattle.omega_game_values.proofs.building.Collecting.{with_last-push}

-- the specification of a node with these successors and no name
abbrev pub with_list : List Node → Node → List ℕ → NodeSpec
with_list nodes node list = record (specified nodes node) { successors = map (λ v. (node_at nodes v).identifier) list; name = None }

-- one successor more
pub successor_added : (nodes : List Node) (node : Node) (specs : List NodeSpec) (list : List ℕ) (i : ℕ) → i < length list
    → with_last (with_successor (node_at nodes (get_or list i 0)).identifier) (specs ++ with_list nodes node (take i list) ∷ []) ≡ specs ++ with_list nodes node (take (i + 1) list) ∷ []
successor_added nodes node specs list i within =
    with_last-push (with_successor (node_at nodes (get_or list i 0)).identifier) specs (with_list nodes node (take i list))
    ∙ ap (λ (ids : List ℕ). specs ++ record (with_list nodes node list) { successors = ids } ∷ [])
    (sym (ap (map (λ v. (node_at nodes v).identifier)) (take_more list i 0 within) ∙ map-append (λ v. (node_at nodes v).identifier) (take i list) (get_or list i 0 ∷ [])))

-- the name added
pub name_added : (nodes : List Node) (node : Node) (specs : List NodeSpec) (name : List ℕ) → node.name ≡ Some name
    → with_last (with_name name) (specs ++ record (specified nodes node) { name = None } ∷ []) ≡ specs ++ specified nodes node ∷ []
name_added nodes node specs name is =
    with_last-push (with_name name) specs (record (specified nodes node) { name = None })
    ∙ ap (λ (other : Option (List ℕ)). specs ++ record (specified nodes node) { name = other } ∷ []) (sym is)

-- no name to add
pub no_name_added : (nodes : List Node) (node : Node) (specs : List NodeSpec) → node.name ≡ None
    → specs ++ record (specified nodes node) { name = None } ∷ [] ≡ specs ++ specified nodes node ∷ []
no_name_added nodes node specs is = ap (λ (other : Option (List ℕ)). specs ++ record (specified nodes node) { name = other } ∷ []) (sym is)

-- a node listed as a successor has an identifier within the limits
pub successor_within : (nodes : List Node) (v : ℕ) (i : ℕ) → IsGame nodes → IsWithinLimits nodes → i < length (successors_at nodes v)
    → (get_or (successors_at nodes v) i 0 < length nodes) × ((node_at nodes (get_or (successors_at nodes v) i 0)).identifier ≤ most_number)
successor_within nodes v i game limits within =
    let node : get_or (successors_at nodes v) i 0 < length nodes = game.closed v (get_or (successors_at nodes v) i 0) (Contains-get_or (successors_at nodes v) i 0 within) in
    (node, (limits.writable (get_or (successors_at nodes v) i 0) no_node node).identifier)

-- a name is of the allowed bytes
pub name_bytes : (nodes : List Node) (v : ℕ) (name : List ℕ) → IsWithinLimits nodes → v < length nodes → (node_at nodes v).name ≡ Some name → All IsNameByte name
name_bytes nodes v name limits within is = subst (λ (other : Option (List ℕ)). IfSome other (All IsNameByte)) is (limits.writable v no_node within).name

-- a list under the function that changes nothing
unchanged : (xs : List ℕ) → map (λ x. x) xs ≡ xs
unchanged [] = refl
unchanged (x ∷ xs) = ap (λ (others : List ℕ). x ∷ others) (unchanged xs)

-- one place more
one_more : (n : ℕ) → range_with_len 0 (n + 1) ≡ range_with_len 0 n ++ n ∷ []
one_more n =
    sym (unchanged (range_with_len 0 (n + 1))) ∙ map-range_with_len_more (λ x. x) 0 n n (omega arith) ∙ ap (λ (places : List ℕ). places ++ n ∷ []) (unchanged (range_with_len 0 n))

-- the specifications of the places that pass a test, one place more
specified_more : (p : ℕ → Bool) (spec : ℕ → NodeSpec) (n : ℕ)
    → map spec (filter p (range_with_len 0 (n + 1))) ≡ map spec (filter p (range_with_len 0 n)) ++ cond (p n) (spec n ∷ []) []
specified_more p spec n =
    ap (λ (places : List ℕ). map spec (filter p places)) (one_more n)
    ∙ ap (map spec) (filter-append p (range_with_len 0 n) (n ∷ []))
    ∙ map-append spec (filter p (range_with_len 0 n)) (filter p (n ∷ []))
    ∙ ap (λ (last : List NodeSpec). map spec (filter p (range_with_len 0 n)) ++ last) (go (p n))
  where
    go : (b : Bool) → map spec (cond b (n ∷ []) []) ≡ cond b (spec n ∷ []) []
    go true = refl
    go false = refl

-- a place more that passes
pub specified_passing : (p : ℕ → Bool) (spec : ℕ → NodeSpec) (n : ℕ) → p n ≡ true
    → map spec (filter p (range_with_len 0 (n + 1))) ≡ map spec (filter p (range_with_len 0 n)) ++ spec n ∷ []
specified_passing p spec n is = specified_more p spec n ∙ ap (λ b. map spec (filter p (range_with_len 0 n)) ++ cond b (spec n ∷ []) []) is

-- a place more that fails
pub specified_failing : (p : ℕ → Bool) (spec : ℕ → NodeSpec) (n : ℕ) → p n ≡ false
    → map spec (filter p (range_with_len 0 (n + 1))) ≡ map spec (filter p (range_with_len 0 n))
specified_failing p spec n is =
    specified_more p spec n ∙ ap (λ b. map spec (filter p (range_with_len 0 n)) ++ cond b (spec n ∷ []) []) is ∙ append-nil (map spec (filter p (range_with_len 0 n)))
