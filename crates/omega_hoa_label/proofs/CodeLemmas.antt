-- Nodes as bytes: one more of them, and that a byte stands for the node that it is of.
use Rattle.std.proofs.Common.{◌≡◌, ◌<◌, ◌+◌, ◌++◌, ◌&&◌, ◌||◌, ◌∷◌, [], ℕ, Bool, List, Some, ap, false, get_or, length, map, refl, rules, set, sym, take, true, ◌∙◌}
use Rattle.std.proofs.lemmas.List.{map_more, map_push, take_more, take_more_set}
use Rattle.std.specs.Prelude.{◌==◌, if◌then◌else◌}
use Rattle.std.specs.List.{list_all, list_any}
use Rattle.omega_hoa_label.specs.Bare.{is_alias}
use Rattle.omega_hoa_label.specs.private.layout.Codes.{code_of, node_of}
use Rattle.omega_hoa_label.specs.declared.label.LabelNode.{LabelNode}
use Rattle.omega_hoa_label.specs.declared.label.LabelNode.TheVariants.{Alias, And, Constant, Group, Not, Or, Proposition}

-- one node more is unpacked
pub unpacked_more : (codes : List ℕ) (room : List LabelNode) (at : ℕ) (next : LabelNode) → at < length codes → at < length room
    → next ≡ node_of (get_or codes at 0) → take at room ≡ map node_of (take at codes)
    → take (at + 1) (set room at next) ≡ map node_of (take (at + 1) codes)
unpacked_more codes room at next within fits is before =
    take_more_set room at next fits
    ∙ (ap (λ front. front ++ next ∷ []) before
    ∙ (ap (λ node. map node_of (take at codes) ++ node ∷ []) is
    ∙ sym (map_more node_of codes at 0 within)))

-- the byte of a node stands for it
pub node_of-code : (node : LabelNode) (code : ℕ) → code_of node ≡ Some code → node_of code ≡ node
node_of-code (Constant true) code is = search rules
node_of-code (Constant false) code is = search rules
node_of-code (Proposition number) code is = search rules
node_of-code (Alias count) code is = search rules
node_of-code Not code is = search rules
node_of-code And code is = search rules
node_of-code Or code is = search rules
node_of-code Group code is = search rules

-- one byte more is put there
pub coded_more : (nodes : List LabelNode) (codes : List ℕ) (at : ℕ) (code : ℕ) (d : LabelNode) → at < length nodes → at < length codes
    → code_of (get_or nodes at d) ≡ Some code → map node_of (take at codes) ≡ take at nodes
    → map node_of (take (at + 1) (set codes at code)) ≡ take (at + 1) nodes
coded_more nodes codes at code d within fits is before =
    ap (map node_of) (take_more_set codes at code fits)
    ∙ (map_push node_of (take at codes) code
    ∙ (ap (λ front. front ++ node_of code ∷ []) before
    ∙ (ap (λ node. take at nodes ++ node ∷ []) (node_of-code (get_or nodes at d) code is)
    ∙ sym (take_more nodes at d within))))

if_no_alias : (on : Bool) (one other : LabelNode) → is_alias one ≡ false → is_alias other ≡ false → is_alias (if on then one else other) ≡ false
if_no_alias true one other first second = first
if_no_alias false one other first second = second

-- no byte stands for an alias
no_alias-node_of : (code : ℕ) → is_alias (node_of code) ≡ false
no_alias-node_of code =
    if_no_alias (code == 250) _ _ refl (if_no_alias (code == 251) _ _ refl (if_no_alias (code == 252) _ _ refl
    (if_no_alias (code == 253) _ _ refl (if_no_alias (code == 254) _ _ refl (if_no_alias (code == 255) _ _ refl refl)))))

-- so none stands among the nodes of bytes
pub no_alias-codes : (codes : List ℕ) → list_any is_alias (map node_of codes) ≡ false
no_alias-codes [] = refl
no_alias-codes (code ∷ codes) = ap (λ any. any || list_any is_alias (map node_of codes)) (no_alias-node_of code) ∙ no_alias-codes codes

-- what holds of the nodes of bytes
pub list_all-codes : (test : LabelNode → Bool) (codes : List ℕ) → list_all (λ code. test (node_of code)) codes ≡ list_all test (map node_of codes)
list_all-codes test [] = refl
list_all-codes test (code ∷ codes) = ap (λ rest. test (node_of code) && rest) (list_all-codes test codes)
