-- A meaning without fault, and the label of its nodes.
use Rattle.std.proofs.Common.{◌≡◌, Bool, true, false, cond, ltb, List, Option, Some, None, option_map, IsSome, ap, refl, sym, arith}
use Rattle.std.proofs.lemmas.Bool.{ltb-false}
use Rattle.omega_text.specs.declared.refusal.automaton.AutomatonFault.{AutomatonFault}
use Rattle.omega_text.specs.declared.refusal.automaton.AutomatonFault.TheVariants.{Expansion, TooDeep}
use Rattle.omega_hoa_label_text.specs.Expanding.{Defined, IsExpansion, Meaning, expansion, fault_of_meaning}
use Rattle.omega_hoa_label.specs.Label.{LabelTree, label_size}
use Rattle.omega_hoa_label.specs.Raw.{RawLabelTree}
use Rattle.omega_hoa_label.specs.Postfix.{IsShallowInPostfix, postfix}
use Rattle.omega_hoa_label_text.specs.private.Emitting.{nodes_of}
use Rattle.omega_hoa_label_text.proofs.EntryLemmas.{IsShallow}
use Rattle.omega_hoa_label.specs.declared.label.LabelNode.{LabelNode}

some-none : {fault : AutomatonFault} → Some fault ≡ None → ⊥
some-none e = cc

pub deep-none : (b : Bool) (rest : Option AutomatonFault) → cond b (Some TooDeep) rest ≡ None → b ≡ false
deep-none true rest e = absurd (some-none e)
deep-none false rest e = refl

-- a meaning without fault is there
pub sound-some : (meaning : Option Meaning) → fault_of_meaning meaning ≡ None → IsSome meaning
sound-some None sound = absurd (some-none sound)
sound-some (Some meaning) sound = refl

-- its nodes are a label, which is not too deep
pub IsLabel-sound : (meaning : Option Meaning) (nodes : List LabelNode) → fault_of_meaning meaning ≡ None → IsShallow meaning → nodes ≡ nodes_of meaning → IsShallowInPostfix nodes
IsLabel-sound None nodes sound shallow is = absurd (some-none sound)
IsLabel-sound (Some meaning) nodes sound shallow is =
    let within = ltb-false 256 meaning.depth (deep-none (ltb 256 meaning.depth) (cond (ltb 65536 (label_size meaning.tree)) (Some Expansion) None) sound) in
    record { tree = meaning.tree; flat = is; shallow = omega (arith, within, shallow) }

-- and its tree is theirs
tree-sound : (meaning : Option Meaning) (nodes : List LabelNode) (label : LabelTree) → fault_of_meaning meaning ≡ None → nodes ≡ nodes_of meaning
    → ((tree : LabelTree) → nodes ≡ postfix tree → label ≡ tree) → option_map (λ (m : Meaning). m.tree) meaning ≡ Some label
tree-sound None nodes label sound is theirs = absurd (some-none sound)
tree-sound (Some meaning) nodes label sound is theirs = ap Some (sym (theirs meaning.tree is))

-- what is made of the nodes of what a label means is its expansion
pub expansion-made : (definitions : List Defined) (raw : RawLabelTree) (nodes : List LabelNode) → fault_of_meaning (expansion definitions raw) ≡ None
    → nodes ≡ nodes_of (expansion definitions raw) → (label : LabelTree) → ((tree : LabelTree) → nodes ≡ postfix tree → label ≡ tree)
    → IsExpansion definitions raw label
expansion-made definitions raw nodes sound is label theirs = record { sound = sound; tree_is = tree-sound (expansion definitions raw) nodes label sound is theirs }
