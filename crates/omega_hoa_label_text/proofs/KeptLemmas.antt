-- What is kept of definitions: the nodes of what they mean.
use Rattle.std.proofs.Common.{◌≡◌, ℕ, ◌<◌, zero, suc, List, [], ◌∷◌, ◌++◌, Option, Some, None, option_map, IsSome, length, map, take, get_or, ap, subst, sym, ◌∙◌, append-nil, append_assoc, refl, arith}
use Rattle.std.proofs.lemmas.Bool.{false≢true}
use Rattle.omega_hoa_label_text.specs.Expanding.{Entry, Meaning, entries_of, extent_of, replaced}
use Rattle.omega_hoa_label.specs.Raw.{RawLabelTree}
use Rattle.omega_hoa_label_text.specs.private.Aliases.{defined_of}
use Rattle.omega_hoa_label_text.specs.private.Emitting.{AllKept, IsBodyAt, IsKept, nodes_of}
use Rattle.omega_hoa_label_text.specs.declared.aliases.Definition.{Definition}
use Rattle.omega_hoa_label_text.specs.declared.extents.Extent.{Extent}
use Rattle.omega_hoa_label.specs.declared.label.LabelNode.{LabelNode}
use Rattle.omega_hoa_label_text.proofs.EntryLemmas.{entry_of}

-- what has an extent means something
pub measured-some : (meaning : Option Meaning) (extent : Extent) → Some extent ≡ option_map extent_of meaning → IsSome meaning
measured-some None extent is = absurd (some-none is)
  where
    some-none : {one : Extent} → Some one ≡ None → ⊥
    some-none e = cc
measured-some (Some meaning) extent is = refl

-- the nodes of a meaning may be kept
pub kept-of : (nodes : List LabelNode) (meaning : Option Meaning) → IsSome meaning → nodes ≡ nodes_of meaning → IsKept (Some nodes) meaning
kept-of nodes None some is = absurd (false≢true some)
kept-of nodes (Some meaning) some is = is

-- and what is kept are they
pub kept-nodes : (nodes : List LabelNode) (meaning : Option Meaning) → IsKept (Some nodes) meaning → nodes ≡ nodes_of meaning
kept-nodes nodes None is = absurd is
kept-nodes nodes (Some meaning) is = is

-- what is kept with one more
pub AllKept-push : (kept : List (Option (List LabelNode))) (entries : List Entry) (last : Option (List LabelNode)) (entry : Entry)
    → AllKept kept entries → IsKept last entry.meaning → AllKept (kept ++ last ∷ []) (entries ++ entry ∷ [])
AllKept-push [] [] last entry all is = (is, tt)
AllKept-push [] (next ∷ entries) last entry all is = absurd all
AllKept-push (first ∷ kept) [] last entry all is = absurd all
AllKept-push (first ∷ kept) (next ∷ entries) last entry all is = (all.0, AllKept-push kept entries last entry all.1 is)

same-body : {one other : RawLabelTree} → Some one ≡ Some other → one ≡ other
same-body e = cc

-- what is kept at a place are the nodes of what the definition there means after those before it
pub kept-at : (before : List Entry) (items : List Definition) (place : ℕ) (d : Definition) (nodes : List LabelNode) (body : RawLabelTree)
    → AllKept (map (λ d. d.expanded) items) (entries_of before (map defined_of items)) → place < length items → (get_or items place d).expanded ≡ Some nodes
    → IsBodyAt (map defined_of items) place body → nodes ≡ nodes_of (replaced (before ++ take place (entries_of before (map defined_of items))) body)
kept-at before [] place d nodes body all within kept is = absurd (omega arith)
kept-at before (next ∷ items) zero d nodes body all within kept is =
    kept-nodes nodes (replaced before next.body) (subst (λ k. IsKept k (replaced before next.body)) kept all.0)
    ∙ (ap (λ tree. nodes_of (replaced before tree)) (same-body is) ∙ ap (λ entries. nodes_of (replaced entries body)) (sym (append-nil before)))
kept-at before (next ∷ items) (suc place) d nodes body all within kept is =
    let entry = entry_of before (defined_of next) in
    kept-at (before ++ entry ∷ []) items place d nodes body all.1 (omega arith) kept is
    ∙ ap (λ entries. nodes_of (replaced entries body)) (append_assoc before (entry ∷ []) (take place (entries_of (before ++ entry ∷ []) (map defined_of items))))
