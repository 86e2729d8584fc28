-- Aliases with one more, or as they were.
use Rattle.std.proofs.Common.{◌≡◌, ℕ, false, cond, List, [], ◌∷◌, ◌++◌, option_map, Result, Ok, Err, map, ap, subst, sym, ◌∙◌, Vec, OnOk, OnErr}
use Rattle.std.specs.Global.{Global}
use Rattle.std.specs.List.{list_any}
use Rattle.std.specs.Str.{bytes_eq}
use Rattle.std.proofs.lemmas.Bool.{cond-false}
use Rattle.std.proofs.lemmas.List.{map-append}
use Rattle.omega_text.specs.declared.refusal.Refusal.{Refusal}
use Rattle.omega_hoa_label_text.specs.Expanding.{Entry, entries_of, expansion, extent_of}
use Rattle.omega_hoa_label_text.specs.private.Aliases.{defined_of}
use Rattle.omega_hoa_label_text.specs.private.Emitting.{AllKept, IsKept}
use Rattle.omega_hoa_label_text.specs.declared.aliases.Definition.{Definition}
use Rattle.omega_hoa_label_text.proofs.EntryLemmas.{entries_of-push, entry_of}
use Rattle.omega_hoa_label_text.proofs.KeptLemmas.{AllKept-push}

-- a key that is not among others is put last
pub key-put : (keys new : List (Vec ℕ Global)) (key : Vec ℕ Global) (name : List ℕ)
    → new ≡ cond (list_any (λ other. bytes_eq key.items other.items) keys) keys (keys ++ key ∷ []) → key.items ≡ name
    → list_any (λ other. bytes_eq name other.items) keys ≡ false
    → map (λ (k : Vec ℕ Global). k.items) new ≡ map (λ (k : Vec ℕ Global). k.items) keys ++ name ∷ []
key-put keys new key name put is absent =
    let apart = ap (λ n. list_any (λ (other : Vec ℕ Global). bytes_eq n other.items) keys) is ∙ absent in
    ap (map (λ (k : Vec ℕ Global). k.items)) (put ∙ cond-false (list_any (λ (other : Vec ℕ Global). bytes_eq key.items other.items) keys) keys (keys ++ key ∷ []) apart)
    ∙ (map-append (λ (k : Vec ℕ Global). k.items) keys (key ∷ []) ∙ ap (λ n. map (λ (k : Vec ℕ Global). k.items) keys ++ n ∷ []) is)

-- what aliases keep: the set has the names in order, and each definition its extent, and its nodes if any are kept
pub record Keeps (names : List (List ℕ)) (items : List Definition) : Type 0 where
  pub named : names ≡ map (λ d. d.name) items
  pub measured : map (λ d. d.extent) items ≡ map (λ entry. option_map extent_of entry.meaning) (entries_of [] (map defined_of items))
  pub kept : AllKept (map (λ d. d.expanded) items) (entries_of [] (map defined_of items))

-- it is kept with one more
pub Keeps-push : (names new : List (List ℕ)) (items more : List Definition) (last : Definition) → Keeps names items
    → new ≡ names ++ last.name ∷ [] → more ≡ items ++ last ∷ []
    → last.extent ≡ option_map extent_of (expansion (map defined_of items) last.body) → IsKept last.expanded (expansion (map defined_of items) last.body)
    → Keeps new more
Keeps-push names new items more last keeps named pushed measured kept = record {
  named = named ∙ (ap (λ ns. ns ++ last.name ∷ []) keeps.named
      ∙ (sym (map-append (λ (d : Definition). d.name) items (last ∷ [])) ∙ ap (map (λ (d : Definition). d.name)) (sym pushed)));
  measured =
      ap (map (λ (d : Definition). d.extent)) pushed
      ∙ (map-append (λ (d : Definition). d.extent) items (last ∷ [])
      ∙ (ap (λ xs. xs ++ last.extent ∷ []) keeps.measured
      ∙ (ap (λ x. map (λ (entry : Entry). option_map extent_of entry.meaning) (entries_of [] (map defined_of items)) ++ x ∷ []) measured
      ∙ (sym (map-append (λ (entry : Entry). option_map extent_of entry.meaning) (entries_of [] (map defined_of items)) (entry_of (entries_of [] (map defined_of items)) (defined_of last) ∷ []))
      ∙ (ap (map (λ (entry : Entry). option_map extent_of entry.meaning)) (sym (entries_of-push [] (map defined_of items) (defined_of last)))
      ∙ ap (λ ds. map (λ (entry : Entry). option_map extent_of entry.meaning) (entries_of [] ds))
      (sym (map-append defined_of items (last ∷ [])) ∙ ap (map defined_of) (sym pushed)))))));
  kept =
      let nodes = map (λ (d : Definition). d.expanded) items in
      subst (λ ds. AllKept (map (λ (d : Definition). d.expanded) ds) (entries_of [] (map defined_of ds))) (sym pushed)
      (subst (λ ns. AllKept ns (entries_of [] (map defined_of (items ++ last ∷ [])))) (sym (map-append (λ (d : Definition). d.expanded) items (last ∷ [])))
      (subst (λ ds. AllKept (nodes ++ last.expanded ∷ []) (entries_of [] ds)) (sym (map-append defined_of items (last ∷ [])))
      (subst (AllKept (nodes ++ last.expanded ∷ [])) (sym (entries_of-push [] (map defined_of items) (defined_of last)))
      (AllKept-push nodes (entries_of [] (map defined_of items)) last.expanded (entry_of (entries_of [] (map defined_of items)) (defined_of last)) keeps.kept kept))));
}

-- whichever way it went
pub Keeps-put : {T : Type 0} (result : Result T Refusal) (names new : List (List ℕ)) (items more : List Definition) (last : Definition) → Keeps names items
    → OnOk result (new ≡ names ++ last.name ∷ []) → OnOk result (more ≡ items ++ last ∷ [])
    → OnErr result (new ≡ names) → OnErr result (more ≡ items)
    → last.extent ≡ option_map extent_of (expansion (map defined_of items) last.body) → IsKept last.expanded (expansion (map defined_of items) last.body)
    → Keeps new more
Keeps-put (Ok done) names new items more last keeps named pushed same_names same_items measured kept =
    Keeps-push names new items more last keeps named pushed measured kept
Keeps-put (Err fault) names new items more last keeps named pushed same_names same_items measured kept = record {
  named = same_names ∙ (keeps.named ∙ ap (map (λ (d : Definition). d.name)) (sym same_items));
  measured = ap (map (λ (d : Definition). d.extent)) same_items
      ∙ (keeps.measured ∙ ap (λ ds. map (λ (entry : Entry). option_map extent_of entry.meaning) (entries_of [] (map defined_of ds))) (sym same_items));
  kept = subst (λ ds. AllKept (map (λ (d : Definition). d.expanded) ds) (entries_of [] (map defined_of ds))) (sym same_items) keeps.kept;
}
