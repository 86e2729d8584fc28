-- Names among definitions: by their place, and by a test.
use Rattle.std.proofs.Common.{◌≡◌, ℕ, suc, ◌<◌, ◌≤◌, Bool, true, false, cond, ◌||◌, List, [], ◌∷◌, length, is_none, refl, arith}
use Rattle.std.specs.Str.{bytes_eq}
use Rattle.omega_text.specs.declared.refusal.Refusal.{Refusal}
use Rattle.omega_text.specs.declared.refusal.Refusal.TheVariants.{Automaton, Circuit, Game, Io, Memory, Task, Text}
use Rattle.omega_hoa_label_text.specs.Expanding.{Defined, IsRepeated, expansion, place_among}
use Rattle.omega_hoa_label.specs.Raw.{RawLabelTree}
use Rattle.omega_hoa_automaton.specs.declared.making.definitions.Definitions.{Definitions}
use Rattle.omega_hoa_automaton.specs.private.layout.Definitions.{IsUndefinable, is_named}

-- a name whose place is among the definitions is there
pub named_by_place : (definitions : List Defined) (name : List ℕ) → place_among definitions name < length definitions → is_named definitions name ≡ true
named_by_place [] name within = absurd (omega arith)
named_by_place (next ∷ rest) name within = by_test (bytes_eq name next.name) (named_by_place rest name) within
  where
    by_test : (b : Bool) → (place_among rest name < length rest → is_named rest name ≡ true) → cond b 0 (suc (place_among rest name)) < length (next ∷ rest) → (b || is_named rest name) ≡ true
    by_test true later h = refl
    by_test false later h = later (omega arith)

-- a name whose place is after the definitions is not there
pub unnamed_by_place : (definitions : List Defined) (name : List ℕ) → length definitions ≤ place_among definitions name → is_named definitions name ≡ false
unnamed_by_place [] name following = refl
unnamed_by_place (next ∷ rest) name following = by_test (bytes_eq name next.name) (unnamed_by_place rest name) following
  where
    by_test : (b : Bool) → (length rest ≤ place_among rest name → is_named rest name ≡ false) → length (next ∷ rest) ≤ cond b 0 (suc (place_among rest name)) → (b || is_named rest name) ≡ false
    by_test true later h = absurd (omega arith)
    by_test false later h = later (omega arith)

-- either of two tests
either : (a b : Bool) → a ≡ true → (a || b) ≡ true
either true b h = refl
either false true h = refl
either false false h = h

-- what is refused because the name is there
pub undefinable_by_name : (old : Definitions) (name : List ℕ) (body : RawLabelTree) (refusal : Refusal) → IsRepeated old.aliases name refusal → IsUndefinable old name body refusal
undefinable_by_name old name body (Text fault) refused = refused
undefinable_by_name old name body (Game fault) refused = refused
undefinable_by_name old name body (Circuit fault) refused = refused
undefinable_by_name old name body (Automaton fault) refused =
    (refused.0, either (is_named old.aliases name) (is_none (expansion old.aliases body)) (named_by_place old.aliases name refused.1))
undefinable_by_name old name body (Task fault) refused = refused
undefinable_by_name old name body Memory refused = refused
undefinable_by_name old name body Io refused = refused
