-- What a builder keeps, with a specification, a successor or a name more.
use Rattle.std.proofs.Common.{◌≡◌, ℕ, suc, ◌+◌, ◌-◌, ◌<◌, ◌≤◌, ◌≢◌, inl, inr, Option, Some, None, List, [], ◌∷◌, ◌++◌, length, map, All, set, get_or, refl, sym, ◌∙◌, ap, subst, arith}
use Rattle.std.specs.Prelude.{Result, Ok, Err, OnErr}
use Rattle.std.specs.List.{range_with_len}
use Rattle.std.proofs.lemmas.Bool.{cases_lt}
use Rattle.std.proofs.lemmas.List.{same_lists, get_or_append_left, get_or_push, get_or_past, get_or_default, length_push, get_or-set_same, get_or-set_other, length-set, length-map, get_or-map}
use Rattle.std.specs.List.Sorted.{IsPermutation}
use Rattle.std.proofs.lemmas.List.Sorted.{IsPermutation-map, All-permutation}
use Rattle.std.proofs.lemmas.List.Elements.{All-nil, All-set, All-push}
use Rattle.std.proofs.lemmas.List.FromFn.{length-range_with_len, get_or-range_with_len, length-map-range_with_len, get_or-map-range_with_len}
use Rattle.omega_text.specs.Limits.{most_number}
use Rattle.omega_game_values.specs.declared.player.Player.{Player}
use Rattle.omega_game_values.specs.declared.player.Player.TheVariants.{Zero}
use Rattle.omega_game_values.specs.declared.node_spec.NodeSpec.{NodeSpec}
use Rattle.omega_game_values.specs.Game.{IsNameByte}
use Rattle.omega_game_values.specs.Building.{IsWellFormed, with_last, with_successor, with_name}
use Rattle.omega_game_values.specs.private.layout.Collected.{AreCollected, ids_of}
use Rattle.omega_game_values.specs.private.layout.Columns.{Columns, AreEven, collected, spec_in, specs_of}

-- there is a specification for each identifier
pub length-specs_of : (columns : Columns) → length (specs_of columns) ≡ length columns.identifiers
unfolding specs_of
length-specs_of columns = length-map-range_with_len (spec_in columns) 0 (length columns.identifiers)

-- the specification at an index
pub get_or-specs_of : (columns : Columns) (k : ℕ) (d : NodeSpec) → k < length columns.identifiers → get_or (specs_of columns) k d ≡ spec_in columns k
unfolding specs_of
get_or-specs_of columns k d h = get_or-map-range_with_len (spec_in columns) 0 (length columns.identifiers) k k d h (omega arith)

-- the specifications are those of a list of as many, where each is the one there
pub specs_of_is : (columns : Columns) (specs : List NodeSpec) → length specs ≡ length columns.identifiers
    → ((k : ℕ) (d : NodeSpec) → k < length columns.identifiers → spec_in columns k ≡ get_or specs k d) → specs_of columns ≡ specs
specs_of_is columns specs size same =
    same_lists (specs_of columns) specs (length-specs_of columns ∙ sym size)
    (λ k d h. let within : k < length columns.identifiers = omega (arith, length-specs_of columns) in get_or-specs_of columns k d within ∙ same k d within)

-- columns with the same entries at an index have the same specification there
pub spec_same : (one other : Columns) (k : ℕ)
    → get_or one.identifiers k 0 ≡ get_or other.identifiers k 0
    → get_or one.priorities k 0 ≡ get_or other.priorities k 0
    → get_or one.owners k Zero ≡ get_or other.owners k Zero
    → get_or one.successors k [] ≡ get_or other.successors k []
    → get_or one.quoted k [] ≡ get_or other.quoted k []
    → spec_in one k ≡ spec_in other k
unfolding spec_in
spec_same one other k a b c d e = rw (a, b, c, d, e) refl

-- no specification is one that a builder keeps
pub AreCollected-none : AreCollected (collected [] [] [] [] [])
unfolding specs_of
AreCollected-none = record {
  even = record { priorities_even = refl; owners_even = refl; successors_even = refl; quoted_within = omega arith };
  well_formed = All-nil IsWellFormed;
}

-- a specification more at the end
pub specs_of-push : (ids ranks : List ℕ) (owners : List Player) (lists quoted : List (List ℕ)) (id rank : ℕ) (owner : Player) (list : List ℕ)
    → AreEven (collected ids ranks owners lists quoted)
    → specs_of (collected (ids ++ id ∷ []) (ranks ++ rank ∷ []) (owners ++ owner ∷ []) (lists ++ list ∷ []) quoted)
    ≡ specs_of (collected ids ranks owners lists quoted) ++ record { id = id; priority = rank; owner = owner; successors = list; name = None } ∷ []
unfolding spec_in
specs_of-push ids ranks owners lists quoted id rank owner list even =
    specs_of_is after (specs_of before ++ spec ∷ [])
    (length_push (specs_of before) spec ∙ ap (λ n. n + 1) (length-specs_of before) ∙ sym (length_push ids id))
    (λ k d h. elim (cases_lt k (length ids)) [
      | inl l ↦ spec_same after before k
          (get_or_append_left ids (id ∷ []) 0 k l)
          (get_or_append_left ranks (rank ∷ []) 0 k (omega (arith, even.priorities_even)))
          (get_or_append_left owners (owner ∷ []) Zero k (omega (arith, even.owners_even)))
          (get_or_append_left lists (list ∷ []) [] k (omega (arith, even.successors_even)))
          refl
          ∙ sym (get_or_append_left (specs_of before) (spec ∷ []) d k (omega (arith, length-specs_of before)) ∙ get_or-specs_of before k d l)
      | inr l ↦ let e : k ≡ length ids = omega (arith, length_push ids id) in
          last k e ∙ sym (get_or_push (specs_of before) spec d k (length-specs_of before ∙ sym e))
    ])
  where
    before : Columns
    before = collected ids ranks owners lists quoted

    after : Columns
    after = collected (ids ++ id ∷ []) (ranks ++ rank ∷ []) (owners ++ owner ∷ []) (lists ++ list ∷ []) quoted

    spec : NodeSpec
    spec = record { id = id; priority = rank; owner = owner; successors = list; name = None }

    last : (k : ℕ) → k ≡ length ids → spec_in after k ≡ spec
    last k e =
        let a : get_or (ids ++ id ∷ []) k 0 ≡ id = get_or_push ids id 0 k (sym e) in
        let b : get_or (ranks ++ rank ∷ []) k 0 ≡ rank = get_or_push ranks rank 0 k (even.priorities_even ∙ sym e) in
        let c : get_or (owners ++ owner ∷ []) k Zero ≡ owner = get_or_push owners owner Zero k (even.owners_even ∙ sym e) in
        let d : get_or (lists ++ list ∷ []) k [] ≡ list = get_or_push lists list [] k (even.successors_even ∙ sym e) in
        let f : get_or quoted k [] ≡ [] = get_or_past quoted k [] (omega (arith, even.quoted_within)) in
        rw (a, b, c, d, f) refl

-- even columns with an entry more in each
pub AreEven-push : (ids ranks : List ℕ) (owners : List Player) (lists quoted : List (List ℕ)) (id rank : ℕ) (owner : Player) (list : List ℕ)
    → AreEven (collected ids ranks owners lists quoted)
    → AreEven (collected (ids ++ id ∷ []) (ranks ++ rank ∷ []) (owners ++ owner ∷ []) (lists ++ list ∷ []) quoted)
AreEven-push ids ranks owners lists quoted id rank owner list even = record {
  priorities_even = length_push ranks rank ∙ ap (λ n. n + 1) even.priorities_even ∙ sym (length_push ids id);
  owners_even = length_push owners owner ∙ ap (λ n. n + 1) even.owners_even ∙ sym (length_push ids id);
  successors_even = length_push lists list ∙ ap (λ n. n + 1) even.successors_even ∙ sym (length_push ids id);
  quoted_within = omega (arith, even.quoted_within, length_push ids id);
}

-- to change the last specification is to write it anew
with_last-set : (change : NodeSpec → NodeSpec) (specs : List NodeSpec) (d : NodeSpec) → 0 < length specs
    → with_last change specs ≡ set specs (length specs - 1) (change (get_or specs (length specs - 1) d))
with_last-set change [] d h = absurd (omega arith)
with_last-set change (spec ∷ []) d h = refl
with_last-set change (spec ∷ next ∷ specs) d h =
    let down : length (spec ∷ next ∷ specs) - 1 ≡ suc (length (next ∷ specs) - 1) = omega arith in
    rw down (ap (λ others. spec ∷ others) (with_last-set change (next ∷ specs) d (omega arith)))

-- where only the last entry changes, the last specification is changed
pub specs_of-with_last : (before after : Columns) (change : NodeSpec → NodeSpec) → length after.identifiers ≡ length before.identifiers → 0 < length before.identifiers
    → ((k : ℕ) → k + 1 < length before.identifiers → spec_in after k ≡ spec_in before k)
    → ((k : ℕ) → k + 1 ≡ length before.identifiers → spec_in after k ≡ change (spec_in before k))
    → specs_of after ≡ with_last change (specs_of before)
specs_of-with_last before after change size some others last =
    specs_of_is after (with_last change (specs_of before)) (ap length written ∙ length-set (specs_of before) at spec ∙ length-specs_of before ∙ sym size)
    (λ k d h. elim (cases_lt (k + 1) (length before.identifiers)) [
      | inl l ↦ others k l ∙ sym (ap (λ (specs : List NodeSpec). get_or specs k d) written ∙ get_or-set_other (specs_of before) at k spec d (far k l) ∙ get_or-specs_of before k d (omega arith))
      | inr l ↦ let e : k ≡ at = omega (arith, length-specs_of before) in
          last k (omega arith) ∙ ap change (sym (get_or-specs_of before k (spec_in before 0) (omega arith)) ∙ ap (λ i. get_or (specs_of before) i (spec_in before 0)) e)
          ∙ sym (ap (λ (specs : List NodeSpec). get_or specs k d) written ∙ ap (λ i. get_or (set (specs_of before) at spec) i d) e ∙ get_or-set_same (specs_of before) at spec d (omega (arith, length-specs_of before)))
    ])
  where
    at : ℕ
    at = length (specs_of before) - 1

    spec : NodeSpec
    spec = change (get_or (specs_of before) at (spec_in before 0))

    far : (k : ℕ) → k + 1 < length before.identifiers → k ≢ at
    far k l = omega (arith, length-specs_of before)

    written : with_last change (specs_of before) ≡ set (specs_of before) at spec
    written = with_last-set change (specs_of before) (spec_in before 0) (omega (arith, length-specs_of before))

-- a successor more of the last specification
pub specs_of-successor : (ids ranks : List ℕ) (owners : List Player) (lists quoted : List (List ℕ)) (successor : ℕ)
    → AreEven (collected ids ranks owners lists quoted) → 0 < length ids
    → specs_of (collected ids ranks owners (set lists (length lists - 1) (get_or lists (length lists - 1) [] ++ successor ∷ [])) quoted)
    ≡ with_last (with_successor successor) (specs_of (collected ids ranks owners lists quoted))
unfolding spec_in
specs_of-successor ids ranks owners lists quoted successor even some =
    specs_of-with_last before after (with_successor successor) refl some
    (λ k l. spec_same after before k refl refl refl (get_or-set_other lists (length lists - 1) k longer [] (far k l)) refl)
    (λ k e. let at : k ≡ length lists - 1 = omega (arith, even.successors_even) in
    let there : get_or (set lists (length lists - 1) longer) k [] ≡ get_or lists k [] ++ successor ∷ [] =
    ap (λ i. get_or (set lists (length lists - 1) longer) i []) at ∙ get_or-set_same lists (length lists - 1) longer [] (omega (arith, even.successors_even)) ∙ ap (λ i. get_or lists i [] ++ successor ∷ []) (sym at) in
    rw there refl)
  where
    longer : List ℕ
    longer = get_or lists (length lists - 1) [] ++ successor ∷ []

    before : Columns
    before = collected ids ranks owners lists quoted

    after : Columns
    after = collected ids ranks owners (set lists (length lists - 1) longer) quoted

    far : (k : ℕ) → k + 1 < length ids → k ≢ length lists - 1
    far k l = omega (arith, even.successors_even)

-- a name of the last specification, where each has an entry for its name
pub specs_of-name : (ids ranks : List ℕ) (owners : List Player) (lists quoted padded : List (List ℕ)) (quote : ℕ) (name : List ℕ)
    → length padded ≡ length ids → 0 < length ids → ((v : ℕ) → get_or padded v [] ≡ get_or quoted v [])
    → specs_of (collected ids ranks owners lists (set padded (length padded - 1) (quote ∷ name)))
    ≡ with_last (with_name name) (specs_of (collected ids ranks owners lists quoted))
unfolding spec_in
specs_of-name ids ranks owners lists quoted padded quote name size some same =
    specs_of-with_last before after (with_name name) refl some
    (λ k l. spec_same after before k refl refl refl refl (get_or-set_other padded (length padded - 1) k (quote ∷ name) [] (far k l) ∙ same k))
    (λ k e. let at : k ≡ length padded - 1 = omega arith in
    let there : get_or (set padded (length padded - 1) (quote ∷ name)) k [] ≡ quote ∷ name =
    ap (λ i. get_or (set padded (length padded - 1) (quote ∷ name)) i []) at ∙ get_or-set_same padded (length padded - 1) (quote ∷ name) [] (omega arith) in
    rw there refl)
  where
    before : Columns
    before = collected ids ranks owners lists quoted

    after : Columns
    after = collected ids ranks owners lists (set padded (length padded - 1) (quote ∷ name))

    far : (k : ℕ) → k + 1 < length ids → k ≢ length padded - 1
    far k l = omega arith

-- entries for names that are not there change nothing
pub specs_of-pad : (ids ranks : List ℕ) (owners : List Player) (lists quoted padded : List (List ℕ))
    → ((v : ℕ) → get_or padded v [] ≡ get_or quoted v []) → specs_of (collected ids ranks owners lists padded) ≡ specs_of (collected ids ranks owners lists quoted)
specs_of-pad ids ranks owners lists quoted padded same =
    specs_of_is (collected ids ranks owners lists padded) (specs_of (collected ids ranks owners lists quoted)) (length-specs_of (collected ids ranks owners lists quoted))
    (λ k d h. spec_same (collected ids ranks owners lists padded) (collected ids ranks owners lists quoted) k refl refl refl refl (same k)
    ∙ sym (get_or-specs_of (collected ids ranks owners lists quoted) k d h))

-- a fact of each specification, where it is kept by the change of the last one
pub All-with_last : (P : NodeSpec → Type 0) (change : NodeSpec → NodeSpec) (specs : List NodeSpec) → ((spec : NodeSpec) → P spec → P (change spec)) → All P specs → All P (with_last change specs)
All-with_last P change [] kept all = all
All-with_last P change (spec ∷ specs) kept all =
    subst (All P) (sym (with_last-set change (spec ∷ specs) spec (omega arith)))
    (All-set P (spec ∷ specs) (length (spec ∷ specs) - 1) (change (get_or (spec ∷ specs) (length (spec ∷ specs) - 1) spec)) (kept (get_or (spec ∷ specs) (length (spec ∷ specs) - 1) spec) (all (length (spec ∷ specs) - 1) spec (omega arith))) all)

-- what a builder keeps, with a well-formed specification more
pub AreCollected-push : (ids ranks : List ℕ) (owners : List Player) (lists quoted : List (List ℕ)) (id rank : ℕ) (owner : Player) (list : List ℕ)
    → AreCollected (collected ids ranks owners lists quoted) → IsWellFormed (record { id = id; priority = rank; owner = owner; successors = list; name = None })
    → AreCollected (collected (ids ++ id ∷ []) (ranks ++ rank ∷ []) (owners ++ owner ∷ []) (lists ++ list ∷ []) quoted)
AreCollected-push ids ranks owners lists quoted id rank owner list kept well = record {
  even = AreEven-push ids ranks owners lists quoted id rank owner list kept.even;
  well_formed = subst (All IsWellFormed) (sym (specs_of-push ids ranks owners lists quoted id rank owner list kept.even))
      (All-push IsWellFormed (specs_of (collected ids ranks owners lists quoted)) (record { id = id; priority = rank; owner = owner; successors = list; name = None }) kept.well_formed well);
}

-- a specification with a successor more is well formed
IsWellFormed-with_successor : (successor : ℕ) → successor ≤ most_number → (spec : NodeSpec) → IsWellFormed spec → IsWellFormed (with_successor successor spec)
IsWellFormed-with_successor successor h spec well = record {
  id = well.id;
  priority = well.priority;
  successors = All-push (λ x. x ≤ most_number) spec.successors successor well.successors h;
  continued = omega (arith, length_push spec.successors successor);
  name = well.name;
}

-- a specification with a name of the allowed bytes is well formed
IsWellFormed-with_name : (name : List ℕ) → All IsNameByte name → (spec : NodeSpec) → IsWellFormed spec → IsWellFormed (with_name name spec)
IsWellFormed-with_name name h spec well = record { id = well.id; priority = well.priority; successors = well.successors; continued = well.continued; name = h }

-- what a builder keeps, with a successor more of the last specification
pub AreCollected-successor : (ids ranks : List ℕ) (owners : List Player) (lists quoted : List (List ℕ)) (successor : ℕ) → successor ≤ most_number
    → AreCollected (collected ids ranks owners lists quoted) → 0 < length ids
    → AreCollected (collected ids ranks owners (set lists (length lists - 1) (get_or lists (length lists - 1) [] ++ successor ∷ [])) quoted)
AreCollected-successor ids ranks owners lists quoted successor h kept some = record {
  even = record {
    priorities_even = kept.even.priorities_even;
    owners_even = kept.even.owners_even;
    successors_even = length-set lists (length lists - 1) (get_or lists (length lists - 1) [] ++ successor ∷ []) ∙ kept.even.successors_even;
    quoted_within = kept.even.quoted_within;
  };
  well_formed = subst (All IsWellFormed) (sym (specs_of-successor ids ranks owners lists quoted successor kept.even some))
      (All-with_last IsWellFormed (with_successor successor) (specs_of (collected ids ranks owners lists quoted)) (IsWellFormed-with_successor successor h) kept.well_formed);
}

-- what a builder keeps, with a name of the last specification
pub AreCollected-name : (ids ranks : List ℕ) (owners : List Player) (lists quoted padded : List (List ℕ)) (quote : ℕ) (name : List ℕ) → All IsNameByte name
    → AreCollected (collected ids ranks owners lists quoted) → length padded ≡ length ids → 0 < length ids → ((v : ℕ) → get_or padded v [] ≡ get_or quoted v [])
    → AreCollected (collected ids ranks owners lists (set padded (length padded - 1) (quote ∷ name)))
AreCollected-name ids ranks owners lists quoted padded quote name h kept size some same = record {
  even = record {
    priorities_even = kept.even.priorities_even;
    owners_even = kept.even.owners_even;
    successors_even = kept.even.successors_even;
    quoted_within = omega (arith, length-set padded (length padded - 1) (quote ∷ name), size);
  };
  well_formed = subst (All IsWellFormed) (sym (specs_of-name ids ranks owners lists quoted padded quote name size some same))
      (All-with_last IsWellFormed (with_name name) (specs_of (collected ids ranks owners lists quoted)) (IsWellFormed-with_name name h) kept.well_formed);
}

-- what a builder keeps, with entries for names that are not there
pub AreCollected-pad : (ids ranks : List ℕ) (owners : List Player) (lists quoted padded : List (List ℕ))
    → AreCollected (collected ids ranks owners lists quoted) → length padded ≤ length ids → ((v : ℕ) → get_or padded v [] ≡ get_or quoted v [])
    → AreCollected (collected ids ranks owners lists padded)
AreCollected-pad ids ranks owners lists quoted padded kept within same = record {
  even = record {
    priorities_even = kept.even.priorities_even;
    owners_even = kept.even.owners_even;
    successors_even = kept.even.successors_even;
    quoted_within = within;
  };
  well_formed = subst (All IsWellFormed) (sym (specs_of-pad ids ranks owners lists quoted padded same)) kept.well_formed;
}

-- what holds in any case holds at a refusal
pub OnErr-always : {T E : Type 0} (r : Result T E) (P : Type 0) → P → OnErr r P
OnErr-always (Ok x) P p = tt
OnErr-always (Err e) P p = p

-- these columns are those at some indices
pub record ArePicked (columns chosen : Columns) (order : List ℕ) : Type 0 where
  pub identifiers_picked : chosen.identifiers ≡ map (λ i. get_or columns.identifiers i 0) order
  pub priorities_picked : chosen.priorities ≡ map (λ i. get_or columns.priorities i 0) order
  pub owners_picked : chosen.owners ≡ map (λ i. get_or columns.owners i Zero) order
  pub successors_picked : chosen.successors ≡ map (λ i. get_or columns.successors i []) order
  pub quoted_picked : (k : ℕ) → k < length order → get_or chosen.quoted k [] ≡ get_or columns.quoted (get_or order k 0) []
  pub quoted_few : length chosen.quoted ≤ length order

-- picked columns are even
pub AreEven-picked : (columns chosen : Columns) (order : List ℕ) → ArePicked columns chosen order → AreEven chosen
AreEven-picked columns chosen order are =
    let size : length chosen.identifiers ≡ length order = ap length are.identifiers_picked ∙ length-map order (λ i. get_or columns.identifiers i 0) in
    record {
      priorities_even = ap length are.priorities_picked ∙ length-map order (λ i. get_or columns.priorities i 0) ∙ sym size;
      owners_even = ap length are.owners_picked ∙ length-map order (λ i. get_or columns.owners i Zero) ∙ sym size;
      successors_even = ap length are.successors_picked ∙ length-map order (λ i. get_or columns.successors i []) ∙ sym size;
      quoted_within = omega (arith, size, are.quoted_few);
    }

-- the specifications of picked columns are those at the indices
pub specs_of-picked : (columns chosen : Columns) (order : List ℕ) → ArePicked columns chosen order → specs_of chosen ≡ map (spec_in columns) order
unfolding spec_in
specs_of-picked columns chosen order are =
    specs_of_is chosen (map (spec_in columns) order) (length-map order (spec_in columns) ∙ sym size)
    (λ k d h. let within : k < length order = omega (arith, size) in each k within ∙ sym (get_or-map (spec_in columns) order k 0 d within))
  where
    size : length chosen.identifiers ≡ length order
    size = ap length are.identifiers_picked ∙ length-map order (λ i. get_or columns.identifiers i 0)

    each : (k : ℕ) → k < length order → spec_in chosen k ≡ spec_in columns (get_or order k 0)
    each k h =
        let a : get_or chosen.identifiers k 0 ≡ get_or columns.identifiers (get_or order k 0) 0 = ap (λ xs. get_or xs k 0) are.identifiers_picked ∙ get_or-map (λ i. get_or columns.identifiers i 0) order k 0 0 h in
        let b : get_or chosen.priorities k 0 ≡ get_or columns.priorities (get_or order k 0) 0 = ap (λ xs. get_or xs k 0) are.priorities_picked ∙ get_or-map (λ i. get_or columns.priorities i 0) order k 0 0 h in
        let c : get_or chosen.owners k Zero ≡ get_or columns.owners (get_or order k 0) Zero = ap (λ xs. get_or xs k Zero) are.owners_picked ∙ get_or-map (λ i. get_or columns.owners i Zero) order k 0 Zero h in
        let d : get_or chosen.successors k [] ≡ get_or columns.successors (get_or order k 0) [] = ap (λ xs. get_or xs k []) are.successors_picked ∙ get_or-map (λ i. get_or columns.successors i []) order k 0 [] h in
        rw (a, b, c, d, are.quoted_picked k h) refl

-- rearranged columns have rearranged specifications
pub specs_of-rearranged : (columns chosen : Columns) (order : List ℕ) → ArePicked columns chosen order → IsPermutation (range_with_len 0 (length columns.identifiers)) order
    → IsPermutation (specs_of columns) (specs_of chosen)
unfolding specs_of
specs_of-rearranged columns chosen order are moved =
    subst (λ (specs : List NodeSpec). IsPermutation (map (spec_in columns) (range_with_len 0 (length columns.identifiers))) specs) (sym (specs_of-picked columns chosen order are))
    (IsPermutation-map (spec_in columns) (range_with_len 0 (length columns.identifiers)) order moved)

-- what a builder keeps, rearranged
pub AreCollected-rearranged : (columns chosen : Columns) (order : List ℕ) → ArePicked columns chosen order → IsPermutation (range_with_len 0 (length columns.identifiers)) order
    → AreCollected columns → AreCollected chosen
AreCollected-rearranged columns chosen order are moved kept = record {
  even = AreEven-picked columns chosen order are;
  well_formed = All-permutation IsWellFormed (specs_of columns) (specs_of chosen) (specs_of-rearranged columns chosen order are moved) kept.well_formed;
}

-- the indices of a rearrangement of all of them are within
pub order_within : (n : ℕ) (order : List ℕ) → IsPermutation (range_with_len 0 n) order → All (λ i. i < n) order
order_within n order moved = All-permutation (λ i. i < n) (range_with_len 0 n) order moved
    (λ k d h. omega (arith, get_or-range_with_len 0 n k d (omega (arith, length-range_with_len 0 n)), length-range_with_len 0 n))

-- the identifiers of specifications are those of the columns
pub ids-specs_of : (columns : Columns) → ids_of (specs_of columns) ≡ columns.identifiers
unfolding spec_in
ids-specs_of columns =
    same_lists _ _ (length-map (specs_of columns) (λ (spec : NodeSpec). spec.id) ∙ length-specs_of columns)
    (λ k e h. let within : k < length columns.identifiers = omega (arith, length-map (specs_of columns) (λ (spec : NodeSpec). spec.id), length-specs_of columns) in
    get_or-map (λ (spec : NodeSpec). spec.id) (specs_of columns) k (spec_in columns 0) e (omega (arith, length-specs_of columns))
    ∙ ap (λ (spec : NodeSpec). spec.id) (get_or-specs_of columns k (spec_in columns 0) within) ∙ get_or_default columns.identifiers k 0 e within)

-- the successors of specifications are those of the columns
pub successors-specs_of : (columns : Columns) → AreEven columns → map (λ (spec : NodeSpec). spec.successors) (specs_of columns) ≡ columns.successors
unfolding spec_in
successors-specs_of columns even =
    same_lists _ _ (length-map (specs_of columns) (λ (spec : NodeSpec). spec.successors) ∙ length-specs_of columns ∙ sym even.successors_even)
    (λ k e h. let within : k < length columns.identifiers = omega (arith, length-map (specs_of columns) (λ (spec : NodeSpec). spec.successors), length-specs_of columns) in
    get_or-map (λ (spec : NodeSpec). spec.successors) (specs_of columns) k (spec_in columns 0) e (omega (arith, length-specs_of columns))
    ∙ ap (λ (spec : NodeSpec). spec.successors) (get_or-specs_of columns k (spec_in columns 0) within) ∙ get_or_default columns.successors k [] e (omega (arith, even.successors_even)))

-- to change the last of some specifications and one more is to change that one
pub with_last-push : (change : NodeSpec → NodeSpec) (specs : List NodeSpec) (spec : NodeSpec) → with_last change (specs ++ spec ∷ []) ≡ specs ++ change spec ∷ []
with_last-push change [] spec = refl
with_last-push change (first ∷ []) spec = refl
with_last-push change (first ∷ next ∷ specs) spec = ap (λ others. first ∷ others) (with_last-push change (next ∷ specs) spec)

-- a specification that is added and then named
pub named_spec : (new mid old : List NodeSpec) (spec : NodeSpec) (list name : List ℕ) → list ≡ spec.successors → spec.name ≡ Some name
    → mid ≡ old ++ record { id = spec.id; priority = spec.priority; owner = spec.owner; successors = list; name = None } ∷ []
    → new ≡ with_last (with_name name) mid → new ≡ old ++ spec ∷ []
named_spec new mid old spec list name same named added is =
    is ∙ ap (with_last (with_name name)) added ∙ with_last-push (with_name name) old (record { id = spec.id; priority = spec.priority; owner = spec.owner; successors = list; name = None })
    ∙ ap (λ (xs : List ℕ). old ++ record { id = spec.id; priority = spec.priority; owner = spec.owner; successors = xs; name = Some name } ∷ []) same
    ∙ ap (λ (n : Option (List ℕ)). old ++ record spec { name = n } ∷ []) (sym named)
