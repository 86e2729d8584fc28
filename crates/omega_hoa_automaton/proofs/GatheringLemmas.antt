-- The items of a header, one more at a time: what is gathered of them.
use Rattle.std.proofs.Common.{◌≡◌, ℕ, ◌+◌, ◌<◌, List, [], ◌∷◌, ◌++◌, Option, Some, None, option_map, length, get_or, take, drop, append-nil, map, refl, ap, subst, sym, ◌∙◌}
use Rattle.std.specs.List.{cons_option, filter_map, flat_map, slice_get}
use Rattle.std.specs.Option.{option_or, option_to_list}
use Rattle.std.proofs.lemmas.Grind.{flat_map-append}
use Rattle.std.proofs.lemmas.List.{take_more, take-append-drop}
use Rattle.std.proofs.lemmas.List.Elements.{filter_map-append}
use Rattle.std.proofs.lemmas.List.Folds.{map_fixed}
use Rattle.omega_text.specs.declared.refusal.Refusal.{Refusal}
use Rattle.omega_hoa_syntax.specs.declared.raw_item.RawItem.{RawItem}
use Rattle.omega_hoa_automaton.specs.Items.{Accepted, Named, acc_name_in, acceptance_in, alias_in, first_said, name_in, properties_in, propositions_in, start_in, tool_in, unknown_in}
use Rattle.omega_hoa_automaton.specs.declared.making.definitions.Definitions.{Definitions}
use Rattle.omega_hoa_automaton.specs.declared.making.gathered.Gathered.{Gathered}
use Rattle.omega_hoa_automaton.specs.private.layout.Definitions.{AreNoted, HasMet, IsUnmet, IsUnnoted}
use Rattle.omega_hoa_automaton.specs.private.layout.Gathered.{HasGathered, HasTaken}
use Rattle.omega_hoa_automaton.proofs.DefinitionLemmas.{noted-met, unnoted-front, unnoted-met}

-- what one item says, as a list
filter_map-one : {X : Type 0} (o : Option X) → cons_option o [] ≡ option_to_list o
filter_map-one None = refl
filter_map-one (Some x) = refl

-- what items say, with one more
filter_map-push : {X : Type 0} (says : RawItem → Option X) (items : List RawItem) (last : RawItem)
    → filter_map says (items ++ last ∷ []) ≡ filter_map says items ++ option_to_list (says last)
filter_map-push says items last = filter_map-append says items (last ∷ []) ∙ ap (λ xs. filter_map says items ++ xs) (filter_map-one (says last))

-- the first of some, with one that may be there after them
first-push : {X : Type 0} (xs : List X) (o : Option X) → slice_get (xs ++ option_to_list o) 0 ≡ option_or (slice_get xs 0) o
first-push [] None = refl
first-push [] (Some x) = refl
first-push (x ∷ xs) o = refl

-- what the first item of a kind says, with one more item
first_said-push : {X : Type 0} (says : RawItem → Option X) (items : List RawItem) (last : RawItem)
    → first_said says (items ++ last ∷ []) ≡ option_or (first_said says items) (says last)
first_said-push says items last = ap (λ xs. slice_get xs 0) (filter_map-push says items last) ∙ first-push (filter_map says items) (says last)

-- a part of the first of two
option_map-or : {X Y : Type 0} (f : X → Y) (a b : Option X) → option_or (option_map f a) (option_map f b) ≡ option_map f (option_or a b)
option_map-or f None b = refl
option_map-or f (Some x) b = refl

-- one more item was taken
pub gathered-push : (items : List RawItem) (last : RawItem) (old new : Gathered) → HasGathered items old → HasTaken old last new → HasGathered (items ++ last ∷ []) new
gathered-push items last old new all taken = record {
  tool = taken.tool ∙ (ap (λ o. option_or o (tool_in last)) all.tool ∙ sym (first_said-push tool_in items last));
  name = taken.name ∙ (ap (λ o. option_or o (name_in last)) all.name ∙ sym (first_said-push name_in items last));
  starts = taken.starts ∙ (ap (λ xs. xs ++ option_to_list (start_in last)) all.starts ∙ sym (filter_map-push start_in items last));
  propositions =
      taken.propositions
      ∙ (ap (λ o. option_or o (option_map (λ (named : Named). named.names) (propositions_in last))) all.propositions
      ∙ (option_map-or (λ (named : Named). named.names) (first_said propositions_in items) (propositions_in last)
      ∙ ap (option_map (λ (named : Named). named.names)) (sym (first_said-push propositions_in items last))));
  acc_name = taken.acc_name ∙ (ap (λ o. option_or o (acc_name_in last)) all.acc_name ∙ sym (first_said-push acc_name_in items last));
  acceptance =
      taken.acceptance
      ∙ (ap (λ o. option_or o (option_map (λ (accepted : Accepted). accepted.formula) (acceptance_in last))) all.acceptance
      ∙ (option_map-or (λ (accepted : Accepted). accepted.formula) (first_said acceptance_in items) (acceptance_in last)
      ∙ ap (option_map (λ (accepted : Accepted). accepted.formula)) (sym (first_said-push acceptance_in items last))));
  properties =
      taken.properties
      ∙ (ap (λ xs. xs ++ properties_in last) all.properties
      ∙ sym (flat_map-append properties_in items (last ∷ []) ∙ ap (λ xs. flat_map properties_in items ++ xs) (append-nil (properties_in last))));
  unknown = taken.unknown ∙ (ap (λ xs. xs ++ option_to_list (unknown_in last)) all.unknown ∙ sym (filter_map-push unknown_in items last));
}

-- one more item was met
pub noted-push : (items : List RawItem) (last : RawItem) (old new : Definitions) → AreNoted (filter_map alias_in items) old → HasMet old last new
    → AreNoted (filter_map alias_in (items ++ last ∷ [])) new
noted-push items last old new all met = rw (filter_map-push alias_in items last) (noted-met (alias_in last) (filter_map alias_in items) old new all met)

-- an item that cannot be met after those before it
unnoted-at : (items : List RawItem) (i : ℕ) (last : RawItem) (old : Definitions) (refusal : Refusal) → i < length items → last ≡ get_or items i last
    → AreNoted (filter_map alias_in (take i items)) old → IsUnmet old last refusal → IsUnnoted (filter_map alias_in items) refusal
unnoted-at items i last old refusal within is all unmet =
    let here = unnoted-met (alias_in last) (filter_map alias_in (take i items)) old refusal all.aliases unmet in
    let front : IsUnnoted (filter_map alias_in (take (i + 1) items)) refusal =
    rw (take_more items i last within) (rw (sym is) (rw (filter_map-push alias_in (take i items) last) here)) in
    let whole = unnoted-front (filter_map alias_in (take (i + 1) items)) (filter_map alias_in (drop (i + 1) items)) refusal front in
    let joined : filter_map alias_in (take (i + 1) items) ++ filter_map alias_in (drop (i + 1) items) ≡ filter_map alias_in items =
    sym (filter_map-append alias_in (take (i + 1) items) (drop (i + 1) items)) ∙ ap (filter_map alias_in) (take-append-drop (i + 1) items) in
    rw joined at whole

-- the same at a turn of a loop over all items
pub unnoted-turn : (items all yielded : List RawItem) (last : RawItem) (old : Definitions) (refusal : Refusal) → all ≡ items
    → map (λ (x : RawItem). x) yielded ≡ take (length yielded) all → (length yielded < length all) × (last ≡ get_or all (length yielded) last)
    → AreNoted (filter_map alias_in yielded) old → IsUnmet old last refusal → IsUnnoted (filter_map alias_in items) refusal
unnoted-turn items all yielded last old refusal same so_far turn noted unmet =
    let front : yielded ≡ take (length yielded) all = sym (map_fixed (λ x. x) yielded (λ k d h. refl)) ∙ so_far in
    let before : AreNoted (filter_map alias_in (take (length yielded) all)) old = subst (λ xs. AreNoted (filter_map alias_in xs) old) front noted in
    subst (λ xs. IsUnnoted (filter_map alias_in xs) refusal) same (unnoted-at all (length yielded) last old refusal turn.0 turn.1 before unmet)
