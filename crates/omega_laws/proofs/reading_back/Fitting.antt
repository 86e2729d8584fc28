-- Texts can have the names and counts of automata that were read, and of products, unions and trimmed automata of them.
use Rattle.std.proofs.Common.{◌≡◌, ℕ, zero, suc, ◌+◌, ◌<◌, ◌≤◌, Bool, true, false, if◌then◌else◌, List, [], ◌∷◌, ◌++◌, length, map, filter, Contains, Option, Some, None, refl, sym, ap, subst, ◌∙◌, arith}
use Rattle.std.specs.Prelude.{IfSome, slice_index}
use Rattle.std.specs.List.{AllByRecursion, AllZip}
use Rattle.std.specs.List.Sorted.{IsStrictlyIncreasing}
use Rattle.std.specs.Option.{option_or}
use Rattle.omega_text.specs.Limits.{most_number}
use Rattle.omega_text.specs.hoa.Forms.{IsQuotable}
use Rattle.omega_hoa_acceptance.specs.declared.name.AccName.{AccName}
use Rattle.omega_hoa_automaton.specs.Automaton.{Description, IsAutomaton}
use Rattle.omega_hoa_automaton.specs.declared.state.State.{State}
use Rattle.omega_hoa_edges.specs.Limits.{most_states}
use Rattle.omega_hoa_round_trips.specs.Writable.{IsWritableAutomaton, IsWritableName, IsWritableState}
use Rattle.omega_lang_product.specs.Joining.{joined_names}
use Rattle.omega_lang_product.specs.Limits.{IsWithin}
use Rattle.omega_lang_product.specs.Pairs.{Pair}
use Rattle.omega_lang_product.specs.Product.{IsPairState, IsProduct}
use Rattle.omega_lang_runs.specs.Lasso.{Leads}
use Rattle.omega_lang_trim.specs.Trimmed.{IsTrimmed, state_kept, stays, trimmed}
use Rattle.omega_lang_trim.specs.Useful.{AreUsefulStates}
use Rattle.omega_lang_union.specs.Parts.{Part, state_in}
use Rattle.omega_lang_union.specs.Union.{IsUnion, first_part, second_part}
use Rattle.omega_lang_word_laws.proofs.naming.Named.{contained_at}
use Rattle.omega_laws.specs.WrittenTexts.{FitsTexts}
use Rattle.omega_laws.proofs.Either.{start_low}
use Rattle.omega_laws.proofs.UnionMoved.{enters_low}
use Rattle.omega_laws.proofs.reading_back.Products.{joint_named}
use Rattle.omega_laws.proofs.reading_back.Quotable.{all_both, all_filtered, name_quotable}

abbrev pub IsNamed : State → Type 0
IsNamed state = IfSome state.name IsQuotable

-- an automaton that can be written
names_writable : (states : List State) → AllByRecursion IsWritableState states → AllByRecursion IsNamed states
names_writable [] all = tt
names_writable (state ∷ states) all = (all.0.name, names_writable states all.1)

pub writable_fits : (a : Description) → IsWritableAutomaton a → FitsTexts a
writable_fits a can = record {
  name = can.name;
  propositions = can.propositions;
  named = names_writable a.defined can.defined;
  acc_name = can.acc_name;
  states = can.states;
  sets = can.sets;
}

-- names of both
names_joined : (names others : List (List ℕ)) → AllByRecursion IsQuotable names → AllByRecursion IsQuotable others → AllByRecursion IsQuotable (joined_names names others)
names_joined names others own its = all_both IsQuotable names _ own (all_filtered IsQuotable _ others its)

-- a product
module _ (one other : Description) (own : AllByRecursion IsWritableState one.defined) (its : AllByRecursion IsWritableState other.defined) (all : List Pair) where
  pairs_named : (pairs : List Pair) (states : List State) → AllZip (IsPairState one other all) pairs states → AllByRecursion IsNamed states
  pairs_named [] [] zip = tt
  pairs_named [] (state ∷ states) zip = absurd zip
  pairs_named (pair ∷ pairs) [] zip = absurd zip
  pairs_named (pair ∷ pairs) (state ∷ states) zip = (
    subst (λ (name : Option (List ℕ)). IfSome name IsQuotable) (sym zip.0.name) (name_quotable one other own its pair),
    pairs_named pairs states zip.1,
  )

pub product_fits : (one other a : Description) → IsWritableAutomaton one → IsWritableAutomaton other → IsProduct one other a → IsWithin a → FitsTexts a
product_fits one other a own its is within = record {
  name = subst (λ (name : Option (List ℕ)). IfSome name IsQuotable) (sym is.name) tt;
  propositions = subst (AllByRecursion IsQuotable) (sym is.propositions) (names_joined one.propositions other.propositions own.propositions its.propositions);
  named = pairs_named one other own.defined its.defined is.pairs is.pairs a.defined is.defined;
  acc_name = joint_named one other a.acc_name a.acceptance is.accepted;
  states = omega (arith, within.states);
  sets = within.sets;
}

-- a union
names_moved : (part : Part) (states : List State) → AllByRecursion IsNamed states → AllByRecursion IsNamed (map (state_in part) states)
names_moved part [] all = tt
names_moved part (state ∷ states) all = (all.0, names_moved part states all.1)

name_shared : (shared : Bool) (own its : Option AccName) → IfSome own IsWritableName → IfSome its IsWritableName
    → IfSome (if shared then option_or own its else None) IsWritableName
name_shared true (Some name) its is is' = is
name_shared true None its is is' = is'
name_shared false own its is is' = tt

pub union_fits : (one other a : Description) → FitsTexts one → FitsTexts other → IsUnion one other a → IsWithin a → FitsTexts a
union_fits one other a own its is within = record {
  name = subst (λ (d : Description). IfSome d.name IsQuotable) (sym is.is) tt;
  propositions = subst (λ (d : Description). AllByRecursion IsQuotable d.propositions) (sym is.is)
      (names_joined one.propositions other.propositions own.propositions its.propositions);
  named = subst (λ (d : Description). AllByRecursion IsNamed d.defined) (sym is.is)
      (all_both IsNamed (map (state_in (first_part is.sharing one other)) one.defined) (map (state_in (second_part is.sharing one other)) other.defined)
      (names_moved (first_part is.sharing one other) one.defined own.named) (names_moved (second_part is.sharing one other) other.defined its.named));
  acc_name = subst (λ (d : Description). IfSome d.acc_name IsWritableName) (sym is.is)
      (name_shared is.sharing.shared one.acc_name other.acc_name own.acc_name its.acc_name);
  states = omega (arith, within.states);
  sets = within.sets;
}

-- states that stay are states, and rising: so they are no more than those that there were
leads_low : (a : Description) → IsAutomaton a → (path : List ℕ) (from to : ℕ) → from < a.states → Leads a from path to → to < a.states
leads_low a automaton [] from to low leads = subst (λ (n : ℕ). n < a.states) leads low
leads_low a automaton (number ∷ path) from to low leads =
    leads_low a automaton path leads.0 to (enters_low a automaton from number leads.0 leads.1) leads.2

rising_index : (xs : List ℕ) → IsStrictlyIncreasing xs → (k : ℕ) → k < length xs → k ≤ slice_index xs k
rising_index xs rising zero below = omega arith
rising_index xs rising (suc k) below =
    let before : k ≤ slice_index xs k = rising_index xs rising k (omega (arith, below)) in
    let more : slice_index xs k < slice_index xs (k + 1) = rising k (omega (arith, below)) in
    let next : k + 1 ≡ suc k = omega arith in
    subst (λ (n : ℕ). suc k ≤ slice_index xs n) next (omega (arith, before, more))

rising_few : (xs : List ℕ) (n : ℕ) → IsStrictlyIncreasing xs → ((x : ℕ) → Contains xs x → x < n) → length xs ≤ n
rising_few [] n rising below = omega arith
rising_few (x ∷ xs) n rising below =
    let last : length xs ≤ slice_index (x ∷ xs) (length xs) = rising_index (x ∷ xs) rising (length xs) (omega arith) in
    let low : slice_index (x ∷ xs) (length xs) < n = below (slice_index (x ∷ xs) (length xs)) (contained_at (x ∷ xs) (length xs) 0 (omega arith)) in
    omega (arith, last, low)

useful_few : (a : Description) (kept : List ℕ) → IsAutomaton a → AreUsefulStates a kept → length kept ≤ a.states
useful_few a kept automaton are =
    rising_few kept a.states are.rising
    (λ state has. (let useful = (are.useful state).0 has in
    leads_low a automaton useful.reached.path useful.reached.start state (start_low a automaton useful.reached.start useful.reached.begins) useful.reached.leads))

-- a trimmed automaton
names_kept : (kept : List ℕ) (count : ℕ) (states : List State) → AllByRecursion IsNamed states → AllByRecursion IsNamed (map (state_kept kept count) states)
names_kept kept count [] all = tt
names_kept kept count (state ∷ states) all = (all.0, names_kept kept count states all.1)

pub trim_fits : (a trim : Description) → IsAutomaton a → FitsTexts a → IsTrimmed a trim → FitsTexts trim
trim_fits a trim automaton fits is = record {
  name = subst (λ (d : Description). IfSome d.name IsQuotable) (sym is.is) fits.name;
  propositions = subst (λ (d : Description). AllByRecursion IsQuotable d.propositions) (sym is.is) fits.propositions;
  named = subst (λ (d : Description). AllByRecursion IsNamed d.defined) (sym is.is)
      (names_kept is.kept (length a.propositions) (filter (λ (state : State). stays is.kept state.number) a.defined)
      (all_filtered IsNamed (λ (state : State). stays is.kept state.number) a.defined fits.named));
  acc_name = subst (λ (d : Description). IfSome d.acc_name IsWritableName) (sym is.is) fits.acc_name;
  states = subst (λ (d : Description). d.states ≤ most_number) (sym is.is) (omega (arith, useful_few a is.kept automaton is.useful, fits.states));
  sets = subst (λ (d : Description). d.sets ≤ most_number) (sym is.is) fits.sets;
}
