-- What the items of a written automaton say: each thing of the automaton, and nothing else.
use Rattle.std.proofs.Common.{◌≡◌, ℕ, Option, Some, None, List, [], ◌∷◌, ◌++◌, length, map, ap, append-nil, refl, ◌∙◌}
use Rattle.std.specs.Prelude.{slice_get}
use Rattle.std.specs.List.{cons_option, filter_map, flat_map}
use Rattle.std.proofs.lemmas.Grind.{flat_map-append}
use Rattle.std.proofs.lemmas.List.Elements.{filter_map-append}
use Rattle.omega_hoa_acceptance.specs.Writing.{acc_written}
use Rattle.omega_hoa_acceptance.specs.declared.name.AccName.{AccName}
use Rattle.omega_hoa_syntax.specs.declared.raw_item.RawItem.{RawItem}
use Rattle.omega_hoa_syntax.specs.declared.raw_item.RawItem.TheVariants as item
use Rattle.omega_hoa_automaton.specs.Automaton.{Description}
use Rattle.omega_hoa_automaton.specs.Items.{acc_name_in, acceptance_in, alias_in, name_in, properties_in, propositions_in, start_in, states_in, tool_in, unknown_in}
use Rattle.omega_lang_trim.specs.Written.{acc_name_items, header, name_items, start_item}

-- what no item says is not said
passed : {X : Type 0} (says : RawItem → Option X) (front others : List RawItem) → filter_map says front ≡ [] → filter_map says (front ++ others) ≡ filter_map says others
passed says front others none = filter_map-append says front others ∙ ap (λ said. said ++ filter_map says others) none

no_starts : {X : Type 0} (says : RawItem → Option X) → ((states : List ℕ) → says (start_item states) ≡ None) → (starts : List (List ℕ)) → filter_map says (map start_item starts) ≡ []
no_starts says none [] = refl
no_starts says none (start ∷ starts) = ap (λ it. cons_option it (filter_map says (map start_item starts))) (none start) ∙ no_starts says none starts

all_starts : (starts : List (List ℕ)) → filter_map start_in (map start_item starts) ≡ starts
all_starts [] = refl
all_starts (start ∷ starts) = ap (λ others. start ∷ others) (all_starts starts)

no_name : {X : Type 0} (says : RawItem → Option X) → ((bytes : List ℕ) → says (item.Name bytes) ≡ None) → (name : Option (List ℕ)) → filter_map says (name_items name) ≡ []
no_name says none None = refl
no_name says none (Some bytes) = ap (λ it. cons_option it []) (none bytes)

no_acc_name : {X : Type 0} (says : RawItem → Option X) → ((name : AccName) → says (item.AccName name) ≡ None) → (name : Option AccName) → filter_map says (acc_name_items name) ≡ []
no_acc_name says none None = refl
no_acc_name says none (Some name) = ap (λ it. cons_option it []) (none name)

pub first_name : (name : Option (List ℕ)) → slice_get (filter_map name_in (name_items name)) 0 ≡ name
first_name None = refl
first_name (Some bytes) = refl

pub first_acc_name : (name : Option AccName) → slice_get (filter_map acc_name_in (acc_name_items name)) 0 ≡ name
first_acc_name None = refl
first_acc_name (Some name) = refl

module _ (a : Description) where
  abbrev starts : List RawItem
  starts = map start_item a.starts

  abbrev last : List RawItem
  last = acc_name_items a.acc_name ++ starts

  -- neither a start nor a name
  silent : {X : Type 0} (says : RawItem → Option X) → ((bytes : List ℕ) → says (item.Name bytes) ≡ None) → ((name : AccName) → says (item.AccName name) ≡ None)
      → ((states : List ℕ) → says (start_item states) ≡ None) → filter_map says (name_items a.name ++ last) ≡ []
  silent says names acc_names are =
      passed says (name_items a.name) last (no_name says names a.name)
      ∙ (passed says (acc_name_items a.acc_name) starts (no_acc_name says acc_names a.acc_name) ∙ no_starts says are a.starts)

  pub tool_said : filter_map tool_in (header a) ≡ []
  tool_said = silent tool_in (λ bytes. refl) (λ name. refl) (λ states. refl)

  pub aliases_said : filter_map alias_in (header a) ≡ []
  aliases_said = silent alias_in (λ bytes. refl) (λ name. refl) (λ states. refl)

  pub unknown_said : filter_map unknown_in (header a) ≡ []
  unknown_said = silent unknown_in (λ bytes. refl) (λ name. refl) (λ states. refl)

  pub states_said : filter_map states_in (header a) ≡ a.states ∷ []
  states_said = ap (λ others. a.states ∷ others) (silent states_in (λ bytes. refl) (λ name. refl) (λ states. refl))

  pub propositions_said : filter_map propositions_in (header a) ≡ record { count = length a.propositions; names = a.propositions } ∷ []
  propositions_said =
      ap (λ others. record { count = length a.propositions; names = a.propositions } ∷ others)
      (silent propositions_in (λ bytes. refl) (λ name. refl) (λ states. refl))

  pub acceptance_said : filter_map acceptance_in (header a) ≡ record { count = a.sets; formula = acc_written a.acceptance } ∷ []
  acceptance_said =
      ap (λ others. record { count = a.sets; formula = acc_written a.acceptance } ∷ others)
      (silent acceptance_in (λ bytes. refl) (λ name. refl) (λ states. refl))

  pub name_said : filter_map name_in (header a) ≡ filter_map name_in (name_items a.name)
  name_said =
      filter_map-append name_in (name_items a.name) last
      ∙ (ap (λ others. filter_map name_in (name_items a.name) ++ others)
      (passed name_in (acc_name_items a.acc_name) starts (no_acc_name name_in (λ name. refl) a.acc_name) ∙ no_starts name_in (λ states. refl) a.starts)
      ∙ append-nil (filter_map name_in (name_items a.name)))

  pub acc_name_said : filter_map acc_name_in (header a) ≡ filter_map acc_name_in (acc_name_items a.acc_name)
  acc_name_said =
      passed acc_name_in (name_items a.name) last (no_name acc_name_in (λ bytes. refl) a.name)
      ∙ (filter_map-append acc_name_in (acc_name_items a.acc_name) starts
      ∙ (ap (λ others. filter_map acc_name_in (acc_name_items a.acc_name) ++ others) (no_starts acc_name_in (λ states. refl) a.starts)
      ∙ append-nil (filter_map acc_name_in (acc_name_items a.acc_name))))

  pub starts_said : filter_map start_in (header a) ≡ a.starts
  starts_said =
      passed start_in (name_items a.name) last (no_name start_in (λ bytes. refl) a.name)
      ∙ (passed start_in (acc_name_items a.acc_name) starts (no_acc_name start_in (λ name. refl) a.acc_name) ∙ all_starts a.starts)

-- no properties

wordless : (first second : List RawItem) → flat_map properties_in first ≡ [] → flat_map properties_in (first ++ second) ≡ flat_map properties_in second
wordless first second none = flat_map-append properties_in first second ∙ ap (λ front. front ++ flat_map properties_in second) none

name_words : (name : Option (List ℕ)) → flat_map properties_in (name_items name) ≡ []
name_words None = refl
name_words (Some bytes) = refl

acc_name_words : (name : Option AccName) → flat_map properties_in (acc_name_items name) ≡ []
acc_name_words None = refl
acc_name_words (Some name) = refl

start_words : (starts : List (List ℕ)) → flat_map properties_in (map start_item starts) ≡ []
start_words [] = refl
start_words (start ∷ starts) = start_words starts

pub properties_said : (a : Description) → flat_map properties_in (header a) ≡ []
properties_said a =
    wordless (name_items a.name) (acc_name_items a.acc_name ++ map start_item a.starts) (name_words a.name)
    ∙ (wordless (acc_name_items a.acc_name) (map start_item a.starts) (acc_name_words a.acc_name) ∙ start_words a.starts)
