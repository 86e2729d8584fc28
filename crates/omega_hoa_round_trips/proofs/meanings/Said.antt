-- What the items of a canonical text say: each thing of the automaton, and nothing else.
use Rattle.std.proofs.Common.{◌≡◌, ℕ, Option, Some, None, List, [], ◌∷◌, ◌++◌, length, map, ap, append-nil, refl, ◌∙◌}
use Rattle.std.specs.Prelude.{slice_get}
use Rattle.std.specs.List.{cons_option, filter_map, flat_map}
use Rattle.std.proofs.lemmas.Grind.{flat_map-append}
use Rattle.std.proofs.lemmas.List.Elements.{filter_map-append}
use Rattle.omega_hoa_acceptance.specs.Writing.{acc_written}
use Rattle.omega_hoa_acceptance.specs.declared.name.AccName.{AccName}
use Rattle.omega_hoa_syntax.specs.declared.raw_item.RawItem.{RawItem}
use Rattle.omega_hoa_syntax.specs.declared.raw_item.RawItem.TheVariants as item
use Rattle.omega_hoa_automaton.specs.Automaton.{Description}
use Rattle.omega_hoa_automaton.specs.Items.{acc_name_in, acceptance_in, alias_in, name_in, properties_in, propositions_in, start_in, states_in, tool_in, unknown_in}
use Rattle.omega_hoa_automaton.specs.declared.header.Header.{Header}
use Rattle.omega_hoa_automaton.specs.declared.tool.Tool.{Tool}
use Rattle.omega_hoa_round_trips.specs.Written.{acc_name_item, items_written, name_item, properties_item, start_item, tool_item, unknown_item}

-- ---- items that say no such thing

-- they are passed over
passed : {X : Type 0} (says : RawItem → Option X) (first second : List RawItem) → filter_map says first ≡ [] → filter_map says (first ++ second) ≡ filter_map says second
passed says first second none = filter_map-append says first second ∙ ap (λ front. front ++ filter_map says second) none

no-tool : {X : Type 0} (says : RawItem → Option X) → ((first : List ℕ) (second : Option (List ℕ)) → says (item.Tool first second) ≡ None)
    → (it : Option Tool) → filter_map says (tool_item it) ≡ []
no-tool says none None = refl
no-tool says none (Some tool) = ap (λ said. cons_option said []) (none tool.name tool.version)

no-name : {X : Type 0} (says : RawItem → Option X) → ((bytes : List ℕ) → says (item.Name bytes) ≡ None) → (it : Option (List ℕ)) → filter_map says (name_item it) ≡ []
no-name says none None = refl
no-name says none (Some bytes) = ap (λ said. cons_option said []) (none bytes)

no-acc_name : {X : Type 0} (says : RawItem → Option X) → ((name : AccName) → says (item.AccName name) ≡ None) → (it : Option AccName) → filter_map says (acc_name_item it) ≡ []
no-acc_name says none None = refl
no-acc_name says none (Some name) = ap (λ said. cons_option said []) (none name)

no-properties : {X : Type 0} (says : RawItem → Option X) → ((words : List (List ℕ)) → says (item.Properties words) ≡ None)
    → (words : List (List ℕ)) → filter_map says (properties_item words) ≡ []
no-properties says none [] = refl
no-properties says none (first ∷ others) = ap (λ said. cons_option said []) (none (first ∷ others))

no-starts : {X : Type 0} (says : RawItem → Option X) → ((states : List ℕ) → says (item.Start states) ≡ None)
    → (starts : List (List ℕ)) → filter_map says (map start_item starts) ≡ []
no-starts says none [] = refl
no-starts says none (states ∷ starts) = ap (λ said. cons_option said (filter_map says (map start_item starts))) (none states) ∙ no-starts says none starts

no-unknown : {X : Type 0} (says : RawItem → Option X) → ((header : Header) → says (unknown_item header) ≡ None)
    → (headers : List Header) → filter_map says (map unknown_item headers) ≡ []
no-unknown says none [] = refl
no-unknown says none (header ∷ headers) = ap (λ said. cons_option said (filter_map says (map unknown_item headers))) (none header) ∙ no-unknown says none headers

-- ---- items that say it

all-starts : (starts : List (List ℕ)) → filter_map start_in (map start_item starts) ≡ starts
all-starts [] = refl
all-starts (states ∷ starts) = ap (λ others. states ∷ others) (all-starts starts)

all-unknown : (headers : List Header) → filter_map unknown_in (map unknown_item headers) ≡ headers
all-unknown [] = refl
all-unknown (header ∷ headers) = ap (λ others. header ∷ others) (all-unknown headers)

pub first-tool : (it : Option Tool) → slice_get (filter_map tool_in (tool_item it)) 0 ≡ it
first-tool None = refl
first-tool (Some tool) = refl

pub first-name : (it : Option (List ℕ)) → slice_get (filter_map name_in (name_item it)) 0 ≡ it
first-name None = refl
first-name (Some bytes) = refl

pub first-acc_name : (it : Option AccName) → slice_get (filter_map acc_name_in (acc_name_item it)) 0 ≡ it
first-acc_name None = refl
first-acc_name (Some name) = refl

-- the items of an automaton, part by part
module _ (a : Description) where
  abbrev last_items : List RawItem
  last_items = properties_item a.properties ++ map unknown_item a.unknown

  abbrev late_items : List RawItem
  late_items = acc_name_item a.acc_name ++ (item.Acceptance a.sets (acc_written a.acceptance) ∷ last_items)

  abbrev middle_items : List RawItem
  middle_items = item.Propositions (length a.propositions) a.propositions ∷ late_items

  abbrev early_items : List RawItem
  early_items = item.States a.states ∷ (map start_item a.starts ++ middle_items)

  no-last : {X : Type 0} (says : RawItem → Option X) → ((words : List (List ℕ)) → says (item.Properties words) ≡ None) → ((header : Header) → says (unknown_item header) ≡ None)
      → filter_map says last_items ≡ []
  no-last says properties unknown =
      passed says (properties_item a.properties) (map unknown_item a.unknown) (no-properties says properties a.properties) ∙ no-unknown says unknown a.unknown

  no-front : {X : Type 0} (says : RawItem → Option X) → ((first : List ℕ) (second : Option (List ℕ)) → says (item.Tool first second) ≡ None)
      → ((bytes : List ℕ) → says (item.Name bytes) ≡ None) → filter_map says (items_written a) ≡ filter_map says early_items
  no-front says tool name =
      passed says (tool_item a.tool) (name_item a.name ++ early_items) (no-tool says tool a.tool) ∙ passed says (name_item a.name) early_items (no-name says name a.name)

  -- the count of states
  pub states-said : filter_map states_in (items_written a) ≡ a.states ∷ []
  states-said =
      no-front states_in (λ first second. refl) (λ bytes. refl)
      ∙ ap (λ others. a.states ∷ others)
      (passed states_in (map start_item a.starts) middle_items (no-starts states_in (λ states. refl) a.starts)
      ∙ (passed states_in (acc_name_item a.acc_name) (item.Acceptance a.sets (acc_written a.acceptance) ∷ last_items) (no-acc_name states_in (λ name. refl) a.acc_name)
      ∙ no-last states_in (λ words. refl) (λ header. refl)))

  -- the starts
  pub starts-said : filter_map start_in (items_written a) ≡ a.starts
  starts-said =
      no-front start_in (λ first second. refl) (λ bytes. refl)
      ∙ (filter_map-append start_in (map start_item a.starts) middle_items
      ∙ (ap (λ others. filter_map start_in (map start_item a.starts) ++ others)
      (passed start_in (acc_name_item a.acc_name) (item.Acceptance a.sets (acc_written a.acceptance) ∷ last_items) (no-acc_name start_in (λ name. refl) a.acc_name)
      ∙ no-last start_in (λ words. refl) (λ header. refl))
      ∙ (append-nil (filter_map start_in (map start_item a.starts)) ∙ all-starts a.starts)))

  -- the propositions
  pub propositions-said : filter_map propositions_in (items_written a) ≡ record { count = length a.propositions; names = a.propositions } ∷ []
  propositions-said =
      no-front propositions_in (λ first second. refl) (λ bytes. refl)
      ∙ (passed propositions_in (map start_item a.starts) middle_items (no-starts propositions_in (λ states. refl) a.starts)
      ∙ ap (λ others. record { count = length a.propositions; names = a.propositions } ∷ others)
      (passed propositions_in (acc_name_item a.acc_name) (item.Acceptance a.sets (acc_written a.acceptance) ∷ last_items) (no-acc_name propositions_in (λ name. refl) a.acc_name)
      ∙ no-last propositions_in (λ words. refl) (λ header. refl)))

  -- no aliases
  pub aliases-said : filter_map alias_in (items_written a) ≡ []
  aliases-said =
      no-front alias_in (λ first second. refl) (λ bytes. refl)
      ∙ (passed alias_in (map start_item a.starts) middle_items (no-starts alias_in (λ states. refl) a.starts)
      ∙ (passed alias_in (acc_name_item a.acc_name) (item.Acceptance a.sets (acc_written a.acceptance) ∷ last_items) (no-acc_name alias_in (λ name. refl) a.acc_name)
      ∙ no-last alias_in (λ words. refl) (λ header. refl)))

  -- the acceptance
  pub acceptance-said : filter_map acceptance_in (items_written a) ≡ record { count = a.sets; formula = acc_written a.acceptance } ∷ []
  acceptance-said =
      no-front acceptance_in (λ first second. refl) (λ bytes. refl)
      ∙ (passed acceptance_in (map start_item a.starts) middle_items (no-starts acceptance_in (λ states. refl) a.starts)
      ∙ (passed acceptance_in (acc_name_item a.acc_name) (item.Acceptance a.sets (acc_written a.acceptance) ∷ last_items) (no-acc_name acceptance_in (λ name. refl) a.acc_name)
      ∙ ap (λ others. record { count = a.sets; formula = acc_written a.acceptance } ∷ others) (no-last acceptance_in (λ words. refl) (λ header. refl))))

  -- the name of the acceptance
  pub acc_name-said : filter_map acc_name_in (items_written a) ≡ filter_map acc_name_in (acc_name_item a.acc_name)
  acc_name-said =
      no-front acc_name_in (λ first second. refl) (λ bytes. refl)
      ∙ (passed acc_name_in (map start_item a.starts) middle_items (no-starts acc_name_in (λ states. refl) a.starts)
      ∙ (filter_map-append acc_name_in (acc_name_item a.acc_name) (item.Acceptance a.sets (acc_written a.acceptance) ∷ last_items)
      ∙ (ap (λ others. filter_map acc_name_in (acc_name_item a.acc_name) ++ others) (no-last acc_name_in (λ words. refl) (λ header. refl))
      ∙ append-nil (filter_map acc_name_in (acc_name_item a.acc_name)))))

  -- the tool
  pub tool-said : filter_map tool_in (items_written a) ≡ filter_map tool_in (tool_item a.tool)
  tool-said =
      filter_map-append tool_in (tool_item a.tool) (name_item a.name ++ early_items)
      ∙ (ap (λ others. filter_map tool_in (tool_item a.tool) ++ others)
      (passed tool_in (name_item a.name) early_items (no-name tool_in (λ bytes. refl) a.name)
      ∙ (passed tool_in (map start_item a.starts) middle_items (no-starts tool_in (λ states. refl) a.starts)
      ∙ (passed tool_in (acc_name_item a.acc_name) (item.Acceptance a.sets (acc_written a.acceptance) ∷ last_items) (no-acc_name tool_in (λ name. refl) a.acc_name)
      ∙ no-last tool_in (λ words. refl) (λ header. refl))))
      ∙ append-nil (filter_map tool_in (tool_item a.tool)))

  -- the name
  pub name-said : filter_map name_in (items_written a) ≡ filter_map name_in (name_item a.name)
  name-said =
      passed name_in (tool_item a.tool) (name_item a.name ++ early_items) (no-tool name_in (λ first second. refl) a.tool)
      ∙ (filter_map-append name_in (name_item a.name) early_items
      ∙ (ap (λ others. filter_map name_in (name_item a.name) ++ others)
      (passed name_in (map start_item a.starts) middle_items (no-starts name_in (λ states. refl) a.starts)
      ∙ (passed name_in (acc_name_item a.acc_name) (item.Acceptance a.sets (acc_written a.acceptance) ∷ last_items) (no-acc_name name_in (λ name. refl) a.acc_name)
      ∙ no-last name_in (λ words. refl) (λ header. refl)))
      ∙ append-nil (filter_map name_in (name_item a.name))))

  -- the headers that the format leaves open
  pub unknown-said : filter_map unknown_in (items_written a) ≡ a.unknown
  unknown-said =
      no-front unknown_in (λ first second. refl) (λ bytes. refl)
      ∙ (passed unknown_in (map start_item a.starts) middle_items (no-starts unknown_in (λ states. refl) a.starts)
      ∙ (passed unknown_in (acc_name_item a.acc_name) (item.Acceptance a.sets (acc_written a.acceptance) ∷ last_items) (no-acc_name unknown_in (λ name. refl) a.acc_name)
      ∙ (passed unknown_in (properties_item a.properties) (map unknown_item a.unknown) (no-properties unknown_in (λ words. refl) a.properties)
      ∙ all-unknown a.unknown)))

-- ---- properties

no-words : {X : Type 0} (made : X → RawItem) → ((it : X) → properties_in (made it) ≡ []) → (items : List X) → flat_map properties_in (map made items) ≡ []
no-words made none [] = refl
no-words made none (it ∷ items) = ap (λ words. words ++ flat_map properties_in (map made items)) (none it) ∙ no-words made none items

tool-words : (it : Option Tool) → flat_map properties_in (tool_item it) ≡ []
tool-words None = refl
tool-words (Some tool) = refl

name-words : (it : Option (List ℕ)) → flat_map properties_in (name_item it) ≡ []
name-words None = refl
name-words (Some bytes) = refl

acc_name-words : (it : Option AccName) → flat_map properties_in (acc_name_item it) ≡ []
acc_name-words None = refl
acc_name-words (Some name) = refl

all-words : (words : List (List ℕ)) → flat_map properties_in (properties_item words) ≡ words
all-words [] = refl
all-words (first ∷ others) = append-nil (first ∷ others)

wordless : (first second : List RawItem) → flat_map properties_in first ≡ [] → flat_map properties_in (first ++ second) ≡ flat_map properties_in second
wordless first second none = flat_map-append properties_in first second ∙ ap (λ front. front ++ flat_map properties_in second) none

pub properties-said : (a : Description) → flat_map properties_in (items_written a) ≡ a.properties
properties-said a =
    wordless (tool_item a.tool) (name_item a.name ++ early_items a) (tool-words a.tool)
    ∙ (wordless (name_item a.name) (early_items a) (name-words a.name)
    ∙ (wordless (map start_item a.starts) (middle_items a) (no-words start_item (λ states. refl) a.starts)
    ∙ (wordless (acc_name_item a.acc_name) (item.Acceptance a.sets (acc_written a.acceptance) ∷ last_items a) (acc_name-words a.acc_name)
    ∙ (flat_map-append properties_in (properties_item a.properties) (map unknown_item a.unknown)
    ∙ (ap (λ others. flat_map properties_in (properties_item a.properties) ++ others) (no-words unknown_item (λ header. refl) a.unknown)
    ∙ (append-nil (flat_map properties_in (properties_item a.properties)) ∙ all-words a.properties))))))
