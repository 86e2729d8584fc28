-- Where an alias is used that is not defined, or is defined twice, one that is wrong is found.
use Rattle.std.proofs.Common.{◌≡◌, ℕ, Bool, true, false, not, ◌||◌, cond, Option, Some, None, is_none, is_some, option_map, List, [], ◌∷◌, ◌++◌, append-nil, append_assoc, map, refl, sym, ◌∙◌, subst}
use Rattle.std.specs.List.{AllByRecursion, flat_map, list_any}
use Rattle.std.specs.Str.{bytes_eq}
use Rattle.std.proofs.lemmas.Bool.{false≢true, not-false}
use Rattle.std.proofs.lemmas.List.{map-append}
use Rattle.omega_hoa_label_text.specs.Expanding.{Defined, Entry, Meaning, both, entries_of, in_parentheses, negated, replaced, stands_for}
use Rattle.omega_hoa_label.specs.Label.{LabelTree}
use Rattle.omega_hoa_label.specs.Label as label
use Rattle.omega_hoa_label.specs.Raw.{RawLabelTree, alias, conjunction, constant, disjunction, group, negation, proposition}
use Rattle.omega_hoa_syntax.specs.declared.raw_automaton.RawAutomaton.{RawAutomaton}
use Rattle.omega_hoa_syntax.specs.declared.raw_edge.RawEdge.{RawEdge}
use Rattle.omega_hoa_syntax.specs.declared.raw_state.RawState.{RawState}
use Rattle.omega_hoa_automaton.specs.Faults.{definitions_of, has_wrong_alias, is_labelled, passes}
use Rattle.omega_hoa_diagnostics.specs.Aliases.{AliasMention, alias_mentions, defined, definition_mentions, first_wrong_alias, is_among, label_aliases, state_mentions, used, uses_in}
use Rattle.omega_hoa_diagnostics.specs.Finding.{first_repeat}
use Rattle.omega_hoa_diagnostics.proofs.told.Repeats.{either_fails, is_there, none_repeats, not_found}

-- each name is among these
abbrev AreAmong : List (List ℕ) → List (List ℕ) → Type 0
AreAmong names these = AllByRecursion (λ name. is_among name these ≡ true) names

-- if no mention is wrong, the uses that come first are of defined names, and no mention after them is wrong
sound_uses : (names uses : List (List ℕ)) (rest : List AliasMention) → first_wrong_alias names (map used uses ++ rest) ≡ None
    → AreAmong uses names × (first_wrong_alias names rest ≡ None)
sound_uses names [] rest none = (tt, none)
sound_uses names (name ∷ uses) rest none =
    let first = not_found (not (is_among name names)) (used name) (first_wrong_alias names (map used uses ++ rest)) none in
    let later = sound_uses names uses rest first.1 in
    ((not-false (is_among name names) first.0, later.0), later.1)

-- two lists of names
front_among : (xs ys names : List (List ℕ)) → AreAmong (xs ++ ys) names → AreAmong xs names
front_among [] ys names all = tt
front_among (x ∷ xs) ys names all = (all.0, front_among xs ys names all.1)

back_among : (xs ys names : List (List ℕ)) → AreAmong (xs ++ ys) names → AreAmong ys names
back_among [] ys names all = all
back_among (x ∷ xs) ys names all = back_among xs ys names all.1

-- each entry means something
abbrev AreKnown : List Entry → Type 0
AreKnown entries = AllByRecursion (λ (entry : Entry). is_none entry.meaning ≡ false) entries

-- the names of entries
abbrev names_of : List Entry → List (List ℕ)
names_of entries = map (λ (entry : Entry). entry.name) entries

-- a name among entries that mean something means something
name_known : (entries : List Entry) (name : List ℕ) → AreKnown entries → is_among name (names_of entries) ≡ true → is_none (stands_for entries name) ≡ false
name_known [] name known among = absurd (cc)
name_known (entry ∷ entries) name known among = by_test (bytes_eq name entry.name) (name_known entries name known.1) among
  where
    by_test : (b : Bool) → (is_among name (names_of entries) ≡ true → is_none (stands_for entries name) ≡ false)
        → (b || is_among name (names_of entries)) ≡ true → is_none (cond b entry.meaning (stands_for entries name)) ≡ false
    by_test true later h = known.0
    by_test false later h = later h

map_known : {X Y : Type 0} (f : X → Y) (o : Option X) → is_none o ≡ false → is_none (option_map f o) ≡ false
map_known f None known = absurd (cc)
map_known f (Some x) known = refl

both_known : (operator : LabelTree → LabelTree → LabelTree) (left right : Option Meaning) → is_none left ≡ false → is_none right ≡ false → is_none (both operator left right) ≡ false
both_known operator None right first second = absurd (cc)
both_known operator (Some left) None first second = absurd (cc)
both_known operator (Some left) (Some right) first second = refl

-- a label whose aliases are among such entries means something
label_known : (entries : List Entry) (tree : RawLabelTree) → AreKnown entries → AreAmong (label_aliases tree) (names_of entries) → is_none (replaced entries tree) ≡ false
label_known entries (constant value) known among = refl
label_known entries (proposition number) known among = refl
label_known entries (alias name) known among = map_known in_parentheses (stands_for entries name) (name_known entries name known among.0)
label_known entries (negation part) known among = map_known negated (replaced entries part) (label_known entries part known among)
label_known entries (conjunction left right) known among =
    both_known label.conjunction (replaced entries left) (replaced entries right)
    (label_known entries left known (front_among (label_aliases left) (label_aliases right) (names_of entries) among))
    (label_known entries right known (back_among (label_aliases left) (label_aliases right) (names_of entries) among))
label_known entries (disjunction left right) known among =
    both_known label.disjunction (replaced entries left) (replaced entries right)
    (label_known entries left known (front_among (label_aliases left) (label_aliases right) (names_of entries) among))
    (label_known entries right known (back_among (label_aliases left) (label_aliases right) (names_of entries) among))
label_known entries (group part) known among = map_known in_parentheses (replaced entries part) (label_known entries part known among)

known_more : (entries : List Entry) (entry : Entry) → AreKnown entries → is_none entry.meaning ≡ false → AreKnown (entries ++ entry ∷ [])
known_more [] entry known here = (here, tt)
known_more (first ∷ entries) entry known here = (known.0, known_more entries entry known.1 here)

-- if no mention of definitions is wrong, each means something, none is repeated, and no mention after them is wrong
record Sound (before : List Entry) (definitions : List Defined) (rest : List AliasMention) : Type 0 where
  known : AreKnown (entries_of before definitions)
  single : first_repeat bytes_eq (names_of before) (map (λ (definition : Defined). definition.name) definitions) ≡ None
  rest_known : AreKnown (before ++ entries_of before definitions)
  sound : first_wrong_alias (names_of (before ++ entries_of before definitions)) rest ≡ None

sound_definitions : (before : List Entry) (definitions : List Defined) (rest : List AliasMention) → AreKnown before
    → first_wrong_alias (names_of before) (flat_map definition_mentions definitions ++ rest) ≡ None → Sound before definitions rest
sound_definitions before [] rest known none = record {
  known = tt;
  single = refl;
  rest_known = subst AreKnown (sym (append-nil before)) known;
  sound = subst (λ (entries : List Entry). first_wrong_alias (names_of entries) rest ≡ None) (sym (append-nil before)) none;
}
sound_definitions before (definition ∷ definitions) rest known none =
    let names = names_of before in
    let others = flat_map definition_mentions definitions ++ rest in
    let more = before ++ (record { name = definition.name; meaning = replaced before definition.body }) ∷ [] in
    let regrouped : (flat_map definition_mentions (definition ∷ definitions)) ++ rest ≡ map used (label_aliases definition.body) ++ (defined definition.name ∷ others) =
    append_assoc (definition_mentions definition) (flat_map definition_mentions definitions) rest
    ∙ append_assoc (map used (label_aliases definition.body)) (defined definition.name ∷ []) others in
    let uses = sound_uses names (label_aliases definition.body) (defined definition.name ∷ others) (subst (λ mentions. first_wrong_alias names mentions ≡ None) regrouped none) in
    let here = not_found (is_among definition.name names) (defined definition.name) (first_wrong_alias (names ++ definition.name ∷ []) others) uses.1 in
    let meant : is_none (replaced before definition.body) ≡ false = label_known before definition.body known uses.0 in
    let all : AreKnown more = known_more before (record { name = definition.name; meaning = replaced before definition.body }) known meant in
    let same : names_of more ≡ names ++ definition.name ∷ [] =
    map-append (λ (entry : Entry). entry.name) before ((record { name = definition.name; meaning = replaced before definition.body }) ∷ []) in
    let later = sound_definitions more definitions rest all (subst (λ these. first_wrong_alias these others ≡ None) (sym same) here.1) in
    let joined : more ++ entries_of more definitions ≡ before ++ entries_of before (definition ∷ definitions) =
    append_assoc before ((record { name = definition.name; meaning = replaced before definition.body }) ∷ []) (entries_of more definitions) in
    record {
      known = (meant, later.known);
      single = repeat_past (is_among definition.name names) definition.name
          (first_repeat bytes_eq (names ++ definition.name ∷ []) (map (λ (next : Defined). next.name) definitions)) here.0
          (subst (λ these. first_repeat bytes_eq these (map (λ (next : Defined). next.name) definitions) ≡ None) same later.single);
      rest_known = subst AreKnown joined later.rest_known;
      sound = subst (λ (entries : List Entry). first_wrong_alias (names_of entries) rest ≡ None) joined later.sound;
    }
  where
    repeat_past : (b : Bool) (name : List ℕ) (later : Option (List ℕ)) → b ≡ false → later ≡ None → cond b (Some name) later ≡ None
    repeat_past true name later fails none = absurd (cc)
    repeat_past false name later fails none = none

none_unknown : (entries : List Entry) → AreKnown entries → list_any (λ (entry : Entry). is_none entry.meaning) entries ≡ false
none_unknown [] known = refl
none_unknown (entry ∷ entries) known =
    either_fails (is_none entry.meaning) (list_any (λ (entry : Entry). is_none entry.meaning) entries) known.0 (none_unknown entries known.1)

-- the label that may be there means something
label_there_known : (entries : List Entry) (tree : Option RawLabelTree) (rest : List AliasMention) → AreKnown entries
    → first_wrong_alias (names_of entries) (uses_in tree ++ rest) ≡ None
    → (passes (λ (raw : RawLabelTree). is_none (replaced entries raw)) tree ≡ false) × (first_wrong_alias (names_of entries) rest ≡ None)
label_there_known entries None rest known none = (refl, none)
label_there_known entries (Some tree) rest known none =
    let uses = sound_uses (names_of entries) (label_aliases tree) rest none in
    (label_known entries tree known uses.0, uses.1)

edges_known : (entries : List Entry) (edges : List RawEdge) (rest : List AliasMention) → AreKnown entries
    → first_wrong_alias (names_of entries) (flat_map (λ (edge : RawEdge). uses_in edge.label) edges ++ rest) ≡ None
    → (list_any (λ (edge : RawEdge). passes (λ (raw : RawLabelTree). is_none (replaced entries raw)) edge.label) edges ≡ false)
    × (first_wrong_alias (names_of entries) rest ≡ None)
edges_known entries [] rest known none = (refl, none)
edges_known entries (edge ∷ edges) rest known none =
    let others = flat_map (λ (edge : RawEdge). uses_in edge.label) edges in
    let first = label_there_known entries edge.label (others ++ rest) known
    (subst (λ mentions. first_wrong_alias (names_of entries) mentions ≡ None) (append_assoc (uses_in edge.label) others rest) none) in
    let later = edges_known entries edges rest known first.1 in
    (either_fails _ _ first.0 later.0, later.1)

states_known : (entries : List Entry) (states : List RawState) → AreKnown entries
    → first_wrong_alias (names_of entries) (flat_map state_mentions states) ≡ None
    → list_any (is_labelled (λ (raw : RawLabelTree). is_none (replaced entries raw))) states ≡ false
states_known entries [] known none = refl
states_known entries (state ∷ states) known none =
    let edges = flat_map (λ (edge : RawEdge). uses_in edge.label) state.edges in
    let others = flat_map state_mentions states in
    let own = label_there_known entries state.label (edges ++ others) known
    (subst (λ mentions. first_wrong_alias (names_of entries) mentions ≡ None) (append_assoc (uses_in state.label) edges others) none) in
    let first = edges_known entries state.edges others known own.1 in
    either_fails _ _ (either_fails _ _ own.0 first.0) (states_known entries states known first.1)

-- if no mention is wrong, no alias is
none_wrong : (raw : RawAutomaton) → first_wrong_alias [] (alias_mentions raw) ≡ None → has_wrong_alias raw ≡ false
unfolding has_wrong_alias
none_wrong raw none =
    let sound = sound_definitions [] (definitions_of raw) (flat_map state_mentions raw.states) tt none in
    either_fails _ _
    (none_repeats bytes_eq [] (map (λ (definition : Defined). definition.name) (definitions_of raw)) sound.single)
    (either_fails _ _ (none_unknown (entries_of [] (definitions_of raw)) sound.known)
    (states_known (entries_of [] (definitions_of raw)) raw.states sound.known sound.sound))

-- an alias that is wrong is found
pub alias_is_found : (raw : RawAutomaton) → has_wrong_alias raw ≡ true → is_some (first_wrong_alias [] (alias_mentions raw)) ≡ true
alias_is_found raw wrong =
    is_there (first_wrong_alias [] (alias_mentions raw)) (λ none. false≢true (sym (none_wrong raw none) ∙ wrong))
