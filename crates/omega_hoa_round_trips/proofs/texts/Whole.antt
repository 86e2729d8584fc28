-- The whole canonical text is the tokens of the automaton as it is written, whatever comes after it.
use Rattle.std.proofs.Common.{◌≡◌, ℕ, Option, Some, None, List, [], ◌∷◌, ◌++◌, codes, length, map, append_assoc, append-nil, refl, sym, subst, arith, lit<}
use Rattle.std.specs.List.{AllByRecursion, flat_map}
use Rattle.std.proofs.lemmas.List.Sums.{AllPass-from_list_all}
use Rattle.omega_text.specs.Bytes.{is_word_byte}
use Rattle.omega_text.specs.declared.hoa.kind.HoaKind.TheVariants as kind
use Rattle.omega_text.specs.hoa.Forms.{IsForm}
use Rattle.omega_hoa_expression.specs.Symbols.{IsNoOperator}
use Rattle.omega_hoa_acceptance.specs.Writing.{acc_written}
use Rattle.omega_hoa_acceptance.specs.declared.name.AccName.{AccName}
use Rattle.omega_hoa_syntax.specs.Grammar.{IsRawEdge, IsRawItem, IsRawState, ReadsAutomaton, each, item_row, automaton_symbols, state_row}
use Rattle.omega_hoa_syntax.specs.Symbols.{ReadsSymbols, AutomatonSymbol, Tokens, sign}
use Rattle.omega_hoa_syntax.specs.First.{FirstIs}
use Rattle.omega_hoa_syntax.specs.declared.raw_item.RawItem.{RawItem}
use Rattle.omega_hoa_syntax.specs.declared.raw_item.RawItem.TheVariants as item
use Rattle.omega_hoa_automaton.specs.Automaton.{Description}
use Rattle.omega_hoa_automaton.specs.declared.header.Header.{Header}
use Rattle.omega_hoa_automaton.specs.declared.state.State.{State}
use Rattle.omega_hoa_automaton.specs.declared.tool.Tool.{Tool}
use Rattle.omega_canon.specs.BodyText.{state_text}
use Rattle.omega_canon.specs.Canonical.{canonical_automaton}
use Rattle.omega_canon.specs.HeaderText.{acc_name_line, acceptance_line, name_line, properties_line, propositions_line, start_line, states_line, tool_line, unknown_line}
use Rattle.omega_hoa_round_trips.specs.Laws.{IsRawText}
use Rattle.omega_hoa_round_trips.specs.Writable.{AreJoined, IsWritableAutomaton, IsWritableEdge, IsWritableHeader, IsWritableState}
use Rattle.omega_hoa_round_trips.specs.Written.{acc_name_item, edge_written, items_written, name_item, properties_item, start_item, state_written, tool_item, unknown_item, written_automaton}
use Rattle.omega_hoa_round_trips.proofs.streams.After.{spelled_before}
use Rattle.omega_hoa_round_trips.proofs.texts.Items.{acc_name-spelled, acceptance-spelled, name-spelled, properties-spelled, propositions-spelled, start-spelled, states-spelled, tool-spelled, unknown-spelled}
use Rattle.omega_hoa_round_trips.proofs.texts.Lists.{Any, all-append, all-map, all-then, each-append, each-map, each-spelled}
use Rattle.omega_hoa_round_trips.proofs.texts.Pieces.{apart-line}
use Rattle.omega_hoa_round_trips.proofs.texts.Spelled.{IsSpelled, Known, header-spelled, line-spelled, nothing-spelled, sign-spelled, space-spelled, word-spelled}
use Rattle.omega_hoa_round_trips.proofs.texts.States.{states-spelled as body-states-spelled}

-- the items of two lists
items-spelled : (text : List ℕ) (first second : List RawItem) (symbols : List AutomatonSymbol) → IsSpelled text (each item_row first (each item_row second symbols))
    → IsSpelled text (each item_row (first ++ second) symbols)
items-spelled text first second symbols automaton_symbols = subst (IsSpelled text) (sym (each-append item_row first second symbols)) automaton_symbols

-- the lines `Start:`
starts-spelled : Known → (starts : List (List ℕ)) (following : List ℕ) (symbols : List AutomatonSymbol) → AllByRecursion AreJoined starts
    → IsSpelled following symbols → IsSpelled (flat_map start_line starts ++ following) (each item_row (map start_item starts) symbols)
starts-spelled known starts following symbols all automaton_symbols =
    subst (IsSpelled (flat_map start_line starts ++ following)) (sym (each-map item_row start_item starts symbols))
    (each-spelled start_line (λ it. item_row (start_item it)) AreJoined Any (λ it rest may. tt)
    (λ it rest others is may then. start-spelled known it rest others is then) starts following symbols all tt automaton_symbols)

-- the headers that the format leaves open
headers-spelled : Known → (headers : List Header) (following : List ℕ) (symbols : List AutomatonSymbol) → AllByRecursion IsWritableHeader headers
    → IsSpelled following symbols → IsSpelled (flat_map unknown_line headers ++ following) (each item_row (map unknown_item headers) symbols)
headers-spelled known headers following symbols all automaton_symbols =
    subst (IsSpelled (flat_map unknown_line headers ++ following)) (sym (each-map item_row unknown_item headers symbols))
    (each-spelled unknown_line (λ it. item_row (unknown_item it)) IsWritableHeader Any (λ it rest may. tt)
    (λ it rest others is may then. unknown-spelled known it rest others is then) headers following symbols all tt automaton_symbols)

-- items begin with no operator
first-item : (items : List RawItem) (symbols : List AutomatonSymbol) → FirstIs IsNoOperator symbols → FirstIs IsNoOperator (each item_row items symbols)
first-item [] symbols first = first
first-item (it ∷ items) symbols first = tt

-- the text of the body before other bytes
abbrev body_before : List State → List ℕ → List ℕ
body_before states following = codes "--BODY--\n" ++ (flat_map state_text states ++ (codes "--END--\n" ++ following))

-- the symbols of the body, and then others
abbrev body_symbols : List State → List AutomatonSymbol → List AutomatonSymbol
body_symbols states others = sign kind.Body ∷ each state_row (map state_written states) (sign kind.End ∷ others)

-- the body
body-spelled : Known → (states : List State) (following : List ℕ) (others : List AutomatonSymbol) → AllByRecursion IsWritableState states
    → IsSpelled following others → IsSpelled (body_before states following) (body_symbols states others)
body-spelled known states following others all automaton_symbols =
    sign-spelled kind.Body (codes "--BODY--") _ _ (refl, refl) (known.closed kind.Body (codes "--BODY--") _ refl refl)
    (line-spelled (body-states-spelled known states (codes "--END--\n" ++ following) (sign kind.End ∷ others) all
    (sign-spelled kind.End (codes "--END--") (10 ∷ following) others (refl, refl) (known.closed kind.End (codes "--END--") _ refl refl) (line-spelled automaton_symbols))))

-- the version is an identifier
is-version : IsForm kind.Identifier (codes "v1")
is-version = ((lit< tt, refl, AllPass-from_list_all is_word_byte (codes "v1") refl), λ is. cc, λ is. cc)

-- the lines after the first one
module _ (known : Known) (a : Description) (is : IsWritableAutomaton a) (following : List ℕ) (others : List AutomatonSymbol) (spelled-following : IsSpelled following others) where
  abbrev symbols : List AutomatonSymbol
  symbols = body_symbols a.defined others

  abbrev after_acceptance : List RawItem
  after_acceptance = properties_item a.properties ++ map unknown_item a.unknown

  abbrev after_acceptance_text : List ℕ
  after_acceptance_text = properties_line a.properties ++ (flat_map unknown_line a.unknown ++ body_before a.defined following)

  rest-spelled : IsSpelled after_acceptance_text (each item_row after_acceptance symbols)
  rest-spelled =
      items-spelled _ (properties_item a.properties) (map unknown_item a.unknown) symbols
      (properties-spelled known a.properties _ _ is.properties (headers-spelled known a.unknown _ symbols is.unknown (body-spelled known a.defined following others is.defined spelled-following)))

  abbrev after_starts : List RawItem
  after_starts = item.Propositions (length a.propositions) a.propositions ∷ (acc_name_item a.acc_name ++ (item.Acceptance a.sets (acc_written a.acceptance) ∷ after_acceptance))

  abbrev after_starts_text : List ℕ
  after_starts_text = propositions_line a.propositions ++ (acc_name_line a.acc_name ++ (acceptance_line a.sets a.acceptance ++ after_acceptance_text))

  back-spelled : IsSpelled after_starts_text (each item_row after_starts symbols)
  back-spelled =
      propositions-spelled known a.propositions _ _ is.count is.propositions
      (items-spelled _ (acc_name_item a.acc_name) (item.Acceptance a.sets (acc_written a.acceptance) ∷ after_acceptance) symbols
      (acc_name-spelled known a.acc_name _ _ is.acc_name
      (acceptance-spelled known a.sets a.acceptance _ _ is.sets is.acceptance (first-item after_acceptance symbols tt) rest-spelled)))

  abbrev front_text : List ℕ
  front_text = tool_line a.tool ++ (name_line a.name ++ (states_line a.states ++ (flat_map start_line a.starts ++ after_starts_text)))

  front-spelled : IsSpelled front_text (each item_row (items_written a) symbols)
  front-spelled =
      items-spelled _ (tool_item a.tool) (name_item a.name ++ (item.States a.states ∷ (map start_item a.starts ++ after_starts))) symbols
      (tool-spelled known a.tool _ _ is.tool
      (items-spelled _ (name_item a.name) (item.States a.states ∷ (map start_item a.starts ++ after_starts)) symbols
      (name-spelled known a.name _ _ is.name
      (states-spelled known a.states _ _ is.states
      (items-spelled _ (map start_item a.starts) after_starts symbols
      (starts-spelled known a.starts _ _ is.starts back-spelled))))))

  text-apart : canonical_automaton a ++ following ≡ codes "HOA: v1\n" ++ front_text
  text-apart = simp append_assoc

  -- the text of an automaton before others
  pub whole-spelled : IsSpelled (canonical_automaton a ++ following) (spelled_before (written_automaton a) others)
  whole-spelled =
      subst (λ text. IsSpelled text (spelled_before (written_automaton a) others)) (sym text-apart)
      (header-spelled known (codes "HOA") _ _ (lit< tt, refl, AllPass-from_list_all is_word_byte (codes "HOA") refl)
      (space-spelled (word-spelled known (codes "v1") (10 ∷ front_text) _ is-version (apart-line front_text) (line-spelled front-spelled))))

-- ---- that it can be written

written-tool : (it : Option Tool) → AllByRecursion IsRawItem (tool_item it)
written-tool None = tt
written-tool (Some tool) = (tt, tt)

written-name : (it : Option (List ℕ)) → AllByRecursion IsRawItem (name_item it)
written-name None = tt
written-name (Some bytes) = (tt, tt)

written-acc_name : (it : Option AccName) → AllByRecursion IsRawItem (acc_name_item it)
written-acc_name None = tt
written-acc_name (Some name) = (tt, tt)

written-properties : (names : List (List ℕ)) → AllByRecursion IsRawItem (properties_item names)
written-properties [] = tt
written-properties (first ∷ others) = (tt, tt)

written-items : (a : Description) → IsWritableAutomaton a → AllByRecursion IsRawItem (items_written a)
written-items a is =
    all-append IsRawItem (tool_item a.tool) _ (written-tool a.tool)
    (all-append IsRawItem (name_item a.name) _ (written-name a.name) (
      tt,
      all-append IsRawItem (map start_item a.starts) _ (all-map IsRawItem start_item a.starts (all-then AreJoined (λ states. IsRawItem (start_item states)) (λ it are. are.listed) a.starts is.starts)) (
        tt,
        all-append IsRawItem (acc_name_item a.acc_name) _ (written-acc_name a.acc_name) (
          tt,
          all-append IsRawItem (properties_item a.properties) _ (written-properties a.properties)
              (all-map IsRawItem unknown_item a.unknown (all-then IsWritableHeader (λ it. IsRawItem (unknown_item it)) (λ it are. are.unknown) a.unknown is.unknown)),
        ),
      ),
    ))

written-states : (states : List State) → AllByRecursion IsWritableState states → AllByRecursion IsRawState (map state_written states)
written-states states all =
    all-map IsRawState state_written states (all-then IsWritableState (λ state. IsRawState (state_written state))
    (λ state is. all-map IsRawEdge edge_written state.edges (all-then IsWritableEdge (λ edge. IsRawEdge (edge_written edge)) (λ edge are. are.targets.listed) state.edges is.edges))
    states all)

-- tokens that spell it so are read as the automaton as it is written
pub written-reads : (a : Description) (tokens rest : Tokens) → IsWritableAutomaton a → ReadsSymbols tokens (automaton_symbols (written_automaton a)) rest → ReadsAutomaton tokens (written_automaton a) rest
written-reads a tokens rest is spells = record { items = written-items a is; states = written-states a.defined is.defined; spells = spells }

-- the canonical text of an automaton is that of the automaton as it is written
pub canonical-spelled : Known → (a : Description) → IsWritableAutomaton a → IsRawText (canonical_automaton a) (written_automaton a)
canonical-spelled known a is =
    let whole : IsSpelled (canonical_automaton a) (automaton_symbols (written_automaton a)) =
    subst (λ text. IsSpelled text (automaton_symbols (written_automaton a))) (append-nil (canonical_automaton a)) (whole-spelled known a is [] [] nothing-spelled) in
    let there = whole.there (canonical_automaton a) 0 (omega arith) refl in
    record {
      lexemes = there.tokens;
      cut = record { end = there.end; cuts = there.cuts; rest = there.rest };
      written = written-reads a there.tokens [] is there.spells;
    }
