-- The lines of the header: each is the tokens of an item.
use Rattle.std.proofs.Common.{◌≡◌, ℕ, Option, Some, None, List, [], ◌∷◌, ◌++◌, codes, decimal, length, append_assoc, refl, sym, subst, lit<}
use Rattle.std.specs.Prelude.{IfSome}
use Rattle.std.specs.List.{AllByRecursion, flat_map}
use Rattle.std.proofs.lemmas.List.Sums.{AllPass-from_list_all}
use Rattle.omega_text.specs.Bytes.{is_word_byte}
use Rattle.omega_text.specs.hoa.Forms.{IsQuotable}
use Rattle.omega_hoa_acceptance.specs.Acceptance.{AccTree}
use Rattle.omega_hoa_expression.specs.Symbols.{IsNoOperator}
use Rattle.omega_hoa_acceptance.specs.Writing.{acc_text}
use Rattle.omega_hoa_acceptance.specs.Writing.{SetsFit, acc_written}
use Rattle.omega_hoa_acceptance.specs.declared.name.AccName.{AccName}
use Rattle.omega_hoa_syntax.specs.Grammar.{each, item_row}
use Rattle.omega_hoa_syntax.specs.First.{FirstIs}
use Rattle.omega_hoa_syntax.specs.Symbols.{AutomatonSymbol}
use Rattle.omega_hoa_syntax.specs.declared.raw_item.RawItem.TheVariants as item
use Rattle.omega_hoa_automaton.specs.declared.header.Header.{Header}
use Rattle.omega_hoa_automaton.specs.declared.tool.Tool.{Tool}
use Rattle.omega_canon.specs.HeaderText.{acc_name_line, acceptance_line, name_line, parameter_part, properties_line, propositions_line, start_line, states_line, tool_line, unknown_line, value_part}
use Rattle.omega_canon.specs.Parts.{conjunction, quoted_string, string_part, strings, words}
use Rattle.omega_hoa_round_trips.specs.Writable.{AreJoined, IsWritableNumber, IsIdentifier, IsWritableHeader, IsWritableName, IsWritableTool}
use Rattle.omega_hoa_round_trips.specs.Written.{acc_name_item, name_item, properties_item, start_item, tool_item, unknown_item}
use Rattle.omega_hoa_round_trips.proofs.texts.Expressions.{formula-spelled}
use Rattle.omega_hoa_round_trips.proofs.texts.Pieces.{apart-line, apart-parameters, apart-space, apart-strings, conjunction-spelled, parameters-spelled, string_part-spelled, strings-spelled, values-spelled, words-spelled}
use Rattle.omega_hoa_round_trips.proofs.texts.Spelled.{IsSpelled, Known, header-spelled, line-spelled, number-spelled, space-spelled, string-spelled, word-spelled}

-- `tool:`
pub tool-spelled : Known → (it : Option Tool) (following : List ℕ) (symbols : List AutomatonSymbol) → IfSome it IsWritableTool
    → IsSpelled following symbols → IsSpelled (tool_line it ++ following) (each item_row (tool_item it) symbols)
tool-spelled known None following symbols is spelled = spelled
tool-spelled known (Some tool) following symbols is spelled =
    let apart : ((32 ∷ quoted_string tool.name) ++ (string_part tool.version ++ 10 ∷ [])) ++ following ≡ 32 ∷ (quoted_string tool.name ++ (string_part tool.version ++ (10 ∷ following))) = simp append_assoc in
    subst (λ bytes. IsSpelled (codes "tool:" ++ bytes) (each item_row (tool_item (Some tool)) symbols)) (sym apart)
    (header-spelled known (codes "tool") _ _ (lit< tt, refl, AllPass-from_list_all is_word_byte (codes "tool") refl)
    (space-spelled (string-spelled known tool.name _ _ is.name
    (string_part-spelled known tool.version (10 ∷ following) symbols is.version (line-spelled spelled)))))

-- `name:`
pub name-spelled : Known → (it : Option (List ℕ)) (following : List ℕ) (symbols : List AutomatonSymbol) → IfSome it IsQuotable
    → IsSpelled following symbols → IsSpelled (name_line it ++ following) (each item_row (name_item it) symbols)
name-spelled known None following symbols is spelled = spelled
name-spelled known (Some bytes) following symbols is spelled =
    subst (λ text. IsSpelled (codes "name:" ++ text) (each item_row (name_item (Some bytes)) symbols)) (sym (append_assoc (32 ∷ quoted_string bytes) (10 ∷ []) following))
    (header-spelled known (codes "name") _ _ (lit< tt, refl, AllPass-from_list_all is_word_byte (codes "name") refl)
    (space-spelled (string-spelled known bytes (10 ∷ following) symbols is (line-spelled spelled))))

-- `States:`
pub states-spelled : Known → (count : ℕ) (following : List ℕ) (symbols : List AutomatonSymbol) → IsWritableNumber count
    → IsSpelled following symbols → IsSpelled (states_line count ++ following) (item_row (item.States count) symbols)
states-spelled known count following symbols fits spelled =
    subst (λ text. IsSpelled (codes "States: " ++ text) (item_row (item.States count) symbols)) (sym (append_assoc (decimal count) (10 ∷ []) following))
    (header-spelled known (codes "States") _ _ (lit< tt, refl, AllPass-from_list_all is_word_byte (codes "States") refl)
    (space-spelled (number-spelled known count (10 ∷ following) symbols fits (apart-line following) (line-spelled spelled))))

-- `Start:`
pub start-spelled : Known → (states : List ℕ) (following : List ℕ) (symbols : List AutomatonSymbol) → AreJoined states
    → IsSpelled following symbols → IsSpelled (start_line states ++ following) (item_row (start_item states) symbols)
start-spelled known states following symbols are spelled =
    subst (λ text. IsSpelled (codes "Start: " ++ text) (item_row (start_item states) symbols)) (sym (append_assoc (conjunction states) (10 ∷ []) following))
    (header-spelled known (codes "Start") _ _ (lit< tt, refl, AllPass-from_list_all is_word_byte (codes "Start") refl)
    (space-spelled (conjunction-spelled known states (10 ∷ following) symbols are (apart-line following) (line-spelled spelled))))

-- `AP:`
pub propositions-spelled : Known → (names : List (List ℕ)) (following : List ℕ) (symbols : List AutomatonSymbol) → IsWritableNumber (length names) → AllByRecursion IsQuotable names
    → IsSpelled following symbols → IsSpelled (propositions_line names ++ following) (item_row (item.Propositions (length names) names) symbols)
propositions-spelled known names following symbols fits all spelled =
    let apart : (decimal (length names) ++ (strings names ++ 10 ∷ [])) ++ following ≡ decimal (length names) ++ (strings names ++ (10 ∷ following)) = simp append_assoc in
    subst (λ text. IsSpelled (codes "AP: " ++ text) (item_row (item.Propositions (length names) names) symbols)) (sym apart)
    (header-spelled known (codes "AP") _ _ (lit< tt, refl, AllPass-from_list_all is_word_byte (codes "AP") refl)
    (space-spelled (number-spelled known (length names) _ _ fits (apart-strings names (10 ∷ following) (apart-line following))
    (strings-spelled known names (10 ∷ following) symbols all (apart-line following) (line-spelled spelled)))))

-- `acc-name:`
pub acc_name-spelled : Known → (it : Option AccName) (following : List ℕ) (symbols : List AutomatonSymbol) → IfSome it IsWritableName
    → IsSpelled following symbols → IsSpelled (acc_name_line it ++ following) (each item_row (acc_name_item it) symbols)
acc_name-spelled known None following symbols is spelled = spelled
acc_name-spelled known (Some name) following symbols is spelled =
    let apart : (name.name ++ (flat_map parameter_part name.parameters ++ 10 ∷ [])) ++ following ≡ name.name ++ (flat_map parameter_part name.parameters ++ (10 ∷ following)) = simp append_assoc in
    subst (λ text. IsSpelled (codes "acc-name: " ++ text) (each item_row (acc_name_item (Some name)) symbols)) (sym apart)
    (header-spelled known (codes "acc-name") _ _ (lit< tt, refl, AllPass-from_list_all is_word_byte (codes "acc-name") refl)
    (space-spelled (word-spelled known name.name _ _ is.name_is (apart-parameters name.parameters (10 ∷ following) (apart-line following))
    (parameters-spelled known name.parameters (10 ∷ following) symbols is.parameters (apart-line following) (line-spelled spelled)))))

-- `Acceptance:`, before what begins with no operator
pub acceptance-spelled : Known → (sets : ℕ) (tree : AccTree) (following : List ℕ) (symbols : List AutomatonSymbol) → IsWritableNumber sets → SetsFit tree → FirstIs IsNoOperator symbols
    → IsSpelled following symbols → IsSpelled (acceptance_line sets tree ++ following) (item_row (item.Acceptance sets (acc_written tree)) symbols)
acceptance-spelled known sets tree following symbols fits fit first spelled =
    let apart : (decimal sets ++ ((32 ∷ (acc_text tree).bytes) ++ 10 ∷ [])) ++ following ≡ decimal sets ++ (32 ∷ ((acc_text tree).bytes ++ (10 ∷ following))) = simp append_assoc in
    subst (λ text. IsSpelled (codes "Acceptance: " ++ text) (item_row (item.Acceptance sets (acc_written tree)) symbols)) (sym apart)
    (header-spelled known (codes "Acceptance") _ _ (lit< tt, refl, AllPass-from_list_all is_word_byte (codes "Acceptance") refl)
    (space-spelled (number-spelled known sets _ _ fits (apart-space _)
    (space-spelled (formula-spelled known tree (10 ∷ following) symbols fit (apart-line following) first (line-spelled spelled))))))

-- `properties:`
pub properties-spelled : Known → (names : List (List ℕ)) (following : List ℕ) (symbols : List AutomatonSymbol) → AllByRecursion IsIdentifier names
    → IsSpelled following symbols → IsSpelled (properties_line names ++ following) (each item_row (properties_item names) symbols)
properties-spelled known [] following symbols all spelled = spelled
properties-spelled known (first ∷ others) following symbols all spelled =
    subst (λ text. IsSpelled (codes "properties:" ++ text) (each item_row (properties_item (first ∷ others)) symbols))
    (sym (append_assoc (words (first ∷ others)) (10 ∷ []) following))
    (header-spelled known (codes "properties") _ _ (lit< tt, refl, AllPass-from_list_all is_word_byte (codes "properties") refl)
    (words-spelled known (first ∷ others) (10 ∷ following) symbols all (apart-line following) (line-spelled spelled)))

-- a header that the format leaves open
pub unknown-spelled : Known → (it : Header) (following : List ℕ) (symbols : List AutomatonSymbol) → IsWritableHeader it
    → IsSpelled following symbols → IsSpelled (unknown_line it ++ following) (item_row (unknown_item it) symbols)
unknown-spelled known it following symbols is spelled =
    let apart : (it.name ++ (58 ∷ (flat_map value_part it.values ++ 10 ∷ []))) ++ following ≡ it.name ++ 58 ∷ (flat_map value_part it.values ++ (10 ∷ following)) = simp append_assoc in
    subst (λ text. IsSpelled text (item_row (unknown_item it) symbols)) (sym apart)
    (header-spelled known it.name _ _ is.word
    (values-spelled known it.values (10 ∷ following) symbols is.values (apart-line following) (line-spelled spelled)))
