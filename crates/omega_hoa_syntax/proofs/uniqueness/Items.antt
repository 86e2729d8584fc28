-- Tokens begin with at most one item of a header.
use Rattle.std.proofs.Common.{◌≡◌, ℕ, List, Option, ◌∷◌, refl, sym, ap, ◌∙◌}
use Rattle.omega_hoa_acceptance.specs.Reading.{FormulasAreOne, ReadsAcc}
use Rattle.omega_hoa_acceptance.specs.Raw.{RawAccTree}
use Rattle.omega_hoa_label.specs.Raw.{RawLabelTree}
use Rattle.omega_hoa_label_text.specs.Reading.{LabelsAreOne, Reads}
use Rattle.omega_hoa_acceptance.specs.declared.name.AccName.{AccName}
use Rattle.omega_hoa_syntax.proofs.ContentLemmas.{acc_name_same, header_named-item_name, of_acc_name, of_acceptance, of_alias, of_properties, of_propositions, of_start, of_state_count, of_title, of_tool, of_unknown}
use Rattle.omega_hoa_syntax.proofs.FollowLemmas.{all_any, parameters_end, some_any, start_ends, strings_end, values_end, words_end}
use Rattle.omega_hoa_syntax.proofs.PartLemmas.{IsPart}
use Rattle.omega_hoa_syntax.proofs.uniqueness.Body.{conj_one, string_part}
use Rattle.omega_hoa_syntax.proofs.uniqueness.Rows.{IsOne, each_one, optional_one, parameter_one, string_one, value_one, word_one}
use Rattle.omega_hoa_syntax.proofs.uniqueness.Tokens.{Both, expression_one, token_one}
use Rattle.omega_hoa_syntax.specs.private.steps.Beginnings.{item_begun, item_follows, parameter_begun, value_begun}
use Rattle.omega_hoa_syntax.specs.Grammar.{IsRawItem, content_row, each, header_named, item_name, item_row, optional_row, parameter_row, string_row, value_row, word_row}
use Rattle.omega_hoa_syntax.specs.private.steps.Joining.{item_joins, parameter_joins, value_joins}
use Rattle.omega_hoa_syntax.specs.private.steps.Rows.{item_header}
use Rattle.omega_hoa_syntax.specs.private.steps.Parts.{EndsItem, is_header, is_identifier, is_parameter, is_string, is_value}
use Rattle.omega_hoa_syntax.specs.private.steps.Reading.{IsAny, IsKind}
use Rattle.omega_hoa_syntax.specs.Symbols.{ReadsSymbols, AutomatonSymbol, Tokens, alias, formula, header, label, number, text, word}
use Rattle.omega_hoa_syntax.specs.First.{FirstIs}
use Rattle.omega_hoa_syntax.specs.declared.header_value.HeaderValue.{HeaderValue}
use Rattle.omega_hoa_syntax.specs.declared.raw_item.RawItem.{RawItem}
use Rattle.omega_hoa_syntax.specs.declared.raw_item.RawItem.TheVariants as item

word_part : IsPart IsAny word_row is_identifier IsKind
word_part = record { begun = λ it others is. refl; joins = λ it others. refl; follows = λ kind is. tt }

parameter_part : IsPart IsAny parameter_row is_parameter IsKind
parameter_part = record { begun = parameter_begun; joins = parameter_joins; follows = λ kind is. tt }

value_part : IsPart IsAny value_row is_value IsKind
value_part = record { begun = value_begun; joins = value_joins; follows = λ kind is. tt }

pub item_part : IsPart IsRawItem item_row is_header EndsItem
item_part = record { begun = item_begun; joins = item_joins; follows = item_follows }

module _ (labels : LabelsAreOne) (formulas : FormulasAreOne) (tokens : Tokens) (others more : List AutomatonSymbol) (rest left : Tokens) (ends : FirstIs EndsItem others) (last : FirstIs EndsItem more) where
  -- an item that is read in place of another that is written is that item
  abbrev IsSame : RawItem → RawItem → Type 0
  IsSame x y = ReadsSymbols tokens (content_row x others) rest → ReadsSymbols tokens (content_row y more) left → (x ≡ y) × Both others more rest left

  state_count_one : (x y : ℕ) → IsSame (item.States x) (item.States y)
  state_count_one x y spells reads =
      let a = token_one (number x) (number y) tokens others more rest left tt tt spells reads in
      (let same : number x ≡ number y = a.0 in cc, a.1)

  start_one : (x y : List ℕ) → IsRawItem (item.Start x) → IsRawItem (item.Start y) → IsSame (item.Start x) (item.Start y)
  start_one x y is so spells reads =
      let a = conj_one tokens x y others more rest left is so (start_ends others ends) (start_ends more last) spells reads in
      (ap item.Start a.0, a.1)

  propositions_one : (n m : ℕ) (x y : List (List ℕ)) → IsSame (item.Propositions n x) (item.Propositions m y)
  propositions_one n m x y spells reads =
      let a = token_one (number n) (number m) tokens (each string_row x others) (each string_row y more) rest left tt tt spells reads in
      let b = each_one IsAny string_row is_string IsKind string_part (string_one (FirstIs IsKind)) a.1.middle x y others more rest left (all_any x) (all_any y) (strings_end others ends) (strings_end more last) a.1.one a.1.other in
      (let count : number n ≡ number m = a.0 in let names = b.0 in cc, b.1)

  alias_one : (n m : List ℕ) (x y : RawLabelTree) → IsSame (item.Alias n x) (item.Alias m y)
  alias_one n m x y spells reads =
      let a = token_one (alias n) (alias m) tokens (label x ∷ others) (label y ∷ more) rest left tt tt spells reads in
      let b = expression_one Reads labels x y a.1.middle others more rest left a.1.one a.1.other in
      (let name : alias n ≡ alias m = a.0 in let definition = b.0 in cc, b.1)

  acceptance_one : (n m : ℕ) (x y : RawAccTree) → IsSame (item.Acceptance n x) (item.Acceptance m y)
  acceptance_one n m x y spells reads =
      let a = token_one (number n) (number m) tokens (formula x ∷ others) (formula y ∷ more) rest left tt tt spells reads in
      let b = expression_one ReadsAcc formulas x y a.1.middle others more rest left a.1.one a.1.other in
      (let count : number n ≡ number m = a.0 in let tree = b.0 in cc, b.1)

  acc_name_one : (x y : AccName) → IsSame (item.AccName x) (item.AccName y)
  acc_name_one x y spells reads =
      let a = token_one (word x.name) (word y.name) tokens (each parameter_row x.parameters others) (each parameter_row y.parameters more) rest left tt tt spells reads in
      let b = each_one IsAny parameter_row is_parameter IsKind parameter_part (parameter_one (FirstIs IsKind)) a.1.middle x.parameters y.parameters others more rest left
      (all_any x.parameters) (all_any y.parameters) (parameters_end others ends) (parameters_end more last) a.1.one a.1.other in
      let name : x.name ≡ y.name = let same : word x.name ≡ word y.name = a.0 in cc in
      (acc_name_same x.name x.parameters y name b.0, b.1)

  tool_one : (n m : List ℕ) (x y : Option (List ℕ)) → IsSame (item.Tool n x) (item.Tool m y)
  tool_one n m x y spells reads =
      let a = token_one (text n) (text m) tokens (optional_row string_row x others) (optional_row string_row y more) rest left tt tt spells reads in
      let b = optional_one IsAny string_row is_string IsKind string_part (string_one (FirstIs IsKind)) a.1.middle x y others more rest left (some_any x) (some_any y) (strings_end others ends) (strings_end more last) a.1.one a.1.other in
      (let first : text n ≡ text m = a.0 in let second = b.0 in cc, b.1)

  title_one : (x y : List ℕ) → IsSame (item.Name x) (item.Name y)
  title_one x y spells reads =
      let a = token_one (text x) (text y) tokens others more rest left tt tt spells reads in
      (let same : text x ≡ text y = a.0 in cc, a.1)

  properties_one : (x y : List (List ℕ)) → IsSame (item.Properties x) (item.Properties y)
  properties_one x y spells reads =
      let a = each_one IsAny word_row is_identifier IsKind word_part (word_one (FirstIs IsKind)) tokens x y others more rest left (all_any x) (all_any y) (words_end others ends) (words_end more last) spells reads in
      (ap item.Properties a.0, a.1)

  unknown_one : (n m : List ℕ) (x y : List HeaderValue) → m ≡ n → IsSame (item.Unknown n x) (item.Unknown m y)
  unknown_one n m x y name spells reads =
      let a = each_one IsAny value_row is_value IsKind value_part (value_one (FirstIs IsKind)) tokens x y others more rest left (all_any x) (all_any y) (values_end others ends) (values_end more last) spells reads in
      (let values = a.0 in cc, a.1)

  -- items of one header and one name
  content_one : (x y : RawItem) → IsRawItem x → IsRawItem y → item_header y ≡ item_header x → item_name y ≡ item_name x → IsSame x y
  content_one (item.States n) y is so same name = of_state_count (IsSame (item.States n)) (state_count_one n) y same
  content_one (item.Start x) y is so same name = of_start (λ y. IsRawItem y → IsSame (item.Start x) y) (λ states so. start_one x states is so) y same so
  content_one (item.Propositions n x) y is so same name = of_propositions (IsSame (item.Propositions n x)) (λ m names. propositions_one n m x names) y same
  content_one (item.Alias n x) y is so same name = of_alias (IsSame (item.Alias n x)) (λ m tree. alias_one n m x tree) y same
  content_one (item.Acceptance n x) y is so same name = of_acceptance (IsSame (item.Acceptance n x)) (λ m tree. acceptance_one n m x tree) y same
  content_one (item.AccName x) y is so same name = of_acc_name (IsSame (item.AccName x)) (acc_name_one x) y same
  content_one (item.Tool n x) y is so same name = of_tool (IsSame (item.Tool n x)) (λ m second. tool_one n m x second) y same
  content_one (item.Name x) y is so same name = of_title (IsSame (item.Name x)) (title_one x) y same
  content_one (item.Properties x) y is so same name = of_properties (IsSame (item.Properties x)) (properties_one x) y same
  content_one (item.Unknown n x) y is so same name = of_unknown (λ y. item_name y ≡ n → IsSame (item.Unknown n x) y) (λ m values name. unknown_one n m x values name) y same name

pub item_one : LabelsAreOne → FormulasAreOne → IsOne IsRawItem item_row (FirstIs EndsItem)
item_one labels formulas tokens x y others more rest left is so ends last spells reads =
    let a = token_one (header (item_name x)) (header (item_name y)) tokens (content_row x others) (content_row y more) rest left tt tt spells reads in
    let name : item_name y ≡ item_name x = let same : header (item_name x) ≡ header (item_name y) = a.0 in cc in
    content_one labels formulas a.1.middle others more rest left ends last x y is so (sym (header_named-item_name y so) ∙ (ap header_named name ∙ header_named-item_name x is)) name a.1.one a.1.other
