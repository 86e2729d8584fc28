-- Items by their headers.
use Rattle.std.proofs.Common.{◌≡◌, ℕ, Bool, true, false, List, [], ◌∷◌, ◌++◌, Option, refl, sym, ap, ◌∙◌, subst, codes, if◌then◌else◌, Result, Ok, Err}
use Rattle.std.proofs.lemmas.Slice.Eq.{bytes_eq-Decides}
use Rattle.std.specs.Str.{bytes_eq}
use Rattle.omega_hoa_acceptance.specs.Raw.{RawAccTree}
use Rattle.omega_hoa_label.specs.Raw.{RawLabelTree}
use Rattle.omega_hoa_acceptance.specs.declared.name.AccName.{AccName}
use Rattle.omega_hoa_acceptance.specs.declared.name.Parameter.{Parameter}
use Rattle.omega_hoa_expression.proofs.UnreadLemmas.{first_after, first_missing, first_next}
use Rattle.omega_hoa_expression.specs.Passing.{IsMissing}
use Rattle.omega_hoa_expression.specs.Unread.{AgreeThroughNext, IsFirstUnread, IsUnread}
use Rattle.omega_hoa_syntax.proofs.BegunLemmas.{headed, header_first}
use Rattle.omega_hoa_syntax.proofs.SpellingLemmas.{missing_symbol, token_taken}
use Rattle.omega_hoa_syntax.specs.private.steps.Contents.{FindsContent, FindsUnknown, FindsWhere, GivesContent, GivesUnknown, IsUnknownItem}
use Rattle.omega_hoa_syntax.specs.Grammar.{IsRawItem, content_row, header_named, item_name, item_row}
use Rattle.omega_hoa_syntax.specs.private.steps.Rows.{item_header}
use Rattle.omega_hoa_syntax.specs.private.steps.Parts.{EndsItem}
use Rattle.omega_hoa_syntax.specs.private.steps.Reading.{Finds, GivesRow, IsBegun, IsUnwritten}
use Rattle.omega_hoa_syntax.specs.Symbols.{ReadsSymbols, AutomatonSymbol, Tokens, header, without_last}
use Rattle.omega_hoa_syntax.specs.First.{FirstIs}
use Rattle.omega_hoa_syntax.specs.declared.header.name.HeaderKind.{HeaderKind}
use Rattle.omega_hoa_syntax.specs.declared.header.name.HeaderKind.TheVariants as named
use Rattle.omega_hoa_syntax.specs.declared.header_value.HeaderValue.{HeaderValue}
use Rattle.omega_hoa_syntax.specs.declared.raw_item.RawItem.{RawItem}
use Rattle.omega_hoa_syntax.specs.declared.raw_item.RawItem.TheVariants as item
use Rattle.omega_text.specs.Cursor.{next_place}
use Rattle.omega_text.specs.Lexeme.{Lexeme}
use Rattle.omega_text.specs.declared.hoa.kind.HoaKind.{HoaKind}
use Rattle.omega_text.specs.declared.hoa.kind.HoaKind.TheVariants as kind
use Rattle.omega_text.specs.declared.refusal.Refusal.{Refusal}

-- what holds of each `States` item holds of an item of that header
pub of_state_count : (P : RawItem → Type 0) → ((count : ℕ) → P (item.States count)) → (it : RawItem) → item_header it ≡ named.States → P it
of_state_count P holds (item.States count) is = holds count
of_state_count P holds other is = cc

-- what holds of each `Start` item holds of an item of that header
pub of_start : (P : RawItem → Type 0) → ((states : List ℕ) → P (item.Start states)) → (it : RawItem) → item_header it ≡ named.Start → P it
of_start P holds (item.Start states) is = holds states
of_start P holds other is = cc

-- what holds of each `Propositions` item holds of an item of that header
pub of_propositions : (P : RawItem → Type 0) → ((count : ℕ) (names : List (List ℕ)) → P (item.Propositions count names)) → (it : RawItem) → item_header it ≡ named.Propositions → P it
of_propositions P holds (item.Propositions count names) is = holds count names
of_propositions P holds other is = cc

-- what holds of each `Alias` item holds of an item of that header
pub of_alias : (P : RawItem → Type 0) → ((name : List ℕ) (definition : RawLabelTree) → P (item.Alias name definition)) → (it : RawItem) → item_header it ≡ named.Alias → P it
of_alias P holds (item.Alias name definition) is = holds name definition
of_alias P holds other is = cc

-- what holds of each `Acceptance` item holds of an item of that header
pub of_acceptance : (P : RawItem → Type 0) → ((count : ℕ) (tree : RawAccTree) → P (item.Acceptance count tree)) → (it : RawItem) → item_header it ≡ named.Acceptance → P it
of_acceptance P holds (item.Acceptance count tree) is = holds count tree
of_acceptance P holds other is = cc

-- what holds of each `AccName` item holds of an item of that header
pub of_acc_name : (P : RawItem → Type 0) → ((name : AccName) → P (item.AccName name)) → (it : RawItem) → item_header it ≡ named.AccName → P it
of_acc_name P holds (item.AccName name) is = holds name
of_acc_name P holds other is = cc

-- what holds of each `Tool` item holds of an item of that header
pub of_tool : (P : RawItem → Type 0) → ((first : List ℕ) (second : Option (List ℕ)) → P (item.Tool first second)) → (it : RawItem) → item_header it ≡ named.Tool → P it
of_tool P holds (item.Tool first second) is = holds first second
of_tool P holds other is = cc

-- what holds of each `Name` item holds of an item of that header
pub of_title : (P : RawItem → Type 0) → ((bytes : List ℕ) → P (item.Name bytes)) → (it : RawItem) → item_header it ≡ named.Name → P it
of_title P holds (item.Name bytes) is = holds bytes
of_title P holds other is = cc

-- what holds of each `Properties` item holds of an item of that header
pub of_properties : (P : RawItem → Type 0) → ((words : List (List ℕ)) → P (item.Properties words)) → (it : RawItem) → item_header it ≡ named.Properties → P it
of_properties P holds (item.Properties words) is = holds words
of_properties P holds other is = cc

-- what holds of each unknown header holds of an item that is one
pub of_unknown : (P : RawItem → Type 0) → ((name : List ℕ) (values : List HeaderValue) → P (item.Unknown name values)) → (it : RawItem) → item_header it ≡ named.Unknown → P it
of_unknown P holds (item.Unknown name values) is = holds name values
of_unknown P holds other is = cc

-- an item's name is that of its header
pub header_named-item_name : (it : RawItem) → IsRawItem it → header_named (item_name it) ≡ item_header it
header_named-item_name (item.Unknown name values) is = is
header_named-item_name other is = refl

-- the bytes are the name of the header, if it has one
abbrev pub IsName : HeaderKind → List ℕ → Type 0
IsName named.States bytes = bytes ≡ codes "States"
IsName named.Start bytes = bytes ≡ codes "Start"
IsName named.Propositions bytes = bytes ≡ codes "AP"
IsName named.Alias bytes = bytes ≡ codes "Alias"
IsName named.Acceptance bytes = bytes ≡ codes "Acceptance"
IsName named.AccName bytes = bytes ≡ codes "acc-name"
IsName named.Tool bytes = bytes ≡ codes "tool"
IsName named.Name bytes = bytes ≡ codes "name"
IsName named.Properties bytes = bytes ≡ codes "properties"
IsName other bytes = Unit {0}

-- what holds in both cases holds of a choice
choice : (P : HeaderKind → Type 0) (test : Bool) (one other : HeaderKind) → (test ≡ true → P one) → P other → P (if test then one else other)
choice P true one other holds otherwise = holds refl
choice P false one other holds otherwise = otherwise

name_is : (bytes : List ℕ) → IsName (header_named bytes) bytes
name_is bytes =
    let P : HeaderKind → Type 0 = λ header. IsName header bytes in
    choice P (bytes_eq bytes (codes "HOA")) _ _ (λ e. tt)
    (choice P (bytes_eq bytes (codes "State")) _ _ (λ e. tt)
    (choice P (bytes_eq bytes (codes "States")) _ _ (λ e. (bytes_eq-Decides bytes (codes "States")).0 e)
    (choice P (bytes_eq bytes (codes "Start")) _ _ (λ e. (bytes_eq-Decides bytes (codes "Start")).0 e)
    (choice P (bytes_eq bytes (codes "AP")) _ _ (λ e. (bytes_eq-Decides bytes (codes "AP")).0 e)
    (choice P (bytes_eq bytes (codes "Alias")) _ _ (λ e. (bytes_eq-Decides bytes (codes "Alias")).0 e)
    (choice P (bytes_eq bytes (codes "Acceptance")) _ _ (λ e. (bytes_eq-Decides bytes (codes "Acceptance")).0 e)
    (choice P (bytes_eq bytes (codes "acc-name")) _ _ (λ e. (bytes_eq-Decides bytes (codes "acc-name")).0 e)
    (choice P (bytes_eq bytes (codes "tool")) _ _ (λ e. (bytes_eq-Decides bytes (codes "tool")).0 e)
    (choice P (bytes_eq bytes (codes "name")) _ _ (λ e. (bytes_eq-Decides bytes (codes "name")).0 e)
    (choice P (bytes_eq bytes (codes "properties")) _ _ (λ e. (bytes_eq-Decides bytes (codes "properties")).0 e) tt))))))))))

-- an item of a known header
abbrev pub IsKnown : HeaderKind → Type 0
IsKnown named.Unknown = ⊥
IsKnown other = Unit {0}

item_named : (it : RawItem) (bytes : List ℕ) → IsKnown (item_header it) → IsName (item_header it) bytes → item_name it ≡ bytes
item_named (item.Unknown name values) bytes known is = absurd known
item_named other bytes known is = sym is

-- an item after its header is read
pub item_given : (which : HeaderKind) (old mid new : Tokens) (lexeme : Lexeme HoaKind) (result : Result RawItem Refusal) → old ≡ lexeme ∷ mid → lexeme.kind ≡ kind.HeaderName
    → header_named (without_last lexeme.text) ≡ which → IsKnown which → GivesContent which mid new result → GivesRow IsRawItem item_row old new result
item_given which old mid new lexeme (Ok it) next sort is known given = record {
  is = given.is.1;
  spells = λ others rest spells. record {
    middle = mid;
    front = record {
      lexeme = lexeme;
      next = next;
      shows = (sort, sym (item_named it (without_last lexeme.text) (subst IsKnown (sym given.is.0) known) (subst (λ h. IsName h (without_last lexeme.text)) (is ∙ sym given.is.0) (name_is (without_last lexeme.text)))));
    };
    back = given.spells others rest spells;
  };
}
item_given which old mid new lexeme (Err refusal) next sort is known given = tt

-- an unknown item is read
pub unknown_given : (name : List ℕ) (old mid new : Tokens) (lexeme : Lexeme HoaKind) (result : Result RawItem Refusal) → old ≡ lexeme ∷ mid → lexeme.kind ≡ kind.HeaderName
    → name ≡ without_last lexeme.text → GivesUnknown name mid new result → GivesRow IsRawItem item_row old new result
unknown_given name old mid new lexeme (Ok it) next sort is given = record {
  is = given.is.1;
  spells = λ others rest spells. record {
    middle = mid;
    front = record { lexeme = lexeme; next = next; shows = (sort, sym (given.is.0.called ∙ is)) };
    back = given.spells others rest spells;
  };
}
unknown_given name old mid new lexeme (Err refusal) next sort is given = tt

-- an item begins after its header
item_begun_after : (Is : RawItem → Type 0) (lexeme : Lexeme HoaKind) → ((it : RawItem) → Is it → header (item_name it) ≡ header (without_last lexeme.text)) → lexeme.kind ≡ kind.HeaderName
    → (before : Tokens) → IsBegun (λ it. Is it × IsRawItem it) content_row before → IsBegun IsRawItem item_row (lexeme ∷ before)
item_begun_after Is lexeme called sort before begun = record {
  more = begun.more;
  it = begun.it;
  is = begun.is.1;
  spells = λ left others rest ends spells.
      subst (λ symbol. ReadsSymbols (lexeme ∷ ((before ++ begun.more) ++ left)) (symbol ∷ content_row begun.it others) rest) (sym (called begun.it begun.is.0))
      (record {
        middle = (before ++ begun.more) ++ left;
        front = record { lexeme = lexeme; next = refl; shows = (sort, refl) };
        back = begun.spells left others rest ends spells;
      });
}

-- the shortest item
no_words : IsBegun IsRawItem item_row []
no_words = record {
  more = headed (codes "properties") ∷ [];
  it = item.Properties [];
  is = tt;
  spells = λ left others rest ends spells. header_first (codes "properties") left others rest spells;
}

-- what is found after a header is found with it, if what holds of an item of that name is what is found
item_where : (Is : RawItem → Type 0) (old mid new : Tokens) (lexeme : Lexeme HoaKind) (length long : ℕ) (result : Result RawItem Refusal) → old ≡ lexeme ∷ mid → long ≡ length
    → ((it : RawItem) → IsRawItem it → without_last lexeme.text ≡ item_name it → Is it) → ((it : RawItem) → Is it → header (item_name it) ≡ header (without_last lexeme.text)) → lexeme.kind ≡ kind.HeaderName
    → FindsWhere Is mid new long result → Finds IsRawItem item_row (FirstIs EndsItem) old new length result
item_where Is old mid new lexeme length long (Ok it) next same holds called sort finds = record {
  front = lexeme ∷ finds.front;
  split = next ∙ ap (λ tokens. lexeme ∷ tokens) finds.split;
  holds = λ others agree wanted more rest valid follow spells.
      let taken = token_taken (header (item_name wanted)) (content_row wanted more) rest (lexeme ∷ (finds.front ++ others)) (finds.front ++ others) lexeme refl spells in
      finds.holds others agree wanted more rest (holds wanted valid taken.0.1, valid) follow taken.1;
}
item_where Is old mid new lexeme length long (Err refusal) next same holds called sort finds =
    first_after (IsUnwritten IsRawItem item_row (FirstIs EndsItem)) (IsUnwritten (λ it. Is it × IsRawItem it) content_row (FirstIs EndsItem)) (IsBegun IsRawItem item_row) (IsBegun (λ it. Is it × IsRawItem it) content_row)
    old (lexeme ∷ []) mid length refusal next
    (λ others none wanted more rest valid follow spells.
    let taken = token_taken (header (item_name wanted)) (content_row wanted more) rest (lexeme ∷ others) others lexeme refl spells in
    none wanted more rest (holds wanted valid taken.0.1, valid) follow taken.1)
    (λ before. item_begun_after Is lexeme called sort before)
    (subst (λ l. IsUnread (IsUnwritten (λ it. Is it × IsRawItem it) content_row (FirstIs EndsItem)) (IsBegun (λ it. Is it × IsRawItem it) content_row) mid l refusal) same finds)

pub item_found : (which : HeaderKind) (old mid new : Tokens) (lexeme : Lexeme HoaKind) (length long : ℕ) (result : Result RawItem Refusal) → old ≡ lexeme ∷ mid → lexeme.kind ≡ kind.HeaderName → long ≡ length
    → header_named (without_last lexeme.text) ≡ which → IsKnown which → FindsContent which mid new long result → Finds IsRawItem item_row (FirstIs EndsItem) old new length result
item_found which old mid new lexeme length long result next sort same is known finds =
    item_where (λ it. item_header it ≡ which) old mid new lexeme length long result next same
    (λ it valid called. sym (header_named-item_name it valid) ∙ (ap header_named (sym called) ∙ is))
    (λ it has. ap header (item_named it (without_last lexeme.text) (subst IsKnown (sym has) known) (subst (λ h. IsName h (without_last lexeme.text)) (is ∙ sym has) (name_is (without_last lexeme.text))))) sort finds

pub unknown_found : (name : List ℕ) (old mid new : Tokens) (lexeme : Lexeme HoaKind) (length long : ℕ) (result : Result RawItem Refusal) → old ≡ lexeme ∷ mid → lexeme.kind ≡ kind.HeaderName → long ≡ length
    → name ≡ without_last lexeme.text → header_named name ≡ named.Unknown → FindsUnknown name mid new long result → Finds IsRawItem item_row (FirstIs EndsItem) old new length result
unknown_found name old mid new lexeme length long result next sort same is unknown finds =
    item_where (IsUnknownItem name) old mid new lexeme length long result next same
    (λ it valid called. record { unknown = sym (header_named-item_name it valid) ∙ (ap header_named (sym called ∙ sym is) ∙ unknown); called = sym called ∙ sym is })
    (λ it has. ap header (has.called ∙ is)) sort finds

-- no item begins without a header
pub unheaded : (old : Tokens) (length : ℕ) (refusal : Refusal) → IsMissing kind.HeaderName old length refusal
    → IsUnread (IsUnwritten IsRawItem item_row (FirstIs EndsItem)) (IsBegun IsRawItem item_row) old length refusal
unheaded old length refusal missing =
    first_missing (IsUnwritten IsRawItem item_row (FirstIs EndsItem)) (IsBegun IsRawItem item_row) kind.HeaderName old length refusal no_words
    (λ tokens not wanted others rest valid follow spells. missing_symbol (header (item_name wanted)) kind.HeaderName (λ lexeme shows. shows.0) tokens not _ spells) missing

-- no item has a header that is that of none
pub none_found : (sort : HeaderKind) (old mid : Tokens) (lexeme : Lexeme HoaKind) (length place : ℕ) → old ≡ lexeme ∷ mid → header_named (without_last lexeme.text) ≡ sort
    → ((it : RawItem) → item_header it ≡ sort → ⊥) → place ≡ next_place old length → IsFirstUnread (IsUnwritten IsRawItem item_row (FirstIs EndsItem)) (IsBegun IsRawItem item_row) old length place
none_found sort old mid lexeme length place next is none there =
    first_next (IsUnwritten IsRawItem item_row (FirstIs EndsItem)) (IsBegun IsRawItem item_row) old [] old length place refl there no_words
    (λ others agree wanted more rest valid follow spells.
    let through = subst (λ tokens. AgreeThroughNext tokens others) next agree in
    let taken = token_taken (header (item_name wanted)) (content_row wanted more) rest others through.0 lexeme through.1 spells in
    none wanted (sym (header_named-item_name wanted valid) ∙ (ap header_named (sym taken.0.1) ∙ is)))

pub no_format : (it : RawItem) → item_header it ≡ named.Format → ⊥
no_format (item.Unknown name values) is = cc
no_format other is = cc

pub no_state : (it : RawItem) → item_header it ≡ named.State → ⊥
no_state (item.Unknown name values) is = cc
no_state other is = cc

-- what is shown of each item of a header is shown of an item that has it
pub state_count_known : (tokens : Tokens) (Wanted : RawItem → List AutomatonSymbol → Tokens → Type 0)
    → ((count : ℕ) (others : List AutomatonSymbol) (rest : Tokens) → FirstIs EndsItem others → ReadsSymbols tokens (content_row (item.States count) others) rest → Wanted (item.States count) others rest)
    → (it : RawItem) (others : List AutomatonSymbol) (rest : Tokens) → (item_header it ≡ named.States) × IsRawItem it → FirstIs EndsItem others → ReadsSymbols tokens (content_row it others) rest → Wanted it others rest
state_count_known tokens Wanted direct it others rest is follow spells =
    let P : RawItem → Type 0 = λ it. IsRawItem it → ReadsSymbols tokens (content_row it others) rest → Wanted it others rest in
    of_state_count P (λ count valid spells. direct count others rest follow spells) it is.0 is.1 spells

pub start_known : (tokens : Tokens) (Wanted : RawItem → List AutomatonSymbol → Tokens → Type 0)
    → ((states : List ℕ) (others : List AutomatonSymbol) (rest : Tokens) → IsRawItem (item.Start states) → FirstIs EndsItem others → ReadsSymbols tokens (content_row (item.Start states) others) rest → Wanted (item.Start states) others rest)
    → (it : RawItem) (others : List AutomatonSymbol) (rest : Tokens) → (item_header it ≡ named.Start) × IsRawItem it → FirstIs EndsItem others → ReadsSymbols tokens (content_row it others) rest → Wanted it others rest
start_known tokens Wanted direct it others rest is follow spells =
    let P : RawItem → Type 0 = λ it. IsRawItem it → ReadsSymbols tokens (content_row it others) rest → Wanted it others rest in
    of_start P (λ states valid spells. direct states others rest valid follow spells) it is.0 is.1 spells

pub propositions_known : (tokens : Tokens) (Wanted : RawItem → List AutomatonSymbol → Tokens → Type 0)
    → ((count : ℕ) (names : List (List ℕ)) (others : List AutomatonSymbol) (rest : Tokens) → FirstIs EndsItem others → ReadsSymbols tokens (content_row (item.Propositions count names) others) rest → Wanted (item.Propositions count names) others rest)
    → (it : RawItem) (others : List AutomatonSymbol) (rest : Tokens) → (item_header it ≡ named.Propositions) × IsRawItem it → FirstIs EndsItem others → ReadsSymbols tokens (content_row it others) rest → Wanted it others rest
propositions_known tokens Wanted direct it others rest is follow spells =
    let P : RawItem → Type 0 = λ it. IsRawItem it → ReadsSymbols tokens (content_row it others) rest → Wanted it others rest in
    of_propositions P (λ count names valid spells. direct count names others rest follow spells) it is.0 is.1 spells

pub alias_known : (tokens : Tokens) (Wanted : RawItem → List AutomatonSymbol → Tokens → Type 0)
    → ((name : List ℕ) (definition : RawLabelTree) (others : List AutomatonSymbol) (rest : Tokens) → FirstIs EndsItem others → ReadsSymbols tokens (content_row (item.Alias name definition) others) rest → Wanted (item.Alias name definition) others rest)
    → (it : RawItem) (others : List AutomatonSymbol) (rest : Tokens) → (item_header it ≡ named.Alias) × IsRawItem it → FirstIs EndsItem others → ReadsSymbols tokens (content_row it others) rest → Wanted it others rest
alias_known tokens Wanted direct it others rest is follow spells =
    let P : RawItem → Type 0 = λ it. IsRawItem it → ReadsSymbols tokens (content_row it others) rest → Wanted it others rest in
    of_alias P (λ name definition valid spells. direct name definition others rest follow spells) it is.0 is.1 spells

pub acceptance_known : (tokens : Tokens) (Wanted : RawItem → List AutomatonSymbol → Tokens → Type 0)
    → ((count : ℕ) (tree : RawAccTree) (others : List AutomatonSymbol) (rest : Tokens) → FirstIs EndsItem others → ReadsSymbols tokens (content_row (item.Acceptance count tree) others) rest → Wanted (item.Acceptance count tree) others rest)
    → (it : RawItem) (others : List AutomatonSymbol) (rest : Tokens) → (item_header it ≡ named.Acceptance) × IsRawItem it → FirstIs EndsItem others → ReadsSymbols tokens (content_row it others) rest → Wanted it others rest
acceptance_known tokens Wanted direct it others rest is follow spells =
    let P : RawItem → Type 0 = λ it. IsRawItem it → ReadsSymbols tokens (content_row it others) rest → Wanted it others rest in
    of_acceptance P (λ count tree valid spells. direct count tree others rest follow spells) it is.0 is.1 spells

pub acc_name_known : (tokens : Tokens) (Wanted : RawItem → List AutomatonSymbol → Tokens → Type 0)
    → ((name : AccName) (others : List AutomatonSymbol) (rest : Tokens) → FirstIs EndsItem others → ReadsSymbols tokens (content_row (item.AccName name) others) rest → Wanted (item.AccName name) others rest)
    → (it : RawItem) (others : List AutomatonSymbol) (rest : Tokens) → (item_header it ≡ named.AccName) × IsRawItem it → FirstIs EndsItem others → ReadsSymbols tokens (content_row it others) rest → Wanted it others rest
acc_name_known tokens Wanted direct it others rest is follow spells =
    let P : RawItem → Type 0 = λ it. IsRawItem it → ReadsSymbols tokens (content_row it others) rest → Wanted it others rest in
    of_acc_name P (λ name valid spells. direct name others rest follow spells) it is.0 is.1 spells

pub tool_known : (tokens : Tokens) (Wanted : RawItem → List AutomatonSymbol → Tokens → Type 0)
    → ((first : List ℕ) (second : Option (List ℕ)) (others : List AutomatonSymbol) (rest : Tokens) → FirstIs EndsItem others → ReadsSymbols tokens (content_row (item.Tool first second) others) rest → Wanted (item.Tool first second) others rest)
    → (it : RawItem) (others : List AutomatonSymbol) (rest : Tokens) → (item_header it ≡ named.Tool) × IsRawItem it → FirstIs EndsItem others → ReadsSymbols tokens (content_row it others) rest → Wanted it others rest
tool_known tokens Wanted direct it others rest is follow spells =
    let P : RawItem → Type 0 = λ it. IsRawItem it → ReadsSymbols tokens (content_row it others) rest → Wanted it others rest in
    of_tool P (λ first second valid spells. direct first second others rest follow spells) it is.0 is.1 spells

pub title_known : (tokens : Tokens) (Wanted : RawItem → List AutomatonSymbol → Tokens → Type 0)
    → ((bytes : List ℕ) (others : List AutomatonSymbol) (rest : Tokens) → FirstIs EndsItem others → ReadsSymbols tokens (content_row (item.Name bytes) others) rest → Wanted (item.Name bytes) others rest)
    → (it : RawItem) (others : List AutomatonSymbol) (rest : Tokens) → (item_header it ≡ named.Name) × IsRawItem it → FirstIs EndsItem others → ReadsSymbols tokens (content_row it others) rest → Wanted it others rest
title_known tokens Wanted direct it others rest is follow spells =
    let P : RawItem → Type 0 = λ it. IsRawItem it → ReadsSymbols tokens (content_row it others) rest → Wanted it others rest in
    of_title P (λ bytes valid spells. direct bytes others rest follow spells) it is.0 is.1 spells

pub properties_known : (tokens : Tokens) (Wanted : RawItem → List AutomatonSymbol → Tokens → Type 0)
    → ((words : List (List ℕ)) (others : List AutomatonSymbol) (rest : Tokens) → FirstIs EndsItem others → ReadsSymbols tokens (content_row (item.Properties words) others) rest → Wanted (item.Properties words) others rest)
    → (it : RawItem) (others : List AutomatonSymbol) (rest : Tokens) → (item_header it ≡ named.Properties) × IsRawItem it → FirstIs EndsItem others → ReadsSymbols tokens (content_row it others) rest → Wanted it others rest
properties_known tokens Wanted direct it others rest is follow spells =
    let P : RawItem → Type 0 = λ it. IsRawItem it → ReadsSymbols tokens (content_row it others) rest → Wanted it others rest in
    of_properties P (λ words valid spells. direct words others rest follow spells) it is.0 is.1 spells

pub unknown_known : (name : List ℕ) (tokens : Tokens) (Wanted : RawItem → List AutomatonSymbol → Tokens → Type 0)
    → ((called : List ℕ) (values : List HeaderValue) (others : List AutomatonSymbol) (rest : Tokens) → called ≡ name → FirstIs EndsItem others
    → ReadsSymbols tokens (content_row (item.Unknown called values) others) rest → Wanted (item.Unknown called values) others rest)
    → (it : RawItem) (others : List AutomatonSymbol) (rest : Tokens) → IsUnknownItem name it × IsRawItem it → FirstIs EndsItem others → ReadsSymbols tokens (content_row it others) rest → Wanted it others rest
unknown_known name tokens Wanted direct it others rest is follow spells =
    let P : RawItem → Type 0 = λ it. item_name it ≡ name → ReadsSymbols tokens (content_row it others) rest → Wanted it others rest in
    of_unknown P (λ called values same spells. direct called values others rest same follow spells) it is.0.unknown is.0.called spells

pub acc_name_same : (name : List ℕ) (parameters : List Parameter) (it : AccName) → name ≡ it.name → parameters ≡ it.parameters
    → (let read : AccName = record { name = name; parameters = parameters } in item.AccName read ≡ item.AccName it)
acc_name_same name parameters it a b =
    let make : List ℕ → List Parameter → RawItem = λ x y. item.AccName (record { name = x; parameters = y }) in
    ap (λ x. make x parameters) a ∙ ap (λ y. make it.name y) b
