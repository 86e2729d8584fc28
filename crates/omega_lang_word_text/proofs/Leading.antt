-- What letters lead to, and where no word goes on.
use Rattle.std.proofs.Common.{◌≡◌, ℕ, ◌+◌, ◌<◌, true, false, Option, Some, None, option_map, is_some, arith, List, [], ◌∷◌, ◌++◌, length, map, ap, append-nil, append_assoc, refl, sym, ◌∙◌, subst}
use Rattle.omega_hoa_expression.specs.Passing.{IsMissing, NextIsNot, PassesOne}
use Rattle.omega_hoa_expression.specs.Symbols.{EndsThere, IsNoOperator, expression_symbol_of, sign}
use Rattle.omega_hoa_expression.specs.Unread.{AgreeThroughNext, IsFirstUnread, IsUnread}
use Rattle.omega_hoa_expression.proofs.ClosingLemmas.{plain}
use Rattle.omega_hoa_expression.proofs.UnreadLemmas.{not_through}
use Rattle.omega_hoa_label.specs.Raw.{RawLabelTree, constant}
use Rattle.omega_hoa_label_text.specs.Reading.{BeginsLabel, LabelsAreOne, Reads, ReadsNoLabel, label_symbols}
use Rattle.omega_text.specs.Cursor.{next_place}
use Rattle.omega_text.specs.Lexeme.{Lexeme, lexeme_of}
use Rattle.omega_text.specs.declared.hoa.kind.HoaKind.{HoaKind}
use Rattle.omega_text.specs.declared.hoa.kind.HoaKind.TheVariants as kind
use Rattle.omega_text.specs.declared.token.Token.{Token}
use Rattle.std.specs.List.{slice_get}
use Rattle.omega_text.specs.declared.refusal.Refusal.{Refusal}
use Rattle.omega_text.specs.declared.refusal.Refusal.TheVariants.{Text}
use Rattle.omega_text.specs.declared.refusal.text.TextFault.TheVariants.{Syntax}
use Rattle.omega_lang_word_text.specs.Grammar.{BeginsWord, ReadsNoWord, ReadsWord, cycle_symbols, other_symbols, stem_symbols, word_symbols}
use Rattle.omega_lang_word_text.specs.private.Parts.{BeginsPart, ReadsBraced, ReadsCycle, ReadsNo, ReadsOthers}
use Rattle.omega_lang_word_text.specs.private.Stems.{LeadsOn, LeadsToOthers, LeadsToWord}
use Rattle.omega_lang_word_text.proofs.Following.{Tokens, first_lacking, first_then, refused_then}
use Rattle.omega_lang_word_text.proofs.Spelled.{braced_after, braced_first, cycle_after, cycle_first, others_after, others_first, regroup, word_after, word_first, word_only, word_with}
use Rattle.omega_lang_word_text.proofs.Splitting.{begins_with, ends_at_mark, marked, splits}

-- the shortest ends of a cycle, and of a word
closing : Tokens
closing = plain kind.CloseBrace ∷ []

closing_reads : ReadsOthers closing []
unfolding closing
closing_reads = record { spells = refl; is = tt }

around_true : Tokens
around_true = plain kind.True ∷ plain kind.CloseBrace ∷ []

around_reads : ReadsCycle around_true (constant true ∷ [])
unfolding around_true
around_reads = record { spells = refl; is = (tt, tt); longer = omega arith }

braced_true : Tokens
braced_true = plain kind.OpenBrace ∷ around_true

braced_reads : ReadsBraced braced_true (constant true ∷ [])
unfolding braced_true
braced_reads = braced_after (plain kind.OpenBrace) around_true (constant true ∷ []) refl around_reads

ending : Tokens
ending = plain kind.Body ∷ braced_true

ending_reads : ReadsWord ending [] (constant true ∷ [])
unfolding ending
ending_reads = word_with (plain kind.Body) braced_true (constant true ∷ []) refl braced_reads

-- a letter that is begun begins a cycle, and a word
label_begins_cycle : (tokens : Tokens) → BeginsLabel tokens → BeginsPart ReadsCycle tokens
label_begins_cycle tokens begun =
    let reads = begun.2 in
    let front_is : tokens ++ begun.0 ≡ reads.front = reads.split ∙ append-nil reads.front in (
      begun.0 ++ closing,
      begun.1 ∷ [],
      subst (λ (t : Tokens). ReadsCycle t (begun.1 ∷ [])) (ap (λ (t : Tokens). t ++ closing) (sym front_is) ∙ append_assoc tokens begun.0 closing)
          (cycle_after reads.front closing begun.1 [] (reads.spells, reads.is) closing_reads),
    )

label_begins_word : (tokens : Tokens) → BeginsLabel tokens → BeginsWord tokens
label_begins_word tokens begun =
    let reads = begun.2 in
    let front_is : tokens ++ begun.0 ≡ reads.front = reads.split ∙ append-nil reads.front in (
      begun.0 ++ (plain kind.End ∷ ending),
      begun.1 ∷ [],
      constant true ∷ [],
      subst (λ (t : Tokens). ReadsWord t (begun.1 ∷ []) (constant true ∷ [])) (ap (λ (t : Tokens). t ++ (plain kind.End ∷ ending)) (sym front_is) ∙ append_assoc tokens begun.0 (plain kind.End ∷ ending))
          (word_after reads.front (plain kind.End) ending begun.1 [] (constant true ∷ []) (reads.spells, reads.is) refl ending_reads),
    )

-- where no letter is, no cycle is
no_label_no_cycle : (tokens : Tokens) → ReadsNoLabel tokens → ReadsNo ReadsCycle tokens
no_label_no_cycle tokens none [] reads = (let l = reads.longer in omega arith)
no_label_no_cycle tokens none (first ∷ others) reads =
    let parts = splits tokens (label_symbols first) (other_symbols others ++ sign kind.CloseBrace ∷ [])
    (reads.spells ∙ append_assoc (label_symbols first) (other_symbols others) (sign kind.CloseBrace ∷ [])) in
    none first parts.rest (record { front = parts.front; split = parts.split; spells = parts.front_is; is = reads.is.0; ends = others_end parts.rest others parts.rest_is })
  where
    others_end : (rest : Tokens) (others : List RawLabelTree) → map expression_symbol_of rest ≡ other_symbols others ++ sign kind.CloseBrace ∷ [] → EndsThere rest
    others_end rest [] is = ends_at_mark rest kind.CloseBrace [] tt is
    others_end rest (first ∷ others) is = ends_at_mark rest kind.End _ tt is

-- nor a word, unless `cycle` is there
no_label_no_word : (tokens : Tokens) → NextIsNot kind.Body tokens → ReadsNoLabel tokens → ReadsNoWord tokens
no_label_no_word tokens other none [] around reads =
    let next = begins_with tokens kind.Body _ reads.spells in
    subst (NextIsNot kind.Body) next.split other next.is
no_label_no_word tokens other none (first ∷ stem) around reads =
    let parts = splits tokens (label_symbols first) (sign kind.End ∷ word_symbols stem around)
    (reads.spells ∙ regroup (label_symbols first) (sign kind.End) (stem_symbols stem) (sign kind.Body ∷ sign kind.OpenBrace ∷ (cycle_symbols around ++ sign kind.CloseBrace ∷ []))) in
    none first parts.rest
    (record { front = parts.front; split = parts.split; spells = parts.front_is; is = reads.stem_is.0; ends = ends_at_mark parts.rest kind.End _ tt parts.rest_is })

-- what ends a letter still ends it in tokens that agree
ends_through : (rest others : Tokens) → AgreeThroughNext rest others → EndsThere rest → EndsThere others
ends_through [] others agree ends = subst EndsThere (sym agree) tt
ends_through (next ∷ rest) others agree ends = subst EndsThere (sym agree.1) ends

ends_at_end : (token : Lexeme HoaKind) → token.kind ≡ kind.End → IsNoOperator token.kind
ends_at_end token is = subst IsNoOperator (sym is) tt

tail_same : {A : Type 0} (x y : A) (xs ys : List A) → x ∷ xs ≡ y ∷ ys → xs ≡ ys
tail_same x y xs ys e = cc

module _ (length : ℕ) where
  -- no letter is read where one of a cycle is wanted
  pub cycle_lacks_letter : (tokens : Tokens) (refusal : Refusal) → IsUnread ReadsNoLabel BeginsLabel tokens length refusal → IsUnread (ReadsNo ReadsCycle) (BeginsPart ReadsCycle) tokens length refusal
  cycle_lacks_letter tokens =
      refused_then ReadsNoLabel BeginsLabel (ReadsNo ReadsCycle) (BeginsPart ReadsCycle) length tokens tokens
      (first_then ReadsNoLabel BeginsLabel (ReadsNo ReadsCycle) (BeginsPart ReadsCycle) length tokens [] tokens refl (λ others agree none. no_label_no_cycle others none) label_begins_cycle)

  -- nor where one of a stem is
  pub word_lacks_letter : (tokens : Tokens) → NextIsNot kind.Body tokens → (refusal : Refusal) → IsUnread ReadsNoLabel BeginsLabel tokens length refusal
      → IsUnread ReadsNoWord BeginsWord tokens length refusal
  word_lacks_letter tokens other =
      refused_then ReadsNoLabel BeginsLabel ReadsNoWord BeginsWord length tokens tokens
      (first_then ReadsNoLabel BeginsLabel ReadsNoWord BeginsWord length tokens [] tokens refl
      (λ others agree none. no_label_no_word others (not_through kind.Body tokens others agree other) none) label_begins_word)

  -- `{` is missing
  pub lacks_brace : (tokens : Tokens) (refusal : Refusal) → IsMissing kind.OpenBrace tokens length refusal
      → IsUnread (ReadsNo ReadsBraced) (BeginsPart ReadsBraced) tokens length refusal
  lacks_brace tokens refusal =
      first_lacking (ReadsNo ReadsBraced) (BeginsPart ReadsBraced) kind.OpenBrace tokens [] tokens length refusal refl (braced_true, constant true ∷ [], braced_reads)
      (λ others agree other around reads. (let next = begins_with others kind.OpenBrace _ reads.spells in subst (NextIsNot kind.OpenBrace) next.split other next.is))

  -- neither `;` nor `}` is there
  no_others : (tokens : Tokens) → NextIsNot kind.End tokens → NextIsNot kind.CloseBrace tokens → ReadsNo ReadsOthers tokens
  no_others tokens no_end no_close [] reads =
      let next = begins_with tokens kind.CloseBrace [] reads.spells in
      subst (NextIsNot kind.CloseBrace) next.split no_close next.is
  no_others tokens no_end no_close (first ∷ others) reads =
      let next = begins_with tokens kind.End _ reads.spells in
      subst (NextIsNot kind.End) next.split no_end next.is

  pub lacks_close : (tokens : Tokens) (refusal : Refusal) → NextIsNot kind.End tokens → IsMissing kind.CloseBrace tokens length refusal
      → IsUnread (ReadsNo ReadsOthers) (BeginsPart ReadsOthers) tokens length refusal
  lacks_close tokens refusal no_end =
      first_lacking (ReadsNo ReadsOthers) (BeginsPart ReadsOthers) kind.CloseBrace tokens [] tokens length refusal refl (closing, [], closing_reads)
      (λ others agree other. no_others others (not_through kind.End tokens others agree no_end) other)

  -- something follows `}`
  no_more : (close next : Lexeme HoaKind) (rest : Tokens) → close.kind ≡ kind.CloseBrace → ReadsNo ReadsOthers (close ∷ next ∷ rest)
  no_more close next rest sort [] reads =
      let e : expression_symbol_of close ∷ expression_symbol_of next ∷ map expression_symbol_of rest ≡ sign kind.CloseBrace ∷ [] = reads.spells in
      (let t : expression_symbol_of next ∷ map expression_symbol_of rest ≡ [] = cc in cc)
  no_more close next rest sort (first ∷ others) reads =
      let found = begins_with (close ∷ next ∷ rest) kind.End _ reads.spells in
      let same : close ≡ found.first = head_same close found.first (next ∷ rest) found.rest found.split in
      let clash : kind.CloseBrace ≡ kind.End = sym sort ∙ (ap (λ (l : Lexeme HoaKind). l.kind) same ∙ found.is) in
      cc
    where
      head_same : (x y : Lexeme HoaKind) (xs ys : Tokens) → x ∷ xs ≡ y ∷ ys → x ≡ y
      head_same x y xs ys e = cc

  pub goes_too_far : (tokens rest : Tokens) (refusal : Refusal) → PassesOne kind.CloseBrace tokens rest → (rest ≡ [] → ⊥) → refusal ≡ Text (Syntax (next_place rest length))
      → IsUnread (ReadsNo ReadsOthers) (BeginsPart ReadsOthers) tokens length refusal
  goes_too_far tokens [] refusal passes more is = absurd (more refl)
  goes_too_far tokens (next ∷ rest) refusal passes more is =
      subst (IsUnread (ReadsNo ReadsOthers) (BeginsPart ReadsOthers) tokens length) (sym is)
      (record {
        before = passes.lexeme ∷ [];
        left = next ∷ rest;
        split = passes.next;
        there = refl;
        begun = ([], [], begun passes.lexeme passes.is);
        unread = λ others agree. subst (λ (o : Tokens). ReadsNo ReadsOthers (passes.lexeme ∷ o)) (sym agree.1) (no_more passes.lexeme next agree.0 passes.is);
      })
    where
      begun : (close : Lexeme HoaKind) → close.kind ≡ kind.CloseBrace → ReadsOthers (close ∷ []) []
      begun close sort = record { spells = λ i. closes close sort i ∷ []; is = tt }
        where
          closes : (close : Lexeme HoaKind) → close.kind ≡ kind.CloseBrace → expression_symbol_of close ≡ sign kind.CloseBrace
          closes close sort = marked close kind.CloseBrace tt sort

  module _ (one : LabelsAreOne) where
    -- the letter is a label that is read of the tokens, and after it `;` is missing
    pub lacks_semicolon : (tokens rest : Tokens) (letter : RawLabelTree) (refusal : Refusal) → Reads tokens letter rest → IsMissing kind.End rest length refusal
        → IsUnread ReadsNoWord BeginsWord tokens length refusal
    lacks_semicolon tokens rest letter refusal reads =
        first_lacking ReadsNoWord BeginsWord kind.End tokens reads.front rest length refusal reads.split
        (plain kind.End ∷ ending, letter ∷ [], constant true ∷ [], word_after reads.front (plain kind.End) ending letter [] (constant true ∷ []) (reads.spells, reads.is) refl ending_reads)
        (λ others agree other stem around word. (let found =
        word_first one (reads.front ++ others) others letter stem around
        (record { front = reads.front; split = refl; spells = reads.spells; is = reads.is; ends = ends_through rest others agree reads.ends }) word in
        subst (NextIsNot kind.End) found.4 other found.5))

    -- what is first seen after a letter of a cycle
    pub cycle_unread : (tokens rest : Tokens) (letter : RawLabelTree) → Reads tokens letter rest → (place : ℕ)
        → IsFirstUnread (ReadsNo ReadsOthers) (BeginsPart ReadsOthers) rest length place → IsFirstUnread (ReadsNo ReadsCycle) (BeginsPart ReadsCycle) tokens length place
    cycle_unread tokens rest letter reads =
        first_then (ReadsNo ReadsOthers) (BeginsPart ReadsOthers) (ReadsNo ReadsCycle) (BeginsPart ReadsCycle) length tokens reads.front rest reads.split
        (λ others agree none around cycle. (let found =
        cycle_first one (reads.front ++ others) others letter around
        (record { front = reads.front; split = refl; spells = reads.spells; is = reads.is; ends = ends_through rest others agree reads.ends }) cycle in
        none found.0 found.2))
        (λ before begun. (
          begun.0,
          letter ∷ begun.1,
          subst (λ (t : Tokens). ReadsCycle t (letter ∷ begun.1)) (sym (append_assoc reads.front before begun.0))
              (cycle_after reads.front (before ++ begun.0) letter begun.1 (reads.spells, reads.is) begun.2),
        ))

    -- what is first seen after a letter of a stem and `;`
    pub word_unread : (tokens after rest : Tokens) (letter : RawLabelTree) → Reads tokens letter after → PassesOne kind.End after rest → (place : ℕ)
        → IsFirstUnread ReadsNoWord BeginsWord rest length place → IsFirstUnread ReadsNoWord BeginsWord tokens length place
    word_unread tokens after rest letter reads passes =
        let semicolon = passes.lexeme in
        let regrouped : (others : Tokens) → (reads.front ++ semicolon ∷ []) ++ others ≡ reads.front ++ semicolon ∷ others = λ others. append_assoc reads.front (semicolon ∷ []) others in
        first_then ReadsNoWord BeginsWord ReadsNoWord BeginsWord length tokens (reads.front ++ semicolon ∷ []) rest
        (reads.split ∙ (ap (λ (t : Tokens). reads.front ++ t) passes.next ∙ sym (regrouped rest)))
        (λ others agree none stem around word. (let found =
        word_first one ((reads.front ++ semicolon ∷ []) ++ others) (semicolon ∷ others) letter stem around
        (record { front = reads.front; split = regrouped others; spells = reads.spells; is = reads.is; ends = ends_at_end semicolon passes.is }) word in
        none found.0 around (subst (λ (t : Tokens). ReadsWord t found.0 around) (sym (tail_same semicolon found.2 others found.1 found.4)) found.6)))
        (λ before begun. (
          begun.0,
          letter ∷ begun.1,
          begun.2,
          subst (λ (t : Tokens). ReadsWord t (letter ∷ begun.1) begun.2)
              (sym (append_assoc (reads.front ++ semicolon ∷ []) before begun.0 ∙ regrouped (before ++ begun.0)))
              (word_after reads.front semicolon (before ++ begun.0) letter begun.1 begun.2 (reads.spells, reads.is) passes.is begun.3),
        ))

  -- what is first seen after `cycle`
  pub cycle_word_unread : (tokens rest : Tokens) → PassesOne kind.Body tokens rest → (place : ℕ)
      → IsFirstUnread (ReadsNo ReadsBraced) (BeginsPart ReadsBraced) rest length place → IsFirstUnread ReadsNoWord BeginsWord tokens length place
  cycle_word_unread tokens rest passes =
      first_then (ReadsNo ReadsBraced) (BeginsPart ReadsBraced) ReadsNoWord BeginsWord length tokens (passes.lexeme ∷ []) rest passes.next
      (λ others agree none stem around word. none around (word_only passes.lexeme others stem around passes.is word))
      (λ before begun. (begun.0, [], begun.1, word_with passes.lexeme (before ++ begun.0) begun.1 passes.is begun.2))

  -- after `{`
  pub braced_unread : (tokens rest : Tokens) → PassesOne kind.OpenBrace tokens rest → (place : ℕ)
      → IsFirstUnread (ReadsNo ReadsCycle) (BeginsPart ReadsCycle) rest length place → IsFirstUnread (ReadsNo ReadsBraced) (BeginsPart ReadsBraced) tokens length place
  braced_unread tokens rest passes =
      first_then (ReadsNo ReadsCycle) (BeginsPart ReadsCycle) (ReadsNo ReadsBraced) (BeginsPart ReadsBraced) length tokens (passes.lexeme ∷ []) rest passes.next
      (λ others agree none around braced. none around (braced_first passes.lexeme others around braced))
      (λ before begun. (begun.0, begun.1, braced_after passes.lexeme (before ++ begun.0) begun.1 passes.is begun.2))

  -- after `;` in a cycle
  pub others_unread : (tokens rest : Tokens) → PassesOne kind.End tokens rest → (place : ℕ)
      → IsFirstUnread (ReadsNo ReadsCycle) (BeginsPart ReadsCycle) rest length place → IsFirstUnread (ReadsNo ReadsOthers) (BeginsPart ReadsOthers) tokens length place
  others_unread tokens rest passes =
      first_then (ReadsNo ReadsCycle) (BeginsPart ReadsCycle) (ReadsNo ReadsOthers) (BeginsPart ReadsOthers) length tokens (passes.lexeme ∷ []) rest passes.next
      (λ others agree none letters reads. none letters (others_first passes.lexeme others letters passes.is reads))
      (λ before begun. (begun.0, begun.1, others_after passes.lexeme (before ++ begun.0) begun.1 passes.is begun.2))

-- nothing is read yet
pub leads_nowhere : (tokens : Tokens) → LeadsOn tokens [] tokens
leads_nowhere tokens = record { reads = λ more around word. word; unread = λ length place unread. unread }

module _ (one : LabelsAreOne) where
  -- a letter of a stem more
  pub leads_letter : (tokens middle after rest : Tokens) (stem : List RawLabelTree) (letter : RawLabelTree) → LeadsOn tokens stem middle → Reads middle letter after → PassesOne kind.End after rest
      → LeadsOn tokens (stem ++ letter ∷ []) rest
  leads_letter tokens middle after rest stem letter leads reads passes = record {
    reads = λ more around word. subst (λ (s : List RawLabelTree). ReadsWord tokens s around) (sym (append_assoc stem (letter ∷ []) more))
        (leads.reads (letter ∷ more) around
        (subst (λ (t : Tokens). ReadsWord t (letter ∷ more) around) (sym (reads.split ∙ ap (λ (t : Tokens). reads.front ++ t) passes.next))
        (word_after reads.front passes.lexeme rest letter more around (reads.spells, reads.is) passes.is word)));
    unread = λ length place unread. leads.unread length place (word_unread length one middle after rest letter reads passes place unread);
  }

  -- a letter of a cycle more
  pub leads_more : (tokens middle after rest : Tokens) (letters : List RawLabelTree) (letter : RawLabelTree) → LeadsToOthers tokens letters middle → PassesOne kind.End middle after → Reads after letter rest
      → LeadsToOthers tokens (letters ++ letter ∷ []) rest
  leads_more tokens middle after rest letters letter leads passes reads = record {
    reads = λ more others. subst (ReadsOthers tokens) (sym (append_assoc letters (letter ∷ []) more))
        (leads.reads (letter ∷ more)
        (subst (λ (t : Tokens). ReadsOthers t (letter ∷ more)) (sym passes.next)
        (others_after passes.lexeme after (letter ∷ more) passes.is
        (subst (λ (t : Tokens). ReadsCycle t (letter ∷ more)) (sym reads.split) (cycle_after reads.front rest letter more (reads.spells, reads.is) others)))));
    unread = λ length place unread. leads.unread length place (others_unread length middle after passes place (cycle_unread length one after rest letter reads place unread));
  }

-- no further letter is read yet
pub others_nowhere : (tokens : Tokens) → LeadsToOthers tokens [] tokens
others_nowhere tokens = record { reads = λ more others. others; unread = λ length place unread. unread }

-- `cycle` after a stem
pub leads_to_cycle : (tokens middle rest : Tokens) (stem : List RawLabelTree) → LeadsOn tokens stem middle → PassesOne kind.Body middle rest → LeadsToWord tokens stem rest
leads_to_cycle tokens middle rest stem leads passes = record {
  reads = λ around braced. subst (λ (s : List RawLabelTree). ReadsWord tokens s around) (append-nil stem)
      (leads.reads [] around (subst (λ (t : Tokens). ReadsWord t [] around) (sym passes.next) (word_with passes.lexeme rest around passes.is braced)));
  unread = λ length place unread. leads.unread length place (cycle_word_unread length middle rest passes place unread);
}

-- a next token is there
pub is_nonempty : (next : Option (Token HoaKind)) (rest : Tokens) → option_map lexeme_of next ≡ slice_get rest 0 → is_some next ≡ true → rest ≡ [] → ⊥
is_nonempty None rest shown some empty = (let e : false ≡ true = some in cc)
is_nonempty (Some token) rest shown some empty =
    let e : Some (lexeme_of token) ≡ slice_get rest 0 = shown in
    let f : slice_get rest 0 ≡ None = ap (λ (t : Tokens). slice_get t 0) empty in
    cc

-- no next token is there, after `}`
pub closed_there : (tokens rest : Tokens) (next : Option (Token HoaKind)) → PassesOne kind.CloseBrace tokens rest → option_map lexeme_of next ≡ slice_get rest 0 → is_some next ≡ false → ReadsOthers tokens []
closed_there tokens [] next passes shown none =
    subst (λ (t : Tokens). ReadsOthers t []) (sym passes.next)
    (record { spells = λ i. marked passes.lexeme kind.CloseBrace tt passes.is i ∷ []; is = tt })
closed_there tokens (lexeme ∷ rest) None passes shown none = absurd (let e : ◌≡◌ {A = Option (Lexeme HoaKind)} None (Some lexeme) = shown in cc)
closed_there tokens (lexeme ∷ rest) (Some token) passes shown none = absurd (let e : true ≡ false = none in cc)

module _ (length : ℕ) (refusal : Refusal) where
  -- what is first seen of what is left is first seen of all tokens
  pub stem_refused : (tokens middle : Tokens) (stem : List RawLabelTree) → LeadsOn tokens stem middle → IsUnread ReadsNoWord BeginsWord middle length refusal
      → IsUnread ReadsNoWord BeginsWord tokens length refusal
  stem_refused tokens middle stem leads = refused_then ReadsNoWord BeginsWord ReadsNoWord BeginsWord length tokens middle (leads.unread length) refusal

  pub others_refused : (tokens middle : Tokens) (letters : List RawLabelTree) → LeadsToOthers tokens letters middle → IsUnread (ReadsNo ReadsOthers) (BeginsPart ReadsOthers) middle length refusal
      → IsUnread (ReadsNo ReadsOthers) (BeginsPart ReadsOthers) tokens length refusal
  others_refused tokens middle letters leads =
      refused_then (ReadsNo ReadsOthers) (BeginsPart ReadsOthers) (ReadsNo ReadsOthers) (BeginsPart ReadsOthers) length tokens middle (leads.unread length) refusal

  -- no letter of a stem is read
  pub stem_lacks_letter : (tokens middle now : Tokens) (stem : List RawLabelTree) → LeadsOn tokens stem middle → now ≡ middle → NextIsNot kind.Body middle
      → IsUnread ReadsNoLabel BeginsLabel now length refusal → IsUnread ReadsNoWord BeginsWord tokens length refusal
  stem_lacks_letter tokens middle now stem leads same other unread =
      stem_refused tokens middle stem leads
      (word_lacks_letter length middle other refusal (subst (λ (t : Tokens). IsUnread ReadsNoLabel BeginsLabel t length refusal) same unread))

  -- after a letter of a stem `;` is missing
  pub stem_lacks_semicolon : (one : LabelsAreOne) (tokens middle now rest : Tokens) (stem : List RawLabelTree) (letter : RawLabelTree) → LeadsOn tokens stem middle → now ≡ middle
      → Reads now letter rest → IsMissing kind.End rest length refusal → IsUnread ReadsNoWord BeginsWord tokens length refusal
  stem_lacks_semicolon one tokens middle now rest stem letter leads same reads missing =
      stem_refused tokens middle stem leads
      (lacks_semicolon length one middle rest letter refusal (subst (λ (t : Tokens). Reads t letter rest) same reads) missing)

  -- no letter of a cycle is read after `;`
  pub others_lack_letter : (tokens middle after : Tokens) (letters : List RawLabelTree) → LeadsToOthers tokens letters middle → PassesOne kind.End middle after
      → IsUnread ReadsNoLabel BeginsLabel after length refusal → IsUnread (ReadsNo ReadsOthers) (BeginsPart ReadsOthers) tokens length refusal
  others_lack_letter tokens middle after letters leads passes unread =
      others_refused tokens middle letters leads
      (refused_then (ReadsNo ReadsCycle) (BeginsPart ReadsCycle) (ReadsNo ReadsOthers) (BeginsPart ReadsOthers) length middle after (others_unread length middle after passes) refusal
      (cycle_lacks_letter length after refusal unread))

  -- what is first seen of further letters is first seen of the cycle
  pub cycle_refused : (one : LabelsAreOne) (tokens rest : Tokens) (letter : RawLabelTree) → Reads tokens letter rest → IsUnread (ReadsNo ReadsOthers) (BeginsPart ReadsOthers) rest length refusal
      → IsUnread (ReadsNo ReadsCycle) (BeginsPart ReadsCycle) tokens length refusal
  cycle_refused one tokens rest letter reads =
      refused_then (ReadsNo ReadsOthers) (BeginsPart ReadsOthers) (ReadsNo ReadsCycle) (BeginsPart ReadsCycle) length tokens rest (cycle_unread length one tokens rest letter reads) refusal

  -- and what is first seen of the cycle is first seen with `{`
  pub braced_refused : (tokens rest : Tokens) → PassesOne kind.OpenBrace tokens rest → IsUnread (ReadsNo ReadsCycle) (BeginsPart ReadsCycle) rest length refusal
      → IsUnread (ReadsNo ReadsBraced) (BeginsPart ReadsBraced) tokens length refusal
  braced_refused tokens rest passes =
      refused_then (ReadsNo ReadsCycle) (BeginsPart ReadsCycle) (ReadsNo ReadsBraced) (BeginsPart ReadsBraced) length tokens rest (braced_unread length tokens rest passes) refusal

  -- and then of the word
  pub word_refused : (tokens rest : Tokens) (stem : List RawLabelTree) → LeadsToWord tokens stem rest → IsUnread (ReadsNo ReadsBraced) (BeginsPart ReadsBraced) rest length refusal
      → IsUnread ReadsNoWord BeginsWord tokens length refusal
  word_refused tokens rest stem leads = refused_then (ReadsNo ReadsBraced) (BeginsPart ReadsBraced) ReadsNoWord BeginsWord length tokens rest (leads.unread length) refusal

  -- further letters end where no `;` is
  pub ended_refused : (tokens middle now : Tokens) (letters : List RawLabelTree) → LeadsToOthers tokens letters middle → now ≡ middle
      → IsUnread (ReadsNo ReadsOthers) (BeginsPart ReadsOthers) now length refusal → IsUnread (ReadsNo ReadsOthers) (BeginsPart ReadsOthers) tokens length refusal
  ended_refused tokens middle now letters leads same unread =
      others_refused tokens middle letters leads (subst (λ (t : Tokens). IsUnread (ReadsNo ReadsOthers) (BeginsPart ReadsOthers) t length refusal) same unread)

-- all further letters are read
pub all_others : (tokens middle now : Tokens) (letters : List RawLabelTree) → LeadsToOthers tokens letters middle → now ≡ middle → ReadsOthers now [] → ReadsOthers tokens letters
all_others tokens middle now letters leads same ended =
    subst (ReadsOthers tokens) (append-nil letters) (leads.reads [] (subst (λ (t : Tokens). ReadsOthers t []) same ended))

-- a letter and the others are a cycle
pub cycle_reads : (tokens rest : Tokens) (letter : RawLabelTree) (others : List RawLabelTree) → Reads tokens letter rest → ReadsOthers rest others → ReadsCycle tokens (letter ∷ others)
cycle_reads tokens rest letter others reads more =
    subst (λ (t : Tokens). ReadsCycle t (letter ∷ others)) (sym reads.split) (cycle_after reads.front rest letter others (reads.spells, reads.is) more)

-- `{` and a cycle
pub braced_reads_after : (tokens rest : Tokens) (around : List RawLabelTree) → PassesOne kind.OpenBrace tokens rest → ReadsCycle rest around → ReadsBraced tokens around
braced_reads_after tokens rest around passes reads =
    subst (λ (t : Tokens). ReadsBraced t around) (sym passes.next) (braced_after passes.lexeme rest around passes.is reads)
