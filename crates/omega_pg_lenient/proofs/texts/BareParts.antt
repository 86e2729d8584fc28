-- What stands for names and `-1` in bare texts.
use Rattle.std.proofs.Common.{◌≡◌, ℕ, ◌<◌, inl, inr, Bool, true, false, List, [], ◌∷◌, ◌++◌, get_or, nat_lt, refl, ap, ap₂, sym, ◌∙◌, append_assoc, arith}
use Rattle.std.specs.Prelude.{◌==◌, ◌&&◌, ◌||◌, drop, if◌then◌else◌, not}
use Rattle.std.specs.List.{AllPass}
use Rattle.std.proofs.lemmas.Bool.{eq-eqb, le-ltb, lt-ltb, ne_eqb, or_parts}
use Rattle.std.proofs.lemmas.List.Elements.{All-head, All-tail}
use Rattle.omega_text.specs.Bytes.{is_digit, is_white}
use Rattle.omega_pg_lenient.specs.Parts.{blanks}
use Rattle.omega_pg_lenient.specs.SolutionLines.{after_byte, bare_from, counted, is_last_name, is_no_choice, next_black, place_in_line, shown_in_line}
use Rattle.omega_pg_lenient.specs.SolutionParts.{AreNumbers, EarlyAndLateHyphensStay, EarlyNamesStay, EarlyQuotesStay, InnerNoChoicesStay, InnerNamesStay, IsNameText, IsWhiteSpace, LastNamesAreBlank, LoneHyphensStay, NamedNoChoicesAreBlank, NoChoicesAreBlank, OpenNamesStay, OtherLinesStay, StaysBefore, bare_lines, named_before}
use Rattle.omega_pg_lenient.specs.declared.line_place.LineContext.{LineContext}
use Rattle.omega_pg_lenient.specs.declared.line_place.LineContext.TheVariants.{Between, Choice, Name, Number, Passed}
use Rattle.omega_pg_lenient.specs.declared.line_place.LinePlace.{LinePlace}
use Rattle.omega_pg_lenient.proofs.texts.BareLines.{digits_pass, first_digit, numbers_pass, shown_step, tally, tally_is, white_pass}
use Rattle.omega_pg_lenient.proofs.texts.StrictBare.{IsClean, after_clean, is_outside, shown_clean}

apart : (test : Bool) → not test ≡ true → test ≡ false
apart false e = refl
apart true e = cc

-- ---- other lines

-- a byte that is neither
clean_byte : (byte : ℕ) → not (byte == 34 || byte == 45) ≡ true → IsClean byte
clean_byte byte passes =
    let parts = or_parts (byte == 34) (byte == 45) (apart (byte == 34 || byte == 45) passes) in (
      (λ same. (let clash : true ≡ false = sym (eq-eqb byte 34 same) ∙ parts.0 in cc)),
      (λ same. (let clash : true ≡ false = sym (eq-eqb byte 45 same) ∙ parts.1 in cc)),
    )

line_stays : (context : LineContext) (numbers : ℕ) (line rest : List ℕ) → is_outside context ≡ true → AllPass (λ byte. not (byte == 34 || byte == 45)) line
    → bare_from (place_in_line context numbers) (line ++ 59 ∷ rest) ≡ line ++ 59 ∷ bare_lines rest
line_stays Between numbers [] rest outside all = refl
line_stays Number numbers [] rest outside all = refl
line_stays Between numbers (byte ∷ line) rest outside all =
    let clean = clean_byte byte (All-head (λ b. not (b == 34 || b == 45) ≡ true) byte line all) in
    let next = after_byte Between numbers byte (line ++ 59 ∷ rest) in
    let there = after_clean Between numbers byte (line ++ 59 ∷ rest) clean in
    ap₂ ◌∷◌ (shown_clean Between next.context byte refl there)
    (line_stays next.context next.numbers line rest there (All-tail (λ b. not (b == 34 || b == 45) ≡ true) byte line all))
line_stays Number numbers (byte ∷ line) rest outside all =
    let clean = clean_byte byte (All-head (λ b. not (b == 34 || b == 45) ≡ true) byte line all) in
    let next = after_byte Number numbers byte (line ++ 59 ∷ rest) in
    let there = after_clean Number numbers byte (line ++ 59 ∷ rest) clean in
    ap₂ ◌∷◌ (shown_clean Number next.context byte refl there)
    (line_stays next.context next.numbers line rest there (All-tail (λ b. not (b == 34 || b == 45) ≡ true) byte line all))
line_stays Name numbers line rest outside all = (let clash : false ≡ true = outside in cc)
line_stays Passed numbers line rest outside all = (let clash : false ≡ true = outside in cc)
line_stays Choice numbers line rest outside all = (let clash : false ≡ true = outside in cc)

pub other_lines : OtherLinesStay
other_lines line rest all = line_stays Between 0 line rest refl all

-- ---- what is next

-- behind white space the next byte is the first that is not white
next_is : (gap : List ℕ) (byte : ℕ) (rest : List ℕ) → IsWhiteSpace gap → is_white byte ≡ false → next_black (gap ++ byte ∷ rest) ≡ byte
next_is [] byte rest white black = ap (λ t. if t then next_black rest else byte) black
next_is (first ∷ gap) byte rest white black =
    ap (λ t. if t then next_black (gap ++ byte ∷ rest) else first) (All-head (λ b. is_white b ≡ true) first gap white)
    ∙ next_is gap byte rest (All-tail (λ b. is_white b ≡ true) first gap white) black

-- a byte of a name is neither a quote nor a line feed
name_byte : (byte : ℕ) → not (byte == 34 || byte == 10) ≡ true → ((byte == 34) ≡ false) × ((byte == 10) ≡ false)
name_byte byte passes = or_parts (byte == 34) (byte == 10) (apart (byte == 34 || byte == 10) passes)

-- a name is the last if `;` is next
last_name_by : (name rest : List ℕ) → IsNameText name → is_last_name (name ++ 34 ∷ rest) ≡ (next_black rest == 59)
last_name_by [] rest all = refl
last_name_by (byte ∷ name) rest all =
    let parts = name_byte byte (All-head (λ b. not (b == 34 || b == 10) ≡ true) byte name all) in
    ap (λ t. if t then next_black (name ++ 34 ∷ rest) == 59 else if byte == 10 then false else is_last_name (name ++ 34 ∷ rest)) parts.0
    ∙ ap (λ t. if t then false else is_last_name (name ++ 34 ∷ rest)) parts.1
    ∙ last_name_by name rest (All-tail (λ b. not (b == 34 || b == 10) ≡ true) byte name all)

-- and is not if the line ends in it
open_name : (name rest : List ℕ) → IsNameText name → is_last_name (name ++ 10 ∷ rest) ≡ false
open_name [] rest all = refl
open_name (byte ∷ name) rest all =
    let parts = name_byte byte (All-head (λ b. not (b == 34 || b == 10) ≡ true) byte name all) in
    ap (λ t. if t then next_black (name ++ 10 ∷ rest) == 59 else if byte == 10 then false else is_last_name (name ++ 10 ∷ rest)) parts.0
    ∙ ap (λ t. if t then false else is_last_name (name ++ 10 ∷ rest)) parts.1
    ∙ open_name name rest (All-tail (λ b. not (b == 34 || b == 10) ≡ true) byte name all)

-- ---- what ends a line

-- white space and `;` stay, and a line begins
ends_line : (numbers : ℕ) (gap rest : List ℕ) → IsWhiteSpace gap
    → bare_from (place_in_line Between numbers) (gap ++ 59 ∷ rest) ≡ gap ++ 59 ∷ bare_lines rest
ends_line numbers gap rest white = white_pass numbers gap (59 ∷ rest) white

-- the bytes of a name that is passed over, up to its second quote
passed_over : (numbers : ℕ) (name rest : List ℕ) → IsNameText name
    → bare_from (place_in_line Passed numbers) (name ++ 34 ∷ rest) ≡ blanks (name ++ 34 ∷ []) ++ bare_from (place_in_line Between numbers) rest
passed_over numbers [] rest all = refl
passed_over numbers (byte ∷ name) rest all =
    shown_step Passed numbers byte (name ++ 34 ∷ rest) (place_in_line Passed numbers)
    (ap (λ t. place_in_line (if t then Between else Passed) numbers) (name_byte byte (All-head (λ b. not (b == 34 || b == 10) ≡ true) byte name all)).0)
    ∙ ap (λ list. 32 ∷ list) (passed_over numbers name rest (All-tail (λ b. not (b == 34 || b == 10) ≡ true) byte name all))

-- a name behind two numbers or more, before the end of a line
ending_name : (numbers : ℕ) (name gap rest : List ℕ) → 1 < numbers → IsNameText name → IsWhiteSpace gap
    → bare_from (place_in_line Between numbers) (named_before name (gap ++ 59 ∷ rest)) ≡ blanks (named_before name []) ++ (gap ++ 59 ∷ bare_lines rest)
ending_name numbers name gap rest many all white =
    let last : is_last_name (name ++ 34 ∷ (gap ++ 59 ∷ rest)) ≡ true =
    last_name_by name (gap ++ 59 ∷ rest) all ∙ ap (λ n. n == 59) (next_is gap 59 rest white refl) in
    shown_step Between numbers 34 (name ++ 34 ∷ (gap ++ 59 ∷ rest)) (place_in_line Passed numbers)
    (ap₂ (λ s t. place_in_line (if s && t then Passed else Name) numbers) (lt-ltb 1 numbers many) last)
    ∙ ap (λ list. 32 ∷ list) (passed_over numbers name (gap ++ 59 ∷ rest) all)
    ∙ ap (λ list. blanks (named_before name []) ++ list) (ends_line numbers gap rest white)

pub last_names : LastNamesAreBlank
last_names n front name gap rest (inl two) are all white =
    let many : 1 < tally n 0 = let is = tally_is n 0 (omega arith) in omega (arith, is, two) in
    numbers_pass n 0 front 34 (name ++ 34 ∷ (gap ++ 59 ∷ rest)) are refl
    ∙ ap (λ list. front ++ list) (ending_name (tally n 0) name gap rest many all white)
last_names n front name gap rest (inr three) are all white =
    let many : 1 < tally n 0 = let is = tally_is n 0 (omega arith) in omega (arith, is, three) in
    numbers_pass n 0 front 34 (name ++ 34 ∷ (gap ++ 59 ∷ rest)) are refl
    ∙ ap (λ list. front ++ list) (ending_name (tally n 0) name gap rest many all white)

-- `-1` behind two numbers
choice_blank : (rest : List ℕ) → is_no_choice (49 ∷ rest) ≡ true
    → bare_from (place_in_line Between 2) (45 ∷ 49 ∷ rest) ≡ 32 ∷ 32 ∷ bare_from (place_in_line Between 2) rest
choice_blank rest is =
    shown_step Between 2 45 (49 ∷ rest) (place_in_line Choice 2) (ap (λ t. if t then place_in_line Choice 2 else place_in_line Between 2) is)

pub no_choices : NoChoicesAreBlank
no_choices front gap rest are white =
    let is : is_no_choice (49 ∷ (gap ++ 59 ∷ rest)) ≡ true = ap (λ n. n == 59 || n == 34) (next_is gap 59 rest white refl) in
    numbers_pass 2 0 front 45 (49 ∷ (gap ++ 59 ∷ rest)) are refl
    ∙ ap (λ list. front ++ list) (choice_blank (gap ++ 59 ∷ rest) is ∙ ap (λ list. 32 ∷ 32 ∷ list) (ends_line 2 gap rest white))

pub named_no_choices : NamedNoChoicesAreBlank
named_no_choices front between name gap rest are white all white' =
    let ending : List ℕ = named_before name (gap ++ 59 ∷ rest) in
    let is : is_no_choice (49 ∷ (between ++ ending)) ≡ true = ap (λ n. n == 59 || n == 34) (next_is between 34 (name ++ 34 ∷ (gap ++ 59 ∷ rest)) white refl) in
    numbers_pass 2 0 front 45 (49 ∷ (between ++ ending)) are refl
    ∙ ap (λ list. front ++ list)
    (choice_blank (between ++ ending) is
    ∙ ap (λ list. 32 ∷ 32 ∷ list)
    (white_pass 2 between ending white ∙ ap (λ list. between ++ list) (ending_name 2 name gap rest (omega arith) all white')))

-- ---- what stays

-- a byte behind numbers stays, if it is shown for itself
stays_by : (n : ℕ) (front : List ℕ) (byte : ℕ) (rest : List ℕ) (next : LinePlace) → AreNumbers n front → is_digit byte ≡ false
    → after_byte Between (tally n 0) byte rest ≡ next → shown_in_line Between next.context byte ≡ byte
    → bare_lines (front ++ byte ∷ rest) ≡ front ++ byte ∷ bare_from next rest
stays_by n front byte rest next are other is shown =
    numbers_pass n 0 front byte rest are other
    ∙ ap (λ list. front ++ list) (shown_step Between (tally n 0) byte rest next is)
    ∙ ap (λ b. front ++ b ∷ bare_from next rest) shown

-- so bytes stay behind a front
begins : (front bytes rest shown : List ℕ) → bare_lines (front ++ (bytes ++ rest)) ≡ front ++ (bytes ++ shown) → StaysBefore (front ++ bytes) rest
begins front bytes rest shown e =
    (shown, ap bare_lines (append_assoc front bytes rest) ∙ e ∙ sym (append_assoc front bytes shown))

-- digits stay, whatever is before them
digits_between : (numbers : ℕ) (digits rest : List ℕ) → AllPass is_digit digits
    → (shown : List ℕ) × (bare_from (place_in_line Between numbers) (digits ++ rest) ≡ digits ++ shown)
digits_between numbers [] rest all = (bare_from (place_in_line Between numbers) rest, refl)
digits_between numbers (digit ∷ digits) rest all = (
  bare_from (place_in_line Number (counted Between numbers)) rest,
  first_digit numbers digit (digits ++ rest) (All-head (λ b. is_digit b ≡ true) digit digits all)
      ∙ ap (λ list. digit ∷ list) (digits_pass (counted Between numbers) digits rest (All-tail (λ b. is_digit b ≡ true) digit digits all)),
)

pub early_and_late_hyphens : EarlyAndLateHyphensStay
early_and_late_hyphens n front digits rest are other all =
    let count = tally_is n 0 (omega arith) in
    let not_two : (tally n 0 == 2) ≡ false = ne_eqb (tally n 0) 2 (λ same. other (omega (arith, count, same))) in
    let behind = digits_between (tally n 0) digits rest all in
    begins front (45 ∷ digits) rest behind.0
    (stays_by n front 45 (digits ++ rest) (place_in_line Between (tally n 0)) are refl
    (ap (λ t. if t && is_no_choice (digits ++ rest) then place_in_line Choice (tally n 0) else place_in_line Between (tally n 0)) not_two) refl
    ∙ ap (λ list. front ++ 45 ∷ list) behind.1)

-- a hyphen behind two numbers
hyphen_stays : (front rest : List ℕ) → AreNumbers 2 front → is_no_choice rest ≡ false
    → bare_lines (front ++ 45 ∷ rest) ≡ front ++ 45 ∷ bare_from (place_in_line Between 2) rest
hyphen_stays front rest are unlike =
    stays_by 2 front 45 rest (place_in_line Between 2) are refl (ap (λ t. if t then place_in_line Choice 2 else place_in_line Between 2) unlike) refl

pub lone_hyphens : LoneHyphensStay
lone_hyphens front rest are other =
    begins front (45 ∷ []) rest (bare_from (place_in_line Between 2) rest)
    (hyphen_stays front rest are
    (ap (λ t. t && (next_black (drop 1 rest) == 59 || next_black (drop 1 rest) == 34)) (ne_eqb (get_or rest 0 0) 49 other)))

pub inner_no_choices : InnerNoChoicesStay
inner_no_choices front gap next rest are white black semicolon quote =
    let ending : List ℕ = gap ++ next ∷ rest in
    begins front (45 ∷ 49 ∷ []) ending (bare_from (place_in_line Number 3) ending)
    (hyphen_stays front (49 ∷ ending) are
    (ap (λ n. n == 59 || n == 34) (next_is gap next rest white black) ∙ ap₂ ◌||◌ (ne_eqb next 59 semicolon) (ne_eqb next 34 quote)))

-- the bytes behind a quote stay in a name
in_name : (numbers : ℕ) (name rest : List ℕ) → IsNameText name
    → bare_from (place_in_line Name numbers) (name ++ rest) ≡ name ++ bare_from (place_in_line Name numbers) rest
in_name numbers [] rest all = refl
in_name numbers (byte ∷ name) rest all =
    shown_step Name numbers byte (name ++ rest) (place_in_line Name numbers)
    (ap (λ t. place_in_line (if t then Between else Name) numbers) (name_byte byte (All-head (λ b. not (b == 34 || b == 10) ≡ true) byte name all)).0)
    ∙ ap (λ list. byte ∷ list) (in_name numbers name rest (All-tail (λ b. not (b == 34 || b == 10) ≡ true) byte name all))

-- a quote that begins no last name
quote_stays : (n : ℕ) (front name rest : List ℕ) → AreNumbers n front → IsNameText name → (nat_lt 1 (tally n 0) && is_last_name (name ++ rest)) ≡ false
    → bare_lines (front ++ 34 ∷ (name ++ rest)) ≡ front ++ 34 ∷ (name ++ bare_from (place_in_line Name (tally n 0)) rest)
quote_stays n front name rest are all unlike =
    stays_by n front 34 (name ++ rest) (place_in_line Name (tally n 0)) are refl (ap (λ t. place_in_line (if t then Passed else Name) (tally n 0)) unlike) refl
    ∙ ap (λ list. front ++ 34 ∷ list) (in_name (tally n 0) name rest all)

-- with what ends the name
begins_named : (front name end rest shown : List ℕ) → bare_lines (front ++ 34 ∷ (name ++ (end ++ rest))) ≡ front ++ 34 ∷ (name ++ (end ++ shown))
    → StaysBefore (front ++ 34 ∷ (name ++ end)) rest
begins_named front name end rest shown e =
    begins front (34 ∷ (name ++ end)) rest shown
    (ap (λ list. bare_lines (front ++ 34 ∷ list)) (append_assoc name end rest) ∙ e ∙ ap (λ list. front ++ 34 ∷ list) (sym (append_assoc name end shown)))

and_false : (test : Bool) → (test && false) ≡ false
and_false true = refl
and_false false = refl

-- no name ends a line of fewer than two numbers
few_numbers : (n : ℕ) (last : Bool) → n < 2 → (nat_lt 1 (tally n 0) && last) ≡ false
few_numbers n last few =
    let count = tally_is n 0 (omega arith) in
    ap (λ t. t && last) (le-ltb 1 (tally n 0) (omega (arith, count, few)))

pub early_quotes : EarlyQuotesStay
early_quotes n front name rest are few all =
    begins front (34 ∷ name) rest (bare_from (place_in_line Name (tally n 0)) rest)
    (quote_stays n front name rest are all (few_numbers n (is_last_name (name ++ rest)) few))

pub early_names : EarlyNamesStay
early_names n front name rest are few all =
    begins_named front name (34 ∷ []) rest (bare_from (place_in_line Between (tally n 0)) rest)
    (quote_stays n front name (34 ∷ rest) are all (few_numbers n (is_last_name (name ++ 34 ∷ rest)) few))

pub inner_names : InnerNamesStay
inner_names n front name gap next rest are all white black semicolon =
    begins_named front name (34 ∷ []) (gap ++ next ∷ rest) (bare_from (place_in_line Between (tally n 0)) (gap ++ next ∷ rest))
    (quote_stays n front name (34 ∷ (gap ++ next ∷ rest)) are all
    (ap (λ t. nat_lt 1 (tally n 0) && t)
    (last_name_by name (gap ++ next ∷ rest) all ∙ ap (λ b. b == 59) (next_is gap next rest white black) ∙ ne_eqb next 59 semicolon)
    ∙ and_false (nat_lt 1 (tally n 0))))

pub open_names : OpenNamesStay
open_names n front name rest are all =
    begins_named front name (10 ∷ []) rest (bare_from (place_in_line Name (tally n 0)) rest)
    (quote_stays n front name (10 ∷ rest) are all
    (ap (λ t. nat_lt 1 (tally n 0) && t) (open_name name rest all) ∙ and_false (nat_lt 1 (tally n 0))))
