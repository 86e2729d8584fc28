-- The written form of a walk, covered: a lasso text with more white space.
use Rattle.std.proofs.Common.{◌≡◌, ℕ, suc, ◌+◌, ◌-◌, ◌<◌, ◌≤◌, ◌==◌, Bool, true, false, cond, All, List, [], ◌∷◌, ◌++◌, Option, None, Some, length, get_or, map, replicate, refl, sym, ap, subst, ◌∙◌, append_assoc, arith, codes, length-append}
use Rattle.std.specs.Prelude.{IfSome, decimal, slice_index}
use Rattle.std.specs.List.{AllPass, prefix_len}
use Rattle.std.proofs.lemmas.Bool.Decides.{nat_tests}
use Rattle.std.proofs.lemmas.Fmt.{decimal_digit}
use Rattle.std.proofs.lemmas.List.{length-map}
use Rattle.std.proofs.lemmas.List.Elements.{All-cons, All-head, All-nil, All-replicate, All-tail}
use Rattle.omega_text.specs.Bytes.{is_digit, is_white}
use Rattle.omega_text.specs.Limits.{most_number}
use Rattle.omega_text.specs.pg.Forms.{is_name_byte}
use Rattle.omega_text.proofs.pg_texts.Classes.{digit_range}
use Rattle.omega_text.proofs.pg_texts.Numbers.{decimal_digits}
use Rattle.omega_game_values.specs.Game.{IsNameByte, IsWithinLimits, Node, identifier_at, no_node, node_at}
use Rattle.omega_game_values.specs.declared.player.Player.{Player}
use Rattle.omega_game_values.specs.declared.player.Player.TheVariants.{One, Zero}
use Rattle.omega_lang_lasso_text.specs.Laws.{AreSpaced, SpacedLassosAreRead, numbers_in}
use Rattle.omega_lang_lasso_text.specs.Written.{spaced_numbers, spaced_text}
use Rattle.omega_answers_walk.specs.Covered.{covered, front_size, lasso_in, left_from, name_size, quoted_size}
use Rattle.omega_answers_walk.specs.WalkTextLaws.{AreInside, LassosStandAtTheirPlaces, WrittenWalksAreRead, identifiers_of, no_line}
use Rattle.omega_lang_lasso_text.specs.Text.{IsLassoText}
use Rattle.omega_answers_walk.specs.Written.{name_after, name_if, nodes_text, walk_text}

-- as many spaces
abbrev spaces : ℕ → List ℕ
spaces n = replicate n 32

-- ---- one byte

more_than_none : (n : ℕ) → (n + 1 == 0) ≡ false
more_than_none n = grind (arith, nat_tests)

-- a byte that is covered
cover_byte : (byte : ℕ) (rest : List ℕ) (now n : ℕ) → now ≡ n + 1 → (cond (now == 0) byte 32) ∷ covered (now - 1) rest ≡ 32 ∷ covered n rest
cover_byte byte rest now n is =
    let less : now - 1 ≡ n = omega (arith, is) in
    ap (λ (b : Bool). cond b byte 32 ∷ covered (now - 1) rest) (ap (λ (m : ℕ). m == 0) is ∙ more_than_none n)
    ∙ ap (λ (m : ℕ). 32 ∷ covered m rest) less

left_more : (n : ℕ) (bytes : List ℕ) → left_from (n + 1) bytes ≡ n + 1
left_more n bytes = ap (λ (b : Bool). cond b (quoted_size bytes) (n + 1)) (more_than_none n)

-- bytes that are covered
cover_front : (front rest : List ℕ) (left : ℕ) → left ≡ length front → covered left (front ++ rest) ≡ spaces (length front) ++ covered 0 rest
cover_front [] rest left is = ap (λ (n : ℕ). covered n rest) is
cover_front (byte ∷ front) rest left is =
    let more : left ≡ length front + 1 = omega (arith, is) in
    cover_byte byte (front ++ rest) (left_from left (byte ∷ (front ++ rest))) (length front)
    (ap (λ (n : ℕ). left_from n (byte ∷ (front ++ rest))) more ∙ left_more (length front) (byte ∷ (front ++ rest)))
    ∙ ap (λ (list : List ℕ). 32 ∷ list) (cover_front front rest (length front) refl)

-- ---- bytes that are left as they are

abbrev IsPlain : ℕ → Type 0
IsPlain byte = (byte == 34) ≡ false

plain_byte : (byte : ℕ) (rest : List ℕ) → IsPlain byte → covered 0 (byte ∷ rest) ≡ byte ∷ covered 0 rest
plain_byte byte rest plain =
    let none : left_from 0 (byte ∷ rest) ≡ 0 = ap (λ (b : Bool). cond b (cond (name_size rest == 0) 0 (name_size rest + 1)) 0) plain in
    ap (λ (now : ℕ). cond (now == 0) byte 32 ∷ covered (now - 1) rest) none

plain_text : (text rest : List ℕ) → All IsPlain text → covered 0 (text ++ rest) ≡ text ++ covered 0 rest
plain_text [] rest plain = refl
plain_text (byte ∷ text) rest plain =
    plain_byte byte (text ++ rest) (All-head IsPlain byte text plain)
    ∙ ap (λ (list : List ℕ). byte ∷ list) (plain_text text rest (All-tail IsPlain byte text plain))

-- digits are
digit_plain : (byte : ℕ) → is_digit byte ≡ true → IsPlain byte
digit_plain byte digit = let range = digit_range byte digit in grind (arith, nat_tests)

number_plain : (n : ℕ) → All IsPlain (decimal n)
number_plain n i d inside = digit_plain (get_or (decimal n) i d) ((decimal_digits n).1 i d inside)

-- ---- names

name_count : (name rest : List ℕ) → AllPass is_name_byte name → prefix_len is_name_byte (name ++ 34 ∷ rest) ≡ length name
name_count [] rest good = refl
name_count (byte ∷ name) rest good =
    let others = name_count name rest (All-tail (λ (x : ℕ). is_name_byte x ≡ true) byte name good) in
    ap (λ (b : Bool). cond b (1 + prefix_len is_name_byte (name ++ 34 ∷ rest)) 0) (All-head (λ (x : ℕ). is_name_byte x ≡ true) byte name good)
    ∙ omega (arith, others)

end_of_name : (name rest : List ℕ) → slice_index (name ++ 34 ∷ rest) (length name) ≡ 34
end_of_name [] rest = refl
end_of_name (byte ∷ name) rest = end_of_name name rest

name_size_is : (name rest : List ℕ) → AllPass is_name_byte name → name_size (name ++ 34 ∷ rest) ≡ length name + 1
name_size_is name rest good =
    ap (λ (n : ℕ). cond (slice_index (name ++ 34 ∷ rest) n == 34) (n + 1) 0) (name_count name rest good)
    ∙ ap (λ (byte : ℕ). cond (byte == 34) (length name + 1) 0) (end_of_name name rest)

cover_name : (name rest : List ℕ) → AllPass is_name_byte name → covered 0 (34 ∷ (name ++ 34 ∷ rest)) ≡ spaces (length name + 2) ++ covered 0 rest
cover_name name rest good =
    let size = name_size_is name rest good in
    let now : left_from 0 (34 ∷ (name ++ 34 ∷ rest)) ≡ (length name + 1) + 1 =
    ap (λ (n : ℕ). cond (n == 0) 0 (n + 1)) size ∙ ap (λ (b : Bool). cond b 0 ((length name + 1) + 1)) (more_than_none (length name)) in
    let whole : (name ++ 34 ∷ []) ++ rest ≡ name ++ 34 ∷ rest = append_assoc name (34 ∷ []) rest in
    let long : length name + 1 ≡ length (name ++ 34 ∷ []) = omega (arith, length-append name (34 ∷ [])) in
    let two : suc (length (name ++ 34 ∷ [])) ≡ length name + 2 = omega (arith, long) in
    cover_byte 34 (name ++ 34 ∷ rest) (left_from 0 (34 ∷ (name ++ 34 ∷ rest))) (length name + 1) now
    ∙ ap (λ (list : List ℕ). 32 ∷ covered (length name + 1) list) (sym whole)
    ∙ ap (λ (list : List ℕ). 32 ∷ list) (cover_front (name ++ 34 ∷ []) rest (length name + 1) long)
    ∙ ap (λ (n : ℕ). spaces n ++ covered 0 rest) two

-- a name after its space
cover_name_after : (name : Option (List ℕ)) (rest : List ℕ) → IfSome name (All IsNameByte)
    → covered 0 (name_after name ++ rest) ≡ spaces (length (name_after name)) ++ covered 0 rest
cover_name_after None rest good = refl
cover_name_after (Some name) rest good =
    let whole : name_after (Some name) ++ rest ≡ 32 ∷ (34 ∷ (name ++ 34 ∷ rest)) =
    ap (λ (list : List ℕ). 32 ∷ (34 ∷ list)) (append_assoc name (34 ∷ []) rest) in
    let long : suc (length name + 2) ≡ length (name_after (Some name)) = omega (arith, length-append name (34 ∷ [])) in
    ap (covered 0) whole ∙ plain_byte 32 (34 ∷ (name ++ 34 ∷ rest)) refl
    ∙ ap (λ (list : List ℕ). 32 ∷ list) (cover_name name rest (λ i d inside. name_byte (get_or name i d) (good i d inside)))
    ∙ ap (λ (n : ℕ). spaces n ++ covered 0 rest) long
  where
    name_byte : (b : ℕ) → IsNameByte b → is_name_byte b ≡ true
    name_byte b good = grind (arith, nat_tests)

-- ---- nodes

module _ (names : Bool) (nodes : List Node) (limits : IsWithinLimits nodes) where
  -- a node is written as its identifier, before spaces
  abbrev item : ℕ → ℕ × List ℕ
  item place = (identifier_at nodes place, spaces (length (name_if names nodes place)))

  cover_name_if : (wanted : Bool) (place : ℕ) (rest : List ℕ) → place < length nodes
      → covered 0 (name_if wanted nodes place ++ rest) ≡ spaces (length (name_if wanted nodes place)) ++ covered 0 rest
  cover_name_if false place rest inside = refl
  cover_name_if true place rest inside = cover_name_after (node_at nodes place).name rest (limits.writable place no_node inside).name

  cover_nodes : (places rest : List ℕ) → AreInside nodes places
      → covered 0 (nodes_text names nodes places ++ rest) ≡ spaced_numbers (map item places) ++ covered 0 rest
  cover_nodes [] rest inside = refl
  cover_nodes (place ∷ places) rest inside =
      let here = All-head (λ (v : ℕ). v < length nodes) place places inside in
      let later = All-tail (λ (v : ℕ). v < length nodes) place places inside in
      let id = identifier_at nodes place in
      let name = name_if names nodes place in
      let gap = spaces (length name) in
      let others = nodes_text names nodes places in
      let following = spaced_numbers (map item places) ++ covered 0 rest in
      let whole : nodes_text names nodes (place ∷ places) ++ rest ≡ (32 ∷ decimal id) ++ (name ++ (others ++ rest)) =
      append_assoc (codes " " ++ (decimal id ++ name)) others rest ∙ append_assoc (32 ∷ decimal id) name (others ++ rest) in
      let told : spaced_numbers (map item (place ∷ places)) ++ covered 0 rest ≡ (32 ∷ decimal id) ++ (gap ++ following) =
      append_assoc (codes " " ++ (decimal id ++ gap)) (spaced_numbers (map item places)) (covered 0 rest) ∙ append_assoc (32 ∷ decimal id) gap following in
      ap (covered 0) whole
      ∙ plain_text (32 ∷ decimal id) (name ++ (others ++ rest)) (All-cons IsPlain 32 (decimal id) refl (number_plain id))
      ∙ ap (λ (list : List ℕ). (32 ∷ decimal id) ++ list)
      (cover_name_if names place (others ++ rest) here ∙ ap (λ (list : List ℕ). gap ++ list) (cover_nodes places rest later))
      ∙ sym told

  -- these are numbers before white space
  nodes_spaced : (places : List ℕ) → AreInside nodes places → AreSpaced (map item places)
  nodes_spaced [] inside = All-nil (λ (i : ℕ × List ℕ). (i.0 ≤ most_number) × AllPass is_white i.1)
  nodes_spaced (place ∷ places) inside =
      let here = All-head (λ (v : ℕ). v < length nodes) place places inside in
      All-cons (λ (i : ℕ × List ℕ). (i.0 ≤ most_number) × AllPass is_white i.1) (item place) (map item places)
      ((limits.writable place no_node here).identifier, All-replicate (λ (byte : ℕ). is_white byte ≡ true) (length (name_if names nodes place)) 32 refl)
      (nodes_spaced places (All-tail (λ (v : ℕ). v < length nodes) place places inside))

  numbers_told : (places : List ℕ) → numbers_in (map item places) ≡ identifiers_of nodes places
  numbers_told [] = refl
  numbers_told (place ∷ places) = ap (λ (list : List ℕ). identifier_at nodes place ∷ list) (numbers_told places)

  -- the lines of the stem and of the cycle
  abbrev lines_of : (stem cycle : List ℕ) → List ℕ
  lines_of stem cycle = codes "stem" ++ (nodes_text names nodes stem ++ (codes "\ncycle" ++ (nodes_text names nodes cycle ++ codes "\n")))

  cover_lines : (stem cycle : List ℕ) → AreInside nodes stem → AreInside nodes cycle
      → covered 0 (lines_of stem cycle) ≡ codes "stem" ++ (spaced_numbers (map item stem) ++ (codes "\ncycle" ++ (spaced_numbers (map item cycle) ++ codes "\n")))
  cover_lines stem cycle inside round =
      let last = codes "\ncycle" ++ (nodes_text names nodes cycle ++ codes "\n") in
      ap (λ (list : List ℕ). codes "stem" ++ list)
      (cover_nodes stem last inside
      ∙ ap (λ (list : List ℕ). spaced_numbers (map item stem) ++ (codes "\ncycle" ++ list)) (cover_nodes cycle (codes "\n") round))

  -- the lines before them
  abbrev front_of : Bool → Player → List ℕ
  front_of refuted Zero = no_line refuted ++ codes "player 0\n"
  front_of refuted One = no_line refuted ++ codes "player 1\n"

  -- a walk's text begins with these lines, which are as long as is found
  front_first : (refuted : Bool) (player : Player) (stem cycle : List ℕ)
      → no_line refuted ++ walk_text names nodes player stem cycle ≡ front_of refuted player ++ lines_of stem cycle
  front_first false Zero stem cycle =
      ap (λ (digits : List ℕ). codes "player " ++ (digits ++ 10 ∷ lines_of stem cycle)) (decimal_digit 0 (omega arith))
  front_first false One stem cycle =
      ap (λ (digits : List ℕ). codes "player " ++ (digits ++ 10 ∷ lines_of stem cycle)) (decimal_digit 1 (omega arith))
  front_first true Zero stem cycle =
      ap (λ (digits : List ℕ). codes "no\nplayer " ++ (digits ++ 10 ∷ lines_of stem cycle)) (decimal_digit 0 (omega arith))
  front_first true One stem cycle =
      ap (λ (digits : List ℕ). codes "no\nplayer " ++ (digits ++ 10 ∷ lines_of stem cycle)) (decimal_digit 1 (omega arith))

  front_sized : (refuted : Bool) (player : Player) (stem cycle : List ℕ)
      → front_size (front_of refuted player ++ lines_of stem cycle) ≡ length (front_of refuted player)
  front_sized false Zero stem cycle = refl
  front_sized false One stem cycle = refl
  front_sized true Zero stem cycle = refl
  front_sized true One stem cycle = refl

  -- so the whole is a lasso text with more white space
  walk_covered : (refuted : Bool) (player : Player) (stem cycle : List ℕ) → AreInside nodes stem → AreInside nodes cycle
      → lasso_in (no_line refuted ++ walk_text names nodes player stem cycle)
      ≡ spaced_text (spaces (length (front_of refuted player))) (map item stem) (map item cycle)
  walk_covered refuted player stem cycle inside round =
      ap lasso_in (front_first refuted player stem cycle)
      ∙ cover_front (front_of refuted player) (lines_of stem cycle) (front_size (front_of refuted player ++ lines_of stem cycle))
      (front_sized refuted player stem cycle)
      ∙ ap (λ (list : List ℕ). spaces (length (front_of refuted player)) ++ list) (cover_lines stem cycle inside round)

pub walks_read : SpacedLassosAreRead → LassosStandAtTheirPlaces → WrittenWalksAreRead
walks_read read same refuted names nodes player stem cycle limits inside round longer short =
    let source = no_line refuted ++ walk_text names nodes player stem cycle in
    let front = spaces (length (front_of names nodes limits refuted player)) in
    let before = map (item names nodes limits) stem in
    let around = map (item names nodes limits) cycle in
    let covered_so = walk_covered names nodes limits refuted player stem cycle inside round in
    let text = read front before around
    (All-replicate (λ (byte : ℕ). is_white byte ≡ true) (length (front_of names nodes limits refuted player)) 32 refl)
    (nodes_spaced names nodes limits stem inside) (nodes_spaced names nodes limits cycle round)
    (omega (arith, longer, length-map cycle (item names nodes limits)))
    (omega (arith, short, same source, ap length covered_so)) in
    subst (λ (list : List ℕ). IsLassoText list (record { stem = identifiers_of nodes stem; cycle = identifiers_of nodes cycle })) (sym covered_so)
    (subst (λ (numbers : List ℕ). IsLassoText (spaced_text front before around) (record { stem = numbers; cycle = identifiers_of nodes cycle }))
    (numbers_told names nodes limits stem)
    (subst (λ (numbers : List ℕ). IsLassoText (spaced_text front before around) (record { stem = numbers_in before; cycle = numbers }))
    (numbers_told names nodes limits cycle) text))
