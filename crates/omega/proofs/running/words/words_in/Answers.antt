-- `words_in`: one word more is taken off the rest, or is no text; at last no NUL is left.
use Rattle.std.proofs.Common.{◌≡◌, ℕ, ◌+◌, ◌∷◌, ◌++◌, [], List, None, Some, length, take, drop, map, refl, sym, ap, subst, ◌∙◌, All, rules, arith}
use Rattle.std.specs.Prelude.{position, string_bytes}
use Rattle.std.specs.List.{slice_split}
use Rattle.std.specs.Str.{IsUtf8}
use Rattle.std.proofs.lemmas.List.{map-append}
use Rattle.std.proofs.lemmas.List.Elements.{All-push}
use Rattle.std.proofs.lemmas.Slice.{between_to_end, pushed}
use Rattle.omega.specs.Running.{is_nul, pieces_of}
use Rattle.omega.proofs.Words.{one_word, some_piece, split_at_first, split_none}
use Rattle.omega.proofs.running.words.words_in.Goals as goal

pub returns-in_default-from_utf8-clause-none : goal.returns-in_default-from_utf8-clause-none
returns-in_default-from_utf8-clause-none c =
    let rest : List ℕ = c.loop-end.rest.now in
    let end : ℕ = c.in-Some.end in
    let found : position is_nul rest ≡ Some end = sym c.first_nul.ensures ∙ c.in-Some.is in
    record {
      front = map string_bytes c.loop-end.words.items;
      word = take end rest;
      back = slice_split is_nul (drop (end + 1) rest);
      split = c.loop-end.invariant.pieces ∙ ap (λ (parts : List (List ℕ)). map string_bytes c.loop-end.words.items ++ parts) ((split_at_first is_nul rest end found).1);
      ended = some_piece is_nul (drop (end + 1) rest);
      broken = c.in_default-from_utf8.ensures.cases.0;
    }

pub loop-end-preserved : goal.loop-end-preserved
loop-end-preserved c =
    let rest : List ℕ = c.loop-end.rest.now in
    let end : ℕ = c.in-Some.end in
    let found : position is_nul rest ≡ Some end = sym c.first_nul.ensures ∙ c.in-Some.is in
    let text = c.in_ok-from_str-2.field-0 in
    let was = c.loop-end.words.items in
    let is : string_bytes text ≡ take end rest = c.in_ok-from_str-2.ensures.ok ∙ c.in-Ok.ensures.cases.0 in
    let more : map string_bytes was ++ string_bytes text ∷ [] ≡ map string_bytes c.push-in-Some.new.self.items =
    sym (map-append string_bytes was (text ∷ [])) ∙ ap (map string_bytes) (sym (pushed (text ∷ []) refl c.in_ok-push-2.was c.push-in-Some.ensures.items)) in
    record {
      pieces = one_word is_nul (pieces_of c.args.text.now) (map string_bytes was) rest (string_bytes text) end c.loop-end.invariant.pieces found is
          ∙ ap (λ (words : List (List ℕ)). words ++ slice_split is_nul (drop (end + 1) rest)) more
          ∙ ap (λ (other : List ℕ). map string_bytes c.push-in-Some.new.self.items ++ slice_split is_nul other)
          (sym (between_to_end rest (end + 1) (length rest) (omega arith)));
      texts = subst (All IsUtf8) more
          (All-push IsUtf8 (map string_bytes was) (string_bytes text) c.loop-end.invariant.texts (subst IsUtf8 (sym is) c.in-Ok.ensures.cases.1));
    }

pub returns-clause-words : goal.returns-clause-words
returns-clause-words c =
    let rest : List ℕ = c.loop-end.rest.now in
    let none : c.first_nul.result ≡ None = first_of (assumption (c.in_default.is), search rules) in
    record {
      rest = rest;
      split = c.loop-end.invariant.pieces ∙ ap (λ (parts : List (List ℕ)). map string_bytes c.loop-end.words.items ++ parts) (split_none is_nul rest (sym c.first_nul.ensures ∙ none));
      texts = c.loop-end.invariant.texts;
    }
