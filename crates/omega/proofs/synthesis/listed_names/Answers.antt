-- `listed_names`: one name more is taken off the rest; at last no NUL is left.
use Rattle.std.proofs.Common.{◌≡◌, ℕ, ◌+◌, ◌++◌, List, Some, length, drop, sym, ap, ◌∙◌, arith}
use Rattle.std.specs.Prelude.{position}
use Rattle.std.specs.List.{slice_split}
use Rattle.std.proofs.lemmas.Slice.{between_to_end}
use Rattle.omega.specs.Running.{is_nul}
use Rattle.omega.specs.Synthesis.{pieces_between}
use Rattle.omega.proofs.Words.{all_but_last, one_word, split_none}
use Rattle.omega.proofs.synthesis.listed_names.Goals as goal

pub loop-end-preserved : goal.loop-end-preserved
loop-end-preserved c =
    let rest : List ℕ = c.loop-end.rest.now in
    let end : ℕ = c.in-Some.end in
    let found : position is_nul rest ≡ Some end = sym c.first_nul.ensures ∙ c.in-Some.is in
    record {
      pieces = one_word is_nul (pieces_between c.args.text.now) c.loop-end.names.items rest c.in_ok-from_slice.field-0 end c.loop-end.invariant.pieces found
          c.in_ok-from_slice.ensures
          ∙ ap (λ (names : List (List ℕ)). names ++ slice_split is_nul (drop (end + 1) rest)) (sym c.in_ok-push.ensures.items)
          ∙ ap (λ (other : List ℕ). c.push.new.self.items ++ slice_split is_nul other) (sym (between_to_end rest (end + 1) (length rest) (omega arith)));
    }

pub returns : goal.returns
returns c =
    let rest : List ℕ = c.loop-end.rest.now in
    all_but_last (pieces_between c.args.text.now) c.loop-end.names.items rest
    (c.loop-end.invariant.pieces ∙ ap (λ (parts : List (List ℕ)). c.loop-end.names.items ++ parts) (split_none is_nul rest (sym c.first_nul.ensures ∙ c.in_default.is)))
