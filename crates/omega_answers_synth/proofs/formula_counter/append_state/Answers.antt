-- one part after the other
use Rattle.std.proofs.Common.{◌≡◌, ◌++◌, ℕ, List, ap, ◌∙◌, append_assoc}
use Rattle.std.specs.Prelude.{codes, decimal}
use Rattle.omega_lang_lasso_text.specs.Written.{numbers_text}
use Rattle.omega_answers_synth.proofs.formula_counter.append_state.Goals as goal

-- what is appended to something appended
following : (before text more now after : List ℕ) → now ≡ before ++ text → after ≡ now ++ more → after ≡ before ++ (text ++ more)
following before text more now after first second = second ∙ ap (λ (list : List ℕ). list ++ more) first ∙ append_assoc before text more

pub returns-clause-lines : goal.returns-clause-lines
returns-clause-lines c =
    let out : List ℕ = c.args.out.now.items in
    let state : List ℕ = decimal c.args.letterless.now.state in
    let stem : List ℕ = numbers_text c.args.letterless.now.stem in
    let end : List ℕ = codes "\n" in
    let one : List ℕ = c.extend_from_slice.new.self.items in
    let two : List ℕ = c.write_number.new.out.items in
    let three : List ℕ = c.extend_from_slice-2.new.self.items in
    let four : List ℕ = c.append_numbers.new.out.items in
    let last : List ℕ = c.extend_from_slice-3.new.self.items in
    let to_two : two ≡ one ++ state = c.in_ok-write_number.ensures.ok ∙ ap (λ (n : ℕ). one ++ decimal n) c.from.ensures in
    let to_four : four ≡ three ++ stem = c.in_ok-append_numbers.ensures.text ∙ ap (λ (ns : List ℕ). three ++ numbers_text ns) c.as_slice.ensures in
    let a : last ≡ three ++ (stem ++ end) = following three stem end four last to_four c.in_ok-extend_from_slice-3.ensures.items in
    let b : last ≡ two ++ (codes "\nstem" ++ (stem ++ end)) = following two (codes "\nstem") (stem ++ end) three last c.in_ok-extend_from_slice-2.ensures.items a in
    let d : last ≡ one ++ (state ++ (codes "\nstem" ++ (stem ++ end))) = following one state (codes "\nstem" ++ (stem ++ end)) two last to_two b in
    following out (codes "state ") (state ++ (codes "\nstem" ++ (stem ++ end))) one last c.in_ok-extend_from_slice.ensures.items d
