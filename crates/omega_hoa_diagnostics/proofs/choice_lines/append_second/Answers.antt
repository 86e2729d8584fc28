-- `append_second`: the words, the number and the end are appended one after the other.
use Rattle.std.proofs.Common.{◌≡◌, ℕ, List, ◌++◌, codes, decimal, append_assoc, ap, ◌∙◌}
use Rattle.omega_hoa_diagnostics.proofs.choice_lines.append_second.Goals as goal

appended : (old words number end middle new : List ℕ) → middle ≡ old ++ (words ++ number) → new ≡ middle ++ end → new ≡ old ++ (words ++ (number ++ end))
appended old words number end middle new is more =
    more ∙ ap (λ (xs : List ℕ). xs ++ end) is ∙ append_assoc old (words ++ number) end ∙ ap (λ (xs : List ℕ). old ++ xs) (append_assoc words number end)

pub returns-clause-line : goal.returns-clause-line
returns-clause-line c =
    appended c.args.line.now.items (codes " and ") (decimal c.args.second) (codes " can be taken together\n") c.append.new.line.items c.extend_from_slice.new.self.items
    c.in_ok-append.ensures.line c.in_ok-extend_from_slice.ensures.items
