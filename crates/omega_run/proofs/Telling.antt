-- What is written to standard error.
use Rattle.std.proofs.Common.{◌≡◌, ◌++◌, [], ◌∷◌, codes, decimal, refl, ap, ◌∙◌, lit<, lit≤}
use Rattle.std.proofs.lemmas.Fmt.{decimal_digit, decimal_step}
use Rattle.omega_text.specs.declared.refusal.Refusal.TheVariants.{Memory}
use Rattle.omega_io.specs.RefusalLine.{line_of}

-- the line for want of memory, which takes none
pub memory-line : line_of Memory ≡ codes "omega: 60 Memory\n"
memory-line =
    let sixty : decimal 60 ≡ codes "60" =
    decimal_step 60 (lit≤ tt) (lit< tt) ∙ ap (λ ds. ds ++ (48 ∷ [])) (decimal_digit 6 (lit< tt)) in
    rw sixty refl
