-- What a refusal of formulas is about.
use Rattle.std.specs.Prelude.{Option, None, Some}
use Rattle.omega_text.specs.declared.refusal.Refusal.{Refusal}
use Rattle.omega_text.specs.declared.refusal.Refusal.TheVariants.{Memory}
use Rattle.omega_io.specs.declared.refused.Refused.{Refused}
use Rattle.omega_io.specs.declared.refused.Which.{Which}
use Rattle.omega_io.specs.declared.refused.Which.TheVariants as text
use Rattle.omega_answers_formula.specs.declared.refused_formulas.About.{About}
use Rattle.omega_answers_formula.specs.declared.refused_formulas.About.TheVariants.{Formula, Input, Question}
use Rattle.omega_answers_formula.specs.declared.refused_formulas.RefusedFormulas.{RefusedFormulas}

-- a refusal that is about nothing
abbrev pub about_nothing : Refusal → RefusedFormulas
about_nothing refusal = record { refusal = refusal; about = None }

-- a refusal that is about this; `Memory` is about nothing
abbrev pub refused_about : About → Refusal → RefusedFormulas
refused_about about Memory = about_nothing Memory
refused_about about refusal = record { refusal = refusal; about = Some about }

-- which text is refused, if one is: that of a formula is called that of the file
abbrev pub text_about : Option About → Option Which
text_about None = None
text_about (Some (Formula number)) = Some text.File
text_about (Some Input) = Some text.Input
text_about (Some (Question number)) = None

-- the same refusal without the number of a formula
abbrev pub unnumbered : RefusedFormulas → Refused
unnumbered refused = record { refusal = refused.refusal; text = text_about refused.about }
