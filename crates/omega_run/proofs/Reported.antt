-- The lines for a refusal, with that of its cause.
use Rattle.std.proofs.Common.{◌≡◌, ◌⊎◌, ◌++◌, ℕ, List, [], Result, Ok, Err, IfOk, IfErr, append-nil, inl, inr, refl, subst, sym}
use Rattle.omega_text.specs.declared.refusal.Refusal.{Refusal}
use Rattle.omega_text.specs.declared.refusal.Refusal.TheVariants.{Memory}
use Rattle.omega_io.specs.declared.exit.Exit.{Exit}
use Rattle.omega_io.specs.Exit.{status_of}
use Rattle.omega_io.specs.RefusalLine.{line_of}
use Rattle.omega_run.specs.Report.{IsRefusalReported, ReportsBy, ReportsCause}

-- a cause that is told whole, or not at all, for want of memory
abbrev pub IsToldOf : (cause told : List ℕ) → Type 0
IsToldOf cause told = (told ≡ cause) ⊎ (told ≡ [])

module _ {V : Type 0} (bytes : V → List ℕ) (wanted : Refusal → List ℕ) (refusal : Refusal) (status : ℕ) (Reported : List ℕ → Type 0) where
  -- the lines that were made for a refusal are written, or that there was no memory for them
  pub reports_lines : (lines : Result V Refusal) → IfOk lines (λ made. bytes made ≡ wanted refusal)
      → IfOk lines (λ made. (told : List ℕ) × IsToldOf [] told × IsRefusalReported refusal (bytes made ++ told) status Reported)
      → IfErr lines (λ _. IsRefusalReported Memory (line_of Memory) status Reported)
      → ReportsBy wanted (Err refusal) status Reported
  reports_lines (Ok made) same (told, nothing, reported) wanting = inl (reported.0, subst Reported (none nothing) reported.1)
    where
      none : IsToldOf [] told → bytes made ++ told ≡ wanted refusal
      none (inl e) = rw (e, append-nil (bytes made)) same
      none (inr e) = rw (e, append-nil (bytes made)) same
  reports_lines (Err want) same reported wanting = inr wanting

  -- and so is that of the cause after them, if there is memory for it
  pub reports_cause : (IsReason : Refusal → List ℕ → Type 0) (cause : List ℕ) (lines : Result V Refusal)
      → IsReason refusal cause ⊎ (cause ≡ []) → IfOk lines (λ made. bytes made ≡ wanted refusal)
      → IfOk lines (λ made. (told : List ℕ) × IsToldOf cause told × IsRefusalReported refusal (bytes made ++ told) status Reported)
      → IfErr lines (λ _. IsRefusalReported Memory (line_of Memory) status Reported)
      → ReportsCause wanted IsReason (Err refusal) status Reported
  reports_cause IsReason cause (Ok made) explains same (told, inl whole, reported) wanting = (
    told,
    subst (λ line. IsReason refusal line ⊎ (line ≡ [])) (sym whole) explains,
    inl (reported.0, subst (λ (line : List ℕ). Reported (line ++ told)) same reported.1),
  )
  reports_cause IsReason cause (Ok made) explains same (told, inr nothing, reported) wanting =
      (told, inr nothing, inl (reported.0, subst (λ (line : List ℕ). Reported (line ++ told)) same reported.1))
  reports_cause IsReason cause (Err want) explains same reported wanting = (cause, explains, inr wanting)

-- what is written for an outcome may be stated in other words
reports_as : (lines : Refusal → List ℕ) (outcome : Result Exit Refusal) (status : ℕ) (Reported Others : List ℕ → Type 0)
    → ((text : List ℕ) → Reported text → Others text) → ReportsBy lines outcome status Reported → ReportsBy lines outcome status Others
reports_as lines (Ok exit) status Reported Others wider (ends, reported) = (ends, wider [] reported)
reports_as lines (Err refusal) status Reported Others wider (inl reported) = inl (reported.0, wider (lines refusal) reported.1)
reports_as lines (Err refusal) status Reported Others wider (inr reported) = inr (reported.0, wider (line_of Memory) reported.1)

pub reports_after : (lines : Refusal → List ℕ) (IsReason : Refusal → List ℕ → Type 0) (outcome : Result Exit Refusal) (status : ℕ)
    (Reported Others : List ℕ → Type 0) → ((text : List ℕ) → Reported text → Others text)
    → ReportsCause lines IsReason outcome status Reported → ReportsCause lines IsReason outcome status Others
reports_after lines IsReason outcome status Reported Others wider (cause, explains, reported) =
    (cause, explains, reports_as (λ refusal. lines refusal ++ cause) outcome status Reported Others wider reported)

-- if anything may be written, the status alone counts
pub reports_any : (lines : Refusal → List ℕ) (IsReason : Refusal → List ℕ → Type 0) (outcome : Result Exit Refusal) (status : ℕ)
    (Reported : List ℕ → Type 0) → status ≡ status_of outcome → ((text : List ℕ) → Reported text)
    → ReportsCause lines IsReason outcome status Reported
reports_any lines IsReason (Ok exit) status Reported ends all = ([], refl, (ends, all []))
reports_any lines IsReason (Err refusal) status Reported ends all = ([], inr refl, inl (ends, all (lines refusal ++ [])))
