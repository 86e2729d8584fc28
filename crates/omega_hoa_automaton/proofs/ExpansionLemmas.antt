-- The fault from that of aliases on, by what is found of the labels.
use Rattle.std.proofs.Common.{◌≡◌, ℕ, Bool, true, false, cond, ◌||◌, List, Option, Some, None, nat_lt, is_none, sum_by, refl, ap, ◌∙◌, arith}
use Rattle.std.specs.Option.{option_or}
use Rattle.std.proofs.lemmas.Bool.Decides.{nat_tests}
use Rattle.omega_text.specs.declared.refusal.automaton.AutomatonFault.{AutomatonFault}
use Rattle.omega_text.specs.declared.refusal.automaton.AutomatonFault.TheVariants.{Alias, Expansion, TooDeep}
use Rattle.omega_hoa_syntax.specs.declared.raw_state.RawState.{RawState}
use Rattle.omega_hoa_automaton.specs.Faults.{is_deep, is_large, label_total}
use Rattle.omega_hoa_automaton.specs.Limits.{most_total_size}
use Rattle.omega_hoa_automaton.specs.declared.judging.findings.Findings.{Findings}
use Rattle.omega_hoa_automaton.specs.declared.making.definitions.Definitions.{Definitions}
use Rattle.omega_hoa_automaton.specs.private.layout.Findings.{AreFound, capped, labels_pass}
use Rattle.omega_hoa_automaton.specs.private.layout.Order.{fault_found, last_fault}
use Rattle.omega_hoa_automaton.proofs.SoundLemmas.{labels_sound}

-- a size that is counted is over the limit if the size is
capped_over : (size : ℕ) → nat_lt most_total_size (capped size) ≡ nat_lt most_total_size size
capped_over size = grind (arith, nat_tests)

-- the fault, by what is found of the labels
pub last_found : (definitions : Definitions) (states : List RawState) (late : Option AutomatonFault) (acceptance : Bool) (found : Findings)
    → AreFound (λ test. labels_pass test definitions.aliases states) (sum_by (label_total definitions.aliases) states) found
    → fault_found definitions found late acceptance ≡ last_fault definitions states late acceptance
last_found definitions states late acceptance found is =
    parts found.undefined (labels_pass is_none definitions.aliases states) late acceptance definitions.deep found.deep (labels_pass is_deep definitions.aliases states)
    definitions.large found.large (labels_pass is_large definitions.aliases states) is.undefined is.deep is.large
    (λ one two three.
    ap (nat_lt most_total_size) (is.sized (labels_sound definitions.aliases states one two three))
    ∙ capped_over (sum_by (label_total definitions.aliases) states))
  where
    total : ℕ
    total = sum_by (label_total definitions.aliases) states

    parts : (u undefined : Bool) (o : Option AutomatonFault) (a b d deep c l large : Bool) → u ≡ undefined → d ≡ deep → l ≡ large
        → (undefined ≡ false → deep ≡ false → large ≡ false → nat_lt most_total_size found.size ≡ nat_lt most_total_size total)
        → cond u (Some Alias) (option_or o (cond (a || (b || d)) (Some TooDeep) (cond ((c || l) || nat_lt most_total_size found.size) (Some Expansion) None)))
        ≡ cond undefined (Some Alias) (option_or o (cond (a || (b || deep)) (Some TooDeep) (cond ((c || large) || nat_lt most_total_size total) (Some Expansion) None)))
    parts u true o a b d deep c l large e f g same = rw e refl
    parts u false (Some fault) a b d deep c l large e f g same = rw e refl
    parts u false None true b d deep c l large e f g same = rw e refl
    parts u false None false true d deep c l large e f g same = rw e refl
    parts u false None false false d true c l large e f g same = rw (e, f) refl
    parts u false None false false d false true l large e f g same = rw (e, f) refl
    parts u false None false false d false false l true e f g same = rw (e, f, g) refl
    parts u false None false false d false false l false e f g same =
        rw (e, f, g) (ap (λ b. cond b (Some Expansion) None) (same refl refl refl))
