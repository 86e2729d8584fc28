-- The token that a text ends with, if no byte of its own has settled it.
use Rattle.std.proofs.Common.{◌≡◌, ℕ, Bool, true, false, Some, List, refl, ap, ◌∙◌}
use Rattle.omega_text.specs.declared.hoa.kind.HoaKind.{HoaKind}
use Rattle.omega_text.specs.declared.hoa.mode.Mode.{Mode}
use Rattle.omega_text.specs.declared.hoa.mode.Mode.TheVariants.{Start, Word, Alias, Digits}
use Rattle.omega_text.specs.declared.hoa.placed.PlacedToken.{PlacedToken}
use Rattle.omega_text.specs.hoa.Laws.{is_closed}
use Rattle.omega_text.specs.private.hoa.scanning.Modes.{run}
use Rattle.omega_text.specs.private.hoa.scanning.Unfinished.{IsTokenIn}
use Rattle.omega_text.proofs.hoa_texts.Laws.{closed_run}
use Rattle.omega_text.proofs.hoa_texts.Read.{unit_read}
use Rattle.omega_text.proofs.hoa_texts.Runs.{answer}

-- a word that may go on is of no kind whose tokens show where they end
word_unclosed : (kind : HoaKind) (begun : List ℕ) (closed : Bool) → is_closed kind ≡ closed → run (Some Start) begun ≡ Some (Word kind) → closed ≡ false
word_unclosed kind begun false is reached = refl
word_unclosed kind begun true is reached =
    let whole = closed_run kind begun is (unit_read begun (Some kind) (ap answer reached)) in
    cc

-- nor is any other unit that may end here and may go on
pub last_unclosed : (mode : Mode) (value start stop : ℕ) (token : PlacedToken) (begun : List ℕ) → run (Some Start) begun ≡ Some mode → IsTokenIn mode value start stop token
    → is_closed token.kind ≡ false
last_unclosed (Word kind) value start stop token begun reached is = ap is_closed is.kind_is ∙ word_unclosed kind begun (is_closed kind) refl reached
last_unclosed Alias value start stop token begun reached is = ap is_closed is.kind_is
last_unclosed Digits value start stop token begun reached is = ap is_closed is.1.kind_is
last_unclosed mode value start stop token begun reached is = absurd is
