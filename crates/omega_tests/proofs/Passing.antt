-- How far a tokenizer has read that has passed bytes.
use Rattle.std.proofs.Common.{◌-◌, ◌≤◌, ℕ, List, ◌++◌, length, take, drop, arith, length-append}
use Rattle.std.proofs.lemmas.List.{length-drop, length-take-le}
use Rattle.omega_text.specs.Lexeme.{Lexeme}
use Rattle.omega_text.specs.declared.hoa.kind.HoaKind.{HoaKind}
use Rattle.omega_text.specs.hoa.Pieces.{HasPassed, Reading}
use Rattle.omega_tests.specs.Read.{HasReadTo}

-- what passes the bytes between two places has read to the second
pub passed_to : (before after : Reading) (bytes : List ℕ) (from to : ℕ) → HasReadTo before from
    → ((seen : List ℕ) (lexemes : List (Lexeme HoaKind)) → before seen lexemes → HasPassed after seen lexemes (take (to - from) (drop from bytes)))
    → from ≤ to → to ≤ length bytes → HasReadTo after to
passed_to before after bytes from to (seen, lexemes, read, at) passes forward within =
    let passed = passes seen lexemes read in (
      seen ++ take (to - from) (drop from bytes),
      lexemes ++ passed.passed,
      passed.read,
      omega (arith, length-append seen (take (to - from) (drop from bytes)), length-take-le (to - from) (drop from bytes) (omega (arith, length-drop from bytes, forward, within)), at, forward, within),
    )
