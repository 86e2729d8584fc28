-- `read_text`: what a new reader becomes by a whole text.
use Rattle.std.proofs.Common.{rules}
use Rattle.omega_text.proofs.reading.read_text.Goals as goal

pub returns-then-bytes-gt-MOST_TEXT-clause-refused : goal.returns-then-bytes-gt-MOST_TEXT-clause-refused
returns-then-bytes-gt-MOST_TEXT-clause-refused c = search rules

pub returns-in_err-after-clause-refused : goal.returns-in_err-after-clause-refused
returns-in_err-after-clause-refused c = search rules

pub returns-then-is_complete-clause-read : goal.returns-then-is_complete-clause-read
returns-then-is_complete-clause-read c = search rules

pub returns-else-is_complete-clause-refused : goal.returns-else-is_complete-clause-refused
returns-else-is_complete-clause-refused c = search rules
