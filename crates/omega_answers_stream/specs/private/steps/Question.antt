-- What items are answered to one question.
use Rattle.std.specs.Prelude.{List}
use Rattle.omega_hoa.specs.declared.item.Item.{Item}
use Rattle.omega_answers_stream.specs.Asking.{AreAsked}
use Rattle.omega_answers_stream.specs.declared.asked.Asked.{Asked}
use Rattle.omega_answers_stream.specs.declared.item_question.ItemQuestion as question

-- the items are asked this question
abbrev pub AreAskedBy : {Q : Type 0} → question.Ghosts Q → Q → List Item → Asked → Type 0
AreAskedBy asking it items asked = AreAsked (asking.answers it) (asking.refuses it) items asked
