-- A token at the front of bytes, as the code keeps it.
use Rattle.omega_ltl_text.specs.Tokens.{Front, front as front_with}
use Rattle.omega_ltl_text.specs.declared.front.Front.{Front as Kept}

-- the token that is kept
abbrev pub front_of : Kept → Front
front_of kept = front_with kept.kind kept.count
