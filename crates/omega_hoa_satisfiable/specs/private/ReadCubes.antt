-- Cubes, which are conjunctions of literals, as they are read from the last node to the first.
use Rattle.std.specs.Prelude.{◌≡◌, ◌⊎◌, ◌↔◌, ℕ, ◌+◌, ◌-◌, ◌/◌, ◌%◌, ◌^◌, ◌<◌, ◌==◌, ◌||◌, Bool, true, false, nat_le, nat_lt}
use Rattle.std.specs.Prelude.{bit_or, get_or, if◌then◌else◌, Option, None, Some, List, [], ◌∷◌, length}
use Rattle.omega_hoa_label.specs.Label.{LabelTree, truth}
use Rattle.omega_hoa_label.specs.declared.label.LabelNode.{LabelNode}
use Rattle.omega_hoa_label.specs.declared.label.LabelNode.TheVariants.{Alias, And, Constant, Group}
use Rattle.omega_hoa_label.specs.declared.label.LabelNode.TheVariants.{Not, Or, Proposition}
use Rattle.omega_hoa_satisfiable.specs.Literals.{FailAt, HoldAt}
use Rattle.omega_hoa_satisfiable.specs.Tables.{valuation}
use Rattle.omega_hoa_satisfiable.specs.declared.cube_reader.CubeReader.{CubeReader}
use Rattle.omega_hoa_satisfiable.specs.declared.cube_reader.ReadNode.{ReadNode}
use Rattle.omega_hoa_satisfiable.specs.declared.cube_reader.ReadNode.TheVariants.{Cube, End}
use Rattle.omega_hoa_satisfiable.specs.declared.literals.Literals.{Literals}

-- the most parts of a cube that wait to be read
abbrev pub most_wanted : ℕ
most_wanted = 65536

-- no literals
abbrev pub no_literals : Literals
no_literals = record { held = 0; unheld = 0 }

-- no node of a cube was read
abbrev pub no_cube : CubeReader
no_cube = record { literals = no_literals; wanted = 0; negated = false }

-- literals, and a proposition more; it is not to hold if it is negated
abbrev pub with_literal : Literals → Bool → ℕ → Literals
with_literal literals true number =
    record { held = literals.held; unheld = bit_or literals.unheld (2 ^ number) }
with_literal literals false number =
    record { held = bit_or literals.held (2 ^ number); unheld = literals.unheld }

-- a part was read, which was one of so many that are wanted, and these are the literals then
abbrev pub with_part : ℕ → Literals → ReadNode
with_part wanted literals = if nat_le wanted 1 then Cube literals
    else End (record { literals = literals; wanted = wanted - 1; negated = false })

-- so many parts are wanted, of which the next may be negated
abbrev pub wanting : Literals → ℕ → Bool → ReadNode
wanting literals wanted negated =
    End (record { literals = literals; wanted = wanted; negated = negated })

-- what is read with the node before, if that belongs to a cube or joins two of them
abbrev pub before_node : CubeReader → LabelNode → Option ReadNode
before_node reader (Proposition number) = if nat_lt number 64
    then Some (with_part reader.wanted (with_literal reader.literals reader.negated number)) else None
before_node reader (Constant true) =
    if reader.negated then None else Some (with_part reader.wanted reader.literals)
before_node reader And = if reader.negated || nat_le most_wanted reader.wanted then None
    else Some (wanting reader.literals (reader.wanted - 1 + 2) false)
before_node reader Not =
    if reader.negated then None else Some (wanting reader.literals (reader.wanted - 1 + 1) true)
before_node reader Or = if reader.wanted == 0 then Some (End reader) else None
before_node reader (Constant false) = None
before_node reader (Alias count) = None
before_node reader Group = None

-- the reader, and the cubes that it has read, the last first
pub record ReadCubes : Type 0 where
  pub reader : CubeReader
  pub cubes : List Literals

-- with what is read of a node
abbrev pub with_read : Option ReadNode → List Literals → Option ReadCubes
with_read None cubes = None
with_read (Some (End reader)) cubes = Some (record { reader = reader; cubes = cubes })
with_read (Some (Cube literals)) cubes = Some (record { reader = no_cube; cubes = literals ∷ cubes })

-- with the node before
abbrev pub with_before : Option ReadCubes → LabelNode → Option ReadCubes
with_before None node = None
with_before (Some read) node = with_read (before_node read.reader node) read.cubes

-- with all nodes of a list, from the last on
abbrev pub read_back : Option ReadCubes → List LabelNode → Option ReadCubes
read_back read [] = read
read_back read (node ∷ nodes) = with_before (read_back read nodes) node

-- nothing was read
abbrev pub nothing_read : Option ReadCubes
nothing_read = Some (record { reader = no_cube; cubes = [] })

-- at a letter all literals hold
abbrev pub AreMetAt : Literals → (ℕ → Bool) → Type 0
AreMetAt literals letter = HoldAt literals.held letter × FailAt literals.unheld letter

-- at a letter all literals of some cube hold
abbrev pub IsAnyMetAt : List Literals → (ℕ → Bool) → Type 0
IsAnyMetAt [] letter = ⊥
IsAnyMetAt (cube ∷ cubes) letter = AreMetAt cube letter ⊎ IsAnyMetAt cubes letter

-- the words have a bit for each valuation of the first twelve propositions at which some cube is met, and no other
pub record AreWordsOf (cubes : List Literals) (words : List ℕ) : Type 0 where
  pub counted : length words ≡ 64
  pub met : (number : ℕ) → number < 4096
      → (valuation (get_or words (number / 64) 0) (number % 64) ≡ true) ↔ IsAnyMetAt cubes (valuation number)

-- the words are those of the cubes that are read of nodes
abbrev pub AreReadWords : List LabelNode → List ℕ → Type 0
AreReadWords nodes words = (reader : CubeReader) × ((cubes : List Literals)
    × (read_back nothing_read nodes ≡ Some (record { reader = reader; cubes = cubes }))
    × AreWordsOf cubes words)

-- the words have a bit for each valuation of the first twelve propositions, which says whether the label is true there
pub record AreTrueWords (tree : LabelTree) (words : List ℕ) : Type 0 where
  pub counted : length words ≡ 64
  pub agrees : (number : ℕ) → number < 4096
      → valuation (get_or words (number / 64) 0) (number % 64) ≡ truth (valuation number) tree

-- the new words have besides the bits of the old ones those of the valuations at which all literals hold
pub record IsCubeAdded (literals : Literals) (old new : List ℕ) : Type 0 where
  pub counted : length new ≡ length old
  pub met : (number : ℕ) → number < 4096 → (valuation (get_or new (number / 64) 0) (number % 64) ≡ true)
      ↔ (AreMetAt literals (valuation number) ⊎ (valuation (get_or old (number / 64) 0) (number % 64) ≡ true))
