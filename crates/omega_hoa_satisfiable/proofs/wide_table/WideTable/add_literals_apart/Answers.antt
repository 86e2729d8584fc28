-- The cube is added to the words.
use Rattle.std.proofs.Common.{◌≡◌, ℕ, List, ap, arith, length, subst, sym, true≢false, ◌∙◌}
use Rattle.omega_hoa_satisfiable.specs.private.ReadCubes.{IsCubeAdded}
use Rattle.omega_hoa_satisfiable.proofs.CubeWords.{given_back, table-more}
use Rattle.omega_hoa_satisfiable.proofs.wide_table.WideTable.add_literals_apart.Goals as goal

pub add_cube-requires : goal.add_cube-requires
add_cube-requires c = ap length c.as_mut_slice.ensures.value ∙ c.requires.1.counted

pub returns-clause-apart : goal.returns-clause-apart
returns-clause-apart c =
    λ _ one another is low are satisfied.
    true≢false (sym ((c.meets_literals.ensures one another is low are).1 satisfied) ∙ c.if-meets_literals.false)

pub returns-clause-added : goal.returns-clause-added
returns-clause-added c =
    λ _ one another is low are.
    let items = c.args.self.now.words.items in
    let new = c.add_cube.new.words in
    let whole : c.args.self.now.words.len ≡ length new = omega (arith, c.add_cube.ensures.counted, c.as_mut_slice.ensures.len) in
    let back = given_back c.args.self.now.words.len new items whole in
    let added : IsCubeAdded c.args.literals items new =
    subst (λ (old : List ℕ). IsCubeAdded c.args.literals old new) c.as_mut_slice.ensures.value c.add_cube.ensures in
    table-more one another c.args.literals c.args.self.now _ is low are (subst (λ (words : List ℕ). IsCubeAdded c.args.literals items words) (sym back) added)
