-- How the values of this crate are written.
use Rattle.std.specs.Prelude.{ℕ, List, ◌++◌, codes, decimal}
use Rattle.meaning.specs.declared.values.Bound.{Bound}
use Rattle.meaning.specs.declared.values.Bound.TheVariants.{Any, Never, AtLeast, Between}

abbrev pub bound_word : Bound → List ℕ
bound_word Any = codes "any"
bound_word Never = codes "none"
bound_word (AtLeast a) = decimal a ++ codes ".."
bound_word (Between a b) = decimal a ++ (codes ".." ++ decimal b)
