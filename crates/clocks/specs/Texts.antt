-- The letters of a name.
use Rattle.std.specs.Prelude.{ℕ, List, take}
use Rattle.clocks.specs.declared.name.Name.{Name}

abbrev pub text : Name → List ℕ
text name = take name.size name.letters
