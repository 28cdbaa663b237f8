-- Names are the same if their letters are. Assumes nothing.
use Rattle.std.specs.Cmp.{IsEquivalence}
use Rattle.std.proofs.lemmas.Cmp.{on_equiv, nat_list_eq_equiv}
use Rattle.std.specs.Str.{bytes_eq}
use Rattle.clocks.specs.declared.name.Name.{Name}
use Rattle.clocks.specs.Texts.{text}

pub names-equal : IsEquivalence (λ (a b : Name). bytes_eq (text a) (text b))
names-equal = on_equiv text nat_list_eq_equiv
