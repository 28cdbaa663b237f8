-- A line that is taken by the check of its spacing is spaced and ended. Assumes nothing.
use Rattle.std.proofs.Common.{◌≡◌, Bool, true, false, cond, Ok, Err, Result, sym, refl}
use Rattle.rows.proofs.Outcomes.{never-ok}
use Rattle.formats.specs.declared.fault.LineFault.{LineFault}
use Rattle.formats.specs.declared.fault.LineFault.TheVariants.{Spacing}
use Rattle.formats.specs.Walk.{Line, misspaced}

pub spacing-fine : (l : Line) (u : Unit {0}) → ◌≡◌ {A = Result (Unit {0}) LineFault} (Ok u) (cond (misspaced l) (Err Spacing) (Ok tt)) → misspaced l ≡ false
spacing-fine l u h = right (misspaced l) h
  where
    right : (b : Bool) → ◌≡◌ {A = Result (Unit {0}) LineFault} (Ok u) (cond b (Err Spacing) (Ok tt)) → b ≡ false
    right true e = never-ok Spacing u (sym e)
    right false e = refl
