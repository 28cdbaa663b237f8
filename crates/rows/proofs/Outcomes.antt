-- What an Ok result tells of how it came about. Assumes nothing.
use Rattle.std.proofs.Common.{◌≡◌, ℕ, Bool, true, false, cond, Ok, Err, Result, refl, arith}
use Rattle.rows.specs.Rows.{and_then}

pub never-ok : {X E Z : Type 0} (e : E) (x : X) → ◌≡◌ {A = Result X E} (Err e) (Ok x) → Z
never-ok e x h = absurd (let z : ◌≡◌ {A = ℕ} 0 1 = cc in omega arith)

pub same-from-ok : {X E : Type 0} (x y : X) → ◌≡◌ {A = Result X E} (Ok x) (Ok y) → x ≡ y
same-from-ok x y h = cc

pub ok-under : {X E : Type 0} (t : Bool) (x y : X) (e : E) → cond {A = Result X E} t (Ok x) (Err e) ≡ Ok y → (t ≡ true) × (x ≡ y)
ok-under true x y e h = (refl, same-from-ok x y h)
ok-under false x y e h = never-ok e y h

pub ok-after : {X Y E : Type 0} (r : Result X E) (f : X → Result Y E) (y : Y) → and_then r f ≡ Ok y → (x : X) × (r ≡ Ok x) × (f x ≡ Ok y)
ok-after (Ok x) f y h = (x, refl, h)
ok-after (Err e) f y h = never-ok e y h
